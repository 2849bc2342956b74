-- How many calls are out.
use Rattle.std.proofs.Common.{◌≡◌, ℕ, zero, suc, ◌+◌, ◌<◌, ◌≤◌, List, [], ◌∷◌, length, drop, get_or, refl, sym, ap, ◌∙◌, drop-cons, add-one, nat_eq, arith}
use Rattle.std.specs.Prelude.{IsTrue, ◌↔◌, false}
use Rattle.serve_links.specs.declared.link.Link.{Link}
use Rattle.serve_links.specs.Links.{calls_out}

pub out_at :
    (links : List Link) (i : ℕ) (link : Link) → i < length links → link ≡ get_or links i link
    → calls_out (drop i links) ≡ length link.calls.sent.items + length link.waiting + calls_out (drop (i + 1) links)
out_at links i link h e =
    rw add-one (ap calls_out (drop-cons links i link h) ∙ ap (λ (x : Link). length x.calls.sent.items + length x.waiting + calls_out (drop (suc i) links)) (sym e))

pub out_end : (links : List Link) (i : ℕ) → length links ≤ i → calls_out (drop i links) ≡ 0
out_end [] zero h = refl
out_end [] (suc i) h = refl
out_end (link ∷ links) zero h = absurd (omega arith)
out_end (link ∷ links) (suc i) h = out_end links i (omega arith)

pub none_left : (out left calls : ℕ) → out + left ≡ calls → IsTrue (nat_eq left 0) ↔ (out ≡ calls)
none_left out left calls e = grind arith

pub no_truth : IsTrue false → ⊥
no_truth f = grind arith
