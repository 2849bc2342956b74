-- Links that are added.
use Rattle.std.proofs.Common.{◌≡◌, Bool, List, [], ◌∷◌, ◌++◌, sym, ap, ◌∙◌, subst, append-nil, append_assoc}
use Rattle.route_tree.specs.Each.{Each}
use Rattle.serve_links.specs.declared.link.Link.{Link}
use Rattle.serve_proxy.specs.Emptying.{AddsEach}

pub adds_no : (b : Bool) (old new : List Link) → new ≡ old → AddsEach b old new
adds_no b old new same = ([], same ∙ sym (append-nil old), tt)

pub adds_it : (b : Bool) (old new : List Link) (link : Link) → new ≡ old ++ link ∷ [] → link.flushes ≡ b → AddsEach b old new
adds_it b old new link more is = (link ∷ [], more, (is, tt))

each_both : (P : Link → Type 0) (xs ys : List Link) → Each P xs → Each P ys → Each P (xs ++ ys)
each_both P [] ys of more = more
each_both P (x ∷ xs) ys of more = (of.0, each_both P xs ys of.1 more)

-- one after another
pub adds_on : (b c : Bool) (old mid new : List Link) → c ≡ b → AddsEach b old mid → AddsEach c mid new → AddsEach b old new
adds_on b c old mid new same first next =
    let then : AddsEach b mid new = subst (λ (x : Bool). AddsEach x mid new) same next in
    (first.0 ++ then.0, then.1 ∙ ap (λ l. l ++ then.0) first.1 ∙ append_assoc old first.0 then.0, each_both (λ link. link.flushes ≡ b) first.0 then.0 first.2 then.2)
