-- What callers of `Clients::get_mut` know of all clients, once the loan has ended.
use Rattle.std.proofs.Common.{◌≡◌, ◌≢◌, ◌⊎◌, inl, inr, ℕ, Bool, List, Option, Some, length, length-set, refl, sym, ap, ◌∙◌, subst}
use Rattle.std.proofs.lemmas.Bool.{cases_eq}
use Rattle.std.specs.Prelude.{OnSome, slice_set}
use Rattle.std.specs.Option.{option_map}
use Rattle.serve_wire.specs.Events.{WireEvent}
use Rattle.serve_clients.specs.declared.clients.Client.{Client}
use Rattle.serve_clients.specs.declared.clients.Clients.{Clients}
use Rattle.serve_clients.specs.Marks.{client_of}
use Rattle.serve_clients.specs.Agrees.{end_said_of, KeepsEnds}
use Rattle.serve_clients.specs.Lending.{with_client_at}
use Rattle.serve_links.specs.declared.link.Link.{Link}
use Rattle.serve_proxy.specs.Ends.{EndsStay}
use Rattle.serve_proxy.proofs.Staying.{quiet}
use Rattle.serve_clients.proofs.Marked.{kept, changed}

-- of an option that is there
pub on_some : {A : Type 0} (r : Option A) (x : A) (P : Type 0) → r ≡ Some x → OnSome r P → P
on_some r x P is p = subst (λ o. OnSome o P) is p

-- the others stand where they stood
pub lent_others : (s n : Clients) (id k : ℕ) (y : Client) → k ≢ id → n ≡ with_client_at s id y → client_of n k ≡ client_of s k
lent_others s n id k y other is = kept s.all.items n.all.items id k (Some y) other (ap (λ (c : Clients). c.all.items) is)

-- and the one that was lent stands there as the borrower left it
pub lent_here : (s n : Clients) (id : ℕ) (x y : Client) → client_of s id ≡ Some x → n ≡ with_client_at s id y → client_of n id ≡ Some y
lent_here s n id x y was is =
    changed (λ z. y) s.all.items n.all.items id (ap (λ (c : Clients). c.all.items) is ∙ ap (λ o. slice_set s.all.items id (option_map (λ (z : Client). y) o)) (sym was)) ∙ ap (option_map (λ (z : Client). y)) was

-- and there are as many places
pub lent_places : (s n : Clients) (id : ℕ) (y : Client) → n ≡ with_client_at s id y → length n.all.items ≡ length s.all.items
lent_places s n id y is = ap (λ (c : Clients). length c.all.items) is ∙ length-set s.all.items id (Some y)

-- where its end is the one that it had, all have the ends that they had
pub lent_keeps : (s n : Clients) (id : ℕ) (x y : Client) → client_of s id ≡ Some x → end_said_of y ≡ end_said_of x → n ≡ with_client_at s id y → KeepsEnds s n
lent_keeps s n id x y was same is k = by_place (cases_eq k id)
  where
    by_place : (k ≡ id) ⊎ (k ≢ id) → option_map end_said_of (client_of n k) ≡ option_map end_said_of (client_of s k)
    by_place (inl here) =
        subst (λ j. option_map end_said_of (client_of n j) ≡ option_map end_said_of (client_of s j)) (sym here)
        (ap (option_map end_said_of) (lent_here s n id x y was is) ∙ ap (λ (e : ℕ × List ℕ × List ℕ × Bool × Bool). Some e) same ∙ sym (ap (option_map end_said_of) was))
    by_place (inr other) = ap (option_map end_said_of) (lent_others s n id k y other is)

-- so all ends are as they were
pub stay_lent :
    {h : List WireEvent} {ls : List Link} (s n : Clients) (id : ℕ) (x y : Client) → client_of s id ≡ Some x → end_said_of y ≡ end_said_of x → n ≡ with_client_at s id y → EndsStay h h s n ls ls
stay_lent {h} {ls} s n id x y was same is = record { quiet = quiet h; clients = lent_keeps s n id x y was same is; links = refl }
