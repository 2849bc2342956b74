-- Who is broken off as it has stalled.
use Rattle.std.proofs.Common.{◌≡◌, ◌≢◌, ◌⊎◌, inl, inr, ℕ, Some, refl, sym, ap, subst}
use Rattle.std.proofs.lemmas.Bool.{cases_eq}
use Rattle.std.specs.Prelude.{IfSome}
use Rattle.std.specs.Option.{option_map}
use Rattle.serve_clients.specs.declared.clients.Client.{Client}
use Rattle.serve_clients.specs.declared.clients.Clients.{Clients}
use Rattle.serve_clients.specs.Marks.{client_of, AreAlike}
use Rattle.serve_clients.specs.Agrees.{end_said_of, KeepsEnds}
use Rattle.serve_clients.specs.Lending.{with_client_at}
use Rattle.serve_clients.proofs.Agreeing.{keeps_alike}
use Rattle.serve_proxy.specs.declared.stalls.Stalls.{Stalls}
use Rattle.serve_proxy.specs.Stalls.{since_of, HasStalled, OnlyStalled}
use Rattle.serve_proxy.proofs.Lent.{lent_keeps, lent_others}

-- nobody is
only_if_kept : (now : ℕ) (stalls : Stalls) (s n : Clients) → KeepsEnds s n → OnlyStalled now stalls s n
only_if_kept now stalls s n keeps id = inl (keeps id)

pub only_none : (now : ℕ) (stalls : Stalls) (s n : Clients) → AreAlike s n → OnlyStalled now stalls s n
only_none now stalls s n alike = only_if_kept now stalls s n (keeps_alike s n alike)

pub only_kept : (now : ℕ) (stalls : Stalls) (s n : Clients) (id : ℕ) (x : Client) → client_of s id ≡ Some x → n ≡ with_client_at s id x → OnlyStalled now stalls s n
only_kept now stalls s n id x was is = only_if_kept now stalls s n (lent_keeps s n id x x was refl is)

-- one is, who has
pub only_one :
    (now : ℕ) (stalls : Stalls) (s n : Clients) (id : ℕ) (x y : Client) → client_of s id ≡ Some x → n ≡ with_client_at s id y → HasStalled stalls.ms now (since_of stalls id) x → OnlyStalled now stalls s n
only_one now stalls s n id x y was is stalled k = by_place (cases_eq k id)
  where
    by_place : (k ≡ id) ⊎ (k ≢ id) → (option_map end_said_of (client_of n k) ≡ option_map end_said_of (client_of s k)) ⊎ IfSome (client_of s k) (HasStalled stalls.ms now (since_of stalls k))
    by_place (inl here) =
        inr (subst (λ j. IfSome (client_of s j) (HasStalled stalls.ms now (since_of stalls j))) (sym here) (subst (λ o. IfSome o (HasStalled stalls.ms now (since_of stalls id))) (sym was) stalled))
    by_place (inr other) = inl (ap (option_map end_said_of) (lent_others s n id k y other is))
