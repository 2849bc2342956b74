-- The least server at which a call is out, call by call.
use Rattle.std.proofs.Common.{◌≡◌, ◌⊎◌, inl, inr, ℕ, ◌+◌, ◌<◌, ◌≤◌, List, [], ◌∷◌, ◌++◌, length, take, get_or, Option, Some, None, sym, ap, ◌∙◌, subst, arith}
use Rattle.std.proofs.lemmas.List.{take_more}
use Rattle.std.proofs.lemmas.List.Elements.{All-nil, All-push, All-same, All-weaker}
use Rattle.core_commands.specs.declared.ticket.Ticket.{Ticket}
use Rattle.script_run.specs.Turns.{IsOutAt, IsLeast, IsLesser}

out_more : (server : ℕ) (xs ys : List Ticket) → IsOutAt server xs → IsOutAt server (xs ++ ys)
out_more server [] ys out = absurd out
out_more server (x ∷ xs) ys (inl e) = inl e
out_more server (x ∷ xs) ys (inr out) = inr (out_more server xs ys out)

out_last : (server : ℕ) (xs : List Ticket) (t : Ticket) → t.server ≡ server → IsOutAt server (xs ++ t ∷ [])
out_last server [] t e = inl e
out_last server (x ∷ xs) t e = inr (out_last server xs t e)

some_is : (a b : ℕ) → Some a ≡ Some b → a ≡ b
some_is a b e = cc

none_some : (a : ℕ) → None ≡ Some a → ⊥
none_some a e = cc

least_more : (one : Option ℕ) (xs : List Ticket) (t : Ticket) (server : ℕ) → IsLeast one xs → IsLesser one t.server server → IsLeast (Some server) (xs ++ t ∷ [])
least_more None xs t server none l = (
  by l.is,
  All-push (λ (x : Ticket). server ≤ x.server) xs t (All-same (λ (x : Ticket). server ≤ x.server) xs [] none (All-nil (λ (x : Ticket). server ≤ x.server))) l.within,
)
  where
    by : (server ≡ t.server) ⊎ (None ≡ Some server) → IsOutAt server (xs ++ t ∷ [])
    by (inl e) = out_last server xs t (sym e)
    by (inr e) = absurd (none_some server e)
least_more (Some s) xs t server least l = (
  by l.is,
  All-push (λ (x : Ticket). server ≤ x.server) xs t (All-weaker (λ (x : Ticket). s ≤ x.server) (λ (x : Ticket). server ≤ x.server) (λ x le. let below = l.below in omega (arith, le, below)) xs least.1) l.within,
)
  where
    by : (server ≡ t.server) ⊎ (Some s ≡ Some server) → IsOutAt server (xs ++ t ∷ [])
    by (inl e) = out_last server xs t (sym e)
    by (inr e) = subst (λ (n : ℕ). IsOutAt n (xs ++ t ∷ [])) (some_is s server e) (out_more s xs (t ∷ []) least.0)

-- one call more of those that are out
pub least_taken : (one : Option ℕ) (xs : List Ticket) (i : ℕ) (t : Ticket) (server : ℕ) → i < length xs → t ≡ get_or xs i t → IsLeast one (take i xs) → IsLesser one t.server server → IsLeast (Some server) (take (i + 1) xs)
least_taken one xs i t server lt is least l =
    subst (λ (ts : List Ticket). IsLeast (Some server) ts) (sym (take_more xs i t lt ∙ ap (λ (x : Ticket). take i xs ++ x ∷ []) (sym is))) (least_more one (take i xs) t server least l)
