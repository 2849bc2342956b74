-- Calls of a link that fail, one after another.
use Rattle.std.proofs.Common.{◌≡◌, ℕ, zero, suc, ◌+◌, List, [], ◌∷◌, ◌++◌, length, Option, Some, None, Result, Ok, Err, refl, sym, ap, ◌∙◌, subst, append_assoc, arith}
use Rattle.std.proofs.Math.ListN.{set}
use Rattle.std.specs.Prelude.{OnOk, IfSome, slice_get}
use Rattle.mc_types.specs.declared.call.Outcome.TheVariants.{Failed}
use Rattle.core_accepted.specs.declared.served.ServedCore.{ServedCore}
use Rattle.serve_links.specs.declared.calls.calls.SentCall.{SentCall}
use Rattle.core_accepted.specs.Results.{IsSettled}
use Rattle.serve_links.specs.Calls.{SettlesFirst}
use Rattle.serve_links.specs.declared.link.Link.{Link}
use Rattle.serve_links.specs.Links.{AllFail, FailsTo}

pub all_then : (xs ys : List SentCall) (a b c : ServedCore) → AllFail xs a b → AllFail ys b c → AllFail (xs ++ ys) a c
all_then [] ys a b c f g = subst (λ x. AllFail ys x c) f g
all_then (call ∷ xs) ys a b c f g = (f.0, f.1, all_then xs ys f.0 b c f.2 g)

-- the first has failed, and then the others
pub first_then : (sent : List SentCall) (client : ℕ) (sent' : List SentCall) (a b c : ServedCore) → SettlesFirst sent a Failed (Some client) sent' b → AllFail sent' b c → AllFail sent a c
first_then [] client sent' a b c is g = let e = is.0 in absurd (some_none client e)
  where
    some_none : (n : ℕ) → ◌≡◌ {A = Option ℕ} (Some n) None → ⊥
    some_none n e = cc
first_then (call ∷ rest) client sent' a b c is g = (b, is.2, subst (λ xs. AllFail xs b c) is.1 g)

pub one_less : (sent : List SentCall) (client : ℕ) (sent' : List SentCall) (a b : ServedCore) → SettlesFirst sent a Failed (Some client) sent' b → length sent ≡ length sent' + 1
one_less [] client sent' a b is = absurd (some_none client is.0)
  where
    some_none : (n : ℕ) → ◌≡◌ {A = Option ℕ} (Some n) None → ⊥
    some_none n e = cc
one_less (call ∷ rest) client sent' a b is = let e = ap length is.1 in omega arith

-- none was there
pub none_left : (sent sent' : List SentCall) (a b : ServedCore) → SettlesFirst sent a Failed None sent' b → (sent' ≡ []) × AllFail sent a b
none_left [] sent' a b is = (is.1, is.2)
none_left (call ∷ rest) sent' a b is = absurd (none_some call.client is.0)
  where
    none_some : (n : ℕ) → ◌≡◌ {A = Option ℕ} None (Some n) → ⊥
    none_some n e = cc

pub is_none : (sent : List SentCall) → length sent ≡ 0 → sent ≡ []
is_none [] e = refl
is_none (call ∷ rest) e = absurd (omega arith)

-- no call is left: all that were there have failed
pub all_by_none : (sent : List SentCall) (a : ServedCore) → sent ≡ [] → AllFail sent a a
all_by_none sent a e = subst (λ xs. AllFail xs a a) (sym e) refl

-- of calls that wait the first has failed
pub waiting_then : (waiting : List SentCall) (call : SentCall) (rest : List SentCall) (a b c : ServedCore) → waiting ≡ call ∷ rest → IsSettled a call.ticket.number Failed b → AllFail rest b c → AllFail waiting a c
waiting_then waiting call rest a b c e is g = subst (λ xs. AllFail xs a c) (sym e) (b, is, g)

-- one more of those that were sent has failed
pub one_failed :
    (calls sent : List SentCall) (client : ℕ) (sent' : List SentCall) (a b c : ServedCore) → FailsTo calls sent a b → SettlesFirst sent b Failed (Some client) sent' c → FailsTo calls sent' a c
one_failed calls [] client sent' a b c f is = absurd (some_none client is.0)
  where
    some_none : (n : ℕ) → ◌≡◌ {A = Option ℕ} (Some n) None → ⊥
    some_none n e = cc
one_failed calls (call ∷ rest) client sent' a b c f is =
    (f.0 ++ call ∷ [], f.1 ∙ ap (λ l. f.0 ++ call ∷ l) (sym is.1) ∙ sym (append_assoc f.0 (call ∷ []) sent'), all_then f.0 (call ∷ []) a b c f.2 (c, is.2, refl))

-- or of those that wait
pub one_waiting_failed :
    (calls waiting rest : List SentCall) (call : SentCall) (a b c : ServedCore) → FailsTo calls waiting a b → waiting ≡ call ∷ rest → IsSettled b call.ticket.number Failed c → FailsTo calls rest a c
one_waiting_failed calls waiting rest call a b c f is settled =
    (f.0 ++ call ∷ [], f.1 ∙ ap (λ l. f.0 ++ l) is ∙ sym (append_assoc f.0 (call ∷ []) rest), all_then f.0 (call ∷ []) a b c f.2 (c, settled, refl))

pub none_failed : (calls : List SentCall) (a : ServedCore) → FailsTo calls calls a a
none_failed calls a = ([], refl, refl)

-- of a result that came
pub on_ok : {A E : Type 0} (r : Result A E) (P Q : Type 0) → (P → Q) → OnOk r P → OnOk r Q
on_ok (Ok a) P Q f p = f p
on_ok (Err e) P Q f p = tt

-- what holds of a link that was put in its place
pub at_set : (P : Link → Type 0) (links : List Link) (at : ℕ) (link : Link) → P link → IfSome (slice_get (set links at link) at) P
at_set P [] at link p = tt
at_set P (first ∷ links) zero link p = p
at_set P (first ∷ links) (suc at) link p = at_set P links at link p
