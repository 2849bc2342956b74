-- What is counted of the call that was settled.
use Rattle.std.proofs.Common.{◌≡◌, ℕ, ◌-◌, List, [], ◌∷◌, Option, Some, None, refl, sym, ap}
use Rattle.mc_types.specs.declared.answer.Answer.{Answer}
use Rattle.mc_types.specs.declared.call.Outcome.{Outcome}
use Rattle.mc_types.specs.declared.call.Outcome.TheVariants.{Answered}
use Rattle.core_accepted.specs.declared.served.ServedCore.{ServedCore}
use Rattle.serve_links.specs.declared.calls.times.CallTimes.{CallTimes}
use Rattle.serve_links.specs.declared.calls.calls.SentCall.{SentCall}
use Rattle.serve_links.specs.Calls.{SettlesFirst}
use Rattle.serve_links.specs.Counting.{took, with_answer, with_call_outcome, with_first, with_outcome_error, with_first_error}

pub took_first : (old new : List ℕ) (went came : ℕ) → old ≡ went ∷ new → came - went ≡ took old came
took_first old new went came e = sym (ap (λ xs. took xs came) e)

pub took_none : (old : List ℕ) (came : ℕ) → old ≡ [] → 0 ≡ took old came
took_none old came e = sym (ap (λ xs. took xs came) e)

pub counts_first : (old new : List SentCall) (call : SentCall) (outcome : Outcome) (times : CallTimes) → old ≡ call ∷ new → with_call_outcome outcome times ≡ with_first old outcome times
counts_first old new call outcome times e = sym (ap (λ xs. with_first xs outcome times) e)

pub counts_none : (old : List SentCall) (outcome : Outcome) (times : CallTimes) → old ≡ [] → times.tally ≡ with_first old outcome times
counts_none old outcome times e = sym (ap (λ xs. with_first xs outcome times) e)

pub error_first : (old new : List SentCall) (call : SentCall) (outcome : Outcome) (errors : ℕ) → old ≡ call ∷ new → with_outcome_error outcome errors ≡ with_first_error old outcome errors
error_first old new call outcome errors e = sym (ap (λ xs. with_first_error xs outcome errors) e)

pub error_none : (old : List SentCall) (outcome : Outcome) (errors : ℕ) → old ≡ [] → errors ≡ with_first_error old outcome errors
error_none old outcome errors e = sym (ap (λ xs. with_first_error xs outcome errors) e)

-- the call that was answered is the first of those that were out
pub counts_answered :
    (sent : List SentCall) (core : ServedCore) (answer : Answer) (client : ℕ) (sent' : List SentCall) (core' : ServedCore) (times : CallTimes) →
    SettlesFirst sent core (Answered answer) (Some client) sent' core' → with_first sent (Answered answer) times ≡ with_answer (took times.went.items times.came) times.tally
counts_answered [] core answer client sent' core' times is = absurd (some_none client is.0)
  where
    some_none : (n : ℕ) → ◌≡◌ {A = Option ℕ} (Some n) None → ⊥
    some_none n e = cc
counts_answered (call ∷ rest) core answer client sent' core' times is = refl
