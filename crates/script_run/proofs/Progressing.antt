-- What polls of clients leave, one after another.
use Rattle.std.proofs.Common.{◌≡◌, ℕ, ◌+◌, ◌<◌, inl, inr, arith, sym, ap, ◌∙◌, subst}
use Rattle.std.proofs.lemmas.Bool.{cases_lt}
use Rattle.core_proxy.specs.Polls.{Polls, IsWhy, IsBusy, NoCommandGoesOn, IsStalled}
use Rattle.core_proxy.specs.declared.note.Poll.{Poll}
use Rattle.core_proxy.specs.declared.proxy.Core.{Core}
use Rattle.script_run.specs.Progressing.{both_gave, TakesSo, LeavesSo, AreStillBelow}
use Rattle.script_run.specs.Running.{ClientIsIdle, AllAreIdle, AreStalled}
use Rattle.script_run.specs.declared.driver.runner.Progress.{Progress}
use Rattle.script_run.specs.declared.driver.runner.Progress.TheVariants.{Idle, Waits, Moved}
use Rattle.script_run.specs.declared.driver.runner.Runner.{Runner}

-- who is busy is stalled
busy_is_stalled : (core : Core) (client : ℕ) → NoCommandGoesOn core client → IsBusy core client → IsStalled core client
busy_is_stalled core client held (inl full) = inr (held, inl full.1)
busy_is_stalled core client held (inr no_key) = inr (held, inr no_key)

-- a poll that did nothing changed nothing, and tells why
pub left_so : (progress : Progress) (client : ℕ) (poll : Poll) (a b : Runner) (x : Core) → Polls a.core client poll x → TakesSo poll progress (record a { core = x }) b → LeavesSo progress client a b
left_so Idle client poll a b x step h =
    let why = subst (λ p. IsWhy a.core client p x) h.0 step.why in
    (h.1 ∙ ap (λ (y : Core). record a { core = y }) why.0, why.1)
left_so Waits client poll a b x step (inl waiting, same) =
    let why = subst (λ p. IsWhy a.core client p x) waiting step.why in
    (same ∙ ap (λ (y : Core). record a { core = y }) why.0, inr (why.1, inl why.2))
left_so Waits client poll a b x step (inr busy, same) =
    let why = subst (λ p. IsWhy a.core client p x) busy step.why in
    (same ∙ ap (λ (y : Core). record a { core = y }) why.0, busy_is_stalled a.core client why.1 why.2)
left_so Moved client poll a b x step h = tt

-- what holds of so many clients, and of the next one, holds of one more
next_too : (Holds : Core → ℕ → Type 0) (client : ℕ) (a b : Runner) → ((c : ℕ) → c < client → Holds a.core c) → Holds a.core client → b ≡ a → (c : ℕ) → c < client + 1 → Holds b.core c
next_too Holds client a b before now same c lt =
    subst (λ (r : Runner). Holds r.core c) (sym same)
    (elim (cases_lt c client) [
      | inl less ↦ before c less
      | inr le ↦ subst (λ (n : ℕ). Holds a.core n) (omega (arith, le, lt)) now
    ])

pub one_more : (progress next : Progress) (client : ℕ) (a b : Runner) → AreStillBelow progress client a.core → LeavesSo next client a b → AreStillBelow (both_gave progress next) (client + 1) b.core
one_more Idle Idle client a b before now = next_too ClientIsIdle client a b before now.1 now.0
one_more Idle Waits client a b before now = next_too IsStalled client a b (λ c lt. inl (before c lt)) now.1 now.0
one_more Idle Moved client a b before now = tt
one_more Waits Idle client a b before now = next_too IsStalled client a b before (inl now.1) now.0
one_more Waits Waits client a b before now = next_too IsStalled client a b before now.1 now.0
one_more Waits Moved client a b before now = tt
one_more Moved next client a b before now = tt

-- who is idle is stalled
pub idle_are_stalled : (runner : Runner) → AllAreIdle runner → AreStalled runner
idle_are_stalled runner idle c lt = inl (idle c lt)
