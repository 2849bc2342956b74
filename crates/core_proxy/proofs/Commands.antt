-- Commands by number, and what may still come of them.
use Rattle.std.proofs.Common.{◌≡◌, ◌↔◌, ℕ, true, false, cond, List, [], ◌∷◌, ◌++◌, Option, Some, refl, sym, ap, ◌∙◌, subst, append_assoc, nat_eq}
use Rattle.std.proofs.lemmas.Bool.{eqb-true}
use Rattle.mc_types.specs.declared.call.Origin.TheVariants.{Client as OfClient}
use Rattle.mc_types.specs.declared.call.Outcome.{Outcome}
use Rattle.fresh_runs.specs.Calls.{Call}
use Rattle.fresh_runs.specs.Fleet.{AreOn}
use Rattle.fresh_runs.specs.Single.{FitsOutcome}
use Rattle.route_tree.specs.Plan.{Plan}
use Rattle.route_tree.specs.Word.{Given, PlanWord}
use Rattle.route_tree.proofs.Going.{each_outcome_goes_on}
use Rattle.route_tree.proofs.Servers.{calls_stay}
use Rattle.route_job.specs.Rest.{ask_under}
use Rattle.route_job.specs.Jobs.{Comes, IsCall, IsCalling, call_of}
use Rattle.route_job.specs.declared.frame.Pending.{Pending as NextStep}
use Rattle.route_job.specs.declared.frame.Pending.TheVariants.{Enter, Call as Calling, Back}
use Rattle.route_job.specs.declared.job.Job.{Job}
use Rattle.route_job.proofs.Jobs.{next_call}
use Rattle.core_commands.specs.declared.command.Command.{Command}
use Rattle.core_proxy.specs.declared.proxy.Core.{Core}
use Rattle.mc_types.specs.declared.ask.Ask.{Ask}
use Rattle.core_commands.specs.declared.sharing.Sharing.{Sharing}
use Rattle.core_proxy.specs.Claims.{claim_by}
use Rattle.core_proxy.specs.CoreState.{command_at, IsOnItsWay}

-- a fact of each command, where that of one number changed
pub by_number :
    (old new : Core) (number : ℕ) (b : Option Command) → ((n : ℕ) → command_at new n ≡ cond (nat_eq number n) b (command_at old n))
    → (P : ℕ → Command → Type 0) → ((command : Command) → b ≡ Some command → P number command)
    → ((n : ℕ) (command : Command) → nat_eq number n ≡ false → command_at old n ≡ Some command → P n command)
    → (n : ℕ) (command : Command) → command_at new n ≡ Some command → P n command
by_number old new number b commands P here there n command e =
    (elim (nat_eq number n) as (λ z. nat_eq number n ≡ z → cond z b (command_at old n) ≡ Some command → P n command) [
      | true ↦ λ same e. subst (λ m. P m command) (eqb-true number n same) (here command e)
      | false ↦ λ differs e. there n command differs e
    ]) refl (sym (commands n) ∙ e)

call_is : (p : NextStep) → IsCall p → (s : ℕ) × (p ≡ Calling s)
call_is (Enter tree) is = absurd is
call_is (Calling s) is = (s, refl)
call_is (Back done) is = absurd is

-- what may still come begins with the call that is next
begins : (job : Job) → IsCalling job → (calls : List Call) (given : Given) → Comes job calls given → (outcome : Outcome) × (rest : List Call) × (calls ≡ call_of job outcome ∷ rest)
begins job calling = let c = call_is job.pending calling in (next_call job.hash job.ask.key job.frames.items job.ask job.pending job.made c.0 c.1).2

on_after : (key : List ℕ) (before : List Call) (call : Call) (rest : List Call) → AreOn key (before ++ call ∷ rest) → call.ask.key ≡ key
on_after key [] call rest h = h.0
on_after key (c ∷ before) call rest h = on_after key before call rest h.1

module _ (sharing : Sharing) (plan : Plan) (a : Command) (to_come : IsOnItsWay sharing plan a) (calling : IsCalling a.job) where
  -- a word with the next call
  in_word : (outcome : Outcome) × (rest : List Call) × (given : Given) × PlanWord plan a.ask OfClient 0 (to_come.before ++ call_of a.job outcome ∷ rest) given
  in_word =
      let s = to_come.some in
      let k = begins a.job calling s.0 s.1 s.2 in
      (k.0, k.1, s.1, subst (λ l. PlanWord plan a.ask OfClient 0 (to_come.before ++ l) s.1) k.2 ((to_come.rest s.0 s.1).0 s.2))

  -- the next call is on the command's key
  pub call_key : (ask_under a.job.frames.items a.job.ask).key ≡ a.ask.key
  call_key = let w = in_word in on_after a.ask.key to_come.before (call_of a.job w.0) w.1 (calls_stay plan a.ask OfClient 0 (to_come.before ++ call_of a.job w.0 ∷ w.1) w.2 w.3).0

  -- with each outcome of it something may come
  pub goes_on : (outcome : Outcome) → FitsOutcome (ask_under a.job.frames.items a.job.ask) outcome → (rest : List Call) × (given : Given) × Comes a.job (call_of a.job outcome ∷ rest) given
  goes_on outcome fits =
      let w = in_word in
      let r = each_outcome_goes_on plan a.ask OfClient 0 to_come.before (call_of a.job w.0) w.1 w.2 outcome to_come.good w.3 fits in
      (r.0, r.1, (to_come.rest (call_of a.job outcome ∷ r.0) r.1).1 r.2)

  -- a command whose call had its outcome is on its way with what is left
  pub to_come_after : (b : Command) (outcome : Outcome) → FitsOutcome (ask_under a.job.frames.items a.job.ask) outcome → b.ask ≡ a.ask → b.claim ≡ a.claim
      → ((calls : List Call) (given : Given) → Comes b.job calls given ↔ Comes a.job (call_of a.job outcome ∷ calls) given) → IsOnItsWay sharing plan b
  to_come_after b outcome fits same claim rest =
      let call = call_of a.job outcome in
      let r = goes_on outcome fits in
      record {
        claim = claim ∙ to_come.claim ∙ ap (λ (k : Ask). claim_by sharing k.op plan) (sym same);
        good = to_come.good;
        before = to_come.before ++ call ∷ [];
        rest = λ calls given. (
          (λ c. subst (λ x. PlanWord plan x OfClient 0 ((to_come.before ++ call ∷ []) ++ calls) given) (sym same) (subst (λ l. PlanWord plan a.ask OfClient 0 l given) (sym (append_assoc to_come.before (call ∷ []) calls)) ((to_come.rest (call ∷ calls) given).0 ((rest calls given).0 c)))),
          (λ w. (rest calls given).1 ((to_come.rest (call ∷ calls) given).1 (subst (λ l. PlanWord plan a.ask OfClient 0 l given) (append_assoc to_come.before (call ∷ []) calls) (subst (λ x. PlanWord plan x OfClient 0 ((to_come.before ++ call ∷ []) ++ calls) given) same w)))),
        );
        some = (r.0, r.1, (rest r.0 r.1).1 r.2);
      }
