use Rattle.std.proofs.Common.{◌≡◌, ℕ, List, sym, ap₂, ◌∙◌, subst}
use Rattle.mc_types.specs.declared.ask.Ask.{Ask}
use Rattle.mc_types.specs.declared.answer.Answer.{Answer}
use Rattle.mc_types.specs.declared.call.Origin.TheVariants.{CopyOf}
use Rattle.fresh_runs.specs.Calls.{Call}
use Rattle.route_tree.specs.At.{plain_for}
use Rattle.route_tree.specs.Word.{Given, rank, Then, PlanWord, plain_get, refill, AfterCold, AfterWarm}
use Rattle.route_tree.proofs.Gets.{get_names_hit}
use Rattle.route_job.specs.Given.{given_when_done}
use Rattle.route_job.specs.Parts.{SameAt}
use Rattle.route_job.proofs.Children.{goes_warm}
use Rattle.route_job.proofs.returning.back_cold.Goals as goal

pub returns-clause-same : goal.returns-clause-same
returns-clause-same c = λ hash text origin b.
    let ask = c.args.ask.now in
    let sides = c.args.sides in
    let first = given_when_done c.args.first in
    let cold = PlanWord (plain_for hash text sides.cold) ask origin in
    let warm = PlanWord (plain_for hash text sides.warm) (plain_get ask) origin in
    let add : Answer → ℕ → ℕ → List Call → Given → Type 0 = λ hit w. PlanWord (plain_for hash text sides.cold) (refill ask hit sides.exptime) (CopyOf w) in
    let is = goes_warm ask cold warm add first (rank first) (λ e. c.if-rank-eq0.false (c.rank.ensures ∙ e)) b in
    let same = ap₂ (λ t (a : Ask). PlanWord (plain_for hash text t) a origin) c.in_ok-warm.ensures c.in_ok-get.ensures in
    subst (λ (w : ℕ → List Call → Given → Type 0). SameAt b (AfterCold ask cold warm add first (rank first)) (Then w (λ g. AfterWarm ask cold warm add first g (rank g)))) (sym same) is

pub returns-clause-sure : goal.returns-clause-sure
returns-clause-sure c = λ hash text origin b calls given w.
    let e : c.in_ok-get.get.ask ≡ plain_get c.args.ask.now = c.in_ok-get.ensures in
    get_names_hit (plain_for hash text c.in_ok-warm.warm) c.args.ask.now origin b calls given (subst (λ a. PlanWord (plain_for hash text c.in_ok-warm.warm) a origin b calls given) e w)
