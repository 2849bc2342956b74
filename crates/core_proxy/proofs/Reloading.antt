-- A core that takes another tree.
use Rattle.std.proofs.Common.{◌≡◌, ℕ, ◌+◌, ◌≤◌, List, Some, ⊎_elim, refl, sym, ap, ◌∙◌, subst, arith}
use Rattle.std.proofs.lemmas.Bool.{cases_lt}
use Rattle.mc_types.specs.declared.call.Origin.TheVariants.{Client as OfClient}
use Rattle.fresh_runs.specs.OverlapLaws.{WordsAreKept, AreKeptBars}
use Rattle.fresh_runs.proofs.OverlapReload.{reloads}
use Rattle.route_tree.specs.Route.{Route}
use Rattle.route_tree.specs.Plan.{Plan}
use Rattle.route_tree.specs.Word.{PlanWord, tree_words}
use Rattle.core_commands.specs.declared.command.Command.{Command}
use Rattle.core_proxy.specs.declared.proxy.Core.{Core}
use Rattle.core_proxy.specs.Claims.{copies_by, bars_by}
use Rattle.core_proxy.specs.CoreState.{bars_of, command_at, Beside, state_of, IsOnItsWay, FitsBeside, IsTakenOver, Reloads}
use Rattle.core_commands.proofs.Commands.{no_command}

-- the words of commands that have begun stay
words_stay : (old : Core) (tree : Route) (beside : Beside) (at : ℕ → List ℕ → Plan) → IsTakenOver old tree beside at → WordsAreKept (old.number + 1) (tree_words beside.at) (tree_words at)
words_stay old tree beside at taken n ask calls reply from lt word =
    (word.0, subst (λ plan. PlanWord plan ask OfClient 0 calls (record { reply = reply; from = from })) (sym (taken.begun n ask.key (let l = lt in omega (arith, l)))) word.1)

-- the bars between commands that have begun stay
bars_stay : (old : Core) (tree : Route) (beside : Beside) (at : ℕ → List ℕ → Plan) → IsTakenOver old tree beside at → AreKeptBars (old.number + 1) (bars_of old beside) (bars_by old.limits.sharing at)
bars_stay old tree beside at taken n other ask client lt lt' bars = (sym (ap (copies_by old.limits.sharing ask.op) (taken.begun n ask.key (let l = lt in omega (arith, l)))) ∙ bars.0, bars.1)

-- a command that is under way has begun
begun : (old : Core) (beside : Beside) → FitsBeside old beside → (n : ℕ) (command : Command) → command_at old n ≡ Some command → n ≤ old.number
begun old beside fits n command e = ⊎_elim (λ lt. no_command (sym (fits.numbers n lt) ∙ e)) (λ le. le) (cases_lt old.number n)

pub reloaded : (old : Core) (tree : Route) → Reloads old tree (record old { tree = tree; generation = old.generation + 1 })
reloaded old tree =
    record {
      core_is = refl;
      fits = λ beside at fits taken. record { queues = fits.queues; held = fits.held; numbered = fits.numbered; to_come = λ n command e. subst (λ plan. IsOnItsWay old.limits.sharing plan command) (sym (taken.begun n command.ask.key (begun old beside fits n command e))) (fits.to_come n command e); tickets = fits.tickets; single = fits.single; numbers = fits.numbers; unseen = fits.unseen; trees = taken.coming };
      leads = λ beside at taken opening log h.
          reloads (tree_words beside.at) (bars_of old beside) opening (tree_words at) (bars_by old.limits.sharing at) log (state_of old beside) h (words_stay old tree beside at taken) (bars_stay old tree beside at taken);
    }
