-- Polls and results of a core that is served.
use Rattle.std.proofs.Common.{◌≡◌, ℕ, List, [], ◌∷◌, ◌++◌, Option, Some, None, Result, Ok, Err, refl, sym, ap, ap₂, ◌∙◌, inl, inr}
use Rattle.std.specs.Prelude.{IfErr, IfSome, OnOk}
use Rattle.mc_types.specs.declared.call.Outcome.{Outcome}
use Rattle.fresh_runs.specs.Overlap as log
use Rattle.fresh_runs.specs.Overlap.{Entry, Happens}
use Rattle.core_commands.specs.declared.command.Command.{Command}
use Rattle.core_proxy.specs.declared.fault.CoreFault.{CoreFault}
use Rattle.core_proxy.specs.declared.fault.CoreFault.TheVariants as faults
use Rattle.core_proxy.specs.declared.proxy.Core.{Core}
use Rattle.core_proxy.specs.CoreState.{dialect, command_at, state_of}
use Rattle.route_job.specs.Jobs.{server_of_pending}
use Rattle.core_proxy.specs.Steps.{event_of_call}
use Rattle.core_proxy.specs.Settles.{SettlesBy, Settles, SettleFault, freed}
use Rattle.core_proxy.specs.Polls.{PollFault, SoFar, EntriesThen}
use Rattle.core_accepted.specs.declared.served.ServedCore.{ServedCore}
use Rattle.core_accepted.specs.declared.tally.CoreTally.{CoreTally}
use Rattle.core_accepted.specs.Tallies.{is_answer, with_outcome, with_settling}
use Rattle.core_accepted.specs.Results.{PollStops, SettlesOn, IsCallAt, TakesResult, SettleStops, IsSettled}
use Rattle.core_accepted.proofs.Keeping.{goes, led_there}

-- the core is as it was
pub same : (old : ServedCore) (x : Core) → x ≡ old.core → record old { core = x } ≡ old
same old x e = ap (λ (y : Core). record old { core = y }) e

-- the same where nothing is counted
uncounted : (old : ServedCore) (x : Core) (t : CoreTally) → x ≡ old.core → t ≡ old.tally → record old { core = x; tally = t } ≡ old
uncounted old x t e k = ap₂ (λ (y : Core) (s : CoreTally). record old { core = y; tally = s }) e k

pub poll_stops : (old : ServedCore) (x : Core) (client : ℕ) (fault : CoreFault) → PollFault old.core client fault x → PollStops old client fault (record old { core = x })
poll_stops old x client faults.NoMemory f = record { stops = f; goes = goes old x (EntriesThen (SoFar client) (λ entries. entries ≡ freed f.numbers ++ log.Drops client ∷ [])) f.goes }
poll_stops old x client faults.NoClient f = same old x f.1
poll_stops old x client faults.Spent f = same old x f.1
poll_stops old x client faults.TooManyClients f = absurd f
poll_stops old x client faults.InputFull f = absurd f
poll_stops old x client faults.UnderWay f = absurd f
poll_stops old x client faults.NoTicket f = absurd f

settles_on :
    (old : ServedCore) (x : Core) (t : CoreTally) (number : ℕ) (a : Command) (outcome : Outcome) (IsMore : List (Entry dialect) → Type 0)
    → SettlesBy old.core number a outcome IsMore x → SettlesOn old number a outcome IsMore (record old { core = x; tally = t })
settles_on old x t number a outcome IsMore by opening past led end is ends =
    let s = by led.beside end led.fits is ends in
    let at = s.3.at in (
      s.1,
      s.4,
      record {
        tree = led.tree;
        loaded = led.loaded;
        beside = s.0;
        plain = at ∙ led.plain;
        fits = s.2;
        leads = led_there old.core x opening led.beside.at s.0.at ((s.1 ++ Happens (event_of_call number a end) ∷ []) ++ past) (state_of x s.0) at s.6 (s.5 opening past led.leads);
      },
      s.3,
    )

-- the call that was found out is that of the command
same_command : {a b : Command} → Some a ≡ Some b → a ≡ b
same_command e = cc

found_out : (x : Core) (number : ℕ) (command : Command) (at : Option ℕ) → command_at x number ≡ Some command → IfSome at (IsCallAt x number) → IfSome at (λ server. server ≡ server_of_pending command.job.pending)
found_out x number command None was found = tt
found_out x number command (Some server) was found = found.2 ∙ ap (λ (a : Command). server_of_pending a.job.pending) (same_command (sym found.1 ∙ was))

module _ (old : ServedCore) (x : Core) (t : CoreTally) (number : ℕ) (outcome : Outcome) (at : Option ℕ) (found : IfSome at (IsCallAt old.core number)) where
  takes_result : t ≡ with_outcome at outcome old.tally → Settles old.core number outcome x → TakesResult old number outcome (record old { core = x; tally = t })
  takes_result counted s = record {
    word = refl;
    settles = s;
    counts = record { server = at; found = found_out old.core number s.command at s.was found; tally = counted };
    goes = settles_on old x t number s.command outcome _ s.goes;
  }

  settle_stops : (fault : CoreFault) → t ≡ with_settling (is_answer outcome) at (Err fault) old.tally → SettleFault old.core number outcome fault x → SettleStops old number outcome fault (record old { core = x; tally = t })
  settle_stops faults.NoMemory counted f = record {
    word = refl;
    breaks = f;
    counts = record { server = at; found = found_out old.core number f.command at f.was found; tally = counted };
    goes = settles_on old x t number f.command outcome _ f.goes;
  }
  settle_stops faults.NoTicket counted f = (f.0, uncounted old x t f.1 counted)
  settle_stops faults.TooManyClients counted f = absurd f
  settle_stops faults.NoClient counted f = absurd f
  settle_stops faults.InputFull counted f = absurd f
  settle_stops faults.UnderWay counted f = absurd f
  settle_stops faults.Spent counted f = absurd f

  -- the result came, or why not
  pub took :
      (r : Result (Unit {0}) CoreFault) → t ≡ with_settling (is_answer outcome) at r old.tally → OnOk r (Settles old.core number outcome x) → OnOk r (TakesResult old number outcome (record old { core = x; tally = t }))
  took (Ok done) counted ok = takes_result counted ok
  took (Err fault) counted ok = tt

  pub stopped :
      (r : Result (Unit {0}) CoreFault) → t ≡ with_settling (is_answer outcome) at r old.tally → IfErr r (λ fault. SettleFault old.core number outcome fault x)
      → IfErr r (λ fault. SettleStops old number outcome fault (record old { core = x; tally = t }))
  stopped (Ok done) counted err = tt
  stopped (Err fault) counted err = settle_stops fault counted err

  -- however the result came
  pub is_settled :
      (r : Result (Unit {0}) CoreFault) → t ≡ with_settling (is_answer outcome) at r old.tally → OnOk r (Settles old.core number outcome x) → IfErr r (λ fault. SettleFault old.core number outcome fault x)
      → IsSettled old number outcome (record old { core = x; tally = t })
  is_settled (Ok done) counted ok err = inl (takes_result counted ok)
  is_settled (Err fault) counted ok err = inr (fault, settle_stops fault counted err)
