use Rattle.std.proofs.Common.{◌≡◌, ℕ, Result, Ok, Err, subst, sym}
use Rattle.std.specs.Prelude.{IfOk, IfErr, OnErr}
use Rattle.core_proxy.specs.declared.fault.CoreFault.{CoreFault}
use Rattle.core_proxy.specs.declared.note.Poll.{Poll}
use Rattle.core_proxy.specs.declared.proxy.Core.{Core}
use Rattle.core_proxy.specs.Polls.{Polls, PollFault, EntriesThen, Perhaps, BeginsOne, IsPolled}
use Rattle.core_proxy.proofs.Polls.{polls_goes}
use Rattle.core_accepted.specs.declared.served.ServedCore.{ServedCore}
use Rattle.core_accepted.specs.declared.tally.CoreTally.{CoreTally}
use Rattle.core_accepted.specs.Results.{PollGoes, PollStops}
use Rattle.core_accepted.specs.Tallies.{with_poll}
use Rattle.core_accepted.proofs.Keeping.{goes, counting}
use Rattle.core_accepted.proofs.Results.{poll_stops}
use Rattle.core_accepted.proofs.served.ServedCore.poll.Goals as goal

fresh : (old : ServedCore) (x : Core) (tally : CoreTally) (client : ℕ) (r : Result Poll CoreFault) → IfOk r (λ poll. Polls old.core client poll x) → IfOk r (λ poll. tally ≡ with_poll poll old.tally) → IfOk r (λ poll. PollGoes old client poll (record old { core = x; tally = tally }))
fresh old x tally client (Ok poll) polled counted = let IsKind = EntriesThen (Perhaps (BeginsOne client)) (IsPolled client poll) in counting (with_poll poll) old x tally IsKind counted (goes old x IsKind (polls_goes old.core x client poll polled))
fresh old x tally client (Err fault) polled counted = tt

stops : (old : ServedCore) (x : Core) (tally : CoreTally) (client : ℕ) (r : Result Poll CoreFault) → IfErr r (λ fault. PollFault old.core client fault x) → OnErr r (tally ≡ old.tally) → IfErr r (λ fault. PollStops old client fault (record old { core = x; tally = tally }))
stops old x tally client (Ok poll) failed none = tt
stops old x tally client (Err fault) failed none = subst (λ t. PollStops old client fault (record old { core = x; tally = t })) (sym none) (poll_stops old x client fault failed)

pub returns-clause-fresh : goal.returns-clause-fresh
returns-clause-fresh c = fresh c.args.self.now c.poll-polled.new.self c.note_polled.new.self c.args.client c.poll-polled.result c.poll-polled.ensures.ok c.note_polled.ensures.counted

pub returns-clause-stops : goal.returns-clause-stops
returns-clause-stops c = stops c.args.self.now c.poll-polled.new.self c.note_polled.new.self c.args.client c.poll-polled.result c.poll-polled.ensures.err c.note_polled.ensures.none
