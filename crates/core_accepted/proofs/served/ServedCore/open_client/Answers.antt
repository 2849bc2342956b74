use Rattle.std.proofs.Common.{◌≡◌, ℕ, [], Result, Ok, Err}
use Rattle.std.specs.Prelude.{IfOk, IfErr}
use Rattle.core_proxy.specs.declared.fault.CoreFault.{CoreFault}
use Rattle.core_proxy.specs.declared.proxy.Core.{Core}
use Rattle.core_proxy.specs.Faults.{CanOpen, OpenFault}
use Rattle.core_proxy.specs.CoreState.{Opens}
use Rattle.core_accepted.specs.declared.served.ServedCore.{ServedCore}
use Rattle.core_accepted.specs.declared.tally.CoreTally.{CoreTally}
use Rattle.core_accepted.specs.Results.{StaysCounting}
use Rattle.core_accepted.specs.Tallies.{with_client, with_refusal, with_opening}
use Rattle.core_accepted.proofs.Keeping.{opens, counting}
use Rattle.core_accepted.proofs.served.ServedCore.open_client.Goals as goal

-- a client came, or none
opening :
    (old : ServedCore) (x : Core) (tally : CoreTally) (r : Result ℕ CoreFault) → IfOk r (λ client. CanOpen old.core × Opens old.core client x) → IfErr r (λ fault. OpenFault old.core fault x) → tally ≡ with_opening r old.tally
    → IfOk r (λ client. StaysCounting with_client old (record old { core = x; tally = tally })) × IfErr r (λ fault. StaysCounting with_refusal old (record old { core = x; tally = tally }))
opening old x tally (Ok client) opened failed is = (counting with_client old x tally (λ entries. entries ≡ []) is (opens old x (Ok client) opened failed), tt)
opening old x tally (Err fault) opened failed is = (tt, counting with_refusal old x tally (λ entries. entries ≡ []) is (opens old x (Err fault) opened failed))

pub returns-clause-opened : goal.returns-clause-opened
returns-clause-opened c = (opening c.args.self.now c.open_client-opening.new.self c.note_opening.new.self c.open_client-opening.result c.open_client-opening.ensures.ok c.open_client-opening.ensures.err c.note_opening.ensures).0

pub returns-clause-refused : goal.returns-clause-refused
returns-clause-refused c = (opening c.args.self.now c.open_client-opening.new.self c.note_opening.new.self c.open_client-opening.result c.open_client-opening.ensures.ok c.open_client-opening.ensures.err c.note_opening.ensures).1
