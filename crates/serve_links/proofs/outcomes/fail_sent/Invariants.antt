use Rattle.std.proofs.Common.{◌≡◌, ◌+◌, length}
use Rattle.serve_clients.specs.Agrees.{KeepsEnds}
use Rattle.serve_links.specs.CoreSteps.{OnlyFails}
use Rattle.core_accepted.specs.declared.served.ServedCore.{ServedCore}
use Rattle.serve_links.specs.Links.{AllFail, FailsTo}
use Rattle.serve_links.proofs.outcomes.fail_sent.Given as goal

abbrev pub invariant-loop : goal.invariant-loop
invariant-loop l = record { core : OnlyFails l.fn.core l.core; few : l.counter + length l.calls.sent.items ≡ l.end; all : (new : ServedCore) → AllFail l.calls.sent.items l.core new → AllFail l.fn.calls.sent.items l.fn.core new; first : FailsTo l.fn.calls.sent.items l.calls.sent.items l.fn.core l.core; ends : KeepsEnds l.fn.clients l.clients }
