use Rattle.std.proofs.Common.{◌≡◌, ◌+◌, length}
use Rattle.serve_clients.specs.Agrees.{KeepsEnds}
use Rattle.serve_links.specs.CoreSteps.{OnlyFails}
use Rattle.core_accepted.specs.declared.served.ServedCore.{ServedCore}
use Rattle.serve_links.specs.Links.{AllFail, FailsTo}
use Rattle.serve_links.proofs.outcomes.fail_waiting.Given as goal

abbrev pub invariant-loop : goal.invariant-loop
invariant-loop l = record { core : OnlyFails l.fn.core l.core; few : l.counter + length l.link.waiting ≡ l.end; all : (new : ServedCore) → AllFail l.link.waiting l.core new → AllFail l.fn.link.waiting l.fn.core new; rest : l.link ≡ record l.fn.link { waiting = l.link.waiting }; first : FailsTo l.fn.link.waiting l.link.waiting l.fn.core l.core; ends : KeepsEnds l.fn.clients l.clients }
