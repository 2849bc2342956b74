use Rattle.std.proofs.Common.{sym, subst}
use Rattle.serve_links.specs.Links.{FailsTo}
use Rattle.serve_links.specs.declared.link.Link.{Link}
use Rattle.serve_clients.proofs.Agreeing.{keeps_twice}
use Rattle.serve_links.proofs.Walked.{then}
use Rattle.serve_links.proofs.Failing.{all_then}
use Rattle.serve_links.proofs.outcomes.fail_all.Goals as goal

pub returns-clause-core : goal.returns-clause-core
returns-clause-core c = then c.fail_sent.ensures.core c.fail_waiting.ensures.core

pub returns-clause-all : goal.returns-clause-all
returns-clause-all c = all_then c.args.link.now.calls.sent.items c.args.link.now.waiting c.args.core.now c.fail_sent.new.core c.fail_waiting.new.core c.fail_sent.ensures.all c.fail_waiting.ensures.all

pub returns-clause-ends : goal.returns-clause-ends
returns-clause-ends c = keeps_twice c.args.clients.now c.fail_sent.new.clients c.fail_waiting.new.clients c.fail_sent.ensures.ends c.fail_waiting.ensures.ends

pub returns-clause-first : goal.returns-clause-first
returns-clause-first c = (
  c.fail_sent.new.core,
  subst (λ (z : Link). FailsTo c.args.link.now.calls.sent.items z.calls.sent.items c.args.core.now c.fail_sent.new.core) (sym c.fail_waiting.ensures.rest) c.fail_sent.ensures.first,
  c.fail_waiting.ensures.first,
)
