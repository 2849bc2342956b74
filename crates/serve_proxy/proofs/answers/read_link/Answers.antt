use Rattle.std.proofs.Common.{Some, ap, ◌∙◌}
use Rattle.serve_proxy.proofs.Going.{and_then, failing}
use Rattle.serve_proxy.proofs.GivenUp.{read_none, read_some}
use Rattle.serve_proxy.proofs.answers.read_link.Goals as goal

pub returns-in-Some : goal.returns-in-Some
returns-in-Some g c = record { ends = and_then (failing (read_some c.args.at _ c.in-Some.got c.in-Some.is c.read_link_once.ensures.ends c.args.core.now)) c.take_read.ensures.ends }

pub returns-in-None : goal.returns-in-None
returns-in-None g c = record { ends = and_then (failing (read_none c.args.at _ c.in-None.is c.read_link_once.ensures.ends c.args.core.now)) c.take_unread.ensures.ends }

pub take_read-requires : goal.take_read-requires
take_read-requires g c = record { full = λ full. c.read_link_once.ensures.full (c.in-Some.is ∙ ap (λ w. Some w) full) }
