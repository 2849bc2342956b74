use Rattle.std.proofs.Common.{◌≡◌, Bool, subst}
use Rattle.core_accepted.specs.Tallies.{with_settling}
use Rattle.core_accepted.proofs.Results.{took, stopped, is_settled}
use Rattle.core_accepted.proofs.served.ServedCore.settle.Goals as goal

pub returns-clause-ok : goal.returns-clause-ok
returns-clause-ok c =
    let counted = subst (λ (b : Bool). c.note_settled.new.self ≡ with_settling b c.server_of-server.result c.settle-settled.result c.args.self.now.tally) c.is_answer-answered.ensures c.note_settled.ensures in
    took c.args.self.now c.settle-settled.new.self c.note_settled.new.self c.args.ticket.number c.args.outcome c.server_of-server.result c.server_of-server.ensures c.settle-settled.result counted c.settle-settled.ensures.ok

pub returns-clause-stops : goal.returns-clause-stops
returns-clause-stops c =
    let counted = subst (λ (b : Bool). c.note_settled.new.self ≡ with_settling b c.server_of-server.result c.settle-settled.result c.args.self.now.tally) c.is_answer-answered.ensures c.note_settled.ensures in
    stopped c.args.self.now c.settle-settled.new.self c.note_settled.new.self c.args.ticket.number c.args.outcome c.server_of-server.result c.server_of-server.ensures c.settle-settled.result counted c.settle-settled.ensures.err

pub returns-clause-settled : goal.returns-clause-settled
returns-clause-settled c =
    let counted = subst (λ (b : Bool). c.note_settled.new.self ≡ with_settling b c.server_of-server.result c.settle-settled.result c.args.self.now.tally) c.is_answer-answered.ensures c.note_settled.ensures in
    is_settled c.args.self.now c.settle-settled.new.self c.note_settled.new.self c.args.ticket.number c.args.outcome c.server_of-server.result c.server_of-server.ensures c.settle-settled.result counted
    c.settle-settled.ensures.ok c.settle-settled.ensures.err
