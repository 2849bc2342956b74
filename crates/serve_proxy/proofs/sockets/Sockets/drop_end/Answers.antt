use Rattle.std.proofs.Common.{subst, ◌∙◌}
use Rattle.std.specs.Prelude.{IfSome}
use Rattle.serve_wire.specs.Calls.{Closes}
use Rattle.serve_proxy.proofs.sockets.Sockets.drop_end.Goals as goal

pub returns-clause-some : goal.returns-clause-some
returns-clause-some g c = subst (λ o. IfSome o (λ k. Closes k (g.W.Wire.history c.args.self.now.wire) (g.W.Wire.history c.close_if_any.new.wire))) c.remove-conn.ensures.conn c.close_if_any.ensures.some

pub returns-clause-none : goal.returns-clause-none
returns-clause-none g c = λ is. c.close_if_any.ensures.none (c.remove-conn.ensures.conn ∙ is)
