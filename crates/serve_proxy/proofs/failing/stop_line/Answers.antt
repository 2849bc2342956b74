use Rattle.std.proofs.Common.{refl, sym, ◌∙◌}
use Rattle.serve_proxy.proofs.Drained.{stops_so}
use Rattle.serve_proxy.proofs.Staying.{line_stands, not_some}
use Rattle.serve_proxy.proofs.failing.stop_line.Goals as goal

pub returns-then-is_some : goal.returns-then-is_some
returns-then-is_some g c = record { stands = λ at. line_stands at _ c.args.link.now c.args.link.now refl }

pub returns : goal.returns
returns g c = record {
  stands = λ at. stops_so at _ _ c.args.link.now c.end_draining-stopped.new.self c.end_draining-stopped.result (not_some c.args.link.now.conn (sym c.is_some.ensures ∙ c.if-is_some.false)) c.end_draining-stopped.ensures.number c.end_draining-stopped.ensures.rest c.close_if_any.ensures.some c.close_if_any.ensures.none;
}
