use Rattle.std.proofs.Common.{Some, refl, sym, ap}
use Rattle.serve_proxy.proofs.Staying.{line_sent, line_stands}
use Rattle.serve_proxy.proofs.sending.send_line.Goals as goal

pub returns-in-Some : goal.returns-in-Some
returns-in-Some g c = record { stands = λ at. line_sent at _ _ c.args.link.now (record c.args.link.now { conn = Some c.send.new.conn }) c.in-Some.conn.now c.send.new.conn c.send.result (sym c.in-Some.ensures.value) refl c.send.ensures.rest.0 (ap (λ b. b.items) c.send.ensures.held) c.send.ensures.sends c.send.ensures.stands c.send.ensures.failed }

pub returns-in-None : goal.returns-in-None
returns-in-None g c = record { stands = λ at. line_stands at _ c.args.link.now c.args.link.now refl }
