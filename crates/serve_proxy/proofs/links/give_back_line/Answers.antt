use Rattle.std.proofs.Common.{Some, refl, sym, ap}
use Rattle.serve_links.specs.declared.link.Link.{Link}
use Rattle.serve_wire.specs.declared.conn.conn.Conn.{Conn}
use Rattle.serve_proxy.proofs.Linking.{line_same, line_calls}
use Rattle.serve_proxy.proofs.links.give_back_line.Goals as goal

pub returns-in-Some : goal.returns-in-Some
returns-in-Some c =
    let x = c.args.link.now in
    let k = c.in-Some.conn.now in
    let d = c.give_back.new.self in
    let y : Link = record x { calls = c.let_go.new.self; conn = Some d } in
    record { line = line_same x y k d (sym c.in-Some.ensures.value) refl (ap (λ (z : Conn). z.number) c.give_back.ensures.rest) c.give_back.ensures.held c.give_back.ensures.unsent (ap (λ s. s.items) c.let_go.ensures) }

pub returns-in-None : goal.returns-in-None
returns-in-None c = record { line = line_calls c.args.link.now (record c.args.link.now { calls = c.let_go.new.self }) refl (ap (λ s. s.items) c.let_go.ensures) }
