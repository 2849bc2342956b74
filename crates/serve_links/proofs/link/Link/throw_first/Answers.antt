use Rattle.std.proofs.Common.{Some, refl, sym, ap}
use Rattle.serve_links.proofs.Foreign.{late_none, passed_none}
use Rattle.serve_links.proofs.LateGoes.{line_still, line_passes}
use Rattle.serve_links.proofs.link.Link.throw_first.Goals as goal

pub returns-in_default-clause-goes : goal.returns-in_default-clause-goes
returns-in_default-clause-goes c = λ at core h. line_still c.args.self.now

pub returns : goal.returns
returns c =
    let x = c.args.self.now in
    let y = record x { late = c.pass_over.new.late; calls = c.pass_over.new.calls; conn = Some c.pass_over.new.conn } in
    record {
      goes = λ at core h. line_passes x y c.in-Some.conn.now c.pass_over.new.conn c.pass_over.result (sym c.in-Some.ensures.value) refl c.requires refl refl refl refl refl (ap (λ q. q.items) c.pass_over.ensures.sent) c.pass_over.ensures.rest c.pass_over.ensures.passes;
      foreign = λ is. late_none y c.pass_over.new.conn refl c.requires (passed_none c.args.self.now.late.items c.in-Some.conn.now.held.items c.pass_over.result c.pass_over.new.late.items c.pass_over.new.conn.held.items is c.pass_over.ensures.passes);
      told = c.requires;
    }
