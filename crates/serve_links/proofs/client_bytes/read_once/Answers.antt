use Rattle.serve_links.proofs.Reading.{came, lost_now}
use Rattle.serve_links.proofs.client_bytes.read_once.Goals as goal

pub returns-in-Failed-clause-agrees : goal.returns-in-Failed-clause-agrees
returns-in-Failed-clause-agrees g c =
    let x = c.args.client.now in
    lost_now (g.W.Wire.history c.args.wire.now) (g.W.Wire.history c.read_once.new.wire) x (record x { conn = c.read_once.new.self }) c.break_off.new.self c.requires
    (came c.read_once.result x.conn.number x.conn.limits.held x.conn.held.items c.read_once.new.self.held.items _ _ c.read_once.ensures.ok c.read_once.ensures.err) c.read_once.ensures.rest.0 c.break_off.ensures.broken

pub returns-in-Ended-clause-elsewhere : goal.returns-in-Ended-clause-elsewhere
returns-in-Ended-clause-elsewhere g c =
    let x = c.args.client.now in
    (came c.read_once.result x.conn.number x.conn.limits.held x.conn.held.items c.read_once.new.self.held.items (g.W.Wire.history c.args.wire.now) (g.W.Wire.history c.read_once.new.wire) c.read_once.ensures.ok c.read_once.ensures.err).elsewhere

pub returns-in-Failed-clause-elsewhere : goal.returns-in-Failed-clause-elsewhere
returns-in-Failed-clause-elsewhere g c =
    let x = c.args.client.now in
    (came c.read_once.result x.conn.number x.conn.limits.held x.conn.held.items c.read_once.new.self.held.items (g.W.Wire.history c.args.wire.now) (g.W.Wire.history c.read_once.new.wire) c.read_once.ensures.ok c.read_once.ensures.err).elsewhere

pub returns-in-Bytes-clause-elsewhere : goal.returns-in-Bytes-clause-elsewhere
returns-in-Bytes-clause-elsewhere g c =
    let x = c.args.client.now in
    (came c.read_once.result x.conn.number x.conn.limits.held x.conn.held.items c.read_once.new.self.held.items (g.W.Wire.history c.args.wire.now) (g.W.Wire.history c.read_once.new.wire) c.read_once.ensures.ok c.read_once.ensures.err).elsewhere
