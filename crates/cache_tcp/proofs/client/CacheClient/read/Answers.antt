use Rattle.cache_tcp.proofs.Touching.{read_only}
use Rattle.cache_tcp.proofs.client.CacheClient.read.Goals as goal

pub returns-in-Ok-Bytes-clause-only : goal.returns-in-Ok-Bytes-clause-only
returns-in-Ok-Bytes-clause-only g c =
    read_only c.args.self.now.conn.number c.args.self.now.conn.limits.held c.args.self.now.conn.held.items c.read_once-got.new.self.held.items _ _ c.read_once-got.result c.read_once-got.ensures.ok c.read_once-got.ensures.err

pub returns-in-Ok-Ended-clause-only : goal.returns-in-Ok-Ended-clause-only
returns-in-Ok-Ended-clause-only g c =
    read_only c.args.self.now.conn.number c.args.self.now.conn.limits.held c.args.self.now.conn.held.items c.read_once-got.new.self.held.items _ _ c.read_once-got.result c.read_once-got.ensures.ok c.read_once-got.ensures.err

pub returns-in-Ok-Failed-clause-only : goal.returns-in-Ok-Failed-clause-only
returns-in-Ok-Failed-clause-only g c =
    read_only c.args.self.now.conn.number c.args.self.now.conn.limits.held c.args.self.now.conn.held.items c.read_once-got.new.self.held.items _ _ c.read_once-got.result c.read_once-got.ensures.ok c.read_once-got.ensures.err
