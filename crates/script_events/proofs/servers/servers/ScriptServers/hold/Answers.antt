use Rattle.cache_server.specs.Contents.{storing_item, opening}
use Rattle.script_events.proofs.Calls.{on_ok_both}
use Rattle.script_events.proofs.Calls.{changed}
use Rattle.script_events.proofs.servers.servers.ScriptServers.hold.Goals as goal

pub returns-clause-ok : goal.returns-clause-ok
returns-clause-ok c =
    on_ok_both c.hold.result _ _ _
    (λ stored is. changed (λ x. storing_item x c.args.key.now (opening c.args.body.now)) c.args.self.now.caches.items c.args.server c.number.result c.index_mut.result.now c.hold.new.self c.number.ensures c.requires.there c.index_mut.ensures.value stored)
    c.hold.ensures.ok c.hold.ensures.held
