use Rattle.std.proofs.Common.{◌≡◌, replicate}
use Rattle.cache_server.specs.Contents.{empty}
use Rattle.script_events.specs.Limits.{capacity}
use Rattle.script_events.proofs.servers.servers.ScriptServers.new.Given as goal

abbrev pub invariant-loop-place : goal.invariant-loop-place
invariant-loop-place l = l.caches.items ≡ replicate l._place (empty capacity)
