use Rattle.std.proofs.Common.{subst}
use Rattle.core_accepted.specs.declared.served.ServedCore.{ServedCore}
use Rattle.core_accepted.specs.Logs.{TreesAreSound}
use Rattle.serve_proxy.specs.LogsGoOn.{LogsAreFresh}
use Rattle.serve_proxy.proofs.proxy.ProxyEnd.logs_are_fresh.Goals as goal

pub returns : goal.returns
returns g c = record {
  fresh = subst (λ (x : ServedCore). LogsAreFresh x) c.as_ref-core.ensures c.begun_core_is_fresh.ensures;
  sound = subst (λ (x : ServedCore). TreesAreSound x) c.as_ref-core.ensures c.accepted_trees_are_sound.ensures;
}
