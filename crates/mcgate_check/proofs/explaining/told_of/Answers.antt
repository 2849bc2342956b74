use Rattle.std.proofs.Common.{◌∙◌, ap}
use Rattle.serde_json.specs.Read.{read}
use Rattle.route_json.specs.Servers.{Addresses}
use Rattle.gate_gaps.specs.Pools.{named_pools_in}
use Rattle.mcgate_check.proofs.explaining.told_of.Goals as goal

pub returns : goal.returns
returns c = record {
  pools = c.in_ok-pools.ensures ∙ ap (λ (s : Addresses). named_pools_in s (read c.args.text.now)) c.servers.ensures.servers;
  found = c.in_ok-run.ensures;
  words = c.in_ok-words.ensures;
}
