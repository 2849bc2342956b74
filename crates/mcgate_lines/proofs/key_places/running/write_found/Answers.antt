use Rattle.std.proofs.Common.{◌∙◌, ap, subst}
use Rattle.std.specs.Prelude.{OnOk}
use Rattle.serde_json.specs.Data.{Data}
use Rattle.serde_json.specs.Read.{read}
use Rattle.serde_json.specs.View.{view}
use Rattle.route_json.specs.Servers.{Addresses}
use Rattle.gate_gaps.specs.Pools.{NamedPools, named_pools_in}
use Rattle.mcgate_lines.specs.Blocks.{WritesBlocks}
use Rattle.mcgate_lines.proofs.key_places.running.write_found.Goals as goal

pub returns-clause-ok : goal.returns-clause-ok
returns-clause-ok g c =
    let config = c.args.config.now in
    let named = c.deref.ensures.value ∙ c.in_ok-pools.ensures ∙ ap (λ (s : Addresses). named_pools_in s (read c.args.text.now)) c.servers.ensures.servers in
    let writes = λ (pools : NamedPools) (value : Data). OnOk c.write_keys.result (WritesBlocks config.servers pools value config.tree c.args.keys.now (g.W.Write.contents c.args.out.now) (g.W.Write.contents c.write_keys.new.out)) in
    subst (λ (value : Data). writes (named_pools_in config.servers (read c.args.text.now)) value) c.in_ok-value.ensures
    (subst (λ (pools : NamedPools). writes pools (view c.in_ok-value.value)) named c.write_keys.ensures.ok)
