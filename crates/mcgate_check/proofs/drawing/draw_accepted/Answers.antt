use Rattle.std.proofs.Common.{◌∙◌, ap, refl, subst}
use Rattle.std.specs.Io.KnownBytes.{Appends}
use Rattle.serde_json.specs.Read.{read}
use Rattle.route_json.specs.Servers.{Addresses}
use Rattle.gate_gaps.specs.Pools.{NamedPools, named_pools_in}
use Rattle.gate_picture.specs.Picture.{picture}
use Rattle.mcgate_check.proofs.drawing.draw_accepted.Goals as goal

pub returns-clause-ok : goal.returns-clause-ok
returns-clause-ok g c =
    let config = c.args.config.now in
    let named = c.deref.ensures.value ∙ c.in_ok-pools.ensures ∙ ap (λ (s : Addresses). named_pools_in s (read c.args.text.now)) c.servers.ensures.servers in
    let wrote = subst (λ (ps : NamedPools). Appends (g.W.Write.contents c.args.out.now) (g.W.Write.contents c.write_picture.new.out) (picture config ps)) named c.in_ok-write_picture.ensures in
    (refl, record { certified = c.requires; printed = wrote })
