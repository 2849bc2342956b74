use Rattle.std.proofs.Common.{◌≡◌, ◌∙◌, List, ℕ, ap₂, refl, subst, sym}
use Rattle.std.specs.Io.KnownBytes.{Appends}
use Rattle.route_tree.specs.Route.{Route}
use Rattle.route_tree.specs.Place.{tree_at_place}
use Rattle.gate_check.specs.declared.gap.Reason.TheVariants as reasons
use Rattle.gate_check.specs.Gate.{IsJudged}
use Rattle.serde_json.specs.Read.{read}
use Rattle.route_json.specs.Servers.{Addresses}
use Rattle.gate_gaps.specs.Explanations as gaps
use Rattle.gate_gaps.specs.Pools.{NamedPools, named_pools_in}
use Rattle.gate_gaps.specs.declared.ways.WayStep.{WayStep}
use Rattle.gate_picture.specs.Picture.{gap_picture}
use Rattle.mcgate_check.proofs.drawing.draw_gap.Goals as goal

pub gap_explained-requires : goal.gap_explained-requires
gap_explained-requires g c = subst (λ (t : Route). IsJudged t (reasons.Uncovered c.args.gap.now)) (sym c.tree.ensures.tree) c.requires

pub returns-clause-ok : goal.returns-clause-ok
returns-clause-ok g c =
    let config = c.args.config.now in
    let gap = c.args.gap.now in
    let e = c.in_ok-explanation.explanation in
    let read_pools = subst (λ (s : Addresses). c.in_ok-pools.pools.items ≡ named_pools_in s (read c.args.text.now)) c.servers.ensures.servers c.in_ok-pools.ensures in
    let drawn = ap₂ (λ (ps : NamedPools) (steps : List WayStep). gap_picture config ps gap steps) (c.deref.ensures.value ∙ read_pools) c.deref-2.ensures.value in
    let wrote = subst (λ (t : List ℕ). Appends (g.W.Write.contents c.args.out.now) (g.W.Write.contents c.write_gap_picture.new.out) t) drawn c.in_ok-write_gap_picture.ensures in
    let explains = subst (λ (t : Route). gaps.Explains (tree_at_place t gap.place) gap.op gap.server gap.deleting e) c.tree.ensures.tree c.in_ok-explanation.ensures in
    (refl, record { told = tt; judged = c.requires; lines = gap_picture config (named_pools_in config.servers (read c.args.text.now)) gap e.way.items; drawn = (e, explains, refl); printed = wrote })
