use Rattle.std.proofs.Common.{◌≡◌, ◌≤◌, Option, length, ap, sym, ◌∙◌, arith, rules}
use Rattle.std.proofs.lemmas.Option.{slice_get-get_or}
use Rattle.std.specs.Option.{option_flatten}
use Rattle.serve_clients.proofs.Marked.{none_marked, one_marked, all_marked}
use Rattle.serve_clients.proofs.clients.list_marked.Goals as goal

pub loop-id-init : goal.loop-id-init
loop-id-init c = none_marked c.args.mark c.args.all.now _

pub loop-id-preserved : goal.loop-id-preserved
loop-id-preserved c = one_marked c.args.mark c.args.all.now c.index-all-id.result c.loop-id.ids.items c.list_if_marked.new.ids.items c.loop-id.id (ap option_flatten (slice_get-get_or c.args.all.now c.loop-id.id c.index-all-id.result (search rules)) ∙ sym c.index-all-id.is) (c.list_if_marked.ensures c.if-not-list_if_marked.false) c.loop-id.invariant

pub returns : goal.returns
returns c = λ all. all_marked c.args.mark c.args.all.now c.loop-id.ids.items c.loop-id.id (search rules) c.loop-id.invariant
