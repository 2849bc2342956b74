use Rattle.std.proofs.Common.{◌≡◌, ◌↔◌, ◌∙◌, List, ap, ap₂, arith, subst, sym}
use Rattle.route_tree.specs.Tag.{key_hash}
use Rattle.mc_types.specs.declared.call.Origin.TheVariants.{Client}
use Rattle.fresh_runs.specs.Calls.{Call}
use Rattle.route_tree.specs.At.{plain_for, tree_at}
use Rattle.route_tree.specs.Plan.{Plan, Server, plan_count}
use Rattle.route_tree.specs.Word.{Given, PlanWord}
use Rattle.route_tree.proofs.PlainTrees.{plan_plain}
use Rattle.route_job.specs.Rest.{Comings}
use Rattle.route_job.specs.Settling.{frames_work}
use Rattle.route_job.specs.declared.frame.Pending.TheVariants.{Call as Calling}
use Rattle.route_job.proofs.Jobs.{new_is, calls_at_once}
use Rattle.route_job.proofs.job.Job.new.Goals as goal

pub invariant_of-result : goal.invariant_of-result
invariant_of-result c =
    let key = c.args.ask.key in
    let e = ap (λ k. tree_at c.args.tree.now k) (sym c.key.ensures) ∙ c.in-Some.ensures in
    let is = calls_at_once 0 key c.new.result.items c.args.ask c.in-Some.server (tree_at c.args.tree.now key) c.new.ensures.items e in
    let none = ap (frames_work 0 key) c.new.ensures.items in
    record { kept = record { rests = tt; sure = is.1; few = omega (arith, none) } }

pub returns-in-Some-clause-words : goal.returns-in-Some-clause-words
returns-in-Some-clause-words c =
    let key = c.args.ask.key in
    let e = ap (λ k. tree_at c.args.tree.now k) (sym c.key.ensures) ∙ c.in-Some.ensures in
    (calls_at_once 0 key c.new.result.items c.args.ask c.in-Some.server (tree_at c.args.tree.now key) c.new.ensures.items e).0

pub invariant_of-result-2 : goal.invariant_of-result-2
invariant_of-result-2 c =
    let h = c.key_hash-hash.result in
    let key = c.args.ask.key in
    let is = new_is h key c.new-frames.result.items c.settle.new.frames.items c.args.ask c.in_ok-root.root c.in_ok-pending.pending c.new-frames.ensures.items c.in_ok-pending.ensures.leads in
    let less = c.in_ok-pending.ensures.less in
    let none = ap (frames_work h key) c.new-frames.ensures.items in
    let same = ap (λ t. plan_count (plain_for h key t)) c.in_ok-root.ensures in
    let many = (plan_plain h key c.args.tree.now c.form-form.ensures.tree).many in
    record { kept = record { rests = c.in_ok-pending.ensures.rests; sure = is.1; few = omega (arith, less, none, same, many) } }

pub returns-clause-words : goal.returns-clause-words
returns-clause-words c =
    let h = c.key_hash-hash.result in
    let key = c.args.ask.key in
    let is = new_is h key c.new-frames.result.items c.settle.new.frames.items c.args.ask c.in_ok-root.root c.in_ok-pending.pending c.new-frames.ensures.items c.in_ok-pending.ensures.leads in
    let e : plain_for h key c.in_ok-root.root ≡ tree_at c.args.tree.now key = ap₂ (λ n t. plain_for n key t) (c.key_hash-hash.ensures ∙ ap key_hash c.key-2.ensures) c.in_ok-root.ensures in
    subst (λ (p : Plan). (calls : List Call) (given : Given) → Comings h key c.settle.new.frames.items c.args.ask Client c.in_ok-pending.pending 0 calls given ↔ PlanWord p c.args.ask Client 0 calls given) e is.0
