use Rattle.std.proofs.Common.{refl, [], arith}
use Rattle.std.proofs.lemmas.Result.{IfOk-weaker, IfErr-weaker}
use Rattle.mcgate_replay.specs.Replay.{replayed_events, reloads_of}
use Rattle.mcgate_replay.proofs.Steps.{enough, in_order, new_servers, counted, ran_any, part_any}
use Rattle.mcgate_replay.proofs.running.run_any.Goals as goal

pub drive_stepped-driven-requires-clause-servers : goal.drive_stepped-driven-requires-clause-servers
drive_stepped-driven-requires-clause-servers g c = enough c.args.script.now c.server_count.result c.in_ok-servers.servers c.server_count.ensures c.in_ok-servers.ensures c.requires

pub drive_stepped-driven-requires-clause-few : goal.drive_stepped-driven-requires-clause-few
drive_stepped-driven-requires-clause-few g c = let count = counted c.server_count.result c.in_ok-servers.servers c.in_ok-servers.ensures in omega (arith, count)

pub drive_stepped-driven-requires-clause-order : goal.drive_stepped-driven-requires-clause-order
drive_stepped-driven-requires-clause-order g c = in_order c.args.script.now _ c.server_count.result c.in_ok-servers.servers c.as_slice-reloads.ensures.value c.server_count.ensures c.in_ok-servers.ensures c.requires

pub drive_stepped-driven-requires-clause-new : goal.drive_stepped-driven-requires-clause-new
drive_stepped-driven-requires-clause-new g c = new_servers c.server_count.result c.in_ok-servers.servers c.in_ok-servers.ensures

pub returns-clause-ok : goal.returns-clause-ok
returns-clause-ok g c =
    let s = c.args.script.now in
    let d = c.drive_stepped-driven in
    IfOk-weaker c.write_driven.result _ _
    (λ status w. (w.0, ran_any s.config (reloads_of s) [] (replayed_events s) d.result d.new.transcript d.new.marks.items _ _ _ _ _ c.as_slice-reloads.ensures.value refl c.as_slice-marks.ensures.value refl d.ensures.ok d.ensures.marked d.ensures.marks w.1))
    c.write_driven.ensures.ok

pub returns-clause-err : goal.returns-clause-err
returns-clause-err g c =
    let s = c.args.script.now in
    let d = c.drive_stepped-driven in
    IfErr-weaker c.write_driven.result _ _
    (λ fault b. part_any s.config (reloads_of s) [] (replayed_events s) d.result d.new.transcript d.new.marks.items _ _ _ _ _ c.as_slice-reloads.ensures.value refl c.as_slice-marks.ensures.value c.in_ok-servers.servers d.new.servers refl d.ensures.fault d.ensures.marks fault b)
    c.write_driven.ensures.err
