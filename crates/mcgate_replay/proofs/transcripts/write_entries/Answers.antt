use Rattle.std.proofs.Common.{ℕ, List, length, arith, subst, sym, refl}
use Rattle.std.specs.Io.KnownBytes.{Appends}
use Rattle.mcgate_replay.proofs.Printing.{one_more_load, none_left, both_written, ended}
use Rattle.mcgate_replay.proofs.transcripts.write_entries.Goals as goal

pub loop-number-init : goal.loop-number-init
loop-number-init g c = record { within = omega arith; so_far = λ new x. x }

pub loop-number-preserved : goal.loop-number-preserved
loop-number-preserved g c =
    let test = c.loop-number-test.true in
    let fits = c.least-count.ensures.fits in
    let number = c.loop-number.number in
    let rest = c.loop-number.rest.now in
    let more =
    one_more_load c.args.any c.args.reloads.now c.args.loadings.now c.args.marks.now number c.loop-number.before _ c.saturating_sub.result c.least-due.result c.index-reloads-number.result rest c.split_at.result.0.now c.split_at.result.1.now
    (omega (arith, test, fits)) (omega (arith, test, fits)) refl c.index-reloads-number.is c.saturating_sub.ensures c.least-due.ensures.fits c.least-due.ensures.is_one c.split_at.ensures.front c.split_at.ensures.back in
    record {
      within = omega (arith, test);
      so_far = λ new behind. c.loop-number.invariant.so_far new (subst (λ (l : List ℕ). Appends (g.W.Write.contents c.loop-number.out) new l) (sym more) (both_written (g.W.Write.contents c.loop-number.out) (g.W.Write.contents c.write_then_load.new.out) new _ _ c.in_ok-write_then_load.ensures.ok behind));
    }

pub returns-clause-ok : goal.returns-clause-ok
returns-clause-ok g c =
    let test = c.loop-number-test.false in
    let number = c.loop-number.number in
    let none =
    none_left c.args.any c.args.reloads.now c.args.loadings.now c.args.marks.now number c.loop-number.before c.loop-number.rest.now
    (ended (length c.args.marks.now) (length c.args.reloads.now) c.least-count.result number c.least-count.ensures.is_one (omega (arith, test))) in
    c.loop-number.invariant.so_far (g.W.Write.contents c.write_outputs.new.out) (subst (λ (l : List ℕ). Appends (g.W.Write.contents c.loop-number.out) (g.W.Write.contents c.write_outputs.new.out) l) (sym none) c.in_ok-write_outputs.ensures)
