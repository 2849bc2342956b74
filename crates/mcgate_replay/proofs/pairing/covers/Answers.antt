use Rattle.std.proofs.Common.{subst, sym, arith}
use Rattle.mcgate_replay.specs.Pairing.{IsFaultOf}
use Rattle.mcgate_replay.proofs.Paired.{one_covers, fault_of_one}
use Rattle.mcgate_replay.proofs.pairing.covers.Goals as goal

pub all_cover-requires : goal.all_cover-requires
all_cover-requires c = let len = c.from_ref.ensures.len in omega (arith, len)

pub returns-in-Ok : goal.returns-in-Ok
returns-in-Ok c = one_covers c.from_ref.result.now c.args.config.now c.args.tree.now c.from_ref.ensures.value c.in-Ok.ensures

pub returns-in-Err : goal.returns-in-Err
returns-in-Err c =
    subst (IsFaultOf c.args.generation c.args.config.now.tree c.args.tree.now) (sym c.of_generation.ensures)
    (fault_of_one c.from_ref.result.now c.args.config.now c.args.tree.now c.args.generation c.in-Err.fault c.from_ref.ensures.value c.in-Err.ensures)
