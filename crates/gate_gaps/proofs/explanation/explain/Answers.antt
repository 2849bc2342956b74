use Rattle.gate_gaps.proofs.explanation.explain.Goals as goal

pub add_way-requires : goal.add_way-requires
add_way-requires c = (c.taken_is_exact.ensures c.args.plain.now c.args.op c.args.server c.form-form.ensures.plain.good).1 c.requires
