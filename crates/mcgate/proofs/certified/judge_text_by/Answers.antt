use Rattle.std.proofs.Common.{inl}
use Rattle.mcgate.proofs.certified.judge_text_by.Goals as goal

pub returns-in-Ok : goal.returns-in-Ok
returns-in-Ok g c = inl (c.in-Ok.config, c.in-Ok.ensures, c.take_config_by.ensures)
