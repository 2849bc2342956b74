-- The marks of the plain program, as a life. Source: mcgate's own.
use Rattle.std.specs.Prelude.{List, [], ◌∷◌}
use Rattle.fresh_runs.specs.Life as lives
use Rattle.examples_parts.specs.declared.marks.ServerMark.{ServerMark}
use Rattle.examples_parts.specs.declared.marks.ServerMark.TheVariants.{Applied, Lost, Restarted}

-- one mark
abbrev pub lives_mark_of : ServerMark → lives.Mark
lives_mark_of (Applied ask stamp answer spaces) = lives.Applied ask stamp answer spaces
lives_mark_of (Lost key) = lives.Lost key
lives_mark_of Restarted = lives.Restarted

-- the latest mark first
abbrev pub life_of_marks : List ServerMark → List lives.Mark
life_of_marks [] = []
life_of_marks (mark ∷ marks) = lives_mark_of mark ∷ life_of_marks marks
