use Rattle.std.specs.Prelude.{string_bytes}
use Rattle.gate_history.proofs.Ending.{ends_so, stands_by}
use Rattle.gate_history.proofs.history_file.HistoryFile.ends_with.Goals as goal

pub returns : goal.returns
returns c = λ ends.
    stands_by c.args.self.now c.self.inside.history (string_bytes c.self.inside.text) c.args.text.now c.self.view_is c.self.invariant c.generations-generations.ensures.sound
    (ends_so c.in-Ok.number c.in-Some.last.now.began (string_bytes c.self.inside.text) (string_bytes c.in_ok-line.line) c.args.text.now c.as_str.result.now c.as_str-2.result.now c.ends_with.result c.as_str.ensures.value c.as_str-2.ensures.value c.ends_with.ensures.cases c.in_ok-line.ensures.line ends)
