use Rattle.std.proofs.Common.{◌≡◌, ℕ, ◌+◌, List, Some, Ok, sym, ap, ◌∙◌, subst}
use Rattle.std.specs.Prelude.{option_map}
use Rattle.script_events.specs.LinesAfter.{lines_after}
use Rattle.script_events.specs.Told.{Told, told_from, servers_said, bad_line}
use Rattle.fault_words.specs.declared.script.finding.LinePlace.{LinePlace}
use Rattle.fault_words.specs.Finding.{IsWrongLine, bytes_said}
use Rattle.fault_words.specs.Lines.{line_numbered}
use Rattle.fault_words.proofs.script.finding.bad_line_after.Goals as goal

pub returns : goal.returns
returns c =
    let first = c.args.above + 1 in
    let lines = lines_after c.args.further in
    let told : Told = told_from first c.args.config lines in
    let place = c.in-Some.place in
    let wrong = c.in_ok-wrong.wrong in
    let number : bad_line (Ok told) ≡ Some place.number = c.in_ok-found.ensures.number ∙ ap (option_map (λ (p : LinePlace). p.number)) c.in-Some.is in
    let servers : place.servers ≡ servers_said told = rw c.in-Some.is at c.in_ok-found.ensures.servers in
    let before : place.before ≡ bytes_said told = rw c.in-Some.is at c.in_ok-found.ensures.before in
    let line : c.as_bytes.result.now ≡ line_numbered first lines place.number = c.as_bytes.ensures.value ∙ c.line_numbered-line.ensures in (
      number,
      subst (λ (n : ℕ). IsWrongLine n (bytes_said told) (line_numbered first lines place.number) wrong) servers
          (subst (λ (b : ℕ). IsWrongLine place.servers b (line_numbered first lines place.number) wrong) before
          (subst (λ (l : List ℕ). IsWrongLine place.servers place.before l wrong) line c.in_ok-wrong.ensures)),
    )
