use Rattle.std.proofs.Common.{arith, Some, None}
use Rattle.std.proofs.lemmas.Str.Pattern.{split_once_first}
use Rattle.script_events.proofs.LineLemmas.{lines_found, no_line_found, few_found}
use Rattle.script_events.proofs.text.front.front_of.Goals as goal

pub returns-in-Some : goal.returns-in-Some
returns-in-Some c =
    let (inside, line-is, rest-is) = split_once_first 10 c.args.text.now (Some (c.in-Some.line, c.in-Some.rest)) c.in-Some.ensures.cases (omega arith) in
    record {
      lines = lines_found c.args.text.now c.in-Some.line.now c.in-Some.rest.now inside line-is rest-is;
      few = few_found c.args.text.now c.in-Some.line.now c.in-Some.rest.now inside line-is rest-is;
    }

pub returns-in-None-clause-lines : goal.returns-in-None-clause-lines
returns-in-None-clause-lines c = no_line_found c.args.text.now (split_once_first 10 c.args.text.now None c.in-None.ensures.cases (omega arith))
