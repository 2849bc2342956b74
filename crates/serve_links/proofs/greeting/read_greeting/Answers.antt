use Rattle.std.proofs.Common.{rules, arith, ◌≡◌, ◌≤◌, length, true, false, codes, take, sym, subst}
use Rattle.std.specs.Str.{bytes_eq}
use Rattle.serve_links.specs.Dialects.{ReadsDialect, ReadsGreeting}
use Rattle.serve_links.proofs.Ends.{not_not, never_flushed, reads_flushed, rest_of}
use Rattle.serve_links.proofs.greeting.read_greeting.Goals as goal

pub returns-then-not-is_flushed : goal.returns-then-not-is_flushed
returns-then-not-is_flushed c =
    let says : bytes_eq (take 4 c.args.bytes.now) (codes "OK\r\n") ≡ false = search rules in
    let long : 4 ≤ length c.args.bytes.now = omega arith in
    never_flushed c.args.greeting c.args.bytes.now (not_not c.args.greeting.flushes c.if-not-greeting.false) long says

pub returns : goal.returns
returns c =
    let says : bytes_eq (take 4 c.args.bytes.now) (codes "OK\r\n") ≡ true = search rules in
    subst (λ r. ReadsGreeting c.args.greeting c.args.bytes.now r) (sym c.four_more.ensures)
    (reads_flushed c.args.greeting c.args.bytes.now c.read_told-2.result (not_not c.args.greeting.flushes c.if-not-greeting.false) says
    (subst (λ l. ReadsDialect c.args.greeting.dialect l c.read_told-2.result) (rest_of 4 c.args.bytes.now) c.read_told-2.ensures))
