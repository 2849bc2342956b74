-- What a server tells over its link's connection.
use Rattle.std.proofs.Common.{◌≡◌, ℕ, suc, ◌+◌, ◌-◌, ◌≤◌, Bool, true, false, not, codes, None, List, [], ◌∷◌, ◌++◌, length, take, drop, length-append, append_assoc, Some, refl, sym, ap, ◌∙◌, subst, inr, arith}
use Rattle.std.specs.Str.{bytes_eq}
use Rattle.std.proofs.lemmas.List.{take-append-drop, take-append-le, take_all, length-drop}
use Rattle.std.proofs.lemmas.Slice.Eq.{bytes_eq-Decides}
use Rattle.std.proofs.Math.Seq.{take-append-add}
use Rattle.text_words.specs.Line.{LF}
use Rattle.mc_types.specs.declared.ask.Dialect.{Dialect}
use Rattle.wire_stream.specs.Learning.{IsDialectLine, TellsDialect}
use Rattle.wire_stream.specs.declared.meta_gets.dialect.DialectRead.{DialectRead}
use Rattle.wire_stream.specs.declared.meta_gets.dialect.DialectRead.TheVariants as reads
use Rattle.serve_wire.specs.declared.conn.conn.Conn.{Conn}
use Rattle.serve_links.specs.declared.link.Link.{Link}
use Rattle.serve_links.specs.Dialects.{IsGreeting, flushed_of, Greets, GreetsNone, TellsIn, ReadsDialect, ReadsGreeting, four_more}
use Rattle.serve_links.specs.declared.settings.Greeting.{Greeting}
use Rattle.serve_links.specs.declared.settings.ServerDialect.TheVariants as asks
use Rattle.serve_links.specs.Lines.{TakesGreeting, Learns}

first_line : (text rest : List ℕ) → take (length text + 1) (text ++ LF ∷ rest) ≡ text ++ LF ∷ []
first_line text rest = take-append-add text (LF ∷ rest) 1

line_length : (text : List ℕ) → length (text ++ LF ∷ []) ≡ length text + 1
line_length [] = refl
line_length (b ∷ text) = let e = line_length text in omega arith

-- the first so many bytes tell of the dialect, whatever follows them
front_greets : (bytes : List ℕ) (dialect : Dialect) (used : ℕ) → IsDialectLine bytes dialect used → IsGreeting dialect (take used bytes)
front_greets bytes dialect used is = record {
  text = is.text;
  rest = [];
  line = record { whole = front; one = is.line.one; short = is.line.short };
  says = is.says;
  used_is = ap length front ∙ line_length is.text;
}
  where
    front : take used bytes ≡ is.text ++ LF ∷ []
    front = ap (λ n. take n bytes) is.used_is ∙ ap (take (length is.text + 1)) is.line.whole ∙ first_line is.text is.rest

-- and they are no more than there are
used_within : (bytes : List ℕ) (dialect : Dialect) (used : ℕ) → IsDialectLine bytes dialect used → used ≤ length bytes
used_within bytes dialect used is =
    let whole : length bytes ≡ length is.text + suc (length is.rest) = ap length is.line.whole ∙ length-append is.text (LF ∷ is.rest) in
    let e : used ≡ length is.text + 1 = is.used_is in
    omega (arith, whole, e)

-- whatever follows that line
tells_over : (told rest : List ℕ) (dialect : Dialect) → IsGreeting dialect told → IsDialectLine (told ++ rest) dialect (length told)
tells_over told rest dialect is = record {
  text = is.text;
  rest = is.rest ++ rest;
  line = record { whole = ap (λ l. l ++ rest) is.line.whole ∙ append_assoc is.text (LF ∷ is.rest) rest; one = is.line.one; short = is.line.short };
  says = is.says;
  used_is = is.used_is;
}

-- so it is with what is read of them
pub reads_dialect : (bytes : List ℕ) (read : DialectRead) → TellsDialect bytes read → ReadsDialect asks.Auto bytes read
reads_dialect bytes (reads.Told dialect used) is = (used_within bytes dialect used is, front_greets bytes dialect used is)
reads_dialect bytes reads.More is = tt
reads_dialect bytes reads.Neither is = λ more dialect told rest e tells. is.1 more dialect (length told) (subst (λ l. IsDialectLine l dialect (length told)) (sym e) (tells_over told rest dialect tells))

-- where nothing is to be said before
pub reads_alone : (greeting : Greeting) (bytes : List ℕ) (read : DialectRead) → greeting.flushes ≡ false → ReadsDialect greeting.dialect bytes read → ReadsGreeting greeting bytes read
reads_alone greeting bytes (reads.Told dialect used) off is = (is.0, (take used bytes, ap (λ b. flushed_of b ++ take used bytes) (sym off), is.1))
reads_alone greeting bytes reads.More off is = tt
reads_alone greeting bytes reads.Neither off is = λ more dialect said rest e greets. is more dialect said rest e (subst (TellsIn greeting.dialect dialect) (sym (greets.1 ∙ ap (λ b. flushed_of b ++ greets.0) off)) greets.2)

-- where it is said that the server has emptied itself, what stands behind that
pub reads_behind : (greeting : Greeting) (rest : List ℕ) (read : DialectRead) → greeting.flushes ≡ true → ReadsDialect greeting.dialect rest read → ReadsGreeting greeting (codes "OK\r\n" ++ rest) (four_more read)
reads_behind greeting rest (reads.Told dialect used) on is =
    let front : take (used + 4) (codes "OK\r\n" ++ rest) ≡ codes "OK\r\n" ++ take used rest = ap (λ n. take n (codes "OK\r\n" ++ rest)) (plus_four used) in
    (within used rest is.0, (take used rest, front ∙ ap (λ b. flushed_of b ++ take used rest) (sym on), is.1))
  where
    plus_four : (n : ℕ) → n + 4 ≡ suc (suc (suc (suc n)))
    plus_four n = omega arith

    within : (n : ℕ) (l : List ℕ) → n ≤ length l → n + 4 ≤ length (codes "OK\r\n" ++ l)
    within n l le = omega (arith, le)
reads_behind greeting rest reads.More on is = tt
reads_behind greeting rest reads.Neither on is = λ more dialect said later e greets.
    is more dialect greets.0 later (ap (drop 4) (e ∙ ap (λ l. l ++ later) (greets.1 ∙ ap (λ b. flushed_of b ++ greets.0) on))) greets.2

-- where the first four bytes don't say it, nothing does
pub never_flushed : (greeting : Greeting) (bytes : List ℕ) → greeting.flushes ≡ true → 4 ≤ length bytes → bytes_eq (take 4 bytes) (codes "OK\r\n") ≡ false → GreetsNone greeting bytes
never_flushed greeting bytes on long not more dialect said rest e greets = false_true (sym not ∙ (bytes_eq-Decides (take 4 bytes) (codes "OK\r\n")).1 front)
  where
    false_true : false ≡ true → ⊥
    false_true e = cc

    front : take 4 bytes ≡ codes "OK\r\n"
    front = sym (take-append-le 4 bytes more long) ∙ ap (take 4) (e ∙ ap (λ l. l ++ rest) (greets.1 ∙ ap (λ b. flushed_of b ++ greets.0) on))

-- all that stands behind a place
pub rest_of : (i : ℕ) (l : List ℕ) → take (length l - i) (drop i l) ≡ drop i l
rest_of i l = take_all (length l - i) (drop i l) (let e = length-drop i l in omega (arith, e))

pub not_not : (b : Bool) → not b ≡ false → b ≡ true
not_not true e = refl
not_not false e = absurd cc

-- where the first four bytes say it, what stands behind them
pub reads_flushed : (greeting : Greeting) (bytes : List ℕ) (read : DialectRead) → greeting.flushes ≡ true → bytes_eq (take 4 bytes) (codes "OK\r\n") ≡ true → ReadsDialect greeting.dialect (drop 4 bytes) read → ReadsGreeting greeting bytes (four_more read)
reads_flushed greeting bytes read on says is =
    let front : take 4 bytes ≡ codes "OK\r\n" = (bytes_eq-Decides (take 4 bytes) (codes "OK\r\n")).0 says in
    let whole : bytes ≡ codes "OK\r\n" ++ drop 4 bytes = sym (take-append-drop 4 bytes) ∙ ap (λ l. l ++ drop 4 bytes) front in
    subst (λ b. ReadsGreeting greeting b (four_more read)) (sym whole) (reads_behind greeting (drop 4 bytes) read on is)

-- they are held no more
pub learns_told :
    (x y : Link) (c d : Conn) (greeting : Greeting) (used : ℕ) → x.conn ≡ Some c → y.conn ≡ Some d → x.awaits_dialect ≡ Some greeting → Greets greeting y.dialect (take used c.held.items) → d.held.items ≡ drop used c.held.items → d ≡ record c { held = d.held }
    → y ≡ record x { conn = y.conn; dialect = y.dialect; awaits_dialect = y.awaits_dialect; flushes = y.flushes } → y.awaits_dialect ≡ None → y.flushes ≡ false → Learns true x y
learns_told x y c d greeting used was is awaited tells left same rest learnt emptied = record {
  none = λ off. absurd cc;
  told = inr
      (record {
        takes = subst (λ o. TakesGreeting x.awaits_dialect y.dialect o y.conn) (sym was)
            (subst (λ o. TakesGreeting x.awaits_dialect y.dialect (Some c) o) (sym is)
            (subst (λ o. TakesGreeting o y.dialect (Some c) (Some d)) (sym awaited)
            (take used c.held.items, sym (take-append-drop used c.held.items) ∙ ap (λ l. take used c.held.items ++ l) (sym left), tells, same)));
        told = learnt;
        emptied = emptied;
        rest = rest;
      });
}
