use Rattle.std.proofs.Common.{◌≡◌, ℕ, List, Option, Some, None, true, false, refl, sym, ap, ◌∙◌, subst}
use Rattle.serve_wire.specs.Events.{WireEvent}
use Rattle.serve_links.specs.declared.link.Link.{Link}
use Rattle.serve_proxy.specs.Ends.{over_by, over_of, unless_full, LineStandsUnless}
use Rattle.wire_parts.specs.Sending.{bytes_of}
use Rattle.serve_wire.specs.declared.conn.conn.Got.{Got}
use Rattle.serve_wire.specs.declared.conn.conn.Got.TheVariants as got
use Rattle.serve_links.proofs.Reading.{came, came_some}
use Rattle.serve_wire.proofs.Steps.{untouched}
use Rattle.serve_links.proofs.LinkGoes.{line_then, line_keeps}
use Rattle.serve_proxy.proofs.Staying.{line_read, line_unread, line_stands}
use Rattle.serve_proxy.proofs.Linking.{line_same}
use Rattle.serve_proxy.proofs.answers.read_line.Goals as goal

none_some : {what : Got} → None ≡ Some what → ⊥
none_some e = cc

-- of an end that holds less than it may
never_full : (what : Got) → unless_full what ≡ Some got.Full → ⊥
never_full got.Bytes e = cc
never_full got.Nothing e = cc
never_full got.Full e = cc
never_full got.Ended e = cc
never_full got.Failed e = cc

bytes_came : (what : Got) → unless_full what ≡ Some got.Bytes → what ≡ got.Bytes
bytes_came got.Bytes e = refl
bytes_came got.Nothing e = cc
bytes_came got.Full e = cc
bytes_came got.Ended e = cc
bytes_came got.Failed e = cc

over_unless : (what : Got) → over_of (unless_full what) ≡ over_by what
over_unless got.Bytes = refl
over_unless got.Nothing = refl
over_unless got.Full = refl
over_unless got.Ended = refl
over_unless got.Failed = refl

read_unless : (at : ℕ) (h h' : List WireEvent) (x y : Link) (what : Got) (told : Option Got) → told ≡ unless_full what → LineStandsUnless (over_by what) at h h' x y → LineStandsUnless (over_of told) at h h' x y
read_unless at h h' x y what told is s = subst (λ o. LineStandsUnless o at h h' x y) (sym (ap over_of is ∙ over_unless what)) s

pub returns-in_default : goal.returns-in_default
returns-in_default g c = record { stands = λ at. line_stands at _ c.args.link.now c.args.link.now refl; came = λ is. absurd (none_some is); full = λ is. absurd (none_some is); rest = refl }

pub returns-then-not-conn : goal.returns-then-not-conn
returns-then-not-conn g c = record { stands = λ at. line_stands at _ c.args.link.now (record c.args.link.now { conn = Some c.in-Some.conn.now }) (line_same c.args.link.now (record c.args.link.now { conn = Some c.in-Some.conn.now }) c.in-Some.conn.now c.in-Some.conn.now (sym c.in-Some.ensures.value) refl refl refl refl refl); came = λ is. absurd (none_some is); full = λ is. absurd (none_some is); rest = refl }

pub returns-then-len-ge-MOST_HELD-clause-stands : goal.returns-then-len-ge-MOST_HELD-clause-stands
returns-then-len-ge-MOST_HELD-clause-stands g c = λ at. line_stands at _ c.args.link.now (record c.args.link.now { conn = Some c.in-Some.conn.now }) (line_same c.args.link.now (record c.args.link.now { conn = Some c.in-Some.conn.now }) c.in-Some.conn.now c.in-Some.conn.now (sym c.in-Some.ensures.value) refl refl refl refl refl)

pub returns-in-Ok : goal.returns-in-Ok
returns-in-Ok g c = record {
  stands = λ at. read_unless at _ _ c.args.link.now (record c.args.link.now { conn = Some c.read_into.new.conn; is_starved = false }) c.in-Ok.got c.unless_full.result c.unless_full.ensures
      (λ core. line_then (line_keeps {y = record c.args.link.now { is_starved = false }} (λ d. untouched d _) refl) (line_read at _ _ (record c.args.link.now { is_starved = false }) (record c.args.link.now { conn = Some c.read_into.new.conn; is_starved = false }) c.in-Some.conn.now c.read_into.new.conn _ c.in-Ok.got (sym c.in-Some.ensures.value) refl c.read_into.ensures.number (ap bytes_of c.read_into.ensures.unsent) c.in-Ok.ensures.ok core));
  came = λ is. came_some _ _ _ c.in-Ok.got c.read_into.new.conn.held.items _ _ (bytes_came c.in-Ok.got (sym c.unless_full.ensures ∙ is)) c.in-Ok.ensures.ok;
  full = λ is. absurd (never_full c.in-Ok.got (sym c.unless_full.ensures ∙ is));
  rest = refl;
}

pub returns-in-Err-clause-stands : goal.returns-in-Err-clause-stands
returns-in-Err-clause-stands g c = λ at. λ core. line_then (line_keeps {y = record c.args.link.now { is_starved = true }} (λ d. untouched d _) refl) (line_unread at _ _ (record c.args.link.now { is_starved = true }) (record c.args.link.now { conn = Some c.read_into.new.conn; is_starved = true }) c.in-Some.conn.now c.read_into.new.conn (sym c.in-Some.ensures.value) refl c.read_into.ensures.number (ap bytes_of c.read_into.ensures.unsent) (came c.read_into.result _ _ _ _ _ _ c.read_into.ensures.ok c.read_into.ensures.err) c.in-Err.ensures.err.1 core)
