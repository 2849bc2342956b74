-- Connections that can't be kept, and whose end is awaited.
use Rattle.std.proofs.Common.{◌≡◌, ℕ, List, [], Option, Some, None, inl, inr, refl, sym, ap, ◌∙◌, subst, arith}
use Rattle.std.specs.Prelude.{IfSome}
use Rattle.std.specs.Option.{option_map}
use Rattle.wire_parts.specs.Sending.{bytes_of}
use Rattle.serve_wire.specs.Events.{WireEvent}
use Rattle.serve_wire.specs.Flow.{ReadsOn}
use Rattle.serve_wire.specs.Calls.{Closes}
use Rattle.serve_wire.specs.Agreement.{IsUntouched}
use Rattle.serve_wire.specs.declared.conn.conn.Conn.{Conn}
use Rattle.serve_wire.specs.declared.conn.conn.Got.TheVariants as got
use Rattle.serve_wire.proofs.Flows.{reads_on}
use Rattle.serve_wire.proofs.Steps.{untouched}
use Rattle.serve_links.specs.declared.link.Link.{Link}
use Rattle.serve_links.specs.declared.news.Cause.{Cause}
use Rattle.serve_links.specs.declared.news.Cause.TheVariants as causes
use Rattle.serve_links.specs.Lines.{ReadsAway, DrainsAt, DrainsBy}
use Rattle.serve_links.specs.Shut.{drain_of}
use Rattle.serve_links.specs.Talks.{Talk, Apart, standing_after}
use Rattle.serve_links.specs.Story.{said_asks, said_late, server_and_opened, LineState, line_of, ShowsWhy, LineGoes}
use Rattle.serve_links.specs.CoreSteps.{IsSending}
use Rattle.core_accepted.specs.declared.served.ServedCore.{ServedCore}
use Rattle.serve_links.proofs.LinkGoes.{line_keeps, line_away, line_ends}
use Rattle.serve_proxy.specs.Ends.{LineStands}

none_some : {A : Type 0} {x : A} → None ≡ Some x → ⊥
none_some e = cc

-- nothing came
nothing_read : (c : ℕ) (h : List WireEvent) → ReadsOn c [] [] h h
nothing_read c h = reads_on c 1 [] got.Nothing [] h h (omega arith, refl, refl)

quiet_as : (h k : List WireEvent) → k ≡ h → (d : ℕ) → IsUntouched d h k
quiet_as h k same d = subst (IsUntouched d h) (sym same) (untouched d h)

-- a link that awaits the end of the same connection
line_drain : (x y : Link) → y ≡ record x { draining = y.draining } → drain_of y ≡ drain_of x → line_of y ≡ line_of x
line_drain x y is same =
    ap line_of is
    ∙ ap (λ (o : Option ℕ). let s : LineState = (server_and_opened x, option_map {U = ℕ × List ℕ × List ℕ} (λ (z : Conn). (z.number, z.held.items, bytes_of z.unsent)) x.conn, said_asks x.calls.sent.items, x.waiting, x.awaits_dialect, x.dialect, said_late x.late.items, o) in s) same

-- why it is to be closed, and what the wire shows of that
read_over : (cause : Cause) (c : ℕ) (h k : List WireEvent) → ReadsAway (Some cause) c h k → (standing_after (Some cause) ≡ Apart) × ReadsOn c [] [] h k × ((limit : ℕ) (t : Talk) → ShowsWhy (Some cause) limit t c k)
read_over causes.Closed c h k noted = (refl, reads_on c 1 [] got.Ended [] h k (omega arith, refl, noted), λ limit t. ([], h, noted))
read_over causes.Broken c h k noted = (refl, reads_on c 1 [] got.Failed [] h k (omega arith, refl, noted), λ limit t. ([], h, noted))
read_over causes.Unreachable c h k never = absurd never
read_over causes.ConnectLate c h k never = absurd never
read_over causes.AnswerLate c h k never = absurd never
read_over causes.ForeignAnswer c h k never = absurd never
read_over causes.NoRoom c h k never = absurd never
read_over causes.VainReads c h k never = absurd never

-- it was read, and stands
pub drains_so : (at : ℕ) (h k : List WireEvent) (x m : Link) (v : Option Cause) → v ≡ None → DrainsBy v x m h k → LineStands at h k x m
drains_so at h k x m v is did = λ core. by core x.draining refl m.draining refl (subst (λ w. DrainsAt w x.conn x.draining m.draining h k) is did.1)
  where
    by : (core : ServedCore) (o : Option Conn) → x.draining ≡ o → (p : Option Conn) → m.draining ≡ p → DrainsAt None x.conn o p h k → LineGoes IsSending at core h x core k m
    by core None e p f at_none = line_keeps (quiet_as h k at_none.2) (line_drain x m did.0 (ap (option_map (λ (z : Conn). z.number)) (f ∙ at_none.1 ∙ sym e)))
    by core (Some c) e None f never = absurd never
    by core (Some c) e (Some d) f (inl unread) =
        line_keeps (quiet_as h k unread.2) (line_drain x m did.0 (ap (option_map (λ (z : Conn). z.number)) f ∙ ap (λ n. Some n) unread.1 ∙ sym (ap (option_map (λ (z : Conn). z.number)) e)))
    by core (Some c) e (Some d) f (inr read) = line_away x m c d read.1.1.0 read.0 e (did.0 ∙ ap (λ (o : Option Conn). record x { draining = o }) f) read.1.0 read.1.1.1

-- it was read, has ended or failed, and was closed
pub ends_so :
    (at : ℕ) (h k h' : List WireEvent) (x m y : Link) (v : Option Cause) (cause : Cause) (r : Option ℕ) → v ≡ Some cause → DrainsBy v x m h k → r ≡ option_map (λ (z : Conn). z.number) m.draining → y ≡ record m { draining = None }
    → IfSome r (λ c. Closes c k h') → LineStands at h h' x y
ends_so at h k h' x m y v cause r is did r_is y_is closes_it = λ core. by core x.draining refl m.draining refl (subst (λ w. DrainsAt w x.conn x.draining m.draining h k) is did.1)
  where
    by : (core : ServedCore) (o : Option Conn) → x.draining ≡ o → (p : Option Conn) → m.draining ≡ p → DrainsAt (Some cause) x.conn o p h k → LineGoes IsSending at core h x core h' y
    by core None e p f unread = absurd (none_some (sym unread.0))
    by core (Some c) e None f never = absurd never
    by core (Some c) e (Some d) f (inl unread) = absurd (none_some (sym unread.0))
    by core (Some c) e (Some d) f (inr read) =
        let over = read_over cause c.number h k read.1.1 in
        line_ends (Some cause) (λ limit. refl) over.0 x y c read.0 e (y_is ∙ ap (λ (z : Link). record z { draining = None }) did.0) over.1 (λ limit t ending. over.2 limit t)
        (subst (λ n. Closes n k h') read.1.0 (subst (λ o. IfSome o (λ n. Closes n k h')) (r_is ∙ ap (option_map (λ (z : Conn). z.number)) f) closes_it))

-- its end is awaited no longer, and it was closed
pub stops_so :
    (at : ℕ) (h h' : List WireEvent) (x y : Link) (r : Option ℕ) → x.conn ≡ None → r ≡ option_map (λ (z : Conn). z.number) x.draining → y ≡ record x { draining = None } → IfSome r (λ c. Closes c h h') → (r ≡ None → h' ≡ h)
    → LineStands at h h' x y
stops_so at h h' x y r none r_is y_is closes_it still = λ core. by core x.draining refl
  where
    by : (core : ServedCore) (o : Option Conn) → x.draining ≡ o → LineGoes IsSending at core h x core h' y
    by core None e =
        line_keeps (quiet_as h h' (still (r_is ∙ ap (option_map (λ (z : Conn). z.number)) e))) (ap line_of y_is ∙ ap line_of (ap (λ (o : Option Conn). record x { draining = o }) (sym e)))
    by core (Some c) e =
        line_ends (Some causes.AnswerLate) (λ limit. refl) refl x y c none e y_is (nothing_read c.number h) (λ limit t ending. inr (inr ending))
        (subst (λ o. IfSome o (λ n. Closes n h h')) (r_is ∙ ap (option_map (λ (z : Conn). z.number)) e) closes_it)
