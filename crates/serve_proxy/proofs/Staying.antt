-- What stays of the ends of a proxy, and the links one by one.
use Rattle.std.proofs.Common.{◌≡◌, ℕ, zero, suc, Bool, true, false, List, [], ◌∷◌, get_or, Option, Some, None, refl, sym, ap, ◌∙◌, subst}
use Rattle.std.proofs.Math.ListN.{set}
use Rattle.wire_parts.specs.Sending.{bytes_of}
use Rattle.serve_wire.specs.Events.{WireEvent}
use Rattle.serve_wire.specs.Events.{is_over}
use Rattle.serve_wire.specs.Flow.{ReadsOn, SendsOn, Stands, HasJustFailed}
use Rattle.serve_wire.specs.Ends.{ReadsConnection}
use Rattle.serve_wire.specs.declared.conn.conn.Got.{Got}
use Rattle.serve_wire.specs.declared.conn.conn.Got.TheVariants as got
use Rattle.serve_wire.proofs.Flows.{reads_on}
use Rattle.serve_links.specs.declared.news.Cause.TheVariants as causes
use Rattle.serve_wire.proofs.Steps.{untouched, untouched_twice}
use Rattle.serve_wire.specs.declared.conn.conn.Conn.{Conn}
use Rattle.serve_clients.specs.declared.clients.Clients.{Clients}
use Rattle.serve_clients.specs.Agrees.{KeepsEnds}
use Rattle.serve_clients.specs.Marks.{AreAlike}
use Rattle.serve_clients.proofs.Agreeing.{keeps_none, keeps_twice, keeps_alike}
use Rattle.serve_links.specs.declared.settings.ServerDialect.{ServerDialect}
use Rattle.serve_links.specs.declared.settings.LinkLimits.{LinkLimits}
use Rattle.serve_links.specs.declared.link.Link.{Link}
use Rattle.serve_links.specs.declared.link.Opening.{Opening}
use Rattle.std.specs.Option.{is_some}
use Rattle.serve_links.specs.Lines.{SameLine, KeepsLines, OpensLink}
use Rattle.serve_links.specs.Story.{address_and_limits, line_of}
use Rattle.serve_links.proofs.LinkGoes.{keeps_line, line_keeps, line_reads, line_reads_over, line_sends, line_sends_over, line_opens as line_begins, line_shuts}
use Rattle.serve_proxy.specs.Limiting.{limited_by}
use Rattle.serve_proxy.specs.Ends.{link_lines, with_limits, over_by, broken_unless, WireIsQuiet, EndsStay, LineStands, LineStandsUnless}

-- ---- lines of links

-- a link that stands where another stood, with the same line
pub line_lent : (links : List Link) (at : ℕ) (x y : Link) → x ≡ get_or links at x → line_of y ≡ line_of x → link_lines (set links at y) ≡ link_lines links
line_lent [] at x y was same = refl
line_lent (first ∷ links) zero x y was same = ap (λ l. l ∷ link_lines links) (same ∙ ap line_of was)
line_lent (first ∷ links) (suc at) x y was same = ap (λ ls. line_of first ∷ ls) (line_lent links at x y was same)

-- a link that keeps its lines has the line that it had
pub kept_line : (x y : Link) → KeepsLines x y → line_of y ≡ line_of x
kept_line x y keeps = keeps_line x y keeps

-- ---- one link's end

-- it has the line that it had
pub line_stands : (at : ℕ) (h : List WireEvent) (x y : Link) → line_of y ≡ line_of x → LineStands at h h x y
line_stands at h x y same = λ core. line_keeps (λ d. untouched d h) same

-- its connection was read, which gave this
pub line_read :
    (at : ℕ) (h h' : List WireEvent) (x y : Link) (c d : Conn) (limit : ℕ) (what : Got) → x.conn ≡ Some c → y ≡ record x { conn = Some d } → d.number ≡ c.number → bytes_of d.unsent ≡ bytes_of c.unsent
    → ReadsConnection c.number limit c.held.items what d.held.items h h' → LineStandsUnless (over_by what) at h h' x y
line_read at h h' x y c d limit got.Bytes was is number unsent r = λ core. line_reads x y c d was is number unsent (reads_on c.number limit c.held.items got.Bytes d.held.items h h' r) (ap (is_over c.number) r.1.noted)
line_read at h h' x y c d limit got.Nothing was is number unsent r = λ core. line_reads x y c d was is number unsent (reads_on c.number limit c.held.items got.Nothing d.held.items h h' r) (ap (is_over c.number) r.2)
line_read at h h' x y c d limit got.Full was is number unsent r = λ core. line_reads x y c d was is number unsent (reads_on c.number limit c.held.items got.Full d.held.items h h' r) (ap (is_over c.number) r.2)
line_read at h h' x y c d limit got.Ended was is number unsent r = λ core. line_reads_over (Some causes.Closed) x y c d was is number unsent (reads_on c.number limit c.held.items got.Ended d.held.items h h' r) (λ most t. ([], h, r.2))
line_read at h h' x y c d limit got.Failed was is number unsent r = λ core. line_reads_over (Some causes.Broken) x y c d was is number unsent (reads_on c.number limit c.held.items got.Failed d.held.items h h' r) (λ most t. ([], h, r.2))

-- it was not, as memory was refused
pub line_unread :
    (at : ℕ) (h h' : List WireEvent) (x y : Link) (c d : Conn) → x.conn ≡ Some c → y ≡ record x { conn = Some d } → d.number ≡ c.number → bytes_of d.unsent ≡ bytes_of c.unsent → ReadsOn c.number c.held.items d.held.items h h' → h' ≡ h
    → LineStands at h h' x y
line_unread at h h' x y c d was is number unsent r same = λ core. line_reads x y c d was is number unsent r (ap (is_over c.number) same)

-- what was to be sent went, as far as it was taken, and it stands still or has failed
pub line_sent :
    (at : ℕ) (h h' : List WireEvent) (x y : Link) (c d : Conn) (has_sent : Bool) → x.conn ≡ Some c → y ≡ record x { conn = Some d } → d.number ≡ c.number → d.held.items ≡ c.held.items
    → SendsOn c.number (bytes_of c.unsent) (bytes_of d.unsent) h h' → (has_sent ≡ true → Stands c.number h h') → (has_sent ≡ false → HasJustFailed c.number h') → LineStandsUnless (broken_unless has_sent) at h h' x y
line_sent at h h' x y c d true was is number held s stands failed = λ core. line_sends x y c d was is number held s (stands refl)
line_sent at h h' x y c d false was is number held s stands failed = λ core. line_sends_over (Some causes.Broken) x y c d was is number held s (λ limit t. ([], (failed refl).0, (failed refl).1))

pub not_some : {A : Type 0} (o : Option A) → is_some o ≡ false → o ≡ None
not_some None is = refl
not_some (Some x) is = absurd (true_false is)
  where
    true_false : true ≡ false → ⊥
    true_false e = cc

-- where there was no connection, none is kept
pub none_kept : (o p : Option Conn) → o ≡ None → SameLine o p → p ≡ None
none_kept None p none same = same
none_kept (Some c) p none same = absurd (some_none none)
  where
    some_none : {x : Conn} → Some x ≡ None → ⊥
    some_none e = cc

-- a connection was begun
pub line_opens : (at : ℕ) (dialect : ServerDialect) (what : Opening) (h h' : List WireEvent) (x y : Link) → OpensLink at dialect what x y h h' → LineStands at h h' x y
line_opens at dialect what h h' x y o = λ core. line_begins x y dialect what o

-- or none, and its calls fail for a while
pub line_opens_not :
    (at : ℕ) (dialect : ServerDialect) (what : Opening) (h h' : List WireEvent) (x y z : Link) → OpensLink at dialect what x y h h' → y.conn ≡ None → z.conn ≡ None → z.draining ≡ y.draining → address_and_limits z ≡ address_and_limits y → z.waiting ≡ y.waiting → z.calls.sent.items ≡ y.calls.sent.items → z.lost ≡ y.lost → LineStands at h h' x z
line_opens_not at dialect what h h' x y z o none closed draining server waiting sent lost = λ core. line_shuts (line_begins x y dialect what o) none closed draining server waiting sent lost

-- ---- all ends

pub quiet : (h : List WireEvent) → WireIsQuiet h h
quiet h = λ d. untouched d h

pub quiet_as : (h h' : List WireEvent) → h' ≡ h → WireIsQuiet h h'
quiet_as h h' same = subst (WireIsQuiet h) (sym same) (quiet h)

-- nothing was done
pub stay_still : (h : List WireEvent) (cs : Clients) (ls : List Link) → EndsStay h h cs cs ls ls
stay_still h cs ls = record { quiet = quiet h; clients = keeps_none cs; links = refl }

pub stay_clients : (h : List WireEvent) (cs cs' : Clients) (ls : List Link) → KeepsEnds cs cs' → EndsStay h h cs cs' ls ls
stay_clients h cs cs' ls keeps = record { quiet = quiet h; clients = keeps; links = refl }

-- as many, and each as it was
pub stay_alike : {h : List WireEvent} {ls : List Link} {cs cs' : Clients} → AreAlike cs cs' → EndsStay h h cs cs' ls ls
stay_alike {h} {ls} {cs} {cs'} alike = stay_clients h cs cs' ls (keeps_alike cs cs' alike)

pub stay_links : (h : List WireEvent) (cs : Clients) (ls ls' : List Link) → link_lines ls' ≡ link_lines ls → EndsStay h h cs cs ls ls'
stay_links h cs ls ls' keeps = record { quiet = quiet h; clients = keeps_none cs; links = keeps }

-- one after another
pub stay_then :
    {h h' h'' : List WireEvent} {cs cs' cs'' : Clients} {ls ls' ls'' : List Link} → EndsStay h h' cs cs' ls ls' → EndsStay h' h'' cs' cs'' ls' ls'' → EndsStay h h'' cs cs'' ls ls''
stay_then {h} {h'} {h''} {cs} {cs'} {cs''} a b = record { quiet = λ d. untouched_twice d h h' h'' (a.quiet d) (b.quiet d); clients = keeps_twice cs cs' cs'' a.clients b.clients; links = b.links ∙ a.links }

-- ---- limits

with_twice : (any : LinkLimits) (limits : List ℕ → LinkLimits) (links : List Link) → with_limits any (limited_by limits links) ≡ with_limits any links
with_twice any limits [] = refl
with_twice any limits (link ∷ links) = ap (λ ls. record link { limits = any } ∷ ls) (with_twice any limits links)

-- all have others, and nothing else of them has changed
pub stay_limits : (h : List WireEvent) (cs : Clients) (limits : List ℕ → LinkLimits) (ls ls' : List Link) → ls' ≡ limited_by limits ls → (any : LinkLimits) → EndsStay h h cs cs (with_limits any ls) (with_limits any ls')
stay_limits h cs limits ls ls' same any = stay_links h cs (with_limits any ls) (with_limits any ls') (ap (λ l. link_lines (with_limits any l)) same ∙ ap link_lines (with_twice any limits ls))
