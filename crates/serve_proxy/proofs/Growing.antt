-- Links that come behind those that are there, and ends that begin.
use Rattle.std.proofs.Common.{◌≡◌, ◌⊎◌, inl, inr, ℕ, zero, suc, false, List, [], ◌∷◌, ◌++◌, take, length, Option, Some, None, refl, sym, ap, ◌∙◌, subst, append_assoc, append-nil, arith}
use Rattle.std.specs.Prelude.{slice_get, IfSome, map as each}
use Rattle.std.specs.Option.{option_map, option_flatten}
use Rattle.mc_types.specs.declared.ask.Dialect.{Dialect}
use Rattle.mc_types.specs.declared.ask.Dialect.TheVariants.{Classic}
use Rattle.route_tree.specs.Route.{Route}
use Rattle.route_json.specs.Configuration.{Configuration}
use Rattle.core_accepted.specs.declared.beginnings.Beginnings.{Beginnings}
use Rattle.serve_links.specs.declared.settings.Settings.{Settings}
use Rattle.core_accepted.specs.declared.served.ServedCore.{ServedCore}
use Rattle.core_accepted.specs.Loading.{IsLoaded}
use Rattle.wire_parts.specs.Sending.{bytes_of}
use Rattle.serve_wire.specs.Events.{WireEvent}
use Rattle.serve_wire.proofs.Steps.{untouched}
use Rattle.serve_wire.specs.declared.conn.conn.Conn.{Conn}
use Rattle.serve_clients.specs.declared.clients.Client.{Client}
use Rattle.serve_clients.specs.declared.clients.Clients.{Clients}
use Rattle.serve_clients.specs.Agrees.{EndAgrees}
use Rattle.serve_clients.specs.Marks.{client_of}
use Rattle.serve_links.specs.declared.calls.calls.SentCall.{SentCall}
use Rattle.serve_links.specs.declared.calls.late_call.LateCall.{LateCall}
use Rattle.serve_links.specs.declared.settings.LinkLimits.{LinkLimits}
use Rattle.serve_links.specs.declared.link.Link.{Link}
use Rattle.serve_links.specs.Links.{IsDown}
use Rattle.serve_links.specs.CoreSteps.{Step, Loaded, Walks, StepsAreOf}
use Rattle.serve_links.specs.declared.settings.Greeting.{Greeting}
use Rattle.serve_links.specs.Story.{fed_in, gave_in, ClientIsTold, said_asks, said_late, address_and_limits, server_and_opened, LineState, line_of, Unused, LineAgrees, LinesAgree, AnEnd, Agrees, AllGoFrom, AllGo, texts_of, servers_of, MayAllGo}
use Rattle.serve_links.specs.Shut.{drain_of, link_conn, IsShutBut}
use Rattle.serve_links.specs.Talks.{Apart, talk_in, AreDue, AreCalled, AreGivenUp, IsOrderly}
use Rattle.serve_links.specs.Called.{TellsCallsOut}
use Rattle.serve_links.proofs.Called.{walks_tell_calls}
use Rattle.serve_links.proofs.Shutting.{shut_quiet}
use Rattle.serve_links.proofs.Walked.{walked, of_both}
use Rattle.serve_proxy.specs.Ends.{link_lines, down_line, AddsLines, EndsStay, with_limits, AllGrowFrom, AllGrow, IsLoadOf, AllLoad, HasNoConns}
use Rattle.serve_proxy.specs.Limiting.{limited_by, AreLimited}
use Rattle.serve_proxy.specs.declared.sockets.Sockets.{Sockets}
use Rattle.serve_proxy.specs.declared.links.Links.{Links}
use Rattle.serve_proxy.specs.Beginning.{limits_by, BeginsFresh, BeginsUnchecked}
use Rattle.serve_proxy.proofs.Conns.{conns_grow}
use Rattle.serve_proxy.proofs.Going.{stays, agree_told, had_quiet, lines_told, get_line, texts_by_lines}
use Rattle.serve_proxy.proofs.Staying.{stay_links, stay_limits}
use Rattle.serve_links.proofs.LinkGoes.{as_tried, same_line, has_none}

-- ---- lines that are added

pub adds_none : (old new : List Link) → new ≡ old → AddsLines old new
adds_none old new same = ([], ap link_lines same ∙ sym (append-nil (link_lines old)))

-- the line of a link that is down
down_of : (link : Link) → IsDown link → link.draining ≡ None → link.late.items ≡ [] → link.awaits_dialect ≡ None → link.dialect ≡ Classic → link.opened ≡ 0 → link.lost ≡ 0 → line_of link ≡ down_line (address_and_limits link)
down_of link down undrained alone off classic unopened kept =
    ap (λ (o : Option Conn). let s : LineState = (server_and_opened link, option_map (λ (x : Conn). (x.number, x.held.items, bytes_of x.unsent)) o, said_asks link.calls.sent.items, link.waiting, link.awaits_dialect, link.dialect, said_late link.late.items, drain_of link) in s) down.closed
    ∙ ap (λ (l : List SentCall). let s : LineState = (server_and_opened link, None, said_asks l, link.waiting, link.awaits_dialect, link.dialect, said_late link.late.items, drain_of link) in s) down.sent
    ∙ ap (λ (l : List SentCall). let s : LineState = (server_and_opened link, None, [], l, link.awaits_dialect, link.dialect, said_late link.late.items, drain_of link) in s) down.waiting
    ∙ ap (λ (b : Option Greeting). let s : LineState = (server_and_opened link, None, [], [], b, link.dialect, said_late link.late.items, drain_of link) in s) off
    ∙ ap (λ (d : Dialect). let s : LineState = (server_and_opened link, None, [], [], None, d, said_late link.late.items, drain_of link) in s) classic ∙ ap (λ (l : List LateCall). let s : LineState = (server_and_opened link, None, [], [], None, Classic, said_late l, drain_of link) in s) alone
    ∙ ap (λ (o : Option Conn). let s : LineState = (server_and_opened link, None, [], [], None, Classic, [], option_map (λ (x : Conn). x.number) o) in s) undrained
    ∙ ap (λ (t : ℕ). let s : LineState = ((address_and_limits link, t, link.lost), None, [], [], None, Classic, [], None) in s) unopened
    ∙ ap (λ (n : ℕ). let s : LineState = ((address_and_limits link, 0, n), None, [], [], None, Classic, [], None) in s) kept

lines_more : (links : List Link) (link : Link) → link_lines (links ++ link ∷ []) ≡ link_lines links ++ line_of link ∷ []
lines_more [] link = refl
lines_more (x ∷ links) link = ap (λ l. line_of x ∷ l) (lines_more links link)

-- one without a connection
pub adds_one : (old new : List Link) (link : Link) → new ≡ old ++ link ∷ [] → IsDown link → link.draining ≡ None → link.late.items ≡ [] → link.awaits_dialect ≡ None → link.dialect ≡ Classic → link.opened ≡ 0 → link.lost ≡ 0 → AddsLines old new
adds_one old new link more down undrained alone off classic unopened kept = (address_and_limits link ∷ [], ap link_lines more ∙ lines_more old link ∙ ap (λ (s : LineState). link_lines old ++ s ∷ []) (down_of link down undrained alone off classic unopened kept))

down_both : (xs ys : List (List ℕ × LinkLimits)) → each down_line (xs ++ ys) ≡ each down_line xs ++ each down_line ys
down_both [] ys = refl
down_both (x ∷ xs) ys = ap (λ l. down_line x ∷ l) (down_both xs ys)

-- one after another
pub adds_twice : (a b c : List Link) → AddsLines a b → AddsLines b c → AddsLines a c
adds_twice a b c x y =
    (x.0 ++ y.0, y.1 ∙ ap (λ l. l ++ each down_line y.0) x.1 ∙ append_assoc (link_lines a) (each down_line x.0) (each down_line y.0) ∙ ap (λ l. link_lines a ++ l) (sym (down_both x.0 y.0)))

lines_taken : (n : ℕ) (links : List Link) → link_lines (take n links) ≡ take n (link_lines links)
lines_taken zero links = refl
lines_taken (suc n) [] = refl
lines_taken (suc n) (link ∷ links) = ap (λ l. line_of link ∷ l) (lines_taken n links)

taken_front : (links : List Link) (more : List LineState) → take (length links) (link_lines links ++ more) ≡ link_lines links
taken_front [] more = refl
taken_front (link ∷ links) more = ap (λ l. line_of link ∷ l) (taken_front links more)

-- only those that were there before are left
pub gone_back : (old mid new : List Link) (before : ℕ) → AddsLines old mid → before ≡ length old → new ≡ take before mid → link_lines new ≡ link_lines old
gone_back old mid new before adds is left =
    ap link_lines left ∙ lines_taken before mid ∙ ap (λ n. take n (link_lines mid)) is ∙ ap (take (length old)) adds.1 ∙ taken_front old (each down_line adds.0)

-- ---- ends of links that were added

same_some : {A : Type 0} {x y : A} → Some x ≡ Some y → x ≡ y
same_some e = cc

none_some : {A : Type 0} {x : A} → None ≡ Some x → ⊥
none_some e = cc

in_both : {A : Type 0} (xs ys : List A) (at : ℕ) (z : A) → slice_get (xs ++ ys) at ≡ Some z → (slice_get xs at ≡ Some z) ⊎ ((slice_get xs at ≡ None) × (k : ℕ) × (slice_get ys k ≡ Some z))
in_both [] ys at z is = inr (refl, at, is)
in_both (x ∷ xs) ys zero z is = inl is
in_both (x ∷ xs) ys (suc at) z is = in_both xs ys at z is

in_first : {A : Type 0} (xs ys : List A) (at : ℕ) → slice_get (xs ++ ys) at ≡ None → slice_get xs at ≡ None
in_first [] ys at none = refl
in_first (x ∷ xs) ys zero none = none
in_first (x ∷ xs) ys (suc at) none = in_first xs ys at none

is_down : (servers : List (List ℕ × LinkLimits)) (k : ℕ) (line : LineState) → slice_get (each down_line servers) k ≡ Some line → (line.1 ≡ None) × (line.3 ≡ []) × (line.2 ≡ []) × (line.7 ≡ None) × (line.0.2 ≡ 0)
is_down [] k line is = absurd (none_some is)
is_down (server ∷ servers) zero line is = (ap (λ (p : LineState). p.1) (sym (same_some is)), ap (λ (p : LineState). p.3) (sym (same_some is)), ap (λ (p : LineState). p.2) (sym (same_some is)), ap (λ (p : LineState). p.7) (sym (same_some is)), ap (λ (p : LineState). p.0.2) (sym (same_some is)))
is_down (server ∷ servers) (suc k) line is = is_down servers k line is

no_conn : (o : Option Conn) → option_map (λ (x : Conn). let e : ℕ × List ℕ × List ℕ = (x.number, x.held.items, bytes_of x.unsent) in e) o ≡ None → o ≡ None
no_conn None is = refl
no_conn (Some conn) is = absurd (none_some (sym is))

-- no link stands where no line does
none_of : (ls : List Link) (at : ℕ) → slice_get (link_lines ls) at ≡ None → slice_get ls at ≡ None
none_of ls at none = by (slice_get ls at) (get_line ls at ∙ none)
  where
    by : (o : Option Link) → option_map line_of o ≡ None → o ≡ None
    by None e = refl
    by (Some link) e = absurd (none_some (sym e))

-- nor where none stands among more
none_before : (ls ls' : List Link) → AddsLines ls ls' → (at : ℕ) → slice_get ls' at ≡ None → slice_get ls at ≡ None
none_before ls ls' adds at none = none_of ls at (in_first (link_lines ls) (each down_line adds.0) at (ap (λ l. slice_get l at) (sym adds.1) ∙ sym (get_line ls' at) ∙ ap (option_map line_of) none))

pub lines_grow : (h : List WireEvent) (past : List Step) (ls ls' : List Link) → AddsLines ls ls' → IsOrderly past → ((at : ℕ) → slice_get ls at ≡ None → ((talk_in past at).out ≡ []) × ((talk_in past at).stands ≡ Apart)) → LinesAgree past h ls → LinesAgree past h ls'
lines_grow h past ls ls' adds orderly unlinked was at link there = by (in_both (link_lines ls) (each down_line adds.0) at (line_of link) (ap (λ l. slice_get l at) (sym adds.1) ∙ sym (get_line ls' at) ∙ ap (option_map line_of) there))
  where
    of_old : (o : Option Link) → slice_get ls at ≡ o → option_map line_of o ≡ Some (line_of link) → LineAgrees at past h link
    of_old None e l = absurd (none_some l)
    of_old (Some x) e l = same_line at past h x link (sym (same_some l)) (was at x e)

    by : (slice_get (link_lines ls) at ≡ Some (line_of link)) ⊎ ((slice_get (link_lines ls) at ≡ None) × (k : ℕ) × (slice_get (each down_line adds.0) k ≡ Some (line_of link))) → LineAgrees at past h link
    by (inl old) = of_old (slice_get ls at) refl (get_line ls at ∙ old)
    by (inr new) = let down = is_down adds.0 new.1 (line_of link) new.2 in has_none at past h link (no_conn link.conn down.0) (subst (λ w. MayAllGo past at w) (sym down.1) tt) (subst (λ w. AreDue past at (said_asks w)) (sym down.1) tt) ((unlinked at (none_of ls at new.0)).0, subst (AreGivenUp past) (sym down.2) tt) (subst (Unused h at link.text.items (talk_in past at)) (sym down.3) (unlinked at (none_of ls at new.0)).1) (subst (λ l. AreCalled past at l) (sym down.2) tt) (as_tried down.4 refl (omega arith))

abbrev texts_in : List (List ℕ × LinkLimits) → List (List ℕ)
texts_in servers = each (λ (s : List ℕ × LinkLimits). s.0) servers

texts_both : (lines : List LineState) (servers : List (List ℕ × LinkLimits)) → each (λ (p : LineState). p.0.0.0) (lines ++ each down_line servers) ≡ each (λ (p : LineState). p.0.0.0) lines ++ texts_in servers
texts_both [] [] = refl
texts_both [] (server ∷ servers) = ap (λ l. server.0 ∷ l) (texts_both [] servers)
texts_both (line ∷ lines) servers = ap (λ l. line.0.0.0 ∷ l) (texts_both lines servers)

texts_grow : (ls ls' : List Link) (adds : AddsLines ls ls') → texts_of ls' ≡ texts_of ls ++ texts_in adds.0
texts_grow ls ls' adds =
    sym (texts_by_lines ls') ∙ ap (each (λ (p : LineState). p.0.0.0)) adds.1 ∙ texts_both (link_lines ls) adds.0 ∙ ap (λ l. l ++ texts_in adds.0) (texts_by_lines ls)

texts_by_servers : (links : List Link) → texts_in (servers_of links) ≡ texts_of links
texts_by_servers [] = refl
texts_by_servers (link ∷ links) = ap (λ l. link.text.items ∷ l) (texts_by_servers links)

texts_kept : (ls ls' : List Link) → servers_of ls' ≡ servers_of ls → texts_of ls' ≡ texts_of ls
texts_kept ls ls' same = sym (texts_by_servers ls') ∙ ap texts_in same ∙ texts_by_servers ls

-- ---- all ends

-- without more links
pub grows : {P Q : List Step → AnEnd → Type 0} {Is : Step → Type 0} {a b : AnEnd} → AllGoFrom P Q Is a b → AllGrowFrom P Q Is a b
grows {a = a} {b = b} g = record { steps = g.steps; kinds = g.kinds; walks = g.walks; agree = g.agree; texts = ([], texts_kept a.links b.links g.servers.same ∙ sym (append-nil (texts_of a.links))) }

-- one after another
unfoldable pub then_grows : {P Q R : List Step → AnEnd → Type 0} {Is : Step → Type 0} {a b c : AnEnd} → AllGrowFrom P Q Is a b → AllGrowFrom Q R Is b c → AllGrowFrom P R Is a c
then_grows {P} {Q} {R} {Is} {a} {b} {c} g k =
    record {
      steps = k.steps ++ g.steps;
      kinds = of_both Is k.steps g.steps k.kinds g.kinds;
      walks = walked k.steps g.steps a.core b.core c.core g.walks k.walks;
      agree = λ past was. subst (λ l. R l c) (sym (append_assoc k.steps g.steps past)) (k.agree (g.steps ++ past) (g.agree past was));
      texts = (g.texts.0 ++ k.texts.0, k.texts.1 ∙ ap (λ l. l ++ k.texts.0) g.texts.1 ∙ append_assoc (texts_of a.links) g.texts.0 k.texts.0);
    }

-- links were added
pub links_grow :
    {Is : Step → Type 0} {h : List WireEvent} {cs : Clients} {ls ls' : List Link} (core : ServedCore) → AddsLines ls ls'
    → AllGrow Is (record { core = core; history = h; clients = cs; links = ls }) (record { core = core; history = h; clients = cs; links = ls' })
links_grow {h = h} {ls = ls} {ls' = ls'} core adds =
    record { steps = []; kinds = tt; walks = refl; agree = λ past was. record { orderly = was.orderly; calls = was.calls; clients = was.clients; told = was.told; links = lines_grow h past ls ls' adds was.orderly was.unlinked was.links; gone = was.gone; shown = was.shown; shut = shut_quiet (λ d. untouched d h) (λ j. refl) (conns_grow ls ls' adds) was.shut; unlinked = λ at none. was.unlinked at (none_before ls ls' adds at none); clock = was.clock }; texts = (texts_in adds.0, texts_grow ls ls' adds) }

-- a configuration was loaded, which tells nothing of clients
pub load_grows :
    {h : List WireEvent} {cs : Clients} {ls : List Link} (configuration : Configuration) (generation : ℕ) (a b : ServedCore) → IsLoaded a configuration generation b
    → AllGrow (IsLoadOf configuration) (record { core = a; history = h; clients = cs; links = ls }) (record { core = b; history = h; clients = cs; links = ls })
load_grows {h} {cs} {ls} configuration generation a b loaded =
    record {
      steps = Loaded configuration generation ∷ [];
      kinds = ((generation, refl), tt);
      walks = (a, refl, loaded);
      agree = λ past was. record { orderly = (tt, was.orderly); calls = (walks_tell_calls.goes_on (Loaded configuration generation ∷ []) past a b was.calls (a, refl, loaded)).0; clients = agree_told h (fed_in past) (gave_in past) (fed_in (Loaded configuration generation ∷ past)) (gave_in (Loaded configuration generation ∷ past)) cs (λ j. (refl, refl)) was.clients; told = was.told; links = lines_told h (Loaded configuration generation ∷ []) past ls (tt, tt) (λ at n ask is. (refl, refl, refl)) was.links; gone = λ conn id is. had_quiet past (Loaded configuration generation ∷ []) h h cs cs id conn (untouched conn h) refl is was.gone; shown = (tt, was.shown); shut = was.shut; unlinked = was.unlinked; clock = was.clock };
      texts = ([], sym (append-nil (texts_of ls)));
    }

-- it was, or it is as it was
pub same_grows :
    {Is : Step → Type 0} {h : List WireEvent} {cs : Clients} {ls : List Link} (a b : ServedCore) → b ≡ a → AllGrow Is (record { core = a; history = h; clients = cs; links = ls }) (record { core = b; history = h; clients = cs; links = ls })
same_grows {Is} {h} {cs} {ls} a b same = record { steps = []; kinds = tt; walks = same; agree = λ past was. record { orderly = was.orderly; calls = subst (TellsCallsOut past) (sym same) was.calls; clients = was.clients; told = was.told; links = was.links; gone = was.gone; shown = was.shown; shut = was.shut; unlinked = was.unlinked; clock = was.clock }; texts = ([], sym (append-nil (texts_of ls))) }

-- from a core that is the same
pub grow_from :
    {Is : Step → Type 0} {h : List WireEvent} {cs : Clients} {ls : List Link} {a x : ServedCore} {b : AnEnd} → x ≡ a → AllGrow Is (record { core = x; history = h; clients = cs; links = ls }) b
    → AllGrow Is (record { core = a; history = h; clients = cs; links = ls }) b
grow_from {Is} {h} {cs} {ls} {a} {x} {b} same g = subst (λ y. AllGrow Is (record { core = y; history = h; clients = cs; links = ls }) b) same g

-- ---- links with other limits

-- where a link stands, it stands with other limits
get_limited : (any : LinkLimits) (links : List Link) (at : ℕ) → slice_get (with_limits any links) at ≡ option_map (λ (x : Link). record x { limits = any }) (slice_get links at)
get_limited any [] at = refl
get_limited any (link ∷ links) zero = refl
get_limited any (link ∷ links) (suc at) = get_limited any links at

texts_limited : (any : LinkLimits) (links : List Link) → texts_of (with_limits any links) ≡ texts_of links
texts_limited any [] = refl
texts_limited any (link ∷ links) = ap (λ l. link.text.items ∷ l) (texts_limited any links)

conns_limited : (any : LinkLimits) (links : List Link) (at : ℕ) → link_conn (with_limits any links) at ≡ link_conn links at
conns_limited any [] at = refl
conns_limited any (link ∷ links) zero = refl
conns_limited any (link ∷ links) (suc at) = conns_limited any links at

to_limited : (any : LinkLimits) (at : ℕ) (past : List Step) (h : List WireEvent) (x : Link) → LineAgrees at past h x → LineAgrees at past h (record x { limits = any })
to_limited any at past h x a = record { conn = a.conn; goes_on = a.goes_on; waiting = a.waiting; due = a.due; none_out = a.none_out; unused = a.unused; called = a.called; used = a.used; tried = a.tried }

from_limited : (any : LinkLimits) (at : ℕ) (past : List Step) (h : List WireEvent) (x : Link) → LineAgrees at past h (record x { limits = any }) → LineAgrees at past h x
from_limited any at past h x a = record { conn = a.conn; goes_on = a.goes_on; waiting = a.waiting; due = a.due; none_out = a.none_out; unused = a.unused; called = a.called; used = a.used; tried = a.tried }

-- what agrees does so with other limits
agrees_to : (any : LinkLimits) (past : List Step) (core : ServedCore) (h : List WireEvent) (cs : Clients) (ls : List Link) → Agrees past (record { core = core; history = h; clients = cs; links = ls }) → Agrees past (record { core = core; history = h; clients = cs; links = with_limits any ls })
agrees_to any past core h cs ls was = record {
  orderly = was.orderly;
  calls = was.calls;
  clients = was.clients;
  told = was.told;
  links = λ at link there. here at link (slice_get ls at) refl (sym (get_limited any ls at) ∙ there);
  gone = was.gone;
  shown = was.shown;
  unlinked = λ at none. was.unlinked at (nowhere (slice_get ls at) (sym (get_limited any ls at) ∙ none));
  shut = record { clients = was.shut.clients; links = λ at. subst (λ o. IsShutBut (1, at) o h) (sym (conns_limited any ls at)) (was.shut.links at); nobodys = was.shut.nobodys };
  clock = was.clock;
}
  where
    here : (at : ℕ) (link : Link) (o : Option Link) → slice_get ls at ≡ o → option_map (λ (x : Link). record x { limits = any }) o ≡ Some link → LineAgrees at past h link
    here at link None e is = absurd (none_some is)
    here at link (Some x) e is = subst (LineAgrees at past h) (same_some is) (to_limited any at past h x (was.links at x e))

    nowhere : (o : Option Link) → option_map (λ (x : Link). record x { limits = any }) o ≡ None → o ≡ None
    nowhere None e = refl
    nowhere (Some x) e = absurd (none_some (sym e))

agrees_from : (any : LinkLimits) (past : List Step) (core : ServedCore) (h : List WireEvent) (cs : Clients) (ls : List Link) → Agrees past (record { core = core; history = h; clients = cs; links = with_limits any ls }) → Agrees past (record { core = core; history = h; clients = cs; links = ls })
agrees_from any past core h cs ls was = record {
  orderly = was.orderly;
  calls = was.calls;
  clients = was.clients;
  told = was.told;
  links = λ at link there. from_limited any at past h link (was.links at (record link { limits = any }) (get_limited any ls at ∙ ap (option_map (λ (x : Link). record x { limits = any })) there));
  gone = was.gone;
  shown = was.shown;
  unlinked = λ at none. was.unlinked at (get_limited any ls at ∙ ap (option_map (λ (x : Link). record x { limits = any })) none);
  shut = record { clients = was.shut.clients; links = λ at. subst (λ o. IsShutBut (1, at) o h) (conns_limited any ls at) (was.shut.links at); nobodys = was.shut.nobodys };
  clock = was.clock;
}

-- so ends go on that stay but for limits
pub limited_grows :
    {Is : Step → Type 0} {h h' : List WireEvent} {cs cs' : Clients} {ls ls' : List Link} (core : ServedCore) → ((any : LinkLimits) → EndsStay h h' cs cs' (with_limits any ls) (with_limits any ls'))
    → AllGrow Is (record { core = core; history = h; clients = cs; links = ls }) (record { core = core; history = h'; clients = cs'; links = ls' })
limited_grows {Is} {h} {h'} {cs} {cs'} {ls} {ls'} core stay =
    let any : LinkLimits = record { call_ms = 0; connect_ms = 0; fail_limit = 0; retry_ms = 0; stores_wait = false } in
    let g : AllGo Is (record { core = core; history = h; clients = cs; links = with_limits any ls }) (record { core = core; history = h'; clients = cs'; links = with_limits any ls' }) = stays core (stay any) in
    record {
      steps = g.steps;
      kinds = g.kinds;
      walks = g.walks;
      agree = λ past was. agrees_from any (g.steps ++ past) core h' cs' ls' (g.agree past (agrees_to any past core h cs ls was));
      texts = ([], sym (texts_limited any ls') ∙ texts_kept (with_limits any ls) (with_limits any ls') g.servers.same ∙ texts_limited any ls ∙ sym (append-nil (texts_of ls)));
    }

texts_by : (limits : List ℕ → LinkLimits) (links : List Link) → texts_of (limited_by limits links) ≡ texts_of links
texts_by limits [] = refl
texts_by limits (link ∷ links) = ap (λ l. link.text.items ∷ l) (texts_by limits links)

pub texts_limited_by : (limits : List ℕ → LinkLimits) (ls ls' : List Link) → ls' ≡ limited_by limits ls → texts_of ls' ≡ texts_of ls
texts_limited_by limits ls ls' same = ap texts_of same ∙ texts_by limits ls

-- each link has its limits so
are_limited : (limits : List ℕ → LinkLimits) (links : List Link) → AreLimited limits (servers_of (limited_by limits links))
are_limited limits [] = tt
are_limited limits (link ∷ links) = (refl, are_limited limits links)

pub are_limited_by : (limits : List ℕ → LinkLimits) (ls ls' : List Link) → ls' ≡ limited_by limits ls → AreLimited limits (servers_of ls')
are_limited_by limits ls ls' same = subst (λ l. AreLimited limits (servers_of l)) (sym same) (are_limited limits ls)

-- no step is of no kind
pub no_steps : (steps : List Step) → StepsAreOf (λ step. ⊥) steps → steps ≡ []
no_steps [] kinds = refl
no_steps (step ∷ steps) kinds = absurd kinds.0

-- what is done without any step is done by steps of each kind
unfoldable pub of_none : {Is : Step → Type 0} {a b : AnEnd} → AllGrow (λ step. ⊥) a b → AllGrow Is a b
of_none {Is} {a} {b} g = record { steps = []; kinds = tt; walks = subst (λ l. Walks l a.core b.core) (no_steps g.steps g.kinds) g.walks; agree = λ past was. subst (λ l. Agrees (l ++ past) b) (no_steps g.steps g.kinds) (g.agree past was); texts = g.texts }

-- links were added, a configuration was loaded, and each link has its limits so
load_limits :
    {h : List WireEvent} {cs : Clients} (limits : List ℕ → LinkLimits) (ls ls' ls'' : List Link) (configuration : Configuration) (generation : ℕ) (a b : ServedCore) → IsLoaded a configuration generation b → AddsLines ls ls' → ls'' ≡ limited_by limits ls'
    → AllGrow (IsLoadOf configuration) (record { core = a; history = h; clients = cs; links = ls }) (record { core = b; history = h; clients = cs; links = ls'' })
load_limits {h} {cs} limits ls ls' ls'' configuration generation a b loaded adds same =
    then_grows (then_grows (links_grow {ls = ls} {ls' = ls'} a adds) (load_grows configuration generation a b loaded)) (of_none (limited_grows b (stay_limits h cs limits ls' ls'' same)))

pub all_load :
    {W : Type 0} {history : W → List WireEvent} {servers : List (List ℕ)} {limits : List ℕ → LinkLimits} {configuration : Configuration} {a b : ServedCore} (generation : ℕ) (old : Sockets W) (more new : Links) → IsLoaded a configuration generation b
    → AddsLines old.links.all.items more.all.items → texts_of more.all.items ≡ servers → new.all.items ≡ limited_by limits more.all.items → AllLoad history configuration servers limits a old b (record old { links = new })
unfolding load_limits then_grows load_grows links_grow of_none
all_load {limits = limits} {configuration = configuration} {a = a} {b = b} generation old more new loaded adds texts same = record {
  grows = load_limits limits old.links.all.items more.all.items new.all.items configuration generation a b loaded adds same;
  links = inr (generation, refl, are_limited_by limits more.all.items new.all.items same, texts_limited_by limits more.all.items new.all.items same ∙ texts);
}

-- nothing was, and links have the lines that they had
pub load_kept :
    {W : Type 0} {history : W → List WireEvent} {servers : List (List ℕ)} {limits : List ℕ → LinkLimits} {configuration : Configuration} {a b : ServedCore} (old : Sockets W) (new : Links) → b ≡ a → link_lines new.all.items ≡ link_lines old.links.all.items
    → AllLoad history configuration servers limits a old b (record old { links = new })
unfolding same_grows then_grows of_none
load_kept {history = history} {configuration = configuration} {a = a} {b = b} old new same lines =
    let ends : EndsStay (history old.wire) (history old.wire) old.clients old.clients old.links.all.items new.all.items = stay_links (history old.wire) old.clients old.links.all.items new.all.items lines in
    let g : AllGo (λ step. ⊥) (record { core = a; history = history old.wire; clients = old.clients; links = old.links.all.items }) (record { core = a; history = history old.wire; clients = old.clients; links = new.all.items }) = stays a ends in
    record { grows = then_grows (of_none (grows g)) (same_grows a b same); links = inl (refl, g.servers.same) }

pub load_none : {W : Type 0} {history : W → List WireEvent} {servers : List (List ℕ)} {limits : List ℕ → LinkLimits} {configuration : Configuration} {a b : ServedCore} (old : Sockets W) → b ≡ a → AllLoad history configuration servers limits a old b old
unfolding same_grows
load_none {a = a} {b = b} old same = record { grows = same_grows a b same; links = inl (refl, refl) }

-- from a core that is the same
pub load_from :
    {W : Type 0} {history : W → List WireEvent} {servers : List (List ℕ)} {limits : List ℕ → LinkLimits} {configuration : Configuration} {a x b : ServedCore} {old new : Sockets W} → x ≡ a → AllLoad history configuration servers limits x old b new
    → AllLoad history configuration servers limits a old b new
load_from {history = history} {servers = servers} {limits = limits} {configuration = configuration} {b = b} {old = old} {new = new} same g = subst (λ y. AllLoad history configuration servers limits y old b new) same g

-- ---- an end that begins

-- a new core has no call out
pub new_tells : (accepted : List Configuration) (begun : Beginnings) (settings : Settings) (core : ServedCore) → BeginsFresh accepted begun settings core → TellsCallsOut [] core
new_tells accepted begun settings core begins = walks_tell_calls.begins begins.config.tree (limits_by settings) core begins.core_is

pub unchecked_tells : (tree : Route) (settings : Settings) (core : ServedCore) → BeginsUnchecked tree settings core → TellsCallsOut [] core
unchecked_tells tree settings core begins = walks_tell_calls.begins tree (limits_by settings) core begins.core_is

-- no client is there, and no link has a connection
pub new_agrees : (h : List WireEvent) (core : ServedCore) (cs : Clients) (ls : List Link) → TellsCallsOut [] core → cs.all.items ≡ [] → AddsLines [] ls → HasNoConns h → Agrees [] (record { core = core; history = h; clients = cs; links = ls })
new_agrees h core cs ls tells none adds new = record { orderly = tt; calls = tells; clients = λ id. subst (λ o. IfSome o (EndAgrees h (fed_in []) (gave_in []) id)) (sym (nobody id)) tt; told = λ id. subst (λ o. IfSome o (ClientIsTold [] id)) (sym (nobody id)) tt; links = lines_grow h [] [] ls adds tt (λ at none. (refl, refl)) (λ at link there. absurd (none_some there)); gone = λ conn id is. absurd (none_some (sym (new.0 conn).0 ∙ is)); shown = tt; shut = record { clients = λ id conn is. absurd (none_some (sym (new.0 conn).0 ∙ is)); links = λ at conn is. absurd (none_some (sym (new.0 conn).0 ∙ is)); nobodys = λ conn is. (new.0 conn).1 }; unlinked = λ at none. (refl, refl); clock = sym new.1 }
  where
    nobody : (id : ℕ) → client_of cs id ≡ None
    nobody id = ap (λ (xs : List (Option Client)). option_flatten (slice_get xs id)) none
