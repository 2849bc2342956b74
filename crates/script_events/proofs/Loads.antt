-- What the reload lines of a script load: each list of servers begins with the one before it, and each comes after the events before it.
use Rattle.std.proofs.Common.{◌≡◌, ℕ, zero, suc, ◌+◌, ◌-◌, ◌≤◌, ◌==◌, List, [], ◌∷◌, ◌++◌, length, map, Option, Some, None, Result, Ok, Err, refl, sym, ap, ◌∙◌, arith, inl, inr, subst, length-append}
use Rattle.std.specs.Prelude.{slice_get, unwrap_or, IsSome}
use Rattle.std.proofs.lemmas.Bool.{cases_Bool}
use Rattle.std.proofs.lemmas.List.{get_or_append_left, length-map}
use Rattle.std.proofs.lemmas.Option.{slice_get-get_or}
use Rattle.serde_json.specs.Read.{read}
use Rattle.route_tree.specs.Route.{Route}
use Rattle.route_json.specs.Fault.{Fault}
use Rattle.route_json.specs.Configuration.{Configuration}
use Rattle.route_json.specs.Configs.{read_after}
use Rattle.route_json.specs.Servers.{Addresses}
use Rattle.route_json.proofs.Adding.{Begins, Adds_to, begins_more, read_adds}
use Rattle.gate_check.specs.Reload.{AreKept}
use Rattle.script_events.specs.declared.script.Reload.{Reload}
use Rattle.script_events.specs.Reloads.{ReloadsInOrder}
use Rattle.script_events.specs.Scripted.{Scripted, scripted_of}
use Rattle.script_events.specs.declared.text.configured.ConfiguredScript.{ConfiguredScript}
use Rattle.script_events.specs.declared.text.meaning.Reading.{Reading}
use Rattle.script_events.specs.Events.{event_said}
use Rattle.script_events.specs.FirstLine.{read_or_fault}
use Rattle.script_events.specs.Read.{ReadsLines}
use Rattle.script_events.specs.Told.{Meaning, Nothing, Unreadable, Says, Loads, said_or_not, loads_or_not, reload_said, load_or_event, line_means, used_after, events_after, Numbered, and_then, numbered, load_then, loaded, servers_known, AreChainedFrom, first_unreadable, told_from, events_said, lines_said, bad_event_line, either, bad_line, IsUnreadable, IsScriptOf}

begins_kept : (used new : Addresses) → Begins used new → AreKept used new
begins_kept used new h = λ i lt.
    ap (λ (l : Addresses). slice_get l i) h.is
    ∙ slice_get-get_or (used ++ h.more) i [] (omega (arith, lt, length-append used h.more))
    ∙ ap Some (get_or_append_left used h.more [] i lt)
    ∙ sym (slice_get-get_or used i [] lt)

-- what a line loads begins with the servers known
abbrev Keeps : Addresses → Meaning → Type 0
Keeps used Nothing = Unit {0}
Keeps used Unreadable = Unit {0}
Keeps used (Says event) = Unit {0}
Keeps used (Loads c) = Begins used c.servers

event_keeps : (used : Addresses) (o : Option Scripted) → Keeps used (said_or_not o)
event_keeps used None = tt
event_keeps used (Some event) = tt

config_keeps : (used : Addresses) (r : Result (Route × Addresses) Fault) → Adds_to used r → Keeps used (loads_or_not (read_or_fault r))
config_keeps used (Ok c) h = h
config_keeps used (Err fault) h = tt

either_keeps : (used : Addresses) (o : Option (List ℕ)) (line : List ℕ) → Keeps used (load_or_event used o line)
either_keeps used None line = event_keeps used (event_said line)
either_keeps used (Some json) line = config_keeps used (read_after used (read json)) (read_adds used (read json))

line_keeps : (used : Addresses) (line : List ℕ) → Keeps used (line_means used line)
line_keeps used [] = tt
line_keeps used (b ∷ line) = elim (cases_Bool (b == 35)) [
  | inl e ↦ rw e tt
  | inr e ↦ rw e (either_keeps used (reload_said (b ∷ line)) (b ∷ line))
]

chained_by : (m : Meaning) (used : Addresses) (at : ℕ) (rs : List Reload) → Keeps used m → AreChainedFrom (used_after m used) rs → AreChainedFrom used (load_then m at rs)
chained_by Nothing used at rs k h = h
chained_by Unreadable used at rs k h = tt
chained_by (Says event) used at rs k h = h
chained_by (Loads c) used at rs k h = (begins_kept used c.servers k, h)

pub chained : (used : Addresses) (at : ℕ) (lines : List (List ℕ)) → AreChainedFrom used (loaded used at lines)
chained used at [] = tt
chained used at (line ∷ lines) =
    let m = line_means used line in
    chained_by m used at (loaded (used_after m used) (events_after m at) lines) (line_keeps used line) (chained (used_after m used) (events_after m at) lines)

more_by : (m : Meaning) (used : Addresses) (at : ℕ) (rs : List Reload) → Keeps used m → length (used_after m used) ≤ length (servers_known (used_after m used) rs) → length used ≤ length (servers_known used (load_then m at rs))
more_by Nothing used at rs k h = h
more_by Unreadable used at rs k h = omega arith
more_by (Says event) used at rs k h = h
more_by (Loads c) used at rs k h =
    let rest : length c.servers ≤ length (servers_known c.servers rs) = h in
    omega (arith, begins_more used c.servers k, rest)

more : (used : Addresses) (at : ℕ) (lines : List (List ℕ)) → length used ≤ length (servers_known used (loaded used at lines))
more used at [] = omega arith
more used at (line ∷ lines) =
    let m = line_means used line in
    more_by m used at (loaded (used_after m used) (events_after m at) lines) (line_keeps used line) (more (used_after m used) (events_after m at) lines)

module _ (end servers : ℕ) where
  order_by : (m : Meaning) (used : Addresses) (at place n : ℕ) (said : List Numbered) (rs : List Reload) → length (used_after m used) ≤ length (servers_known (used_after m used) rs) → place ≤ at
      → at + length (and_then m n said) ≤ end → length (servers_known used (load_then m at rs)) ≤ servers
      → ((before : ℕ) → before ≤ events_after m at → events_after m at + length said ≤ end → length (servers_known (used_after m used) rs) ≤ servers → ReloadsInOrder end servers before rs)
      → ReloadsInOrder end servers place (load_then m at rs)
  order_by Nothing used at place n said rs k le few fits go = go place le few fits
  order_by Unreadable used at place n said rs k le few fits go = tt
  order_by (Says event) used at place n said rs k le few fits go =
      let here : at + suc (length said) ≤ end = few in
      go place (omega (arith, le)) (omega (arith, here)) fits
  order_by (Loads c) used at place n said rs k le few fits go =
      let here : at + length said ≤ end = few in
      let rest : length c.servers ≤ length (servers_known c.servers rs) = k in
      let all : length (servers_known c.servers rs) ≤ servers = fits in
      (le, omega (arith, here), omega (arith, rest, all), go at (omega arith) few fits)

  order : (used : Addresses) (at place n : ℕ) (lines : List (List ℕ)) → place ≤ at → at + length (numbered used n lines) ≤ end → length (servers_known used (loaded used at lines)) ≤ servers
      → ReloadsInOrder end servers place (loaded used at lines)
  order used at place n [] le few fits = tt
  order used at place n (line ∷ lines) le few fits =
      let m = line_means used line in
      order_by m used at place n (numbered (used_after m used) (n + 1) lines) (loaded (used_after m used) (events_after m at) lines)
      (more (used_after m used) (events_after m at) lines) le few fits (λ before. order (used_after m used) (events_after m at) before (n + 1) lines)

module _ (first : ℕ) (c : Configuration) (lines : List (List ℕ)) (s : ConfiguredScript) (h : IsScriptOf (told_from first c lines) s) where
  pub script_chained : AreChainedFrom s.config.servers s.reloads.items
  script_chained = rw (h.configuration, h.reloads) (chained c.servers 0 lines)

  pub script_in_order : ReloadsInOrder (length s.script.events.items) (length (servers_known s.config.servers s.reloads.items)) 0 s.reloads.items
  script_in_order =
      let many : length s.script.events.items ≡ length (numbered c.servers first lines) =
      sym (length-map s.script.events.items scripted_of) ∙ ap length h.events ∙ length-map (numbered c.servers first lines) (λ (x : Numbered). x.event) in
      rw (h.configuration, h.reloads, many) (order (length (numbered c.servers first lines)) (length (servers_known c.servers (loaded c.servers 0 lines))) c.servers 0 0 first lines (omega arith) (omega arith) (omega arith))

-- the servers of the last one that was loaded are those known
pub known_push : (used : Addresses) (rs : List Reload) (r : Reload) → servers_known used (rs ++ r ∷ []) ≡ r.config.servers
known_push used [] r = refl
known_push used (q ∷ qs) r = known_push q.config.servers qs r

abbrev servers_of : Reload → Option Reload → Addresses
servers_of q None = q.config.servers
servers_of q (Some r) = r.config.servers

known_at : (used : Addresses) (rs : List Reload) (r : Reload) (k : ℕ) → suc k ≡ length rs → slice_get rs k ≡ Some r → servers_known used rs ≡ r.config.servers
known_at used [] r k last e = absurd cc
known_at used (q ∷ []) r zero last e = ap (servers_of q) e
known_at used (q ∷ []) r (suc k) last e = absurd (omega (arith, last))
known_at used (q ∷ p ∷ ps) r zero last e = absurd (omega (arith, last))
known_at used (q ∷ p ∷ ps) r (suc k) last e = known_at q.config.servers (p ∷ ps) r k (omega (arith, last)) e

pub known_last : (used : Addresses) (rs : List Reload) (r : Reload) → slice_get rs (length rs - 1) ≡ Some r → servers_known used rs ≡ r.config.servers
known_last used [] r e = absurd cc
known_last used (q ∷ qs) r e =
    let last : length (q ∷ qs) - 1 ≡ length qs = omega arith in
    known_at used (q ∷ qs) r (length qs) refl (ap (slice_get (q ∷ qs)) (sym last) ∙ e)

none_left : {A B : Type 0} (x : A) → Some x ≡ None → B
none_left x e = absurd cc

pub known_none : (used : Addresses) (rs : List Reload) → slice_get rs (length rs - 1) ≡ None → servers_known used rs ≡ used
known_none used [] e = refl
known_none used (q ∷ qs) e =
    let last : length qs ≡ length (q ∷ qs) - 1 = omega arith in
    none_left _ (sym (slice_get-get_or (q ∷ qs) (length qs) q (omega arith)) ∙ ap (slice_get (q ∷ qs)) last ∙ e)

-- what was read over a configuration, as a script
abbrev pub script_with : Configuration → Reading → ConfiguredScript
script_with c r = record { config = c; script = record { events = r.events }; reloads = r.reloads; lines = r.lines }

either_or : (o : Option ℕ) (n : ℕ) → either o (Some n) ≡ Some (unwrap_or o n)
either_or None n = refl
either_or (Some a) n = refl

module _ (first : ℕ) (c : Configuration) (lines : List (List ℕ)) (r : Reading) (h : ReadsLines c.servers first lines r) where
  -- all of it could be read
  pub script_read : r.unreadable ≡ None → IsScriptOf (told_from first c lines) (script_with c r)
  script_read none = record { whole = sym h.unreadable ∙ none; configuration = refl; events = h.events; reloads = h.reloads; lines = h.numbers }

  pub read_chained : r.unreadable ≡ None → AreChainedFrom c.servers r.reloads.items
  read_chained none = script_chained first c lines (script_with c r) (script_read none)

  pub read_in_order : r.unreadable ≡ None → ReloadsInOrder (length r.events.items) (length (servers_known c.servers r.reloads.items)) 0 r.reloads.items
  read_in_order none = script_in_order first c lines (script_with c r) (script_read none)

  -- a line couldn't be read, and of the events before it this is the line of the first that can't be
  pub bad_told : (line : ℕ) → r.unreadable ≡ Some line → (bad : Option ℕ) → bad ≡ bad_event_line (length (servers_known c.servers r.reloads.items)) (map scripted_of r.events.items) r.lines.items
      → (n : ℕ) → n ≡ unwrap_or bad line → IsUnreadable (Ok (told_from first c lines)) × (bad_line (Ok (told_from first c lines)) ≡ Some n)
  bad_told line there bad bad-is n n-is =
      let t = told_from first c lines in
      let stuck : first_unreadable c.servers first lines ≡ Some line = sym h.unreadable ∙ there in
      let found : bad_event_line (length (servers_known c.servers (loaded c.servers 0 lines))) (events_said t) (lines_said t) ≡ bad =
      ap (λ (rs : List Reload). bad_event_line (length (servers_known c.servers rs)) (events_said t) (lines_said t)) (sym h.reloads)
      ∙ ap (λ (es : List Scripted). bad_event_line (length (servers_known c.servers r.reloads.items)) es (lines_said t)) (sym h.events)
      ∙ ap (λ (ns : List ℕ). bad_event_line (length (servers_known c.servers r.reloads.items)) (map scripted_of r.events.items) ns) (sym h.numbers)
      ∙ sym bad-is in (
        subst (λ (o : Option ℕ). IsSome o) (sym stuck) refl,
        ap (λ (o : Option ℕ). either o (first_unreadable c.servers first lines)) found ∙ ap (either bad) stuck ∙ either_or bad line ∙ ap Some (sym n-is),
      )
