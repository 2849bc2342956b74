-- From the script that was read to what its text says, and from what a drive did to what was printed of it.
use Rattle.std.proofs.Common.{◌≡◌, ℕ, ◌+◌, ◌-◌, ◌≤◌, arith, ◌<◌, ◌++◌, Bool, false, List, [], ◌∷◌, length, map, take, drop, get_or, slice_get, zero, suc, Option, Some, None, Result, Ok, Err, refl, sym, ap, ◌∙◌, subst, inl, inr, append_assoc}
use Rattle.std.specs.Prelude.{IsSome, IfOk, MatchOption, ◌⊎◌}
use Rattle.std.specs.Io.KnownBytes.{Appends}
use Rattle.std.proofs.Math.Seq.{drop-cons}
use Rattle.std.proofs.lemmas.List.{length-map, take_all, drop_all, take-map, drop-map}
use Rattle.std.proofs.lemmas.Option.{slice_get-get_or, slice_get_within}
use Rattle.route_json.specs.Configuration.{Configuration}
use Rattle.route_json.specs.Servers.{Addresses}
use Rattle.script_events.specs.FirstLine.{WhyNot}
use Rattle.script_events.specs.Printed.{shown_lines}
use Rattle.script_events.specs.Events.{◌>>=◌}
use Rattle.script_events.specs.Told.{Told, bad_line, bad_event_line, either, servers_said, events_said, lines_said, servers_known, AreChainedFrom, IsScriptOf, ReadsScript, Numbered, count_known}
use Rattle.script_events.specs.declared.text.configured.ConfiguredScript.{ConfiguredScript}
use Rattle.script_events.specs.declared.script.Output.{Output}
use Rattle.script_events.specs.Reloads.{ReloadsInOrder}
use Rattle.script_events.specs.declared.script.Reload.{Reload}
use Rattle.script_events.specs.declared.script.Report.{Report}
use Rattle.script_events.specs.declared.script.DriveFault.{DriveFault}
use Rattle.script_events.specs.declared.script.DriveFault.TheVariants as faults
use Rattle.script_events.specs.Scripted.{Scripted, Shown, output_shown, scripted_of}
use Rattle.script_events.specs.Bad.{first_bad}
use Rattle.gate_check.specs.Reload.{AreKept}
use Rattle.script_events.specs.declared.text.configured.ScriptFault.{ScriptFault}
use Rattle.script_run.specs.declared.accepted.judging.Loading.{Loading}
use Rattle.mcgate_check.specs.Checking.{PrintsRefused}
use Rattle.mcgate_lines.specs.Faults.{StopsUnwritten}
use Rattle.mcgate_lines.specs.declared.status.RunFault.{RunFault}
use Rattle.mcgate_lines.specs.declared.status.RunFault.TheVariants.{NoMemory, Writer, TooManyCalls}
use Rattle.mcgate_replay.specs.declared.judging.Judging.{Judging}
use Rattle.mcgate_replay.specs.Growing.{asks_no_gate, excluded_by}
use Rattle.mcgate_replay.specs.Replay.{ReplaysTold, excluded_line, bad_line_by, RunsScript, RunsGood, BreaksTreeOff, BreaksScriptOff, ReplayBreaksOff, BrokeOff, run_fault_of, HasReloads, replayed_events, reloads_of, load_line, load_lines, with_loads}

pub both_written : (old mid new : Option (List ℕ)) (a b : List ℕ) → Appends old mid a → Appends mid new b → Appends old new (a ++ b)
both_written None mid new a b x y = tt
both_written (Some xs) None new a b x y = absurd x
both_written (Some xs) (Some ys) None a b x y = y
both_written (Some xs) (Some ys) (Some zs) a b x y = y ∙ ap (λ (t : List ℕ). t ++ b) x ∙ append_assoc xs a b

pub is_there : (lines : List ℕ) (at : ℕ) (o : Option ℕ) → o ≡ slice_get lines at → at < length lines → IsSome o
is_there lines at o e lt = rw (e, slice_get-get_or lines at 0 lt)

-- ---- the lines of outputs and reloads

-- so many as are there
capped : (xs : List Output) (k n : ℕ) → (k ≤ n) × (k ≤ length xs) → (k ≡ n) ⊎ (k ≡ length xs) → (take k xs ≡ take n xs) × (drop k xs ≡ drop n xs)
capped xs k n fits (inl e) = (ap (λ (m : ℕ). take m xs) e, ap (λ (m : ℕ). drop m xs) e)
capped xs k n fits (inr e) =
    let f = fits.0 in
    let all : length xs ≤ n = omega (arith, e, f) in
    let here : length xs ≤ k = omega (arith, e) in
    (take_all k xs here ∙ sym (take_all n xs all), drop_all k xs here ∙ sym (drop_all n xs all))

module _ (any : Bool) (reloads : List Reload) (loadings : List Loading) (marks : List ℕ) where
  -- what is still to be written, where so many reloads have their lines
  abbrev pub left : (number before : ℕ) → List Output → List ℕ
  left number before rest = with_loads before (map output_shown rest) (drop number marks) (load_lines any number (drop number reloads) loadings)

  pub one_more_load : (number before mark cut due : ℕ) (reload : Reload) (rest shown later : List Output) → number < length marks → number < length reloads → mark ≡ get_or marks number 0 → reload ≡ get_or reloads number reload
      → cut ≡ mark - before → (due ≤ cut) × (due ≤ length rest) → (due ≡ cut) ⊎ (due ≡ length rest) → shown ≡ take due rest → later ≡ drop due rest
      → left number before rest ≡ shown_lines (map output_shown shown) ++ load_line any number reload (slice_get loadings number) ++ left (number + 1) mark later
  one_more_load number before mark cut due reload rest shown later marked there mark_is reload_is cut_is fits is shown_is later_is =
      let ends = capped rest due cut fits is in
      let head = ap (λ (n : ℕ). take n rest) (sym cut_is) ∙ sym ends.0 ∙ sym shown_is in
      let tail = ap (λ (n : ℕ). drop n rest) (sym cut_is) ∙ sym ends.1 ∙ sym later_is in
      let next : suc number ≡ number + 1 = omega arith in
      let ms = drop-cons marks number 0 marked ∙ ap (λ (n : ℕ). get_or marks number 0 ∷ drop n marks) next ∙ ap (λ (m : ℕ). m ∷ drop (number + 1) marks) (sym mark_is) in
      let rs = drop-cons reloads number reload there ∙ ap (λ (n : ℕ). get_or reloads number reload ∷ drop n reloads) next ∙ ap (λ (r : Reload). r ∷ drop (number + 1) reloads) (sym reload_is) in
      let line = load_line any number reload (slice_get loadings number) in
      let behind = load_lines any (number + 1) (drop (number + 1) reloads) loadings in
      ap (λ (m : List ℕ). with_loads before (map output_shown rest) m (load_lines any number (drop number reloads) loadings)) ms
      ∙ ap (λ (r : List Reload). with_loads before (map output_shown rest) (mark ∷ drop (number + 1) marks) (load_lines any number r loadings)) rs
      ∙ ap (λ (s : List Shown). shown_lines s ++ line ++ with_loads mark (drop (mark - before) (map output_shown rest)) (drop (number + 1) marks) behind) (take-map output_shown (mark - before) rest ∙ ap (map output_shown) head)
      ∙ ap (λ (s : List Shown). shown_lines (map output_shown shown) ++ line ++ with_loads mark s (drop (number + 1) marks) behind) (drop-map output_shown (mark - before) rest ∙ ap (map output_shown) tail)

  -- where no further reload has a mark, or none is there
  no_lines : (before : ℕ) (shown : List Shown) (ms : List ℕ) → with_loads before shown ms [] ≡ shown_lines shown
  no_lines before shown [] = refl
  no_lines before shown (m ∷ ms) = refl

  pub none_left : (number before : ℕ) (rest : List Output) → (length marks ≤ number) ⊎ (length reloads ≤ number) → left number before rest ≡ shown_lines (map output_shown rest)
  none_left number before rest (inl few) = ap (λ (m : List ℕ). with_loads before (map output_shown rest) m (load_lines any number (drop number reloads) loadings)) (drop_all number marks few)
  none_left number before rest (inr few) =
      ap (λ (r : List Reload). with_loads before (map output_shown rest) (drop number marks) (load_lines any number r loadings)) (drop_all number reloads few) ∙ no_lines before (map output_shown rest) (drop number marks)

-- a count that ended by the end of one of two lists
pub ended : (a b count n : ℕ) → (count ≡ a) ⊎ (count ≡ b) → count ≤ n → (a ≤ n) ⊎ (b ≤ n)
ended a b count n (inl e) le = inl (omega (arith, e, le))
ended a b count n (inr e) le = inr (omega (arith, e, le))

-- ---- servers

there : (xs : Addresses) (i : ℕ) → i < length xs → (e : List ℕ) × (slice_get xs i ≡ Some e)
there [] i lt = absurd (omega (arith, lt))
there (z ∷ xs) zero lt = (z, refl)
there (z ∷ xs) (suc i) lt = there xs i (omega (arith, lt))

no_fewer : (used new : Addresses) → AreKept used new → length used ≤ length new
no_fewer [] new kept = omega arith
no_fewer (x ∷ xs) new kept =
    let lt : length xs < length (x ∷ xs) = omega arith in
    let last = there (x ∷ xs) (length xs) lt in
    let within = slice_get_within new (length xs) last.0 (kept (length xs) lt ∙ last.1) in
    omega (arith, within)

-- the servers of the first configuration are no more than those known in the end
pub first_few : (used : Addresses) (rs : List Reload) → AreChainedFrom used rs → length used ≤ length (servers_known used rs)
first_few used [] chained = omega arith
first_few used (r ∷ rs) chained =
    let one = no_fewer used r.config.servers chained.0 in
    let more = first_few r.config.servers rs chained.1 in
    omega (arith, one, more)

pub has_reloads : (read : Result ConfiguredScript ScriptFault)
    → IfOk read (λ s. ReloadsInOrder (length s.script.events.items) (length (servers_known s.config.servers s.reloads.items)) 0 s.reloads.items)
    → IfOk read (λ s. AreChainedFrom s.config.servers s.reloads.items) → IfOk read HasReloads
has_reloads (Ok s) order chained = record { order = order; chained = chained }
has_reloads (Err fault) order chained = tt

-- ---- what a text says

runs_said : (judging : Judging) (t : Told) (script : ConfiguredScript) (old new : Option (List ℕ)) (status : ℕ) → IsScriptOf t script → RunsGood judging script.config (reloads_of script) (replayed_events script) old new status → RunsGood judging t.configuration t.loads (events_said t) old new status
runs_said judging t script old new status h p = rw (← h.configuration, ← h.events, ← h.reloads) p

either_none : (o : Option ℕ) → either o None ≡ o
either_none None = refl
either_none (Some n) = refl

-- each event has its line
pub paired : (t : Result Told WhyNot) (script : ConfiguredScript) → ReadsScript t (Ok script) → length script.lines.items ≡ length script.script.events.items
paired (Err why) script h = absurd h
paired (Ok t) script h =
    ap length h.lines ∙ length-map t.said (λ (x : Numbered). x.line) ∙ sym (length-map t.said (λ (x : Numbered). x.event)) ∙ ap length (sym h.events) ∙ length-map script.script.events.items scripted_of

-- where each line can be read, the bad line is that of an event that can't be
bad_is : (t : Told) (script : ConfiguredScript) → IsScriptOf t script → bad_line (Ok t) ≡ bad_event_line (count_known script) (replayed_events script) script.lines.items
bad_is t script h =
    ap (λ (o : Option ℕ). either (bad_event_line (servers_said t) (events_said t) (lines_said t)) o) h.whole ∙ either_none (bad_event_line (servers_said t) (events_said t) (lines_said t))
    ∙ ap (λ (c : Configuration). bad_event_line (length (servers_known c.servers t.loads)) (events_said t) (lines_said t)) (sym h.configuration)
    ∙ ap (λ (rs : List Reload). bad_event_line (length (servers_known script.config.servers rs)) (events_said t) (lines_said t)) (sym h.reloads)
    ∙ ap (λ (es : List Scripted). bad_event_line (count_known script) es (lines_said t)) (sym h.events)
    ∙ ap (λ (ls : List ℕ). bad_event_line (count_known script) (replayed_events script) ls) (sym h.lines)

either_both : (one other : Option ℕ) → one ≡ None → other ≡ None → either one other ≡ None
either_both one other none nor = ap (λ (o : Option ℕ). either o other) none ∙ nor

-- of the events that were read and of those that the text says the same are excluded
excluded_is : (judging : Judging) (t : Told) (script : ConfiguredScript) → IsScriptOf t script → excluded_line judging t.configuration (events_said t) (lines_said t) ≡ excluded_line judging script.config (replayed_events script) script.lines.items
excluded_is judging t script h =
    ap (λ (c : Configuration). excluded_line judging c (events_said t) (lines_said t)) (sym h.configuration)
    ∙ ap (λ (es : List Scripted). excluded_line judging script.config es (lines_said t)) (sym h.events)
    ∙ ap (λ (ls : List ℕ). excluded_line judging script.config (replayed_events script) ls) (sym h.lines)

bad_by_is : (judging : Judging) (t : Told) (script : ConfiguredScript) → IsScriptOf t script
    → bad_line_by judging (Ok t) ≡ either (bad_event_line (count_known script) (replayed_events script) script.lines.items) (excluded_line judging script.config (replayed_events script) script.lines.items)
bad_by_is judging t script h =
    ap (λ (o : Option ℕ). either o (excluded_line judging t.configuration (events_said t) (lines_said t))) (bad_is t script h)
    ∙ ap (either (bad_event_line (count_known script) (replayed_events script) script.lines.items)) (excluded_is judging t script h)

-- a bad line is bad whatever else is
pub bad_by : (judging : Judging) (t : Result Told WhyNot) (line : ℕ) → bad_line t ≡ Some line → bad_line_by judging t ≡ Some line
bad_by judging (Ok t) line bad = ap (λ (o : Option ℕ). either o (excluded_line judging t.configuration (events_said t) (lines_said t))) bad
bad_by judging (Err why) line bad = bad

none_at : (found : Option ℕ) (lines : List ℕ) → found ≡ None → (found >>= slice_get lines) ≡ None
none_at found lines none = ap (λ (o : Option ℕ). o >>= slice_get lines) none

pub replays : (judging : Judging) (t : Result Told WhyNot) (script : ConfiguredScript) (old new : Option (List ℕ)) (status : ℕ) → ReadsScript t (Ok script) → RunsScript judging script old new status → ReplaysTold judging t old new status
replays judging (Err why) script old new status h r = absurd h
replays judging (Ok t) script old new status h (inl r) = inl (record { script = t; said = refl; good = bad_by_is judging t script h ∙ either_both _ _ (none_at (first_bad (count_known script) (replayed_events script)) script.lines.items r.good) (none_at (excluded_by judging script.config (replayed_events script)) script.lines.items r.fits); runs = runs_said judging t script old new status h r.runs })
replays judging (Ok t) script old new status h (inr r) = inr (r.0, inr (record { line = r.1.line; bad = bad_by_is judging t script h ∙ r.1.bad; printed = r.1.printed }))

broken_said : (judging : Judging) (t : Told) (script : ConfiguredScript) (old new : Option (List ℕ)) (fault : RunFault) → IsScriptOf t script → BreaksTreeOff judging script.config (reloads_of script) (replayed_events script) old new fault → BreaksTreeOff judging t.configuration t.loads (events_said t) old new fault
broken_said judging t script old new fault h p = rw (← h.configuration, ← h.events, ← h.reloads) p

pub breaks_off : (judging : Judging) (t : Result Told WhyNot) (script : ConfiguredScript) (old new : Option (List ℕ)) (fault : RunFault) → ReadsScript t (Ok script) → BreaksScriptOff judging script old new fault → ReplayBreaksOff judging t old new fault
breaks_off judging (Err why) script old new fault h b = absurd h
breaks_off judging (Ok t) script old new NoMemory h b = elim (broken_said judging t script old new NoMemory h b) [ inl kept ↦ inl kept | inr part ↦ inr (record { script = t; said = refl; prints = part }) ]
breaks_off judging (Ok t) script old new TooManyCalls h b = record { script = t; said = refl; prints = broken_said judging t script old new TooManyCalls h b }
breaks_off judging (Ok t) script old new Writer h b = tt

-- ---- what a drive did

-- a fault of the driver, after which these lines were written
by_fault : (driven : Result Report DriveFault) (fault : DriveFault) (lines : List ℕ) (old new : Option (List ℕ)) → driven ≡ Err fault → Appends old new lines → BrokeOff driven lines old new (run_fault_of fault)
by_fault driven (faults.BadEvent index) lines old new is wrote = tt
by_fault driven faults.NoMemory lines old new is wrote = (is, wrote)
by_fault driven faults.Spent lines old new is wrote = (is, wrote)

pub broke_off : (driven : Result Report DriveFault) (fault : DriveFault) (lines : List ℕ) (old new : Option (List ℕ)) (told : RunFault) → driven ≡ Err fault → told ≡ run_fault_of fault → Appends old new lines → BrokeOff driven lines old new told
broke_off driven fault lines old new told is told_is wrote = subst (BrokeOff driven lines old new) (sym told_is) (by_fault driven fault lines old new is wrote)

-- through a first tree that the gate refused
pub refused_first : (judging : Judging) → asks_no_gate judging ≡ false → (config refused : Configuration) (reloads : List Reload) (events : List Scripted) (old new : Option (List ℕ)) (status : ℕ) → refused ≡ config → (status ≡ 1) × PrintsRefused refused old new → RunsGood judging config reloads events old new status
refused_first judging asked config refused reloads events old new status is p = inr (p.0, asked, subst (λ (c : Configuration). PrintsRefused c old new) is p.1)

pub unwritten : (judging : Judging) (config : Configuration) (reloads : List Reload) (events : List Scripted) (old new : Option (List ℕ)) (fault : RunFault) → StopsUnwritten old new fault → BreaksTreeOff judging config reloads events old new fault
unwritten judging config reloads events old new NoMemory kept = inl kept
unwritten judging config reloads events old new TooManyCalls kept = absurd kept
unwritten judging config reloads events old new Writer kept = tt

good_status : (judging : Judging) (config : Configuration) (reloads : List Reload) (events : List Scripted) (old new : Option (List ℕ)) (status : ℕ) → RunsGood judging config reloads events old new status → status ≤ 1
good_status judging config reloads events old new status (inl ran) = let e = ran.0 in omega (arith, e)
good_status judging config reloads events old new status (inr refused) = let e = refused.0 in omega (arith, e)

pub replays_status : (judging : Judging) (t : Result Told WhyNot) (old new : Option (List ℕ)) (status : ℕ) → ReplaysTold judging t old new status → status ≤ 2
replays_status judging t old new status (inl ran) = let few = good_status judging ran.script.configuration ran.script.loads (events_said ran.script) old new status ran.runs in omega (arith, few)
replays_status judging t old new status (inr bad) = let e = bad.0 in omega (arith, e)

pub bad_there : (bad excluded : Option ℕ) (at : ℕ) → Some at ≡ bad → Some at ≡ either bad excluded
bad_there bad excluded at is = ap (λ (o : Option ℕ). either o excluded) is

pub none_or_excluded : (bad excluded found : Option ℕ) → bad ≡ None → found ≡ excluded → MatchOption found ((bad ≡ None) × (excluded ≡ None)) (λ at. Some at ≡ either bad excluded)
none_or_excluded bad excluded None none is = (none, sym is)
none_or_excluded bad excluded (Some at) none is = is ∙ sym (ap (λ (o : Option ℕ). either o excluded) none)

same_place : (a b : ℕ) → Some a ≡ Some b → a ≡ b
same_place a b e = cc

-- the line of the first of two events
line_there : (bad excluded : Option ℕ) (lines : List ℕ) (at line : ℕ) → Some at ≡ either bad excluded → slice_get lines at ≡ Some line → either (bad >>= slice_get lines) (excluded >>= slice_get lines) ≡ Some line
line_there None None lines at line e is = absurd (cc)
line_there None (Some x) lines at line e is = subst (λ (n : ℕ). slice_get lines n ≡ Some line) (same_place at x e) is
line_there (Some b) excluded lines at line e is =
    ap (λ (o : Option ℕ). either o (excluded >>= slice_get lines)) (subst (λ (n : ℕ). slice_get lines n ≡ Some line) (same_place at b e) is)

-- the line of an event that can't be, or that is excluded
pub event_line : (servers : ℕ) (judging : Judging) (config : Configuration) (events : List Scripted) (lines : List ℕ) (at : ℕ) (o : Option ℕ) (line : ℕ)
    → Some at ≡ either (first_bad servers events) (excluded_by judging config events) → o ≡ slice_get lines at → o ≡ Some line
    → either (bad_event_line servers events lines) (excluded_line judging config events lines) ≡ Some line
event_line servers judging config events lines at o line found is some = line_there (first_bad servers events) (excluded_by judging config events) lines at line found (sym is ∙ some)
