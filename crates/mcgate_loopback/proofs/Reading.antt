-- From the script that was read to what its text says, and what was written of it.
use Rattle.std.proofs.Common.{◌≡◌, ℕ, ◌≤◌, arith, ◌<◌, ◌++◌, List, length, Option, Some, None, Result, Ok, Err, refl, sym, ap, subst, ◌∙◌, inl, inr, append_assoc}
use Rattle.std.specs.Prelude.{slice_get, IsSome}
use Rattle.std.specs.Io.KnownBytes.{Appends}
use Rattle.std.proofs.lemmas.List.{length-map}
use Rattle.std.proofs.lemmas.Option.{slice_get-get_or}
use Rattle.route_json.specs.Configuration.{Configuration}
use Rattle.script_events.specs.FirstLine.{WhyNot}
use Rattle.script_events.specs.Told.{Told, bad_line, bad_event_line, either, servers_said, events_said, lines_said, servers_known, IsScriptOf, ReadsScript, Numbered, count_known}
use Rattle.script_events.specs.declared.text.configured.ConfiguredScript.{ConfiguredScript}
use Rattle.script_events.specs.Scripted.{Scripted, scripted_of}
use Rattle.script_events.specs.declared.script.Reload.{Reload}
use Rattle.script_events.specs.Bad.{first_bad}
use Rattle.mcgate_loopback.specs.declared.entries.RunEntry.{RunEntry}
use Rattle.mcgate_loopback.specs.Printed.{entry_lines}
use Rattle.mcgate_lines.specs.declared.status.RunFault.{RunFault}
use Rattle.mcgate_lines.specs.declared.status.RunFault.TheVariants.{NoMemory, Writer, TooManyCalls}
use Rattle.gate_check.specs.Gate.{IsCertified}
use Rattle.mcgate_check.specs.Checking.{PrintsRefused}
use Rattle.mcgate_lines.specs.Faults.{IsNoOverrun}
use Rattle.mcgate_loopback.specs.Running.{loopback_events, WritesRun, LoopbackBreaksOff, LoopbackRuns, LoopbackRunsScript, RunsTold}

pub both_written : (old mid new : Option (List ℕ)) (a b : List ℕ) → Appends old mid a → Appends mid new b → Appends old new (a ++ b)
both_written None mid new a b x y = tt
both_written (Some xs) None new a b x y = absurd x
both_written (Some xs) (Some ys) None a b x y = y
both_written (Some xs) (Some ys) (Some zs) a b x y = y ∙ ap (λ (t : List ℕ). t ++ b) x ∙ append_assoc xs a b

-- a run that was broken off, whose lines so far were written
pub broke_off : (old new : Option (List ℕ)) (reloads : List Reload) (shown : List RunEntry) (fault : RunFault) → IsNoOverrun fault → Appends old new (entry_lines reloads shown) → LoopbackBreaksOff old new fault
broke_off old new reloads shown NoMemory within a = inr (record { reloads = reloads; shown = shown; printed = a })
broke_off old new reloads shown Writer within a = tt
broke_off old new reloads shown TooManyCalls within a = absurd within

pub is_there : (lines : List ℕ) (at : ℕ) (o : Option ℕ) → o ≡ slice_get lines at → at < length lines → IsSome o
is_there lines at o e lt = rw (e, slice_get-get_or lines at 0 lt)

-- each event has its line
pub paired : (t : Result Told WhyNot) (script : ConfiguredScript) → ReadsScript t (Ok script) → length script.lines.items ≡ length script.script.events.items
paired (Err why) script h = absurd h
paired (Ok t) script h =
    ap length h.lines ∙ length-map t.said (λ (x : Numbered). x.line) ∙ sym (length-map t.said (λ (x : Numbered). x.event)) ∙ ap length (sym h.events) ∙ length-map script.script.events.items scripted_of

-- the line of an event that can't be
pub event_line : (servers n : ℕ) (events : List Scripted) (lines : List ℕ) (at : ℕ) (o : Option ℕ) (line : ℕ) → n ≡ servers → Some at ≡ first_bad n events → o ≡ slice_get lines at → o ≡ Some line → bad_event_line servers events lines ≡ Some line
event_line servers n events lines at o line e found is some = rw (← e, ← found, ← is) some

either_none : (o : Option ℕ) → either o None ≡ o
either_none None = refl
either_none (Some n) = refl

-- where each line can be read, the bad line is that of an event that can't be
bad_is : (t : Told) (script : ConfiguredScript) → IsScriptOf t script → bad_line (Ok t) ≡ bad_event_line (count_known script) (loopback_events script) script.lines.items
bad_is t script h =
    ap (λ (o : Option ℕ). either (bad_event_line (servers_said t) (events_said t) (lines_said t)) o) h.whole ∙ either_none (bad_event_line (servers_said t) (events_said t) (lines_said t))
    ∙ ap (λ (c : Configuration). bad_event_line (length (servers_known c.servers t.loads)) (events_said t) (lines_said t)) (sym h.configuration)
    ∙ ap (λ (rs : List Reload). bad_event_line (length (servers_known script.config.servers rs)) (events_said t) (lines_said t)) (sym h.reloads)
    ∙ ap (λ (es : List Scripted). bad_event_line (count_known script) es (lines_said t)) (sym h.events)
    ∙ ap (λ (ls : List ℕ). bad_event_line (count_known script) (loopback_events script) ls) (sym h.lines)

runs_said : (t : Told) (script : ConfiguredScript) (old new : Option (List ℕ)) (status : ℕ) → IsScriptOf t script → LoopbackRuns script.config script.reloads.items old new status → LoopbackRuns t.configuration t.loads old new status
runs_said t script old new status h p = rw (← h.configuration, ← h.reloads) p

pub runs : (t : Result Told WhyNot) (script : ConfiguredScript) (old new : Option (List ℕ)) (status : ℕ) → ReadsScript t (Ok script) → LoopbackRunsScript script old new status → RunsTold t old new status
runs (Err why) script old new status h r = absurd h
runs (Ok t) script old new status h (inl r) =
    let none = r.0 in
    inl (record { script = t; said = refl; good = bad_is t script h ∙ rw (none) refl; runs = runs_said t script old new status h r.1 })
runs (Ok t) script old new status h (inr r) = inr (r.0, inr (record { line = r.1.line; bad = bad_is t script h ∙ r.1.bad; printed = r.1.printed }))

good_status : (config : Configuration) (reloads : List Reload) (old new : Option (List ℕ)) (status : ℕ) → LoopbackRuns config reloads old new status → status ≤ 1
good_status config reloads old new status (inl ran) = let e = ran.0 in omega (arith, e)
good_status config reloads old new status (inr refused) = let e = refused.0 in omega (arith, e)

pub runs_status : (t : Result Told WhyNot) (old new : Option (List ℕ)) (status : ℕ) → RunsTold t old new status → status ≤ 2
runs_status t old new status (inl ran) = let few = good_status ran.script.configuration ran.script.loads old new status ran.runs in omega (arith, few)
runs_status t old new status (inr bad) = let e = bad.0 in omega (arith, e)

-- a run by an equal configuration that the gate accepted is one by this
pub runs_certified : (config first : Configuration) (reloads : List Reload) (old new : Option (List ℕ)) (status : ℕ) → first ≡ config → IsCertified first.tree → (status ≡ 0) × WritesRun reloads old new → LoopbackRuns config reloads old new status
runs_certified config first reloads old new status same certified r = inl (r.0, subst (λ (c : Configuration). IsCertified c.tree) same certified, r.1)

-- a refusal of an equal configuration is one of this
pub refused_first : (config first : Configuration) (reloads : List Reload) (old new : Option (List ℕ)) (status : ℕ) → first ≡ config → (status ≡ 1) × PrintsRefused first old new → LoopbackRuns config reloads old new status
refused_first config first reloads old new status same p = inr (p.0, subst (λ (c : Configuration). PrintsRefused c old new) same p.1)
