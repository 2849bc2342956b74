-- From what a drive did to what was printed of it.
use Rattle.std.proofs.Common.{◌≡◌, ℕ, ◌≤◌, ◌++◌, arith, Bool, true, false, List, [], length, map, Option, Result, sym, ap, ◌∙◌, subst, inr}
use Rattle.std.specs.Prelude.{IfOk, IfErr, OnOk}
use Rattle.std.specs.Io.KnownBytes.{Appends}
use Rattle.std.proofs.lemmas.List.{length-map, length-replicate}
use Rattle.script_events.specs.Told.{count_known}
use Rattle.route_json.specs.Configuration.{Configuration}
use Rattle.script_events.specs.Printed.{report_line}
use Rattle.script_events.specs.declared.text.configured.ConfiguredScript.{ConfiguredScript}
use Rattle.cache_server.specs.Contents.{empty}
use Rattle.script_events.specs.Limits.{capacity}
use Rattle.script_events.specs.Servers.{AreNewServers, count_of_servers}
use Rattle.script_events.specs.declared.servers.servers.ScriptServers.{ScriptServers}
use Rattle.script_events.specs.declared.script.Reload.{Reload}
use Rattle.script_events.specs.declared.script.Report.{Report}
use Rattle.script_events.specs.declared.script.Transcript.{Transcript}
use Rattle.script_events.specs.declared.script.DriveFault.{DriveFault}
use Rattle.script_events.specs.Scripted.{Scripted, output_shown, transcript_of}
use Rattle.script_events.specs.Reloads.{ReloadsInOrder}
use Rattle.script_run.specs.Driving.{DrivesStepped, StepsPart, EndsStepped, AreMarks}
use Rattle.script_run.specs.declared.accepted.judging.Loading.{Loading}
use Rattle.script_run.specs.Reloads.{loading_is_refused}
use Rattle.script_run.specs.Stepped.{StepsFreshly, StepsPartFreshly, EndsSteps}
use Rattle.mcgate_lines.specs.declared.status.RunFault.{RunFault}
use Rattle.mcgate_lines.specs.declared.status.RunFault.TheVariants.{NoMemory, Writer, TooManyCalls}
use Rattle.mcgate_replay.specs.declared.judging.Judging.{Judging}
use Rattle.mcgate_replay.specs.declared.judging.Judging.TheVariants.{Any}
use Rattle.mcgate_replay.specs.Growing.{asks_no_gate}
use Rattle.mcgate_replay.specs.Replay.{RunsEvents, PrintsPart, BreaksTreeOff, Wrote, BrokeOff, AreLoadings, HasReloads, reloads_of, transcript_lines}
use Rattle.mcgate_replay.proofs.Printing.{first_few}

true_is_not_false : true ≡ false → ⊥
true_is_not_false e = cc

-- ---- servers

pub counted : (servers : ℕ) (made : ScriptServers) → AreNewServers servers made → count_of_servers made ≡ servers
counted servers made new = ap length new.caches ∙ length-replicate servers (empty capacity)

pub new_servers : (servers : ℕ) (made : ScriptServers) → AreNewServers servers made → AreNewServers (count_of_servers made) made
new_servers servers made new = subst (λ (n : ℕ). AreNewServers n made) (sym (counted servers made new)) new

pub enough : (script : ConfiguredScript) (servers : ℕ) (made : ScriptServers) → servers ≡ count_known script → AreNewServers servers made → HasReloads script → length script.config.servers ≤ count_of_servers made
enough script servers made is new has =
    let few = first_few script.config.servers (reloads_of script) has.chained in
    let count = counted servers made new in
    omega (arith, few, is, count)

pub in_order : (script : ConfiguredScript) (reloads : List Reload) (servers : ℕ) (made : ScriptServers) → reloads ≡ reloads_of script → servers ≡ count_known script → AreNewServers servers made → HasReloads script → ReloadsInOrder (length script.script.events.items) (count_of_servers made) 0 reloads
in_order script reloads servers made same is new has =
    subst (λ (rs : List Reload). ReloadsInOrder (length script.script.events.items) (count_of_servers made) 0 rs) (sym same)
    (subst (λ (n : ℕ). ReloadsInOrder (length script.script.events.items) n 0 (reloads_of script)) (sym (counted servers made new ∙ is)) has.order)

-- ---- what a drive did

module _ (config : Configuration) (reloads : List Reload) (loadings : List Loading) (events : List Scripted) where
  module _ (driven : Result Report DriveFault) (t : Transcript) (marks : List ℕ) (old new : Option (List ℕ)) (rs : List Reload) (ls : List Loading) (ms : List ℕ) (rs_are : rs ≡ reloads) (ls_are : ls ≡ loadings) (ms_are : ms ≡ marks) where
    lines_are : (any : Bool) → transcript_lines any rs ls (transcript_of t) ms ≡ transcript_lines any reloads loadings (transcript_of t) marks
    lines_are any =
        ap (λ (r : List Reload). transcript_lines any r ls (transcript_of t) ms) rs_are
        ∙ ap (λ (l : List Loading). transcript_lines any reloads l (transcript_of t) ms) ls_are
        ∙ ap (λ (m : List ℕ). transcript_lines any reloads loadings (transcript_of t) m) ms_are

    within_shown : AreMarks (length t.shown.items) marks → AreMarks (length (transcript_of t)) marks
    within_shown within = subst (λ (n : ℕ). AreMarks n marks) (sym (length-map t.shown.items output_shown)) within

    -- through trees that no gate has seen
    pub ran_any : loadings ≡ [] → IfOk driven (DrivesStepped config.tree (map loading_is_refused loadings) rs events (transcript_of t) marks) → OnOk driven (length marks ≡ length rs) → AreMarks (length t.shown.items) marks → Wrote driven (transcript_lines true rs ls (transcript_of t) ms) old new → RunsEvents Any config reloads events old new
    ran_any none ran marked within w =
        let r = subst (λ (r : Result Report DriveFault). IfOk r (DrivesStepped config.tree (map loading_is_refused loadings) rs events (transcript_of t) marks)) w.driven_is ran in
        let m = subst (λ (r : Result Report DriveFault). OnOk r (length marks ≡ length rs)) w.driven_is marked in
        record {
          loadings = loadings;
          shown = transcript_of t;
          marks = marks;
          report = w.report;
          drives = subst (λ (x : List Reload). DrivesStepped config.tree (map loading_is_refused loadings) x events (transcript_of t) marks w.report) rs_are r;
          marked = m ∙ ap length rs_are;
          within = within_shown within;
          printed = subst (λ (l : List ℕ). Appends old new (l ++ report_line w.report)) (lines_are true) w.printed;
          are_loadings = none;
          fresh = λ e. absurd (true_is_not_false e);
          none_stale = λ e. absurd (true_is_not_false e);
        }

    abbrev some_any : (servers : ScriptServers) → loadings ≡ [] → StepsPart config.tree (map loading_is_refused loadings) reloads events (transcript_of t) marks servers → AreMarks (length t.shown.items) marks → Appends old new (transcript_lines true rs ls (transcript_of t) ms) → PrintsPart Any config reloads events old new
    some_any servers none part within wrote = record {
      loadings = loadings;
      shown = transcript_of t;
      marks = marks;
      servers = servers;
      part = part;
      within = within_shown within;
      printed = subst (λ (l : List ℕ). Appends old new l) (lines_are true) wrote;
      are_loadings = none;
      fresh = λ e. absurd (true_is_not_false e);
    }

    pub part_any : (before after : ScriptServers) → loadings ≡ [] → IfErr driven (EndsStepped config.tree (map loading_is_refused loadings) rs events t marks before after) → AreMarks (length t.shown.items) marks → (fault : RunFault) → BrokeOff driven (transcript_lines true rs ls (transcript_of t) ms) old new fault → BreaksTreeOff Any config reloads events old new fault
    part_any before after none ends within NoMemory b =
        let e = subst (λ (x : List Reload). IfErr driven (EndsStepped config.tree (map loading_is_refused loadings) x events t marks before after)) rs_are ends in
        let part = subst (λ (r : Result Report DriveFault). IfErr r (EndsStepped config.tree (map loading_is_refused loadings) reloads events t marks before after)) b.0 e in
        inr (some_any after none part within b.1)
    part_any before after none ends within TooManyCalls b =
        let e = subst (λ (x : List Reload). IfErr driven (EndsStepped config.tree (map loading_is_refused loadings) x events t marks before after)) rs_are ends in
        let part = subst (λ (r : Result Report DriveFault). IfErr r (EndsStepped config.tree (map loading_is_refused loadings) reloads events t marks before after)) b.0 e in
        record { prints = some_any after none part.0 within b.1; spent = part.1 }
    part_any before after none ends within Writer b = tt

    -- through trees that the gate accepted, whatever servers held at first or as is said of it
    pub ran_accepted : (judging : Judging) → asks_no_gate judging ≡ false → AreLoadings judging config reloads loadings → IfOk driven (StepsFreshly config.tree loadings rs events (transcript_of t) marks) → OnOk driven (length marks ≡ length rs) → AreMarks (length t.shown.items) marks → Wrote driven (transcript_lines false rs ls (transcript_of t) ms) old new → RunsEvents judging config reloads events old new
    ran_accepted judging asked judged ran marked within w =
        let r = subst (λ (r : Result Report DriveFault). IfOk r (StepsFreshly config.tree loadings rs events (transcript_of t) marks)) w.driven_is ran in
        let freshly = subst (λ (x : List Reload). StepsFreshly config.tree loadings x events (transcript_of t) marks w.report) rs_are r in
        let m = subst (λ (r : Result Report DriveFault). OnOk r (length marks ≡ length rs)) w.driven_is marked in
        record {
          loadings = loadings;
          shown = transcript_of t;
          marks = marks;
          report = w.report;
          drives = freshly.drives;
          marked = m ∙ ap length rs_are;
          within = within_shown within;
          printed = subst (λ (l : List ℕ). Appends old new (l ++ report_line w.report)) (lines_are false ∙ ap (λ (any : Bool). transcript_lines any reloads loadings (transcript_of t) marks) (sym asked)) w.printed;
          are_loadings = judged;
          fresh = λ e. freshly.fresh;
          none_stale = λ e. freshly.none_stale;
        }

    abbrev some_accepted : (judging : Judging) → asks_no_gate judging ≡ false → (servers : ScriptServers) → AreLoadings judging config reloads loadings → StepsPartFreshly config.tree loadings reloads events (transcript_of t) marks servers → AreMarks (length t.shown.items) marks → Appends old new (transcript_lines false rs ls (transcript_of t) ms) → PrintsPart judging config reloads events old new
    some_accepted judging asked servers judged freshly within wrote = record {
      loadings = loadings;
      shown = transcript_of t;
      marks = marks;
      servers = servers;
      part = freshly.part;
      within = within_shown within;
      printed = subst (λ (l : List ℕ). Appends old new l) (lines_are false ∙ ap (λ (any : Bool). transcript_lines any reloads loadings (transcript_of t) marks) (sym asked)) wrote;
      are_loadings = judged;
      fresh = λ e. freshly.fresh;
    }

    pub part_accepted : (judging : Judging) → asks_no_gate judging ≡ false → (before after : ScriptServers) → AreLoadings judging config reloads loadings → IfErr driven (EndsSteps config.tree loadings rs events t marks before after) → AreMarks (length t.shown.items) marks → (fault : RunFault) → BrokeOff driven (transcript_lines false rs ls (transcript_of t) ms) old new fault → BreaksTreeOff judging config reloads events old new fault
    part_accepted judging asked before after judged ends within NoMemory b =
        let e = subst (λ (x : List Reload). IfErr driven (EndsSteps config.tree loadings x events t marks before after)) rs_are ends in
        let part = subst (λ (r : Result Report DriveFault). IfErr r (EndsSteps config.tree loadings reloads events t marks before after)) b.0 e in
        inr (some_accepted judging asked after judged part within b.1)
    part_accepted judging asked before after judged ends within TooManyCalls b =
        let e = subst (λ (x : List Reload). IfErr driven (EndsSteps config.tree loadings x events t marks before after)) rs_are ends in
        let part = subst (λ (r : Result Report DriveFault). IfErr r (EndsSteps config.tree loadings reloads events t marks before after)) b.0 e in
        record { prints = some_accepted judging asked after judged part.0 within b.1; spent = part.1 }
    part_accepted judging asked before after judged ends within Writer b = tt
