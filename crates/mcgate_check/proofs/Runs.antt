-- The gap that a tree is refused for is real, and what is found for it is as it is to be.
use Rattle.std.proofs.Common.{List, All, Option, Some, None, Result, Ok, Err, IfSome, inl, inr, refl, sym, ap, subst, map}
use Rattle.std.specs.Prelude.{IfOk}
use Rattle.route_tree.specs.Route.{Route}
use Rattle.route_json.specs.Configuration.{Configuration}
use Rattle.gate_check.specs.declared.gap.Gap.{Gap}
use Rattle.gate_check.specs.declared.gap.Reason.{Reason}
use Rattle.gate_check.specs.declared.gap.Reason.TheVariants as reasons
use Rattle.gate_check.specs.Gate.{IsJudged}
use Rattle.script_events.specs.declared.script.Script.{Script}
use Rattle.script_events.specs.Scripted.{Scripted, scripted_of}
use Rattle.mcgate_check.specs.Refusals.{IsLeakAnswer, IsRefusalRun, IsRealGap}
use Rattle.script_events.specs.LineLaws.{HaveLines, AreReadBack}
use Rattle.script_events.proofs.Widths.{HaveWidths}
use Rattle.script_events.proofs.LinesReadBack.{scripts_are_read_back}
use Rattle.script_events.proofs.Widths.{IsWide, have_widths}
use Rattle.mcgate_check.specs.Checking.{ShowsReason, IsFoundFor, run_lines}
use Rattle.mcgate_check.proofs.RunLines.{run_has_lines}

real_gap : (tree : Route) (gap : Gap) → IsJudged tree (reasons.Uncovered gap) → IsRealGap tree gap
real_gap tree gap judged =
    let first = judged.0.2 in
    record {
      table = judged.0.0;
      is_table = judged.0.1;
      index = first.index;
      class = first.class;
      is_class = first.is_class;
      below = first.below;
      at = first.at;
      gap_at = first.first.gap;
    }

found_for : (config : Configuration) (gap : Gap) (found : Option Script) → IsRealGap config.tree gap → IsLeakAnswer config gap found → IsFoundFor config (reasons.Uncovered gap) found
found_for config gap None real none = none real
found_for config gap (Some script) real run = run

-- what was found for the gap is the script that shows it
pub found_shows : {E : Type 0} (config : Configuration) (gap : Gap) (result : Result (Option Script) E) → IsJudged config.tree (reasons.Uncovered gap) → IfOk result (IsLeakAnswer config gap) → IfOk result (IsFoundFor config (reasons.Uncovered gap))
found_shows config gap (Ok found) judged answer = found_for config gap found (real_gap config.tree gap judged) answer
found_shows config gap (Err error) judged answer = tt

-- a refusal run whose numbers and bytes have their widths is read back
run_is_read : (config : Configuration) (gap : Gap) (events : List Scripted) → IsRefusalRun config gap events → HaveWidths events → AreReadBack events
run_is_read config gap events run widths =
    let wide = subst (λ (es : List Scripted). HaveWidths es) run.script_is widths in
    let lines = run_has_lines gap.server run.key gap.op run.delete run.read run.first.is_key.key_is wide in
    scripts_are_read_back events (subst (λ (es : List Scripted). HaveLines es) (sym run.script_is) lines)

-- the lines of the script that was found show the reason; without a script there are none
pub lines_show : (config : Configuration) (reason : Reason) (found : Option Script) → IsFoundFor config reason found → IfSome found (λ script. All IsWide script.events.items) → ShowsReason config reason (run_lines found)
lines_show config (reasons.Uncovered gap) None lacks widths = inr (lacks, refl)
lines_show config (reasons.Uncovered gap) (Some script) run widths =
    inl (map scripted_of script.events.items, run, run_is_read config gap (map scripted_of script.events.items) run (have_widths script.events.items widths), refl)
lines_show config reasons.TooManyPlaces found none widths = ap run_lines none
lines_show config (reasons.BadCertificate row) found none widths = ap run_lines none
lines_show config reasons.NoMemory found none widths = ap run_lines none
