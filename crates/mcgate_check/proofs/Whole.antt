-- No computed script steps its calls.
use Rattle.std.proofs.Common.{◌≡◌, ℕ, zero, suc, false, ◌||◌, List, [], ◌∷◌, ◌++◌, Result, Option, Some, None, refl, ap, ◌∙◌, map}
use Rattle.std.specs.Prelude.{IfOk, IfSome}
use Rattle.std.proofs.lemmas.List.Folds.{list_any-append}
use Rattle.std.proofs.lemmas.Result.{IfOk-weaker}
use Rattle.mc_types.specs.declared.ask.Op.{Op}
use Rattle.fresh_runs.specs.Log.{Scripted, Piece, Fail, Hold, Before}
use Rattle.route_json.specs.Configuration.{Configuration}
use Rattle.gate_check.specs.declared.gap.Gap.{Gap}
use Rattle.script_events.specs.declared.script.Script.{Script}
use Rattle.script_events.specs.Scripted.{scripted_of}
use Rattle.mcgate_check.specs.Stepped.{is_step, is_stepped}
use Rattle.gate_gaps.specs.Scripts.{fail_lines}
use Rattle.mcgate_check.specs.Commands.{script_for, delete_text, read_text}
use Rattle.mcgate_check.specs.Refusals.{IsRefusalRun, IsLeakAnswer}

both_whole : (xs ys : List Scripted) → is_stepped xs ≡ false → is_stepped ys ≡ false → is_stepped (xs ++ ys) ≡ false
both_whole xs ys a b = list_any-append is_step xs ys ∙ ap (λ c. c || is_stepped ys) a ∙ b

fails_whole : (n : ℕ) → is_stepped (fail_lines n) ≡ false
fails_whole zero = refl
fails_whole (suc n) = both_whole (fail_lines n) (Fail (suc n) Before ∷ []) (fails_whole n) refl

pub script_whole : (server : ℕ) (key : List ℕ) (op : Op) (i j : ℕ) → is_stepped (script_for server key op i j) ≡ false
script_whole server key op i j =
    let held : List Scripted = Hold server key (49 ∷ []) ∷ fail_lines i in
    let deleted : List Scripted = held ++ Piece 0 (delete_text key) ∷ [] in
    let failing : List Scripted = deleted ++ fail_lines j in
    both_whole failing (Piece 0 (read_text op key) ∷ [])
    (both_whole deleted (fail_lines j)
    (both_whole held (Piece 0 (delete_text key) ∷ []) (fails_whole i) refl)
    (fails_whole j))
    refl

run_whole : (config : Configuration) (gap : Gap) (script : List Scripted) → IsRefusalRun config gap script → is_stepped script ≡ false
run_whole config gap script run = ap is_stepped run.script_is ∙ script_whole gap.server run.key gap.op run.delete run.read

found_whole : (config : Configuration) (gap : Gap) (found : Option Script) → IsLeakAnswer config gap found → IfSome found (λ script. is_stepped (map scripted_of script.events.items) ≡ false)
found_whole config gap None none = tt
found_whole config gap (Some script) run = run_whole config gap (map scripted_of script.events.items) run

-- nor does a refusal run
pub answer_whole : {E : Type 0} (config : Configuration) (gap : Gap) (result : Result (Option Script) E) → IfOk result (IsLeakAnswer config gap) → IfOk result (λ found. IfSome found (λ script. is_stepped (map scripted_of script.events.items) ≡ false))
answer_whole config gap result answer = IfOk-weaker result _ _ (λ found a. found_whole config gap found a) answer
