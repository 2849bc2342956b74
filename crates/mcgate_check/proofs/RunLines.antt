-- The events of a refusal run can stand in lines.
use Rattle.std.proofs.Common.{ℕ, zero, suc, List, [], ◌∷◌, ◌++◌, arith}
use Rattle.mc_types.specs.declared.ask.Op.{Op}
use Rattle.mc_types.specs.KeyText.{IsKey}
use Rattle.fresh_runs.specs.Log.{Scripted, Piece, Fail, Hold, Before}
use Rattle.gate_gaps.specs.Scripts.{fail_lines}
use Rattle.mcgate_check.specs.Commands.{delete_text, read_text, script_for}
use Rattle.script_events.specs.LineLaws.{HasLine, HaveLines, HasWidths}
use Rattle.script_events.proofs.Widths.{HaveWidths}

wide_both : (xs ys : List Scripted) → HaveWidths (xs ++ ys) → HaveWidths xs × HaveWidths ys
wide_both [] ys h = (tt, h)
wide_both (x ∷ xs) ys h = let rest = wide_both xs ys h.1 in ((h.0, rest.0), rest.1)

line_both : (xs ys : List Scripted) → HaveLines xs → HaveLines ys → HaveLines (xs ++ ys)
line_both [] ys h k = k
line_both (x ∷ xs) ys h k = (h.0, line_both xs ys h.1 k)

-- events, and one more after them
one_more : (xs : List Scripted) (x : Scripted) → (HaveWidths xs → HaveLines xs) → (HasWidths x → HasLine x) → HaveWidths (xs ++ x ∷ []) → HaveLines (xs ++ x ∷ [])
one_more xs x front last h = let parts = wide_both xs (x ∷ []) h in line_both xs (x ∷ []) (front parts.0) (last parts.1.0, tt)

fails_have_lines : (n : ℕ) → HaveWidths (fail_lines n) → HaveLines (fail_lines n)
fails_have_lines zero h = tt
fails_have_lines (suc n) h = one_more (fail_lines n) (Fail (suc n) Before) (fails_have_lines n) (λ w. ((omega arith, w.0), tt)) h

fails_after : (xs : List Scripted) (n : ℕ) → (HaveWidths xs → HaveLines xs) → HaveWidths (xs ++ fail_lines n) → HaveLines (xs ++ fail_lines n)
fails_after xs n front h = let parts = wide_both xs (fail_lines n) h in line_both xs (fail_lines n) (front parts.0) (fails_have_lines n parts.1)

pub run_has_lines : (server : ℕ) (key : List ℕ) (op : Op) (i j : ℕ) → IsKey key → HaveWidths (script_for server key op i j) → HaveLines (script_for server key op i j)
run_has_lines server key op i j is_key h =
    let held = Hold server key (49 ∷ []) ∷ [] in
    let deleted = (held ++ fail_lines i) ++ Piece 0 (delete_text key) ∷ [] in
    one_more (deleted ++ fail_lines j) (Piece 0 (read_text op key)) (
    fails_after deleted j (
    one_more (held ++ fail_lines i) (Piece 0 (delete_text key)) (
    fails_after held i (λ w. ((w.0.0, is_key, w.0.1, w.0.2), tt))
    ) (λ bytes. (omega arith, bytes))
    )
    ) (λ bytes. (omega arith, bytes)) h
