-- What a text ends with, and one line more.
use Rattle.std.proofs.Common.{◌≡◌, ℕ, ◌+◌, ◌-◌, Bool, true, false, List, [], ◌∷◌, ◌++◌, length, take, None, sym, ap, subst, ◌∙◌}
use Rattle.std.specs.Prelude.{MatchBool}
use Rattle.std.specs.Str.Pattern.{HasSuffixMatch, FindsTextSuffix}
use Rattle.gate_growth.specs.declared.ledger.page.Beginning.{Beginning}
use Rattle.gate_history.specs.declared.generation.Generation.{Generation}
use Rattle.gate_history.specs.InFile.{InFile}
use Rattle.gate_history.specs.Histories.{IsHistoryOf}
use Rattle.gate_history.specs.Judged.{AreSoundBy}
use Rattle.gate_history.specs.Standing.{EndsWith, StandsInHistory, SaysNext}
use Rattle.gate_history.specs.Written.{IsLineFor}
use Rattle.gate_history.proofs.ReadBack.{written_is_read}

-- the line that a text would have is the end of the bytes
pub ends_so : (number : ℕ) (began : Beginning) (bytes line text s n : List ℕ) (r : Bool) → s ≡ bytes → n ≡ line → MatchBool r (HasSuffixMatch (FindsTextSuffix n) s) (FindsTextSuffix n s None) → IsLineFor number began text line → r ≡ true
    → EndsWith bytes text
ends_so number began bytes line text s n true s-is n-is h is e =
    let front = take (length s - h.0) s in
    (front, number, began, is.0, sym s-is ∙ h.1.1 ∙ ap (λ (l : List ℕ). front ++ l) (n-is ∙ is.1), is.3)
ends_so number began bytes line text s n false s-is n-is h is e = absurd cc

-- a history that stands so in its file
pub stands_by : (f : InFile) (gs : List Generation) (bytes text : List ℕ) → record { generations = gs; text = bytes } ≡ f → IsHistoryOf gs bytes → AreSoundBy gs → EndsWith bytes text → StandsInHistory f.text text
stands_by f gs bytes text is history sound last = subst (λ (x : InFile). StandsInHistory x.text text) is (record { generations = gs; history = history; sound = sound; last = last })

-- with its line the configuration stands at the end
pub stands_next :
    (gs new : List Generation) (g : Generation) (file longer bytes text : List ℕ) → IsHistoryOf gs file → new ≡ gs ++ g ∷ [] → longer ≡ file ++ bytes → IsLineFor (length gs + 1) g.began text bytes → SaysNext gs text g.config
    → IsHistoryOf new longer × EndsWith longer text
stands_next gs new g file longer bytes text is next whole line says =
    let read = written_is_read gs g file text bytes is line says in (
      subst (λ (l : List Generation). IsHistoryOf l longer) (sym next) (subst (IsHistoryOf (gs ++ g ∷ [])) (sym whole) read),
      (file, length gs + 1, g.began, line.0, whole ∙ ap (λ (l : List ℕ). file ++ l) line.1, line.3),
    )
