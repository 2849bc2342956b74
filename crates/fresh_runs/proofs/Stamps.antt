-- What is left after an acknowledged delete: nothing. And the parts of lists of calls.
use Rattle.std.proofs.Common.{◌≡◌, ℕ, zero, suc, Bool, true, false, cond, List, [], ◌∷◌, ◌++◌, length, Option, Some, None, ◌⊎◌, inl, inr, ⊎_elim, refl, ap, ◌∙◌, bytes_eq, slice_get}
use Rattle.mc_types.specs.declared.ask.Op.TheVariants.{Delete}
use Rattle.mc_types.specs.declared.ask.Ask.{Ask}
use Rattle.mc_types.specs.declared.answer.Answer.{Answer}
use Rattle.mc_types.specs.declared.call.Outcome.TheVariants.{Answered}
use Rattle.mc_types.specs.Acknowledged.{says_gone}
use Rattle.mc_types.specs.Items.{Item, removes}
use Rattle.fresh_runs.specs.Life.{Mark, held_in}
use Rattle.fresh_runs.specs.Calls.{Call, End, Read, Unread, Never, outcome_of, marks_of}
use Rattle.fresh_runs.specs.Cover.{ClearsIn}

-- nothing is held
abbrev pub IsGone : Option Item → Type 0
IsGone None = Unit {0}
IsGone (Some item) = ⊥

-- what holds of both sides of a test holds of its outcome
pub by_test : {A : Type 0} (P : A → Type 0) (b : Bool) (x y : A) → (b ≡ true → P x) → (b ≡ false → P y) → P (cond b x y)
by_test P true x y f g = f refl
by_test P false x y f g = g refl

pub clear_marks : (opening : Option Item) (ask : Ask) (end : End) (life : List Mark) (key : List ℕ) (answer : Answer) → ask.op ≡ Delete → bytes_eq ask.key key ≡ true → outcome_of end ≡ Answered answer → says_gone answer ≡ true → IsGone (held_in opening (marks_of ask end ++ life) key)
clear_marks opening ask (Read stamp a spaces) life key answer op same out gone =
    let is : a ≡ answer = cc in
    let gone_is : removes ask.op a ≡ true = ap (λ o. removes o a) op ∙ ap says_gone is ∙ gone in
    by_test IsGone (bytes_eq ask.key key) _ _ (λ _. by_test IsGone (removes ask.op a) None _ (λ _. tt) (λ differs. absurd (cc))) (λ differs. absurd (cc))
clear_marks opening ask (Unread stamp a spaces) life key answer op same out gone = absurd (cc)
clear_marks opening ask Never life key answer op same out gone = absurd (cc)

pub get_left : {A : Type 0} (xs ys : List A) (i : ℕ) (x : A) → slice_get xs i ≡ Some x → slice_get (xs ++ ys) i ≡ Some x
get_left [] ys i x e = absurd (cc)
get_left (y ∷ xs) ys zero x e = e
get_left (y ∷ xs) ys (suc i) x e = get_left xs ys i x e

pub get_seam : {A : Type 0} (xs : List A) (y : A) (ys : List A) → slice_get (xs ++ y ∷ ys) (length xs) ≡ Some y
get_seam [] y ys = refl
get_seam (x ∷ xs) y ys = get_seam xs y ys

pub clears_split : (calls : List Call) (call : Call) (s : ℕ) → ClearsIn (calls ++ call ∷ []) s → ClearsIn calls s ⊎ ClearsIn (call ∷ []) s
clears_split [] call s h = inr h
clears_split (c ∷ calls) call s (inl h) = inl (inl h)
clears_split (c ∷ calls) call s (inr h) = ⊎_elim (λ l. inl (inr l)) (λ r. inr r) (clears_split calls call s h)
