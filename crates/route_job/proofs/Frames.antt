-- What comes within frames.
use Rattle.std.proofs.Common.{◌≡◌, ◌↔◌, ℕ, ◌+◌, List, [], ◌∷◌, ◌++◌, length, refl, sym, ap, ◌∙◌, subst, arith}
use Rattle.mc_types.specs.declared.ask.Ask.{Ask}
use Rattle.mc_types.specs.declared.call.Origin.{Origin}
use Rattle.mc_types.specs.declared.call.Outcome.{Outcome}
use Rattle.fresh_runs.specs.Calls.{Call}
use Rattle.route_tree.specs.Word.{Given, Then}
use Rattle.route_job.specs.Parts.{SameAt}
use Rattle.route_job.specs.Rest.{Under, AfterFrame, ask_in, origin_in, ask_under, origin_under, Sure, SureOf}
use Rattle.route_job.specs.declared.frame.Frame.{Frame}
use Rattle.route_job.proofs.Same.{same_refl, same_then}

-- ---- after a call

-- X begins with a call, and after this one it goes on by Y
pub record Later (b : ℕ) (call : Call) (X Y : ℕ → List Call → Given → Type 0) : Type 0 where
  pub none : (given : Given) → X b [] given → ⊥
  pub same : (calls : List Call) (given : Given) → X b (call ∷ calls) given ↔ Y (b + 1) calls given

then_later : (b : ℕ) (call : Call) (X Y : ℕ → List Call → Given → Type 0) (S : Given → ℕ → List Call → Given → Type 0) → Later b call X Y → Later b call (Then X S) (Then Y S)
then_later b call X Y S l = record { none = empty; same = λ calls given. (there calls given, back calls given) }
  where
    first : (front more : List Call) (g : Given) → [] ≡ front ++ more → X b front g → ⊥
    first [] more g e w = l.none g w
    first (c ∷ front) more g e w = cc

    empty : (given : Given) → Then X S b [] given → ⊥
    empty given w = first w.0 w.1 w.3 w.2 w.4

    count : (xs : List Call) (c : Call) → b + length (c ∷ xs) ≡ b + 1 + length xs
    count xs c = omega arith

    part : (calls front more : List Call) (g given : Given) → call ∷ calls ≡ front ++ more → X b front g → S g (b + length front) more given → Then Y S (b + 1) calls given
    part calls [] more g given e w s = absurd (l.none g w)
    part calls (c ∷ front) more g given e w s =
        let is : c ≡ call = cc in
        let rest : calls ≡ front ++ more = cc in
        (front, more, rest, g, (l.same front g).0 (subst (λ x. X b (x ∷ front) g) is w), subst (λ n. S g n more given) (count front c) s)

    there : (calls : List Call) (given : Given) → Then X S b (call ∷ calls) given → Then Y S (b + 1) calls given
    there calls given w = part calls w.0 w.1 w.3 given w.2 w.4 w.5

    back : (calls : List Call) (given : Given) → Then Y S (b + 1) calls given → Then X S b (call ∷ calls) given
    back calls given w =
        (call ∷ w.0, w.1, ap (λ l. call ∷ l) w.2, w.3, (l.same w.0 w.3).1 w.4, subst (λ n. S w.3 n w.1 given) (sym (count w.0 call)) w.5)

-- ---- the next call

-- every word from here begins with a call of this ask
abbrev pub BeginsWith : ℕ → (ℕ → List Call → Given → Type 0) → ℕ → Ask → Origin → Type 0
BeginsWith b X server ask origin =
    (calls : List Call) (given : Given) → X b calls given
    → (outcome : Outcome) × (rest : List Call) × (calls ≡ record { server = server; ask = ask; origin = origin; outcome = outcome } ∷ rest)

then_begins : (b : ℕ) (X : ℕ → List Call → Given → Type 0) (S : Given → ℕ → List Call → Given → Type 0) (server : ℕ) (ask : Ask) (origin : Origin) → BeginsWith b X server ask origin → BeginsWith b (Then X S) server ask origin
then_begins b X S server ask origin h calls given w =
    let k = h w.0 w.3 w.4 in
    (k.0, k.1 ++ w.1, w.2 ∙ ap (λ l. l ++ w.1) k.2)

pub ask_put : (fs : List Frame) (f : Frame) (ask : Ask) → ask_under (fs ++ f ∷ []) ask ≡ ask_in f (ask_under fs ask)
ask_put [] f ask = refl
ask_put (g ∷ fs) f ask = ask_put fs f (ask_in g ask)

pub origin_put : (fs : List Frame) (f : Frame) (origin : Origin) → origin_under (fs ++ f ∷ []) origin ≡ origin_in f (origin_under fs origin)
origin_put [] f origin = refl
origin_put (g ∷ fs) f origin = origin_put fs f (origin_in g origin)

-- Trees are seen by the keys of this hash and text.
module _ (hash : ℕ) (text : List ℕ) where
  pub under_same : (fs : List Frame) (ask : Ask) (origin : Origin) (b : ℕ) (X Y : ℕ → List Call → Given → Type 0) → SameAt b X Y → SameAt b (Under hash text fs ask origin X) (Under hash text fs ask origin Y)
  under_same [] ask origin b X Y h = h
  under_same (f ∷ fs) ask origin b X Y h =
      same_then b (Under hash text fs (ask_in f ask) (origin_in f origin) X) (Under hash text fs (ask_in f ask) (origin_in f origin) Y) (AfterFrame hash text f ask origin) (under_same fs (ask_in f ask) (origin_in f origin) b X Y h)

  -- a frame that is put down inmost
  pub under_put : (fs : List Frame) (f : Frame) (ask : Ask) (origin : Origin) (b : ℕ) (X : ℕ → List Call → Given → Type 0) → SameAt b (Under hash text (fs ++ f ∷ []) ask origin X) (Under hash text fs ask origin (Then X (AfterFrame hash text f (ask_under fs ask) (origin_under fs origin))))
  under_put [] f ask origin b X = same_refl b (Then X (AfterFrame hash text f ask origin))
  under_put (g ∷ fs) f ask origin b X =
      same_then b (Under hash text (fs ++ f ∷ []) (ask_in g ask) (origin_in g origin) X) (Under hash text fs (ask_in g ask) (origin_in g origin) (Then X (AfterFrame hash text f (ask_under fs (ask_in g ask)) (origin_under fs (origin_in g origin))))) (AfterFrame hash text g ask origin) (under_put fs f (ask_in g ask) (origin_in g origin) b X)

  -- ---- what each frame needs

  pub sure_same : (fs : List Frame) (ask : Ask) (origin : Origin) (b : ℕ) (X Y : ℕ → List Call → Given → Type 0) → SameAt b X Y → Sure hash text fs ask origin b X → Sure hash text fs ask origin b Y
  sure_same [] ask origin b X Y h s = tt
  sure_same (f ∷ fs) ask origin b X Y h s = (
    (λ calls given w. s.0 calls given ((under_same fs (ask_in f ask) (origin_in f origin) b X Y h calls given).1 w)),
    sure_same fs (ask_in f ask) (origin_in f origin) b X Y h s.1,
  )

  pub sure_off : (fs : List Frame) (f : Frame) (ask : Ask) (origin : Origin) (b : ℕ) (X : ℕ → List Call → Given → Type 0) → Sure hash text (fs ++ f ∷ []) ask origin b X → Sure hash text fs ask origin b (Then X (AfterFrame hash text f (ask_under fs ask) (origin_under fs origin))) × SureOf f b X
  sure_off [] f ask origin b X s = (tt, s.0)
  sure_off (g ∷ fs) f ask origin b X s =
      let r = sure_off fs f (ask_in g ask) (origin_in g origin) b X s.1 in
      (((λ calls given w. s.0 calls given ((under_put fs f (ask_in g ask) (origin_in g origin) b X calls given).1 w)), r.0), r.1)

  pub sure_put : (fs : List Frame) (f : Frame) (ask : Ask) (origin : Origin) (b : ℕ) (X : ℕ → List Call → Given → Type 0) → Sure hash text fs ask origin b (Then X (AfterFrame hash text f (ask_under fs ask) (origin_under fs origin))) → SureOf f b X → Sure hash text (fs ++ f ∷ []) ask origin b X
  sure_put [] f ask origin b X s k = (k, tt)
  sure_put (g ∷ fs) f ask origin b X s k =
      ((λ calls given w. s.0 calls given ((under_put fs f (ask_in g ask) (origin_in g origin) b X calls given).0 w)), sure_put fs f (ask_in g ask) (origin_in g origin) b X s.1 k)

  pub under_later : (fs : List Frame) (ask : Ask) (origin : Origin) (b : ℕ) (call : Call) (X Y : ℕ → List Call → Given → Type 0) → Later b call X Y → Later b call (Under hash text fs ask origin X) (Under hash text fs ask origin Y)
  under_later [] ask origin b call X Y l = l
  under_later (f ∷ fs) ask origin b call X Y l =
      then_later b call (Under hash text fs (ask_in f ask) (origin_in f origin) X) (Under hash text fs (ask_in f ask) (origin_in f origin) Y) (AfterFrame hash text f ask origin) (under_later fs (ask_in f ask) (origin_in f origin) b call X Y l)

  pub sure_later : (fs : List Frame) (ask : Ask) (origin : Origin) (b : ℕ) (call : Call) (X Y : ℕ → List Call → Given → Type 0) → Later b call X Y → Sure hash text fs ask origin b X → Sure hash text fs ask origin (b + 1) Y
  sure_later [] ask origin b call X Y l s = tt
  sure_later (f ∷ fs) ask origin b call X Y l s = (
    (λ calls given w. s.0 (call ∷ calls) given (((under_later fs (ask_in f ask) (origin_in f origin) b call X Y l).same calls given).1 w)),
    sure_later fs (ask_in f ask) (origin_in f origin) b call X Y l s.1,
  )

  pub under_begins : (fs : List Frame) (under : Ask) (source : Origin) (b : ℕ) (X : ℕ → List Call → Given → Type 0) (server : ℕ) (ask : Ask) (origin : Origin) → BeginsWith b X server ask origin → BeginsWith b (Under hash text fs under source X) server ask origin
  under_begins [] under source b X server ask origin h = h
  under_begins (f ∷ fs) under source b X server ask origin h =
      then_begins b (Under hash text fs (ask_in f under) (origin_in f source) X) (AfterFrame hash text f under source) server ask origin (under_begins fs (ask_in f under) (origin_in f source) b X server ask origin h)
