-- What is left by none of some trees is cleared by each, or was never put.
use Rattle.std.proofs.Common.{◌≡◌, ℕ, ◌≤◌, Bool, true, false, List, [], ◌∷◌, ◌++◌, Some, ◌⊎◌, inl, inr, ⊎_elim, arith, slice_get}
use Rattle.route_tree.specs.Each.{Each}
use Rattle.route_tree.specs.Plan.{Plan, IsGoodPlan}
use Rattle.route_tree.proofs.Parts.{each_at}
use Rattle.gate_coverage.specs.declared.deleting.Deleting.TheVariants as kinds
use Rattle.gate_coverage.specs.Computed.{cleared}
use Rattle.gate_coverage.proofs.Choices.{bool_is}
use Rattle.gate_coverage.proofs.Keeping.{cleared_is_exact}
use Rattle.gate_growth.specs.Puts.{Puts}
use Rattle.gate_growth.specs.Marks.{IsClear, NoneLeaves}

-- a plain tree clears the server, or doesn't
pub clear_or_not : (p : Plan) (s : ℕ) → IsGoodPlan p → IsClear p s ⊎ (IsClear p s → ⊥)
clear_or_not p s good =
    ⊎_elim
    (λ t. inl (λ kind. (cleared_is_exact p kind s good).0 t))
    (λ f. inr (λ clear. let t = (cleared_is_exact p kinds.Delete s good).1 (clear kinds.Delete) in cc))
    (bool_is (cleared p s))

module _ (arbitrary : Bool) (plans : List Plan) (later : Plan) (s : ℕ) (good : Each IsGoodPlan plans) (good_later : IsGoodPlan later) where
  abbrev more : List Plan
  more = plans ++ later ∷ []

  abbrev Untouched : List Plan → ℕ → Type 0
  Untouched ps i = (arbitrary ≡ false) × ((h : ℕ) (p : Plan) → h ≤ i → slice_get ps h ≡ Some p → Puts p s → ⊥)

  -- one that leaves nothing clears the server, or nothing is there that it could leave
  pub not_left : (i : ℕ) (a : Plan) → slice_get plans i ≡ Some a → NoneLeaves arbitrary plans s → IsClear a s ⊎ Untouched plans i
  not_left i a ga none =
      ⊎_elim
      (λ clear. inl clear)
      (λ unclear. inr (
        ⊎_elim (λ (any : arbitrary ≡ true). absurd (none i (a, ga, inl any, unclear))) (λ f. f) (bool_is arbitrary),
        (λ h p small got puts. none i (a, ga, inr (h, p, (omega (arith, small)), got, puts), unclear)),
      ))
      (clear_or_not a s (each_at IsGoodPlan plans i a good ga))
