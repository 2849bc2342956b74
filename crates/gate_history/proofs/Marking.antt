-- The marks of a server after generations, one after another.
use Rattle.std.proofs.Common.{◌≡◌, ℕ, zero, suc, ◌+◌, ◌<◌, ◌≤◌, Bool, List, [], ◌∷◌, ◌++◌, length, map, take, get_or, refl, sym, ap, ◌∙◌, subst, arith}
use Rattle.std.proofs.lemmas.List.{length-map, take_all, take_more, map-append}
use Rattle.route_tree.specs.At.{plain_for}
use Rattle.route_tree.specs.Plan.{Plan}
use Rattle.gate_growth.specs.Marks.{IsMarkOf}
use Rattle.gate_growth.specs.declared.ledger.mark.Mark.{Mark}
use Rattle.gate_history.specs.declared.generation.Generation.{Generation}
use Rattle.gate_history.specs.Concerning.{plans_for}

take_len : (gs : List Generation) (i : ℕ) → i ≤ length gs → length (take i gs) ≡ i
take_len gs zero le = refl
take_len [] (suc i) le = absurd (omega (arith, le))
take_len (g ∷ gs) (suc i) le = ap suc (take_len gs i (omega (arith, le)))

pub plans_len : (hash : ℕ) (text : List ℕ) (gs : List Generation) (i : ℕ) → i ≤ length gs → length (plans_for hash text (take i gs)) ≡ i
plans_len hash text gs i le = length-map (take i gs) (λ (g : Generation). plain_for hash text g.config.tree) ∙ take_len gs i le

-- after one more
pub one_more_mark :
    (hash : ℕ) (text : List ℕ) (arbitrary : Bool) (server : ℕ) (gs : List Generation) (i : ℕ) (g : Generation) (mark new : Mark) → i < length gs → g ≡ get_or gs i g
    → IsMarkOf arbitrary (plans_for hash text (take i gs)) server mark
    → ((plans : List Plan) → length plans ≡ i → IsMarkOf arbitrary plans server mark → IsMarkOf arbitrary (plans ++ plain_for hash text g.config.tree ∷ []) server new)
    → IsMarkOf arbitrary (plans_for hash text (take (i + 1) gs)) server new
one_more_mark hash text arbitrary server gs i g mark new lt is marks after =
    let plan = λ (h : Generation). plain_for hash text h.config.tree in
    let taken : take (i + 1) gs ≡ take i gs ++ g ∷ [] = take_more gs i g lt ∙ ap (λ (h : Generation). take i gs ++ h ∷ []) (sym is) in
    let more : plans_for hash text (take (i + 1) gs) ≡ plans_for hash text (take i gs) ++ plain_for hash text g.config.tree ∷ [] = ap (map plan) taken ∙ map-append plan (take i gs) (g ∷ []) in
    subst (λ (plans : List Plan). IsMarkOf arbitrary plans server new) (sym more) (after (plans_for hash text (take i gs)) (plans_len hash text gs i (omega (arith, lt))) marks)

-- after all
module _ (hash : ℕ) (text : List ℕ) (gs : List Generation) (i : ℕ) (done : length gs ≤ i) where
  pub all_len : i ≤ length gs → length (plans_for hash text gs) ≡ i
  all_len le = length-map gs (λ (g : Generation). plain_for hash text g.config.tree) ∙ omega (arith, done, le)

  pub all_marked : (arbitrary : Bool) (server : ℕ) (mark : Mark) → IsMarkOf arbitrary (plans_for hash text (take i gs)) server mark → IsMarkOf arbitrary (plans_for hash text gs) server mark
  all_marked arbitrary server mark = subst (λ (l : List Generation). IsMarkOf arbitrary (plans_for hash text l) server mark) (take_all i gs done)
