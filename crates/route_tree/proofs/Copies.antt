-- Where a command can't copy, all its calls have the origin of its data.
use Rattle.std.proofs.Common.{◌≡◌, ℕ, ◌+◌, Bool, true, false, cond, ◌||◌, List, [], ◌∷◌, ◌++◌, length, inl, inr, refl, sym, ap, ◌∙◌, subst, MatchBool, slice_get, zero, suc, Some}
use Rattle.mc_types.specs.declared.ask.Op.{Op}
use Rattle.mc_types.specs.declared.ask.Op.TheVariants.{Get, Gat, Set, Add, Replace, Append, Prepend, Cas, Delete, Incr, Decr, Touch}
use Rattle.mc_types.specs.declared.ask.Ask.{Ask}
use Rattle.mc_types.specs.declared.call.Origin.{Origin}
use Rattle.mc_types.specs.declared.call.Origin.TheVariants.{Client, CopyOf}
use Rattle.fresh_runs.specs.Calls.{Call}
use Rattle.route_tree.specs.Operation.{same_op}
use Rattle.route_tree.specs.Plan.{Plan, Plans, PlanPolicies, Server, Null, Failing, AllSync, Failover, MissFailover, WarmUp, ByOperation, End, More, Otherwise, Policy}
use Rattle.route_tree.specs.Word.{Given, IfGet, PlanWord, WordOfAll, WordOfFirst, WordOfHead, WordOfPolicy}
use Rattle.route_tree.specs.Copies.{is_get, may_copy, may_copy_in, may_copy_by, AreOf, OthersDontCopy, TreesBarDeletes}

or_left : (a b : Bool) → (a || b) ≡ false → a ≡ false
or_left true b e = absurd (cc)
or_left false b e = refl

or_right : (a b : Bool) → (a || b) ≡ false → b ≡ false
or_right true b e = absurd (cc)
or_right false b e = e

both : (origin : Origin) (xs ys : List Call) → AreOf origin xs → AreOf origin ys → AreOf origin (xs ++ ys)
both origin [] ys h k = k
both origin (x ∷ xs) ys h k = (h.0, both origin xs ys h.1 k)

either_get : (op : Op) (A B C : Type 0) → (A → C) → (B → C) → IfGet op A B → C
either_get Get A B C f g h = f h
either_get Gat A B C f g h = g h
either_get Set A B C f g h = g h
either_get Add A B C f g h = g h
either_get Replace A B C f g h = g h
either_get Append A B C f g h = g h
either_get Prepend A B C f g h = g h
either_get Cas A B C f g h = g h
either_get Delete A B C f g h = g h
either_get Incr A B C f g h = g h
either_get Decr A B C f g h = g h
either_get Touch A B C f g h = g h

not_get : (op : Op) (A B : Type 0) → is_get op ≡ false → IfGet op A B → B
not_get Get A B e h = absurd (cc)
not_get Gat A B e h = h
not_get Set A B e h = h
not_get Add A B e h = h
not_get Replace A B e h = h
not_get Append A B e h = h
not_get Prepend A B e h = h
not_get Cas A B e h = h
not_get Delete A B e h = h
not_get Incr A B e h = h
not_get Decr A B e h = h
not_get Touch A B e h = h

mutual
  pub own : OthersDontCopy
  own (Server s) ask origin b calls given e w = subst (AreOf origin) (sym w.2) (refl, tt)
  own Null ask origin b calls given e w = subst (AreOf origin) (sym w.0) tt
  own Failing ask origin b calls given e w = subst (AreOf origin) (sym w.0) tt
  own (AllSync ps) ask origin b calls given e w = own_all ps ask origin b calls w.0 e w.1
  own (Failover ps) ask origin b calls given e w = own_first ps 4 ask origin b calls given e w
  own (MissFailover ps) ask origin b calls given e w =
      either_get ask.op (WordOfFirst ps 1 ask origin b calls given) (WordOfHead ps ask origin b calls given) (AreOf origin calls) (λ h. own_first ps 1 ask origin b calls given e h) (λ h. own_head ps ask origin b calls given e h) w
  own (WarmUp cold warm exptime) ask origin b calls given e w =
      own cold ask origin b calls given (or_right (is_get ask.op) (may_copy ask.op cold) e) (not_get ask.op _ (PlanWord cold ask origin b calls given) (or_left (is_get ask.op) (may_copy ask.op cold) e) w)
  own (ByOperation policies) ask origin b calls given e w = own_policy policies ask origin b calls given e w

  own_all : (ps : Plans) (ask : Ask) (origin : Origin) (b : ℕ) (calls : List Call) (all : List Given) → may_copy_in ask.op ps ≡ false → WordOfAll ps ask origin b calls all → AreOf origin calls
  own_all End ask origin b calls all e w = subst (AreOf origin) (sym w.0) tt
  own_all (More p ps) ask origin b calls all e w =
      subst (AreOf origin) (sym w.2) (both origin w.0 w.1 (own p ask origin b w.0 w.3 (or_left (may_copy ask.op p) (may_copy_in ask.op ps) e) w.4) (own_all ps ask origin (b + length w.0) w.1 w.5 (or_right (may_copy ask.op p) (may_copy_in ask.op ps) e) w.7))

  own_first : (ps : Plans) (limit : ℕ) (ask : Ask) (origin : Origin) (b : ℕ) (calls : List Call) (given : Given) → may_copy_in ask.op ps ≡ false → WordOfFirst ps limit ask origin b calls given → AreOf origin calls
  own_first End limit ask origin b calls given e w = absurd w
  own_first (More p ps) limit ask origin b calls given e (inl w) = own p ask origin b calls given (or_left (may_copy ask.op p) (may_copy_in ask.op ps) e) w.0
  own_first (More p ps) limit ask origin b calls given e (inr w) =
      subst (AreOf origin) (sym w.2) (both origin w.0 w.1 (own p ask origin b w.0 w.3 (or_left (may_copy ask.op p) (may_copy_in ask.op ps) e) w.4) (own_first ps limit ask origin (b + length w.0) w.1 given (or_right (may_copy ask.op p) (may_copy_in ask.op ps) e) w.6))

  own_head : (ps : Plans) (ask : Ask) (origin : Origin) (b : ℕ) (calls : List Call) (given : Given) → may_copy_in ask.op ps ≡ false → WordOfHead ps ask origin b calls given → AreOf origin calls
  own_head End ask origin b calls given e w = absurd w
  own_head (More p ps) ask origin b calls given e w = own p ask origin b calls given (or_left (may_copy ask.op p) (may_copy_in ask.op ps) e) w

  own_policy : (policies : PlanPolicies) (ask : Ask) (origin : Origin) (b : ℕ) (calls : List Call) (given : Given) → may_copy_by ask.op policies ≡ false → WordOfPolicy policies ask origin b calls given → AreOf origin calls
  own_policy (Otherwise p) ask origin b calls given e w = own p ask origin b calls given e w
  own_policy (Policy o p rest) ask origin b calls given e w =
      (elim (same_op o ask.op) as (λ t. cond t (may_copy ask.op p) (may_copy_by ask.op rest) ≡ false → MatchBool t (PlanWord p ask origin b calls given) (WordOfPolicy rest ask origin b calls given) → AreOf origin calls) [
        | true ↦ λ f h. own p ask origin b calls given f h
        | false ↦ λ f h. own_policy rest ask origin b calls given f h
      ]) e w

of_at : (origin : Origin) (calls : List Call) (i : ℕ) (call : Call) → AreOf origin calls → slice_get calls i ≡ Some call → call.origin ≡ origin
of_at origin [] i call h e = absurd (cc)
of_at origin (c ∷ calls) zero call h e = subst (λ (d : Call). d.origin ≡ origin) (let is : c ≡ call = cc in is) h.0
of_at origin (c ∷ calls) (suc i) call h e = of_at origin calls i call h.1 e

client_is : (i : ℕ) → Client ≡ CopyOf i → ⊥
client_is i e = cc

pub trees_bar : TreesBarDeletes
trees_bar at number ask calls reply from word j call i got o n delete op same = (
  (elim (may_copy ask.op (at number ask.key)) as (λ b. may_copy ask.op (at number ask.key) ≡ b → b ≡ true) [
    | true ↦ λ _. refl
    | false ↦ λ none. absurd (client_is i (sym (of_at Client calls j call (own (at number ask.key) ask Client 0 calls (record { reply = reply; from = from }) none word.1) got) ∙ o))
  ]) refl,
  op,
)

either_false : (t a b : Bool) → a ≡ false → b ≡ false → cond t a b ≡ false
either_false true a b e f = e
either_false false a b e f = f

-- no other command than a get may copy
mutual
  pub others_copy_nothing : (op : Op) (plan : Plan) → is_get op ≡ false → may_copy op plan ≡ false
  others_copy_nothing op (Server s) e = refl
  others_copy_nothing op Null e = refl
  others_copy_nothing op Failing e = refl
  others_copy_nothing op (AllSync ps) e = others_copy_nothing_in op ps e
  others_copy_nothing op (Failover ps) e = others_copy_nothing_in op ps e
  others_copy_nothing op (MissFailover ps) e = others_copy_nothing_in op ps e
  others_copy_nothing op (WarmUp cold warm exptime) e = ap (λ b. b || may_copy op cold) e ∙ others_copy_nothing op cold e
  others_copy_nothing op (ByOperation policies) e = others_copy_nothing_by op policies e

  others_copy_nothing_in : (op : Op) (ps : Plans) → is_get op ≡ false → may_copy_in op ps ≡ false
  others_copy_nothing_in op End e = refl
  others_copy_nothing_in op (More p ps) e = ap (λ b. b || may_copy_in op ps) (others_copy_nothing op p e) ∙ others_copy_nothing_in op ps e

  others_copy_nothing_by : (op : Op) (policies : PlanPolicies) → is_get op ≡ false → may_copy_by op policies ≡ false
  others_copy_nothing_by op (Otherwise p) e = others_copy_nothing op p e
  others_copy_nothing_by op (Policy o p rest) e = either_false (same_op o op) (may_copy op p) (may_copy_by op rest) (others_copy_nothing op p e) (others_copy_nothing_by op rest e)
