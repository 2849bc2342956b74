-- Where the looks at a class's rows ended.
use Rattle.std.proofs.Common.{◌≡◌, ℕ, zero, suc, List, [], ◌∷◌, get_or, slice_get, Some, ◌∙◌, subst}
use Rattle.route_tree.specs.Route.{Route}
use Rattle.gate_check.specs.declared.places.table.Class.{Class}
use Rattle.gate_check.specs.declared.places.table.ClassRows.{ClassRows}
use Rattle.gate_check.specs.declared.classes.ClassEnd.{ClassEnd}
use Rattle.gate_check.specs.Ends.{IsClassEnd, EndsAt}

pub got : {A : Type 0} (xs : List A) (i : ℕ) (d x : A) → slice_get xs i ≡ Some x → get_or xs i d ≡ x
got [] i d x e = absurd (cc)
got (y ∷ xs) zero d x e = cc
got (y ∷ xs) (suc i) d x e = got xs i d x e

pub ends_at : (tree : Route) (m : ℕ) (classes : List Class) (all : List ClassRows) (i : ℕ) (c : Class) (rs : ClassRows) (end : ClassEnd) → c ≡ get_or classes i c → rs ≡ get_or all i rs → IsClassEnd tree c.prefix m rs end → EndsAt tree m classes all i end
ends_at tree m classes all i c rs end h k is class rows a b =
    subst (λ (x : Class). IsClassEnd tree x.prefix m rows end) (h ∙ got classes i c class a)
    (subst (λ (y : ClassRows). IsClassEnd tree c.prefix m y end) (k ∙ got all i rs rows b) is)
