-- The classes of a ledger, their pages, and which of them tells of a text. Source: mcgate's own.
use Rattle.std.specs.Prelude.{◌≡◌, ℕ, ◌<◌, ◌≤◌, Bool, true, List, [], ◌∷◌, ◌++◌, map, length, Option, Some, None, slice_get}
use Rattle.route_tree.specs.Each.{Each}
use Rattle.route_tree.specs.Route.{Route}
use Rattle.route_tree.specs.At.{begins}
use Rattle.route_tree.specs.Place.{prefix_text}
use Rattle.gate_check.specs.Places.{place_at}
use Rattle.gate_growth.specs.Grown.{plans_at}
use Rattle.gate_growth.specs.Pages.{IsPageOf}
use Rattle.gate_growth.specs.declared.ledger.page.Page.{Page}
use Rattle.gate_growth.specs.declared.ledger.class.ClassPages.{ClassPages}

abbrev pub class_prefixes : List ClassPages → List (Option (List ℕ))
class_prefixes classes = map (λ (c : ClassPages). c.prefix) classes

-- the prefix, where there is one
abbrev pub given_one : Option (List ℕ) → List (List ℕ)
given_one None = []
given_one (Some p) = p ∷ []

-- the prefixes that there are
abbrev pub given : List (Option (List ℕ)) → List (List ℕ)
given [] = []
given (o ∷ os) = given_one o ++ given os

-- no longer prefix of these classes begins the text
abbrev pub NoneLonger : List ClassPages → List ℕ → ClassPages → Type 0
NoneLonger classes text best =
    Each (λ (c : ClassPages). begins (prefix_text c.prefix) text ≡ true → length (prefix_text c.prefix) ≤ length (prefix_text best.prefix)) classes

-- the prefix of the class begins the text, and no longer one does
abbrev pub IsBest : List ClassPages → List ℕ → ClassPages → Type 0
IsBest classes text best = (begins (prefix_text best.prefix) text ≡ true) × NoneLonger classes text best

-- the first class has no prefix, and each other one has one
abbrev pub AreClasses : List ClassPages → Type 0
AreClasses classes = (texts : List (List ℕ)) × (class_prefixes classes ≡ None ∷ map Some texts)

-- the class at this index is the best for the text
abbrev pub IsBestAt : List ClassPages → List ℕ → ℕ → Type 0
IsBestAt classes text i = (class : ClassPages) → slice_get classes i ≡ Some class → AreClasses classes → IsBest classes text class

-- so are the pages of the class of this prefix after these trees, for each remainder below n
abbrev pub ArePagesBelow : (ℕ → Bool) → List Route → Option (List ℕ) → ℕ → ℕ → List Page → ℕ → Type 0
ArePagesBelow arbitrary trees prefix modulus bound pages n =
    (r : ℕ) → r < n → (page : Page) × (slice_get pages r ≡ Some page) × IsPageOf arbitrary (plans_at (place_at prefix r modulus) trees) bound page.cells.items page.others

-- the class has the page of each of its places
abbrev pub ArePagesOf : (ℕ → Bool) → List Route → ℕ → ℕ → ClassPages → Type 0
ArePagesOf arbitrary trees modulus bound class =
    (length class.pages.items ≡ modulus) × ArePagesBelow arbitrary trees class.prefix modulus bound class.pages.items modulus
