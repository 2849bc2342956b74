-- The ledger of one tree more, and why there is none.
use Rattle.std.proofs.Common.{◌≡◌, ℕ, ◌+◌, ◌<◌, ◌≤◌, Bool, List, [], ◌∷◌, ◌++◌, length, Option, Some, None, ⊎_elim, refl, sym, ap, ◌∙◌, subst, arith, slice_get}
use Rattle.route_tree.specs.declared.place.Place.{Place}
use Rattle.route_tree.specs.Each.{Each}
use Rattle.route_tree.specs.Route.{Route, IsTree}
use Rattle.route_tree.specs.Place.{tree_at_place}
use Rattle.route_tree.proofs.Places.{each_append, each_right}
use Rattle.gate_check.specs.declared.gap.Gap.{Gap}
use Rattle.gate_check.proofs.LeastMultiples.{one_is_least}
use Rattle.gate_check.proofs.PlacesValidity.{each_in}
use Rattle.gate_growth.specs.declared.ledger.row.Cell.{Cell}
use Rattle.gate_growth.specs.declared.ledger.page.Beginning.{Beginning}
use Rattle.gate_growth.specs.declared.ledger.page.Page.{Page}
use Rattle.gate_growth.specs.declared.ledger.class.ClassPages.{ClassPages}
use Rattle.gate_growth.specs.Marks.{IsFirstLeft as IsFirstLeaving, IsRefusedFor}
use Rattle.gate_growth.specs.Grown.{IsPlaceAmong, AreSoundSince, plans_at}
use Rattle.gate_growth.specs.Pages.{AreBegun, AreOpened, IsPageOf}
use Rattle.gate_growth.specs.Classes.{ArePagesOf}
use Rattle.gate_growth.specs.PlaceRows.{place_rows, AreRowsOf}
use Rattle.gate_growth.specs.LeftGaps.{MayFollowAt, IsFirstGapLeft}
use Rattle.gate_growth.specs.Turning.{AreKnown}
use Rattle.gate_growth.specs.Ledgers.{IsFirstLeftGap}
use Rattle.gate_growth.proofs.Marking.{get_below}
use Rattle.gate_growth.proofs.Rowing.{not_refused}
use Rattle.gate_growth.proofs.Reload.{reload_is_sound}
use Rattle.gate_growth.proofs.Paging.{no_page}
use Rattle.gate_growth.proofs.Coarse.{plans_length}
use Rattle.gate_growth.proofs.RowPlaces.{place_in, rows_among}

-- ---- no tree

pub no_rows : AreRowsOf [] (None ∷ []) 1
no_rows = record { least = one_is_least; texts = []; first = refl; in_order = tt; known = tt; whole = tt }

pub no_sound : (arbitrary : ℕ → Bool) → AreSoundSince arbitrary []
no_sound arbitrary i j a b le ga gb place among server taken = absurd cc

no_page_of : (arbitrary : ℕ → Bool) (bound : ℕ) (class : ClassPages) (page : Page) → class.pages.items ≡ page ∷ [] → page.cells.items ≡ [] → page.others ≡ None → ArePagesOf arbitrary [] 1 bound class
no_page_of arbitrary bound class page one cells others = (
  ap length one,
  (λ r lt.
      let zero : 0 ≡ r = omega (arith, lt) in (
        page,
        subst (λ n. slice_get class.pages.items n ≡ Some page) zero (subst (λ (l : List Page). slice_get l 0 ≡ Some page) (sym one) refl),
        subst (λ o. IsPageOf arbitrary [] bound page.cells.items o) (sym others) (subst (λ (l : List Cell). IsPageOf arbitrary [] bound l None) (sym cells) (no_page arbitrary bound)),
      )),
)

pub no_known : (arbitrary : ℕ → Bool) (bound : ℕ) (classes before : List ClassPages) (class : ClassPages) (pages : List Page) (page : Page) → classes ≡ before ++ class ∷ [] → before ≡ [] → class.prefix ≡ None → class.pages.items ≡ pages ++ page ∷ [] → pages ≡ [] → page.cells.items ≡ [] → page.others ≡ None
    → AreKnown arbitrary [] 1 bound classes
no_known arbitrary bound classes before class pages page are none prefix paged empty cells others =
    let one : classes ≡ class ∷ [] = are ∙ ap (λ l. l ++ class ∷ []) none in
    let one_page : class.pages.items ≡ page ∷ [] = paged ∙ ap (λ l. l ++ page ∷ []) empty in
    subst (AreKnown arbitrary [] 1 bound) (sym one) (record {
      rows = subst (λ (o : Option (List ℕ)). AreRowsOf [] (o ∷ []) 1) (sym prefix) no_rows;
      pages = (no_page_of arbitrary bound class page one_page cells others, tt);
    })

-- servers that a configuration brings began so
pub begun_next : (arbitrary : ℕ → Bool) (known held begun : List Beginning) (bound servers : ℕ) (new : Beginning) → held ≡ known → servers ≡ bound → (AreBegun arbitrary held → AreOpened arbitrary (length held) servers new → AreBegun arbitrary begun) → AreBegun arbitrary known → AreOpened arbitrary (length known) bound new → AreBegun arbitrary begun
begun_next arbitrary known held begun bound servers new same size goes are opened =
    goes (subst (AreBegun arbitrary) (sym same) are) (subst (λ (l : List Beginning). AreOpened arbitrary (length l) servers new) (sym same) (subst (λ n. AreOpened arbitrary (length known) n new) (sym size) opened))

pub none_begun : (arbitrary : ℕ → Bool) (begun : List Beginning) → begun ≡ [] → AreBegun arbitrary begun
none_begun arbitrary begun none = subst (AreBegun arbitrary) (sym none) (λ s b e. absurd cc)

-- ---- one tree more

module _ (arbitrary : ℕ → Bool) (trees : List Route) (tree : Route) (are : Each IsTree trees) (is : IsTree tree) where
  abbrev more : List Route
  more = trees ++ tree ∷ []

  pub are_more : Each IsTree more
  are_more = each_append IsTree trees (tree ∷ []) are (is, tt)

  module _ (prefixes : List (Option (List ℕ))) (modulus : ℕ) (rows : AreRowsOf more prefixes modulus) where
    pub sound_with : AreSoundSince arbitrary trees → Each (MayFollowAt arbitrary trees tree) (place_rows prefixes modulus) → AreSoundSince arbitrary more
    sound_with since may =
        (reload_is_sound arbitrary trees tree are_more).1
        (since, (λ place among server. each_in (MayFollowAt arbitrary trees tree) (place_rows prefixes modulus) place may (place_in more prefixes modulus rows place among) server))

    -- the first gap is at a place of the trees
    among_first : (g : ℕ) (found : Gap) → IsFirstGapLeft arbitrary trees tree (place_rows prefixes modulus) g found → IsPlaceAmong more found.place
    among_first g found h =
        (each_right (IsPlaceAmong more) h.before (found.place ∷ h.after) (subst (Each (IsPlaceAmong more)) h.stands (rows_among more prefixes modulus rows))).0

    pub unsound_with : (g : ℕ) (found : Gap) → IsFirstGapLeft arbitrary trees tree (place_rows prefixes modulus) g found → AreSoundSince arbitrary more → ⊥
    unsound_with g found h since =
        let may = ((reload_is_sound arbitrary trees tree are_more).0 since).1 found.place (among_first g found h) found.server in
        not_refused (arbitrary found.server) (plans_at found.place trees) (tree_at_place tree found.place) found.server g may h.here.refused

-- a refusal is for one of the trees, or the last
left_within : (arbitrary : ℕ → Bool) (trees : List Route) (tree : Route) (place : Place) (s g : ℕ) → IsRefusedFor (arbitrary s) (plans_at place trees) (tree_at_place tree place) s g → g ≤ length trees
left_within arbitrary trees tree place s g refused =
    let size = plans_length place trees in
    ⊎_elim
    (λ (x : IsFirstLeaving (arbitrary s) (plans_at place trees) s g). let lt = get_below (plans_at place trees) g x.0.0 x.0.1 in omega (arith, lt, size))
    (λ x. let e = x.1 in omega (arith, e, size))
    refused.1

pub first_left : (arbitrary : ℕ → Bool) (trees : List Route) (tree : Route) → Each IsTree trees → IsTree tree → (prefixes : List (Option (List ℕ))) (modulus : ℕ) → AreRowsOf (trees ++ tree ∷ []) prefixes modulus
    → (g n generation : ℕ) (found : Gap) → IsFirstGapLeft arbitrary trees tree (place_rows prefixes modulus) g found → n ≡ length trees → n < 4294967295 → (g < 4294967295 → generation ≡ g + 1) → IsFirstLeftGap arbitrary trees tree generation found
first_left arbitrary trees tree are is prefixes modulus rows g n generation found h counted few numbered =
    let within = left_within arbitrary trees tree found.place found.server g h.here.refused in
    record {
      g = g;
      numbered = numbered (omega (arith, within, counted, few));
      prefixes = prefixes;
      modulus = modulus;
      are_rows = rows;
      first = h;
      unsound = unsound_with arbitrary trees tree are is prefixes modulus rows g found h;
    }
