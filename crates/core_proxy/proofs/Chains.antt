-- One step of the core after another.
use Rattle.std.proofs.Common.{◌≡◌, ℕ, cond, List, [], ◌∷◌, ◌++◌, refl, ap, ◌∙◌, subst, nat_eq}
use Rattle.fresh_runs.specs.Overlap.{Entry, Ticket, Feeds, Starts, Sends, Happens, Ends, Shows, Passes, Gives, Drops, Frees, Resets, out_after}
use Rattle.fresh_runs.specs.OverlapState.{Leads}
use Rattle.fresh_runs.proofs.OverlapSteps.{leads_on}
use Rattle.route_tree.specs.Word.{tree_words}
use Rattle.core_proxy.specs.declared.limits.CoreLimits.{CoreLimits}
use Rattle.core_proxy.specs.declared.proxy.Core.{Core}
use Rattle.core_proxy.specs.Claims.{bars_by}
use Rattle.core_client.specs.ClientState.{dialect}
use Rattle.core_proxy.specs.OutSince.{out_since}
use Rattle.core_proxy.specs.CoreState.{bars_of, Beside, state_of, IsBeside, GoesByEntries}

pub beside_on : (old mid new : Beside) → IsBeside old mid → IsBeside mid new → IsBeside old new
beside_on old mid new a b = record { at = b.at ∙ a.at; holds = b.holds ∙ a.holds; found = b.found ∙ a.found; turn = b.turn ∙ a.turn }

-- entries of the one kind, and after them some of the other
abbrev pub Then : (List (Entry dialect) → Type 0) → (List (Entry dialect) → Type 0) → List (Entry dialect) → Type 0
Then IsFirst IsSecond entries = (first second : List (Entry dialect)) × IsFirst first × IsSecond second × (entries ≡ second ++ first)

-- what leads on by the bars of one core does so by those of another of the same limits
pub leads_there :
    (mid old new : Core) (beside between : Beside) (entries : List (Entry dialect)) (after : Beside) → between.at ≡ beside.at → mid.limits ≡ old.limits
    → Leads (tree_words between.at) (bars_of mid between) (state_of mid between) entries (state_of new after) → Leads (tree_words beside.at) (bars_of old beside) (state_of mid between) entries (state_of new after)
leads_there mid old new beside between entries after at limits leads =
    subst (λ (l : CoreLimits). Leads (tree_words beside.at) (bars_by l.sharing beside.at) (state_of mid between) entries (state_of new after)) limits
    (subst (λ at. Leads (tree_words at) (bars_by mid.limits.sharing at) (state_of mid between) entries (state_of new after)) at leads)

-- the calls that are out, by what came later and by what came before it
pub out_on : (later first : List (Entry dialect)) (out mid : ℕ → List Ticket) → ((s : ℕ) → mid s ≡ out_since first out s) → (s : ℕ) → out_since later mid s ≡ out_since (later ++ first) out s
out_on [] first out mid e s = e s
out_on (Feeds client bytes ∷ later) first out mid e s = out_on later first out mid e s
out_on (Starts client number part ∷ later) first out mid e s = out_on later first out mid e s
out_on (Sends number server ask origin ∷ later) first out mid e s =
    ap (λ (l : List Ticket). cond (nat_eq server s) (l ++ record { number = number; ask = ask; origin = origin } ∷ []) l) (out_on later first out mid e s)
out_on (Happens event ∷ later) first out mid e s = ap (out_after event s) (out_on later first out mid e s)
out_on (Ends client number part reply from ∷ later) first out mid e s = out_on later first out mid e s
out_on (Shows client slot reply ∷ later) first out mid e s = out_on later first out mid e s
out_on (Passes client message next ∷ later) first out mid e s = out_on later first out mid e s
out_on (Gives client bytes ∷ later) first out mid e s = out_on later first out mid e s
out_on (Drops client ∷ later) first out mid e s = out_on later first out mid e s
out_on (Frees number ∷ later) first out mid e s = out_on later first out mid e s
out_on (Resets client ∷ later) first out mid e s = out_on later first out mid e s

pub goes_then : (old mid new : Core) (IsFirst IsSecond : List (Entry dialect) → Type 0) → GoesByEntries old IsFirst mid → GoesByEntries mid IsSecond new → GoesByEntries old (Then IsFirst IsSecond) new
goes_then old mid new IsFirst IsSecond a b = λ beside fits.
    let x = a beside fits in
    let y = b x.0 x.2 in
    let words = tree_words beside.at in
    let second = leads_there mid old new beside x.0 y.1 y.0 x.3.at x.6 y.5 in
    (y.0, y.1 ++ x.1, y.2, beside_on beside x.0 y.0 x.3 y.3, (x.1, y.1, x.4, y.4, refl), leads_on words (bars_of old beside) (state_of old beside) (state_of mid x.0) (state_of new y.0) x.1 y.1 x.5 second, y.6 ∙ x.6, λ s. y.7 s ∙ out_on y.1 x.1 beside.out x.0.out x.7 s)

-- entries of a kind are of a wider one
pub goes_as : (old new : Core) (IsOne IsOther : List (Entry dialect) → Type 0) → ((entries : List (Entry dialect)) → IsOne entries → IsOther entries) → GoesByEntries old IsOne new → GoesByEntries old IsOther new
goes_as old new IsOne IsOther f a = λ beside fits.
    let x = a beside fits in
    (x.0, x.1, x.2, x.3, f x.1 x.4, x.5, x.6, x.7)

-- nothing happens where nothing changed
pub goes_nowhere : (core : Core) → GoesByEntries core (λ entries. entries ≡ []) core
goes_nowhere core = λ beside fits. (beside, [], fits, record { at = refl; holds = refl; found = refl; turn = refl }, refl, (λ opening log h. h), refl, λ s. refl)
