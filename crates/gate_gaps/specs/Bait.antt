-- The commands of a script that leaks, what they find, and that a gap has one. Source: mcgate's own.
use Rattle.std.specs.Prelude.{◌≡◌, ◌≢◌, ℕ, pos, List, [], ◌∷◌, Option, Some, None, false, ℤ}
use Rattle.mc_types.specs.declared.ask.Op.{Op}
use Rattle.mc_types.specs.declared.ask.Op.TheVariants.{Gat, Delete, Incr, Decr}
use Rattle.mc_types.specs.declared.ask.Dialect.TheVariants as dialects
use Rattle.mc_types.specs.declared.ask.Ask.{Ask}
use Rattle.mc_types.specs.declared.answer.Answer.{Answer}
use Rattle.mc_types.specs.declared.answer.Answer.TheVariants.{Number, Hit}
use Rattle.mc_types.specs.KeyText.{IsKey}
use Rattle.mc_types.specs.Items.{Item}
use Rattle.route_tree.specs.Plan.{Plan, IsGoodPlan}
use Rattle.gate_coverage.specs.declared.deleting.Deleting.{Deleting}
use Rattle.gate_coverage.specs.Cover.{IsTaking, Takes, Clears, deleting_dialect}
use Rattle.gate_gaps.specs.Turns.{acks, calls_before_found}
use Rattle.gate_gaps.specs.Beside.{IsDirect}
use Rattle.gate_gaps.specs.Leaking.{LeaksIn}

-- `delete K` or `md K`
abbrev pub delete_of : Deleting → List ℕ → Ask
delete_of kind key = record { key = key; op = Delete; dialect = deleting_dialect kind; with_cas = false; flags = 0; exptime = None; body = []; cas = None; delta = 0; tokens = [] }

-- `get K`, `gat 0 K`, `incr K 1` or `decr K 1`
abbrev pub bait_exptime : Op → Option ℤ
bait_exptime Gat = Some (pos 0)
bait_exptime _ = None

abbrev pub delta_of : Op → ℕ
delta_of Incr = 1
delta_of Decr = 1
delta_of _ = 0

abbrev pub read_of : Op → List ℕ → Ask
read_of op key = record { key = key; op = op; dialect = dialects.Classic; with_cas = false; flags = 0; exptime = bait_exptime op; body = []; cas = None; delta = delta_of op; tokens = [] }

-- `1`, held before the run
abbrev pub bait : Item
bait = record { content = 49 ∷ []; flags = 0; stamp = 0 }

-- what the read is answered where the bait is held
abbrev pub bait_answer : Op → Answer
bait_answer Incr = Number 2
bait_answer Decr = Number 0
bait_answer _ = Hit 0 (49 ∷ []) None

-- server s alone holds the bait
abbrev pub IsBaited : (ℕ → List ℕ → Option Item) → ℕ → List ℕ → Type 0
IsBaited opening s key = (opening s key ≡ Some bait) × ((t : ℕ) → t ≢ s → opening t key ≡ None)

-- where both numbers of failing calls are computed, the script leaks: all calls fail but the one that acknowledges, if there is one, and the one that shows
abbrev pub NumbersLeak : (ℕ → Ask → ℕ → Ask → Type 0) → Type 0
NumbersLeak Bars =
    (at : ℕ → List ℕ → Plan) (opening : ℕ → List ℕ → Option Item) (key : List ℕ) (op : Op) (kind : Deleting) (s i j : ℕ)
    → IsKey key → IsTaking op → IsGoodPlan (at 1 key) → IsGoodPlan (at 2 key) → IsBaited opening s key
    → acks s (at 1 key) ≡ Some i → calls_before_found op s (at 2 key) ≡ Some j → LeaksIn at Bars opening (delete_of kind key) (read_of op key) s i j (bait_answer op)

-- for a real gap both numbers of failing calls are computed, an all-sync or a warm-up aside; and then a script leaks
abbrev pub GapsHaveLeaks : (ℕ → Ask → ℕ → Ask → Type 0) → Type 0
GapsHaveLeaks Bars =
    (at : ℕ → List ℕ → Plan) (opening : ℕ → List ℕ → Option Item) (key : List ℕ) (op : Op) (kind : Deleting) (s : ℕ)
    → IsKey key → IsTaking op → IsGoodPlan (at 1 key) → IsGoodPlan (at 2 key) → IsBaited opening s key
    → IsDirect Delete (at 1 key) → IsDirect op (at 2 key) → Takes (at 2 key) op s → (Clears (at 1 key) kind s → ⊥)
    → (i j : ℕ) × (acks s (at 1 key) ≡ Some i) × (calls_before_found op s (at 2 key) ≡ Some j) × LeaksIn at Bars opening (delete_of kind key) (read_of op key) s i j (bait_answer op)

pub record BaitIsTaken (Bars : ℕ → Ask → ℕ → Ask → Type 0) : Type 0 where
  pub numbers : NumbersLeak Bars
  pub gaps : GapsHaveLeaks Bars
