-- The servers of a direct tree's keys are among those that it names.
use Rattle.std.proofs.Common.{◌≡◌, ◌<◌, ◌%◌, ℕ, zero, suc, Bool, true, false, cond, ◌&&◌, List, [], ◌∷◌, length, slice_index, Option, Some, None, arith}
use Rattle.std.proofs.lemmas.Bool.{and_parts, false≢true}
use native.Mathlib.Nat.{mod-lt}
use Rattle.route_tree.specs.Plan.{Plan}
use Rattle.route_tree.specs.Route.{Route, Prefixes, Pool, Server, Null, Failing, AllSync, Failover, MissFailover, WarmUp, ByOperation, ByPrefix, Wildcard, Prefix, IsTree, IsGood, ArePrefixesGood}
use Rattle.route_tree.specs.At.{begins, is_longer, plain_for, plain_for_prefixes}
use Rattle.route_tree.specs.Direct.{is_direct, are_direct, server_of, server_at}
use Rattle.route_json.specs.DirectServers.{DirectServersAreBelow}
use Rattle.route_json.specs.Fits.{IsBelow, ArePrefixesBelow}
use Rattle.route_json.specs.Pools.{AllBelow}

slot_below : (bound : ℕ) (servers : List ℕ) (i : ℕ) → AllBelow bound servers → i < length servers → slice_index servers i < bound
slot_below bound [] i h lt = absurd (omega (arith, lt))
slot_below bound (s ∷ ss) zero h lt = h.0
slot_below bound (s ∷ ss) (suc i) h lt = slot_below bound ss i h.1 (omega (arith, lt))

module _ (bound hash : ℕ) (text : List ℕ) where
  abbrev BestBelow : Option (List ℕ × Plan) → Type 0
  BestBelow None = Unit {0}
  BestBelow (Some best) = server_of best.1 < bound

  best_below : (b : Bool) (x : List ℕ × Plan) (best : Option (List ℕ × Plan)) → server_of x.1 < bound → BestBelow best → BestBelow (cond b (Some x) best)
  best_below true x best h k = h
  best_below false x best h k = k

  mutual
    plain_below : (r : Route) → is_direct r ≡ true → IsGood r → IsBelow bound r → server_of (plain_for hash text r) < bound
    plain_below (Pool servers) direct good below = slot_below bound servers (hash % length servers) below (mod-lt hash good.0)
    plain_below (Server s) direct good below = below
    plain_below Null direct good below = absurd (false≢true direct)
    plain_below Failing direct good below = absurd (false≢true direct)
    plain_below (AllSync rs) direct good below = absurd (false≢true direct)
    plain_below (Failover rs) direct good below = absurd (false≢true direct)
    plain_below (MissFailover rs) direct good below = absurd (false≢true direct)
    plain_below (WarmUp cold warm e) direct good below = absurd (false≢true direct)
    plain_below (ByOperation ps) direct good below = absurd (false≢true direct)
    plain_below (ByPrefix ps) direct good below = prefixes_plain_below ps None tt direct good below

    prefixes_plain_below : (ps : Prefixes) (best : Option (List ℕ × Plan)) → BestBelow best → are_direct ps ≡ true → ArePrefixesGood ps → ArePrefixesBelow bound ps → server_of (plain_for_prefixes hash text ps best) < bound
    prefixes_plain_below (Wildcard r) None b direct good below = plain_below r direct good below
    prefixes_plain_below (Wildcard r) (Some best) b direct good below = b
    prefixes_plain_below (Prefix p r ps) best b direct good below =
        let both = and_parts (is_direct r) (are_direct ps) direct in
        prefixes_plain_below ps _ (best_below (begins p text && is_longer p best) (p, plain_for hash text r) best (plain_below r both.0 good.1 below.0) b) both.1 good.2 below.1

pub direct_below : (bound : ℕ) (tree : Route) (key : List ℕ) → is_direct tree ≡ true → IsTree tree → IsBelow bound tree → server_at tree key < bound
direct_below bound tree key direct good below = plain_below bound _ key tree direct good.good below

pub direct_servers_are_below : DirectServersAreBelow
direct_servers_are_below = direct_below
