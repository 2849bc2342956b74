-- What is left of a direct tree is one server.
use Rattle.std.proofs.Common.{◌≡◌, ℕ, Bool, true, false, cond, ◌&&◌, List, Option, Some, None, refl, sym, subst}
use Rattle.std.proofs.lemmas.Bool.{and_parts, false≢true}
use Rattle.mc_types.specs.declared.ask.Ask.{Ask}
use Rattle.mc_types.specs.declared.answer.Answer.{Answer}
use Rattle.mc_types.specs.declared.call.Origin.TheVariants.{Client}
use Rattle.fresh_runs.specs.Calls.{Call}
use Rattle.route_tree.specs.Plan as plan
use Rattle.route_tree.specs.Plan.{Plan}
use Rattle.route_tree.specs.Route.{Route, Prefixes, Pool, Server, Null, Failing, AllSync, Failover, MissFailover, WarmUp, ByOperation, ByPrefix, Wildcard, Prefix}
use Rattle.route_tree.specs.At.{begins, is_longer, plain_for, plain_for_prefixes, tree_at}
use Rattle.route_tree.specs.Word.{PlanWord, tree_words}
use Rattle.route_tree.specs.Direct.{is_direct, are_direct, server_of, server_at, DirectIsOneServer}
use Rattle.route_tree.proofs.Words.{one_server_is_one_call}

-- a plain tree that is one server
abbrev IsOne : Plan → Type 0
IsOne p = p ≡ plan.Server (server_of p)

module _ (hash : ℕ) (text : List ℕ) where
  abbrev BestIsOne : Option (List ℕ × Plan) → Type 0
  BestIsOne None = Unit {0}
  BestIsOne (Some best) = IsOne best.1

  best_is_one : (b : Bool) (x : List ℕ × Plan) (best : Option (List ℕ × Plan)) → IsOne x.1 → BestIsOne best → BestIsOne (cond b (Some x) best)
  best_is_one true x best h k = h
  best_is_one false x best h k = k

  mutual
    one_plain : (r : Route) → is_direct r ≡ true → IsOne (plain_for hash text r)
    one_plain (Pool servers) h = refl
    one_plain (Server s) h = refl
    one_plain Null h = absurd (false≢true h)
    one_plain Failing h = absurd (false≢true h)
    one_plain (AllSync rs) h = absurd (false≢true h)
    one_plain (Failover rs) h = absurd (false≢true h)
    one_plain (MissFailover rs) h = absurd (false≢true h)
    one_plain (WarmUp cold warm e) h = absurd (false≢true h)
    one_plain (ByOperation ps) h = absurd (false≢true h)
    one_plain (ByPrefix ps) h = ones_plain ps None tt h

    ones_plain : (ps : Prefixes) (best : Option (List ℕ × Plan)) → BestIsOne best → are_direct ps ≡ true → IsOne (plain_for_prefixes hash text ps best)
    ones_plain (Wildcard r) None b h = one_plain r h
    ones_plain (Wildcard r) (Some best) b h = b
    ones_plain (Prefix p r ps) best b h =
        let both = and_parts (is_direct r) (are_direct ps) h in
        ones_plain ps _ (best_is_one (begins p text && is_longer p best) (p, plain_for hash text r) best (one_plain r both.0) b) both.1

-- the words of trees that are the same for each number and key
words_agree : (first second : List ℕ → Plan) → ((key : List ℕ) → first key ≡ second key) → (number : ℕ) (ask : Ask) (calls : List Call) (reply : Answer) (from : Option ℕ) → tree_words (λ n key. first key) number ask calls reply from → tree_words (λ n key. second key) number ask calls reply from
words_agree first second same number ask calls reply from w =
    (w.0, subst (λ p. PlanWord p ask Client 0 calls (record { reply = reply; from = from })) (same ask.key) w.1)

pub direct_is_one_server : DirectIsOneServer
direct_is_one_server tree direct =
    let one = λ (key : List ℕ). one_plain _ key tree direct in (
      one,
      λ number ask calls reply from.
          let law = one_server_is_one_call (server_at tree) number ask calls reply from in (
            (λ w. law.0 (words_agree (tree_at tree) (λ key. plan.Server (server_at tree key)) one number ask calls reply from w)),
            (λ w. words_agree (λ key. plan.Server (server_at tree key)) (tree_at tree) (λ key. sym (one key)) number ask calls reply from (law.1 w)),
          ),
    )
