-- Trees as numbers, by which a proof tells two of them apart, and their size, by which a recursion over them ends.
use Rattle.std.specs.Prelude.{◌≡◌, ℕ, zero, suc, ◌+◌, List, [], ◌∷◌, refl}
use Rattle.std.specs.Coded.{Coded, code_by}
use base.Stored.{Gv, gnil, gnum, gcons}
use denote.Struct.Codes.{itself}
use Rattle.route_tree.specs.Operation.{op_number, op_at, op_back}
use Rattle.route_tree.specs.Route as route
use Rattle.route_tree.specs.Route.{Route, Routes, Policies, Prefixes}

-- a text as numbers
abbrev text_code : List ℕ → Gv
text_code [] = gnil
text_code (x ∷ xs) = gcons (gnum x) (text_code xs)

-- the text of these numbers
abbrev text_from : Gv → List ℕ
text_from (gcons (gnum x) g) = x ∷ text_from g
text_from _ = []

-- each text is the one of its numbers
text_from_code : (xs : List ℕ) → text_from (text_code xs) ≡ xs
text_from_code [] = refl
text_from_code (x ∷ xs) = λ i. x ∷ text_from_code xs i

abbrev mutual
  -- a tree as numbers
  route_to : Route → Gv
  route_to (route.Server s) = gcons (gnum 0) (gnum s)
  route_to route.Null = gcons (gnum 1) gnil
  route_to route.Failing = gcons (gnum 2) gnil
  route_to (route.AllSync ps) = gcons (gnum 3) (all_route_to ps)
  route_to (route.Failover ps) = gcons (gnum 4) (all_route_to ps)
  route_to (route.MissFailover ps) = gcons (gnum 5) (all_route_to ps)
  route_to (route.WarmUp c w e) = gcons (gnum 6) (gcons (gnum e) (gcons (route_to c) (route_to w)))
  route_to (route.ByOperation ps) = gcons (gnum 7) (policies_route_to ps)
  route_to (route.Pool ss) = gcons (gnum 8) (text_code ss)
  route_to (route.ByPrefix ps) = gcons (gnum 9) (prefixes_route_to ps)

  -- children as numbers
  pub all_route_to : Routes → Gv
  all_route_to route.End = gnil
  all_route_to (route.More p ps) = gcons (route_to p) (all_route_to ps)

  -- children by operation as numbers
  policies_route_to : Policies → Gv
  policies_route_to (route.Otherwise p) = gcons gnil (route_to p)
  policies_route_to (route.Policy op p ps) = gcons (gnum (op_number op)) (gcons (route_to p) (policies_route_to ps))

  -- children by prefix as numbers
  prefixes_route_to : Prefixes → Gv
  prefixes_route_to (route.Wildcard p) = gcons gnil (route_to p)
  prefixes_route_to (route.Prefix t p ps) = gcons (gcons gnil (text_code t)) (gcons (route_to p) (prefixes_route_to ps))

abbrev mutual
  -- the tree of these numbers
  route_from : Gv → Route
  route_from (gcons (gnum zero) (gnum s)) = route.Server s
  route_from (gcons (gnum (suc (suc zero))) g) = route.Failing
  route_from (gcons (gnum (suc (suc (suc zero)))) g) = route.AllSync (all_route_from g)
  route_from (gcons (gnum (suc (suc (suc (suc zero))))) g) = route.Failover (all_route_from g)
  route_from (gcons (gnum (suc (suc (suc (suc (suc zero)))))) g) = route.MissFailover (all_route_from g)
  route_from (gcons (gnum (suc (suc (suc (suc (suc (suc zero))))))) (gcons (gnum e) (gcons c w))) = route.WarmUp (route_from c) (route_from w) e
  route_from (gcons (gnum (suc (suc (suc (suc (suc (suc (suc zero)))))))) g) = route.ByOperation (policies_route_from g)
  route_from (gcons (gnum (suc (suc (suc (suc (suc (suc (suc (suc zero))))))))) g) = route.Pool (text_from g)
  route_from (gcons (gnum (suc (suc (suc (suc (suc (suc (suc (suc (suc zero)))))))))) g) = route.ByPrefix (prefixes_route_from g)
  route_from _ = route.Null

  -- the children of these numbers
  pub all_route_from : Gv → Routes
  all_route_from (gcons p ps) = route.More (route_from p) (all_route_from ps)
  all_route_from _ = route.End

  -- the children by operation of these numbers
  policies_route_from : Gv → Policies
  policies_route_from (gcons (gnum n) (gcons p ps)) = route.Policy (op_at n) (route_from p) (policies_route_from ps)
  policies_route_from (gcons gnil p) = route.Otherwise (route_from p)
  policies_route_from _ = route.Otherwise route.Null

  -- the children by prefix of these numbers
  prefixes_route_from : Gv → Prefixes
  prefixes_route_from (gcons (gcons gnil t) (gcons p ps)) = route.Prefix (text_from t) (route_from p) (prefixes_route_from ps)
  prefixes_route_from (gcons gnil p) = route.Wildcard (route_from p)
  prefixes_route_from _ = route.Wildcard route.Null

mutual
  -- each tree is the one of its numbers
  pub route_back : (p : Route) → route_from (route_to p) ≡ p
  route_back (route.Server s) = refl
  route_back route.Null = refl
  route_back route.Failing = refl
  route_back (route.AllSync ps) = λ i. route.AllSync (all_route_back ps i)
  route_back (route.Failover ps) = λ i. route.Failover (all_route_back ps i)
  route_back (route.MissFailover ps) = λ i. route.MissFailover (all_route_back ps i)
  route_back (route.WarmUp c w e) = λ i. route.WarmUp (route_back c i) (route_back w i) e
  route_back (route.ByOperation ps) = λ i. route.ByOperation (policies_route_back ps i)
  route_back (route.Pool ss) = λ i. route.Pool (text_from_code ss i)
  route_back (route.ByPrefix ps) = λ i. route.ByPrefix (prefixes_route_back ps i)

  -- children come back from their code
  pub all_route_back : (ps : Routes) → all_route_from (all_route_to ps) ≡ ps
  all_route_back route.End = refl
  all_route_back (route.More p ps) = λ i. route.More (route_back p i) (all_route_back ps i)

  -- children by operation come back from their code
  policies_route_back : (ps : Policies) → policies_route_from (policies_route_to ps) ≡ ps
  policies_route_back (route.Otherwise p) = λ i. route.Otherwise (route_back p i)
  policies_route_back (route.Policy op p ps) = λ i. route.Policy (op_back op i) (route_back p i) (policies_route_back ps i)

  -- children by prefix come back from their code
  prefixes_route_back : (ps : Prefixes) → prefixes_route_from (prefixes_route_to ps) ≡ ps
  prefixes_route_back (route.Wildcard p) = λ i. route.Wildcard (route_back p i)
  prefixes_route_back (route.Prefix t p ps) = λ i. route.Prefix (text_from_code t i) (route_back p i) (prefixes_route_back ps i)

-- two trees with the same numbers are the same
abbrev pub route_code : Coded Route
route_code = code_by Gv itself route_to route_from route_back

-- two lists of children with the same numbers are the same
abbrev pub routes_code : Coded Routes
routes_code = code_by Gv itself all_route_to all_route_from all_route_back

abbrev mutual
  -- the size of a tree, greater than that of each child
  pub route_size : Route → ℕ
  route_size (route.Pool ss) = 1
  route_size (route.Server s) = 1
  route_size route.Null = 1
  route_size route.Failing = 1
  route_size (route.AllSync ps) = all_route_size ps + 1
  route_size (route.Failover ps) = all_route_size ps + 1
  route_size (route.MissFailover ps) = all_route_size ps + 1
  route_size (route.WarmUp c w e) = route_size c + route_size w + 1
  route_size (route.ByOperation ps) = policies_route_size ps + 1
  route_size (route.ByPrefix ps) = prefixes_route_size ps + 1

  -- the size of children
  pub all_route_size : Routes → ℕ
  all_route_size route.End = 1
  all_route_size (route.More p ps) = route_size p + 1 + all_route_size ps

  -- the size of children by operation
  pub policies_route_size : Policies → ℕ
  policies_route_size (route.Otherwise p) = route_size p + 1
  policies_route_size (route.Policy op p ps) = route_size p + 1 + policies_route_size ps

  -- the size of children by prefix
  pub prefixes_route_size : Prefixes → ℕ
  prefixes_route_size (route.Wildcard p) = route_size p + 1
  prefixes_route_size (route.Prefix t p ps) = route_size p + 1 + prefixes_route_size ps
