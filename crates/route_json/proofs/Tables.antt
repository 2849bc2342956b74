-- Tables of slots.
use Rattle.std.proofs.Common.{◌≡◌, ◌<◌, ◌≤◌, ◌∙◌, ◌||◌, ℕ, ◌+◌, Bool, false, cond, not, nat_eq, nat_lt, List, [], ◌∷◌, ◌++◌, length, Result, Ok, Err, IfOk, ap, sym, subst, arith, length-append}
use Rattle.std.proofs.Common.{Vec, Global}
use Rattle.std.specs.Prelude.{codes}
use Rattle.std.proofs.lemmas.Bool.Decides.{nat_tests}
use Rattle.mc_types.specs.declared.call.ServerId.{ServerId}
use Rattle.serde_json.specs.View.{items_view}
use Rattle.serde_json.specs.declared.value.Value.{Value}
use Rattle.serde_json.specs.Data.{Data}
use Rattle.route_json.specs.declared.pools.WeightedServer.{WeightedServer}
use Rattle.route_json.specs.declared.fault.ConfigFault.{ConfigFault}
use Rattle.route_json.specs.Fault.{Fault, BadField}
use Rattle.route_json.specs.Pools.{AllBelow, AreWeighted, AreSlots, are_unweighted, read_slot, slot, table}
use Rattle.route_json.specs.Reading.{pure, result_of, each, values}
use Rattle.route_json.proofs.Each.{Goes, goes, values_length}
use Rattle.route_json.proofs.Numbers.{below_push}

module _ (servers : List WeightedServer) (all : Result (List ℕ × Unit {0}) Fault) where
  pub record SlotsRead (left : List Data) (done : List ℕ) (i : ℕ) : Type 0 where
    pub reads : Goes (read_slot servers) all left done tt
    pub below : (bound : ℕ) → AreWeighted bound servers → AllBelow bound done
    pub many : length done ≡ i

  pub slots_go : (xs left : List Data) (x : Data) (s : ℕ) (done done' : List ℕ) (i : ℕ) → SlotsRead xs done i → xs ≡ x ∷ left → slot servers x ≡ Ok s → done' ≡ done ++ s ∷ [] → ((bound : ℕ) → AreWeighted bound servers → s < bound) → SlotsRead left done' (i + 1)
  slots_go xs left x s done done' i h at e is below = record {
    reads = goes (read_slot servers) all xs left x s done done' tt tt h.reads at (ap (λ (q : Result ℕ Fault). pure q tt) e) is;
    below = λ bound weighted. subst (AllBelow bound) (sym is) (below_push bound done s (h.below bound weighted) (below bound weighted));
    many = ap length is ∙ length-append done (s ∷ []) ∙ ap (λ j. j + 1) h.many;
  }

module _ (servers : List WeightedServer) (vs : List Value) where
  -- no slots or too many, or weights beside them
  abbrev NoTable : ℕ → Bool
  NoTable n = nat_eq n 0 || nat_lt 2048 n || not (are_unweighted servers)

  abbrev by_test : Bool → Result (List ℕ) Fault
  by_test b = cond b (Err (BadField (codes "slots"))) (result_of (each (read_slot servers) (values (items_view vs)) tt))

  pub table_when : (b : Bool) → NoTable (length vs) ≡ b → table servers (values (items_view vs)) ≡ by_test b
  table_when b e = ap (λ n. by_test (NoTable n)) (values_length vs) ∙ ap by_test e

  some_slots : (n : ℕ) → NoTable n ≡ false → (0 < n) × (n ≤ 2048)
  some_slots n e = (grind (e, arith, nat_tests), grind (e, arith, nat_tests))

pub are_slots : (bound : ℕ) (servers : List WeightedServer) (vs : List Value) (r : Result (Vec ServerId Global) ConfigFault) → NoTable servers vs (length vs) ≡ false → IfOk r (λ v. length v.items ≡ length vs) → IfOk r (λ v. AllBelow bound v.items) → IfOk r (λ v. AreSlots bound v.items)
are_slots bound servers vs (Ok v) e many below =
    let n = some_slots servers vs (length vs) e in
    (omega (arith, n.0, many), omega (arith, n.1, many), below)
are_slots bound servers vs (Err f) e many below = tt
