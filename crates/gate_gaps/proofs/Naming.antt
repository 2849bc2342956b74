-- Servers sorted and each kept once, and which of them some operation takes.
use Rattle.std.proofs.Common.{◌≡◌, ◌↔◌, ℕ, true, ◌||◌, List, IsTrue, eqb, sym, subst, inl, inr}
use Rattle.std.specs.List.{Contains, dedup}
use Rattle.std.specs.List.Sorted.{IsPermutation, IsSorted, IsStrictlyIncreasing}
use Rattle.std.specs.Ordering.{nat_cmp}
use Rattle.std.proofs.lemmas.List.Kept.{Contains-dedup_nat, Contains-from_dedup}
use Rattle.std.proofs.lemmas.List.Sorted.{Contains-permutation, IsPermutation-sym}
use Rattle.std.proofs.lemmas.Map.Keys.{IsStrictlyIncreasing-dedup}
use Rattle.mc_types.specs.declared.ask.Op.{Op}
use Rattle.mc_types.specs.declared.ask.Op.TheVariants.{Get, Gat, Set, Add, Replace, Append, Prepend, Cas, Delete, Incr, Decr, Touch}
use Rattle.route_tree.specs.Plan.{Plan}
use Rattle.route_tree.specs.Servers.{servers}
use Rattle.gate_coverage.specs.Computed.{takes_server, is_taken}
use Rattle.gate_coverage.specs.Cover.{IsTaking, Takes}
use Rattle.gate_coverage.proofs.Choices.{either_left, either_right, either_split}
use Rattle.gate_gaps.specs.ServerUses.{AreServersOf, IsRead}

pub servers_once : (plain : Plan) (old sorted new : List ℕ) → old ≡ servers plain → IsPermutation old sorted → IsSorted nat_cmp sorted → new ≡ dedup eqb sorted → AreServersOf plain new
servers_once plain old sorted new is moved up kept = record {
  rising = subst IsStrictlyIncreasing (sym kept) (IsStrictlyIncreasing-dedup sorted up);
  named = λ s h. subst (λ (l : List ℕ). Contains l s) is (Contains-permutation sorted old s (IsPermutation-sym old sorted moved) (Contains-from_dedup eqb sorted s (subst (λ (l : List ℕ). Contains l s) kept h)));
  whole = λ s h. subst (λ (l : List ℕ). Contains l s) (sym kept) (Contains-dedup_nat sorted s (Contains-permutation old sorted s moved (subst (λ (l : List ℕ). Contains l s) (sym is) h)));
}

by_op : (plain : Plan) (s : ℕ) (op : Op) → IsTaking op → takes_server plain op s ≡ true → is_taken plain s ≡ true
by_op plain s Get t h = either_left (takes_server plain Get s || takes_server plain Gat s || takes_server plain Incr s) (takes_server plain Decr s) (either_left (takes_server plain Get s || takes_server plain Gat s) (takes_server plain Incr s) (either_left (takes_server plain Get s) (takes_server plain Gat s) h))
by_op plain s Gat t h = either_left (takes_server plain Get s || takes_server plain Gat s || takes_server plain Incr s) (takes_server plain Decr s) (either_left (takes_server plain Get s || takes_server plain Gat s) (takes_server plain Incr s) (either_right (takes_server plain Get s) (takes_server plain Gat s) h))
by_op plain s Incr t h = either_left (takes_server plain Get s || takes_server plain Gat s || takes_server plain Incr s) (takes_server plain Decr s) (either_right (takes_server plain Get s || takes_server plain Gat s) (takes_server plain Incr s) h)
by_op plain s Decr t h = either_right (takes_server plain Get s || takes_server plain Gat s || takes_server plain Incr s) (takes_server plain Decr s) h
by_op plain s Set t h = absurd t
by_op plain s Add t h = absurd t
by_op plain s Replace t h = absurd t
by_op plain s Append t h = absurd t
by_op plain s Prepend t h = absurd t
by_op plain s Cas t h = absurd t
by_op plain s Delete t h = absurd t
by_op plain s Touch t h = absurd t

-- some operation takes the server where one of the four does
pub read_is : (plain : Plan) (s : ℕ) → ((op : Op) → IsTrue (takes_server plain op s) ↔ Takes plain op s) → IsTrue (is_taken plain s) ↔ IsRead plain s
read_is plain s exact = (there, λ h. by_op plain s h.0 h.1 ((exact h.0).1 h.2))
  where
    there : is_taken plain s ≡ true → IsRead plain s
    there h = elim (either_split (takes_server plain Get s || takes_server plain Gat s || takes_server plain Incr s) (takes_server plain Decr s) h) [
      | inr e ↦ (Decr, tt, (exact Decr).0 e)
      | inl d ↦ elim (either_split (takes_server plain Get s || takes_server plain Gat s) (takes_server plain Incr s) d) [
        | inr e ↦ (Incr, tt, (exact Incr).0 e)
        | inl b ↦ elim (either_split (takes_server plain Get s) (takes_server plain Gat s) b) [
          | inl e ↦ (Get, tt, (exact Get).0 e)
          | inr e ↦ (Gat, tt, (exact Gat).0 e)
        ]
      ]
    ]
