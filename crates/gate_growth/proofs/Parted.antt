-- Calls that put an item on a server, in parts of a list of calls.
use Rattle.std.proofs.Common.{ℕ, ◌+◌, List, [], ◌++◌, length, ◌⊎◌, inl, inr, ⊎_elim}
use Rattle.fresh_runs.specs.Calls.{Call}
use Rattle.fresh_runs.specs.Untouched.{PutsIn}
use Rattle.route_tree.proofs.Showing.{get_front, get_back}
use Rattle.gate_coverage.proofs.Choices.{get_either}

pub puts_front : (s : ℕ) (front back : List Call) → PutsIn front s → PutsIn (front ++ back) s
puts_front s front back h = (h.0, h.1, get_front front back h.0 h.1 h.2, h.3, h.4)

pub puts_back : (s : ℕ) (front back : List Call) → PutsIn back s → PutsIn (front ++ back) s
puts_back s front back h = (length front + h.0, h.1, get_back front back h.0 h.1 h.2, h.3, h.4)

pub puts_either : (s : ℕ) (front back : List Call) → PutsIn (front ++ back) s → PutsIn front s ⊎ PutsIn back s
puts_either s front back h = ⊎_elim (λ l. inl (h.0, h.1, l, h.3, h.4)) (λ r. inr (r.0, h.1, r.1, h.3, h.4)) (get_either front back h.0 h.1 h.2)

pub puts_none : (s : ℕ) → PutsIn [] s → ⊥
puts_none s h = let e = h.2 in cc
