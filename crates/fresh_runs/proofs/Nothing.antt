-- Where nothing is held, only a call that puts an item leaves one.
use Rattle.std.proofs.Common.{◌≡◌, ℕ, true, List, ◌++◌, Option, None, refl, ap, ◌∙◌, bytes_eq}
use Rattle.mc_types.specs.declared.ask.Op.{Op}
use Rattle.mc_types.specs.declared.ask.Op.TheVariants.{Get, Gat, Set, Add, Replace, Append, Prepend, Cas, Delete, Incr, Decr, Touch}
use Rattle.mc_types.specs.declared.ask.Ask.{Ask}
use Rattle.mc_types.specs.declared.answer.Answer.{Answer}
use Rattle.mc_types.specs.Items.{Item, after_call, after_done, is_done, removes}
use Rattle.fresh_runs.specs.Life.{Mark, held_in}
use Rattle.fresh_runs.specs.Calls.{End, Read, Unread, Never, marks_of}
use Rattle.fresh_runs.proofs.Stamps.{by_test}
use Rattle.fresh_runs.specs.Untouched.{IsPutting}

nothing_done : (op : Op) (ask : Ask) (stamp : ℕ) (spaces : ℕ) → (IsPutting op → ⊥) → after_done op ask stamp spaces None ≡ None
nothing_done Set ask stamp spaces puts = absurd (puts tt)
nothing_done Add ask stamp spaces puts = absurd (puts tt)
nothing_done Replace ask stamp spaces puts = absurd (puts tt)
nothing_done Cas ask stamp spaces puts = absurd (puts tt)
nothing_done Append ask stamp spaces puts = refl
nothing_done Prepend ask stamp spaces puts = refl
nothing_done Incr ask stamp spaces puts = refl
nothing_done Decr ask stamp spaces puts = refl
nothing_done Get ask stamp spaces puts = refl
nothing_done Gat ask stamp spaces puts = refl
nothing_done Touch ask stamp spaces puts = refl
nothing_done Delete ask stamp spaces puts = refl

-- whatever it is answered
pub nothing_comes : (ask : Ask) (stamp : ℕ) (answer : Answer) (spaces : ℕ) → (IsPutting ask.op → ⊥) → after_call ask stamp answer spaces None ≡ None
nothing_comes ask stamp answer spaces puts =
    by_test (λ o. o ≡ None) (removes ask.op answer) None _ (λ _. refl)
    (λ _. by_test (λ o. o ≡ None) (is_done answer) (after_done ask.op ask stamp spaces None) None (λ _. nothing_done ask.op ask stamp spaces puts) (λ _. refl))

nothing_after : (ask : Ask) (stamp : ℕ) (answer : Answer) (spaces : ℕ) (before : Option Item) → before ≡ None → (IsPutting ask.op → ⊥) → after_call ask stamp answer spaces before ≡ None
nothing_after ask stamp answer spaces before none puts = ap (after_call ask stamp answer spaces) none ∙ nothing_comes ask stamp answer spaces puts

-- so a call of another operation leaves nothing in a life that left nothing
pub nothing_marks : (opening : Option Item) (ask : Ask) (end : End) (life : List Mark) (key : List ℕ) → (bytes_eq ask.key key ≡ true → IsPutting ask.op → ⊥) → held_in opening life key ≡ None → held_in opening (marks_of ask end ++ life) key ≡ None
nothing_marks opening ask (Read stamp answer spaces) life key may none =
    by_test (λ o. o ≡ None) (bytes_eq ask.key key) _ _ (λ e. nothing_after ask stamp answer spaces (held_in opening life key) none (may e)) (λ _. none)
nothing_marks opening ask (Unread stamp answer spaces) life key may none =
    by_test (λ o. o ≡ None) (bytes_eq ask.key key) _ _ (λ e. nothing_after ask stamp answer spaces (held_in opening life key) none (may e)) (λ _. none)
nothing_marks opening ask Never life key may none = none
