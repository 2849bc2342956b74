-- What a call leaves where stamps of a kind are given: nothing, or an item whose stamp is of that kind.
use Rattle.std.proofs.Common.{◌≡◌, ℕ, true, List, ◌++◌, Option, Some, None, option_map, refl, sym, ◌∙◌, subst, bytes_eq}
use Rattle.mc_types.specs.declared.ask.Op.{Op}
use Rattle.mc_types.specs.declared.ask.Op.TheVariants.{Get, Gat, Set, Add, Replace, Append, Prepend, Cas, Delete, Incr, Decr, Touch}
use Rattle.mc_types.specs.declared.ask.Ask.{Ask}
use Rattle.mc_types.specs.declared.answer.Answer.{Answer}
use Rattle.mc_types.specs.Items.{Item, after_call, after_done, recounted, number_made, is_done, removes}
use Rattle.fresh_runs.specs.Life.{Mark, held_in}
use Rattle.fresh_runs.specs.Calls.{End, Read, Unread, Never, marks_of}
use Rattle.fresh_runs.proofs.Stamps.{IsGone, by_test}

-- nothing, or an item with such a stamp
abbrev pub Has : (ℕ → Type 0) → Option Item → Type 0
Has Q None = Unit {0}
Has Q (Some item) = Q item.stamp

pub has_from_gone : (Q : ℕ → Type 0) (o : Option Item) → IsGone o → Has Q o
has_from_gone Q None h = tt
has_from_gone Q (Some item) h = absurd h

has_map : (Q : ℕ → Type 0) (o : Option Item) (f : Item → Item) → ((item : Item) → (f item).stamp ≡ item.stamp) → Has Q o → Has Q (option_map f o)
has_map Q None f keeps h = tt
has_map Q (Some item) f keeps h = subst Q (sym (keeps item)) h

recounted_stamp : (spaces : ℕ) (item : Item) (number : Option ℕ) → (recounted spaces item number).stamp ≡ item.stamp
recounted_stamp spaces item None = refl
recounted_stamp spaces item (Some n) = refl

has_after_done : (Q : ℕ → Type 0) (op : Op) (ask : Ask) (stamp spaces : ℕ) (before : Option Item) → Q stamp → Has Q before → Has Q (after_done op ask stamp spaces before)
has_after_done Q Set ask stamp spaces before q h = q
has_after_done Q Add ask stamp spaces before q h = q
has_after_done Q Replace ask stamp spaces before q h = q
has_after_done Q Cas ask stamp spaces before q h = q
has_after_done Q Append ask stamp spaces before q h = has_map Q before _ (λ item. refl) h
has_after_done Q Prepend ask stamp spaces before q h = has_map Q before _ (λ item. refl) h
has_after_done Q Incr ask stamp spaces before q h = has_map Q before _ (λ item. recounted_stamp spaces item (number_made ask item.content)) h
has_after_done Q Decr ask stamp spaces before q h = has_map Q before _ (λ item. recounted_stamp spaces item (number_made ask item.content)) h
has_after_done Q Get ask stamp spaces before q h = h
has_after_done Q Gat ask stamp spaces before q h = h
has_after_done Q Touch ask stamp spaces before q h = h
has_after_done Q Delete ask stamp spaces before q h = h

has_after : (Q : ℕ → Type 0) (ask : Ask) (stamp : ℕ) (answer : Answer) (spaces : ℕ) (before : Option Item) → Q stamp → Has Q before → Has Q (after_call ask stamp answer spaces before)
has_after Q ask stamp answer spaces before q h =
    by_test (Has Q) (removes ask.op answer) None _ (λ _. tt) (λ _. by_test (Has Q) (is_done answer) (after_done ask.op ask stamp spaces before) before (λ _. has_after_done Q ask.op ask stamp spaces before q h) (λ _. h))

-- the stamp of an applied call is one
abbrev pub Gives : (ℕ → Type 0) → End → Type 0
Gives Q (Read stamp answer spaces) = Q stamp
Gives Q (Unread stamp answer spaces) = Q stamp
Gives Q Never = Unit {0}

pub has_marks : (Q : ℕ → Type 0) (opening : Option Item) (ask : Ask) (end : End) (life : List Mark) (key : List ℕ) → (bytes_eq ask.key key ≡ true → Gives Q end) → Has Q (held_in opening life key) → Has Q (held_in opening (marks_of ask end ++ life) key)
has_marks Q opening ask (Read stamp answer spaces) life key q h = by_test (Has Q) (bytes_eq ask.key key) _ _ (λ e. has_after Q ask stamp answer spaces _ (q e) h) (λ _. h)
has_marks Q opening ask (Unread stamp answer spaces) life key q h = by_test (Has Q) (bytes_eq ask.key key) _ _ (λ e. has_after Q ask stamp answer spaces _ (q e) h) (λ _. h)
has_marks Q opening ask Never life key q h = h

-- a delete stores nothing
delete_after : (Q : ℕ → Type 0) (op : Op) (ask : Ask) (stamp : ℕ) (answer : Answer) (spaces : ℕ) (before : Option Item) → op ≡ Delete → ask.op ≡ op → Has Q before → Has Q (after_call ask stamp answer spaces before)
delete_after Q op ask stamp answer spaces before e f h =
    by_test (Has Q) (removes ask.op answer) None _ (λ _. tt) (λ _. by_test (Has Q) (is_done answer) (after_done ask.op ask stamp spaces before) before (λ _. subst (λ o. Has Q (after_done o ask stamp spaces before)) (sym (f ∙ e)) h) (λ _. h))

pub delete_marks : (Q : ℕ → Type 0) (opening : Option Item) (ask : Ask) (end : End) (life : List Mark) (key : List ℕ) → ask.op ≡ Delete → Has Q (held_in opening life key) → Has Q (held_in opening (marks_of ask end ++ life) key)
delete_marks Q opening ask (Read stamp answer spaces) life key e h = by_test (Has Q) (bytes_eq ask.key key) _ _ (λ _. delete_after Q Delete ask stamp answer spaces _ refl e h) (λ _. h)
delete_marks Q opening ask (Unread stamp answer spaces) life key e h = by_test (Has Q) (bytes_eq ask.key key) _ _ (λ _. delete_after Q Delete ask stamp answer spaces _ refl e h) (λ _. h)
delete_marks Q opening ask Never life key e h = h
