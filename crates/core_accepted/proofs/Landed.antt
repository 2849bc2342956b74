-- What a call leaves that is applied late, where stamps of a kind are given by what stores.
use Rattle.std.proofs.Common.{◌≡◌, ℕ, true, Option, Some, None, option_map, refl, sym, ap, ◌∙◌, subst}
use Rattle.mc_types.specs.declared.ask.Op.{Op}
use Rattle.mc_types.specs.declared.ask.Op.TheVariants.{Get, Gat, Set, Add, Replace, Append, Prepend, Cas, Delete, Incr, Decr, Touch}
use Rattle.mc_types.specs.declared.ask.Ask.{Ask}
use Rattle.mc_types.specs.declared.answer.Answer.{Answer}
use Rattle.mc_types.specs.Items.{Item, after_call, after_done, recounted, number_made, is_done, removes}
use Rattle.fresh_runs.proofs.Stamps.{by_test}
use Rattle.fresh_runs.proofs.Seen.{Has}
use Rattle.fresh_runs.specs.Untouched.{IsPutting}
use Rattle.core_accepted.specs.Late.{begins_stamp}

has_map : (Q : ℕ → Type 0) (o : Option Item) (f : Item → Item) → ((item : Item) → (f item).stamp ≡ item.stamp) → Has Q o → Has Q (option_map f o)
has_map Q None f keeps h = tt
has_map Q (Some item) f keeps h = subst Q (sym (keeps item)) h

recounted_stamp : (spaces : ℕ) (item : Item) (number : Option ℕ) → (recounted spaces item number).stamp ≡ item.stamp
recounted_stamp spaces item None = refl
recounted_stamp spaces item (Some n) = refl

landed_done : (Q : ℕ → Type 0) (op : Op) (ask : Ask) (stamp spaces : ℕ) (before : Option Item) → (begins_stamp op ≡ true → Q stamp) → Has Q before → Has Q (after_done op ask stamp spaces before)
landed_done Q Set ask stamp spaces before q h = q refl
landed_done Q Add ask stamp spaces before q h = q refl
landed_done Q Replace ask stamp spaces before q h = q refl
landed_done Q Cas ask stamp spaces before q h = q refl
landed_done Q Append ask stamp spaces before q h = has_map Q before _ (λ item. refl) h
landed_done Q Prepend ask stamp spaces before q h = has_map Q before _ (λ item. refl) h
landed_done Q Incr ask stamp spaces before q h = has_map Q before _ (λ item. recounted_stamp spaces item (number_made ask item.content)) h
landed_done Q Decr ask stamp spaces before q h = has_map Q before _ (λ item. recounted_stamp spaces item (number_made ask item.content)) h
landed_done Q Get ask stamp spaces before q h = h
landed_done Q Gat ask stamp spaces before q h = h
landed_done Q Touch ask stamp spaces before q h = h
landed_done Q Delete ask stamp spaces before q h = h

pub landed : (Q : ℕ → Type 0) (ask : Ask) (stamp : ℕ) (answer : Answer) (spaces : ℕ) (before : Option Item) → (begins_stamp ask.op ≡ true → Q stamp) → Has Q before → Has Q (after_call ask stamp answer spaces before)
landed Q ask stamp answer spaces before q h =
    by_test (Has Q) (removes ask.op answer) None _ (λ _. tt) (λ _. by_test (Has Q) (is_done answer) (after_done ask.op ask stamp spaces before) before (λ _. landed_done Q ask.op ask stamp spaces before q h) (λ _. h))

-- a delete stores nothing
pub no_store : (op : Op) → op ≡ Delete → begins_stamp op ≡ true → ⊥
no_store op e is = (let f = sym (ap begins_stamp e) ∙ is in cc)

-- what begins an item with a stamp of its own puts an item
pub puts_store : (op : Op) → begins_stamp op ≡ true → IsPutting op
puts_store Set is = tt
puts_store Add is = tt
puts_store Replace is = tt
puts_store Cas is = tt
puts_store Append is = absurd (cc)
puts_store Prepend is = absurd (cc)
puts_store Incr is = absurd (cc)
puts_store Decr is = absurd (cc)
puts_store Get is = absurd (cc)
puts_store Gat is = absurd (cc)
puts_store Touch is = absurd (cc)
puts_store Delete is = absurd (cc)
