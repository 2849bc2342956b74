-- Items, and what a done call makes of one. Source: memcached's protocol.txt, "Storage commands" and "Increment/Decrement"; the stamp is mcgate's own.
use Rattle.std.specs.Prelude.{ℕ, ◌++◌, Bool, true, false, List, Option, Some, None, option_map, replicate, decimal, if◌then◌else◌}
use Rattle.text_words.specs.Arithmetic.{number_held, changed}
use Rattle.mc_types.specs.Acknowledged.{says_gone}
use Rattle.mc_types.specs.declared.ask.Op.{Op}
use Rattle.mc_types.specs.declared.ask.Op.TheVariants.{Get, Gat, Set, Add, Replace, Append, Prepend, Cas, Delete, Incr, Decr, Touch}
use Rattle.mc_types.specs.declared.ask.Ask.{Ask}
use Rattle.mc_types.specs.declared.answer.Code.{Code}
use Rattle.mc_types.specs.declared.answer.Code.TheVariants.{Hd, Va, En, Ns, Ex, Nf}
use Rattle.mc_types.specs.declared.answer.Answer.{Answer}
use Rattle.mc_types.specs.declared.answer.Answer.TheVariants.{Stored, Number, Meta}

-- The stamp is the number of the client command whose data began the item. Expiry and cas number are no part of it.
pub record Item : Type 0 where
  pub content : List ℕ
  pub flags : ℕ
  pub stamp : ℕ

-- whether the operation counts up
abbrev pub is_up : Op → Bool
is_up Decr = false
is_up _ = true

-- the number that the ask makes of these data, where they are one: spaces after it aren't counted, `incr` wraps at 2^64 and `decr` stops at 0
abbrev pub number_made : Ask → List ℕ → Option ℕ
number_made ask content = option_map (changed (is_up ask.op) ask.delta) (number_held content)

-- the number as data; a server may put spaces after it
abbrev pub number_text : ℕ → ℕ → List ℕ
number_text spaces n = decimal n ++ replicate spaces 32

abbrev pub with_content : Item → List ℕ → Item
with_content item content = record item { content = content }

abbrev pub new_item : Ask → ℕ → Item
new_item ask stamp = record { content = ask.body; flags = ask.flags; stamp = stamp }

-- the item with the number in place of its data
abbrev pub recounted : ℕ → Item → Option ℕ → Item
recounted spaces item None = item
recounted spaces item (Some n) = with_content item (number_text spaces n)

-- what a done call leaves in place of what was held: a store begins an item, the others keep flags and stamp
abbrev pub after_done : Op → Ask → ℕ → ℕ → Option Item → Option Item
after_done Set ask stamp spaces before = Some (new_item ask stamp)
after_done Add ask stamp spaces before = Some (new_item ask stamp)
after_done Replace ask stamp spaces before = Some (new_item ask stamp)
after_done Cas ask stamp spaces before = Some (new_item ask stamp)
after_done Append ask stamp spaces before = option_map (λ item. with_content item (item.content ++ ask.body)) before
after_done Prepend ask stamp spaces before = option_map (λ item. with_content item (ask.body ++ item.content)) before
after_done Incr ask stamp spaces before = option_map (λ item. recounted spaces item (number_made ask item.content)) before
after_done Decr ask stamp spaces before = option_map (λ item. recounted spaces item (number_made ask item.content)) before
after_done Get ask stamp spaces before = before
after_done Gat ask stamp spaces before = before
after_done Touch ask stamp spaces before = before
after_done Delete ask stamp spaces before = before

abbrev pub code_is_done : Code → Bool
code_is_done Hd = true
code_is_done Va = true
code_is_done En = false
code_is_done Ns = false
code_is_done Ex = false
code_is_done Nf = false

-- the answer of a call that stored or counted
abbrev pub is_done : Answer → Bool
is_done Stored = true
is_done (Number n) = true
is_done (Meta code fields) = code_is_done code
is_done _ = false

-- the answer of a delete after which nothing is held
abbrev pub removes : Op → Answer → Bool
removes Delete answer = says_gone answer
removes _ answer = false

-- what is held of the ask's key after a call that was applied and answered so
abbrev pub after_call : Ask → ℕ → Answer → ℕ → Option Item → Option Item
after_call ask stamp answer spaces before =
    if removes ask.op answer then None
    else if is_done answer then after_done ask.op ask stamp spaces before
    else before
