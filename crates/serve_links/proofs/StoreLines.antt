-- A classic store, by its parts.
use Rattle.std.proofs.Common.{◌≡◌, ℕ, true, List, ◌++◌, refl, sym, ap, ◌∙◌, append_assoc}
use Rattle.std.specs.Prelude.{codes}
use Rattle.mc_types.specs.declared.ask.Op.{Op}
use Rattle.mc_types.specs.declared.ask.Op.TheVariants.{Get, Gat, Set, Add, Replace, Append, Prepend, Cas, Delete, Incr, Decr, Touch}
use Rattle.mc_types.specs.declared.ask.Dialect.{Dialect}
use Rattle.mc_types.specs.declared.ask.Dialect.TheVariants.{Classic, Meta}
use Rattle.mc_types.specs.declared.ask.Ask.{Ask}
use Rattle.wire_parts.specs.Tests.{block_text}
use Rattle.wire_stream.specs.Spelling.{spelling_of, spelled_in}
use Rattle.wire_classic.specs.Spelling.{stores_data, block_after, ask_line}
use Rattle.serve_links.specs.Sending.{stores_in, is_classic_store}

pub op_stores_in : (dialect : Dialect) (op : Op) → stores_in dialect op ≡ true → stores_data op ≡ true
op_stores_in Classic op e = e
op_stores_in Meta op e = absurd cc

pub op_stores : (ask : Ask) → is_classic_store ask ≡ true → stores_data ask.op ≡ true
op_stores ask e = op_stores_in ask.dialect ask.op e

block_is : (op : Op) (ask : Ask) → stores_data op ≡ true → block_after op ask ≡ block_text ask.body
block_is Set ask e = refl
block_is Add ask e = refl
block_is Replace ask e = refl
block_is Append ask e = refl
block_is Prepend ask e = refl
block_is Cas ask e = refl
block_is Get ask e = absurd cc
block_is Gat ask e = absurd cc
block_is Delete ask e = absurd cc
block_is Incr ask e = absurd cc
block_is Decr ask e = absurd cc
block_is Touch ask e = absurd cc

spelled_is : (dialect : Dialect) (ask : Ask) → stores_in dialect ask.op ≡ true → spelled_in dialect ask ≡ ask_line ask ++ block_text ask.body
spelled_is Classic ask e = ap (λ (t : List ℕ). ask_line ask ++ t) (block_is ask.op ask e)
spelled_is Meta ask e = absurd cc

-- a store is its line, its data and their end
pub store_is : (ask : Ask) (old new : List ℕ) → is_classic_store ask ≡ true → new ≡ ((old ++ ask_line ask) ++ ask.body) ++ codes "\r\n" → new ≡ old ++ spelling_of ask
store_is ask old new e is =
    is ∙ append_assoc (old ++ ask_line ask) ask.body (codes "\r\n") ∙ append_assoc old (ask_line ask) (ask.body ++ codes "\r\n") ∙ ap (λ (t : List ℕ). old ++ t) (sym (spelled_is ask.dialect ask e))
