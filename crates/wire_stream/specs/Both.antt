-- Both dialects as one grammar: the command word tells which one a line is of. Source: memcached's protocol.txt, "Commands" and "Meta Commands".
use Rattle.std.specs.Prelude.{ℕ, List, [], ◌∷◌, Option, Some, None, Result, Ok, Err}
use Rattle.wire_parts.specs.declared.refusal.RefusalReason.{RefusalReason}
use Rattle.wire_parts.specs.declared.refusal.RefusalReason.TheVariants.{Unknown}
use Rattle.wire_parts.specs.declared.skip.Skip.{Skip}
use Rattle.wire_parts.specs.declared.skip.Skip.TheVariants.{Nothing}
use Rattle.wire_parts.specs.declared.proxy_command.ProxyCommand.{ProxyCommand}
use Rattle.wire_parts.specs.Tests.{Word}
use Rattle.wire_parts.specs.Grammar.{Grammar}
use Rattle.wire_classic.specs.Order as texts
use Rattle.wire_classic.specs.Grammar as text_lines
use Rattle.wire_meta.specs.Order as metas
use Rattle.wire_meta.specs.Grammar as meta_lines
use Rattle.wire_meta.specs.declared.command.Verb.{Verb}
use Rattle.wire_meta.specs.CommandWords.{meta_verb_of}

-- what a line asks, in its dialect
pub data AnyOrder : Type 0 where
  Classic : (order : texts.Order) → AnyOrder
  Meta : (order : metas.MetaOrder) → AnyOrder

abbrev pub mapped : {A B : Type 0} → (A → B) → Result A RefusalReason → Result B RefusalReason
mapped f (Ok x) = Ok (f x)
mapped f (Err why) = Err why

-- a line whose first word means this among the meta commands
abbrev pub order_by : Option Verb → List Word → Result AnyOrder RefusalReason
order_by None line = mapped Classic (texts.classic_order_of line)
order_by (Some verb) line = mapped Meta (metas.meta_order_of line)

abbrev pub order_of : List Word → Result AnyOrder RefusalReason
order_of [] = Err Unknown
order_of (word ∷ words) = order_by (meta_verb_of word) (word ∷ words)

abbrev pub skip_by : Option Verb → List Word → Skip
skip_by None line = texts.classic_skip_of line
skip_by (Some verb) line = metas.meta_skip_of line

abbrev pub skip_of : List Word → Skip
skip_of [] = Nothing
skip_of (word ∷ words) = skip_by (meta_verb_of word) (word ∷ words)

abbrev pub block_len : AnyOrder → Option ℕ
block_len (Classic order) = text_lines.classic_block_len order
block_len (Meta order) = meta_lines.meta_block_len order

abbrev pub own_by : AnyOrder → Option ProxyCommand
own_by (Classic order) = text_lines.classic_own_by order
own_by (Meta order) = meta_lines.meta_own_by order

abbrev pub both_grammar : Grammar
both_grammar = record { Order = AnyOrder; order_of = order_of; skip_of = skip_of; block_len = block_len; own_by = own_by }
