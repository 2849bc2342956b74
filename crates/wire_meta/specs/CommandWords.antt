-- The words of the meta commands. Source: memcached's protocol.txt, "Meta Commands".
use Rattle.std.specs.Prelude.{List, [], ◌∷◌, Option, Some, None, codes, if◌then◌else◌}
use Rattle.std.specs.Str.{bytes_eq}
use Rattle.wire_parts.specs.Tests.{Word}
use Rattle.wire_meta.specs.declared.command.Kind.TheVariants.{Get, Store, Delete, Count}
use Rattle.wire_meta.specs.declared.command.Verb.{Verb}
use Rattle.wire_meta.specs.declared.command.Verb.TheVariants.{Keyed, Noop}

-- each command word, and what it means
abbrev pub meta_words : List (Word × Verb)
meta_words =
    (codes "mg", Keyed Get)
    ∷ (codes "ms", Keyed Store)
    ∷ (codes "md", Keyed Delete)
    ∷ (codes "ma", Keyed Count)
    ∷ (codes "mn", Noop)
    ∷ []

-- what a word means by such a list
abbrev pub meta_found_in : List (Word × Verb) → Word → Option Verb
meta_found_in [] word = None
meta_found_in (entry ∷ entries) word = if bytes_eq word entry.0 then Some entry.1 else meta_found_in entries word

-- what a command word means
abbrev pub meta_verb_of : Word → Option Verb
meta_verb_of word = meta_found_in meta_words word
