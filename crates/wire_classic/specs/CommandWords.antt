-- The command words. Source: memcached's protocol.txt, "Commands"; that the words of the meta commands aren't among them is mcgate's own.
use Rattle.std.specs.Prelude.{true, false, List, [], ◌∷◌, Option, Some, None, codes, if◌then◌else◌}
use Rattle.std.specs.Str.{bytes_eq}
use Rattle.mc_types.specs.declared.ask.Op.TheVariants as ops
use Rattle.wire_parts.specs.Tests.{Word}
use Rattle.wire_classic.specs.declared.command.Verb.{Verb}
use Rattle.wire_classic.specs.declared.command.Verb.TheVariants as verbs
use Rattle.wire_parts.specs.declared.proxy_command.ProxyCommand.TheVariants as owns

-- a command word, and what it means
abbrev pub WordEntry : Type 0
WordEntry = Word × Verb

-- all command words
abbrev pub command_words : List WordEntry
command_words =
    (codes "get", verbs.Retrieve false false)
    ∷ (codes "gets", verbs.Retrieve false true)
    ∷ (codes "gat", verbs.Retrieve true false)
    ∷ (codes "gats", verbs.Retrieve true true)
    ∷ (codes "set", verbs.Store ops.Set)
    ∷ (codes "add", verbs.Store ops.Add)
    ∷ (codes "replace", verbs.Store ops.Replace)
    ∷ (codes "append", verbs.Store ops.Append)
    ∷ (codes "prepend", verbs.Store ops.Prepend)
    ∷ (codes "cas", verbs.Cas)
    ∷ (codes "delete", verbs.Delete)
    ∷ (codes "touch", verbs.Touch)
    ∷ (codes "incr", verbs.Count ops.Incr)
    ∷ (codes "decr", verbs.Count ops.Decr)
    ∷ (codes "version", verbs.Own owns.Version)
    ∷ (codes "quit", verbs.Own owns.Quit)
    ∷ []

-- what a word means by such a list
abbrev pub found_in : List WordEntry → Word → Option Verb
found_in [] word = None
found_in (entry ∷ entries) word = if bytes_eq word entry.0 then Some entry.1 else found_in entries word

-- what a command word means
unfoldable pub verb_of : Word → Option Verb
verb_of word = found_in command_words word
