-- The meta commands by the lengths of their words.
use Rattle.std.proofs.Common.{◌≡◌, true, false, eqb, List, [], ◌∷◌, length, Some, refl, ap, ◌∙◌}
use Rattle.std.specs.Str.{bytes_eq}
use Rattle.std.specs.List.{list_all}
use Rattle.std.proofs.lemmas.Bool.{and_parts, eqb-true}
use Rattle.std.proofs.lemmas.Slice.Eq.{bytes_eq-Decides}
use Rattle.wire_parts.specs.Tests.{Word}
use Rattle.wire_meta.specs.declared.command.Verb.{Verb}
use Rattle.wire_meta.specs.CommandWords.{meta_found_in, meta_words, meta_verb_of}

two_letters : (entries : List (Word × Verb)) (word : Word) (v : Verb) → list_all (λ e. eqb (length e.0) 2) entries ≡ true → meta_found_in entries word ≡ Some v → length word ≡ 2
two_letters [] word v all e = absurd cc
two_letters (entry ∷ entries) word v all e =
    let parts = and_parts (eqb (length entry.0) 2) (list_all (λ e. eqb (length e.0) 2) entries) all in
    (elim (bytes_eq word entry.0) as (λ t. bytes_eq word entry.0 ≡ t → length word ≡ 2) [
      | true ↦ λ t. ap length ((bytes_eq-Decides word entry.0).0 t) ∙ eqb-true (length entry.0) 2 parts.0
      | false ↦ λ t. two_letters entries word v parts.1 (rw t at e)
    ]) refl

-- a meta command has two letters
pub meta_length : (word : Word) (v : Verb) → meta_verb_of word ≡ Some v → length word ≡ 2
meta_length word v e = two_letters meta_words word v refl e
