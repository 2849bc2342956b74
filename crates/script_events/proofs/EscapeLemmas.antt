-- Reading spelled bytes from the left, and reading what was written.
use Rattle.std.proofs.Common.{◌≡◌, ℕ, ◌+◌, ◌-◌, List, [], ◌∷◌, ◌++◌, length, take, drop, Option, Some, None, refl, sym, ap, ◌∙◌, arith, append_assoc}
use Rattle.std.specs.Option.{option_map}
use Rattle.std.proofs.lemmas.List.{take_all, length-drop, drop-drop}
use Rattle.script_events.specs.Escapes.{unescaped, onto}

pub rest_is : (text : List ℕ) (at : ℕ) → take (length text - at) (drop at text) ≡ drop at text
rest_is text at = take_all _ _ (omega (arith, length-drop at text))

-- a byte more in front of what is to come is a byte more after what came
one_more : (bytes : List ℕ) (b : ℕ) (o : Option (List ℕ)) → option_map (λ (more : List ℕ). bytes ++ more) (onto (Some b) o) ≡ option_map (λ (more : List ℕ). (bytes ++ b ∷ []) ++ more) o
one_more bytes b None = refl
one_more bytes b (Some more) = ap Some (sym (append_assoc bytes (b ∷ []) more))

pub reads_on : (text : List ℕ) (at len b : ℕ) (bytes new : List ℕ) → unescaped text ≡ option_map (λ (more : List ℕ). bytes ++ more) (unescaped (drop at text))
    → unescaped (drop at text) ≡ onto (Some b) (unescaped (drop len (drop at text))) → new ≡ bytes ++ b ∷ []
    → unescaped text ≡ option_map (λ (more : List ℕ). new ++ more) (unescaped (drop (at + len) text))
reads_on text at len b bytes new so_far front new-is =
    so_far ∙ ap (option_map (λ (more : List ℕ). bytes ++ more)) front ∙ one_more bytes b (unescaped (drop len (drop at text)))
    ∙ ap (λ (o : Option (List ℕ)). option_map (λ (more : List ℕ). (bytes ++ b ∷ []) ++ more) o) (ap unescaped (drop-drop len at text))
    ∙ ap (λ (bs : List ℕ). option_map (λ (more : List ℕ). bs ++ more) (unescaped (drop (at + len) text))) (sym new-is)
