-- Words that were written one after another.
use Rattle.std.proofs.Common.{◌≡◌, ℕ, ◌+◌, ◌<◌, ◌≤◌, List, [], ◌∷◌, ◌++◌, length, take, get_or, refl, sym, ap, ◌∙◌, append_assoc, arith}
use Rattle.std.specs.Prelude.{map, codes}
use Rattle.std.proofs.lemmas.List.{length-append, take_at, take_more, append-nil, map-append}
use Rattle.text_words.specs.Spelling.{spaced, words_line}
use Rattle.mc_types.specs.declared.token.Token.{Token}
use Rattle.wire_parts.specs.Tests.{Word}
use Rattle.wire_parts.proofs.Fronts.{take-take-le}
use Rattle.wire_meta.specs.Spelling.{meta_led, token_word, meta_token_words}

pub joined : (o x y a b : List ℕ) → a ≡ o ++ x → b ≡ a ++ y → b ≡ o ++ (x ++ y)
joined o x y a b e f = f ∙ ap (λ (t : List ℕ). t ++ y) e ∙ append_assoc o x y

pub led-append : (a b : List Word) → meta_led (a ++ b) ≡ meta_led a ++ meta_led b
led-append [] b = refl
led-append (w ∷ a) b = ap (λ (t : List ℕ). 32 ∷ w ++ t) (led-append a b) ∙ ap (λ (t : List ℕ). 32 ∷ t) (sym (append_assoc w (meta_led a) (meta_led b)))

pub led-joined : (o : List ℕ) (x y : List Word) (a b : List ℕ) → a ≡ o ++ meta_led x → b ≡ a ++ meta_led y → b ≡ o ++ meta_led (x ++ y)
led-joined o x y a b e f = joined o (meta_led x) (meta_led y) a b e f ∙ ap (λ (t : List ℕ). o ++ t) (sym (led-append x y))

-- three lists of words
pub led-three : (o : List ℕ) (c : List Word) (w m : Word) (o1 o2 o3 : List ℕ) → o1 ≡ o ++ meta_led c → o2 ≡ o1 ++ meta_led (w ∷ []) → o3 ≡ o2 ++ meta_led (m ∷ []) → o3 ≡ o ++ meta_led (c ++ w ∷ m ∷ [])
led-three o c w m o1 o2 o3 a b d =
    let two = led-joined o c (w ∷ []) o1 o2 a b in
    let three = led-joined o (c ++ w ∷ []) (m ∷ []) o2 o3 two d in
    three ∙ ap (λ (ws : List Word). o ++ meta_led ws) (append_assoc c (w ∷ []) (m ∷ []))

-- the words after a command word
pub led-words : (o : List ℕ) (key : Word) (n expiry tokens values : List Word) (o1 o2 o3 o4 o5 : List ℕ) → o1 ≡ o ++ meta_led (key ∷ []) → o2 ≡ o1 ++ meta_led n → o3 ≡ o2 ++ meta_led expiry → o4 ≡ o3 ++ meta_led tokens → o5 ≡ o4 ++ meta_led values → o5 ≡ o ++ meta_led (key ∷ n ++ (expiry ++ (tokens ++ values)))
led-words o key n expiry tokens values o1 o2 o3 o4 o5 a b d f g =
    let two = led-joined o (key ∷ []) n o1 o2 a b in
    let three = led-joined o (key ∷ n) expiry o2 o3 two d in
    let four = led-joined o (key ∷ n ++ expiry) tokens o3 o4 three f in
    let five = led-joined o (key ∷ (n ++ expiry) ++ tokens) values o4 o5 four g in
    five ∙ ap (λ (ws : List Word). o ++ meta_led (key ∷ ws)) (append_assoc (n ++ expiry) tokens values ∙ append_assoc n expiry (tokens ++ values))

-- a word and those after it
spaced-led : (w : Word) (ws : List Word) → w ++ meta_led ws ≡ spaced (w ∷ ws)
spaced-led w [] = append-nil w
spaced-led w (v ∷ ws) = ap (λ (t : List ℕ). w ++ 32 ∷ t) (spaced-led v ws)

pub line-led : (o : List ℕ) (w : Word) (ws : List Word) (o1 o2 o3 : List ℕ) → o1 ≡ o ++ w → o2 ≡ o1 ++ meta_led ws → o3 ≡ o2 ++ codes "\r\n" → o3 ≡ o ++ words_line (w ∷ ws)
line-led o w ws o1 o2 o3 a b d =
    let two = joined o w (meta_led ws) o1 o2 a b in
    joined o (w ++ meta_led ws) (codes "\r\n") o2 o3 two d ∙ ap (λ (t : List ℕ). o ++ (t ++ codes "\r\n")) (spaced-led w ws)

-- one word more
pub led-token : (o : List ℕ) (ts : List Token) (i : ℕ) (t : Token) (a b : List ℕ) → i < length ts → t ≡ get_or ts i t → a ≡ o ++ meta_led (meta_token_words (take i ts)) → b ≡ a ++ meta_led (token_word t ∷ []) → b ≡ o ++ meta_led (meta_token_words (take (i + 1) ts))
led-token o ts i t a b lt is e f =
    let next : take (i + 1) ts ≡ take i ts ++ t ∷ [] = take_more ts i t lt ∙ ap (λ (x : Token). take i ts ++ x ∷ []) (sym is) in
    let words : meta_token_words (take (i + 1) ts) ≡ meta_token_words (take i ts) ++ token_word t ∷ [] = ap meta_token_words next ∙ map-append token_word (take i ts) (t ∷ []) in
    led-joined o (meta_token_words (take i ts)) (token_word t ∷ []) a b e f ∙ ap (λ (ws : List Word). o ++ meta_led ws) (sym words)

-- a front that was kept
pub front_kept : (old more middle new : List ℕ) → middle ≡ old ++ more → take (length middle) new ≡ middle → take (length old) new ≡ old
front_kept old more middle new e f =
    let le : length old ≤ length middle = omega (arith, ap length e, length-append old more) in
    sym (take-take-le (length old) (length middle) new le) ∙ ap (take (length old)) (f ∙ e) ∙ take_at old more (length old) refl
