-- What the bytes begin with among both dialects, they begin with in one of them, and the other way round.
use Rattle.std.proofs.Common.{◌≡◌, ℕ, ◌+◌, List, [], ◌∷◌, length, Option, Some, None, Result, Err, refl, sym, ap, ◌∙◌}
use Rattle.text_words.specs.Line.{without_cr}
use Rattle.text_words.specs.Word.{words}
use Rattle.wire_parts.specs.declared.refusal.RefusalReason.{RefusalReason}
use Rattle.wire_parts.specs.declared.refusal.RefusalReason.TheVariants.{Unknown}
use Rattle.wire_parts.specs.declared.skip.Skip.{Skip}
use Rattle.wire_parts.specs.Tests.{Word}
use Rattle.wire_parts.specs.Message as parts
use Rattle.wire_parts.specs.Message.{Served, Refusal, Found, meaning_of, lift_message, lift_found}
use Rattle.wire_classic.specs.Order as texts
use Rattle.wire_classic.specs.CommandWords as text_words
use Rattle.wire_classic.specs.Grammar.{classic_grammar}
use Rattle.wire_classic.specs.Message as text_messages
use Rattle.wire_meta.specs.Order as metas
use Rattle.wire_meta.specs.Grammar.{meta_grammar}
use Rattle.wire_meta.specs.Message as meta_messages
use Rattle.wire_meta.specs.declared.command.Verb.{Verb}
use Rattle.wire_meta.specs.CommandWords.{meta_verb_of}
use Rattle.wire_stream.specs.Both.{AnyOrder, Classic, Meta, both_grammar, order_by, order_of, skip_by, skip_of}
use Rattle.wire_stream.specs.Message.{Begins}
use Rattle.wire_stream.proofs.Lifting.{classic_lifted, meta_lifted}
use Rattle.wire_classic.proofs.WordTable.{none_of_two}
use Rattle.wire_stream.proofs.WordLengths.{meta_length}

abbrev found_as : {A : Type 0} → parts.Message A → ℕ → Found A
found_as message used = Some (message, used)

some_is : {A : Type 0} (x y : A) → Some x ≡ Some y → x ≡ y
some_is x y e = cc

-- what was found as two messages is one message, of one length
message_is : {A : Type 0} (m k : parts.Message A) (u n : ℕ) → found_as m u ≡ found_as k n → (m ≡ k) × (u ≡ n)
message_is m k u n e = let pair = some_is (m, u) (k, n) e in (ap (λ x. x.0) pair, ap (λ x. x.1) pair)

block_is : {A : Type 0} (p o : A) (b block : List ℕ) → Served p b ≡ Served o block → (p ≡ o) × (b ≡ block)
block_is p o b block e = (cc, cc)

refused_is : {A : Type 0} (why : RefusalReason) (skip : Skip) (o : A) (block : List ℕ) → Refusal why skip ≡ Served o block → ⊥
refused_is why skip o block e = cc

-- a message of both that is one of the dialect
lowered : {A : Type 0} (f : A → AnyOrder) → ((a b : A) → f a ≡ f b → a ≡ b) → (m : parts.Message A) (u : ℕ) (o : A) (block : List ℕ) (n : ℕ) → found_as (lift_message f m) u ≡ found_as (Served (f o) block) n → found_as m u ≡ found_as (Served o block) n
lowered f one (Served p b) u o block n e =
    let both = message_is (Served (f p) b) (Served (f o) block) u n e in
    let parts = block_is (f p) (f o) b block both.0 in
    rw (one p o parts.0, parts.1, both.1) refl
lowered f one (Refusal why skip) u o block n e = absurd (refused_is why skip (f o) block (message_is (Refusal why skip) (Served (f o) block) u n e).0)

found_lowered : {A : Type 0} (f : A → AnyOrder) → ((a b : A) → f a ≡ f b → a ≡ b) → (found : Found A) (o : A) (block : List ℕ) (n : ℕ) → lift_found f found ≡ Some (Served (f o) block, n) → found ≡ Some (Served o block, n)
found_lowered f one None o block n e = absurd cc
found_lowered f one (Some x) o block n e = lowered f one x.0 x.1 o block n e

-- a refusal serves nothing
refused_never : {A : Type 0} (why : RefusalReason) (skip : Skip) (used : ℕ) (o : A) (block : List ℕ) (n : ℕ) → found_as {A = A} (Refusal why skip) used ≡ found_as (Served o block) n → ⊥
refused_never why skip used o block n e = refused_is why skip o block (message_is (Refusal why skip) (Served o block) used n e).0

same_classic : (a b : texts.Order) → Classic a ≡ Classic b → a ≡ b
same_classic a b e = cc

same_meta : (a b : metas.MetaOrder) → Meta a ≡ Meta b → a ≡ b
same_meta a b e = cc

-- nothing that is found in one dialect is an order of the other
never : {A B : Type 0} (f : A → AnyOrder) (g : B → AnyOrder) → ((a : A) (b : B) → f a ≡ g b → ⊥) → (found : Found A) (o : B) (block : List ℕ) (n : ℕ) → lift_found f found ≡ Some (Served (g o) block, n) → ⊥
never f g apart None o block n e = absurd cc
never f g apart (Some x) o block n e = go x.0 x.1 e
  where
    go : (m : parts.Message _) (u : ℕ) → found_as (lift_message f m) u ≡ found_as (Served (g o) block) n → ⊥
    go (Served p b) u e = apart p o (block_is (f p) (g o) b block (message_is (Served (f p) b) (Served (g o) block) u n e).0).0
    go (Refusal why skip) u e = refused_is why skip (g o) block (message_is (Refusal why skip) (Served (g o) block) u n e).0

not_meta : (a : metas.MetaOrder) (b : texts.Order) → Meta a ≡ Classic b → ⊥
not_meta a b e = cc

not_classic : (a : texts.Order) (b : metas.MetaOrder) → Classic a ≡ Meta b → ⊥
not_classic a b e = cc

-- what a line of these words means
abbrev among_both : List Word → ℕ → List ℕ → Found AnyOrder
among_both line used rest = meaning_of both_grammar (order_of line) (skip_of line) used rest

abbrev in_classic : List Word → ℕ → List ℕ → Found texts.Order
in_classic line used rest = meaning_of classic_grammar (texts.classic_order_of line) (texts.classic_skip_of line) used rest

abbrev in_meta : List Word → ℕ → List ℕ → Found metas.MetaOrder
in_meta line used rest = meaning_of meta_grammar (metas.meta_order_of line) (metas.meta_skip_of line) used rest

by_verb : (v : Option Verb) (line : List Word) (used : ℕ) (rest : List ℕ) (o : texts.Order) (block : List ℕ) (n : ℕ) → meaning_of both_grammar (order_by v line) (skip_by v line) used rest ≡ Some (Served (Classic o) block, n) → in_classic line used rest ≡ Some (Served o block, n)
by_verb None line used rest o block n e = found_lowered Classic same_classic (in_classic line used rest) o block n (sym (classic_lifted (texts.classic_order_of line) (texts.classic_skip_of line) used rest) ∙ e)
by_verb (Some v) line used rest o block n e = absurd (never Meta Classic not_meta (in_meta line used rest) o block n (sym (meta_lifted (metas.meta_order_of line) (metas.meta_skip_of line) used rest) ∙ e))

classic_line : (line : List Word) (used : ℕ) (rest : List ℕ) (o : texts.Order) (block : List ℕ) (n : ℕ) → among_both line used rest ≡ Some (Served (Classic o) block, n) → in_classic line used rest ≡ Some (Served o block, n)
classic_line [] used rest o block n e = absurd (refused_never Unknown (skip_of []) used (Classic o) block n e)
classic_line (word ∷ words) used rest o block n e = by_verb (meta_verb_of word) (word ∷ words) used rest o block n e

by_meta_verb : (v : Option Verb) (line : List Word) (used : ℕ) (rest : List ℕ) (o : metas.MetaOrder) (block : List ℕ) (n : ℕ) → meaning_of both_grammar (order_by v line) (skip_by v line) used rest ≡ Some (Served (Meta o) block, n) → in_meta line used rest ≡ Some (Served o block, n)
by_meta_verb None line used rest o block n e = absurd (never Classic Meta not_classic (in_classic line used rest) o block n (sym (classic_lifted (texts.classic_order_of line) (texts.classic_skip_of line) used rest) ∙ e))
by_meta_verb (Some v) line used rest o block n e = found_lowered Meta same_meta (in_meta line used rest) o block n (sym (meta_lifted (metas.meta_order_of line) (metas.meta_skip_of line) used rest) ∙ e)

meta_line : (line : List Word) (used : ℕ) (rest : List ℕ) (o : metas.MetaOrder) (block : List ℕ) (n : ℕ) → among_both line used rest ≡ Some (Served (Meta o) block, n) → in_meta line used rest ≡ Some (Served o block, n)
meta_line [] used rest o block n e = absurd (refused_never Unknown (skip_of []) used (Meta o) block n e)
meta_line (word ∷ words) used rest o block n e = by_meta_verb (meta_verb_of word) (word ∷ words) used rest o block n e

-- a request of both is one of its dialect
pub classic_begins : (bytes : List ℕ) (o : texts.Order) (block : List ℕ) (used : ℕ) → Begins bytes (Served (Classic o) block) used → text_messages.BeginsClassic bytes (Served o block) used
classic_begins bytes o block used b = record { text = b.text; rest = b.rest; line = b.line; says = classic_line (words (without_cr b.text)) (length b.text + 1) b.rest o block used b.says }

pub meta_begins : (bytes : List ℕ) (o : metas.MetaOrder) (block : List ℕ) (used : ℕ) → Begins bytes (Served (Meta o) block) used → meta_messages.BeginsMeta bytes (Served o block) used
meta_begins bytes o block used b = record { text = b.text; rest = b.rest; line = b.line; says = meta_line (words (without_cr b.text)) (length b.text + 1) b.rest o block used b.says }

-- a line without a command word of its dialect serves nothing
unknown : (line : List Word) (word : Word) (ws : List Word) (used : ℕ) (rest : List ℕ) (o : texts.Order) (block : List ℕ) (n : ℕ) → line ≡ word ∷ ws → text_words.verb_of word ≡ None → in_classic line used rest ≡ Some (Served o block, n) → ⊥
unknown line word ws used rest o block n is none e =
    let refused : texts.classic_order_of line ≡ Err Unknown = rw (is, none) refl in
    let same : in_classic line used rest ≡ Some (Refusal Unknown (texts.classic_skip_of line), used) = ap (λ (r : Result texts.Order RefusalReason). meaning_of classic_grammar r (texts.classic_skip_of line) used rest) refused in
    refused_never Unknown (texts.classic_skip_of line) used o block n (sym same ∙ e)

raised_by : (v : Option Verb) (word : Word) (ws : List Word) (used : ℕ) (rest : List ℕ) (o : texts.Order) (block : List ℕ) (n : ℕ) → meta_verb_of word ≡ v → in_classic (word ∷ ws) used rest ≡ Some (Served o block, n) → meaning_of both_grammar (order_by v (word ∷ ws)) (skip_by v (word ∷ ws)) used rest ≡ Some (Served (Classic o) block, n)
raised_by None word ws used rest o block n is e = classic_lifted (texts.classic_order_of (word ∷ ws)) (texts.classic_skip_of (word ∷ ws)) used rest ∙ ap (lift_found Classic) e
raised_by (Some v) word ws used rest o block n is e = absurd (unknown (word ∷ ws) word ws used rest o block n refl (none_of_two word (meta_length word v is)) e)

classic_among : (line : List Word) (used : ℕ) (rest : List ℕ) (o : texts.Order) (block : List ℕ) (n : ℕ) → in_classic line used rest ≡ Some (Served o block, n) → among_both line used rest ≡ Some (Served (Classic o) block, n)
classic_among [] used rest o block n e = absurd (refused_never Unknown (texts.classic_skip_of []) used o block n e)
classic_among (word ∷ ws) used rest o block n e = raised_by (meta_verb_of word) word ws used rest o block n refl e

meta_raised_by : (v : Option Verb) (word : Word) (ws : List Word) (used : ℕ) (rest : List ℕ) (o : metas.MetaOrder) (block : List ℕ) (n : ℕ) → meta_verb_of word ≡ v → in_meta (word ∷ ws) used rest ≡ Some (Served o block, n) → meaning_of both_grammar (order_by v (word ∷ ws)) (skip_by v (word ∷ ws)) used rest ≡ Some (Served (Meta o) block, n)
meta_raised_by None word ws used rest o block n is e =
    let refused : metas.meta_order_of (word ∷ ws) ≡ Err Unknown = rw is refl in
    let same : in_meta (word ∷ ws) used rest ≡ Some (Refusal Unknown (metas.meta_skip_of (word ∷ ws)), used) = ap (λ (r : Result metas.MetaOrder RefusalReason). meaning_of meta_grammar r (metas.meta_skip_of (word ∷ ws)) used rest) refused in
    absurd (refused_never Unknown (metas.meta_skip_of (word ∷ ws)) used o block n (sym same ∙ e))
meta_raised_by (Some v) word ws used rest o block n is e = meta_lifted (metas.meta_order_of (word ∷ ws)) (metas.meta_skip_of (word ∷ ws)) used rest ∙ ap (lift_found Meta) e

meta_among : (line : List Word) (used : ℕ) (rest : List ℕ) (o : metas.MetaOrder) (block : List ℕ) (n : ℕ) → in_meta line used rest ≡ Some (Served o block, n) → among_both line used rest ≡ Some (Served (Meta o) block, n)
meta_among [] used rest o block n e = absurd (refused_never Unknown (metas.meta_skip_of []) used o block n e)
meta_among (word ∷ ws) used rest o block n e = meta_raised_by (meta_verb_of word) word ws used rest o block n refl e

-- a request of a dialect is one of both
pub begins_classic : (bytes : List ℕ) (o : texts.Order) (block : List ℕ) (used : ℕ) → text_messages.BeginsClassic bytes (Served o block) used → Begins bytes (Served (Classic o) block) used
begins_classic bytes o block used b = record { text = b.text; rest = b.rest; line = b.line; says = classic_among (words (without_cr b.text)) (length b.text + 1) b.rest o block used b.says }

pub begins_meta : (bytes : List ℕ) (o : metas.MetaOrder) (block : List ℕ) (used : ℕ) → meta_messages.BeginsMeta bytes (Served o block) used → Begins bytes (Served (Meta o) block) used
begins_meta bytes o block used b = record { text = b.text; rest = b.rest; line = b.line; says = meta_among (words (without_cr b.text)) (length b.text + 1) b.rest o block used b.says }
