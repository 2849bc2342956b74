-- What is served was let through by the tests of its line, and its data block isn't too long.
use Rattle.std.proofs.Common.{◌≡◌, ℕ, ◌+◌, ◌≤◌, List, [], length, take, drop, Option, Some, None, Result, Ok, Err, refl, ap, subst, arith}
use Rattle.std.proofs.lemmas.List.{length-take}
use Rattle.text_words.specs.Line.{without_cr}
use Rattle.text_words.specs.Word.{words}
use Rattle.mc_types.specs.Asks.{data_limit}
use Rattle.wire_parts.specs.declared.refusal.RefusalReason.{RefusalReason}
use Rattle.wire_parts.specs.declared.refusal.RefusalReason.TheVariants.{Unknown}
use Rattle.wire_parts.specs.declared.skip.Skip.{Skip}
use Rattle.wire_parts.specs.declared.skip.Skip.TheVariants.{Nothing}
use Rattle.wire_parts.specs.declared.block.End.{End}
use Rattle.wire_parts.specs.declared.block.End.TheVariants.{Open, Good, Bad}
use Rattle.wire_parts.specs.Tests.{Word}
use Rattle.wire_parts.specs.Grammar.{Grammar}
use Rattle.wire_parts.specs.Message.{Message, Served, Refusal, Found, BeginsMessage, meaning_of, with_rest, with_block, data_block_end}

abbrev message_first : {Order : Type 0} → Found Order → Message Order
message_first (Some x) = x.0
message_first None = Refusal Unknown Nothing

served_is : {Order : Type 0} (o p : Order) (a b : List ℕ) (i j : ℕ) → ◌≡◌ {A = Found Order} (Some (Served o a, i)) (Some (Served p b, j)) → (o ≡ p) × (a ≡ b)
served_is o p a b i j e = let g : Served o a ≡ Served p b = ap message_first e in (cc, cc)

refused_is_not : {A Order : Type 0} (why : RefusalReason) (skip : Skip) (p : Order) (b : List ℕ) (i j : ℕ) → ◌≡◌ {A = Found Order} (Some (Refusal why skip, i)) (Some (Served p b, j)) → A
refused_is_not why skip p b i j e = let g : Refusal why skip ≡ Served p b = ap message_first e in absurd (cc)

with_end : {Order : Type 0} (o p : Order) (block b : List ℕ) (used j : ℕ) (end : End) → with_block o used block end ≡ Some (Served p b, j) → (o ≡ p) × (block ≡ b)
with_end o p block b used j Open e = absurd cc
with_end o p block b used j Good e = served_is o p block b _ _ e
with_end o p block b used j Bad e = refused_is_not _ _ p b _ _ e

-- an order that is served, and its block
pub record IsServed (G : Grammar) (IsSound : G.Order → Type 0) (o : G.Order) (block : List ℕ) : Type 0 where
  pub sound : IsSound o
  pub short : length block ≤ data_limit

module _ (G : Grammar) (IsSound : G.Order → Type 0) (sound : (ws : List Word) (o : G.Order) → G.order_of ws ≡ Ok o → IsSound o) (block_short : (o : G.Order) (n : ℕ) → IsSound o → G.block_len o ≡ Some n → n ≤ data_limit) where
  by_len : (o p : G.Order) (used j : ℕ) (rest b : List ℕ) (len : Option ℕ) → IsSound o → G.block_len o ≡ len → with_rest o used rest len ≡ Some (Served p b, j) → IsServed G IsSound p b
  by_len o p used j rest b None h is e = let s = served_is o p [] b used j e in record { sound = subst IsSound s.0 h; short = subst (λ (t : List ℕ). length t ≤ data_limit) s.1 (omega arith) }
  by_len o p used j rest b (Some n) h is e =
      let s = with_end o p (take n rest) b used j (data_block_end (drop n rest)) e in
      let le = block_short o n h is in
      record { sound = subst IsSound s.0 h; short = subst (λ (t : List ℕ). length t ≤ data_limit) s.1 (omega (arith, length-take n rest)) }

  by_line : (ws : List Word) (line : Result G.Order RefusalReason) (p : G.Order) (skip : Skip) (used j : ℕ) (rest b : List ℕ) → G.order_of ws ≡ line → meaning_of G line skip used rest ≡ Some (Served p b, j) → IsServed G IsSound p b
  by_line ws (Err why) p skip used j rest b is e = refused_is_not why skip p b used j e
  by_line ws (Ok o) p skip used j rest b is e = by_len o p used j rest b (G.block_len o) (sound ws o is) refl e

  pub served_sound : (bytes : List ℕ) (o : G.Order) (block : List ℕ) (used : ℕ) → BeginsMessage G bytes (Served o block) used → IsServed G IsSound o block
  served_sound bytes o block used b = let ws = words (without_cr b.text) in by_line ws (G.order_of ws) o (G.skip_of ws) (length b.text + 1) used b.rest block refl b.says
