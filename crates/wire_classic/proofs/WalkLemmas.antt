-- A walk over the asks of a request.
use Rattle.std.proofs.Common.{◌≡◌, ℕ, zero, suc, ◌+◌, ◌<◌, ◌≤◌, Bool, List, [], ◌∷◌, ◌++◌, length, take, drop, Option, Some, None, refl, sym, ap, subst, ◌∙◌, arith}
use Rattle.std.specs.Prelude.{ℤ, slice_get}
use Rattle.std.specs.Option.{option_map}
use Rattle.std.proofs.lemmas.Option.{slice_get-map}
use Rattle.std.proofs.lemmas.List.{length-take, take-append-le}
use Rattle.text_words.specs.Word.{words, text_at, IsNextWord}
use Rattle.text_words.specs.declared.word.Span.{Span}
use Rattle.mc_types.specs.KeyText.{IsKey}
use Rattle.mc_types.specs.declared.ask.Ask.{Ask}
use Rattle.wire_classic.specs.declared.command.ClassicCommand.{ClassicCommand}
use Rattle.wire_classic.specs.declared.command.ClassicCommand.TheVariants as commands
use Rattle.wire_classic.specs.declared.command.Keys.{Keys}
use Rattle.wire_classic.specs.declared.command.ClassicRequest.{ClassicRequest}
use Rattle.wire_parts.specs.Tests.{Word}
use Rattle.wire_classic.specs.Order.{Order, Retrieval, Storage, Swapping, Deletion, Touching, Counting, OfItself}
use Rattle.wire_classic.specs.Places.{order_in, keys_in, AreIn, ClassicLiesIn}
use Rattle.wire_classic.specs.Message.{IsClassicReadFrom}
use Rattle.wire_classic.specs.Asks.{classic_asks_by, single_ask, classic_listed, retrieval_ask, StandsAt, IsAt, IsClassicWalk, first_place}
use Rattle.wire_classic.specs.Laws.{ClassicWalkStill}
use Rattle.wire_classic.proofs.StreamLemmas.{read_still}
use Rattle.wire_classic.proofs.AskLemmas.{request_sound, keys_line, found, taken_next, taken_all}

-- a key of a line is one
pub key_there : (bytes : List ℕ) (r : ClassicRequest) (e : Option ℤ) (w : Bool) (keys : Keys) (i : ℕ) (text : Word) → IsClassicReadFrom bytes r → r.command ≡ commands.Retrieval w e keys → slice_get (keys_in bytes keys) i ≡ Some text → IsKey text
key_there bytes r e w keys i text h is there = found IsKey (keys_in bytes keys) i text (request_sound bytes r (commands.Retrieval w e keys) h is).0 there

pub nth_ask : (bytes block : List ℕ) (command : ClassicCommand) (e : Option ℤ) (w : Bool) (keys : Keys) (i : ℕ) (text : Word) → command ≡ commands.Retrieval w e keys → slice_get (keys_in bytes keys) i ≡ Some text
    → slice_get (classic_asks_by (order_in bytes command) block) i ≡ Some (retrieval_ask e w text)
nth_ask bytes block command e w keys i text is there = ap (λ (k : ClassicCommand). slice_get (classic_asks_by (order_in bytes k) block) i) is ∙ slice_get-map (retrieval_ask e w) (keys_in bytes keys) i ∙ ap (option_map (retrieval_ask e w)) there

pub no_ask : (bytes block : List ℕ) (command : ClassicCommand) (e : Option ℤ) (w : Bool) (keys : Keys) (i : ℕ) → command ≡ commands.Retrieval w e keys → slice_get (keys_in bytes keys) i ≡ None
    → slice_get (classic_asks_by (order_in bytes command) block) i ≡ None
no_ask bytes block command e w keys i is none = ap (λ (k : ClassicCommand). slice_get (classic_asks_by (order_in bytes k) block) i) is ∙ slice_get-map (retrieval_ask e w) (keys_in bytes keys) i ∙ ap (option_map (retrieval_ask e w)) none

pub inside : {A : Type 0} → (xs : List A) (i : ℕ) → i < length xs → slice_get xs i ≡ None → ⊥
inside [] i lt e = absurd (omega arith)
inside (x ∷ xs) zero lt e = cc
inside (x ∷ xs) (suc i) lt e = inside xs i (omega arith) e

-- what is there in a list of a single one is that one
pub only_there : {A : Type 0} → (x : A) (xs : List A) (i : ℕ) → xs ≡ x ∷ [] → (slice_get xs i ≡ None → ⊥) → slice_get xs i ≡ Some x
only_there x xs zero is there = ap (λ l. slice_get l 0) is
only_there x xs (suc i) is there = absurd (there (ap (λ l. slice_get l (suc i)) is))

below_one : (n : ℕ) → n < 1 → n ≡ 0
below_one n lt = omega arith

first : (a : Ask) (i : ℕ) → i < 1 → slice_get (a ∷ []) i ≡ Some a
first a i lt = rw (below_one i lt) refl

-- a request of one key
pub one_ask : (o : Order) (block : List ℕ) (a : Ask) → single_ask o block ≡ Some a → classic_asks_by o block ≡ a ∷ []
one_ask (Retrieval e w keys) block a is = absurd cc
one_ask (Storage op stored quiet) block a is = ap classic_listed is
one_ask (Swapping stored cas quiet) block a is = ap classic_listed is
one_ask (Deletion key quiet) block a is = ap classic_listed is
one_ask (Touching key exptime quiet) block a is = ap classic_listed is
one_ask (Counting op key delta quiet) block a is = ap classic_listed is
one_ask (OfItself own) block a is = absurd cc

pub only_ask : (o : Order) (block : List ℕ) (a : Ask) (i : ℕ) → single_ask o block ≡ Some a → i < length (classic_asks_by o block) → slice_get (classic_asks_by o block) i ≡ Some a
only_ask o block a i is lt =
    let one = one_ask o block a is in
    let few : i < 1 = omega (arith, ap length one) in
    rw one (first a i few)

pub stands : (bytes : List ℕ) (command : ClassicCommand) (e : Option ℤ) (w : Bool) (keys : Keys) (at taken : ℕ) → command ≡ commands.Retrieval w e keys → IsAt bytes command at taken → StandsAt bytes keys at taken
stands bytes command e w keys at taken is h = subst (λ (k : ClassicCommand). IsAt bytes k at taken) is h

pub all_taken : (bytes : List ℕ) (keys : Keys) (at taken : ℕ) → StandsAt bytes keys at taken → words (drop at (take keys.span.end bytes)) ≡ [] → slice_get (keys_in bytes keys) taken ≡ None
all_taken bytes keys at taken h none = taken_all (keys_in bytes keys) taken (sym none ∙ h.rest)

pub next_key : (bytes : List ℕ) (keys : Keys) (at taken : ℕ) (word : Span) → StandsAt bytes keys at taken → IsNextWord (take keys.span.end bytes) at word → slice_get (keys_in bytes keys) taken ≡ Some (text_at (take keys.span.end bytes) word)
next_key bytes keys at taken word h next = (taken_next (keys_in bytes keys) taken (text_at (take keys.span.end bytes) word) (words (drop word.end (take keys.span.end bytes))) (sym next.first ∙ h.rest)).0

pub next_place : (bytes : List ℕ) (keys : Keys) (at taken : ℕ) (word : Span) → StandsAt bytes keys at taken → IsNextWord (take keys.span.end bytes) at word → StandsAt bytes keys word.end (taken + 1)
next_place bytes keys at taken word h next =
    let left = taken_next (keys_in bytes keys) taken (text_at (take keys.span.end bytes) word) (words (drop word.end (take keys.span.end bytes))) (sym next.first ∙ h.rest) in
    let one : suc taken ≡ taken + 1 = omega arith in
    record { within = omega (arith, next.within, length-take keys.span.end bytes); rest = left.1 ∙ ap (λ (n : ℕ). drop n (keys_in bytes keys)) one }

pub few_taken : (bytes : List ℕ) (keys : Keys) (at taken : ℕ) (word : Span) → AreIn bytes keys → StandsAt bytes keys at taken → IsNextWord (take keys.span.end bytes) at word → taken < keys.count
few_taken bytes keys at taken word a h next =
    let left = taken_next (keys_in bytes keys) taken (text_at (take keys.span.end bytes) word) (words (drop word.end (take keys.span.end bytes))) (sym next.first ∙ h.rest) in
    omega (arith, left.2, a.count)

pub back_at : (bytes : List ℕ) (command : ClassicCommand) (e : Option ℤ) (w : Bool) (keys : Keys) (at taken : ℕ) → command ≡ commands.Retrieval w e keys → StandsAt bytes keys at taken → IsAt bytes command at taken
back_at bytes command e w keys at taken is h = subst (λ (k : ClassicCommand). IsAt bytes k at taken) (sym is) h

pub at_first : (bytes : List ℕ) (keys : Keys) → AreIn bytes keys → StandsAt bytes keys keys.span.start 0
at_first bytes keys h = record { within = h.span.ordered; rest = keys_line bytes keys h.span }

pub lies : (bytes : List ℕ) (r : ClassicRequest) (e : Option ℤ) (w : Bool) (keys : Keys) → IsClassicReadFrom bytes r → r.command ≡ commands.Retrieval w e keys → AreIn bytes keys
lies bytes r e w keys h is = subst (λ (k : ClassicCommand). ClassicLiesIn bytes k) is h.placed.command

pub first_ask : (o : Order) (block : List ℕ) (a : Ask) (i : ℕ) → single_ask o block ≡ Some a → i ≡ 0 → slice_get (classic_asks_by o block) i ≡ Some a
first_ask o block a i is e = rw (one_ask o block a is, e) refl

-- a request of one key has no place
pub single_at : (bytes block : List ℕ) (command : ClassicCommand) (at taken : ℕ) (a : Ask) → single_ask (order_in bytes command) block ≡ Some a → IsAt bytes command at taken
single_at bytes block (commands.Retrieval w e keys) at taken a is = absurd cc
single_at bytes block (commands.Storage op quiet stored) at taken a is = tt
single_at bytes block (commands.Swapping quiet stored cas) at taken a is = tt
single_at bytes block (commands.Deletion quiet key) at taken a is = tt
single_at bytes block (commands.Touching quiet key exptime) at taken a is = tt
single_at bytes block (commands.Counting op quiet key delta) at taken a is = tt
single_at bytes block (commands.Own own) at taken a is = tt

-- a walk begins at the first ask
pub at_start : (bytes : List ℕ) (command : ClassicCommand) → ClassicLiesIn bytes command → IsAt bytes command (first_place command) 0
at_start bytes (commands.Retrieval w e keys) lies = at_first bytes keys lies
at_start bytes (commands.Storage op quiet stored) lies = tt
at_start bytes (commands.Swapping quiet stored cas) lies = tt
at_start bytes (commands.Deletion quiet key) lies = tt
at_start bytes (commands.Touching quiet key exptime) lies = tt
at_start bytes (commands.Counting op quiet key delta) lies = tt
at_start bytes (commands.Own own) lies = tt

pub starts : (bytes : List ℕ) (r : ClassicRequest) (at : ℕ) → at ≡ first_place r.command → IsClassicReadFrom bytes r → IsClassicWalk bytes (record { request = r; at = at; taken = 0 })
starts bytes r at is h = record { read = h; place = subst (λ (n : ℕ). IsAt bytes r.command n 0) (sym is) (at_start bytes r.command h.placed.command) }

front_is : (bytes more : List ℕ) (n : ℕ) → n ≤ length bytes → take n (bytes ++ more) ≡ take n bytes
front_is bytes more n le = take-append-le n bytes more le

-- a walk goes on when more has come
still_at : (bytes more : List ℕ) (command : ClassicCommand) (at taken : ℕ) → ClassicLiesIn bytes command → ClassicLiesIn (bytes ++ more) command → IsAt bytes command at taken → IsAt (bytes ++ more) command at taken
still_at bytes more (commands.Retrieval w e keys) at taken a b h =
    let front = front_is bytes more keys.span.end a.span.within in
    let same : keys_in bytes keys ≡ keys_in (bytes ++ more) keys = sym (keys_line bytes keys a.span) ∙ ap (λ (t : List ℕ). words (drop keys.span.start t)) (sym front) ∙ keys_line (bytes ++ more) keys b.span in
    record { within = h.within; rest = ap (λ (t : List ℕ). words (drop at t)) front ∙ h.rest ∙ ap (drop taken) same }
still_at bytes more (commands.Storage op quiet stored) at taken a b h = tt
still_at bytes more (commands.Swapping quiet stored cas) at taken a b h = tt
still_at bytes more (commands.Deletion quiet key) at taken a b h = tt
still_at bytes more (commands.Touching quiet key exptime) at taken a b h = tt
still_at bytes more (commands.Counting op quiet key delta) at taken a b h = tt
still_at bytes more (commands.Own own) at taken a b h = tt

pub walk_still : ClassicWalkStill
walk_still bytes more a h = let r = read_still bytes more a.request h.read in record { read = r.0; place = still_at bytes more a.request.command a.at a.taken h.read.placed.command r.0.placed.command h.place }
