-- Where the reply of a command goes, and where the starting stands after it.
use Rattle.std.proofs.Common.{◌≡◌, ℕ, suc, ◌+◌, ◌<◌, nat_lt, Bool, true, false, not, cond, if◌then◌else◌, ◌||◌, List, [], ◌∷◌, length, position, slice_set, drop, Option, Some, None, refl, sym, ap, ◌∙◌, nat_eq, ◌≤◌, slice_get, get_or, inl, inr, arith}
use Rattle.std.proofs.lemmas.List.Folds.{find_at}
use Rattle.std.proofs.lemmas.Bool.{lt-ltb}
use Rattle.std.proofs.lemmas.Option.{slice_get_cases, slice_get_within}
use Rattle.std.specs.List.{find, position_or_len}
use Rattle.std.specs.Prelude.{◌⊎◌}
use Rattle.mc_types.specs.declared.answer.Answer.{Answer}
use Rattle.mc_types.specs.declared.ask.Ask.{Ask}
use Rattle.fresh_runs.specs.Overlap.{Front}
use Rattle.wire_parts.specs.declared.skip.Skip.TheVariants.{Nothing}
use Rattle.wire_parts.specs.Stream.{Stands}
use Rattle.wire_stream.specs.declared.requests.request.Request.{Request}
use Rattle.wire_stream.specs.Message.{AnyMessage, message_in, used_of}
use Rattle.wire_stream.specs.Asks.{asks_of}
use Rattle.wire_stream.specs.Stream.{after_any}
use Rattle.wire_stream.specs.Held.{bytes_at}
use Rattle.wire_stream.specs.Replies.{is_failure}
use Rattle.wire_stream.specs.TextProtocol.{Whole}
use Rattle.wire_stream.proofs.ConnectionRequests.{request_after}
use Rattle.core_client.specs.declared.client.Client.{Client}
use Rattle.core_client.specs.ClientState.{dialect, front_by}
use Rattle.core_client.specs.declared.client.Pending.{Pending}
use Rattle.core_client.specs.Replying.{GoesOnAfter, pending_in, replied_in, IsAnswered, is_numbered, replied}
use Rattle.wire_stream.proofs.Fronts.{reads_front}

some_ask : (asks : List Ask) (i : ℕ) → i < length asks → (ask : Ask) × (slice_get asks i ≡ Some ask)
some_ask asks i lt = by (slice_get_cases asks i).1
  where
    by : ((x : Ask) × (i < length asks) × (slice_get asks i ≡ Some x) × (get_or asks i x ≡ x)) ⊎ ((length asks ≤ i) × (slice_get asks i ≡ None)) → (ask : Ask) × (slice_get asks i ≡ Some ask)
    by (inl a) = (a.0, a.2)
    by (inr b) = absurd (let l = b.0 in omega (arith, lt, l))

-- the starting went on
pub went_on : (x y : Client) (request : Request) (reply : Answer) (b : Bool) → IsAnswered x request → (is_failure reply || nat_eq (x.index + 1) (length (asks_of (message_in (bytes_at x.stream) request)))) ≡ b
    → ◌≡◌ {A = Front dialect} (front_by (Some y)) (if b then record { place = Stands Nothing (drop (used_of request) (bytes_at x.stream)); index = 0; waits = false } else record { place = x.stream; index = x.index + 1; waits = false }) → GoesOnAfter false x reply y
went_on x y request reply b a ends front =
    let held = bytes_at x.stream in
    let m : AnyMessage = message_in held request in
    let rest : List ℕ = drop (used_of request) held in
    let key = some_ask (asks_of m) x.index a.there in
    let after_is : Stands Nothing rest ≡ after_any m rest = sym (request_after held request rest x.index key.0 key.1) in (
      Whole m,
      after_any m rest,
      reads_front x.stream request (record { stands = a.stands; read = a.read }),
      front ∙ (λ i. if sym ends i then record { place = after_is i; index = 0; waits = false } else record { place = x.stream; index = x.index + 1; waits = false }),
    )

-- where the first of a number stands
at_place : (n : ℕ) (xs : List Pending) (i : ℕ) → position (is_numbered n) xs ≡ Some i → position_or_len (is_numbered n) xs ≡ i
at_place n xs i e = by (nat_lt (position_or_len (is_numbered n) xs) (length xs)) e
  where
    by : (b : Bool) → cond b (Some (position_or_len (is_numbered n) xs)) None ≡ Some i → position_or_len (is_numbered n) xs ≡ i
    by true e = cc
    by false e = absurd cc

found_is : (n : ℕ) (xs : List Pending) → pending_in n xs ≡ find (is_numbered n) xs
found_is n [] = refl
found_is n (x ∷ xs) = ap (λ o. cond (nat_eq x.number n) (Some x) o) (found_is n xs)

pub there_at : (n : ℕ) (xs : List Pending) (i : ℕ) (q : Pending) → position (is_numbered n) xs ≡ Some i → slice_get xs i ≡ Some q → pending_in n xs ≡ Some q
there_at n xs i q e is = found_is n xs ∙ find_at (is_numbered n) xs ∙ ap (slice_get xs) (at_place n xs i e) ∙ is

pub some_pending : {x y : Pending} → ◌≡◌ {A = Option Pending} (Some x) (Some y) → x ≡ y
some_pending e = cc

-- where none of a number has a place, none is there
pub none_there : (n : ℕ) (xs : List Pending) (q : Pending) → ◌≡◌ {A = Option ℕ} None (position (is_numbered n) xs) → pending_in n xs ≡ Some q → ⊥
none_there n xs q none there =
    let at = position_or_len (is_numbered n) xs in
    let lt : at < length xs = slice_get_within xs at q (sym (found_is n xs ∙ find_at (is_numbered n) xs) ∙ there) in
    by at (nat_lt at (length xs)) (lt-ltb at (length xs) lt) none
  where
    by : (i : ℕ) (b : Bool) → b ≡ true → ◌≡◌ {A = Option ℕ} None (cond b (Some i) None) → ⊥
    by i true t e = absurd cc
    by i false t e = absurd cc

replied_is : (n : ℕ) (reply : Answer) (xs : List Pending) (q : Pending) → slice_get xs (position_or_len (is_numbered n) xs) ≡ Some q → slice_set xs (position_or_len (is_numbered n) xs) (replied reply q) ≡ replied_in n reply xs
replied_is n reply [] q is = absurd cc
replied_is n reply (x ∷ xs) q is =
    (elim (nat_eq x.number n) as (λ b. slice_get (x ∷ xs) (cond (not b) (1 + position_or_len (is_numbered n) xs) 0) ≡ Some q
    → slice_set (x ∷ xs) (cond (not b) (1 + position_or_len (is_numbered n) xs) 0) (replied reply q) ≡ cond b (replied reply x ∷ xs) (x ∷ replied_in n reply xs)) [
      | true ↦ λ is. ap (λ p. replied reply p ∷ xs) (sym (some_pending is))
      | false ↦ λ is.
          let at = position_or_len (is_numbered n) xs in
          let later : 1 + at ≡ suc at = omega arith in
          ap (λ k. slice_set (x ∷ xs) k (replied reply q)) later ∙ ap (λ l. x ∷ l) (replied_is n reply xs q (ap (slice_get (x ∷ xs)) (sym later) ∙ is))
    ]) is

pub replied_at : (n : ℕ) (reply : Answer) (xs : List Pending) (i : ℕ) (q : Pending) → position (is_numbered n) xs ≡ Some i → slice_get xs i ≡ Some q → slice_set xs i (replied reply q) ≡ replied_in n reply xs
replied_at n reply xs i q e is =
    let at = at_place n xs i e in
    ap (λ j. slice_set xs j (replied reply q)) (sym at) ∙ replied_is n reply xs q (ap (slice_get xs) at ∙ is)
