-- A reply that is shown as it comes is one that came and was shown then.
use Rattle.std.proofs.Common.{◌≡◌, ℕ, ◌+◌, ◌<◌, nat_lt, arith, Bool, true, false, not, cond, List, [], ◌∷◌, ◌++◌, length, position, slice_get, slice_set, drop, Some, None, refl, sym, ap, ◌∙◌, subst, nat_eq}
use Rattle.wire_parts.specs.Sending.{bytes_of}
use Rattle.mc_types.specs.declared.answer.Answer.{Answer}
use Rattle.wire_stream.specs.Replies.{shown_text}
use Rattle.core_client.specs.declared.client.Client.{Client}
use Rattle.core_client.specs.declared.client.Pending.{Pending}
use Rattle.core_client.specs.declared.replying.ReplyPlace.{ReplyPlace}
use Rattle.core_client.specs.Replying.{AnswersAt, GoesOnAfter, IsOnward, IsPlace, is_numbered, replied}
use Rattle.core_client.specs.Heads.{AnswersHead, is_next_of}
use Rattle.core_client.proofs.Places.{some_pending}
use Rattle.std.proofs.lemmas.Bool.{lt-ltb}
use Rattle.std.specs.List.{position_or_len}

-- what is of a number and asks a last key is of that number
numbered : (a b : Bool) → cond a b false ≡ true → (a ≡ true)
numbered true b e = refl
numbered false b e = absurd cc

last_key : (a b : Bool) → cond a b false ≡ true → (b ≡ true)
last_key true b e = e
last_key false b e = absurd cc

-- the head of a list, and what follows
pub head_of : (xs : List Pending) (p : Pending) → slice_get xs 0 ≡ Some p → xs ≡ p ∷ drop 1 xs
head_of [] p is = absurd cc
head_of (q ∷ xs) p is = ap (λ (r : Pending). r ∷ xs) (some_pending is)

module _ (x y : Client) (number : ℕ) (reply : Answer) (pending : Pending) (rest : List Pending) (head : x.queue.items ≡ pending ∷ rest) (next : is_next_of number pending ≡ true) where
  -- the client between: the reply came, and wasn't shown yet
  abbrev between : Client
  between = record x { queue = record x.queue { items = replied reply pending ∷ rest; ok = (x.queue.ok.0 ∙ ap length head, x.queue.ok.1) } }

  abbrev place : ReplyPlace
  place = record { at = 0; onward = None }

  is_last : pending.last ≡ true
  is_last = last_key (nat_eq pending.number number) pending.last next

  place_first : (b : Bool) → b ≡ true → cond (nat_lt (cond (not b) (1 + position_or_len (is_numbered number) rest) 0) (length (pending ∷ rest))) (Some (cond (not b) (1 + position_or_len (is_numbered number) rest) 0)) None ≡ Some 0
  place_first true e = ap (λ (c : Bool). cond c (Some 0) None) (lt-ltb 0 (length (pending ∷ rest)) positive)
    where
      positive : 0 < length (pending ∷ rest)
      positive = omega arith
  place_first false e = absurd cc

  abbrev is_place : IsPlace x number place
  is_place =
      record {
        pending = pending;
        first = ap (position (is_numbered number)) head ∙ place_first (nat_eq pending.number number) (numbered (nat_eq pending.number number) pending.last next);
        is = ap (λ l. slice_get l 0) head;
        onward = subst (λ (l : Bool). IsOnward x l None) (sym is_last) tt;
      }

  came : AnswersAt x 0 pending.last reply between
  came = record {
    queue = λ p is. ap (λ (q : Pending). replied reply q ∷ rest) (some_pending (sym (ap (λ l. slice_get l 0) head) ∙ is)) ∙ sym (ap (λ l. slice_set l 0 (replied reply p)) head);
    front = subst (λ (l : Bool). GoesOnAfter l x reply between) (sym is_last) refl;
    output = refl;
    dropped = refl;
  }

  pub at_once : x.dropped ≡ false → y.queue.items ≡ rest → bytes_of y.output ≡ bytes_of x.output ++ shown_text pending.quiet pending.last pending.ask reply → y.stream ≡ x.stream → y.index ≡ x.index → y.waits ≡ x.waits → y.dropped ≡ x.dropped → AnswersHead x number reply y
  at_once served queue output stream index waits dropped =
      record {
        between = between;
        place = place;
        is = is_place;
        answers = came;
        shows = (
          replied reply pending,
          reply,
          record {
            rest = rest;
            head = refl;
            replied = refl;
            served = served;
            queue = queue;
            output = output;
            stream = stream;
            index = index;
            waits = waits;
            dropped = dropped;
          },
        );
      }
