-- What is settled of the bytes that a link holds, and what is left of them.
use Rattle.std.proofs.Common.{◌≡◌, ◌≢◌, ℕ, ◌≤◌, true, false, eqb, min, List, [], ◌∷◌, ◌++◌, length, take, drop, refl, sym, subst, ap, ◌∙◌, inr, append_assoc, arith}
use Rattle.std.proofs.lemmas.List.{append-nil, drop_min, take-append-drop}
use Rattle.mc_types.specs.declared.answer.Answer.{Answer}
use Rattle.core_accepted.specs.declared.served.ServedCore.{ServedCore}
use Rattle.serve_links.specs.declared.calls.calls.SentCall.{SentCall}
use Rattle.serve_links.specs.declared.calls.calls.Left.{Left}
use Rattle.serve_links.specs.declared.calls.calls.Left.TheVariants as lefts
use Rattle.serve_links.specs.declared.calls.calls.Next.{Next}
use Rattle.serve_links.specs.declared.calls.calls.Next.TheVariants as nexts
use Rattle.serve_links.specs.Calls.{AwaitsFirst, IsLeft, SettlesNext}
use Rattle.serve_links.specs.Dialects.{SpellsIn}
use Rattle.serve_links.specs.Settled.{HoldsNoAnswer, HoldsForeign, SettlesOne, SettlesEach, SettlesSome}

-- more is awaited, and nothing has changed
pub awaited : (sent : List SentCall) (bytes : List ℕ) (a : ServedCore) (left : Left) (sent' : List SentCall) (b : ServedCore) → left ≡ lefts.Begun → SettlesNext sent bytes a (nexts.Left left) sent' b → HoldsNoAnswer sent' bytes b
awaited sent bytes a left sent' b begun is =
    inr (subst (λ (s : List SentCall). AwaitsFirst s bytes b.core) (sym is.1) (subst (λ (c : ServedCore). AwaitsFirst sent bytes c.core) (sym is.2) (subst (λ (l : Left). IsLeft l sent bytes a.core) begun is.0)))

-- bytes that are some
pub some_held : (bytes : List ℕ) → eqb (length bytes) 0 ≡ false → bytes ≢ []
some_held bytes e none = false_true (sym e ∙ ap (λ (l : List ℕ). eqb (length l) 0) none)
  where
    false_true : false ≡ true → ⊥
    false_true e = cc

-- no answer to the first call begins so, and nothing has changed
pub foreign :
    (sent : List SentCall) (bytes : List ℕ) (a : ServedCore) (left : Left) (sent' : List SentCall) (b : ServedCore) → bytes ≢ [] → left ≡ lefts.NoAnswer → SettlesNext sent bytes a (nexts.Left left) sent' b
    → HoldsForeign sent' bytes b
foreign sent bytes a left sent' b some none is =
    subst (λ (s : List SentCall). HoldsForeign s bytes b) (sym is.1) (subst (λ (c : ServedCore). HoldsForeign sent bytes c) (sym is.2) (record { some = some; foreign = subst (λ (l : Left). IsLeft l sent bytes a.core) none is.0 }))

-- whatever follows what is held
pub foreign_over : (sent : List SentCall) (bytes more : List ℕ) (b : ServedCore) → HoldsForeign sent bytes b → HoldsForeign sent (bytes ++ more) b
foreign_over sent bytes more b is = record {
  some = λ none. is.some (no_front bytes none);
  foreign = λ number dialect ask first asks later answer used. subst (λ (l : List ℕ). ¬ SpellsIn dialect ask l answer used) (sym (append_assoc bytes more later)) (is.foreign number dialect ask first asks (more ++ later) answer used);
}
  where
    no_front : (l : List ℕ) → l ++ more ≡ [] → l ≡ []
    no_front [] none = refl
    no_front (byte ∷ l) none = absurd (some_none byte (l ++ more) none)
      where
        some_none : (byte : ℕ) (l : List ℕ) → byte ∷ l ≡ [] → ⊥
        some_none byte l e = cc

-- the same of equal bytes
pub foreign_as : {sent : List SentCall} {x y : List ℕ} {b : ServedCore} → y ≡ x → HoldsForeign sent x b → HoldsForeign sent y b
foreign_as {sent} {x} {y} {b} e is = subst (λ (l : List ℕ). HoldsForeign sent l b) (sym e) is

pub settles_as : (sent : List SentCall) (xs ys : List ℕ) (a : ServedCore) (next : Next) (sent' : List SentCall) (b : ServedCore) → ys ≡ xs → SettlesNext sent xs a next sent' b → SettlesNext sent ys a next sent' b
settles_as sent xs ys a next sent' b e is = subst (λ (bytes : List ℕ). SettlesNext sent bytes a next sent' b) (sym e) is

-- nothing was settled
pub none : {sent : List SentCall} {bytes : List ℕ} {a : ServedCore} {sent' : List SentCall} {bytes' : List ℕ} {b : ServedCore} → sent' ≡ sent → bytes' ≡ bytes → b ≡ a → SettlesSome sent bytes a sent' bytes' b
none s x c = record { answers = []; each = (s, x, c); spelled = []; bytes_are = sym x }

both_each :
    (first later : List Answer) (s : List SentCall) (x : List ℕ) (a : ServedCore) (t : List SentCall) (y : List ℕ) (b : ServedCore) (u : List SentCall) (z : List ℕ) (c : ServedCore)
    → SettlesEach first s x a t y b → SettlesEach later t y b u z c → SettlesEach (first ++ later) s x a u z c
both_each [] later s x a t y b u z c f l =
    subst (λ (v : List SentCall). SettlesEach later v x a u z c) f.0 (subst (λ (w : List ℕ). SettlesEach later t w a u z c) f.1 (subst (λ (d : ServedCore). SettlesEach later t y d u z c) f.2 l))
both_each (answer ∷ first) later s x a t y b u z c f l = (f.0, f.1, f.2, f.3, both_each first later f.0 f.1 f.2 t y b u z c f.4 l)

-- one after another
pub both :
    {s : List SentCall} {x : List ℕ} {a : ServedCore} {t : List SentCall} {y : List ℕ} {b : ServedCore} {u : List SentCall} {z : List ℕ} {c : ServedCore}
    → SettlesSome s x a t y b → SettlesSome t y b u z c → SettlesSome s x a u z c
both {s} {x} {a} {t} {y} {b} {u} {z} {c} f l = record {
  answers = f.answers ++ l.answers;
  each = both_each f.answers l.answers s x a t y b u z c f.each l.each;
  spelled = f.spelled ++ l.spelled;
  bytes_are = f.bytes_are ∙ ap (λ (w : List ℕ). f.spelled ++ w) l.bytes_are ∙ sym (append_assoc f.spelled l.spelled z);
}

-- the first was settled
pub one :
    (sent : List SentCall) (bytes : List ℕ) (a : ServedCore) (client used : ℕ) (sent' : List SentCall) (bytes' : List ℕ) (b : ServedCore) → bytes' ≡ drop used bytes
    → SettlesNext sent bytes a (nexts.Settled client used) sent' b → SettlesSome sent bytes a sent' bytes' b
one sent bytes a client used sent' bytes' b e is = record {
  answers = is.0 ∷ [];
  each = (sent', bytes', b, first, (refl, refl, refl));
  spelled = take used bytes;
  bytes_are = sym (take-append-drop used bytes) ∙ ap (λ (l : List ℕ). take used bytes ++ l) (sym e);
}
  where
    first : SettlesOne sent bytes a is.0 sent' bytes' b
    first = record { front = bytes; more = []; whole = sym (append-nil bytes); used = used; answers = is.1; rest = e ∙ sym (append-nil (drop used bytes)); client = client; settles = is.2 }

over_each :
    (answers : List Answer) (s : List SentCall) (x : List ℕ) (a : ServedCore) (t : List SentCall) (y : List ℕ) (b : ServedCore) (more : List ℕ)
    → SettlesEach answers s x a t y b → SettlesEach answers s (x ++ more) a t (y ++ more) b
over_each [] s x a t y b more f = (f.0, ap (λ (l : List ℕ). l ++ more) f.1, f.2)
over_each (answer ∷ answers) s x a t y b more f = (f.0, f.1 ++ more, f.2, over_one s x a answer f.0 f.1 f.2 more f.3, over_each answers f.0 f.1 f.2 t y b more f.4)
  where
    over_one :
        (s : List SentCall) (x : List ℕ) (a : ServedCore) (answer : Answer) (t : List SentCall) (y : List ℕ) (b : ServedCore) (more : List ℕ)
        → SettlesOne s x a answer t y b → SettlesOne s (x ++ more) a answer t (y ++ more) b
    over_one s x a answer t y b more is = record {
      front = is.front;
      more = is.more ++ more;
      whole = ap (λ (l : List ℕ). l ++ more) is.whole ∙ append_assoc is.front is.more more;
      used = is.used;
      answers = is.answers;
      rest = ap (λ (l : List ℕ). l ++ more) is.rest ∙ append_assoc (drop is.used is.front) is.more more;
      client = is.client;
      settles = is.settles;
    }

-- more stands after the bytes
pub over :
    {s : List SentCall} {x : List ℕ} {a : ServedCore} {t : List SentCall} {y : List ℕ} {b : ServedCore} (more : List ℕ) → SettlesSome s x a t y b → SettlesSome s (x ++ more) a t (y ++ more) b
over {s} {x} {a} {t} {y} {b} more f = record {
  answers = f.answers;
  each = over_each f.answers s x a t y b more f.each;
  spelled = f.spelled;
  bytes_are = ap (λ (l : List ℕ). l ++ more) f.bytes_are ∙ append_assoc f.spelled y more;
}

-- the same of equal bytes
pub between :
    {s : List SentCall} {x y : List ℕ} {a : ServedCore} {t : List SentCall} {v w : List ℕ} {b : ServedCore} → y ≡ x → w ≡ v → SettlesSome s x a t v b → SettlesSome s y a t w b
between {s} {x} {y} {a} {t} {v} {w} {b} e f is = subst (λ (l : List ℕ). SettlesSome s l a t w b) (sym e) (subst (λ (l : List ℕ). SettlesSome s x a t l b) (sym f) is)

-- so many bytes that were cut off, and the others
pub cut_apart : (count : ℕ) (held front rest : List ℕ) → front ≡ take count held → rest ≡ drop count held → held ≡ front ++ rest
cut_apart count held front rest f r = sym (take-append-drop count held) ∙ ap (λ (l : List ℕ). l ++ drop count held) (sym f) ∙ ap (λ (l : List ℕ). front ++ l) (sym r)

-- a number that is cut above the length
pub drop_few : (k most : ℕ) (bytes : List ℕ) → length bytes ≤ most → drop (min k most) bytes ≡ drop k bytes
drop_few k most bytes h = let e : min (min k most) (length bytes) ≡ min k (length bytes) = omega arith in sym (drop_min (min k most) bytes) ∙ ap (λ (n : ℕ). drop n bytes) e ∙ drop_min k bytes
