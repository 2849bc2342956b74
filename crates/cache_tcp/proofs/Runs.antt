-- Steps after others, and steps of a stream to which more came.
use Rattle.std.proofs.Common.{◌≡◌, ℕ, zero, suc, ℤ, ◌<◌, Bool, true, false, List, [], ◌∷◌, ◌++◌, length, take, drop, inl, inr, refl, sym, ap, ◌∙◌, subst, arith, append_assoc, append-nil}
use Rattle.std.proofs.lemmas.List.{take-append-drop}
use Rattle.wire_parts.specs.Stream.{Place, extended}
use Rattle.wire_stream.proofs.ReaderLaws.{reader_is}
use Rattle.cache_server.specs.Contents.{Contents}
use Rattle.cache_tcp.specs.Steps.{Spot, spot_at, came, place_by, SpotStep, ServedStep, Runs, text_of_steps, RunsOn, StopsForMemory}
use Rattle.cache_tcp.specs.Serving.{FeedsStream, ServesHeld, StopsIn}

pub runs_after : (moment : ℤ) (a b c : Spot) (x y z : Contents) (s t : List ServedStep) → Runs moment a x s b y → Runs moment b y t c z → Runs moment a x (s ++ t) c z
runs_after moment a b c x y z [] t r q = subst (λ (p : Spot). Runs moment p x t c z) (sym r.0) (subst (λ (d : Contents). Runs moment b d t c z) (sym r.1) q)
runs_after moment a b c x y z (g ∷ s) t r q = (r.0, runs_after moment g.spot b c g.contents y z s t r.1 q)

pub text_after : (s t : List ServedStep) → text_of_steps (s ++ t) ≡ text_of_steps s ++ text_of_steps t
text_after [] t = refl
text_after (g ∷ s) t = ap (λ (l : List ℕ). g.text ++ l) (text_after s t) ∙ sym (append_assoc g.text (text_of_steps s) (text_of_steps t))

by_extended : (ended : Bool) (p q : Place) (more : List ℕ) → extended (place_by ended p q) more ≡ place_by ended (extended p more) (extended q more)
by_extended true p q more = refl
by_extended false p q more = refl

-- a step is the same where more came
step_still : (moment : ℤ) (from to : Spot) (c d : Contents) (text more : List ℕ) → SpotStep moment from c text to d → SpotStep moment (came from more) c text (came to more) d
step_still moment from to c d text [] s = s
step_still moment from to c d text (b ∷ bs) (inl s) =
    let a = s.1 in
    inl (
      s.0,
      record {
        said = a.said;
        next = extended a.next (b ∷ bs);
        reads = reader_is.goes_on from.place a.said a.next (b ∷ bs) a.reads;
        ask = a.ask;
        at = a.at;
        reply = a.reply;
        answered = a.answered;
        ended_is = a.ended_is;
        text_is = a.text_is;
        place_is = ap (λ (p : Place). extended p (b ∷ bs)) a.place_is ∙ by_extended s.0 from.place a.next (b ∷ bs);
      },
      s.2,
    )
step_still moment from to c d text (b ∷ bs) (inr s) =
    let a = s.3 in
    inr (s.0, s.1, s.2, record { said = a.said; reads = reader_is.goes_on from.place a.said to.place (b ∷ bs) a.reads; asks = a.asks; text_is = a.text_is })

-- where the same steps lead where more came
later : List ℕ → List ServedStep → List ServedStep
later more [] = []
later more (g ∷ s) = record { text = g.text; spot = came g.spot more; contents = g.contents } ∷ later more s

text_later : (more : List ℕ) (s : List ServedStep) → text_of_steps (later more s) ≡ text_of_steps s
unfolding later
text_later more [] = refl
text_later more (g ∷ s) = ap (λ (l : List ℕ). g.text ++ l) (text_later more s)

runs_still : (moment : ℤ) (a b : Spot) (x y : Contents) (s : List ServedStep) (more : List ℕ) → Runs moment a x s b y → Runs moment (came a more) x (later more s) (came b more) y
unfolding later
runs_still moment a b x y [] more r = (ap (λ (p : Spot). came p more) r.0, r.1)
runs_still moment a b x y (g ∷ s) more r = (step_still moment a g.spot x g.contents g.text more r.0, runs_still moment g.spot b g.contents y s more r.1)

came_twice : (p : Spot) (a b : List ℕ) → came (came p a) b ≡ came p (a ++ b)
came_twice p [] b = refl
came_twice p (x ∷ a) [] = ap (λ (l : List ℕ). came p l) (sym (append-nil (x ∷ a)))
came_twice p (x ∷ a) (y ∷ b) = ap (λ (q : Place). spot_at q p.count) (reader_is.fed_append p.place (x ∷ a) (y ∷ b))

-- nothing came, and nothing was served
pub serves_none : (moment : ℤ) (held unsent : List ℕ) (p : Spot) (c : Contents) → ServesHeld moment held unsent p c held unsent p c
serves_none moment held unsent p c = record { fed = []; stages = []; held_is = refl; runs = (refl, refl); unsent_is = sym (append-nil unsent) }

-- more steps were made
pub serves_on : (moment : ℤ) (h u : List ℕ) (p : Spot) (c : Contents) (h1 u1 : List ℕ) (q : Spot) (d : Contents) (u2 : List ℕ) (r : Spot) (e : Contents)
    → ServesHeld moment h u p c h1 u1 q d → RunsOn moment q d u1 r e u2 → ServesHeld moment h u p c h1 u2 r e
serves_on moment h u p c h1 u1 q d u2 r e a b =
    record {
      fed = a.fed;
      stages = a.stages ++ b.stages;
      held_is = a.held_is;
      runs = runs_after moment (came p a.fed) q r c d e a.stages b.stages a.runs b.runs;
      unsent_is = b.unsent_is ∙ ap (λ (l : List ℕ). l ++ text_of_steps b.stages) a.unsent_is ∙ append_assoc u (text_of_steps a.stages) (text_of_steps b.stages) ∙ ap (λ (l : List ℕ). u ++ l) (sym (text_after a.stages b.stages));
    }

-- more came
pub comes_on : (moment : ℤ) (h u : List ℕ) (p : Spot) (c : Contents) (h1 u1 : List ℕ) (q : Spot) (d : Contents) (h2 : List ℕ) (r : Spot)
    → ServesHeld moment h u p c h1 u1 q d → FeedsStream h1 q h2 r → ServesHeld moment h u p c h2 u1 r d
comes_on moment h u p c h1 u1 q d h2 r a b =
    record {
      fed = a.fed ++ b.fed;
      stages = later b.fed a.stages;
      held_is = a.held_is ∙ ap (λ (l : List ℕ). a.fed ++ l) b.held_is ∙ sym (append_assoc a.fed b.fed h2);
      runs = subst (λ (s : Spot). Runs moment s c (later b.fed a.stages) r d) (came_twice p a.fed b.fed)
          (subst (λ (s : Spot). Runs moment (came (came p a.fed) b.fed) c (later b.fed a.stages) s d) (sym b.spot_is) (runs_still moment (came p a.fed) q c d a.stages b.fed a.runs));
      unsent_is = a.unsent_is ∙ ap (λ (l : List ℕ). u ++ l) (sym (text_later b.fed a.stages));
    }

-- memory was refused at a step after those
pub stops_in : (moment : ℤ) (h u : List ℕ) (p : Spot) (c : Contents) (h1 u1 : List ℕ) (q : Spot) (d e : Contents)
    → ServesHeld moment h u p c h1 u1 q d → StopsForMemory moment q d e → StopsIn moment h p c e
stops_in moment h u p c h1 u1 q d e a b =
    record {
      fed = a.fed;
      rest = h1;
      stages = a.stages ++ b.stages;
      spot = b.spot;
      left = b.left;
      held_is = a.held_is;
      runs = runs_after moment (came p a.fed) q b.spot c d b.left a.stages b.stages a.runs b.runs;
      stops = b.stops;
    }

-- or after them, before the next
pub stops_between : (moment : ℤ) (h u : List ℕ) (p : Spot) (c : Contents) (h1 u1 : List ℕ) (q : Spot) (d : Contents) → ServesHeld moment h u p c h1 u1 q d → StopsIn moment h p c d
stops_between moment h u p c h1 u1 q d a =
    record { fed = a.fed; rest = h1; stages = a.stages; spot = q; left = d; held_is = a.held_is; runs = a.runs; stops = inl refl }

-- the first bytes of those that are held came
pub comes_at : (held held' : List ℕ) (count : ℕ) (from to : Spot) → 0 < count → 0 < length held → held' ≡ drop count held → to ≡ spot_at (extended from.place (take count held)) from.count → FeedsStream held from held' to
comes_at held held' zero from to some left is spot = absurd (omega (arith, some))
comes_at [] held' (suc n) from to some left is spot = absurd (omega (arith, left))
comes_at (x ∷ xs) held' (suc n) from to some left is spot =
    record { fed = take (suc n) (x ∷ xs); held_is = sym (ap (λ (l : List ℕ). take (suc n) (x ∷ xs) ++ l) is ∙ take-append-drop (suc n) (x ∷ xs)); spot_is = spot }

-- steps were made, with the same held
pub serves_still : (moment : ℤ) (h u : List ℕ) (p : Spot) (c : Contents) (h1 u1 : List ℕ) (q : Spot) (d : Contents) (h2 u2 : List ℕ) (r : Spot) (e : Contents)
    → ServesHeld moment h u p c h1 u1 q d → h2 ≡ h1 → RunsOn moment q d u1 r e u2 → ServesHeld moment h u p c h2 u2 r e
serves_still moment h u p c h1 u1 q d h2 u2 r e a same b =
    subst (λ (l : List ℕ). ServesHeld moment h u p c l u2 r e) (sym same) (serves_on moment h u p c h1 u1 q d u2 r e a b)

-- more came, with the same unsent
pub comes_still : (moment : ℤ) (h u : List ℕ) (p : Spot) (c : Contents) (h1 u1 : List ℕ) (q : Spot) (d : Contents) (h2 u2 : List ℕ) (r : Spot)
    → ServesHeld moment h u p c h1 u1 q d → u2 ≡ u1 → FeedsStream h1 q h2 r → ServesHeld moment h u p c h2 u2 r d
comes_still moment h u p c h1 u1 q d h2 u2 r a same b =
    subst (λ (l : List ℕ). ServesHeld moment h u p c h2 l r d) (sym same) (comes_on moment h u p c h1 u1 q d h2 r a b)
