-- What is served message by message, and what is to be sent then.
use Rattle.std.proofs.Common.{◌≡◌, ℕ, ℤ, ◌+◌, ◌-◌, ◌<◌, ◌≤◌, Bool, true, false, List, [], ◌∷◌, ◌++◌, length, take, drop, inl, inr, refl, sym, ap, ◌∙◌, subst, arith, append_assoc, append-nil, min}
use Rattle.std.proofs.lemmas.Bool.{cases_lt}
use Rattle.std.proofs.lemmas.List.{take-append-drop, drop-append-le, length-drop}
use Rattle.std.proofs.Math.Seq.{drop-append-add}
use Rattle.serve_wire.specs.declared.conn.conn.Sent.{Sent}
use Rattle.serve_wire.specs.declared.conn.conn.Sent.TheVariants.{Bytes, Nothing, Failed}
use Rattle.serve_wire.specs.Events.{WireEvent}
use Rattle.serve_wire.specs.Ends.{Sends}
use Rattle.mc_types.specs.declared.ask.Ask.{Ask}
use Rattle.wire_parts.specs.Stream.{Place}
use Rattle.wire_stream.specs.TextProtocol.{Said, LongLine, ReadsNext, asks_in, passed_text}
use Rattle.wire_stream.specs.declared.connection.front.Passed.{Passed}
use Rattle.wire_stream.specs.Fronts.{PassesMessage}
use Rattle.wire_stream.specs.Held.{bytes_at}
use Rattle.wire_stream.proofs.ReaderLaws.{reader_is}
use Rattle.wire_stream.proofs.Shorter.{next_len}
use Rattle.wire_stream.specs.Version.{default_version}
use Rattle.cache_server.specs.Contents.{Contents}
use Rattle.cache_tcp.specs.Steps.{Spot, spot_at, place_by, count_by, IsOnWay, ServedStep, Runs, text_of_steps, RunsOn, StopsNext, StopsForMemory, IsOneText, IsWithin, ServesNext, PassesOn}
use Rattle.cache_tcp.proofs.Runs.{runs_after, text_after}

-- no step was made
pub runs_none : (moment : ℤ) (s : Spot) (c : Contents) (u : List ℕ) → RunsOn moment s c u s c u
runs_none moment s c u = record { stages = []; runs = (refl, refl); unsent_is = sym (append-nil u) }

-- steps after others
pub runs_join : (moment : ℤ) (a b c : Spot) (x y z : Contents) (u v w : List ℕ) → RunsOn moment a x u b y v → RunsOn moment b y v c z w → RunsOn moment a x u c z w
runs_join moment a b c x y z u v w p q =
    record {
      stages = p.stages ++ q.stages;
      runs = runs_after moment a b c x y z p.stages q.stages p.runs q.runs;
      unsent_is = q.unsent_is ∙ ap (λ (l : List ℕ). l ++ text_of_steps q.stages) p.unsent_is ∙ append_assoc u (text_of_steps p.stages) (text_of_steps q.stages) ∙ ap (λ (l : List ℕ). u ++ l) (sym (text_after p.stages q.stages));
    }

one_next : (moment : ℤ) (place place' : Place) (i : ℕ) (c d : Contents) (u v : List ℕ) (ended : Bool) → ServesNext moment place i c u ended place' d v → RunsOn moment (spot_at place i) c u (spot_at place' (count_by ended i)) d v
one_next moment place place' i c d u v ended s =
    record {
      stages = record { text = s.text; spot = spot_at place' (count_by ended i); contents = d } ∷ [];
      runs = (inl (ended, s.answers, refl), (refl, refl));
      unsent_is = s.unsent_is ∙ ap (λ (l : List ℕ). u ++ l) (sym (append-nil s.text));
    }

-- one ask more
pub runs_next : (moment : ℤ) (a : Spot) (place place' : Place) (i : ℕ) (x y z : Contents) (u v w : List ℕ) (ended : Bool)
    → RunsOn moment a x u (spot_at place i) y v → ServesNext moment place i y v ended place' z w → RunsOn moment a x u (spot_at place' (count_by ended i)) z w
runs_next moment a place place' i x y z u v w ended p q = runs_join moment a (spot_at place i) (spot_at place' (count_by ended i)) x y z u v w p (one_next moment place place' i y z v w ended q)

by_true : (ended : Bool) (i : ℕ) → ended ≡ true → count_by ended i ≡ 0
by_true true i e = refl
by_true false i e = absurd (cc)

by_false : (ended : Bool) (i : ℕ) → ended ≡ false → count_by ended i ≡ i + 1
by_false true i e = absurd (cc)
by_false false i e = refl

-- the message is done with it
pub runs_last : (moment : ℤ) (a : Spot) (place place' : Place) (i : ℕ) (x y z : Contents) (u v w : List ℕ) (ended : Bool)
    → RunsOn moment a x u (spot_at place i) y v → ServesNext moment place i y v ended place' z w → ended ≡ true → RunsOn moment a x u (spot_at place' 0) z w
runs_last moment a place place' i x y z u v w ended p q e =
    subst (λ n. RunsOn moment a x u (spot_at place' n) z w) (by_true ended i e) (runs_next moment a place place' i x y z u v w ended p q)

-- or not
pub runs_more : (moment : ℤ) (a : Spot) (place place' : Place) (i : ℕ) (x y z : Contents) (u v w : List ℕ) (ended : Bool)
    → RunsOn moment a x u (spot_at place i) y v → ServesNext moment place i y v ended place' z w → ended ≡ false → RunsOn moment a x u (spot_at place' (i + 1)) z w
runs_more moment a place place' i x y z u v w ended p q e =
    subst (λ n. RunsOn moment a x u (spot_at place' n) z w) (by_false ended i e) (runs_next moment a place place' i x y z u v w ended p q)

-- a message more that asks no server
pub runs_pass : (moment : ℤ) (a : Spot) (place place' : Place) (n : ℕ) (x y : Contents) (u v w : List ℕ)
    → RunsOn moment a x u (spot_at place n) y v → PassesOn place v place' w → n ≡ 0 → RunsOn moment a x u (spot_at place' n) y w
runs_pass moment a place place' n x y u v w p q zero =
    runs_join moment a (spot_at place n) (spot_at place' n) x y y u v w p
    (record {
      stages = record { text = q.text; spot = spot_at place' n; contents = y } ∷ [];
      runs = (inr (zero, zero, refl, q.passes), (refl, refl));
      unsent_is = q.unsent_is ∙ ap (λ (l : List ℕ). v ++ l) (sym (append-nil q.text));
    })

-- memory was refused at the next step
pub stops_next : (moment : ℤ) (a : Spot) (place : Place) (i : ℕ) (x y z : Contents) (u v : List ℕ) → RunsOn moment a x u (spot_at place i) y v → StopsNext moment place i y z → StopsForMemory moment a x z
stops_next moment a place i x y z u v p q = record { stages = p.stages; spot = spot_at place i; left = y; runs = p.runs; stops = q }

-- or after more steps
pub stops_join : (moment : ℤ) (a b : Spot) (x y z : Contents) (u v : List ℕ) → RunsOn moment a x u b y v → StopsForMemory moment b y z → StopsForMemory moment a x z
stops_join moment a b x y z u v p q =
    record { stages = p.stages ++ q.stages; spot = q.spot; left = q.left; runs = runs_after moment a b q.spot x y q.left p.stages q.stages p.runs q.runs; stops = q.stops }

ended_at : (ended : Bool) (place next : Place) → ended ≡ true → place_by ended place next ≡ next
ended_at true place next e = refl
ended_at false place next e = absurd (cc)

-- fewer bytes are held after a message that was done
pub next_shorter : (moment : ℤ) (place place' : Place) (i : ℕ) (c d : Contents) (u v : List ℕ) (ended : Bool) → ServesNext moment place i c u ended place' d v → ended ≡ true → length (bytes_at place') < length (bytes_at place)
next_shorter moment place place' i c d u v ended s e =
    subst (λ (p : Place). length (bytes_at p) < length (bytes_at place)) (sym (s.answers.place_is ∙ ended_at ended place s.answers.next e)) (next_len place s.answers.said s.answers.next s.answers.reads)

-- or that asks no server
pub pass_shorter : (place place' : Place) (u v : List ℕ) → PassesOn place u place' v → length (bytes_at place') < length (bytes_at place)
pass_shorter place place' u v p = next_len place p.passes.said place' p.passes.reads

-- a message that asks no server was answered in the text after all pieces
pub passes_on : (place place' : Place) (passed : Passed) (pieces text text' : List ℕ) → PassesMessage default_version place text passed place' text' → PassesOn place (pieces ++ text) place' (pieces ++ text')
passes_on place place' passed pieces text text' p =
    record {
      text = passed_text default_version p.message;
      passes = record { said = p.message; reads = subst (ReadsNext place p.message) (sym p.place_is) p.reads; asks = p.asks; text_is = refl };
      unsent_is = ap (λ (l : List ℕ). pieces ++ l) p.output_is ∙ sym (append_assoc pieces text (passed_text default_version p.message));
    }

-- no ask of a message is answered that has none
pub none_asked : (place place' : Place) (n : ℕ) (u v : List ℕ) → IsOnWay (spot_at place n) → PassesOn place u place' v → n ≡ 0
none_asked place place' n u v (inl zero) p = zero
none_asked place place' n u v (inr way) p =
    let same : asks_in way.0 ≡ [] = ap asks_in (reader_is.one_message place way.0 p.passes.said way.1 place' way.2 p.passes.reads).0 ∙ p.passes.asks in
    let none : n < 0 = subst (λ (l : List Ask). n < length l) same way.3 in
    absurd (omega (arith, none))

-- what is to be sent, where one text more was given below the bound
pub within_more : (most : ℕ) (u text v : List ℕ) → length u < most → IsOneText text → v ≡ u ++ text → IsWithin most v
within_more most u text v below one e = record { front = u; last = text; gone = []; unsent_is = e; front_len = omega (arith, below); one = one }

pub within_next : (moment : ℤ) (most : ℕ) (place place' : Place) (i : ℕ) (c d : Contents) (u v : List ℕ) (ended : Bool) → length u < most → ServesNext moment place i c u ended place' d v → IsWithin most v
within_next moment most place place' i c d u v ended below s = within_more most u s.text v below (inl (s.answers.said, i, s.answers.reply, s.answers.text_is)) s.unsent_is

pub within_pass : (most : ℕ) (place place' : Place) (u v : List ℕ) → length u < most → PassesOn place u place' v → IsWithin most v
within_pass most place place' u v below p = within_more most u p.text v below (inr (p.passes.said, p.passes.text_is)) p.unsent_is

-- what is left where the first bytes were sent
pub within_drop : (most count : ℕ) (u : List ℕ) → IsWithin most u → IsWithin most (drop count u)
within_drop most count u w =
    elim (cases_lt count (length w.front)) [
      | inl lt ↦
          let le : count ≤ length w.front = omega (arith, lt) in
          let few = length-drop count w.front in
          let len = w.front_len in
          record {
            front = drop count w.front;
            last = w.last;
            gone = w.gone;
            unsent_is = ap (λ (l : List ℕ). drop count l) w.unsent_is ∙ drop-append-le count w.front w.last le;
            front_len = omega (arith, few, len);
            one = w.one;
          }
      | inr ge ↦
          let more : ℕ = count - length w.front in
          let all : count ≡ length w.front + more = omega (arith, ge) in
          record {
            front = [];
            last = drop more w.last;
            gone = w.gone ++ take more w.last;
            unsent_is = ap (λ (l : List ℕ). drop count l) w.unsent_is ∙ ap (λ n. drop n (w.front ++ w.last)) all ∙ drop-append-add w.front w.last more;
            front_len = omega arith;
            one = subst IsOneText (sym (append_assoc w.gone (take more w.last) (drop more w.last) ∙ ap (λ (l : List ℕ). w.gone ++ l) (take-append-drop more w.last))) w.one;
          }
    ]

-- a length that is counted up to the greatest number
pub below_len : (n len most max : ℕ) → len ≡ min n max → len < most → most ≤ max → n < most
below_len n len most max is lt le = grind (arith, is, lt, le)

pub above_len : (n len most max : ℕ) → len ≡ min n max → most ≤ len → most ≤ n
above_len n len most max is le = grind (arith, is, le)

-- or where one write took some
pub within_sent : (most conn : ℕ) (u v : List ℕ) (h h' : List WireEvent) (sent : Sent) → Sends conn u sent v h h' → IsWithin most u → IsWithin most v
within_sent most conn u v h h' Bytes s w = subst (λ (l : List ℕ). IsWithin most l) (sym s.unsent_is) (within_drop most s.count u w)
within_sent most conn u v h h' Nothing s w = subst (λ (l : List ℕ). IsWithin most l) (sym s.0) w
within_sent most conn u v h h' Failed s w = subst (λ (l : List ℕ). IsWithin most l) (sym s.0) w
