-- Steps serve the messages that they pass, each whole.
use Rattle.std.proofs.Common.{◌≡◌, ℕ, ℤ, ◌+◌, ◌⊎◌, Bool, true, false, List, [], ◌∷◌, ◌++◌, length, Some, inl, inr, refl, sym, ap, ◌∙◌, subst, arith, append_assoc, append-nil, length-append, slice_get}
use Rattle.mc_types.specs.declared.ask.Ask.{Ask}
use Rattle.mc_types.specs.declared.answer.Answer.{Answer}
use Rattle.fresh_runs.specs.Stream.{Done, written, written_from, NoneEnds, LastEnds, IsWhole}
use Rattle.wire_parts.specs.Stream.{Place}
use Rattle.wire_stream.specs.TextProtocol.{Said, memcached_text, ReadsNext, asks_in, passed_text, shown_of, ends_at}
use Rattle.wire_stream.proofs.ReaderLaws.{reader_is}
use Rattle.wire_stream.specs.Version.{default_version}
use Rattle.cache_server.specs.Contents.{Contents}
use Rattle.cache_tcp.specs.ConnectionServing.{AnswersAsk, AnswersEach, ServesTo}
use Rattle.cache_theory.specs.Laws.{StepsAreMessages, GoesOnAsAtOnce}
use Rattle.cache_tcp.specs.Steps.{Spot, at_front, count_by, AnswersNext, PassesNext, SpotStep, ServedStep, Runs, text_of_steps}
use Rattle.cache_theory.proofs.ConnectionJoined.{serves_one, serves_after, serves_nothing}
use Rattle.cache_tcp.proofs.Runs.{runs_after, text_after}

answers_more : (moment : ℤ) (asks : List Ask) (c d e : Contents) (replies : List Answer) (ask : Ask) (reply : Answer) → AnswersEach moment asks c replies d → slice_get asks (length replies) ≡ Some ask → AnswersAsk moment ask d reply e → AnswersEach moment asks c (replies ++ reply ∷ []) e
answers_more moment [] c d e [] ask reply each at one = absurd (cc)
answers_more moment [] c d e (r ∷ replies) ask reply each at one = absurd each
answers_more moment (a ∷ asks) c d e [] ask reply each at one =
    let same : a ≡ ask = some_is a ask at in
    (e, subst (λ (x : Contents). AnswersAsk moment a x reply e) (sym each) (subst (λ (x : Ask). AnswersAsk moment x d reply e) (sym same) one), refl)
  where
    some_is : (a b : Ask) → Some a ≡ Some b → a ≡ b
    some_is a b e = cc
answers_more moment (a ∷ asks) c d e (r ∷ replies) ask reply each at one = (each.0, each.1, answers_more moment asks each.0 d e replies ask reply each.2 at one)

written_more : (m : Said) (i : ℕ) (rs : List Answer) (r : Answer) → written_from memcached_text m i (rs ++ r ∷ []) ≡ written_from memcached_text m i rs ++ shown_of m (i + length rs) r
written_more m i [] r = append-nil (shown_of m i r) ∙ ap (λ n. shown_of m n r) (omega arith)
written_more m i (x ∷ rs) r =
    let at : i + 1 + length rs ≡ i + length (x ∷ rs) = omega arith in
    ap (λ (l : List ℕ). shown_of m i x ++ l) (written_more m (i + 1) rs r ∙ ap (λ n. written_from memcached_text m (i + 1) rs ++ shown_of m n r) at)
    ∙ sym (append_assoc (shown_of m i x) (written_from memcached_text m (i + 1) rs) (shown_of m (i + length (x ∷ rs)) r))

none_more : (m : Said) (i : ℕ) (rs : List Answer) (r : Answer) → NoneEnds memcached_text m i rs → ends_at m (i + length rs) r ≡ false → NoneEnds memcached_text m i (rs ++ r ∷ [])
none_more m i [] r h e = let at : i + 0 ≡ i = omega arith in (subst (λ n. ends_at m n r ≡ false) at e, tt)
none_more m i (x ∷ rs) r h e = let at : i + length (x ∷ rs) ≡ i + 1 + length rs = omega arith in (h.0, none_more m (i + 1) rs r h.1 (subst (λ n. ends_at m n r ≡ false) at e))

last_more : (m : Said) (i : ℕ) (rs : List Answer) (r : Answer) → NoneEnds memcached_text m i rs → ends_at m (i + length rs) r ≡ true → LastEnds memcached_text m i (rs ++ r ∷ [])
last_more m i [] r h e = let at : i + 0 ≡ i = omega arith in subst (λ n. ends_at m n r ≡ true) at e
last_more m i (x ∷ []) r h e = let at : i + length (x ∷ []) ≡ i + 1 + 0 = omega arith in (h.0, last_more m (i + 1) [] r h.1 (subst (λ n. ends_at m n r ≡ true) at e))
last_more m i (x ∷ y ∷ rs) r h e = let at : i + length (x ∷ y ∷ rs) ≡ i + 1 + length (y ∷ rs) = omega arith in (h.0, last_more m (i + 1) (y ∷ rs) r h.1 (subst (λ n. ends_at m n r ≡ true) at e))

whole_by : (m : Said) (rs : List Answer) (r : Answer) → LastEnds memcached_text m 0 (rs ++ r ∷ []) → IsWhole memcached_text m (rs ++ r ∷ [])
whole_by m [] r h = h
whole_by m (x ∷ rs) r h = h

written_is : (m : Said) (rs : List Answer) (r : Answer) → written memcached_text default_version m (rs ++ r ∷ []) ≡ written_from memcached_text m 0 (rs ++ r ∷ [])
written_is m [] r = refl
written_is m (x ∷ rs) r = refl

-- The first asks of the message at a place were answered, if any were, and none of the replies ended it.
record Begun (moment : ℤ) (place : Place) (first : Contents) (count : ℕ) (contents : Contents) (text : List ℕ) : Type 0 where
  replies : List Answer
  count_is : length replies ≡ count
  none : count ≡ 0 → (text ≡ []) × (first ≡ contents)
  some : (said : Said) (next : Place) → ReadsNext place said next
      → AnswersEach moment (asks_in said) first replies contents × NoneEnds memcached_text said 0 replies × (text ≡ written_from memcached_text said 0 replies)

begun_none : (moment : ℤ) (place : Place) (c : Contents) → Begun moment place c 0 c []
begun_none moment place c = record { replies = []; count_is = refl; none = λ e. (refl, refl); some = λ said next reads. (refl, tt, refl) }

same_said : (place : Place) (m n : Said) (p q : Place) → ReadsNext place m p → ReadsNext place n q → m ≡ n
same_said place m n p q a b = (reader_is.one_message place m n p q a b).0

-- one ask more, whose reply doesn't end the message
begun_more : (moment : ℤ) (place place' : Place) (first c d : Contents) (count : ℕ) (text more : List ℕ) → Begun moment place first count c text → AnswersNext moment place count c more false place' d → Begun moment place' first (count + 1) d (text ++ more)
begun_more moment place place' first c d count text more b a =
    subst (λ (p : Place). Begun moment p first (count + 1) d (text ++ more)) (sym a.place_is)
    (let n = b.count_is in
    record {
      replies = b.replies ++ a.reply ∷ [];
      count_is = length-append b.replies (a.reply ∷ []) ∙ omega (arith, n);
      none = λ e. absurd (omega (arith, e));
      some = λ said next reads. answers said next reads (same_said place a.said said a.next next a.reads reads);
    })
  where
    at : (said : Said) → a.said ≡ said → slice_get (asks_in said) (length b.replies) ≡ Some a.ask
    at said same = subst (λ (s : Said). slice_get (asks_in s) (length b.replies) ≡ Some a.ask) same (subst (λ n. slice_get (asks_in a.said) n ≡ Some a.ask) (sym b.count_is) a.at)

    ends : (said : Said) → a.said ≡ said → ends_at said (0 + length b.replies) a.reply ≡ false
    ends said same = let n = b.count_is in let zero : count ≡ 0 + length b.replies = omega (arith, n) in sym (a.ended_is ∙ ap (λ (s : Said). ends_at s count a.reply) same ∙ ap (λ k. ends_at said k a.reply) zero)

    shown : (said : Said) → a.said ≡ said → more ≡ shown_of said (0 + length b.replies) a.reply
    shown said same = let n = b.count_is in let zero : count ≡ 0 + length b.replies = omega (arith, n) in a.text_is ∙ ap (λ (s : Said). shown_of s count a.reply) same ∙ ap (λ k. shown_of said k a.reply) zero

    answers : (said : Said) (next : Place) → ReadsNext place said next → a.said ≡ said
        → AnswersEach moment (asks_in said) first (b.replies ++ a.reply ∷ []) d × NoneEnds memcached_text said 0 (b.replies ++ a.reply ∷ []) × (text ++ more ≡ written_from memcached_text said 0 (b.replies ++ a.reply ∷ []))
    answers said next reads same =
        let before = b.some said next reads in (
          answers_more moment (asks_in said) first c d b.replies a.ask a.reply before.0 (at said same) a.answered,
          none_more said 0 b.replies a.reply before.1 (ends said same),
          ap (λ (l : List ℕ). l ++ more) before.2 ∙ ap (λ (l : List ℕ). written_from memcached_text said 0 b.replies ++ l) (shown said same) ∙ sym (written_more said 0 b.replies a.reply),
        )

-- the reply that ends it
begun_last : (moment : ℤ) (place place' : Place) (first c d : Contents) (count : ℕ) (text more : List ℕ) → Begun moment place first count c text → AnswersNext moment place count c more true place' d → ServesTo moment place first (text ++ more) place' d
begun_last moment place place' first c d count text more b a =
    let before = b.some a.said a.next a.reads in
    let n = b.count_is in
    let zero : count ≡ 0 + length b.replies = omega (arith, n) in
    let replies : List Answer = b.replies ++ a.reply ∷ [] in
    let done : Done memcached_text = record { message = a.said; replies = replies } in
    let reads : ReadsNext place a.said place' = subst (ReadsNext place a.said) (sym a.place_is) a.reads in
    let at : slice_get (asks_in a.said) (length b.replies) ≡ Some a.ask = subst (λ k. slice_get (asks_in a.said) k ≡ Some a.ask) (sym b.count_is) a.at in
    let ends : ends_at a.said (0 + length b.replies) a.reply ≡ true = sym (a.ended_is ∙ ap (λ k. ends_at a.said k a.reply) zero) in
    let shown : more ≡ shown_of a.said (0 + length b.replies) a.reply = a.text_is ∙ ap (λ k. shown_of a.said k a.reply) zero in
    let all : text ++ more ≡ written memcached_text default_version a.said replies =
    ap (λ (l : List ℕ). l ++ more) before.2 ∙ ap (λ (l : List ℕ). written_from memcached_text a.said 0 b.replies ++ l) shown ∙ sym (written_more a.said 0 b.replies a.reply) ∙ sym (written_is a.said b.replies a.reply) in
    subst (λ (l : List ℕ). ServesTo moment place first l place' d) (sym all)
    (serves_one moment place place' first d done reads (whole_by a.said b.replies a.reply (last_more a.said 0 b.replies a.reply before.1 ends)) (answers_more moment (asks_in a.said) first c d b.replies a.ask a.reply before.0 at a.answered))

-- a message that asks no server
passed : (moment : ℤ) (place place' : Place) (first c : Contents) (count : ℕ) (text more : List ℕ) → Begun moment place first count c text → count ≡ 0 → PassesNext place more place' → ServesTo moment place first (text ++ more) place' c
passed moment place place' first c count text more b zero p =
    let done : Done memcached_text = record { message = p.said; replies = [] } in
    let none = b.none zero in
    subst (λ (l : List ℕ). ServesTo moment place first (l ++ more) place' c) (sym none.0)
    (subst (λ (l : List ℕ). ServesTo moment place first l place' c) (sym p.text_is)
    (subst (λ (x : Contents). ServesTo moment place x (passed_text default_version p.said) place' c) (sym none.1) (serves_one moment place place' c c done p.reads p.asks refl)))

-- after a step the message at the front goes on, or it is done
Further : ℤ → Spot → Contents → Contents → List ℕ → Spot → Type 0
Further moment from first d text to =
    (Begun moment to.place first to.count d text × (to.place ≡ from.place)) ⊎ (ServesTo moment from.place first text to.place d × (to.count ≡ 0))

asks_more : (moment : ℤ) (from to : Spot) (first c d : Contents) (text more : List ℕ) (ended : Bool) → Begun moment from.place first from.count c text → AnswersNext moment from.place from.count c more ended to.place d → to.count ≡ count_by ended from.count → Further moment from first d (text ++ more) to
unfolding Further
asks_more moment from to first c d text more true b a e = inr (begun_last moment from.place to.place first c d from.count text more b a, e)
asks_more moment from to first c d text more false b a e =
    inl (subst (λ n. Begun moment to.place first n d (text ++ more)) (sym e) (begun_more moment from.place to.place first c d from.count text more b a), a.place_is)

step_more : (moment : ℤ) (from to : Spot) (first c d : Contents) (text more : List ℕ) → Begun moment from.place first from.count c text → SpotStep moment from c more to d → Further moment from first d (text ++ more) to
unfolding Further
step_more moment from to first c d text more b (inl s) = asks_more moment from to first c d text more s.0 b s.1 s.2
step_more moment from to first c d text more b (inr s) =
    inr (subst (λ (x : Contents). ServesTo moment from.place first (text ++ more) to.place x) s.2 (passed moment from.place to.place first c from.count text more b s.0 s.3), s.1)

whole_from : (moment : ℤ) (stages : List ServedStep) (from to : Spot) (first c d : Contents) (text : List ℕ) → to.count ≡ 0 → Begun moment from.place first from.count c text → Runs moment from c stages to d → ServesTo moment from.place first (text ++ text_of_steps stages) to.place d
unfolding Further
whole_from moment [] from to first c d text zero b r =
    let none = b.none (ap (λ (s : Spot). s.count) r.0 ∙ zero) in
    subst (λ (l : List ℕ). ServesTo moment from.place first (l ++ []) to.place d) (sym none.0)
    (subst (λ (s : Spot). ServesTo moment from.place first [] s.place d) r.0
    (subst (λ (x : Contents). ServesTo moment from.place first [] from.place x) (none.1 ∙ r.1) (serves_nothing moment from.place first)))
whole_from moment (g ∷ s) from to first c d text zero b r =
    subst (λ (l : List ℕ). ServesTo moment from.place first l to.place d) (append_assoc text g.text (text_of_steps s))
    (elim (step_more moment from g.spot first c g.contents text g.text b r.0) [
      | inl on ↦ subst (λ (p : Place). ServesTo moment p first (text ++ g.text ++ text_of_steps s) to.place d) on.1 (whole_from moment s g.spot to first g.contents d (text ++ g.text) zero on.0 r.1)
      | inr done ↦
          serves_after moment from.place g.spot.place to.place first g.contents d (text ++ g.text) (text_of_steps s) done.0
          (whole_from moment s g.spot to g.contents g.contents d [] zero (subst (λ n. Begun moment g.spot.place g.contents n g.contents []) (sym done.1) (begun_none moment g.spot.place g.contents)) r.1)
    ])

pub whole : StepsAreMessages
whole moment place next old new stages r = whole_from moment stages (at_front place) (at_front next) old old new [] refl (begun_none moment place old) r

pub goes_on : GoesOnAsAtOnce
goes_on moment place next stop old between new s t a b =
    subst (λ (l : List ℕ). ServesTo moment place old l next new) (text_after s t)
    (whole moment place next old new (s ++ t) (runs_after moment (at_front place) stop (at_front next) old between new s t a b))
