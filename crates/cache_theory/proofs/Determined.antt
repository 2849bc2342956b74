-- Where memory suffices, one way of serving there is.
use Rattle.std.proofs.Common.{◌≡◌, ◌≢◌, ℕ, ℤ, ◌+◌, true, false, List, [], ◌∷◌, ◌++◌, inl, inr, refl, sym, ap, ap₂, ◌∙◌, subst}
use Rattle.mc_types.specs.declared.ask.Ask.{Ask}
use Rattle.mc_types.specs.declared.answer.Answer.{Answer}
use Rattle.fresh_runs.specs.Protocol.{Goes, IsStuck}
use Rattle.fresh_runs.specs.Stream.{Done, AreWhole, IsWhole, LastEnds, written, written_all}
use Rattle.wire_parts.specs.Stream.{Place, Closed, extended}
use Rattle.wire_stream.specs.TextProtocol.{Said, memcached_text, ends_at, asks_in}
use Rattle.wire_stream.proofs.ReaderLaws.{reader_is}
use Rattle.wire_stream.specs.Version.{default_version}
use Rattle.cache_server.specs.Contents.{Contents}
use Rattle.cache_tcp.specs.ConnectionServing.{out_of_memory, AnswersAsk, AnswersEach, ServesEach}
use Rattle.cache_theory.specs.Laws.{NothingAfterEnd, NoneWants, AllHadMemory, FeedIsDetermined}
use Rattle.cache_theory.proofs.ConnectionJoined.{messages}

ask_once : (moment : ℤ) (ask : Ask) (old c d : Contents) (r s : Answer) → AnswersAsk moment ask old r c → AnswersAsk moment ask old s d → r ≢ out_of_memory → s ≢ out_of_memory → (r ≡ s) × (c ≡ d)
ask_once moment ask old c d r s (inl a) (inl b) m n = (a.1.answer_is ∙ sym b.1.answer_is, a.1.contents ∙ sym b.1.contents)
ask_once moment ask old c d r s (inr a) b m n = absurd (m a.answer_is)
ask_once moment ask old c d r s (inl a) (inr b) m n = absurd (n b.answer_is)

both : (said : Said) (i : ℕ) (r s : Answer) → r ≡ s → ends_at said i r ≡ true → ends_at said i s ≡ false → ⊥
both said i r s same ends goes = different (sym ends ∙ ap (ends_at said i) same ∙ goes)
  where
    different : true ≡ false → ⊥
    different e = cc

asks_once : (moment : ℤ) (said : Said) (i : ℕ) (asks : List Ask) (old c d : Contents) (rs ss : List Answer) → AnswersEach moment asks old rs c → AnswersEach moment asks old ss d → NoneWants rs → NoneWants ss → LastEnds memcached_text said i rs → LastEnds memcached_text said i ss → (rs ≡ ss) × (c ≡ d)
asks_once moment said i asks old c d [] ss a b m n f g = absurd f
asks_once moment said i [] old c d (r ∷ rs) ss a b m n f g = absurd a
asks_once moment said i (x ∷ asks) old c d (r ∷ rs) [] a b m n f g = absurd g
asks_once moment said i (x ∷ asks) old c d (r ∷ []) (s ∷ []) a b m n f g =
    let one = ask_once moment x old a.0 b.0 r s a.1 b.1 m.0 n.0 in
    (ap (λ (y : Answer). y ∷ []) one.0, sym a.2 ∙ one.1 ∙ b.2)
asks_once moment said i (x ∷ asks) old c d (r ∷ []) (s ∷ t ∷ ss) a b m n f g =
    absurd (both said i r s (ask_once moment x old a.0 b.0 r s a.1 b.1 m.0 n.0).0 f g.0)
asks_once moment said i (x ∷ asks) old c d (r ∷ q ∷ rs) (s ∷ []) a b m n f g =
    absurd (both said i s r (sym (ask_once moment x old a.0 b.0 r s a.1 b.1 m.0 n.0).0) g f.0)
asks_once moment said i (x ∷ asks) old c d (r ∷ q ∷ rs) (s ∷ t ∷ ss) a b m n f g =
    let one = ask_once moment x old a.0 b.0 r s a.1 b.1 m.0 n.0 in
    let more = asks_once moment said (i + 1) asks a.0 c d (q ∷ rs) (t ∷ ss) a.2 (subst (λ (y : Contents). AnswersEach moment asks y (t ∷ ss) d) (sym one.1) b.2) m.1 n.1 f.1 g.1 in
    (ap₂ (λ (y : Answer) (ys : List Answer). y ∷ ys) one.0 more.0, more.1)

message_once : (moment : ℤ) (said : Said) (old c d : Contents) (rs ss : List Answer) → AnswersEach moment (asks_in said) old rs c → AnswersEach moment (asks_in said) old ss d → NoneWants rs → NoneWants ss → IsWhole memcached_text said rs → IsWhole memcached_text said ss → (rs ≡ ss) × (c ≡ d)
message_once moment said old c d [] [] a b m n f g = (refl, sym a ∙ b)
message_once moment said old c d [] (s ∷ ss) a b m n f g = absurd (subst (λ (asks : List Ask). AnswersEach moment asks old (s ∷ ss) d) f b)
message_once moment said old c d (r ∷ rs) [] a b m n f g = absurd (subst (λ (asks : List Ask). AnswersEach moment asks old (r ∷ rs) c) g a)
message_once moment said old c d (r ∷ rs) (s ∷ ss) a b m n f g = asks_once moment said 0 (asks_in said) old c d (r ∷ rs) (s ∷ ss) a b m n f g

all_once : (moment : ℤ) (place p q : Place) (old c d : Contents) (ds es : List (Done memcached_text)) → Goes memcached_text place (messages ds) p → Goes memcached_text place (messages es) q → IsStuck memcached_text p → IsStuck memcached_text q
    → AreWhole memcached_text ds → AreWhole memcached_text es → ServesEach moment old ds c → ServesEach moment old es d → AllHadMemory ds → AllHadMemory es → (written_all memcached_text default_version ds ≡ written_all memcached_text default_version es) × (p ≡ q) × (c ≡ d)
all_once moment place p q old c d [] [] g h u v w x a b m n = (refl, sym g ∙ h, sym a ∙ b)
all_once moment place p q old c d [] (e ∷ es) g h u v w x a b m n = absurd (subst (IsStuck memcached_text) (sym g) u e.message h.0 h.1)
all_once moment place p q old c d (e ∷ ds) [] g h u v w x a b m n = absurd (subst (IsStuck memcached_text) (sym h) v e.message g.0 g.1)
all_once moment place p q old c d (e ∷ ds) (f ∷ es) g h u v w x a b m n =
    let same = reader_is.one_message place e.message f.message g.0 h.0 g.1 h.1 in
    let one = message_once moment e.message old a.0 b.0 e.replies f.replies a.1 (subst (λ (y : Said). AnswersEach moment (asks_in y) old f.replies b.0) (sym same.0) b.1) m.0 n.0
    w.0 (subst (λ (y : Said). IsWhole memcached_text y f.replies) (sym same.0) x.0) in
    let more = all_once moment g.0 p q a.0 c d ds es g.2 (subst (λ (y : Place). Goes memcached_text y (messages es) q) (sym same.1) h.2) u v w.1 x.1 a.2 (subst (λ (y : Contents). ServesEach moment y es d) (sym one.1) b.2) m.1 n.1 in
    let text : written memcached_text default_version e.message e.replies ≡ written memcached_text default_version f.message f.replies = ap₂ (λ (y : Said) (rs : List Answer). written memcached_text default_version y rs) same.0 one.0 in
    (ap₂ (λ (k l : List ℕ). k ++ l) text more.0, more.1, more.2)

pub determined : FeedIsDetermined
determined moment place p q bytes s t old c d a b m n =
    let once = all_once moment (extended place bytes) p q old c d a.serves.done b.serves.done a.serves.goes b.serves.goes a.stuck b.stuck a.serves.whole b.serves.whole a.serves.served b.serves.served m n in
    (a.serves.text_is ∙ once.0 ∙ sym b.serves.text_is, once.1, once.2)

none_after : (moment : ℤ) (next : Place) (old new : Contents) (ds : List (Done memcached_text)) → Goes memcached_text Closed (messages ds) next → ServesEach moment old ds new → (written_all memcached_text default_version ds ≡ []) × (next ≡ Closed) × (new ≡ old)
none_after moment next old new [] g s = (refl, sym g, sym s)
none_after moment next old new (d ∷ ds) g s = absurd g.1

pub after_end : NothingAfterEnd
after_end moment next bytes text old new a =
    let none = none_after moment next old new a.serves.done a.serves.goes a.serves.served in
    (a.serves.text_is ∙ none.0, none.1, none.2)
