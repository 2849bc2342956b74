-- A classic get and its meta form are decided alike, and their answers say the same.
use Rattle.std.proofs.Common.{◌≡◌, ℕ, true, false, Bool, Option, Some, None, refl, sym, ap, ◌∙◌, subst}
use Rattle.mc_types.specs.declared.ask.Ask.{Ask}
use Rattle.mc_types.specs.declared.ask.Op.{Op}
use Rattle.mc_types.specs.declared.ask.Op.TheVariants.{Get, Gat, Set, Add, Replace, Append, Prepend, Cas, Delete, Incr, Decr, Touch}
use Rattle.mc_types.specs.declared.ask.Dialect.{Dialect}
use Rattle.mc_types.specs.declared.ask.Dialect.TheVariants.{Classic, Meta}
use Rattle.wire_stream.specs.Replies.{shows_values}
use Rattle.cache_server.specs.declared.item.Entry.{Entry}
use Rattle.cache_server.specs.declared.decision.Decision.{Decision}
use Rattle.cache_server.specs.Contents.{entry_held}
use Rattle.cache_server.specs.Table.{where_absent, where_held, decided, settled, decided_in, entry_changed, left_by, meta_answer, classic_answer, answer_in}
use Rattle.wire_stream.specs.Form.{is_retrieval, wanted, meta_form}
use Rattle.wire_stream.specs.Reading.{SaysSame}
use Rattle.cache_theory.specs.Alike.{MetaGetsAreServedAlike}

absent_alike : (dialect : Dialect) (op : Op) (now stamp : ℕ) (ask : Ask) → shows_values dialect op ≡ true → where_absent now stamp (meta_form ask) op ≡ where_absent now stamp ask op
absent_alike Classic Get now stamp ask e = refl
absent_alike Classic Gat now stamp ask e = refl
absent_alike Classic Set now stamp ask e = absurd cc
absent_alike Classic Add now stamp ask e = absurd cc
absent_alike Classic Replace now stamp ask e = absurd cc
absent_alike Classic Append now stamp ask e = absurd cc
absent_alike Classic Prepend now stamp ask e = absurd cc
absent_alike Classic Cas now stamp ask e = absurd cc
absent_alike Classic Delete now stamp ask e = absurd cc
absent_alike Classic Incr now stamp ask e = absurd cc
absent_alike Classic Decr now stamp ask e = absurd cc
absent_alike Classic Touch now stamp ask e = absurd cc
absent_alike Meta op now stamp ask e = absurd cc

held_alike : (dialect : Dialect) (op : Op) (now stamp : ℕ) (ask : Ask) (entry : Entry) → shows_values dialect op ≡ true → where_held now stamp (meta_form ask) entry op ≡ where_held now stamp ask entry op
held_alike Classic Get now stamp ask entry e = refl
held_alike Classic Gat now stamp ask entry e = refl
held_alike Classic Set now stamp ask entry e = absurd cc
held_alike Classic Add now stamp ask entry e = absurd cc
held_alike Classic Replace now stamp ask entry e = absurd cc
held_alike Classic Append now stamp ask entry e = absurd cc
held_alike Classic Prepend now stamp ask entry e = absurd cc
held_alike Classic Cas now stamp ask entry e = absurd cc
held_alike Classic Delete now stamp ask entry e = absurd cc
held_alike Classic Incr now stamp ask entry e = absurd cc
held_alike Classic Decr now stamp ask entry e = absurd cc
held_alike Classic Touch now stamp ask entry e = absurd cc
held_alike Meta op now stamp ask entry e = absurd cc

decided_alike : (now stamp : ℕ) (ask : Ask) (entry : Option Entry) → is_retrieval ask ≡ true → decided now stamp (meta_form ask) entry ≡ decided now stamp ask entry
decided_alike now stamp ask None e = absent_alike ask.dialect ask.op now stamp ask e
decided_alike now stamp ask (Some entry) e = held_alike ask.dialect ask.op now stamp ask entry e

-- what the server tells of its decision says the same as the classic answer
abbrev TellsSame : ℕ → Bool → ℕ → Option Entry → Decision → Type 0
TellsSame now with_cas counter entry decision =
    SaysSame (meta_answer now (wanted with_cas) (left_by counter entry (settled counter decision).change) (settled counter decision).verdict) (classic_answer with_cas (settled counter decision).verdict)

absent_told : (dialect : Dialect) (op : Op) (now stamp counter : ℕ) (ask : Ask) (with_cas : Bool) → shows_values dialect op ≡ true → TellsSame now with_cas counter None (where_absent now stamp ask op)
absent_told Classic Get now stamp counter ask with_cas e = refl
absent_told Classic Gat now stamp counter ask with_cas e = refl
absent_told Classic Set now stamp counter ask with_cas e = absurd cc
absent_told Classic Add now stamp counter ask with_cas e = absurd cc
absent_told Classic Replace now stamp counter ask with_cas e = absurd cc
absent_told Classic Append now stamp counter ask with_cas e = absurd cc
absent_told Classic Prepend now stamp counter ask with_cas e = absurd cc
absent_told Classic Cas now stamp counter ask with_cas e = absurd cc
absent_told Classic Delete now stamp counter ask with_cas e = absurd cc
absent_told Classic Incr now stamp counter ask with_cas e = absurd cc
absent_told Classic Decr now stamp counter ask with_cas e = absurd cc
absent_told Classic Touch now stamp counter ask with_cas e = absurd cc
absent_told Meta op now stamp counter ask with_cas e = absurd cc

held_told : (dialect : Dialect) (op : Op) (now stamp counter : ℕ) (ask : Ask) (with_cas : Bool) (entry : Entry) → shows_values dialect op ≡ true → TellsSame now with_cas counter (Some entry) (where_held now stamp ask entry op)
held_told Classic Get now stamp counter ask true entry e = (entry.item.flags, entry.item.body, refl, refl, refl)
held_told Classic Get now stamp counter ask false entry e = (entry.item.flags, entry.item.body, refl, refl, refl)
held_told Classic Gat now stamp counter ask true entry e = (entry.item.flags, entry.item.body, refl, refl, refl)
held_told Classic Gat now stamp counter ask false entry e = (entry.item.flags, entry.item.body, refl, refl, refl)
held_told Classic Set now stamp counter ask with_cas entry e = absurd cc
held_told Classic Add now stamp counter ask with_cas entry e = absurd cc
held_told Classic Replace now stamp counter ask with_cas entry e = absurd cc
held_told Classic Append now stamp counter ask with_cas entry e = absurd cc
held_told Classic Prepend now stamp counter ask with_cas entry e = absurd cc
held_told Classic Cas now stamp counter ask with_cas entry e = absurd cc
held_told Classic Delete now stamp counter ask with_cas entry e = absurd cc
held_told Classic Incr now stamp counter ask with_cas entry e = absurd cc
held_told Classic Decr now stamp counter ask with_cas entry e = absurd cc
held_told Classic Touch now stamp counter ask with_cas entry e = absurd cc
held_told Meta op now stamp counter ask with_cas entry e = absurd cc

told_alike : (now stamp counter : ℕ) (ask : Ask) (entry : Option Entry) → is_retrieval ask ≡ true → TellsSame now ask.with_cas counter entry (decided now stamp ask entry)
told_alike now stamp counter ask None e = absent_told ask.dialect ask.op now stamp counter ask ask.with_cas e
told_alike now stamp counter ask (Some entry) e = held_told ask.dialect ask.op now stamp counter ask ask.with_cas entry e

-- of a classic get the answer is the classic one
classic_is : (dialect : Dialect) (now : ℕ) (ask : Ask) (counter : ℕ) (entry : Option Entry) (decision : Decision) → shows_values dialect ask.op ≡ true → answer_in dialect now ask counter entry decision ≡ classic_answer ask.with_cas decision.verdict
classic_is Classic now ask counter entry decision e = refl
classic_is Meta now ask counter entry decision e = absurd cc

pub served_alike : MetaGetsAreServedAlike
served_alike now stamp ask old new told found e serves =
    let entry = entry_held old ask.key in
    let same : decided_in now stamp (meta_form ask) old ≡ decided_in now stamp ask old = ap (settled old.counter) (decided_alike now stamp ask entry e) in
    let answer = classic_answer ask.with_cas (decided_in now stamp ask old).verdict in
    let said = told_alike now stamp old.counter ask entry e in
    let told_is : told ≡ meta_answer now (wanted ask.with_cas) (left_by old.counter entry (decided_in now stamp ask old).change) (decided_in now stamp ask old).verdict =
    serves.answer_is ∙ ap (λ (d : Decision). meta_answer now (wanted ask.with_cas) (left_by old.counter entry d.change) d.verdict) same in (
      answer,
      record {
        answer_is = sym (classic_is ask.dialect now ask old.counter entry (decided_in now stamp ask old) e);
        found_is = serves.found_is;
        contents = serves.contents ∙ ap (λ (d : Decision). entry_changed old ask.key d.change) same;
      },
      subst (λ x. SaysSame x answer) (sym told_is) said,
    )
