use Rattle.std.proofs.Common.{◌≡◌, ℕ, List, [], ◌∙◌, ◌+◌, sym, ap, subst, take, drop, refl, Some, arith}
use Rattle.wire_classic.specs.Asks.{IsClassicAsk}
use Rattle.text_words.specs.Word.{words, text_at, IsNextWord}
use Rattle.mc_types.specs.KeyText.{IsKey}
use Rattle.mc_types.specs.Parts.{ask_of}
use Rattle.mc_types.specs.declared.ask.Ask.{Ask}
use Rattle.std.specs.Option.{option_map}
use Rattle.wire_classic.specs.Asks.{classic_asks_of, retrieval_ask}
use Rattle.wire_classic.specs.Places.{order_in}
use Rattle.wire_classic.specs.Message.{classic_message_in}
use Rattle.wire_classic.proofs.AskLemmas.{found, asks_sound}
use Rattle.wire_classic.proofs.WalkLemmas.{key_there, nth_ask, no_ask, stands, all_taken, next_key, next_place, back_at, first_ask, single_at}
use Rattle.wire_classic.proofs.asking.Asks.next.Goals as goal

pub of-requires : goal.of-requires
of-requires c =
    let at = stands c.args.received.now c.args.self.now.request.command c.in-Retrieval.exptime c.in-Retrieval.with_cas c.in-Retrieval.keys c.args.self.now.at c.args.self.now.taken c.in-Retrieval.is c.requires.place in
    let there = next_key c.args.received.now c.in-Retrieval.keys c.args.self.now.at c.args.self.now.taken c.in-Some.word at (subst (λ (t : List ℕ). IsNextWord t c.args.self.now.at c.in-Some.word) c.front_of-line.ensures c.in-Some.ensures) in
    subst IsKey (sym (ap (λ (a : Ask). a.key) c.retrieved-parts.ensures ∙ c.text_at.ensures ∙ ap (λ (t : List ℕ). text_at t c.in-Some.word) c.front_of-line.ensures)) (key_there c.args.received.now c.args.self.now.request c.in-Retrieval.exptime c.in-Retrieval.with_cas c.in-Retrieval.keys c.args.self.now.taken _ c.requires.read c.in-Retrieval.is there)

pub returns-in-None-clause-value : goal.returns-in-None-clause-value
returns-in-None-clause-value c =
    let at = stands c.args.received.now c.args.self.now.request.command c.in-Retrieval.exptime c.in-Retrieval.with_cas c.in-Retrieval.keys c.args.self.now.at c.args.self.now.taken c.in-Retrieval.is c.requires.place in
    let none = all_taken c.args.received.now c.in-Retrieval.keys c.args.self.now.at c.args.self.now.taken at (subst (λ (t : List ℕ). words (drop c.args.self.now.at t) ≡ []) c.front_of-line.ensures c.in-None.ensures) in
    sym (no_ask c.args.received.now (text_at c.args.received.now c.args.self.now.request.block) c.args.self.now.request.command c.in-Retrieval.exptime c.in-Retrieval.with_cas c.in-Retrieval.keys c.args.self.now.taken c.in-Retrieval.is none)

pub returns-in-Some-clause-value : goal.returns-in-Some-clause-value
returns-in-Some-clause-value c =
    let at = stands c.args.received.now c.args.self.now.request.command c.in-Retrieval.exptime c.in-Retrieval.with_cas c.in-Retrieval.keys c.args.self.now.at c.args.self.now.taken c.in-Retrieval.is c.requires.place in
    let there = next_key c.args.received.now c.in-Retrieval.keys c.args.self.now.at c.args.self.now.taken c.in-Some.word at (subst (λ (t : List ℕ). IsNextWord t c.args.self.now.at c.in-Some.word) c.front_of-line.ensures c.in-Some.ensures) in
    let same : retrieval_ask c.in-Retrieval.exptime c.in-Retrieval.with_cas (text_at (take c.in-Retrieval.keys.span.end c.args.received.now) c.in-Some.word) ≡ c.in_ok-ask-in-Some.ask = ap (retrieval_ask c.in-Retrieval.exptime c.in-Retrieval.with_cas) (sym (c.text_at.ensures ∙ ap (λ (t : List ℕ). text_at t c.in-Some.word) c.front_of-line.ensures)) ∙ sym c.retrieved-parts.ensures ∙ sym c.in_ok-ask-in-Some.ensures in
    sym (nth_ask c.args.received.now (text_at c.args.received.now c.args.self.now.request.block) c.args.self.now.request.command c.in-Retrieval.exptime c.in-Retrieval.with_cas c.in-Retrieval.keys c.args.self.now.taken _ c.in-Retrieval.is there ∙ ap Some same)

pub returns-in-Some-clause-walk : goal.returns-in-Some-clause-walk
returns-in-Some-clause-walk c =
    let at = stands c.args.received.now c.args.self.now.request.command c.in-Retrieval.exptime c.in-Retrieval.with_cas c.in-Retrieval.keys c.args.self.now.at c.args.self.now.taken c.in-Retrieval.is c.requires.place in
    record {
      read = c.requires.read;
      place = back_at c.args.received.now c.args.self.now.request.command c.in-Retrieval.exptime c.in-Retrieval.with_cas c.in-Retrieval.keys c.in-Some.word.end (c.args.self.now.taken + 1) c.in-Retrieval.is (next_place c.args.received.now c.in-Retrieval.keys c.args.self.now.at c.args.self.now.taken c.in-Some.word at (subst (λ (t : List ℕ). IsNextWord t c.args.self.now.at c.in-Some.word) c.front_of-line.ensures c.in-Some.ensures));
    }

pub returns-in-Some-2 : goal.returns-in-Some-2
returns-in-Some-2 c =
    let zero : c.args.self.now.taken ≡ 0 = omega arith in
    let is = sym c.in_ok-single-in_default.ensures ∙ ap (option_map ask_of) c.in-Some-2.is ∙ ap Some (sym c.in_ok-ask-in-Some-2.ensures) in
    let value = first_ask (order_in c.args.received.now c.args.self.now.request.command) (text_at c.args.received.now c.args.self.now.request.block) c.in_ok-ask-in-Some-2.ask c.args.self.now.taken is zero in
    record {
      value = sym value;
      ask = found IsClassicAsk (classic_asks_of (classic_message_in c.args.received.now c.args.self.now.request)) c.args.self.now.taken c.in_ok-ask-in-Some-2.ask (asks_sound c.args.received.now c.args.self.now.request c.requires.read) value;
      taken = omega arith;
      request = refl;
      walk = record { read = c.requires.read; place = single_at c.args.received.now (text_at c.args.received.now c.args.self.now.request.block) c.args.self.now.request.command c.args.self.now.at 1 c.in_ok-ask-in-Some-2.ask is };
      err = tt;
    }

pub returns-in-Some-clause-ask : goal.returns-in-Some-clause-ask
returns-in-Some-clause-ask c = found IsClassicAsk (classic_asks_of (classic_message_in c.args.received.now c.args.self.now.request)) c.args.self.now.taken c.in_ok-ask-in-Some.ask (asks_sound c.args.received.now c.args.self.now.request c.requires.read) (sym (returns-in-Some-clause-value c))

pub of-requires-in-Some-2 : goal.of-requires-in-Some-2
of-requires-in-Some-2 c =
    let zero : c.args.self.now.taken ≡ 0 = omega arith in
    let is = sym c.in_ok-single-in_default.ensures ∙ ap (option_map ask_of) c.in-Some-2.is in
    let value = first_ask (order_in c.args.received.now c.args.self.now.request.command) (text_at c.args.received.now c.args.self.now.request.block) (ask_of c.in-Some-2.parts) c.args.self.now.taken is zero in
    (found IsClassicAsk (classic_asks_of (classic_message_in c.args.received.now c.args.self.now.request)) c.args.self.now.taken (ask_of c.in-Some-2.parts) (asks_sound c.args.received.now c.args.self.now.request c.requires.read) value).well_formed.key
