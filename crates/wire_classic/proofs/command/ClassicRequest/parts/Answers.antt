use Rattle.std.proofs.Common.{◌≡◌, ℕ, List, ◌∙◌, sym, ap, subst, take, drop, Some, None}
use Rattle.std.specs.Prelude.{slice_get}
use Rattle.std.specs.Option.{option_map}
use Rattle.wire_classic.specs.Asks.{IsClassicAsk}
use Rattle.text_words.specs.Word.{words, text_at}
use Rattle.mc_types.specs.Parts.{ask_of}
use Rattle.wire_classic.specs.Asks.{classic_asks_of, retrieval_ask}
use Rattle.wire_classic.specs.Places.{order_in, keys_in}
use Rattle.wire_classic.specs.Message.{classic_message_in}
use Rattle.wire_classic.proofs.AskLemmas.{keys_line, found, asks_sound}
use Rattle.wire_classic.proofs.WalkLemmas.{nth_ask, no_ask, inside, only_there, only_ask, lies}
use Rattle.wire_classic.proofs.command.ClassicRequest.parts.Goals as goal

pub unreachable-requires : goal.unreachable-requires
unreachable-requires c =
    let at = lies c.args.received.now c.args.self.now c.in-Retrieval.exptime c.in-Retrieval.with_cas c.in-Retrieval.keys c.requires.read c.in-Retrieval.is in
    let none : slice_get (keys_in c.args.received.now c.in-Retrieval.keys) c.args.i ≡ None = ap (λ ks. slice_get ks c.args.i) (sym (keys_line c.args.received.now c.in-Retrieval.keys at.span)) ∙ sym (subst (λ (t : List ℕ). None ≡ slice_get (words (drop c.in-Retrieval.keys.span.start t)) c.args.i) c.front_of-line.ensures c.in-None.ensures.value) in
    inside (classic_asks_of (classic_message_in c.args.received.now c.args.self.now)) c.args.i c.requires.there (no_ask c.args.received.now (text_at c.args.received.now c.args.self.now.block) c.args.self.now.command c.in-Retrieval.exptime c.in-Retrieval.with_cas c.in-Retrieval.keys c.args.i c.in-Retrieval.is none)

pub returns-in-Some-clause-value : goal.returns-in-Some-clause-value
returns-in-Some-clause-value c =
    let at = lies c.args.received.now c.args.self.now c.in-Retrieval.exptime c.in-Retrieval.with_cas c.in-Retrieval.keys c.requires.read c.in-Retrieval.is in
    let there : slice_get (keys_in c.args.received.now c.in-Retrieval.keys) c.args.i ≡ Some (text_at (take c.in-Retrieval.keys.span.end c.args.received.now) c.in-Some.word) = ap (λ ks. slice_get ks c.args.i) (sym (keys_line c.args.received.now c.in-Retrieval.keys at.span)) ∙ sym (subst (λ (t : List ℕ). Some (text_at t c.in-Some.word) ≡ slice_get (words (drop c.in-Retrieval.keys.span.start t)) c.args.i) c.front_of-line.ensures c.in-Some.ensures.value) in
    let same : retrieval_ask c.in-Retrieval.exptime c.in-Retrieval.with_cas (text_at (take c.in-Retrieval.keys.span.end c.args.received.now) c.in-Some.word) ≡ ask_of c.retrieved-in-Some.result = ap (retrieval_ask c.in-Retrieval.exptime c.in-Retrieval.with_cas) (sym (c.text_at.ensures ∙ ap (λ (t : List ℕ). text_at t c.in-Some.word) c.front_of-line.ensures)) ∙ sym c.retrieved-in-Some.ensures in
    nth_ask c.args.received.now (text_at c.args.received.now c.args.self.now.block) c.args.self.now.command c.in-Retrieval.exptime c.in-Retrieval.with_cas c.in-Retrieval.keys c.args.i _ c.in-Retrieval.is there ∙ ap Some same

pub returns-in-Some-2 : goal.returns-in-Some-2
returns-in-Some-2 c =
    let value : slice_get (classic_asks_of (classic_message_in c.args.received.now c.args.self.now)) c.args.i ≡ Some (ask_of c.in-Some-2.parts) = only_ask (order_in c.args.received.now c.args.self.now.command) (text_at c.args.received.now c.args.self.now.block) (ask_of c.in-Some-2.parts) c.args.i (sym c.in_ok-parts-in_default.ensures ∙ ap (option_map ask_of) c.in-Some-2.is) c.requires.there in
    record { value = value; ask = found IsClassicAsk (classic_asks_of (classic_message_in c.args.received.now c.args.self.now)) c.args.i (ask_of c.in-Some-2.parts) (asks_sound c.args.received.now c.args.self.now c.requires.read) value }

pub returns-in-Some-clause-ask : goal.returns-in-Some-clause-ask
returns-in-Some-clause-ask c = found IsClassicAsk (classic_asks_of (classic_message_in c.args.received.now c.args.self.now)) c.args.i (ask_of c.retrieved-in-Some.result) (asks_sound c.args.received.now c.args.self.now c.requires.read) (returns-in-Some-clause-value c)

pub returns-then-keys-eq1-clause-value : goal.returns-then-keys-eq1-clause-value
returns-then-keys-eq1-clause-value c =
    let bytes = c.args.received.now in let keys = c.in-Retrieval.keys in let block = text_at c.args.received.now c.args.self.now.block in
    let at = lies bytes c.args.self.now c.in-Retrieval.exptime c.in-Retrieval.with_cas keys c.requires.read c.in-Retrieval.is in
    let there = only_there (text_at bytes keys.span) (keys_in bytes keys) c.args.i (at.alone c.if-keys-eq1.true)
    (λ none. inside (classic_asks_of (classic_message_in bytes c.args.self.now)) c.args.i c.requires.there (no_ask bytes block c.args.self.now.command c.in-Retrieval.exptime c.in-Retrieval.with_cas keys c.args.i c.in-Retrieval.is none)) in
    let same : retrieval_ask c.in-Retrieval.exptime c.in-Retrieval.with_cas (text_at bytes keys.span) ≡ ask_of c.retrieved.result = ap (retrieval_ask c.in-Retrieval.exptime c.in-Retrieval.with_cas) (sym c.key_in.ensures) ∙ sym c.retrieved.ensures in
    nth_ask bytes block c.args.self.now.command c.in-Retrieval.exptime c.in-Retrieval.with_cas keys c.args.i _ c.in-Retrieval.is there ∙ ap Some same

pub returns-then-keys-eq1-clause-ask : goal.returns-then-keys-eq1-clause-ask
returns-then-keys-eq1-clause-ask c = found IsClassicAsk (classic_asks_of (classic_message_in c.args.received.now c.args.self.now)) c.args.i (ask_of c.retrieved.result) (asks_sound c.args.received.now c.args.self.now c.requires.read) (returns-then-keys-eq1-clause-value c)
