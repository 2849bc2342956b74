-- A message at the front that asks no server was answered and is done.
use Rattle.std.proofs.Common.{◌≡◌, ℕ, List, [], ◌++◌, drop, Option, refl, sym, ap, ◌∙◌, subst}
use Rattle.wire_parts.specs.declared.proxy_command.ProxyCommand.{ProxyCommand}
use Rattle.wire_parts.specs.declared.refusal.RefusalReason.{RefusalReason}
use Rattle.wire_parts.specs.declared.refusal.RefusalReason.TheVariants.{Unknown}
use Rattle.wire_parts.specs.declared.skip.Skip.{Skip}
use Rattle.wire_parts.specs.declared.skip.Skip.TheVariants.{Nothing}
use Rattle.wire_parts.specs.Message.{Refusal}
use Rattle.wire_parts.specs.Stream.{Place, Stands, Closed, skipped, after_own}
use Rattle.wire_stream.specs.declared.requests.reader.Read.TheVariants as reads
use Rattle.wire_stream.specs.declared.requests.request.Request.{Request}
use Rattle.wire_stream.specs.declared.requests.request.Request.TheVariants.{Classic, Meta}
use Rattle.wire_stream.specs.Message.{AnyMessage, message_in, used_of}
use Rattle.wire_stream.specs.Asks.{asks_of, own_of}
use Rattle.wire_stream.specs.Stream.{after_any}
use Rattle.wire_stream.specs.Held.{bytes_at, IsReadAt}
use Rattle.wire_stream.specs.Replies.{refusal_text, long_line_text}
use Rattle.wire_stream.specs.TextProtocol.{Said, Whole, LongLine, OtherProtocol, ReadsNext, own_passed, asks_in, passed_text}
use Rattle.wire_stream.specs.declared.connection.front.Passed.TheVariants.{Own, Refused}
use Rattle.wire_stream.specs.Fronts.{PassesMessage, told_of}
use Rattle.wire_stream.proofs.Fronts.{read_front, refused_is_some, long_is_some, other_is_some, front_is, reads_front}
use Rattle.wire_stream.proofs.ConnectionRequests.{own_next, own_text}

passes : (version : List ℕ) (old new : Place) (output output' : List ℕ) (message : Said) (next : Place) → ReadsNext old message next → asks_in message ≡ [] → new ≡ next → output' ≡ output ++ passed_text version message → PassesMessage version old output (told_of message) new output'
passes version old new output output' message next reads asks place_is output_is = record { message = message; next = next; reads = reads; asks = asks; place_is = place_is; output_is = output_is; told = refl }

-- a line that is too long
pub long_line_passed : (version : List ℕ) (old new : Place) (output output' : List ℕ) → IsReadAt old reads.TooLong → new ≡ Closed → output' ≡ output ++ long_line_text → PassesMessage version old output Refused new output'
long_line_passed version old new output output' is place_is output_is =
    let f = read_front old reads.TooLong is long_is_some in
    passes version old new output output' LongLine Closed (subst (λ (p : Place). ReadsNext p LongLine Closed) (sym f.1) (f.2.0, refl, f.2.1)) refl place_is output_is

-- what is of another protocol
pub other_passed : (version : List ℕ) (old new : Place) (output output' : List ℕ) → IsReadAt old reads.OtherProtocol → new ≡ Closed → output' ≡ output ++ refusal_text Unknown → PassesMessage version old output Refused new output'
other_passed version old new output output' is place_is output_is =
    let f = read_front old reads.OtherProtocol is other_is_some in
    passes version old new output output' OtherProtocol Closed (subst (λ (p : Place). ReadsNext p OtherProtocol Closed) (sym f.1) (f.2, refl)) refl place_is output_is

-- a refused message
pub refused_passed : (version : List ℕ) (old new : Place) (output output' : List ℕ) (why : RefusalReason) (used : ℕ) (skip : Skip) → IsReadAt old (reads.Refused why used skip)
    → ((held : List ℕ) → old ≡ Stands Nothing held → new ≡ skipped skip (drop used held)) → output' ≡ output ++ refusal_text why → PassesMessage version old output Refused new output'
refused_passed version old new output output' why used skip is goes output_is =
    let f = read_front old (reads.Refused why used skip) is (refused_is_some why used skip) in
    let next : Place = skipped skip (drop used f.0) in
    passes version old new output output' (Whole (Refusal why skip)) next (subst (λ (p : Place). ReadsNext p (Whole (Refusal why skip)) next) (sym f.1) (used, f.2.0, refl, f.2.1)) refl (goes f.0 f.1) output_is

told_own : (held : List ℕ) (request : Request) → told_of (Whole (message_in held request)) ≡ Own
told_own held (Classic r) = refl
told_own held (Meta r) = refl

-- what mcgate itself was asked
pub own_passed_by : (version : List ℕ) (old new : Place) (output output' : List ℕ) (request : Request) (own : Option ProxyCommand) (used : ℕ) → IsReadAt old (reads.Request request) → asks_of (message_in (bytes_at old) request) ≡ []
    → used ≡ used_of request → own ≡ own_of (message_in (bytes_at old) request)
    → ((held : List ℕ) → old ≡ Stands Nothing held → new ≡ after_own own (drop used held)) → output' ≡ output ++ own_passed version own → PassesMessage version old output Own new output'
own_passed_by version old new output output' request own used is asks used_is own_is goes output_is =
    let front = front_is old request is in
    let held = bytes_at old in
    let m : AnyMessage = message_in held request in
    let rest : List ℕ = drop (used_of request) held in
    let next : after_own own (drop used held) ≡ after_any m rest = ap (λ n. after_own own (drop n held)) used_is ∙ ap (λ (o : Option ProxyCommand). after_own o rest) own_is ∙ own_next held request rest in
    let text : own_passed version own ≡ passed_text version (Whole m) = ap (own_passed version) own_is ∙ own_text version held request in
    subst (λ p. PassesMessage version old output p new output') (told_own held request)
    (passes version old new output output' (Whole m) (after_any m rest) (reads_front old request front) asks (goes held front.stands ∙ next) (output_is ∙ ap (λ (l : List ℕ). output ++ l) text))
