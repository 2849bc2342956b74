-- What stands at the front of a connection's stream, and where it stands after it.
use Rattle.std.proofs.Common.{◌≡◌, ℕ, ◌≤◌, List, length, drop, Some, refl, sym, ap, ◌∙◌, subst, slice_get}
use Rattle.text_words.specs.Word.{text_at}
use Rattle.mc_types.specs.declared.ask.Ask.{Ask}
use Rattle.fresh_runs.specs.Protocol.{IsStuck}
use Rattle.wire_parts.specs.declared.refusal.RefusalReason.{RefusalReason}
use Rattle.wire_parts.specs.declared.skip.Skip.{Skip}
use Rattle.wire_parts.specs.declared.skip.Skip.TheVariants.{Nothing, Bytes, ThroughNewline}
use Rattle.wire_parts.specs.Message.{Refusal}
use Rattle.wire_parts.specs.Stream.{Place, Stands, Closed, after_own}
use Rattle.wire_parts.proofs.Streams.{used_within}
use Rattle.wire_classic.specs.Places as texts
use Rattle.wire_classic.specs.Order.{Retrieval, Storage, Swapping, Deletion, Touching, Counting, OfItself}
use Rattle.wire_meta.specs.Order as metas
use Rattle.wire_meta.specs.Places as meta_places
use Rattle.wire_stream.specs.declared.requests.reader.Read.{Read}
use Rattle.wire_stream.specs.declared.requests.reader.Read.TheVariants as reads
use Rattle.wire_stream.specs.declared.requests.request.Request.{Request}
use Rattle.wire_stream.specs.declared.requests.request.Request.TheVariants as requests
use Rattle.wire_stream.specs.Both.{AnyOrder, Classic, Meta, both_grammar, own_by}
use Rattle.wire_stream.specs.OtherProtocol.{IsText}
use Rattle.wire_stream.specs.Message.{AnyMessage, Reads, IsReadFrom, message_in, used_of}
use Rattle.wire_stream.specs.Asks.{asks_by}
use Rattle.wire_stream.specs.Stream.{after_any}
use Rattle.wire_stream.specs.Held.{bytes_at, IsReadAt}
use Rattle.wire_stream.specs.TextProtocol.{Whole, LongLine, OtherProtocol, ReadsNext, memcached_text}
use Rattle.wire_stream.specs.Fronts.{RequestIsFront}
use Rattle.wire_stream.proofs.OtherProtocols.{served_text}

-- where a reader stands after a request
abbrev after_order : AnyOrder → List ℕ → Place
after_order order rest = after_own (own_by order) rest

-- a request with an ask is no `quit`: after it the stream goes on
pub served_after : (order : AnyOrder) (block rest : List ℕ) (i : ℕ) (ask : Ask) → slice_get (asks_by order block) i ≡ Some ask → after_order order rest ≡ Stands Nothing rest
served_after (Classic (OfItself own)) block rest i ask e = absurd (cc)
served_after (Classic (Retrieval exptime with_cas keys)) block rest i ask e = refl
served_after (Classic (Storage kind stored quiet)) block rest i ask e = refl
served_after (Classic (Swapping stored cas quiet)) block rest i ask e = refl
served_after (Classic (Deletion key quiet)) block rest i ask e = refl
served_after (Classic (Touching key exptime quiet)) block rest i ask e = refl
served_after (Classic (Counting up key delta quiet)) block rest i ask e = refl
served_after (Meta (metas.OfItself own)) block rest i ask e = absurd (cc)
served_after (Meta (metas.Asking kind key n flags)) block rest i ask e = refl

-- where something is read, the stream stands before it
pub read_front : (place : Place) (read : Read) → IsReadAt place read → (read ≡ reads.More → ⊥) → (held : List ℕ) × (place ≡ Stands Nothing held) × Reads held read
read_front (Stands Nothing held) read is some = (held, refl, is)
read_front (Stands (Bytes n) held) read is some = absurd (some is)
read_front (Stands ThroughNewline held) read is some = absurd (some is)
read_front Closed read is some = absurd (some is)

pub request_is_some : (request : Request) → reads.Request request ≡ reads.More → ⊥
request_is_some request e = cc

pub refused_is_some : (why : RefusalReason) (used : ℕ) (skip : Skip) → reads.Refused why used skip ≡ reads.More → ⊥
refused_is_some why used skip e = cc

pub long_is_some : reads.TooLong ≡ reads.More → ⊥
long_is_some e = cc

pub other_is_some : reads.OtherProtocol ≡ reads.More → ⊥
other_is_some e = cc

-- where nothing is read, no message is there
pub more_stuck : (place : Place) → IsReadAt place reads.More → IsStuck memcached_text place
more_stuck (Stands Nothing held) is (Whole message) next r = is.1 message r.0 r.1
more_stuck (Stands Nothing held) is LongLine next r = is.0 r.0
more_stuck (Stands Nothing held) is OtherProtocol next r = is.2 r.0
more_stuck (Stands (Bytes n) held) is said next r = r
more_stuck (Stands ThroughNewline held) is said next r = r
more_stuck Closed is said next r = r

-- a request that was read stands at the front
pub front_is : (place : Place) (request : Request) → IsReadAt place (reads.Request request) → RequestIsFront place request
front_is place request is =
    let f = read_front place (reads.Request request) is (request_is_some request) in
    let held : f.0 ≡ bytes_at place = sym (ap bytes_at f.1) in
    record {
      stands = f.1 ∙ ap (λ (l : List ℕ). Stands Nothing l) held;
      read = subst (λ (l : List ℕ). IsReadFrom l request) held f.2;
    }

-- a request is text
request_text : (held : List ℕ) (request : Request) → IsReadFrom held request → IsText held
request_text held (requests.Classic r) is = served_text held (Classic (texts.order_in held r.command)) (text_at held r.block) r.used is.begins
request_text held (requests.Meta r) is = served_text held (Meta (meta_places.meta_order_in held r.command)) (text_at held r.block) r.used is.begins

-- the request at the front is the next message
pub reads_front : (place : Place) (request : Request) → RequestIsFront place request → ReadsNext place (Whole (message_in (bytes_at place) request)) (after_any (message_in (bytes_at place) request) (drop (used_of request) (bytes_at place)))
reads_front place request front =
    let held = bytes_at place in
    let m : AnyMessage = message_in held request in
    subst (λ (p : Place). ReadsNext p (Whole m) (after_any m (drop (used_of request) held))) (sym front.stands) (used_of request, front.read.begins, refl, request_text held request front.read)

-- what the request at the front uses is held
pub used_held : (place : Place) (request : Request) → RequestIsFront place request → used_of request ≤ length (bytes_at place)
used_held place request front = used_within both_grammar (bytes_at place) (message_in (bytes_at place) request) (used_of request) front.read.begins

-- what a refused message uses is held
pub used_refused : (place : Place) (why : RefusalReason) (used : ℕ) (skip : Skip) → IsReadAt place (reads.Refused why used skip) → used ≤ length (bytes_at place)
used_refused place why used skip is =
    let f = read_front place (reads.Refused why used skip) is (refused_is_some why used skip) in
    subst (λ (p : Place). used ≤ length (bytes_at p)) (sym f.1) (used_within both_grammar f.0 (Refusal why skip) used f.2.0)
