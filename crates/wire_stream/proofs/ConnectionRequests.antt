-- What a request of either dialect is: what it asks of mcgate itself, and where the stream stands after it.
use Rattle.std.proofs.Common.{◌≡◌, ℕ, List, Some, refl, slice_get}
use Rattle.text_words.specs.Word.{text_at}
use Rattle.mc_types.specs.declared.ask.Ask.{Ask}
use Rattle.wire_parts.specs.declared.skip.Skip.TheVariants.{Nothing}
use Rattle.wire_parts.specs.Stream.{Stands, after_own}
use Rattle.wire_classic.specs.Places as texts
use Rattle.wire_meta.specs.Places as metas
use Rattle.wire_stream.specs.declared.requests.request.Request.{Request}
use Rattle.wire_stream.specs.declared.requests.request.Request.TheVariants.{Classic, Meta}
use Rattle.wire_stream.specs.Both as both
use Rattle.wire_stream.specs.Message.{message_in}
use Rattle.wire_stream.specs.Asks.{asks_of, own_of}
use Rattle.wire_stream.specs.Stream.{after_any}
use Rattle.wire_stream.specs.TextProtocol.{Whole, own_passed, passed_text}
use Rattle.wire_stream.proofs.Fronts.{served_after}

-- after a request with an ask the stream goes on
pub request_after : (held : List ℕ) (request : Request) (rest : List ℕ) (i : ℕ) (ask : Ask) → slice_get (asks_of (message_in held request)) i ≡ Some ask → after_any (message_in held request) rest ≡ Stands Nothing rest
request_after held (Classic r) rest i ask at = served_after (both.Classic (texts.order_in held r.command)) (text_at held r.block) rest i ask at
request_after held (Meta r) rest i ask at = served_after (both.Meta (metas.meta_order_in held r.command)) (text_at held r.block) rest i ask at

-- where the stream stands after what mcgate itself was asked
pub own_next : (held : List ℕ) (request : Request) (rest : List ℕ) → after_own (own_of (message_in held request)) rest ≡ after_any (message_in held request) rest
own_next held (Classic r) rest = refl
own_next held (Meta r) rest = refl

-- what is shown for what mcgate itself was asked
pub own_text : (version held : List ℕ) (request : Request) → own_passed version (own_of (message_in held request)) ≡ passed_text version (Whole (message_in held request))
own_text version held (Classic r) = refl
own_text version held (Meta r) = refl
