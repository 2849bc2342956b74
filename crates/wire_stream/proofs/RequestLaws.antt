-- The laws of requests, by those of their dialects.
use Rattle.std.proofs.Common.{◌≡◌, ℕ, true, false, List, [], ◌∷◌, ◌++◌, length, Option, Some, None, refl, sym, ap, subst}
use Rattle.std.specs.List.{AllByRecursion}
use Rattle.std.specs.Prelude.{Result, Ok, Err, IfOk, IfSome}
use Rattle.mc_types.specs.Tokens.{are_served, TokenIsText}
use Rattle.mc_types.specs.Asks.{HasShape, classic_shape}
use Rattle.mc_types.specs.declared.ask.Ask.{Ask}
use Rattle.mc_types.specs.declared.ask.Op.{Op}
use Rattle.mc_types.specs.declared.ask.Op.TheVariants.{Get, Gat, Set, Add, Replace, Append, Prepend, Cas, Delete, Incr, Decr, Touch}
use Rattle.mc_types.specs.declared.ask.Dialect.{Dialect}
use Rattle.mc_types.specs.declared.ask.Dialect.TheVariants as dialects
use Rattle.mc_types.specs.declared.token.Token.{Token}
use Rattle.wire_parts.specs.Message.{Served, Refusal, lift_message}
use Rattle.wire_parts.specs.Requests.{ReadStill, AsksAreWellFormed, AsksAreReadBack, MessagesAreOneAsk}
use Rattle.wire_parts.proofs.Streams.{begins_still}
use Rattle.wire_classic.specs.declared.command.ClassicRequest.{ClassicRequest}
use Rattle.wire_classic.specs.Message as texts
use Rattle.wire_classic.specs.Asks as text_asks
use Rattle.wire_classic.specs.Asks.{IsClassicAsk}
use Rattle.wire_classic.proofs.StreamLemmas as text_streams
use Rattle.wire_classic.proofs.WalkLemmas as text_walks
use Rattle.wire_classic.proofs.AskLemmas as text_sound
use Rattle.wire_classic.proofs.Back as text_back
use Rattle.wire_classic.proofs.OneAsk as text_one
use Rattle.wire_meta.specs.declared.command.MetaRequest.{MetaRequest}
use Rattle.wire_meta.specs.Message as metas
use Rattle.wire_meta.specs.Asks as meta_asks
use Rattle.wire_meta.specs.Asks.{IsMetaAsk}
use Rattle.wire_meta.proofs.Front as meta_front
use Rattle.wire_meta.proofs.Back as meta_back
use Rattle.wire_meta.proofs.Sound as meta_sound
use Rattle.wire_stream.specs.declared.requests.request.Request.TheVariants as requests
use Rattle.wire_stream.specs.declared.requests.request.Asks.TheVariants as walks
use Rattle.wire_stream.specs.Both.{Classic, Meta, both_grammar}
use Rattle.wire_stream.specs.Message.{AnyMessage, Begins, IsReadFrom, message_in}
use Rattle.wire_stream.specs.Asks.{asks_of, quiet_of, IsClientAsk}
use Rattle.wire_stream.specs.Spelling.{spelled_in, message_by}
use Rattle.wire_stream.specs.Laws.{both_requests, WalkStill}
use Rattle.wire_stream.proofs.Dialects.{classic_begins, meta_begins, begins_classic, begins_meta}

-- a request that was read, in its dialect
pub classic_read : (bytes : List ℕ) (r : ClassicRequest) → IsReadFrom bytes (requests.Classic r) → texts.IsClassicReadFrom bytes r
classic_read bytes r h = record { placed = h.placed; begins = classic_begins bytes _ _ r.used h.begins }

pub meta_read : (bytes : List ℕ) (r : MetaRequest) → IsReadFrom bytes (requests.Meta r) → metas.IsMetaReadFrom bytes r
meta_read bytes r h = record { placed = h.placed; begins = meta_begins bytes _ _ r.used h.begins }

pub read_still : ReadStill both_requests
read_still bytes more (requests.Classic r) h =
    let one = text_streams.read_still bytes more r (classic_read bytes r h) in
    let same : message_in (bytes ++ more) (requests.Classic r) ≡ message_in bytes (requests.Classic r) = ap (lift_message Classic) one.1 in
    (record { placed = one.0.placed; begins = subst (λ (m : AnyMessage). Begins (bytes ++ more) m r.used) (sym same) (begins_still both_grammar bytes more _ r.used h.begins) }, same)
read_still bytes more (requests.Meta r) h =
    let one = meta_front.read_still bytes more r (meta_read bytes r h) in
    let same : message_in (bytes ++ more) (requests.Meta r) ≡ message_in bytes (requests.Meta r) = ap (lift_message Meta) one.1 in
    (record { placed = one.0.placed; begins = subst (λ (m : AnyMessage). Begins (bytes ++ more) m r.used) (sym same) (begins_still both_grammar bytes more _ r.used h.begins) }, same)

pub walk_still : WalkStill
walk_still bytes more (walks.Classic a) h = text_walks.walk_still bytes more a h
walk_still bytes more (walks.Meta a) h = (meta_front.read_still bytes more a.request h).0

-- a classic ask wants no tokens back
no_texts : (tokens : List Token) → are_served [] tokens ≡ true → AllByRecursion TokenIsText tokens
no_texts [] e = tt
no_texts (t ∷ ts) e = absurd cc

none_served : (op : Op) → (classic_shape op).served ≡ []
none_served Get = refl
none_served Gat = refl
none_served Set = refl
none_served Add = refl
none_served Replace = refl
none_served Append = refl
none_served Prepend = refl
none_served Cas = refl
none_served Delete = refl
none_served Incr = refl
none_served Decr = refl
none_served Touch = refl

pub of_classic : (ask : Ask) → IsClassicAsk ask → IsClientAsk ask
of_classic ask h =
    let shape : HasShape ask (classic_shape ask.op) = text_back.classic ask h.well_formed h.classic in
    record { well_formed = h.well_formed; texts = no_texts ask.tokens (rw (none_served ask.op) at shape.tokens) }

pub of_meta : (ask : Ask) → IsMetaAsk ask → IsClientAsk ask
of_meta ask h = record { well_formed = h.well_formed; texts = h.texts }

all_as : {P Q : Ask → Type 0} → ((ask : Ask) → P ask → Q ask) → (asks : List Ask) → AllByRecursion P asks → AllByRecursion Q asks
all_as f [] h = tt
all_as f (ask ∷ asks) h = (f ask h.0, all_as f asks h.1)

pub asks_are_well_formed : AsksAreWellFormed both_requests
asks_are_well_formed bytes (Served (Classic o) block) used b = all_as of_classic (text_asks.classic_asks_by o block) (text_sound.asks_are_well_formed bytes (Served o block) used (classic_begins bytes o block used b))
asks_are_well_formed bytes (Served (Meta o) block) used b = all_as of_meta (meta_asks.meta_asks_by o block) (meta_sound.asks_are_well_formed bytes (Served o block) used (meta_begins bytes o block used b))
asks_are_well_formed bytes (Refusal why skip) used b = tt

classic_ask : (ask : Ask) → ask.dialect ≡ dialects.Classic → IsClientAsk ask → IsClassicAsk ask
classic_ask ask d h = record { well_formed = h.well_formed; classic = d }

meta_ask : (ask : Ask) → ask.dialect ≡ dialects.Meta → IsClientAsk ask → IsMetaAsk ask
meta_ask ask d h = record { well_formed = h.well_formed; meta = d; texts = h.texts }

pub asks_are_read_back : AsksAreReadBack both_requests
asks_are_read_back ask more h = go ask.dialect refl
  where
    go : (d : Dialect) → ask.dialect ≡ d → Begins (spelled_in d ask ++ more) (message_by d ask) (length (spelled_in d ask))
    go dialects.Classic d = begins_classic _ _ _ _ (text_back.asks_are_read_back ask more (classic_ask ask d h))
    go dialects.Meta d = begins_meta _ _ _ _ (meta_back.asks_are_read_back ask more (meta_ask ask d h))

pub messages_are_one_ask : MessagesAreOneAsk both_requests
messages_are_one_ask ask h = go ask.dialect refl
  where
    go : (d : Dialect) → ask.dialect ≡ d → (asks_of (message_by d ask) ≡ ask ∷ []) × (quiet_of (message_by d ask) ≡ false)
    go dialects.Classic d = text_one.messages_are_one_ask ask (classic_ask ask d h)
    go dialects.Meta d = meta_back.messages_are_one_ask ask (meta_ask ask d h)

-- what came of a classic walk
some_as : (next : Option Ask) → IfSome next IsClassicAsk → IfSome next IsClientAsk
some_as None h = tt
some_as (Some ask) h = of_classic ask h

pub ok_some_as : {E : Type 0} (r : Result (Option Ask) E) → IfOk r (λ next. IfSome next IsClassicAsk) → IfOk r (λ next. IfSome next IsClientAsk)
ok_some_as (Ok next) h = some_as next h
ok_some_as (Err e) h = tt
