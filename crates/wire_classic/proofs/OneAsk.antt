-- The message of an ask is this ask alone.
use Rattle.std.proofs.Common.{◌≡◌, ℕ, true, false, List, [], ◌∷◌, Option, Some, None, refl, sym}
use Rattle.std.specs.Prelude.{ℤ, pos, IsSome, unwrap_or}
use Rattle.mc_types.specs.Tokens.{are_served}
use Rattle.mc_types.specs.Asks.{HasShape, classic_shape}
use Rattle.mc_types.specs.Asks as shapes
use Rattle.mc_types.specs.declared.token.Token.{Token}
use Rattle.mc_types.specs.declared.ask.Ask.{Ask}
use Rattle.mc_types.specs.declared.ask.Op.{Op}
use Rattle.mc_types.specs.declared.ask.Op.TheVariants.{Get, Gat, Set, Add, Replace, Append, Prepend, Cas, Delete, Incr, Decr, Touch}
use Rattle.mc_types.specs.declared.ask.Dialect.TheVariants.{Classic}
use Rattle.wire_classic.specs.Asks.{classic_asks_by, classic_is_quiet, bare_ask, store_ask, retrieval_ask, touch_ask, count_ask}
use Rattle.wire_classic.specs.Spelling.{classic_storing, order_for, exptime_in, cas_in}
use Rattle.wire_parts.specs.Requests.{MessagesAreOneAsk}
use Rattle.wire_classic.specs.Laws.{classic_requests}
use Rattle.wire_classic.proofs.Back.{classic}

no_tokens : (tokens : List Token) → are_served [] tokens ≡ true → tokens ≡ []
no_tokens [] e = refl
no_tokens (t ∷ ts) e = absurd cc

-- asks with the same fields are the same
same_ask : (a b : Ask) → a.key ≡ b.key → a.op ≡ b.op → a.dialect ≡ b.dialect → a.with_cas ≡ b.with_cas → a.flags ≡ b.flags → a.exptime ≡ b.exptime → a.body ≡ b.body → a.cas ≡ b.cas → a.delta ≡ b.delta → a.tokens ≡ b.tokens → a ≡ b
same_ask a b e1 e2 e3 e4 e5 e6 e7 e8 e9 e10 =
    let fields : (let r : Ask = record { key = a.key; op = a.op; dialect = a.dialect; with_cas = a.with_cas; flags = a.flags; exptime = a.exptime; body = a.body; cas = a.cas; delta = a.delta; tokens = a.tokens } in r)
    ≡ (let r : Ask = record { key = b.key; op = b.op; dialect = b.dialect; with_cas = b.with_cas; flags = b.flags; exptime = b.exptime; body = b.body; cas = b.cas; delta = b.delta; tokens = b.tokens } in r) = cc in
    fields

some_exptime : (o : Option ℤ) → IsSome o → Some (unwrap_or o (pos 0)) ≡ o
some_exptime None h = absurd cc
some_exptime (Some z) h = refl

some_cas : (o : Option ℕ) → IsSome o → Some (unwrap_or o 0) ≡ o
some_cas None h = absurd cc
some_cas (Some n) h = refl

one : (a b : Ask) → a ≡ b → a ∷ [] ≡ b ∷ []
one a b e = cc

store_same : (ask : Ask) (op : Op) → ask.op ≡ op → ask.dialect ≡ Classic → HasShape ask (shapes.storing []) → store_ask op (classic_storing ask) None ask.body ≡ ask
store_same ask op o d h = same_ask (store_ask op (classic_storing ask) None ask.body) ask refl (sym o) (sym d) (sym h.with_cas) refl (some_exptime ask.exptime h.exptime) refl (sym h.cas) (sym h.delta) (sym (no_tokens ask.tokens h.tokens))

-- the message of an ask is this ask alone
message_by : (ask : Ask) (op : Op) → ask.op ≡ op → ask.dialect ≡ Classic → HasShape ask (classic_shape op) → (classic_asks_by (order_for op ask) ask.body ≡ ask ∷ []) × (classic_is_quiet (order_for op ask) ≡ false)
message_by ask Get o d h = (one _ ask (same_ask (retrieval_ask None ask.with_cas ask.key) ask refl (sym o) (sym d) refl (sym h.flags) (sym h.exptime) (sym h.body) (sym h.cas) (sym h.delta) (sym (no_tokens ask.tokens h.tokens))), refl)
message_by ask Gat o d h = (one _ ask (same_ask (retrieval_ask (Some (exptime_in ask)) ask.with_cas ask.key) ask refl (sym o) (sym d) refl (sym h.flags) (some_exptime ask.exptime h.exptime) (sym h.body) (sym h.cas) (sym h.delta) (sym (no_tokens ask.tokens h.tokens))), refl)
message_by ask Set o d h = (one _ ask (store_same ask Set o d h), refl)
message_by ask Add o d h = (one _ ask (store_same ask Add o d h), refl)
message_by ask Replace o d h = (one _ ask (store_same ask Replace o d h), refl)
message_by ask Append o d h = (one _ ask (store_same ask Append o d h), refl)
message_by ask Prepend o d h = (one _ ask (store_same ask Prepend o d h), refl)
message_by ask Cas o d h = (one _ ask (same_ask (store_ask Cas (classic_storing ask) (Some (cas_in ask)) ask.body) ask refl (sym o) (sym d) (sym h.with_cas) refl (some_exptime ask.exptime h.exptime) refl (some_cas ask.cas h.cas) (sym h.delta) (sym (no_tokens ask.tokens h.tokens))), refl)
message_by ask Delete o d h = (one _ ask (same_ask (bare_ask Delete ask.key) ask refl (sym o) (sym d) (sym h.with_cas) (sym h.flags) (sym h.exptime) (sym h.body) (sym h.cas) (sym h.delta) (sym (no_tokens ask.tokens h.tokens))), refl)
message_by ask Incr o d h = (one _ ask (same_ask (count_ask Incr ask.key ask.delta) ask refl (sym o) (sym d) (sym h.with_cas) (sym h.flags) (sym h.exptime) (sym h.body) (sym h.cas) refl (sym (no_tokens ask.tokens h.tokens))), refl)
message_by ask Decr o d h = (one _ ask (same_ask (count_ask Decr ask.key ask.delta) ask refl (sym o) (sym d) (sym h.with_cas) (sym h.flags) (sym h.exptime) (sym h.body) (sym h.cas) refl (sym (no_tokens ask.tokens h.tokens))), refl)
message_by ask Touch o d h = (one _ ask (same_ask (touch_ask ask.key (exptime_in ask)) ask refl (sym o) (sym d) (sym h.with_cas) (sym h.flags) (some_exptime ask.exptime h.exptime) (sym h.body) (sym h.cas) (sym h.delta) (sym (no_tokens ask.tokens h.tokens))), refl)

pub messages_are_one_ask : MessagesAreOneAsk classic_requests
messages_are_one_ask ask h = message_by ask ask.op refl h.classic (classic ask h.well_formed h.classic)
