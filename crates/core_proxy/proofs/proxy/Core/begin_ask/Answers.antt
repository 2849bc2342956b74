use Rattle.std.proofs.Common.{◌≡◌, ℕ, ◌<◌, Bool, true, false, List, length, sym, refl, ap, subst, ◌∙◌, inl, inr}
use Rattle.mc_types.specs.declared.ask.Ask.{Ask}
use Rattle.wire_stream.specs.declared.requests.request.Request.{Request}
use Rattle.core_client.specs.declared.client.Client.{Client}
use Rattle.core_proxy.specs.declared.note.Poll.TheVariants.{Busy}
use Rattle.core_client.specs.Fronts.{IsAskAt}
use Rattle.core_proxy.specs.declared.proxy.Core.{Core}
use Rattle.core_proxy.specs.Claims.{is_barred}
use Rattle.core_client.specs.Clients.{has_own}
use Rattle.core_commands.specs.Lines.{is_behind, others}
use Rattle.core_client.specs.Nexts.{CanAskBelow, CanBegin}
use Rattle.core_proxy.specs.Polls.{IsBelowDepth, ForClient, ClientIsServed, IsNextAsk, claim_of, bars, stands_before, Acts, Polls, StopsAfter, SoEnded, ReadFault}
use Rattle.core_proxy.proofs.Polls.{first_stops, begun_stops, begun_polls, nothing_polls, for_map, for_both, if_err, if_ok}
use Rattle.core_proxy.proofs.proxy.Core.begin_ask.Goals as goal

-- the ask is the client's next, and it is known whether one of its own on the key has no reply
is_next : (old : Core) (client : ℕ) (request : Request) (ask : Ask) (key : List ℕ) (own value : Bool) → ForClient old client (CanBegin request ask) → ForClient old client (λ x. own ≡ has_own key x.queue.items) → key ≡ ask.key → own ≡ value → IsNextAsk old client ask value
is_next old client request ask key own value can is same e = (
  request,
  for_both old client (CanBegin request ask) (λ x. own ≡ has_own key x.queue.items) (λ x. IsAskAt x request ask × (has_own ask.key x.queue.items ≡ value)) (λ x can is. (can.at, ap (λ k. has_own k x.queue.items) (sym same) ∙ sym is ∙ e)) can is,
)

pub has_own-requires : goal.has_own-requires
has_own-requires c =
    let old = c.args.self.now in
    for_map old c.args.client (CanBegin c.args.request.now c.args.ask) ClientIsServed (λ x can. can.served) c.requires.next

pub returns-then-has_own-clause-ok : goal.returns-then-has_own-clause-ok
returns-then-has_own-clause-ok c =
    let old = c.args.self.now in
    let next = is_next old c.args.client c.args.request.now c.args.ask c.key.result.now c.has_own.result true c.requires.next c.has_own.ensures c.key.ensures c.if-has_own.true in
    subst (λ (core : Core). Polls old c.args.client Busy core) (sym c.give_back.ensures) (nothing_polls old c.args.client Busy (λ entries e. e) (refl, c.requires.held, inr (inl (c.args.ask, next), (c.args.request.now, c.requires.asks))))

pub wait_in_line-requires-clause-next : goal.wait_in_line-requires-clause-next
wait_in_line-requires-clause-next c = is_next c.args.self.now c.args.client c.args.request.now c.args.ask c.key.result.now c.has_own.result false c.requires.next c.has_own.ensures c.key.ensures c.if-has_own.false

pub wait_in_line-requires-clause-claim_is : goal.wait_in_line-requires-clause-claim_is
wait_in_line-requires-clause-claim_is c = c.of-claim.ensures ∙ ap (λ (a : Ask). claim_of c.args.self.now a) c.get.ensures

pub wait_in_line-requires-clause-waits : goal.wait_in_line-requires-clause-waits
wait_in_line-requires-clause-waits c =
    let old = c.args.self.now in
    inl ((λ i. is_barred (sym c.key-2.ensures i) (sym (c.of-claim.ensures ∙ ap (λ (a : Ask). claim_of old a) c.get.ensures) i) old.commands) ∙ sym c.is_barred.ensures ∙ c.if-is_barred.true)

pub wait_in_line-requires-then-is_behind-clause-next : goal.wait_in_line-requires-then-is_behind-clause-next
wait_in_line-requires-then-is_behind-clause-next c = is_next c.args.self.now c.args.client c.args.request.now c.args.ask c.key.result.now c.has_own.result false c.requires.next c.has_own.ensures c.key.ensures c.if-has_own.false

pub wait_in_line-requires-then-is_behind-clause-claim_is : goal.wait_in_line-requires-then-is_behind-clause-claim_is
wait_in_line-requires-then-is_behind-clause-claim_is c = c.of-claim.ensures ∙ ap (λ (a : Ask). claim_of c.args.self.now a) c.get.ensures

pub wait_in_line-requires-then-is_behind-clause-waits : goal.wait_in_line-requires-then-is_behind-clause-waits
wait_in_line-requires-then-is_behind-clause-waits c =
    let old = c.args.self.now in
    inr ((λ i. is_behind c.args.client (sym c.key-3.ensures i) (sym (c.of-claim.ensures ∙ ap (λ (a : Ask). claim_of old a) c.get.ensures) i) old.lines) ∙ sym c.is_behind.ensures ∙ c.if-is_behind.true)

pub returns-in-Ok-clause-ok : goal.returns-in-Ok-clause-ok
returns-in-Ok-clause-ok c =
    let old = c.args.self.now in
    let mid = c.begin_key.new.self in
    let new = c.act_last.new.self in
    let ask = c.args.ask in
    let below : IsBelowDepth old c.args.client = for_map old c.args.client (CanAskBelow old.limits.depth c.args.request.now) (λ (x : Client). length x.queue.items < old.limits.depth) (λ x can. can.1) c.requires.asks in
    let next = is_next old c.args.client c.args.request.now ask c.key.result.now c.has_own.result false c.requires.next c.has_own.ensures c.key.ensures c.if-has_own.false in
    let claim = c.of-claim.ensures ∙ ap (λ (a : Ask). claim_of old a) c.get.ensures in
    let free : bars old ask ≡ false = (λ i. is_barred (sym c.key-2.ensures i) (sym claim i) old.commands) ∙ sym c.is_barred.ensures ∙ c.if-is_barred.false in
    let first : stands_before old c.args.client ask ≡ false = (λ i. is_behind c.args.client (sym c.key-3.ensures i) (sym claim i) old.lines) ∙ sym c.is_behind.ensures ∙ c.if-is_behind.false in
    if_ok c.act_last.result (λ poll. Acts mid c.args.client poll new) (λ poll. Polls old c.args.client poll new) (λ poll a. begun_polls old mid new c.args.client ask poll below next free first c.in-Ok.ensures.ok a) c.act_last.ensures.ok

pub returns-in-Ok-clause-err : goal.returns-in-Ok-clause-err
returns-in-Ok-clause-err c =
    let old = c.args.self.now in
    let mid = c.begin_key.new.self in
    let new = c.act_last.new.self in
    if_err c.act_last.result (λ fault. StopsAfter c.args.client (SoEnded c.args.client) mid fault new) (λ fault. ReadFault old c.args.client fault new) (λ fault a. begun_stops old mid new c.args.client c.args.ask fault c.in-Ok.ensures.ok a c.act_last.ensures.still) c.act_last.ensures.err

pub returns-in-Err-clause-err : goal.returns-in-Err-clause-err
returns-in-Err-clause-err c =
    first_stops c.args.self.now c.begin_key.new.self c.args.client c.in-Err.fault c.in-Err.ensures.err (ap (others c.args.client) c.in-Err.ensures.kept)

pub act_last-requires : goal.act_last-requires
act_last-requires c = c.in-Ok.ensures.ok.last
