-- For whom nothing can be done without a result, nothing can be done still where a client's output is taken, or another tree comes.
use Rattle.std.proofs.Common.{◌≡◌, ℕ, ◌<◌, ◌≤◌, Bool, true, false, List, length, Some, inl, inr, Option, MatchOption, refl, sym, ap, ◌∙◌, subst, nat_eq, slice_get}
use Rattle.std.proofs.lemmas.Bool.{eqb-true}
use Rattle.slab.specs.Slab as slab
use Rattle.mc_types.specs.declared.ask.Ask.{Ask}
use Rattle.fresh_runs.specs.Overlap.{Front, IsNext}
use Rattle.fresh_runs.specs.Protocol.{IsStuck}
use Rattle.wire_parts.specs.Stream.{Place, Stands}
use Rattle.wire_parts.specs.declared.skip.Skip.TheVariants.{Nothing}
use Rattle.wire_stream.specs.declared.requests.request.Request.{Request}
use Rattle.wire_stream.specs.Message.{IsReadFrom, message_in}
use Rattle.wire_stream.specs.Asks.{asks_of}
use Rattle.wire_stream.specs.Held.{bytes_at}
use Rattle.core_client.specs.declared.client.Client.{Client}
use Rattle.core_client.specs.declared.client.Pending.{Pending}
use Rattle.core_client.specs.Clients.{has_own, LosesOutput}
use Rattle.core_client.specs.ClientState.{dialect, front_by}
use Rattle.core_client.specs.Fronts.{IsAskAt}
use Rattle.core_client.specs.Nexts.{CanAsk, CanAskBelow, IsLater}
use Rattle.core_commands.specs.declared.claim.Claim.{Claim}
use Rattle.core_commands.specs.declared.key_lines.Standing.{Standing}
use Rattle.core_commands.specs.declared.sharing.Sharing.{Sharing}
use Rattle.core_commands.specs.declared.sharing.Sharing.TheVariants.{Alone}
use Rattle.core_commands.specs.Lines.{is_behind, joined}
use Rattle.route_tree.specs.At.{tree_at}
use Rattle.route_tree.specs.Route.{Route}
use Rattle.core_proxy.specs.Claims.{claim_by, is_barred}
use Rattle.core_proxy.specs.declared.proxy.Core.{Core}
use Rattle.core_proxy.specs.CoreState.{client_at}
use Rattle.core_proxy.specs.Polls.{ForClient, ClientIsServed, ClientIsDone, IsNextAsk, StandsInLine, HasNoKey, NoCommandGoesOn, MayAsk, IsStalled, claim_of}
use Rattle.core_proxy.specs.Resting.{AreHeldUp}
use Rattle.core_proxy.specs.Steps.{Turns}

-- ---- what holds of a client whatever its output

done_still : (x y : Client) → LosesOutput x y → ClientIsDone x → ClientIsDone y
done_still x y p (inl dropped) = inl (p.dropped ∙ dropped)
done_still x y p (inr h) = inr (p.queue ∙ h.0, subst (IsStuck dialect) (sym p.stream) h.1)

ask_still : (request : Request) (ask : Ask) (x y : Client) → LosesOutput x y → IsAskAt x request ask → IsAskAt y request ask
ask_still request ask x y p h =
    record {
      place = subst (λ (s : Place). s ≡ Stands Nothing (bytes_at s)) (sym p.stream) h.place;
      read = subst (λ (s : Place). IsReadFrom (bytes_at s) request) (sym p.stream) h.read;
      at = (λ i. slice_get (asks_of (message_in (bytes_at (p.stream i)) request)) (p.index i)) ∙ h.at;
      there = subst (λ (s : Place × ℕ). s.1 < length (asks_of (message_in (bytes_at s.0) request))) (λ i. (sym p.stream i, sym p.index i)) h.there;
    }

can_ask_still : (request : Request) (x y : Client) → LosesOutput x y → CanAsk request x → CanAsk request y
can_ask_still request x y p h =
    record {
      stands = subst (λ (s : Place). s ≡ Stands Nothing (bytes_at s)) (sym p.stream) h.stands;
      is_read = subst (λ (s : Place). IsReadFrom (bytes_at s) request) (sym p.stream) h.is_read;
      there = subst (λ (s : Place × ℕ). s.1 < length (asks_of (message_in (bytes_at s.0) request))) (λ i. (sym p.stream i, sym p.index i)) h.there;
      ready = p.waits ∙ h.ready;
      served = p.dropped ∙ h.served;
    }

later_still : (depth : ℕ) (x y : Client) → LosesOutput x y → IsLater depth x → IsLater depth y
later_still depth x y p h =
    let front : front_by (Some y) ≡ front_by (Some x) = λ i. record { place = p.stream i; index = p.index i; waits = p.waits i } in
    record {
      key = λ part next. subst (λ (items : List Pending). depth ≤ length items) (sym p.queue) (h.key part (subst (λ (f : Front dialect). IsNext f part) front next));
      other = λ message next reads none. subst (λ (items : List Pending). 0 < length items) (sym p.queue) (h.other message next (subst (λ (s : Place). dialect.Reads s message next) p.stream reads) none);
    }

-- ---- clients of the core after one lost its output

module _ (old : Core) (clients : slab.Slab Client) (client : ℕ) (x y : Client) (t : Turns old (record old { clients = clients }) client (Some x) (Some y)) (p : LosesOutput x y) where
  abbrev pub new : Core
  new = record old { clients = clients }

  still : (c : ℕ) (P : Client → Type 0) → ((a b : Client) → LosesOutput a b → P a → P b) → ForClient old c P → ForClient new c P
  still c P f =
      (elim (nat_eq client c) as (λ b. nat_eq client c ≡ b → ForClient old c P → ForClient new c P) [
        | true ↦ λ same h.
            let at : client ≡ c = eqb-true client c same in
            subst (λ (o : Option Client). MatchOption o ⊥ P) (sym t.is ∙ ap (client_at new) at)
            (f x y p (subst (λ (o : Option Client). MatchOption o ⊥ P) (ap (client_at old) (sym at) ∙ t.was) h))
        | false ↦ λ differs h. subst (λ (o : Option Client). MatchOption o ⊥ P) (sym (t.others c differs)) h
      ]) refl

  next_still : (c : ℕ) (ask : Ask) (own : Bool) → IsNextAsk old c ask own → IsNextAsk new c ask own
  next_still c ask own h = (
    h.0,
    still c (λ (a : Client). IsAskAt a h.0 ask × (has_own ask.key a.queue.items ≡ own)) (λ a b q k. (ask_still h.0 ask a b q k.0, ap (has_own ask.key) q.queue ∙ k.1)) h.1,
  )

  line_still : (c : ℕ) → StandsInLine old c old → StandsInLine new c new
  line_still c h =
      record {
        ask = h.ask;
        next = next_still c h.ask false h.next;
        waits = h.waits;
        core_is = ap (λ (lines : List Standing). record new { lines = lines }) (ap (λ (core : Core). core.lines) h.core_is);
      }

  no_key_still : (c : ℕ) → HasNoKey old c → HasNoKey new c
  no_key_still c (inl own) = inl (own.0, next_still c own.0 true own.1)
  no_key_still c (inr stands) = inr (line_still c stands)

  may_ask_still : (c : ℕ) → MayAsk old c → MayAsk new c
  may_ask_still c h = (h.0, still c (CanAskBelow old.limits.depth h.0) (λ a b q k. (can_ask_still h.0 a b q k.0, subst (λ (items : List Pending). length items < old.limits.depth) (sym q.queue) k.1)) h.1)

  none_goes_on_still : (c : ℕ) → NoCommandGoesOn old c → NoCommandGoesOn new c
  none_goes_on_still c h = (
    still c ClientIsServed (λ a b q k. q.dropped ∙ k) h.0,
    still c (λ (a : Client). AreHeldUp c old.limits.window old.commands a.queue.items) (λ a b q k. subst (AreHeldUp c old.limits.window old.commands) (sym q.queue) k) h.1,
  )

  pub still_stalled : (c : ℕ) → IsStalled old c → IsStalled new c
  still_stalled c (inl done) = inl (still c ClientIsDone done_still done)
  still_stalled c (inr (held, inl later)) = inr (none_goes_on_still c held, inl (still c (IsLater old.limits.depth) (later_still old.limits.depth) later))
  still_stalled c (inr (held, inr (no_key, may))) = inr (none_goes_on_still c held, inr (no_key_still c no_key, may_ask_still c may))

-- ---- another tree

-- where each command has its key alone, what one claims is the same by each tree
same_claim : (core : Core) (tree : Route) (generation : ℕ) → core.limits.sharing ≡ Alone → (ask : Ask) → claim_of (record core { tree = tree; generation = generation }) ask ≡ claim_of core ask
same_claim core tree generation alone ask = ap (λ (s : Sharing). claim_by s ask.op (tree_at tree ask.key)) alone ∙ sym (ap (λ (s : Sharing). claim_by s ask.op (tree_at core.tree ask.key)) alone)

-- where each command has its key alone, nothing can be done by another tree for whom nothing could be done
pub stalled_over : (core : Core) (tree : Route) (generation : ℕ) → core.limits.sharing ≡ Alone → (c : ℕ) → IsStalled core c → IsStalled (record core { tree = tree; generation = generation }) c
stalled_over core tree generation alone c (inl done) = inl done
stalled_over core tree generation alone c (inr (held, inl later)) = inr (held, inl later)
stalled_over core tree generation alone c (inr (held, inr (inl own, may))) = inr (held, inr (inl own, may))
stalled_over core tree generation alone c (inr (held, inr (inr stands, may))) =
    inr (
      held,
      inr (
        inr (
            record {
              ask = stands.ask;
              next = stands.next;
              waits = elim stands.waits [
                | inl bars ↦ inl (ap (λ (k : Claim). is_barred stands.ask.key k core.commands) claim ∙ bars)
                | inr before ↦ inr (ap (λ (k : Claim). is_behind c stands.ask.key k core.lines) claim ∙ before)
              ];
              core_is = ap (λ (lines : List Standing). record core { tree = tree; generation = generation; lines = lines })
                  (ap (λ (x : Core). x.lines) stands.core_is ∙ ap (λ (k : Claim). joined (record { claim = k; client = c; key = stands.ask.key }) core.lines) (sym claim));
            }
            ),
        may,
      ),
    )
  where
    claim : claim_of (record core { tree = tree; generation = generation }) stands.ask ≡ claim_of core stands.ask
    claim = same_claim core tree generation alone stands.ask
