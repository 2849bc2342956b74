-- A message that the core answered itself is one that is passed; a reply that it wrote for the head of a client's commands is one that is shown.
use Rattle.std.proofs.Common.{◌≡◌, ℕ, false, List, [], ◌∷◌, ◌++◌, Some, refl, sym, ap, ◌∙◌, subst}
use Rattle.wire_parts.specs.Stream.{Place}
use Rattle.fresh_runs.specs.Overlap.{Slot, Passes}
use Rattle.fresh_runs.proofs.OverlapSteps.{walks_lead}
use Rattle.route_tree.specs.Word.{tree_words}
use Rattle.core_client.specs.declared.client.Pending.{Pending}
use Rattle.core_client.specs.declared.client.Client.{Client}
use Rattle.core_proxy.specs.declared.proxy.Core.{Core}
use Rattle.core_proxy.specs.Steps.{Turns}
use Rattle.core_client.specs.Fronts.{PassesOne}
use Rattle.core_client.specs.ClientState.{dialect, ClientMessage, front_by, output_by, dropped_by}
use Rattle.core_proxy.specs.CoreState.{bars_of, MayComeOf, state_of, ArePendingSlots, IsAtFront, IsWaitedFor, IsQueue, GoesByOne, version_by}
use Rattle.core_proxy.proofs.Slots.{same_held}
use Rattle.core_proxy.proofs.Clients.{changed, stays, command_stays, still_fits, owners}

no_slots : (ps : List Pending) (slots : List (Slot dialect)) → ps ≡ [] → ArePendingSlots ps slots → slots ≡ []
no_slots [] [] e h = refl
no_slots [] (s ∷ slots) e h = absurd h
no_slots (p ∷ ps) slots e h = absurd (some p ps e)
  where
    some : (p : Pending) (ps : List Pending) → ◌≡◌ {A = List Pending} (p ∷ ps) [] → ⊥
    some p ps e = cc

empty_queue : (version : List ℕ) (x y : Client) (message : ClientMessage) (next : Place) → PassesOne version x message next y → (slots : List (Slot dialect)) → IsQueue (Some x) slots → IsQueue (Some y) slots
empty_queue version x y message next t slots q =
    let none = no_slots x.queue.items slots t.none q.0 in
    (subst (λ l. ArePendingSlots l slots) (sym t.queue) (subst (ArePendingSlots []) (sym none) tt), subst (IsAtFront y) (sym none) t.waits, subst (IsWaitedFor y.waits) (sym none) tt)

pub passes : (old new : Core) (client : ℕ) (x y : Client) (message : ClientMessage) (next : Place) → Turns old new client (Some x) (Some y) → PassesOne (version_by old.limits) x message next y → GoesByOne old (Passes client message next) new
passes old new client x y message next t p = λ beside fits. (
  beside,
  Passes client message next ∷ [],
  still_fits old new client (Some x) (Some y) t beside fits (empty_queue (version_by old.limits) x y message next p) (λ n command slots h. same_held x y n command slots p.dropped h),
  record { at = refl; holds = refl; found = refl; turn = refl },
  refl,
  walks_lead (tree_words beside.at) (bars_of old beside) (state_of old beside) (state_of new beside) (Passes client message next ∷ []) (record {
    may = (
      (
        subst (λ o. dialect.Reads (front_by o).place message next) (sym t.was) p.reads,
        p.asks,
        no_slots x.queue.items (beside.queue client) p.none (subst (λ o. IsQueue o (beside.queue client)) t.was (fits.queues client)).0,
        ap dropped_by t.was ∙ p.served,
      ),
      tt,
    );
    like = record {
      front = changed old new client (Some x) (Some y) t front_by (λ f. record { place = next; index = 0; waits = false }) (λ i. record { place = p.stream i; index = p.index i; waits = p.waits i });
      queue = λ c. refl;
      output = changed old new client (Some x) (Some y) t output_by (λ l. l ++ dialect.passed (version_by old.limits) message) p.output;
      dropped = stays old new client (Some x) (Some y) t dropped_by p.dropped;
      number = t.number;
      owner = owners old new client (Some x) (Some y) t;
      to_come = λ n o e calls reply from l. subst (λ m. MayComeOf m calls reply from) (command_stays old new client (Some x) (Some y) t n) l;
      out = λ s. refl;
      holds = λ s k. refl;
      found = λ n o e. refl;
      turn = refl;
      version = ap version_by t.limits;
    };
  }),
  t.limits,
  λ s. refl,
)
