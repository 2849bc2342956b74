-- A step of one client is a step of the core.
use Rattle.std.proofs.Common.{◌≡◌, ℕ, Bool, true, false, cond, List, [], ◌∷◌, map, Option, Some, None, option_map, ◌||◌, slice_index_or, slice_set, zero, suc, refl, sym, ap, ◌∙◌, subst, ◌<◌, nat_eq}
use Rattle.std.proofs.lemmas.Bool.{eqb-true, eq-eqb}
use Rattle.std.specs.Prelude.{IsSome, ◌≢◌, MatchBool}
use Rattle.std.specs.List.{list_any}
use Rattle.std.specs.Map as assoc
use Rattle.wire_parts.specs.Sending.{bytes_of}
use Rattle.slab.proofs.SlabLemmas.{Updates-with_value}
use Rattle.slab.specs.Slab as slab
use Rattle.fresh_runs.specs.Overlap as log
use Rattle.fresh_runs.specs.Overlap.{Slot, Owner, Resets, slot_in, start_front, fed_front}
use Rattle.fresh_runs.proofs.OverlapSteps.{walks_lead}
use Rattle.wire_parts.specs.Stream.{extended}
use Rattle.route_tree.specs.At.{tree_at}
use Rattle.route_tree.specs.Word.{tree_words}
use Rattle.wire_stream.proofs.ReaderLaws.{reader_is}
use Rattle.core_client.specs.declared.client.Client.{Client}
use Rattle.core_commands.specs.declared.command.Command.{Command}
use Rattle.core_proxy.specs.declared.proxy.Core.{Core}
use Rattle.core_client.specs.Clients.{IsNewClient, TakesPiece, LosesOutput}
use Rattle.core_proxy.specs.Feeding.{TakesInPiece}
use Rattle.route_tree.specs.Plan.{Plan}
use Rattle.core_proxy.specs.declared.limits.CoreLimits.{CoreLimits}
use Rattle.core_proxy.specs.Faults.{has_commands}
use Rattle.core_commands.specs.Lines.{others}
use Rattle.core_proxy.specs.Steps.{Turns}
use Rattle.core_proxy.proofs.Slots.{held_then, same_held}
use Rattle.core_proxy.proofs.Tickets.{contrary}
use Rattle.core_client.specs.ClientState.{dialect, front_by, output_by, dropped_by}
use Rattle.core_proxy.specs.CoreState.{bars_of, client_at, command_at, Beside, owner_by, MayComeOf, state_of, ArePendingSlots, IsAtFront, IsWaitedFor, IsQueue, IsHeld, IsOnItsWay, ticket_by, FitsBeside, GoesByOne, Opens, Feeds, FeedsOpen, GivesAll, ClosesClient, version_by}

-- what is left of a command stays so where the limits stay
pub on_its_way_kept : (old new : Core) (plan : Plan) (command : Command) → new.limits ≡ old.limits → IsOnItsWay old.limits.sharing plan command → IsOnItsWay new.limits.sharing plan command
on_its_way_kept old new plan command limits l = subst (λ (k : CoreLimits). IsOnItsWay k.sharing plan command) (sym limits) l

-- a fact of each client, by whether it is the one
pub by_client : (client c : ℕ) (A : ℕ → Type 0) → A client → (nat_eq client c ≡ false → A c) → A c
by_client client c A here there =
    (elim (nat_eq client c) as (λ b. nat_eq client c ≡ b → A c) [
      | true ↦ λ same. subst A (eqb-true client c same) here
      | false ↦ λ differs. there differs
    ]) refl

module _ (old new : Core) (client : ℕ) (a b : Option Client) (t : Turns old new client a b) where
  -- what a client stands for, where an entry changes that of one
  pub changed : {A : Type 0} (f : Option Client → A) (g : A → A) → f b ≡ g (f a) → (c : ℕ) → f (client_at new c) ≡ cond (nat_eq client c) (g (f (client_at old c))) (f (client_at old c))
  changed f g e c =
      (elim (nat_eq client c) as (λ z. nat_eq client c ≡ z → f (client_at new c) ≡ cond z (g (f (client_at old c))) (f (client_at old c))) [
        | true ↦ λ same. subst (λ d. f (client_at new d) ≡ g (f (client_at old d))) (eqb-true client c same) (ap f t.is ∙ e ∙ ap (λ o. g (f o)) (sym t.was))
        | false ↦ λ differs. ap f (t.others c differs)
      ]) refl

  -- what stays of each client
  pub stays : {A : Type 0} (f : Option Client → A) → f b ≡ f a → (c : ℕ) → f (client_at new c) ≡ f (client_at old c)
  stays f e c = by_client client c (λ d. f (client_at new d) ≡ f (client_at old d)) (ap f t.is ∙ e ∙ ap f (sym t.was)) (λ differs. ap f (t.others c differs))

  pub command_stays : (n : ℕ) → command_at new n ≡ command_at old n
  command_stays n = t.commands n

  -- what stood beside the old core can stand beside the new one, where the client's commands in the log are still those that it keeps
  pub still_fits : (beside : Beside) → FitsBeside old beside → ((slots : List (Slot dialect)) → IsQueue a slots → IsQueue b slots) → ((n : ℕ) (command : Command) (slots : List (Slot dialect)) → IsHeld n command a slots → IsHeld n command b slots) → FitsBeside new beside
  still_fits beside fits queue held =
      record {
        queues = λ c. by_client client c (λ d. IsQueue (client_at new d) (beside.queue d))
            (subst (λ o. IsQueue o (beside.queue client)) (sym t.is) (queue (beside.queue client) (subst (λ o. IsQueue o (beside.queue client)) t.was (fits.queues client))))
            (λ differs. subst (λ o. IsQueue o (beside.queue c)) (sym (t.others c differs)) (fits.queues c));
        held = λ n command e.
            held_then (client_at old) (client_at new) client a b t.was t.is t.others beside.queue beside.queue n command (λ _ h. held n command (beside.queue command.client) h) (λ _. refl) (fits.held n command (sym (command_stays n) ∙ e));
        numbered = λ c n lt. fits.numbered c n (subst (λ m. m < n) t.number lt);
        to_come = λ n command e. on_its_way_kept old new (beside.at n command.ask.key) command t.limits (fits.to_come n command (sym (command_stays n) ∙ e));
        tickets = λ s n. fits.tickets s n ∙ ap (λ o. ticket_by o n s) (sym (command_stays n));
        single = fits.single;
        numbers = λ n lt. command_stays n ∙ fits.numbers n (subst (λ m. m < n) t.number lt);
        unseen = λ n lt. fits.unseen n (subst (λ m. m < n) t.number lt);
        trees = λ n key lt. fits.trees n key (subst (λ m. m < n) t.number lt) ∙ ap (λ r. tree_at r key) (sym t.tree);
      }

  pub owners : (n : ℕ) → option_map owner_by (command_at new n) ≡ option_map owner_by (command_at old n)
  owners n = ap (option_map owner_by) (command_stays n)

-- where a client's commands stay, and where the starting of them stands goes on by bytes at most
same_slots : (x y : Client) (slots : List (Slot dialect)) → y.queue.items ≡ x.queue.items → ArePendingSlots x.queue.items slots → ArePendingSlots y.queue.items slots
same_slots x y slots e h = subst (λ l. ArePendingSlots l slots) (sym e) h

fed_at_front : (x y : Client) (bytes : List ℕ) (slots : List (Slot dialect)) → TakesPiece x bytes y → IsAtFront x slots → IsAtFront y slots
fed_at_front x y bytes [] t h = t.waits ∙ h
fed_at_front x y bytes (slot ∷ []) t h = λ waits.
    let a = h (sym t.waits ∙ waits) in (a.0, a.1, a.2 ∙ sym t.index, (extended a.3.0 bytes, subst (λ p. dialect.Reads p slot.message (extended a.3.0 bytes)) (sym t.stream) (reader_is.goes_on x.stream slot.message a.3.0 bytes a.3.1)))
fed_at_front x y bytes (slot ∷ next ∷ slots) t h = fed_at_front x y bytes (next ∷ slots) t h

-- a piece was taken
pub feeds : (old new : Core) (client : ℕ) (x y : Client) (bytes : List ℕ) → Turns old new client (Some x) (Some y) → x.dropped ≡ false → TakesPiece x bytes y → GoesByOne old (log.Feeds client bytes) new
feeds old new client x y bytes t served p = λ beside fits. (
  beside,
  log.Feeds client bytes ∷ [],
  still_fits old new client (Some x) (Some y) t beside fits (λ slots q. (same_slots x y slots p.queue q.0, fed_at_front x y bytes slots p q.1, subst (λ w. IsWaitedFor w slots) (sym p.waits) q.2)) (λ n command slots h. same_held x y n command slots p.dropped h),
  record { at = refl; holds = refl; found = refl; turn = refl },
  refl,
  walks_lead (tree_words beside.at) (bars_of old beside) (state_of old beside) (state_of new beside) (log.Feeds client bytes ∷ []) (record {
    may = (ap dropped_by t.was ∙ served, tt);
    like = record {
      front = changed old new client (Some x) (Some y) t front_by (λ f. fed_front f bytes) (λ i. record { place = p.stream i; index = p.index i; waits = p.waits i });
      queue = λ c. refl;
      output = stays old new client (Some x) (Some y) t output_by p.output;
      dropped = stays old new client (Some x) (Some y) t dropped_by p.dropped;
      number = t.number;
      owner = owners old new client (Some x) (Some y) t;
      to_come = λ n o e calls reply from l. subst (λ m. MayComeOf m calls reply from) (command_stays old new client (Some x) (Some y) t n) l;
      out = λ s. refl;
      holds = λ s k. refl;
      found = λ n o e. refl;
      turn = refl;
      version = ap version_by t.limits;
    };
  }),
  t.limits,
  λ s. refl,
)

same_at_front : (x y : Client) (slots : List (Slot dialect)) → LosesOutput x y → IsAtFront x slots → IsAtFront y slots
same_at_front x y [] t h = t.waits ∙ h
same_at_front x y (slot ∷ []) t h = λ waits. let a = h (sym t.waits ∙ waits) in (a.0, a.1, a.2 ∙ sym t.index, (a.3.0, subst (λ p. dialect.Reads p slot.message a.3.0) (sym t.stream) a.3.1))
same_at_front x y (slot ∷ next ∷ slots) t h = same_at_front x y (next ∷ slots) t h

-- a client's output was taken
pub gives : (old new : Core) (client : ℕ) (x y : Client) (bytes : List ℕ) → Turns old new client (Some x) (Some y) → bytes ≡ bytes_of x.output → LosesOutput x y → GivesAll old client bytes new
gives old new client x y bytes t taken p = (
  taken ∙ ap output_by (sym t.was),
  λ beside fits. (
    beside,
    log.Gives client bytes ∷ [],
    still_fits old new client (Some x) (Some y) t beside fits (λ slots q. (same_slots x y slots p.queue q.0, same_at_front x y slots p q.1, subst (λ w. IsWaitedFor w slots) (sym p.waits) q.2)) (λ n command slots h. same_held x y n command slots p.dropped h),
    record { at = refl; holds = refl; found = refl; turn = refl },
    refl,
    walks_lead (tree_words beside.at) (bars_of old beside) (state_of old beside) (state_of new beside) (log.Gives client bytes ∷ []) (record {
      may = (taken ∙ ap output_by (sym t.was), tt);
      like = record {
        front = stays old new client (Some x) (Some y) t front_by (λ i. record { place = p.stream i; index = p.index i; waits = p.waits i });
        queue = λ c. refl;
        output = changed old new client (Some x) (Some y) t output_by (λ l. []) p.output;
        dropped = stays old new client (Some x) (Some y) t dropped_by p.dropped;
        number = t.number;
        owner = owners old new client (Some x) (Some y) t;
        to_come = λ n o e calls reply from l. subst (λ m. MayComeOf m calls reply from) (command_stays old new client (Some x) (Some y) t n) l;
        out = λ s. refl;
        holds = λ s k. refl;
        found = λ n o e. refl;
        turn = refl;
        version = ap version_by t.limits;
      };
    }),
    t.limits,
    λ s. refl,
  ),
)

new_front : (x : Client) → IsNewClient x → front_by (Some x) ≡ start_front
new_front x n i = record { place = n.stream i; index = n.index i; waits = n.waits i }

new_queue : (x : Client) → IsNewClient x → (slots : List (Slot dialect)) → IsQueue None slots → IsQueue (Some x) slots
new_queue x n [] e = (subst (λ l. ArePendingSlots l []) (sym n.queue) tt, n.waits, tt)
new_queue x n (slot ∷ slots) e = absurd cc

-- a new client has a place that was free
pub opens : (old new : Core) (client : ℕ) (x : Client) → Turns old new client None (Some x) → IsNewClient x → Opens old client new
opens old new client x t n =
    record {
      free = t.was;
      opened = (x, t.is);
      others = t.others;
      goes = λ beside fits. (
        beside,
        [],
        still_fits old new client None (Some x) t beside fits (new_queue x n) (λ n command slots h. absurd h),
        record { at = refl; holds = refl; found = refl; turn = refl },
        refl,
        walks_lead (tree_words beside.at) (bars_of old beside) (state_of old beside) (state_of new beside) [] (record {
          may = tt;
          like = record {
            front = stays old new client None (Some x) t front_by (new_front x n);
            queue = λ c. refl;
            output = stays old new client None (Some x) t output_by n.output;
            dropped = stays old new client None (Some x) t dropped_by n.dropped;
            number = t.number;
            owner = owners old new client None (Some x) t;
            to_come = λ n o e calls reply from l. subst (λ m. MayComeOf m calls reply from) (command_stays old new client None (Some x) t n) l;
            out = λ s. refl;
            holds = λ s k. refl;
            found = λ n o e. refl;
            turn = refl;
            version = ap version_by t.limits;
          };
        }),
        t.limits,
        λ s. refl,
      );
    }

-- none of the client's commands is under way
none_is : (client : ℕ) (entries : List (ℕ × Command)) (n : ℕ) (o : Owner) → list_any (λ (x : Command). nat_eq x.client client) (map (λ e. e.1) entries) ≡ false → option_map owner_by (assoc.lookup (nat_eq n) entries) ≡ Some o → nat_eq client o.client ≡ false
none_is client [] n o e f = absurd cc
none_is client (x ∷ rest) n o e f =
    (elim (nat_eq n x.0) as (λ b. option_map owner_by (cond b (Some x.1) (assoc.lookup (nat_eq n) rest)) ≡ Some o → nat_eq client o.client ≡ false) [
      | true ↦ λ f. differs (nat_eq x.1.client client) _ e (λ d. other x.1.client o.client d (ap client_in f))
      | false ↦ λ f. differs (nat_eq x.1.client client) _ e (λ d. none_is client rest n o (rest_false (nat_eq x.1.client client) _ d e) f)
    ]) f
  where
    client_in : Option Owner → ℕ
    client_in None = 0
    client_in (Some o) = o.client

    differs : (b r : Bool) {A : Type 0} → (b || r) ≡ false → (b ≡ false → A) → A
    differs true r e f = absurd cc
    differs false r e f = f refl

    rest_false : (b r : Bool) → b ≡ false → (b || r) ≡ false → r ≡ false
    rest_false true r d e = absurd cc
    rest_false false r d e = e

    other : (c d : ℕ) → nat_eq c client ≡ false → c ≡ d → nat_eq client d ≡ false
    other c d e f =
        (elim (nat_eq client d) as (λ b. nat_eq client d ≡ b → b ≡ false) [
          | true ↦ λ same. absurd (let s = eq-eqb c client (f ∙ sym (eqb-true client d same)) in no s e)
          | false ↦ λ same. refl
        ]) refl
      where
        no : {b : Bool} → b ≡ true → b ≡ false → ⊥
        no e f = absurd cc

-- a client's place was freed
pub closes : (old new : Core) (client : ℕ) (x : Client) → Turns old new client (Some x) None → has_commands client old.commands ≡ false → new.lines ≡ others client old.lines → ClosesClient old client new
closes old new client x t none left = (
  t.is,
  λ beside fits.
      let queue : ℕ → List (Slot dialect) = λ c. cond (nat_eq client c) [] (beside.queue c) in
      let beside' : Beside = record beside { queue = queue } in (
        beside',
        Resets client ∷ [],
        record {
          queues = λ c. (elim (nat_eq client c) as (λ b. nat_eq client c ≡ b → IsQueue (client_at new c) (cond b [] (beside.queue c))) [
            | true ↦ λ same. subst (λ d. IsQueue (client_at new d) []) (eqb-true client c same) (subst (λ o. IsQueue o []) (sym t.is) refl)
            | false ↦ λ differs. subst (λ o. IsQueue o (beside.queue c)) (sym (t.others c differs)) (fits.queues c)
          ]) refl;
          held = λ n command e.
              let was = sym (command_stays old new client (Some x) None t n) ∙ e in
              let differs : nat_eq client command.client ≡ false = none_is client old.commands.entries n (owner_by command) none (ap (option_map owner_by) was) in
              held_then (client_at old) (client_at new) client (Some x) None t.was t.is t.others beside.queue queue n command (λ same _. contrary (nat_eq client command.client) same differs) (λ d. ap (λ b. cond b [] (beside.queue command.client)) d) (fits.held n command was);
          numbered = λ c n lt. (elim (nat_eq client c) as (λ b. slot_in (cond b [] (beside.queue c)) n ≡ None) [
            | true ↦ refl
            | false ↦ fits.numbered c n (subst (λ m. m < n) t.number lt)
          ]);
          to_come = λ n command e. on_its_way_kept old new (beside.at n command.ask.key) command t.limits (fits.to_come n command (sym (command_stays old new client (Some x) None t n) ∙ e));
          tickets = λ s n. fits.tickets s n ∙ ap (λ o. ticket_by o n s) (sym (command_stays old new client (Some x) None t n));
          single = fits.single;
          numbers = λ n lt. command_stays old new client (Some x) None t n ∙ fits.numbers n (subst (λ m. m < n) t.number lt);
          unseen = λ n lt. fits.unseen n (subst (λ m. m < n) t.number lt);
          trees = λ n key lt. fits.trees n key (subst (λ m. m < n) t.number lt) ∙ ap (λ r. tree_at r key) (sym t.tree);
        },
        record { at = refl; holds = refl; found = refl; turn = refl },
        refl,
        walks_lead (tree_words beside.at) (bars_of old beside) (state_of old beside) (state_of new beside') (Resets client ∷ []) (record {
          may = (λ n o e. none_is client old.commands.entries n o none e, tt);
          like = record {
            front = changed old new client (Some x) None t front_by (λ f. start_front) refl;
            queue = λ c. refl;
            output = changed old new client (Some x) None t output_by (λ l. []) refl;
            dropped = changed old new client (Some x) None t dropped_by (λ b. false) refl;
            number = t.number;
            owner = owners old new client (Some x) None t;
            to_come = λ n o e calls reply from l. subst (λ m. MayComeOf m calls reply from) (command_stays old new client (Some x) None t n) l;
            out = λ s. refl;
            holds = λ s k. refl;
            found = λ n o e. refl;
            turn = refl;
            version = ap version_by t.limits;
          };
        }),
        t.limits,
        λ s. refl,
      ),
  left,
)

-- other clients are those of other places
pub others_by : (client : ℕ) (old new : slab.Slab Client) → ((other : ℕ) → other ≢ client → slab.get new other ≡ slab.get old other) → (c : ℕ) → nat_eq client c ≡ false → slab.get new c ≡ slab.get old c
others_by client old new others c differs = others c (λ same. differ (nat_eq client c) (eq-eqb client c (sym same)) differs)
  where
    differ : (b : Bool) → b ≡ true → b ≡ false → ⊥
    differ true e f = absurd cc
    differ false e f = absurd cc

-- a client was written through its place
pub written : (core : Core) (client : ℕ) (x y : Client) → client_at core client ≡ Some x → Turns core (record core { clients = slab.with_value core.clients client y }) client (Some x) (Some y)
written core client x y was =
    let u = Updates-with_value core.clients client y (subst IsSome (sym was) refl) in
    record {
      was = was;
      is = u.changed;
      others = others_by client core.clients (slab.with_value core.clients client y) u.others;
      commands = λ n. refl;
      tree = refl;
      limits = refl;
      number = refl;
    }

-- what was there, written back, changes nothing
set_same : {T : Type 0} (xs : List (Option T)) (i : ℕ) (x : T) → slice_index_or xs i None ≡ Some x → slice_set xs i (Some x) ≡ xs
set_same [] i x e = absurd cc
set_same (y ∷ ys) zero x e = ap (λ z. z ∷ ys) (sym e)
set_same (y ∷ ys) (suc i) x e = ap (λ l. y ∷ l) (set_same ys i x e)

-- a client took a piece, or none
pub fed : (old : Core) (client : ℕ) (x y : Client) (bytes : List ℕ) → client_at old client ≡ Some x → TakesInPiece x bytes y → Feeds old client bytes (record old { clients = slab.with_value old.clients client y })
fed old client x y bytes was takes =
    subst (λ b. FeedsOpen b old client bytes (record old { clients = slab.with_value old.clients client y })) (sym (ap dropped_by was)) (by_drop x.dropped refl takes)
  where
    by_drop : (b : Bool) → x.dropped ≡ b → MatchBool b (y ≡ x) (TakesPiece x bytes y) → FeedsOpen b old client bytes (record old { clients = slab.with_value old.clients client y })
    by_drop true e same = ap (λ z. record old { clients = slab.with_value old.clients client z }) same ∙ ap (λ l. record old { clients = record old.clients { slots = l } }) (set_same old.clients.slots client x was)
    by_drop false e takes = feeds old (record old { clients = slab.with_value old.clients client y }) client x y bytes (written old client x y was) e takes
