-- A command that the core began is one that begins.
use Rattle.std.proofs.Common.{◌≡◌, ◌↔◌, ℕ, ◌+◌, ◌<◌, Bool, true, false, cond, ◌||◌, List, [], ◌∷◌, ◌++◌, Option, Some, None, option_map, refl, sym, ap, ◌∙◌, subst, arith, nat_eq}
use Rattle.std.proofs.lemmas.Bool.{eqb-true, eq-eqb}
use Rattle.std.specs.Cmp.Lexicographic.{pointwise, nat_list_eq_equiv}
use Rattle.std.specs.List.{list_any}
use Rattle.indexmap.specs.IndexMap as map
use Rattle.mc_types.specs.declared.answer.Answer.{Answer}
use Rattle.mc_types.specs.declared.call.Origin.TheVariants.{Client as OfClient}
use Rattle.fresh_runs.specs.Calls.{Call}
use Rattle.fresh_runs.specs.Log.{Part}
use Rattle.wire_parts.specs.Stream.{Place}
use Rattle.fresh_runs.specs.Overlap.{Front, Slot, Owner, Starts, is_last, is_last_slot, after_start, part_slot, slot_in, IsNext, ticket_in}
use Rattle.fresh_runs.specs.OverlapState.{Either, IsApartNow}
use Rattle.fresh_runs.proofs.OverlapSteps.{walks_lead}
use Rattle.route_tree.specs.At.{tree_at}
use Rattle.route_tree.specs.Word.{Given, PlanWord, tree_words}
use Rattle.route_tree.proofs.Going.{each_ask_has_a_word}
use Rattle.route_job.specs.Jobs.{Comes}
use Rattle.route_job.proofs.Executing.{good_at}
use Rattle.mc_types.specs.declared.ask.Ask.{Ask}
use Rattle.core_client.specs.declared.client.Pending.{Pending}
use Rattle.core_client.specs.declared.client.Client.{Client}
use Rattle.core_commands.specs.declared.command.Command.{Command}
use Rattle.core_proxy.specs.declared.proxy.Core.{Core}
use Rattle.core_proxy.specs.Steps.{BeginsCommand}
use Rattle.core_commands.specs.declared.claim.Claim.{Claim}
use Rattle.core_proxy.specs.Claims.{claim_by, clears_key, copies_key}
use Rattle.core_client.specs.Clients.{has_own}
use Rattle.core_client.specs.ClientState.{dialect, front_by, output_by, dropped_by, IsSlot}
use Rattle.core_proxy.specs.CoreState.{bars_of, client_at, command_at, Beside, owner_by, MayComeOf, state_of, is_call, ArePendingSlots, IsAtFront, IsWaitedFor, IsQueue, IsHeld, IsOnItsWay, ticket_by, FitsBeside, GoesByOne, version_by}
use Rattle.core_commands.proofs.Commands.{some_command}
use Rattle.core_proxy.proofs.Commands.{by_number}
use Rattle.core_proxy.proofs.Claims.{own_there, none_of}
use Rattle.core_proxy.proofs.Clients.{on_its_way_kept}
use Rattle.core_proxy.proofs.Slots.{in_front, at_end, none_more, waited_more, held_then}
use Rattle.core_proxy.proofs.Tickets.{contrary}

slots_more : (xs : List Pending) (ys : List (Slot dialect)) (x : Pending) (y : Slot dialect) → ArePendingSlots xs ys → IsSlot x y → ArePendingSlots (xs ++ x ∷ []) (ys ++ y ∷ [])
slots_more [] [] x y h one = (one, tt)
slots_more [] (b ∷ ys) x y h one = absurd h
slots_more (a ∷ xs) [] x y h one = absurd h
slots_more (a ∷ xs) (b ∷ ys) x y h one = (h.0, slots_more xs ys x y h.1 one)

-- the last of a queue is at the front, whatever stands before it
last_front : (y : Client) (slots : List (Slot dialect)) (slot : Slot dialect) → IsAtFront y (slot ∷ []) → IsAtFront y (slots ++ slot ∷ [])
last_front y [] slot h = h
last_front y (a ∷ []) slot h = h
last_front y (a ∷ b ∷ slots) slot h = last_front y (b ∷ slots) slot h

module _ (old new : Core) (client : ℕ) (x y : Client) (part : Part dialect) (pending : Pending) (command : Command) (r : BeginsCommand old new client x y part pending command) where
  abbrev slot : Slot dialect
  slot = part_slot (old.number + 1) part

  abbrev longer : (ℕ → List (Slot dialect)) → ℕ → List (Slot dialect)
  longer queue c = cond (nat_eq client c) (queue c ++ slot ∷ []) (queue c)

  abbrev before : Front dialect
  before = front_by (Some x)

  waiting : y.waits ≡ true → (slot.reply ≡ None) × (is_last_slot slot ≡ false) × (slot.index ≡ y.index) × ((next : Place) × dialect.Reads y.stream slot.message next)
  waiting waits =
      (elim (is_last part) as (λ b. is_last part ≡ b → ◌≡◌ {A = Front dialect} (front_by (Some y)) (cond b (record { place = part.next; index = 0; waits = false }) (record { place = before.place; index = before.index; waits = true })) → (slot.reply ≡ None) × (is_last part ≡ false) × (slot.index ≡ y.index) × ((next : Place) × dialect.Reads y.stream slot.message next)) [
        | true ↦ λ _ e. contrary y.waits waits (ap (λ (f : Front dialect). f.waits) e)
        | false ↦ λ more e. (refl, more, r.next.index ∙ ap (λ (f : Front dialect). f.index) (sym e), (part.next, subst (λ p. dialect.Reads p part.message part.next) (ap (λ (f : Front dialect). f.place) (sym e)) r.next.reads))
      ]) refl r.front

  now_waits : is_last part ≡ false → y.waits ≡ true
  now_waits more = ap (λ (f : Front dialect). f.waits) (r.front ∙ ap (λ b. cond b (record { place = part.next; index = 0; waits = false }) (record { place = before.place; index = before.index; waits = true })) more)

  queues_then : (beside : Beside) → FitsBeside old beside → (c : ℕ) → IsQueue (client_at new c) (longer beside.queue c)
  queues_then beside fits c =
      (elim (nat_eq client c) as (λ b. nat_eq client c ≡ b → IsQueue (client_at new c) (cond b (beside.queue c ++ slot ∷ []) (beside.queue c))) [
        | true ↦ λ same. subst (λ d. IsQueue (client_at new d) (beside.queue d ++ slot ∷ [])) (eqb-true client c same)
            (let a : ArePendingSlots x.queue.items (beside.queue client) × IsAtFront x (beside.queue client) × IsWaitedFor x.waits (beside.queue client) = subst (λ o. IsQueue o (beside.queue client)) r.was (fits.queues client) in
            subst (λ o. IsQueue o (beside.queue client ++ slot ∷ [])) (sym r.is)
            (subst (λ l. ArePendingSlots l (beside.queue client ++ slot ∷ [])) (sym r.queue) (slots_more x.queue.items (beside.queue client) pending slot a.0 r.slot), last_front y (beside.queue client) slot waiting, waited_more x.waits y.waits (beside.queue client) slot r.next.ready a.2 (λ _ more. now_waits more)))
        | false ↦ λ differs. subst (λ o. IsQueue o (beside.queue c)) (sym (r.others c differs)) (fits.queues c)
      ]) refl

  just_above : old.number < old.number + 1
  just_above = omega arith

  tickets_then : (beside : Beside) → FitsBeside old beside → (s n : ℕ) → ticket_in (beside.out s) n ≡ ticket_by (command_at new n) n s
  tickets_then beside fits s n =
      fits.tickets s n ∙ (elim (nat_eq (old.number + 1) n) as (λ b. nat_eq (old.number + 1) n ≡ b → ticket_by (command_at old n) n s ≡ ticket_by (cond b (Some command) (command_at old n)) n s) [
        | true ↦ λ same. ap (λ o. ticket_by o n s) (fits.numbers n (subst (λ m. old.number < m) (eqb-true (old.number + 1) n same) just_above)) ∙ sym (none_out n)
        | false ↦ λ differs. refl
      ]) refl ∙ ap (λ o. ticket_by o n s) (sym (r.commands n))
    where
      none_out : (n : ℕ) → ticket_by (Some command) n s ≡ None
      none_out n = by command.is_out (is_call command.job.pending) _ r.idle
        where
          by : (b c : Bool) {A : Type 0} (a : Option A) → b ≡ false → cond (cond b c false) a None ≡ None
          by true c a e = contrary true refl e
          by false c a e = refl

  numbers_then : (beside : Beside) → FitsBeside old beside → (n : ℕ) → new.number < n → command_at new n ≡ None
  numbers_then beside fits n lt =
      let l : old.number + 1 < n = subst (λ m. m < n) r.number lt in
      r.commands n ∙ (elim (nat_eq (old.number + 1) n) as (λ b. nat_eq (old.number + 1) n ≡ b → cond b (Some command) (command_at old n) ≡ None) [
        | true ↦ λ same. absurd (let e = eqb-true (old.number + 1) n same in omega (arith, e, l))
        | false ↦ λ _. fits.numbers n (omega (arith, l))
      ]) refl

  owner_like : (n : ℕ) → option_map owner_by (command_at new n) ≡ cond (nat_eq (old.number + 1) n) (Some (record { client = client; ask = part.ask })) (option_map owner_by (command_at old n))
  owner_like n = ap (option_map owner_by) (r.commands n) ∙ (elim (nat_eq (old.number + 1) n) as (λ b. option_map owner_by (cond b (Some command) (command_at old n)) ≡ cond b (Some (record { client = client; ask = part.ask })) (option_map owner_by (command_at old n))) [
    | true ↦ ap Some r.owner
    | false ↦ refl
  ])

  to_come_like : (beside : Beside) → FitsBeside old beside → (n : ℕ) (calls : List Call) (reply : Answer) (from : Option ℕ) → MayComeOf (command_at new n) calls reply from
      → Either (nat_eq (old.number + 1) n) (tree_words beside.at (old.number + 1) part.ask calls reply from) (MayComeOf (command_at old n) calls reply from)
  to_come_like beside fits n calls reply from l =
      (elim (nat_eq (old.number + 1) n) as (λ b. MayComeOf (cond b (Some command) (command_at old n)) calls reply from → Either b (tree_words beside.at (old.number + 1) part.ask calls reply from) (MayComeOf (command_at old n) calls reply from)) [
        | true ↦ λ l.
            let w = (r.job calls (record { reply = reply; from = from })).0 l in
            (r.asks, subst (λ plan. PlanWord plan part.ask OfClient 0 calls (record { reply = reply; from = from })) (sym (fits.trees (old.number + 1) part.ask.key just_above)) w)
        | false ↦ λ l. l
      ]) (subst (λ o. MayComeOf o calls reply from) (r.commands n) l)

  -- the command that an owner stands for
  owned : (n : ℕ) (o : Owner) → option_map owner_by (command_at old n) ≡ Some o → (c : Command) × (command_at old n ≡ Some c) × (owner_by c ≡ o)
  owned n o e = by (command_at old n) refl e
    where
      by : (m : Option Command) → command_at old n ≡ m → option_map owner_by m ≡ Some o → (c : Command) × (command_at old n ≡ Some c) × (owner_by c ≡ o)
      by None is e = absurd cc
      by (Some c) is e = (c, is, cc)

  -- none of the client's own is under way on its key
  first_is : (beside : Beside) → FitsBeside old beside → (n : ℕ) (o : Owner) → option_map owner_by (command_at old n) ≡ Some o → o.client ≡ client → o.ask.key ≡ part.ask.key → ⊥
  first_is beside fits n o e own key =
      let c = owned n o e in
      let at : c.0.client ≡ client = ap (λ (p : Owner). p.client) c.2 ∙ own in
      let held : IsHeld n c.0 (Some x) (beside.queue client) = subst (λ q. IsHeld n c.0 q (beside.queue client)) r.was (subst (λ d. IsHeld n c.0 (client_at old d) (beside.queue d)) at (fits.held n c.0 c.1)) in
      let s = held r.served in
      let slots = subst (λ q. IsQueue q (beside.queue client)) r.was (fits.queues client) in
      let there = own_there part.ask.key x.queue.items (beside.queue client) n s.0 slots.0 s.1 s.3 (ap (λ (k : Ask). k.key) (s.2 ∙ ap (λ (p : Owner). p.ask) c.2) ∙ key) in
      contrary (has_own part.ask.key x.queue.items) there r.first

  -- what the command claims, by the plain tree that it runs by
  claim_then : (beside : Beside) → FitsBeside old beside → command.claim ≡ claim_by old.limits.sharing part.ask.op (beside.at (old.number + 1) part.ask.key)
  claim_then beside fits = r.claim ∙ ap (claim_by old.limits.sharing part.ask.op) (sym (fits.trees (old.number + 1) part.ask.key just_above))

  or_left : (a b : Bool) → (a || b) ≡ false → a ≡ false
  or_left true b e = absurd cc
  or_left false b e = refl

  or_right : (a b : Bool) → (a || b) ≡ false → b ≡ false
  or_right true b e = absurd cc
  or_right false b e = e

  when_true : (a b : Bool) → a ≡ true → cond a b false ≡ false → b ≡ false
  when_true true b is e = e
  when_true false b is e = absurd cc

  -- each command under way on its key may stand beside the command that begins
  apart_is : (beside : Beside) → FitsBeside old beside → IsApartNow (bars_of old beside) (state_of old beside) (old.number + 1) part.ask
  apart_is beside fits n o e key =
      let c = owned n o e in
      let claim = claim_then beside fits in
      let its : c.0.claim ≡ claim_by old.limits.sharing o.ask.op (beside.at n o.ask.key) = (fits.to_come n c.0 c.1).claim ∙ ap (λ (p : Owner). claim_by old.limits.sharing p.ask.op (beside.at n p.ask.key)) c.2 in
      let on : pointwise nat_eq c.0.ask.key part.ask.key ≡ true = ap (λ k. pointwise nat_eq k part.ask.key) (ap (λ (p : Owner). p.ask.key) c.2 ∙ key) ∙ nat_list_eq_equiv.refl part.ask.key in
      let any_copies = list_any (copies_key part.ask.key) (map.values old.commands) in
      let any_clears = list_any (clears_key part.ask.key) (map.values old.commands) in (
        (λ bars.
            let copies : command.claim.copies ≡ true = ap (λ (k : Claim). k.copies) claim ∙ bars.0 in
            let clears : c.0.claim.clears ≡ true = ap (λ (k : Claim). k.clears) its ∙ bars.1 in
            contrary (clears_key part.ask.key c.0) ((λ i. cond (clears i) (on i) false))
            (none_of (clears_key part.ask.key) old.commands.entries n c.0 (when_true command.claim.copies any_clears copies (or_right (cond command.claim.clears any_copies false) _ r.apart)) c.1)),
        (λ bars.
            let clears : command.claim.clears ≡ true = ap (λ (k : Claim). k.clears) claim ∙ bars.1 in
            let copies : c.0.claim.copies ≡ true = ap (λ (k : Claim). k.copies) its ∙ bars.0 in
            contrary (copies_key part.ask.key c.0) ((λ i. cond (copies i) (on i) false))
            (none_of (copies_key part.ask.key) old.commands.entries n c.0 (when_true command.claim.clears any_copies clears (or_left (cond command.claim.clears any_copies false) _ r.apart)) c.1)),
      )

  found_like : (beside : Beside) → FitsBeside old beside → (n : ℕ) → beside.found n ≡ cond (nat_eq (old.number + 1) n) [] (beside.found n)
  found_like beside fits n =
      (elim (nat_eq (old.number + 1) n) as (λ b. nat_eq (old.number + 1) n ≡ b → beside.found n ≡ cond b [] (beside.found n)) [
        | true ↦ λ same. fits.unseen n (subst (λ m. old.number < m) (eqb-true (old.number + 1) n same) just_above)
        | false ↦ λ _. refl
      ]) refl

  more_numbers : (n : ℕ) → new.number < n → old.number < n
  more_numbers n lt = let l : old.number + 1 < n = subst (λ m. m < n) r.number lt in omega (arith, l)

  numbered_then : (beside : Beside) → FitsBeside old beside → (c n : ℕ) → new.number < n → slot_in (longer beside.queue c) n ≡ None
  numbered_then beside fits c n lt =
      let l : old.number + 1 < n = subst (λ m. m < n) r.number lt in
      let none = fits.numbered c n (omega (arith, l)) in
      let other : nat_eq (old.number + 1) n ≡ false =
      (elim (nat_eq (old.number + 1) n) as (λ b. nat_eq (old.number + 1) n ≡ b → b ≡ false) [
        | true ↦ λ same. absurd (let e = eqb-true (old.number + 1) n same in omega (arith, e, l))
        | false ↦ λ _. refl
      ]) refl in
      elim (nat_eq client c) as (λ b. slot_in (cond b (beside.queue c ++ slot ∷ []) (beside.queue c)) n ≡ None) [
        | true ↦ none_more (beside.queue c) slot n none other
        | false ↦ none
      ]

  held_then_too : (beside : Beside) → FitsBeside old beside → (n : ℕ) (c : Command) → command_at new n ≡ Some c → IsHeld n c (client_at new c.client) (longer beside.queue c.client)
  held_then_too beside fits =
      by_number old new (old.number + 1) (Some command) r.commands (λ n c. IsHeld n c (client_at new c.client) (longer beside.queue c.client))
      (λ c e. subst (λ (c : Command). IsHeld (old.number + 1) c (client_at new c.client) (longer beside.queue c.client)) (some_command e) mine)
      (λ n c _ e. held_then (client_at old) (client_at new) client (Some x) (Some y) r.was r.is r.others beside.queue (longer beside.queue) n c
      (λ same h served. let s = h (sym r.dropped ∙ served) in (s.0, ap (λ b. slot_in (cond b (beside.queue c.client ++ slot ∷ []) (beside.queue c.client)) n) same ∙ in_front (beside.queue c.client) slot s.0 n s.1, s.2, s.3))
      (λ differs. ap (λ b. cond b (beside.queue c.client ++ slot ∷ []) (beside.queue c.client)) differs) (fits.held n c e))
    where
      mine : IsHeld (old.number + 1) command (client_at new command.client) (longer beside.queue command.client)
      mine = subst (λ d. IsHeld (old.number + 1) command (client_at new d) (longer beside.queue d)) (sym (ap (λ (o : Owner). o.client) r.owner)) (subst (λ o. IsHeld (old.number + 1) command o (longer beside.queue client)) (sym r.is) (λ served. (
        slot,
        ap (λ b. slot_in (cond b (beside.queue client ++ slot ∷ []) (beside.queue client)) (old.number + 1)) (eq-eqb client client refl) ∙ at_end (beside.queue client) slot (old.number + 1) (fits.numbered client (old.number + 1) just_above) (eq-eqb (old.number + 1) (old.number + 1) refl),
        sym (ap (λ (o : Owner). o.ask) r.owner),
        refl,
      )))

  on_its_way_then : (beside : Beside) → FitsBeside old beside → (n : ℕ) (c : Command) → command_at new n ≡ Some c → IsOnItsWay old.limits.sharing (beside.at n c.ask.key) c
  on_its_way_then beside fits =
      by_number old new (old.number + 1) (Some command) r.commands (λ n c. IsOnItsWay old.limits.sharing (beside.at n c.ask.key) c)
      (λ c e. subst (λ (c : Command). IsOnItsWay old.limits.sharing (beside.at (old.number + 1) c.ask.key) c) (some_command e) mine)
      (λ n c _ e. fits.to_come n c e)
    where
      same : command.ask ≡ part.ask
      same = ap (λ (o : Owner). o.ask) r.owner

      claim_is : command.claim ≡ claim_by old.limits.sharing command.ask.op (tree_at old.tree command.ask.key)
      claim_is = r.claim ∙ ap (λ (k : Ask). claim_by old.limits.sharing k.op (tree_at old.tree k.key)) (sym same)

      plan : tree_at old.tree command.ask.key ≡ beside.at (old.number + 1) command.ask.key
      plan = sym (fits.trees (old.number + 1) command.ask.key just_above)

      comes : (calls : List Call) (given : Given) → Comes command.job calls given ↔ PlanWord (tree_at old.tree command.ask.key) command.ask OfClient 0 calls given
      comes = subst (λ (k : Ask). (calls : List Call) (given : Given) → Comes command.job calls given ↔ PlanWord (tree_at old.tree k.key) k OfClient 0 calls given) (sym same) r.job

      mine : IsOnItsWay old.limits.sharing (beside.at (old.number + 1) command.ask.key) command
      mine =
          let good = (good_at old.tree command.ask.key r.tree_is).good in
          let w = each_ask_has_a_word (tree_at old.tree command.ask.key) command.ask OfClient 0 good in
          subst (λ p. IsOnItsWay old.limits.sharing p command) plan (record { claim = claim_is; good = good; before = []; rest = comes; some = (w.0, w.1, (comes w.0 w.1).1 w.2) })

  same_of : {A : Type 0} (f : Option Client → A) → f (Some y) ≡ f (Some x) → (c : ℕ) → f (client_at new c) ≡ f (client_at old c)
  same_of f e c =
      (elim (nat_eq client c) as (λ b. nat_eq client c ≡ b → f (client_at new c) ≡ f (client_at old c)) [
        | true ↦ λ same. subst (λ d. f (client_at new d) ≡ f (client_at old d)) (eqb-true client c same) (ap f r.is ∙ e ∙ ap f (sym r.was))
        | false ↦ λ differs. ap f (r.others c differs)
      ]) refl

  -- the command begins
  pub begins : GoesByOne old (Starts client (old.number + 1) part) new
  begins = λ beside fits.
      let beside' : Beside = record beside { queue = longer beside.queue } in (
        beside',
        Starts client (old.number + 1) part ∷ [],
        record {
          queues = queues_then beside fits;
          held = held_then_too beside fits;
          numbered = numbered_then beside fits;
          to_come = λ n c e. on_its_way_kept old new (beside.at n c.ask.key) c r.limits (on_its_way_then beside fits n c e);
          tickets = tickets_then beside fits;
          single = fits.single;
          numbers = numbers_then beside fits;
          unseen = λ n lt. fits.unseen n (more_numbers n lt);
          trees = λ n key lt. fits.trees n key (more_numbers n lt) ∙ ap (λ t. tree_at t key) (sym r.tree);
        },
        record { at = refl; holds = refl; found = refl; turn = refl },
        refl,
        walks_lead (tree_words beside.at) (bars_of old beside) (state_of old beside) (state_of new beside') (Starts client (old.number + 1) part ∷ []) (record {
          may = (
            (
              subst (λ o. IsNext (front_by o) part) (sym r.was) r.next,
              first_is beside fits,
              apart_is beside fits,
              refl,
              ap dropped_by r.was ∙ r.served,
            ),
            tt,
          );
          like = record {
            front = λ c. (elim (nat_eq client c) as (λ b. nat_eq client c ≡ b → front_by (client_at new c) ≡ cond b (after_start (front_by (client_at old c)) part) (front_by (client_at old c))) [
              | true ↦ λ same. subst (λ d. front_by (client_at new d) ≡ after_start (front_by (client_at old d)) part) (eqb-true client c same) (ap front_by r.is ∙ r.front ∙ ap (λ o. after_start (front_by o) part) (sym r.was))
              | false ↦ λ differs. ap front_by (r.others c differs)
            ]) refl;
            queue = λ c. refl;
            output = same_of output_by r.output;
            dropped = same_of dropped_by r.dropped;
            number = r.number;
            owner = owner_like;
            to_come = λ n o e calls reply from l. to_come_like beside fits n calls reply from l;
            out = λ s. refl;
            holds = λ s k. refl;
            found = λ n o e. found_like beside fits n;
            turn = refl;
            version = ap version_by r.limits;
          };
        }),
        r.limits,
        λ s. refl,
      )
