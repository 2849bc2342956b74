-- What is done for a client is a step of the core.
use Rattle.std.proofs.Common.{◌≡◌, ◌↔◌, ℕ, ◌+◌, ◌<◌, Bool, true, false, cond, if◌then◌else◌, List, [], ◌∷◌, ◌++◌, length, length-append, arith, inl, inr, Option, Some, None, option_map, MatchOption, refl, sym, ap, ◌∙◌, subst, nat_eq}
use Rattle.std.proofs.lemmas.Bool.{eqb-true, eq-eqb}
use Rattle.std.proofs.lemmas.List.{append_assoc, map-append}
use Rattle.std.specs.Prelude.{IsTrue, Result, Ok, Err, OnOk, OnErr, IfOk, IfErr, is_err}
use Rattle.wire_parts.specs.Sending.{bytes_of}
use Rattle.mc_types.specs.Asks.{IsAsk}
use Rattle.mc_types.specs.Acknowledged.{Acknowledges}
use Rattle.mc_types.specs.declared.answer.Answer.{Answer}
use Rattle.mc_types.specs.declared.ask.Ask.{Ask}
use Rattle.mc_types.specs.declared.call.Origin.TheVariants.{Client as OfClient}
use Rattle.fresh_runs.specs.Calls.{Call}
use Rattle.fresh_runs.specs.Overlap.{Slot, Owner, Entry, Starts, Sends, Ends, Shows, Passes, Drops}
use Rattle.fresh_runs.specs.Log.{Part}
use Rattle.fresh_runs.proofs.OverlapSteps.{walks_lead}
use Rattle.route_tree.specs.At.{tree_at}
use Rattle.route_tree.specs.Route.{IsTree}
use Rattle.route_tree.specs.Word.{Given, PlanWord, tree_words}
use Rattle.route_job.specs.Jobs.{server_of_pending, Comes, IsCalling, IsDone}
use Rattle.route_job.specs.Rest.{ask_under, origin_under}
use Rattle.wire_stream.specs.declared.connection.front.Passed.{Passed}
use Rattle.core_client.specs.declared.client.Client.{Client}
use Rattle.core_commands.specs.declared.command.Command.{Command}
use Rattle.core_proxy.specs.declared.proxy.Core.{Core}
use Rattle.core_client.specs.declared.client.Pending.{Pending}
use Rattle.core_proxy.specs.declared.fault.CoreFault.{CoreFault}
use Rattle.core_proxy.specs.declared.fault.CoreFault.TheVariants as faults
use Rattle.core_proxy.specs.declared.note.Note.{Note}
use Rattle.core_proxy.specs.declared.note.Poll.{Poll}
use Rattle.core_proxy.specs.declared.note.Poll.TheVariants as polls
use Rattle.core_client.specs.declared.replying.ReplyPlace.{ReplyPlace}
use Rattle.core_commands.specs.declared.ticket.Ticket.{Ticket}
use Rattle.core_proxy.specs.Steps.{Turns}
use Rattle.core_client.specs.Fronts.{ClientStays, PassesFront, BeginsKey}
use Rattle.core_commands.specs.Ready.{IsIdle}
use Rattle.core_commands.specs.Begun.{IsBegun, IsTicketFor}
use Rattle.core_proxy.specs.Polls.{ForClient, IsPassed, NothingHappened, HasBegun, BeginsAt, CanSend, IsTicketOf, IsSent, CommandIsEnded, ClientIsServed, AreShown, HasShownAll, queue_len, ShowsNext, StopsFirst, StopsAfter, IsBelowDepth, BeginsBelow, MayAsk, NoCommandGoesOn, IsNextAsk, bars, stands_before, StandsStill, StandsInLine, Acts, Polls, IsPolled, IsActed, IsWhy, SoEnded, SoFar, ReadFault, Perhaps, BeginsOne, DropsAll, StopsPolling}
use Rattle.core_proxy.specs.Settles.{freed}
use Rattle.core_commands.specs.Lines as line
use Rattle.core_commands.proofs.Lines.{others_again}
use Rattle.core_client.specs.Heads.{HasNoReply, ShowsOne}
use Rattle.core_client.specs.Nexts.{HasCommand}
use Rattle.core_client.specs.Replying.{IsPlace, AnswersAt}
use Rattle.core_proxy.specs.Finishing.{CanEnd, IsNote}
use Rattle.core_client.specs.ClientState.{dialect, front_by, output_by, dropped_by}
use Rattle.core_proxy.specs.CoreState.{bars_of, client_at, command_at, owner_by, MayComeOf, state_of, is_call, ArePendingSlots, IsAtFront, IsQueue, IsHeld, IsWaitedFor, ticket_by, GoesByEntries, version_by}
use Rattle.core_proxy.specs.Claims.{claim_by, is_barred}
use Rattle.core_client.specs.Clients.{has_own}
use Rattle.core_proxy.proofs.Clients.{on_its_way_kept, stays, command_stays, still_fits, owners}
use Rattle.core_proxy.proofs.Slots.{same_held}
use Rattle.core_commands.proofs.Commands.{some_command, is_call_true}
use Rattle.core_proxy.proofs.Passing.{passes}
use Rattle.core_proxy.proofs.Beginning.{begins}
use Rattle.core_proxy.proofs.Sending.{sends}
use Rattle.core_proxy.proofs.Ending.{ends}
use Rattle.core_client.proofs.Places.{there_at, replied_at}
use Rattle.core_proxy.proofs.Showing.{shows}
use Rattle.core_proxy.proofs.Chains.{Then, goes_then, goes_as, goes_nowhere}

stays_at_front : (x y : Client) (slots : List (Slot dialect)) → ClientStays x y → IsAtFront x slots → IsAtFront y slots
stays_at_front x y [] t h = t.waits ∙ h
stays_at_front x y (slot ∷ []) t h = λ waits. let a = h (sym t.waits ∙ waits) in (a.0, a.1, a.2 ∙ sym t.index, (a.3.0, subst (λ p. dialect.Reads p slot.message a.3.0) (sym t.stream) a.3.1))
stays_at_front x y (slot ∷ next ∷ slots) t h = stays_at_front x y (next ∷ slots) t h

stays_queue : (x y : Client) (slots : List (Slot dialect)) → ClientStays x y → IsQueue (Some x) slots → IsQueue (Some y) slots
stays_queue x y slots t q = (subst (λ l. ArePendingSlots l slots) (sym t.queue) q.0, stays_at_front x y slots t q.1, subst (λ w. IsWaitedFor w slots) (sym t.waits) q.2)

-- a client of whom nothing changed
pub still_goes : (old new : Core) (client : ℕ) (x y : Client) → Turns old new client (Some x) (Some y) → ClientStays x y → GoesByEntries old NothingHappened new
still_goes old new client x y t p = λ beside fits. (
  beside,
  [],
  still_fits old new client (Some x) (Some y) t beside fits (λ slots q. stays_queue x y slots p q) (λ n command slots h. same_held x y n command slots p.dropped h),
  record { at = refl; holds = refl; found = refl; turn = refl },
  refl,
  walks_lead (tree_words beside.at) (bars_of old beside) (state_of old beside) (state_of new beside) [] (record {
    may = tt;
    like = record {
      front = stays old new client (Some x) (Some y) t front_by (λ i. record { place = p.stream i; index = p.index i; waits = p.waits i });
      queue = λ c. refl;
      output = stays old new client (Some x) (Some y) t output_by p.output;
      dropped = stays old new client (Some x) (Some y) t dropped_by p.dropped;
      number = t.number;
      owner = owners old new client (Some x) (Some y) t;
      to_come = λ n o e calls reply from l. subst (λ m. MayComeOf m calls reply from) (command_stays old new client (Some x) (Some y) t n) l;
      out = λ s. refl;
      holds = λ s k. refl;
      found = λ n o e. refl;
      turn = refl;
      version = ap version_by t.limits;
    };
  }),
  t.limits,
  λ s. refl,
)

-- what holds of a client that is there
pub of_client : (core : Core) (client : ℕ) (Is : Client → Type 0) (x : Client) → client_at core client ≡ Some x → ForClient core client Is → Is x
of_client core client Is x e h = subst (λ o. MatchOption o ⊥ Is) e h

-- a message was passed
pub passed_goes : (old new : Core) (client : ℕ) (x y : Client) (passed : Passed) → Turns old new client (Some x) (Some y) → PassesFront (version_by old.limits) x passed y → GoesByEntries old (IsPassed client passed) new
passed_goes old new client x y passed t p =
    goes_as old new (λ entries. entries ≡ Passes client p.message p.next ∷ []) (IsPassed client passed) (λ entries is. (p.message, p.next, p.told, is)) (passes old new client x y p.message p.next t p.passes)

-- nothing changed that the log knows
pub same_goes : (old new : Core) → ((c : ℕ) → client_at new c ≡ client_at old c) → ((n : ℕ) → command_at new n ≡ command_at old n) → new.tree ≡ old.tree → new.limits ≡ old.limits → new.number ≡ old.number → GoesByEntries old NothingHappened new
same_goes old new clients commands tree limits number = λ beside fits. (
  beside,
  [],
  record {
    queues = λ c. subst (λ o. IsQueue o (beside.queue c)) (sym (clients c)) (fits.queues c);
    held = λ n command e. subst (λ o. IsHeld n command o (beside.queue command.client)) (sym (clients command.client)) (fits.held n command (sym (commands n) ∙ e));
    numbered = λ c n lt. fits.numbered c n (subst (λ m. m < n) number lt);
    to_come = λ n command e. on_its_way_kept old new (beside.at n command.ask.key) command limits (fits.to_come n command (sym (commands n) ∙ e));
    tickets = λ s n. fits.tickets s n ∙ ap (λ o. ticket_by o n s) (sym (commands n));
    single = fits.single;
    numbers = λ n lt. commands n ∙ fits.numbers n (subst (λ m. m < n) number lt);
    unseen = λ n lt. fits.unseen n (subst (λ m. m < n) number lt);
    trees = λ n key lt. fits.trees n key (subst (λ m. m < n) number lt) ∙ ap (λ r. tree_at r key) (sym tree);
  },
  record { at = refl; holds = refl; found = refl; turn = refl },
  refl,
  walks_lead (tree_words beside.at) (bars_of old beside) (state_of old beside) (state_of new beside) [] (record {
    may = tt;
    like = record {
      front = λ c. ap front_by (clients c);
      queue = λ c. refl;
      output = λ c. ap output_by (clients c);
      dropped = λ c. ap dropped_by (clients c);
      number = number;
      owner = λ n. ap (option_map owner_by) (commands n);
      to_come = λ n o e calls reply from l. subst (λ m. MayComeOf m calls reply from) (commands n) l;
      out = λ s. refl;
      holds = λ s k. refl;
      found = λ n o e. refl;
      turn = refl;
      version = ap version_by limits;
    };
  }),
  limits,
  λ s. refl,
)

some_more : (before : List Pending) (pending : Pending) (now : List Pending) → now ≡ before ++ pending ∷ [] → 0 < length now
some_more before pending now e = let l = ap length e ∙ length-append before (pending ∷ []) in omega (arith, l)

-- a command began
pub begun_goes :
    (old new : Core) (client : ℕ) (x y : Client) (ask : Ask) (command : Command) → client_at old client ≡ Some x → client_at new client ≡ Some y → ((c : ℕ) → nat_eq client c ≡ false → client_at new c ≡ client_at old c)
    → x.dropped ≡ false → has_own ask.key x.queue.items ≡ false → is_barred ask.key command.claim old.commands ≡ false → command.claim ≡ claim_by old.limits.sharing ask.op (tree_at old.tree ask.key) → IsAsk ask → IsTree old.tree → IsBegun old.tree client ask command.claim command → BeginsKey x ask (old.number + 1) y
    → ((n : ℕ) → command_at new n ≡ (if nat_eq (old.number + 1) n then Some command else command_at old n)) → new.tree ≡ old.tree → new.limits ≡ old.limits → new.number ≡ old.number + 1 → new.lines ≡ line.others client old.lines → BeginsAt old client ask new
begun_goes old new client x y ask command was is others served first apart claim asks tree_is begun k commands tree limits number left =
    let part = k.part in
    let back : ask ≡ part.ask = sym k.ask_is in
    record {
      number = number;
      lines = left;
      last = record {
        command = command;
        idle = record {
          was = commands new.number ∙ ap (λ b. if b then Some command else command_at old new.number) (eq-eqb (old.number + 1) new.number (sym number));
          own = ap (λ (o : Owner). o.client) begun.owner;
          idle = ap (λ b. if b then is_call command.job.pending else false) begun.idle;
        };
        served = subst (λ o. MatchOption o ⊥ ClientIsServed) (sym is) (k.dropped ∙ served);
        some = subst (λ o. MatchOption o ⊥ HasCommand) (sym is) (some_more x.queue.items k.pending y.queue.items k.queue);
      };
      goes = goes_as old new (λ entries. entries ≡ Starts client (old.number + 1) part ∷ []) (HasBegun client new.number ask) (λ entries e. (part, k.ask_is, e ∙ ap (λ n. Starts client n part ∷ []) (sym number)))
          (begins old new client x y part k.pending command (record {
            was = was;
            is = is;
            others = others;
            next = k.next;
            served = served;
            first = subst (λ (a : Ask). has_own a.key x.queue.items ≡ false) back first;
            apart = subst (λ (a : Ask). is_barred a.key command.claim old.commands ≡ false) back apart;
            claim = claim ∙ ap (λ (a : Ask). claim_by old.limits.sharing a.op (tree_at old.tree a.key)) back;
            front = k.front;
            queue = k.queue;
            output = k.output;
            dropped = k.dropped;
            slot = k.slot;
            owner = begun.owner ∙ (λ i. record { client = client; ask = back i });
            asks = subst IsAsk back asks;
            tree_is = tree_is;
            job = subst (λ (a : Ask). (calls : List Call) (given : Given) → Comes command.job calls given ↔ PlanWord (tree_at old.tree a.key) a OfClient 0 calls given) back begun.job;
            idle = begun.idle;
            commands = commands;
            tree = tree;
            limits = limits;
            number = number;
          }));
    }

-- a call went out
pub sent_goes : (old new : Core) (number : ℕ) (can : CanSend old number) (ticket : Ticket) → IsTicketFor number can.command.job ticket → ((n : ℕ) → command_at new n ≡ (if nat_eq number n then Some (record can.command { is_out = true }) else command_at old n))
    → ((c : ℕ) → client_at new c ≡ client_at old c) → new.tree ≡ old.tree → new.limits ≡ old.limits → new.number ≡ old.number → GoesByEntries old (IsSent ticket) new
sent_goes old new number can ticket is commands clients tree limits number_is =
    let job = can.command.job in
    goes_as old new (λ entries. entries ≡ Sends number (server_of_pending job.pending) (ask_under job.frames.items job.ask) (origin_under job.frames.items OfClient) ∷ []) (IsSent ticket)
    (λ entries e. e ∙ (λ i. Sends (sym is.number_is i) (sym is.server_is i) (sym is.ask_is i) (sym is.origin_is i) ∷ []))
    (sends old new number can.command (record { was = can.was; idle = can.idle; calling = can.calling; commands = commands; clients = clients; tree = tree; limits = limits; number_is = number_is }))

-- the call that was handed out is out then
pub sent_out : (new : Core) (number : ℕ) (a : Command) (ticket : Ticket) → IsCalling a.job → IsTicketFor number a.job ticket → command_at new number ≡ Some (record a { is_out = true }) → IsTicketOf new ticket
sent_out new number a ticket calling is now =
    record {
      command = record a { is_out = true };
      was = ap (command_at new) is.number_is ∙ now;
      is = record { out = is_call_true a.job.pending calling; server_is = is.server_is; ask_is = is.ask_is; origin_is = is.origin_is };
    }

-- what holds after an error, and after none
pub when_err : {A E : Type 0} (r : Result A E) (P : Type 0) → is_err r ≡ true → OnErr r P → P
when_err (Ok a) P e h = absurd cc
when_err (Err x) P e h = h

pub when_ok : {A E : Type 0} (r : Result A E) (P : Type 0) → is_err r ≡ false → OnOk r P → P
when_ok (Ok a) P e h = h
when_ok (Err x) P e h = absurd cc

-- a command that was written back as it was
pub written_back : (old new : Core) (number : ℕ) (a : Command) → command_at old number ≡ Some a → ((n : ℕ) → command_at new n ≡ cond (nat_eq number n) (Some a) (command_at old n)) → ((c : ℕ) → client_at new c ≡ client_at old c) → new.tree ≡ old.tree → new.limits ≡ old.limits → new.number ≡ old.number → GoesByEntries old NothingHappened new
written_back old new number a was commands clients tree limits number_is =
    same_goes old new clients (λ n. commands n ∙ (elim (nat_eq number n) as (λ b. nat_eq number n ≡ b → cond b (Some a) (command_at old n) ≡ command_at old n) [
      | true ↦ λ same. sym was ∙ ap (command_at old) (eqb-true number n same)
      | false ↦ λ differs. refl
    ]) refl) tree limits number_is

-- a command ended
pub ended_goes :
    (old new : Core) (client number : ℕ) (x y : Client) (can : CanEnd old client number) (place : ReplyPlace) (is : IsPlace x number place) (given : Given) (ask : Ask) (note : Note) (reply : Answer)
    → client_at old client ≡ Some x → client_at new client ≡ Some y → ((c : ℕ) → nat_eq client c ≡ false → client_at new c ≡ client_at old c) → x.dropped ≡ false
    → Comes can.command.job [] given → ask ≡ can.command.ask → IsNote number ask given note reply → AnswersAt x place.at is.pending.last reply y
    → ((n : ℕ) → command_at new n ≡ cond (nat_eq number n) None (command_at old n)) → new.tree ≡ old.tree → new.limits ≡ old.limits → new.number ≡ old.number → GoesByEntries old (CommandIsEnded client note) new
ended_goes old new client number x y can place is given ask note reply was here others served comes ask_is told replies commands tree limits number_is =
    let a = can.command in
    let own : a.client ≡ client = can.idle.own in
    let r : AnswersAt x place.at is.pending.last given.reply y = subst (λ (z : Answer). AnswersAt x place.at is.pending.last z y) told.reply_is replies in
    goes_as old new (λ entries. (part : Part dialect) × (part.ask ≡ a.ask) × (entries ≡ Ends a.client number part given.reply given.from ∷ [])) (CommandIsEnded client note)
    (λ entries h.
    let same : ask ≡ h.0.ask = ask_is ∙ sym h.1 in (
      h.0,
      given.reply,
      told.asked ∙ same,
      subst (λ (k : Ask). IsTrue note.acknowledged ↔ Acknowledges k given.reply) same told.acknowledged,
      h.2 ∙ (λ i. Ends (own i) (sym told.number_is i) h.0 given.reply (sym told.from i) ∷ []),
      told.error,
    ))
    (ends old new number a x y is.pending given.reply given.from (record {
      was = can.idle.was;
      idle = can.idle.idle;
      done = comes;
      client_was = ap (client_at old) own ∙ was;
      client_is = ap (client_at new) own ∙ here;
      others = λ c differs. others c (ap (λ k. nat_eq k c) (sym own) ∙ differs);
      served = served;
      there = there_at number x.queue.items place.at is.pending is.first is.is;
      queue = r.queue is.pending is.is ∙ replied_at number given.reply x.queue.items place.at is.pending is.first is.is;
      front = r.front;
      output = r.output;
      dropped = r.dropped;
      commands = commands;
      tree = tree;
      limits = limits;
      number_is = number_is;
    }))

pub some_client : {x y : Client} → ◌≡◌ {A = Option Client} (Some x) (Some y) → x ≡ y
some_client e = cc

-- the command that was found
abbrev pub ends_as : (core : Core) (client number : ℕ) (can : CanEnd core client number) (a : Command) → command_at core number ≡ Some a → CanEnd core client number
ends_as core client number can a was =
    let same : can.command ≡ a = some_command (sym can.idle.was ∙ was) in
    record { command = a; idle = subst (λ (c : Command). IsIdle client core.commands number c) same can.idle; done = subst (λ (c : Command). IsDone c.job) same can.done }

-- the head was looked at
pub shown_goes : (old new : Core) (client : ℕ) (x y : Client) (shown : Bool) → Turns old new client (Some x) (Some y) → x.dropped ≡ false → ShowsOne x shown y → ShowsNext old client shown new
shown_goes old new client x y true t served p = (
  goes_as old new (λ entries. (slot : Slot dialect) × (slot.number ≡ p.0.number) × (entries ≡ Shows client slot p.1 ∷ [])) (AreShown client) (λ entries h. ((h.0, p.1) ∷ [], h.2)) (shows old new client x y p.0 p.1 t p.2),
  subst (λ o. MatchOption o ⊥ ClientIsServed) (sym t.is) (p.2.dropped ∙ served),
  (
      let was = ap queue_len t.was ∙ ap length p.2.head in
      let is = ap queue_len t.is ∙ ap length p.2.queue in
      less (queue_len (client_at new client)) (queue_len (client_at old client)) p.2.rest p.0 was is
      ),
)
  where
    less : (a b : ℕ) (rest : List Pending) (q : Pending) → b ≡ length (q ∷ rest) → a ≡ length rest → a < b
    less a b rest q e f = omega (arith, e, f)
shown_goes old new client x y false t served p = (
  still_goes old new client x y t (record { stream = ap (λ (z : Client). z.stream) p.1; index = ap (λ (z : Client). z.index) p.1; waits = ap (λ (z : Client). z.waits) p.1; queue = ap (λ (z : Client). z.queue.items) p.1; output = ap (λ (z : Client). bytes_of z.output) p.1; dropped = ap (λ (z : Client). z.dropped) p.1 }),
  subst (λ o. MatchOption o ⊥ ClientIsServed) (sym t.is) (ap (λ (z : Client). z.dropped) p.1 ∙ served),
  subst (λ o. MatchOption o ⊥ (λ z. HasNoReply z.queue.items)) (sym t.is) (subst (λ (z : Client). HasNoReply z.queue.items) (sym p.1) p.0),
)

-- no command began in either of two steps, and who waits stands where it stood
pub still_on : (old mid new : Core) → StandsStill old mid → StandsStill mid new → StandsStill old new
still_on old mid new a b = (b.0 ∙ a.0, b.1 ∙ a.1)

-- replies that were shown, and after them some more
pub shown_more : (client : ℕ) (entries : List (Entry dialect)) → Then (AreShown client) (AreShown client) entries → AreShown client entries
shown_more client entries h =
    let first = h.2 in
    let second = h.3 in
    (second.0 ++ first.0, h.4 ∙ (λ i. second.1 i ++ first.1 i) ∙ sym (map-append (λ s. Shows client s.0 s.1) second.0 first.0))

pub none_shown : (client : ℕ) (entries : List (Entry dialect)) → NothingHappened entries → AreShown client entries
none_shown client entries e = ([], e)

-- some more were shown
pub show_on : (old mid new : Core) (client : ℕ) → GoesByEntries old (AreShown client) mid → GoesByEntries mid (AreShown client) new → GoesByEntries old (AreShown client) new
show_on old mid new client a b = goes_as old new (Then (AreShown client) (AreShown client)) (AreShown client) (shown_more client) (goes_then old mid new (AreShown client) (AreShown client) a b)

-- none more was
pub show_none : (old mid new : Core) (client : ℕ) → GoesByEntries old (AreShown client) mid → GoesByEntries mid NothingHappened new → GoesByEntries old (AreShown client) new
show_none old mid new client a b = show_on old mid new client a (goes_as mid new NothingHappened (AreShown client) (none_shown client) b)

-- memory was refused after some
pub show_stops : (old mid new : Core) (client : ℕ) (fault : CoreFault) → GoesByEntries old (AreShown client) mid → StopsFirst client mid fault new → StopsAfter client (AreShown client) old fault new
show_stops old mid new client faults.NoMemory a b = (show_none old mid new client a b.0, b.1)
show_stops old mid new client faults.TooManyClients a b = absurd b
show_stops old mid new client faults.NoClient a b = absurd b
show_stops old mid new client faults.InputFull a b = absurd b
show_stops old mid new client faults.UnderWay a b = absurd b
show_stops old mid new client faults.NoTicket a b = absurd b
show_stops old mid new client faults.Spent a b = absurd b

append_nil : (entries : List (Entry dialect)) → entries ≡ entries ++ []
append_nil [] = refl
append_nil (x ∷ entries) = ap (λ l. x ∷ l) (append_nil entries)

-- a command ended and replies were shown, and after that some more
shown_after : (client : ℕ) (note : Note) (entries : List (Entry dialect)) → Then (Then (CommandIsEnded client note) (AreShown client)) (AreShown client) entries → Then (CommandIsEnded client note) (AreShown client) entries
shown_after client note entries h =
    let before = h.2 in
    let first : List (Entry dialect) = before.0 in
    let second : List (Entry dialect) = before.1 in
    let third : List (Entry dialect) = h.1 in (
      first,
      third ++ second,
      before.2,
      shown_more client (third ++ second) (second, third, before.3, h.3, refl),
      h.4 ∙ ap (λ l. third ++ l) before.4 ∙ sym (append_assoc third second first),
    )

ended_on : (old mid new : Core) (client : ℕ) (note : Note) → GoesByEntries old (Then (CommandIsEnded client note) (AreShown client)) mid → GoesByEntries mid (AreShown client) new → GoesByEntries old (Then (CommandIsEnded client note) (AreShown client)) new
ended_on old mid new client note a b =
    goes_as old new (Then (Then (CommandIsEnded client note) (AreShown client)) (AreShown client)) (Then (CommandIsEnded client note) (AreShown client)) (shown_after client note) (goes_then old mid new (Then (CommandIsEnded client note) (AreShown client)) (AreShown client) a b)

-- a command ended after nothing, and nothing was shown
pub ended_unshown : (old mid new : Core) (client : ℕ) (note : Note) → GoesByEntries old NothingHappened mid → GoesByEntries mid (CommandIsEnded client note) new → GoesByEntries old (Then (CommandIsEnded client note) (AreShown client)) new
ended_unshown old mid new client note a b =
    goes_as old new (Then NothingHappened (CommandIsEnded client note)) (Then (CommandIsEnded client note) (AreShown client))
    (λ entries h. (h.1, [], h.3, ([], refl), h.4 ∙ ap (λ l. h.1 ++ l) h.2 ∙ sym (append_nil h.1)))
    (goes_then old mid new NothingHappened (CommandIsEnded client note) a b)

-- a command ended, and replies were shown
pub finish_goes : (old mid new : Core) (client : ℕ) (note : Note) → GoesByEntries old (Then (CommandIsEnded client note) (AreShown client)) mid → GoesByEntries mid (AreShown client) new → HasShownAll new client → StandsStill old new → Acts old client (polls.Did note) new
finish_goes old mid new client note a b shown still = record { goes = ended_on old mid new client note a b; why = shown; still = still }

pub finish_stops : (old mid new : Core) (client : ℕ) (note : Note) (fault : CoreFault) → GoesByEntries old (Then (CommandIsEnded client note) (AreShown client)) mid → StopsAfter client (AreShown client) mid fault new → StopsAfter client (SoEnded client) old fault new
finish_stops old mid new client note faults.NoMemory a b =
    (goes_as old new (Then (CommandIsEnded client note) (AreShown client)) (SoEnded client) (λ entries h. (h.0, h.1, inr (note, h.2), h.3, h.4)) (ended_on old mid new client note a b.0), b.1)
finish_stops old mid new client note faults.TooManyClients a b = absurd b
finish_stops old mid new client note faults.NoClient a b = absurd b
finish_stops old mid new client note faults.InputFull a b = absurd b
finish_stops old mid new client note faults.UnderWay a b = absurd b
finish_stops old mid new client note faults.NoTicket a b = absurd b
finish_stops old mid new client note faults.Spent a b = absurd b

ended_nothing : (client : ℕ) (entries : List (Entry dialect)) → NothingHappened entries → SoEnded client entries
ended_nothing client entries e = ([], [], inl refl, ([], refl), e)

-- a command ended so far
pub ended_stops : (old new : Core) (client : ℕ) (fault : CoreFault) → StopsAfter client (SoEnded client) old fault new → line.others client new.lines ≡ line.others client old.lines → ReadFault old client fault new
ended_stops old new client faults.NoMemory a kept = (goes_as old new (SoEnded client) (SoFar client) (λ entries h. ([], entries, inl refl, h, append_nil entries)) a.0, a.1, kept)
ended_stops old new client faults.TooManyClients a kept = absurd a
ended_stops old new client faults.NoClient a kept = absurd a
ended_stops old new client faults.InputFull a kept = absurd a
ended_stops old new client faults.UnderWay a kept = absurd a
ended_stops old new client faults.NoTicket a kept = absurd a
ended_stops old new client faults.Spent a kept = absurd a

-- nothing happened so far
pub first_ended : (old new : Core) (client : ℕ) (fault : CoreFault) → StopsFirst client old fault new → StopsAfter client (SoEnded client) old fault new
first_ended old new client faults.NoMemory a = (goes_as old new NothingHappened (SoEnded client) (λ entries e. ended_nothing client entries e) a.0, a.1)
first_ended old new client faults.TooManyClients a = absurd a
first_ended old new client faults.NoClient a = absurd a
first_ended old new client faults.InputFull a = absurd a
first_ended old new client faults.UnderWay a = absurd a
first_ended old new client faults.NoTicket a = absurd a
first_ended old new client faults.Spent a = absurd a

pub first_stops : (old new : Core) (client : ℕ) (fault : CoreFault) → StopsFirst client old fault new → line.others client new.lines ≡ line.others client old.lines → ReadFault old client fault new
first_stops old new client fault a kept = ended_stops old new client fault (first_ended old new client fault a) kept

-- a command began before it
pub begun_stops : (old mid new : Core) (client : ℕ) (ask : Ask) (fault : CoreFault) → BeginsAt old client ask mid → StopsAfter client (SoEnded client) mid fault new → StandsStill mid new → ReadFault old client fault new
begun_stops old mid new client ask faults.NoMemory a b still = (
  goes_as old new (Then (HasBegun client mid.number ask) (SoEnded client)) (SoFar client) (λ entries h. (h.0, h.1, inr (mid.number, ask, h.2), h.3, h.4)) (goes_then old mid new (HasBegun client mid.number ask) (SoEnded client) a.goes b.0),
  b.1,
  ap (line.others client) (still.1 ∙ a.lines) ∙ others_again client old.lines,
)
begun_stops old mid new client ask faults.TooManyClients a b still = absurd b
begun_stops old mid new client ask faults.NoClient a b still = absurd b
begun_stops old mid new client ask faults.InputFull a b still = absurd b
begun_stops old mid new client ask faults.UnderWay a b still = absurd b
begun_stops old mid new client ask faults.NoTicket a b still = absurd b
begun_stops old mid new client ask faults.Spent a b still = absurd b

-- what holds after a command went on holds after the answer
pub why_of : (old new : Core) (client : ℕ) (poll : Poll) → IsActed client poll new → IsWhy old client poll new
why_of old new client polls.Idle h = absurd h
why_of old new client polls.Own h = absurd h
why_of old new client polls.Refused h = absurd h
why_of old new client (polls.Call ticket) h = h
why_of old new client polls.Waiting h = absurd h
why_of old new client polls.Queued h = (h.0, inl (h.1, h.2))
why_of old new client polls.Busy h = absurd h
why_of old new client (polls.Did note) h = h

-- a command that went on answers the poll, where none began before it
pub acts_polls : (old new : Core) (client : ℕ) (poll : Poll) → Acts old client poll new → Polls old client poll new
acts_polls old new client poll a = record { goes = polled_as old new client poll a.goes; why = why_of old new client poll a.why; order = inl a.still }
  where
    polled_as : (old new : Core) (client : ℕ) (poll : Poll) → GoesByEntries old (IsPolled client poll) new → GoesByEntries old (Then (Perhaps (BeginsBelow old client)) (IsPolled client poll)) new
    polled_as old new client poll g =
        goes_as old new (Then NothingHappened (IsPolled client poll)) (Then (Perhaps (BeginsBelow old client)) (IsPolled client poll)) (λ entries h. (h.0, h.1, inl h.2, h.3, h.4)) (goes_then old old new NothingHappened (IsPolled client poll) (goes_nowhere old) g)

-- a command that went on answers the poll, where one began before it
pub begun_polls : (old mid new : Core) (client : ℕ) (ask : Ask) (poll : Poll) → IsBelowDepth old client → IsNextAsk old client ask false → bars old ask ≡ false → stands_before old client ask ≡ false → BeginsAt old client ask mid → Acts mid client poll new → Polls old client poll new
begun_polls old mid new client ask poll below next free first a b =
    record {
      goes = goes_as old new (Then (HasBegun client mid.number ask) (IsPolled client poll)) (Then (Perhaps (BeginsBelow old client)) (IsPolled client poll)) (λ entries h. (h.0, h.1, inr (below, (mid.number, ask, h.2)), h.3, h.4))
          (goes_then old mid new (HasBegun client mid.number ask) (IsPolled client poll) a.goes b.goes);
      why = why_of old new client poll b.why;
      order = inr (inl (record { ask = ask; next = next; free = free; first = first; number = b.still.0 ∙ a.number; lines = b.still.1 ∙ a.lines }));
    }

-- what happened, where nobody asks for the depth
begins_one : (old : Core) (client : ℕ) (entries : List (Entry dialect)) → Perhaps (BeginsBelow old client) entries → Perhaps (BeginsOne client) entries
begins_one old client entries (inl none) = inl none
begins_one old client entries (inr begins) = inr begins.1

pub polls_goes : (old new : Core) (client : ℕ) (poll : Poll) → Polls old client poll new → GoesByEntries old (Then (Perhaps (BeginsOne client)) (IsPolled client poll)) new
polls_goes old new client poll polled =
    goes_as old new (Then (Perhaps (BeginsBelow old client)) (IsPolled client poll)) (Then (Perhaps (BeginsOne client)) (IsPolled client poll)) (λ entries h. (h.0, h.1, begins_one old client h.0 h.2, h.3, h.4)) polled.goes

-- an answer by which nothing happened
pub nothing_polls : (old : Core) (client : ℕ) (poll : Poll) → ((entries : List (Entry dialect)) → NothingHappened entries → IsPolled client poll entries) → IsWhy old client poll old → Polls old client poll old
nothing_polls old client poll f why =
    record { goes = goes_as old old NothingHappened (Then (Perhaps (BeginsBelow old client)) (IsPolled client poll)) (λ entries e. ([], [], inl refl, f [] refl, e)) (goes_nowhere old); why = why; order = inl (refl, refl) }

-- a poll by which nothing happened but that the client came to the line of its key
pub line_polls : (old new : Core) (client : ℕ) → GoesByEntries old NothingHappened new → StandsInLine old client new → MayAsk old client → NoCommandGoesOn new client → Polls old client polls.Queued new
line_polls old new client goes stands may held =
    record { goes = goes_as old new NothingHappened (Then (Perhaps (BeginsBelow old client)) (IsPolled client polls.Queued)) (λ entries e. ([], [], inl refl, refl, e)) goes; why = (held, inr (stands, may)); order = inr (inr stands) }

-- a poll by which nothing happened, as the client stood in the line of its key already
pub stood_polls : (old new : Core) (client : ℕ) → new ≡ old → StandsInLine old client new → MayAsk old client → NoCommandGoesOn old client → Polls old client polls.Busy new
stood_polls old new client same stands may held =
    subst (λ (core : Core). Polls old client polls.Busy core) (sym same)
    (nothing_polls old client polls.Busy (λ entries e. e) (refl, held, inr (inr (subst (StandsInLine old client) same stands), may)))

-- what holds of a client gives what else holds of it
pub for_map : (core : Core) (client : ℕ) (P Q : Client → Type 0) → ((x : Client) → P x → Q x) → ForClient core client P → ForClient core client Q
for_map core client P Q f h = by (client_at core client) h
  where
    by : (o : Option Client) → MatchOption o ⊥ P → MatchOption o ⊥ Q
    by None h = h
    by (Some x) h = f x h

pub for_both : (core : Core) (client : ℕ) (P Q R : Client → Type 0) → ((x : Client) → P x → Q x → R x) → ForClient core client P → ForClient core client Q → ForClient core client R
for_both core client P Q R f h k = by (client_at core client) h k
  where
    by : (o : Option Client) → MatchOption o ⊥ P → MatchOption o ⊥ Q → MatchOption o ⊥ R
    by None h k = h
    by (Some x) h k = f x h k

pub if_err : {A E : Type 0} (r : Result A E) (P Q : E → Type 0) → ((e : E) → P e → Q e) → IfErr r P → IfErr r Q
if_err (Ok a) P Q f h = tt
if_err (Err e) P Q f h = f e h

pub if_ok : {A E : Type 0} (r : Result A E) (P Q : A → Type 0) → ((a : A) → P a → Q a) → IfOk r P → IfOk r Q
if_ok (Ok a) P Q f h = f a h
if_ok (Err e) P Q f h = tt

-- a client of whom nothing changed is served still
pub still_served : (old new : Core) (client : ℕ) (x y : Client) → Turns old new client (Some x) (Some y) → ClientStays x y → x.dropped ≡ false → ForClient new client ClientIsServed
still_served old new client x y t p served = subst (λ o. MatchOption o ⊥ ClientIsServed) (sym t.is) (p.dropped ∙ served)

-- memory was refused for one that was served
pub refused : (old mid new : Core) (client : ℕ) (drops : DropsAll mid client new) → ReadFault old client faults.NoMemory mid → StopsPolling old client new
refused old mid new client d a =
    record {
      numbers = d.numbers;
      lines = d.lines ∙ a.2;
      goes = goes_then old mid new (SoFar client) (λ entries. entries ≡ freed d.numbers ++ Drops client ∷ []) a.0 d.goes;
      gone = d.gone;
      dropped = d.dropped;
    }
