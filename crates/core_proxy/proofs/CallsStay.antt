-- Calls that are out stay until they are settled.
use Rattle.std.proofs.Common.{◌≡◌, ℕ, ◌<◌, Bool, true, false, cond, List, [], ◌∷◌, ◌++◌, map, Option, Some, None, option_map, ◌⊎◌, inl, inr, refl, sym, ap, ◌∙◌, subst, arith, nat_eq, nat_le}
use Rattle.std.proofs.lemmas.Bool.{eqb-true, eq-eqb, leb-true, le-leb}
use Rattle.mc_types.specs.declared.ask.Ask.{Ask}
use Rattle.mc_types.specs.declared.answer.Answer.{Answer}
use Rattle.mc_types.specs.declared.call.Outcome.{Outcome}
use Rattle.mc_types.specs.declared.call.Origin.TheVariants.{Client as OfClient}
use Rattle.fresh_runs.specs.Overlap.{Slot, Ticket, Entry, Feeds, Starts, Ends, Shows, Passes, Gives, Drops, Resets, ticket_in, without_ticket}
use Rattle.route_tree.specs.At.{tree_at}
use Rattle.route_tree.specs.Plan.{Plan}
use Rattle.route_tree.specs.Route.{Route}
use Rattle.route_job.specs.Rest.{ask_under, origin_under}
use Rattle.route_job.specs.Jobs.{server_of_pending}
use Rattle.wire_stream.specs.declared.connection.front.Passed.{Passed}
use Rattle.wire_stream.specs.declared.connection.front.Passed.TheVariants.{Own, Refused}
use Rattle.core_client.specs.ClientState.{dialect, dropped_by}
use Rattle.core_commands.specs.declared.command.Command.{Command}
use Rattle.core_commands.specs.declared.ticket.Ticket.{Ticket as OutTicket}
use Rattle.core_proxy.specs.declared.fault.CoreFault.{CoreFault}
use Rattle.core_proxy.specs.declared.fault.CoreFault.TheVariants as faults
use Rattle.core_proxy.specs.declared.note.Note.{Note}
use Rattle.core_proxy.specs.declared.note.Poll.{Poll}
use Rattle.core_proxy.specs.declared.note.Poll.TheVariants as polls
use Rattle.core_proxy.specs.declared.proxy.Core.{Core}
use Rattle.core_proxy.specs.CoreState as core_state
use Rattle.core_proxy.specs.CoreState.{client_at, command_at, has_call_out, ticket_by, Beside, FitsBeside, FeedsOpen, Reloads, IsTakenOver, GoesByEntries}
use Rattle.core_proxy.specs.OutSince.{out_since}
use Rattle.core_proxy.specs.Faults.{OpenFault}
use Rattle.core_proxy.specs.Polls.{IsPassed, NothingHappened, HasBegun, IsTicketOf, IsSent, CommandIsEnded, AreShown, EntriesThen, Perhaps, BeginsOne, BeginsBelow, EndsOne, SoEnded, SoFar, Polls, PollFault}
use Rattle.core_proxy.specs.Settles.{asked, asked_by, IsNotOut, StandsWithout, freed, SettleFault}
use Rattle.core_proxy.specs.CallsStay.{called_by, called, CanStand, KeepsCalls, GivesCall, EndsCall, PollsCalls, CallsStay}
use Rattle.core_proxy.proofs.Chains.{out_on}
use Rattle.core_proxy.proofs.Polls.{same_goes}
use Rattle.core_proxy.proofs.Tickets.{contrary, some_none, or_else, more, more_other, less_other}

-- ---- a call that is out, and its ticket

same_ticket : {x y : Ticket} → Some x ≡ Some y → x ≡ y
same_ticket e = cc

same_pair : {p q : ℕ × Ask} → Some p ≡ Some q → p ≡ q
same_pair e = cc

no_pair : {p : ℕ × Ask} → ◌≡◌ {A = Option (ℕ × Ask)} None (Some p) → ⊥
no_pair e = cc

both_are : (i j : ℕ) (x y : Ask) → i ≡ j → x ≡ y → ◌≡◌ {A = ℕ × Ask} (i, x) (j, y)
both_are i j x y e f = ap (λ (k : ℕ). (k, x)) e ∙ ap (λ (a : Ask). (j, a)) f

abbrev ask_in : Command → Ask
ask_in a = ask_under a.job.frames.items a.job.ask

abbrev ticket_at : Command → ℕ → Ticket
ticket_at a n = record { number = n; ask = ask_in a; origin = origin_under a.job.frames.items OfClient }

abbrev pair_in : Command → ℕ × Ask
pair_in a = (server_of_pending a.job.pending, ask_in a)

ticket_if : (a : Command) (n s : ℕ) (b d : Bool) (t : Ticket) → cond b (cond d (Some (ticket_at a n)) None) None ≡ Some t → (b ≡ true) × (d ≡ true) × (ticket_at a n ≡ t)
ticket_if a n s true true t e = (refl, refl, same_ticket e)
ticket_if a n s true false t e = some_none t (sym e)
ticket_if a n s false d t e = some_none t (sym e)

ticket_of : (c : Option Command) (n s : ℕ) (t : Ticket) → ticket_by c n s ≡ Some t → called_by c ≡ Some (s, t.ask)
ticket_of None n s t e = some_none t (sym e)
ticket_of (Some a) n s t e =
    let is = ticket_if a n s (has_call_out a) (nat_eq (server_of_pending a.job.pending) s) t e in
    ap (λ b. cond b (Some (pair_in a)) None) is.0 ∙ ap (λ (p : ℕ × Ask). Some p) (both_are (server_of_pending a.job.pending) s (ask_in a) t.ask (eqb-true (server_of_pending a.job.pending) s is.1) (ap (λ (x : Ticket). x.ask) is.2))

called_if : (a : Command) (b : Bool) (p : ℕ × Ask) → cond b (Some (pair_in a)) None ≡ Some p → (b ≡ true) × (pair_in a ≡ p)
called_if a true p e = (refl, same_pair e)
called_if a false p e = absurd (no_pair e)

call_of : (c : Option Command) (n : ℕ) (p : ℕ × Ask) → called_by c ≡ Some p → (t : Ticket) × (ticket_by c n p.0 ≡ Some t) × (t.ask ≡ p.1)
call_of None n p e = absurd (no_pair e)
call_of (Some a) n p e =
    let is = called_if a (has_call_out a) p e in (
      ticket_at a n,
      ap (λ b. cond b (cond (nat_eq (server_of_pending a.job.pending) p.0) (Some (ticket_at a n)) None) None) is.0
          ∙ ap (λ b. cond b (Some (ticket_at a n)) None) (eq-eqb (server_of_pending a.job.pending) p.0 (ap (λ (q : ℕ × Ask). q.0) is.1)),
      ap (λ (q : ℕ × Ask). q.1) is.1,
    )

some_pair : (o : Option (ℕ × Ask)) → (o ≡ None) ⊎ ((p : ℕ × Ask) × (o ≡ Some p))
some_pair None = inl refl
some_pair (Some p) = inr (p, refl)

pair_none : {X : Type 0} {o : Option (ℕ × Ask)} (p : ℕ × Ask) → o ≡ None → o ≡ Some p → X
pair_none p none some = absurd (no (sym none ∙ some))
  where
    no : None ≡ Some p → ⊥
    no e = cc

-- what has the same tickets has the same call out
same_called : (c d : Option Command) (n : ℕ) → ((s : ℕ) → ticket_by c n s ≡ ticket_by d n s) → called_by c ≡ called_by d
same_called c d n same = by (some_pair (called_by c)) (some_pair (called_by d))
  where
    by : (called_by c ≡ None) ⊎ ((p : ℕ × Ask) × (called_by c ≡ Some p)) → (called_by d ≡ None) ⊎ ((p : ℕ × Ask) × (called_by d ≡ Some p)) → called_by c ≡ called_by d
    by (inl e) (inl f) = e ∙ sym f
    by (inl e) (inr f) = let t = call_of d n f.0 f.1 in pair_none (f.0.0, t.0.ask) e (ticket_of c n f.0.0 t.0 (same f.0.0 ∙ t.1))
    by (inr e) g =
        let t = call_of c n e.0 e.1 in
        e.1 ∙ ap (λ (x : Ask). Some (e.0.0, x)) (sym t.2) ∙ sym (ticket_of d n e.0.0 t.0 (sym (same e.0.0) ∙ t.1))

-- ---- entries that tell of no call

abbrev Quiet : (List (Entry dialect) → Type 0) → Type 0
Quiet IsKind = (entries : List (Entry dialect)) → IsKind entries → (out : ℕ → List Ticket) (s : ℕ) → out_since entries out s ≡ out s

quiet_is : (l : List (Entry dialect)) → ((out : ℕ → List Ticket) (s : ℕ) → out_since l out s ≡ out s) → Quiet (λ entries. entries ≡ l)
quiet_is l h entries e out s = ap (λ k. out_since k out s) e ∙ h out s

quiet_none : Quiet (λ entries. entries ≡ [])
quiet_none = quiet_is [] (λ out s. refl)

quiet_then : (A B : List (Entry dialect) → Type 0) → Quiet A → Quiet B → Quiet (EntriesThen A B)
quiet_then A B qa qb entries t out s =
    ap (λ k. out_since k out s) t.4 ∙ sym (out_on t.1 t.0 out (λ z. out_since t.0 out z) (λ z. refl) s) ∙ qb t.1 t.3 (λ z. out_since t.0 out z) s ∙ qa t.0 t.2 out s

quiet_perhaps : (A : List (Entry dialect) → Type 0) → Quiet A → Quiet (Perhaps A)
quiet_perhaps A q entries (inl none) out s = quiet_none entries none out s
quiet_perhaps A q entries (inr is) out s = q entries is out s

quiet_begun : (client number : ℕ) (ask : Ask) → Quiet (HasBegun client number ask)
quiet_begun client number ask entries h out s = quiet_is (Starts client number h.0 ∷ []) (λ out s. refl) entries h.2 out s

quiet_one : (client : ℕ) → Quiet (BeginsOne client)
quiet_one client entries h out s = quiet_begun client h.0 h.1 entries h.2 out s

quiet_below : (core : Core) (client : ℕ) → Quiet (BeginsBelow core client)
quiet_below core client entries h out s = quiet_one client entries h.1 out s

quiet_ended : (client : ℕ) (note : Note) → Quiet (CommandIsEnded client note)
quiet_ended client note entries h out s = quiet_is (Ends client note.number h.0 h.1 note.from ∷ []) (λ out s. refl) entries h.4 out s

quiet_shown : (client : ℕ) → Quiet (AreShown client)
quiet_shown client entries h out s = ap (λ k. out_since k out s) h.1 ∙ by h.0
  where
    by : (shown : List (Slot dialect × Answer)) → out_since (map (λ s. Shows client s.0 s.1) shown) out s ≡ out s
    by [] = refl
    by (x ∷ shown) = by shown

quiet_passed : (client : ℕ) (passed : Passed) → Quiet (IsPassed client passed)
quiet_passed client passed entries h out s = quiet_is (Passes client h.0 h.1 ∷ []) (λ out s. refl) entries h.3 out s

quiet_freed : (numbers : List ℕ) (client : ℕ) → Quiet (λ entries. entries ≡ freed numbers ++ Drops client ∷ [])
quiet_freed numbers client = quiet_is (freed numbers ++ Drops client ∷ []) (by numbers)
  where
    by : (numbers : List ℕ) (out : ℕ → List Ticket) (s : ℕ) → out_since (freed numbers ++ Drops client ∷ []) out s ≡ out s
    by [] out s = refl
    by (n ∷ numbers) out s = by numbers out s

quiet_so_far : (client : ℕ) → Quiet (SoFar client)
quiet_so_far client =
    quiet_then (Perhaps (BeginsOne client)) (SoEnded client) (quiet_perhaps (BeginsOne client) (quiet_one client))
    (quiet_then (Perhaps (EndsOne client)) (AreShown client) (quiet_perhaps (EndsOne client) (λ entries h out s. quiet_ended client h.0 entries h.1 out s)) (quiet_shown client))

-- ---- by them each call stays

keeps : (old new : Core) (IsKind : List (Entry dialect) → Type 0) → Quiet IsKind → CanStand old → GoesByEntries old IsKind new → KeepsCalls old new
keeps old new IsKind quiet can goes =
    let x = goes can.0 can.1 in
    record {
      stands = (x.0, x.2);
      calls = λ n. same_called (command_at new n) (command_at old n) n (λ s. sym (x.2.tickets s n) ∙ ap (λ l. ticket_in l n) (x.7 s ∙ quiet x.1 x.4 can.0.out s) ∙ can.1.tickets s n);
    }

same_core : (old new : Core) → CanStand old → new ≡ old → KeepsCalls old new
same_core old new can same = record { stands = subst CanStand (sym same) can; calls = λ n. ap (λ c. called c n) same }

fed_keeps : (b : Bool) (old new : Core) (client : ℕ) (bytes : List ℕ) → CanStand old → FeedsOpen b old client bytes new → KeepsCalls old new
fed_keeps true old new client bytes can same = same_core old new can same
fed_keeps false old new client bytes can goes = keeps old new (λ entries. entries ≡ Feeds client bytes ∷ []) (quiet_is (Feeds client bytes ∷ []) (λ out s. refl)) can goes

unopened_keeps : (old new : Core) (fault : CoreFault) → CanStand old → OpenFault old fault new → KeepsCalls old new
unopened_keeps old new faults.TooManyClients can is = same_core old new can is.1
unopened_keeps old new faults.NoMemory can is =
    let client = λ (c : ℕ). ap (λ k. client_at k c) is in
    let command = λ (n : ℕ). ap (λ k. command_at k n) is in
    keeps old new NothingHappened quiet_none can (same_goes old new client command (ap (λ (k : Core). k.tree) is) (ap (λ (k : Core). k.limits) is) (ap (λ (k : Core). k.number) is))
unopened_keeps old new faults.NoTicket can is = absurd is
unopened_keeps old new faults.NoClient can is = absurd is
unopened_keeps old new faults.InputFull can is = absurd is
unopened_keeps old new faults.UnderWay can is = absurd is
unopened_keeps old new faults.Spent can is = absurd is

stopped_keeps : (old new : Core) (client : ℕ) (fault : CoreFault) → CanStand old → PollFault old client fault new → KeepsCalls old new
stopped_keeps old new client faults.NoClient can is = same_core old new can is.1
stopped_keeps old new client faults.Spent can is = same_core old new can is.1
stopped_keeps old new client faults.NoMemory can is =
    keeps old new (EntriesThen (SoFar client) (λ entries. entries ≡ freed is.numbers ++ Drops client ∷ []))
    (quiet_then (SoFar client) (λ entries. entries ≡ freed is.numbers ++ Drops client ∷ []) (quiet_so_far client) (quiet_freed is.numbers client)) can is.goes
stopped_keeps old new client faults.TooManyClients can is = absurd is
stopped_keeps old new client faults.InputFull can is = absurd is
stopped_keeps old new client faults.UnderWay can is = absurd is
stopped_keeps old new client faults.NoTicket can is = absurd is

-- ---- another tree

above : (number n : ℕ) (b : Bool) → nat_le n number ≡ b → number < n → b ≡ false
above number n true e lt = absurd (let le = leb-true n number e in omega (arith, le, lt))
above number n false e lt = refl

reloaded_keeps : (old new : Core) (tree : Route) → CanStand old → Reloads old tree new → KeepsCalls old new
reloaded_keeps old new tree can r =
    let at : ℕ → List ℕ → Plan = λ n key. cond (nat_le n old.number) (can.0.at n key) (tree_at tree key) in
    let taken : IsTakenOver old tree can.0 at = record {
      begun = λ n key le. ap (λ b. cond b (can.0.at n key) (tree_at tree key)) (le-leb n old.number le);
      coming = λ n key lt. ap (λ b. cond b (can.0.at n key) (tree_at tree key)) (above old.number n (nat_le n old.number) refl lt);
    } in
    record { stands = (record can.0 { at = at }, r.fits can.0 at can.1 taken); calls = λ n. ap (λ c. called c n) r.core_is }

-- ---- a call goes out

-- one more ticket of a number of which one is out would be a second one
last_one : (l : List Ticket) (given : Ticket) (n : ℕ) → nat_eq given.number n ≡ true → (o : Option Ticket) → ticket_in l n ≡ o → ticket_in (l ++ given ∷ []) n ≡ None → ⊥
last_one l given n own None e front =
    some_none given (sym (more l given n ∙ ap (λ o. or_else o (cond (nat_eq given.number n) (Some given) None)) e ∙ ap (λ b. cond b (Some given) None) own) ∙ front)
last_one l given n own (Some u) e front = some_none u (sym (more l given n ∙ ap (λ o. or_else o (cond (nat_eq given.number n) (Some given) None)) e) ∙ front)

second_if :
    (x : Ticket) (l : List Ticket) (t given : Ticket) (n : ℕ) (b : Bool) → nat_eq given.number n ≡ true → (ticket_in l n ≡ Some t → ticket_in (without_ticket n (l ++ given ∷ [])) n ≡ None → ⊥)
    → nat_eq x.number n ≡ b → cond b (Some x) (ticket_in l n) ≡ Some t → ticket_in (cond b (l ++ given ∷ []) (x ∷ without_ticket n (l ++ given ∷ []))) n ≡ None → ⊥
second_if x l t given n true own rest e was none = last_one l given n own (ticket_in l n) refl none
second_if x l t given n false own rest e was none = rest was (sym (ap (λ b. cond b (Some x) (ticket_in (without_ticket n (l ++ given ∷ [])) n)) e) ∙ none)

second : (l : List Ticket) (t given : Ticket) (n : ℕ) → nat_eq given.number n ≡ true → ticket_in l n ≡ Some t → ticket_in (without_ticket n (l ++ given ∷ [])) n ≡ None → ⊥
second [] t given n own was none = some_none t (sym was)
second (x ∷ l) t given n own was none = second_if x l t given n (nat_eq x.number n) own (second l t given n own) refl was none

is_called : (core : Core) (ticket : OutTicket) → IsTicketOf core ticket → called core ticket.number ≡ Some (ticket.server, ticket.ask)
is_called core ticket c =
    ap called_by c.was ∙ ap (λ z. cond z (Some (server_of_pending c.command.job.pending, ask_under c.command.job.frames.items c.command.job.ask)) None) c.is.out
    ∙ (λ k. Some (sym c.is.server_is k, sym c.is.ask_is k))

abbrev given_of : OutTicket → Ticket
given_of ticket = record { number = ticket.number; ask = ticket.ask; origin = ticket.origin }

module _
    (old new : Core) (ticket : OutTicket) (beside beside' : Beside) (was : FitsBeside old beside) (now : FitsBeside new beside')
    (out : (s : ℕ) → beside'.out s ≡ cond (nat_eq ticket.server s) (beside.out s ++ given_of ticket ∷ []) (beside.out s)) (is : IsTicketOf new ticket) where
  none_before : called old ticket.number ≡ None
  none_before = by (some_pair (called old ticket.number))
    where
      by : (called old ticket.number ≡ None) ⊎ ((p : ℕ × Ask) × (called old ticket.number ≡ Some p)) → called old ticket.number ≡ None
      by (inl e) = e
      by (inr e) = absurd (at (nat_eq ticket.server e.0.0) refl)
        where
          t : (t : Ticket) × (ticket_by (command_at old ticket.number) ticket.number e.0.0 ≡ Some t) × (t.ask ≡ e.0.1)
          t = call_of (command_at old ticket.number) ticket.number e.0 e.1

          there : ticket_in (beside.out e.0.0) ticket.number ≡ Some t.0
          there = was.tickets e.0.0 ticket.number ∙ t.1

          at : (b : Bool) → nat_eq ticket.server e.0.0 ≡ b → ⊥
          at true same =
              second (beside.out e.0.0) t.0 (given_of ticket) ticket.number (eq-eqb ticket.number ticket.number refl) there
              (ap (λ l. ticket_in (without_ticket ticket.number l) ticket.number) (sym (out e.0.0 ∙ ap (λ b. cond b (beside.out e.0.0 ++ given_of ticket ∷ []) (beside.out e.0.0)) same)) ∙ now.single e.0.0 ticket.number)
          at false other =
              let still = sym (now.tickets e.0.0 ticket.number) ∙ ap (λ l. ticket_in l ticket.number) (out e.0.0 ∙ ap (λ b. cond b (beside.out e.0.0 ++ given_of ticket ∷ []) (beside.out e.0.0)) other) ∙ there in
              let two = same_pair (sym (is_called new ticket is) ∙ ticket_of (command_at new ticket.number) ticket.number e.0.0 t.0 still) in
              contrary (nat_eq ticket.server e.0.0) (eq-eqb ticket.server e.0.0 (ap (λ (q : ℕ × Ask). q.0) two)) other

  gives_call : GivesCall old ticket new
  gives_call = record {
    stands = (beside', now);
    none = none_before;
    calls = λ n. by n (nat_eq ticket.number n) refl;
  }
    where
      by : (n : ℕ) (b : Bool) → nat_eq ticket.number n ≡ b → called new n ≡ cond (nat_eq ticket.number n) (Some (ticket.server, ticket.ask)) (called old n)
      by n true same = ap (λ k. called new k) (sym (eqb-true ticket.number n same)) ∙ is_called new ticket is ∙ sym (ap (λ b. cond b (Some (ticket.server, ticket.ask)) (called old n)) same)
      by n false other =
          same_called (command_at new n) (command_at old n) n (λ s. sym (now.tickets s n) ∙ ap (λ l. ticket_in l n) (out s) ∙ there s (nat_eq ticket.server s) ∙ was.tickets s n)
          ∙ sym (ap (λ b. cond b (Some (ticket.server, ticket.ask)) (called old n)) other)
        where
          there : (s : ℕ) (b : Bool) → ticket_in (cond b (beside.out s ++ given_of ticket ∷ []) (beside.out s)) n ≡ ticket_in (beside.out s) n
          there s true = more_other (beside.out s) (given_of ticket) n other
          there s false = refl

called_keeps : (old new : Core) (client : ℕ) (ticket : OutTicket) → CanStand old → GoesByEntries old (EntriesThen (Perhaps (BeginsBelow old client)) (IsSent ticket)) new → IsTicketOf new ticket → GivesCall old ticket new
called_keeps old new client ticket can goes is =
    let x = goes can.0 can.1 in
    let quiet = quiet_perhaps (BeginsBelow old client) (quiet_below old client) x.4.0 x.4.2 can.0.out in
    gives_call old new ticket can.0 x.0 can.1 x.2
    (λ s. x.7 s ∙ ap (λ k. out_since k can.0.out s) (x.4.4 ∙ ap (λ k. k ++ x.4.0) x.4.3) ∙ ap (λ (l : List Ticket). cond (nat_eq ticket.server s) (l ++ given_of ticket ∷ []) l) (quiet s)) is

polled_keeps : (old new : Core) (client : ℕ) (poll : Poll) → CanStand old → Polls old client poll new → PollsCalls old poll new
polled_keeps old new client (polls.Call ticket) can p = called_keeps old new client ticket can p.goes p.why
polled_keeps old new client polls.Idle can p = keeps old new (EntriesThen (Perhaps (BeginsBelow old client)) NothingHappened) (quiet_then (Perhaps (BeginsBelow old client)) NothingHappened (quiet_perhaps (BeginsBelow old client) (quiet_below old client)) quiet_none) can p.goes
polled_keeps old new client polls.Own can p =
    keeps old new (EntriesThen (Perhaps (BeginsBelow old client)) (IsPassed client Own)) (quiet_then (Perhaps (BeginsBelow old client)) (IsPassed client Own) (quiet_perhaps (BeginsBelow old client) (quiet_below old client)) (quiet_passed client Own)) can p.goes
polled_keeps old new client polls.Refused can p =
    keeps old new (EntriesThen (Perhaps (BeginsBelow old client)) (IsPassed client Refused)) (quiet_then (Perhaps (BeginsBelow old client)) (IsPassed client Refused) (quiet_perhaps (BeginsBelow old client) (quiet_below old client)) (quiet_passed client Refused)) can p.goes
polled_keeps old new client polls.Waiting can p = keeps old new (EntriesThen (Perhaps (BeginsBelow old client)) NothingHappened) (quiet_then (Perhaps (BeginsBelow old client)) NothingHappened (quiet_perhaps (BeginsBelow old client) (quiet_below old client)) quiet_none) can p.goes
polled_keeps old new client polls.Queued can p = keeps old new (EntriesThen (Perhaps (BeginsBelow old client)) NothingHappened) (quiet_then (Perhaps (BeginsBelow old client)) NothingHappened (quiet_perhaps (BeginsBelow old client) (quiet_below old client)) quiet_none) can p.goes
polled_keeps old new client polls.Busy can p = keeps old new (EntriesThen (Perhaps (BeginsBelow old client)) NothingHappened) (quiet_then (Perhaps (BeginsBelow old client)) NothingHappened (quiet_perhaps (BeginsBelow old client) (quiet_below old client)) quiet_none) can p.goes
polled_keeps old new client (polls.Did note) can p =
    keeps old new (EntriesThen (Perhaps (BeginsBelow old client)) (EntriesThen (CommandIsEnded client note) (AreShown client)))
    (quiet_then (Perhaps (BeginsBelow old client)) (EntriesThen (CommandIsEnded client note) (AreShown client)) (quiet_perhaps (BeginsBelow old client) (quiet_below old client))
    (quiet_then (CommandIsEnded client note) (AreShown client) (quiet_ended client note) (quiet_shown client))) can p.goes

-- ---- a call has its result

out_pair : (a : Command) → has_call_out a ≡ true → called_by (Some a) ≡ Some (server_of_pending a.job.pending, ask_under a.job.frames.items a.job.ask)
out_pair a out = ap (λ z. cond z (Some (server_of_pending a.job.pending, ask_under a.job.frames.items a.job.ask)) None) out

module _
    (old new : Core) (number : ℕ) (a : Command) (beside beside' : Beside) (there : command_at old number ≡ Some a) (is_out : has_call_out a ≡ true) (was : FitsBeside old beside) (now : FitsBeside new beside')
    (out : (s : ℕ) → beside'.out s ≡ cond (nat_eq (server_of_pending a.job.pending) s) (without_ticket number (beside.out s)) (beside.out s)) where
  none_after : called new number ≡ None
  none_after = by (some_pair (called new number))
    where
      by : (called new number ≡ None) ⊎ ((p : ℕ × Ask) × (called new number ≡ Some p)) → called new number ≡ None
      by (inl e) = e
      by (inr e) = absurd (at (nat_eq (server_of_pending a.job.pending) e.0.0) refl)
        where
          t : (t : Ticket) × (ticket_by (command_at new number) number e.0.0 ≡ Some t) × (t.ask ≡ e.0.1)
          t = call_of (command_at new number) number e.0 e.1

          in_out : ticket_in (cond (nat_eq (server_of_pending a.job.pending) e.0.0) (without_ticket number (beside.out e.0.0)) (beside.out e.0.0)) number ≡ Some t.0
          in_out = ap (λ l. ticket_in l number) (sym (out e.0.0)) ∙ now.tickets e.0.0 number ∙ t.1

          at : (b : Bool) → nat_eq (server_of_pending a.job.pending) e.0.0 ≡ b → ⊥
          at true same = some_none t.0 (sym in_out ∙ ap (λ b. ticket_in (cond b (without_ticket number (beside.out e.0.0)) (beside.out e.0.0)) number) same ∙ was.single e.0.0 number)
          at false other =
              let before = sym (was.tickets e.0.0 number) ∙ sym (ap (λ b. ticket_in (cond b (without_ticket number (beside.out e.0.0)) (beside.out e.0.0)) number) other) ∙ in_out in
              let two = same_pair (sym (ap called_by there ∙ out_pair a is_out) ∙ ticket_of (command_at old number) number e.0.0 t.0 before) in
              contrary (nat_eq (server_of_pending a.job.pending) e.0.0) (eq-eqb (server_of_pending a.job.pending) e.0.0 (ap (λ (q : ℕ × Ask). q.0) two)) other

  ends_call : EndsCall old number new
  ends_call = record { stands = (beside', now); calls = λ n. by n (nat_eq number n) refl }
    where
      by : (n : ℕ) (b : Bool) → nat_eq number n ≡ b → called new n ≡ cond (nat_eq number n) None (called old n)
      by n true same = ap (λ k. called new k) (sym (eqb-true number n same)) ∙ none_after ∙ sym (ap (λ b. cond b None (called old n)) same)
      by n false other =
          same_called (command_at new n) (command_at old n) n (λ s. sym (now.tickets s n) ∙ ap (λ l. ticket_in l n) (out s) ∙ left s (nat_eq (server_of_pending a.job.pending) s) ∙ was.tickets s n)
          ∙ sym (ap (λ b. cond b None (called old n)) other)
        where
          left : (s : ℕ) (b : Bool) → ticket_in (cond b (without_ticket number (beside.out s)) (beside.out s)) n ≡ ticket_in (beside.out s) n
          left s true = less_other (beside.out s) number n other
          left s false = refl

settled_ends : (old new : Core) (number : ℕ) (a : Command) → CanStand old → command_at old number ≡ Some a → has_call_out a ≡ true → StandsWithout old number a new → EndsCall old number new
settled_ends old new number a can there is_out stands = let x = stands can.0 can.1 in ends_call old new number a can.0 x.0 there is_out can.1 x.1 x.2

-- where none is out nothing ends
pub none_out : (core : Core) (number : ℕ) → IsNotOut core number → called core number ≡ None
none_out core number none = by (command_at core number) refl
  where
    by : (o : Option Command) → command_at core number ≡ o → called_by o ≡ None
    by None e = refl
    by (Some a) e = ap (λ z. cond z (Some (server_of_pending a.job.pending, ask_under a.job.frames.items a.job.ask)) None) (none a e)

unsettled_ends : (old new : Core) (number : ℕ) (outcome : Outcome) (fault : CoreFault) → CanStand old → SettleFault old number outcome fault new → EndsCall old number new
unsettled_ends old new number outcome faults.NoTicket can is = record { stands = subst CanStand (sym is.1) can; calls = λ n. ap (λ c. called c n) is.1 ∙ by n (nat_eq number n) refl }
  where
    by : (n : ℕ) (b : Bool) → nat_eq number n ≡ b → called old n ≡ cond (nat_eq number n) None (called old n)
    by n true same = ap (λ k. called old k) (sym (eqb-true number n same)) ∙ none_out old number is.0 ∙ sym (ap (λ b. cond b None (called old n)) same)
    by n false other = sym (ap (λ b. cond b None (called old n)) other)
unsettled_ends old new number outcome faults.NoMemory can is = settled_ends old new number is.command can is.was is.out is.stands
unsettled_ends old new number outcome faults.TooManyClients can is = absurd is
unsettled_ends old new number outcome faults.NoClient can is = absurd is
unsettled_ends old new number outcome faults.InputFull can is = absurd is
unsettled_ends old new number outcome faults.UnderWay can is = absurd is
unsettled_ends old new number outcome faults.Spent can is = absurd is

-- ---- all of them

asked_is : (core : Core) (n : ℕ) → asked core n ≡ option_map (λ c. c.1) (called core n)
asked_is core n = by (command_at core n)
  where
    out : (a : Command) (b : Bool) → cond b (Some (ask_under a.job.frames.items a.job.ask)) None ≡ option_map (λ (c : ℕ × Ask). c.1) (cond b (Some (server_of_pending a.job.pending, ask_under a.job.frames.items a.job.ask)) None)
    out a true = refl
    out a false = refl

    by : (o : Option Command) → asked_by o ≡ option_map (λ (c : ℕ × Ask). c.1) (called_by o)
    by None = refl
    by (Some a) = out a (has_call_out a)

pub calls_stay : CallsStay
calls_stay = record {
  asks = asked_is;
  begins = λ tree limits core fresh.
      let at : ℕ → List ℕ → Plan = λ n key. tree_at tree key in
      ((core_state.nothing_beside at (λ s k. None), fresh.fits at (λ s k. None) (λ n key lt. refl)), λ n. ap called_by (fresh.commands n));
  opens = λ old new client can is. keeps old new NothingHappened quiet_none can is.goes;
  unopened = unopened_keeps;
  feeds = λ old new client bytes can is. fed_keeps (dropped_by (client_at old client)) old new client bytes can is;
  gives = λ old new client bytes can is. keeps old new (λ entries. entries ≡ Gives client bytes ∷ []) (quiet_is (Gives client bytes ∷ []) (λ out s. refl)) can is.1;
  closes = λ old new client can is. keeps old new (λ entries. entries ≡ Resets client ∷ []) (quiet_is (Resets client ∷ []) (λ out s. refl)) can is.1;
  leaves = λ old new client can is. keeps old new NothingHappened quiet_none can is.1;
  reloads = reloaded_keeps;
  polls = polled_keeps;
  stops = stopped_keeps;
  settles = λ old new number outcome can is. settled_ends old new number is.command can is.was is.out is.stands;
  faults = unsettled_ends;
}
