-- What commands do by what happened is what they do by the log, but that calls have ended before their results came.
use Rattle.std.proofs.Common.{◌≡◌, ℕ, ◌+◌, ◌<◌, true, false, cond, List, [], ◌∷◌, ◌++◌, length, Option, Some, None, ◌⊎◌, inl, inr, ⊎_elim, refl, sym, ap, ◌∙◌, subst, arith, nat_eq, append_assoc}
use Rattle.std.proofs.lemmas.Bool.{eqb-true, eq-eqb}
use Rattle.mc_types.specs.declared.ask.Ask.{Ask}
use Rattle.mc_types.specs.declared.answer.Answer.{Answer}
use Rattle.mc_types.specs.declared.call.Origin.{Origin}
use Rattle.mc_types.specs.Items.{Item}
use Rattle.fresh_runs.specs.Calls.{Call, End, outcome_of}
use Rattle.fresh_runs.specs.Run.{Event, Begins, Calls, Replies, Breaks, Turns, Restarts, under_way, calls_so_far, IsNewNumber, IsFront}
use Rattle.fresh_runs.specs.Overlap as log
use Rattle.fresh_runs.specs.Overlap.{Ticket, Entry, Happens, Owner, run_of, owner_of, out_of, ticket_in, without_ticket, Follows}
use Rattle.fresh_runs.proofs.Runs.{some_ask, no_ask, differs, second, new_calls}
use Rattle.core_proxy.specs.CoreState.{dialect}
use Rattle.core_accepted.specs.Late as at_servers
use Rattle.core_accepted.specs.Late.{Moment, Lands, seen, begun_late}
use Rattle.core_accepted.specs.Parts.{Own}
use Rattle.core_accepted.proofs.Late.{way_begun}
use Rattle.serve_links.specs.InOrder.{Move, OfProxy, OfServer, log_of, with_commands, moments_in, AreApplied, CallIsAwaited, TellAlike, TellAlways}
use Rattle.serve_links.proofs.InOrder.{way_entries, same_way}

-- lists of tickets and calls
some_none : {A : Type 0} {x : A} → Some x ≡ None → ⊥
some_none e = cc

ticket_after : (tickets : List Ticket) (ticket : Ticket) (n : ℕ) → nat_eq ticket.number n ≡ false → ticket_in tickets n ≡ None → ticket_in (tickets ++ ticket ∷ []) n ≡ None
ticket_after [] ticket n other none = ap (λ b. cond b (Some ticket) None) other
ticket_after (t ∷ tickets) ticket n other none =
    (elim (nat_eq t.number n) as (λ b. cond b (Some t) (ticket_in tickets n) ≡ None → cond b (Some t) (ticket_in (tickets ++ ticket ∷ []) n) ≡ None) [
      | true ↦ λ e. absurd (some_none e)
      | false ↦ λ e. ticket_after tickets ticket n other e
    ]) none

ticket_behind : (t : Ticket) (tickets : List Ticket) (n : ℕ) → ticket_in (t ∷ tickets) n ≡ None → ticket_in tickets n ≡ None
ticket_behind t tickets n none = (elim (nat_eq t.number n) as (λ b. cond b (Some t) (ticket_in tickets n) ≡ None → ticket_in tickets n ≡ None) [ true ↦ λ e. absurd (some_none e) | false ↦ λ e. e ]) none

ticket_without : (tickets : List Ticket) (m n : ℕ) → ticket_in tickets n ≡ None → ticket_in (without_ticket m tickets) n ≡ None
ticket_without [] m n none = none
ticket_without (t ∷ tickets) m n none =
    elim (nat_eq t.number m) as (λ d. ticket_in (cond d tickets (t ∷ without_ticket m tickets)) n ≡ None) [
      | true ↦ ticket_behind t tickets n none
      | false ↦ (elim (nat_eq t.number n) as (λ b. cond b (Some t) (ticket_in tickets n) ≡ None → cond b (Some t) (ticket_in (without_ticket m tickets) n) ≡ None) [
        | true ↦ λ e. absurd (some_none e)
        | false ↦ λ e. ticket_without tickets m n e
      ]) none
    ]

no_call : (call : Call) (calls : List Call) → call ∷ calls ≡ [] → ⊥
no_call call calls e = cc

not_empty : (calls : List Call) (call : Call) → calls ++ call ∷ [] ≡ [] → ⊥
not_empty [] call e = no_call call [] e
not_empty (c ∷ calls) call e = no_call c (calls ++ call ∷ []) e

head_tail : (a b : Call) (xs ys : List Call) → a ∷ xs ≡ b ∷ ys → (a ≡ b) × (xs ≡ ys)
head_tail a b xs ys e = (cc, cc)

-- the last of two lists
last_same : (xs ys : List Call) (a b : Call) → xs ++ a ∷ [] ≡ ys ++ b ∷ [] → (xs ≡ ys) × (a ≡ b)
last_same [] [] a b e = (refl, (head_tail a b [] [] e).0)
last_same [] (y ∷ ys) a b e = absurd (not_empty ys b (sym (head_tail a y [] (ys ++ b ∷ []) e).1))
last_same (x ∷ xs) [] a b e = absurd (not_empty xs a (head_tail x b (xs ++ a ∷ []) [] e).1)
last_same (x ∷ xs) (y ∷ ys) a b e =
    let h = head_tail x y (xs ++ a ∷ []) (ys ++ b ∷ []) e in
    let l = last_same xs ys a b h.1 in
    (ap (λ z. z ∷ xs) h.0 ∙ ap (λ zs. y ∷ zs) l.0, l.1)

longer : (xs : List Call) (a : Call) → length (xs ++ a ∷ []) ≡ length xs + 1
longer [] a = refl
longer (x ∷ xs) a = let e = longer xs a in omega (arith, e)

not_longer : (xs ys : List Call) (a b : Call) → xs ++ a ∷ [] ≡ ys → (xs ≡ ys) ⊎ (xs ≡ ys ++ b ∷ []) → ⊥
not_longer xs ys a b e (inl f) = let l = longer xs a in let g = ap length e in let h = ap length f in omega (arith, l, g, h)
not_longer xs ys a b e (inr f) = let l = longer xs a in let g = ap length e in let h = ap length f in let k = longer ys b in omega (arith, l, g, h, k)

-- what has begun has a lower number than what begins
begun_below : (x : ℕ) (past : List Event) (n : ℕ) (ask : Ask) → IsNewNumber x past → begun_late past n ≡ Some ask → n < x
begun_below x [] n ask new e = no_ask ask e
begun_below x (Begins m client ∷ past) n ask new e =
    (elim (nat_eq m n) as (λ b. nat_eq m n ≡ b → cond b (Some client) (begun_late past n) ≡ Some ask → n < x) [
      | true ↦ λ is _. subst (λ k. k < x) (eqb-true m n is) new.0
      | false ↦ λ _ e. begun_below x past n ask new.1 e
    ]) refl e
begun_below x (Calls m server asked origin end ∷ past) n ask new e = begun_below x past n ask new.1 e
begun_below x (Replies m key reply from ∷ past) n ask new e = begun_below x past n ask new.1 e
begun_below x (Breaks m ∷ past) n ask new e = begun_below x past n ask new.1 e
begun_below x (Turns server key turned ∷ past) n ask new e = begun_below x past n ask new e
begun_below x (Restarts server ∷ past) n ask new e = begun_below x past n ask new e

begun_unlike : (x : ℕ) (past : List Event) (n : ℕ) (ask : Ask) → IsNewNumber x past → begun_late past n ≡ Some ask → nat_eq x n ≡ false
begun_unlike x past n ask new e = let lt = begun_below x past n ask new e in differs x n (λ is. omega (arith, lt, is))

least : (x : ℕ) (past : List Event) → IsNewNumber x past → 0 < x
least x [] new = omega (arith, new)
least x (Begins m client ∷ past) new = least x past new.1
least x (Calls m server asked origin end ∷ past) new = least x past new.1
least x (Replies m key reply from ∷ past) new = least x past new.1
least x (Breaks m ∷ past) new = least x past new.1
least x (Turns server key turned ∷ past) new = least x past new
least x (Restarts server ∷ past) new = least x past new

-- what happened has what the log has
begun_entries :
    (entries : List (Entry dialect)) (moments : List Moment) (past : List (Entry dialect)) (n : ℕ) → begun_late (seen moments) n ≡ begun_late (run_of past) n
    → begun_late (seen (with_commands (run_of entries) moments)) n ≡ begun_late (run_of (entries ++ past)) n
begun_entries [] moments past n same = same
begun_entries (log.Feeds client bytes ∷ entries) moments past n same = begun_entries entries moments past n same
begun_entries (log.Starts client number part ∷ entries) moments past n same = ap (λ x. cond (nat_eq number n) (Some part.ask) x) (begun_entries entries moments past n same)
begun_entries (log.Sends number server ask origin ∷ entries) moments past n same = begun_entries entries moments past n same
begun_entries (Happens (Begins number ask) ∷ entries) moments past n same = ap (λ x. cond (nat_eq number n) (Some ask) x) (begun_entries entries moments past n same)
begun_entries (Happens (Calls number server ask origin end) ∷ entries) moments past n same = begun_entries entries moments past n same
begun_entries (Happens (Replies number key reply from) ∷ entries) moments past n same = begun_entries entries moments past n same
begun_entries (Happens (Breaks number) ∷ entries) moments past n same = begun_entries entries moments past n same
begun_entries (Happens (Turns server key turned) ∷ entries) moments past n same = begun_entries entries moments past n same
begun_entries (Happens (Restarts server) ∷ entries) moments past n same = begun_entries entries moments past n same
begun_entries (log.Ends client number part reply from ∷ entries) moments past n same = begun_entries entries moments past n same
begun_entries (log.Shows client slot reply ∷ entries) moments past n same = begun_entries entries moments past n same
begun_entries (log.Passes client message next ∷ entries) moments past n same = begun_entries entries moments past n same
begun_entries (log.Gives client bytes ∷ entries) moments past n same = begun_entries entries moments past n same
begun_entries (log.Drops client ∷ entries) moments past n same = begun_entries entries moments past n same
begun_entries (log.Frees number ∷ entries) moments past n same = begun_entries entries moments past n same
begun_entries (log.Resets client ∷ entries) moments past n same = begun_entries entries moments past n same

begun_moment : (place : ℕ) (moment : Moment) (past : List Move) (n : ℕ) → AreApplied (OfServer place moment ∷ past) → begun_late (seen (moment ∷ moments_in past)) n ≡ begun_late (seen (moments_in past)) n
begun_moment place (at_servers.Does (Calls number server ask origin end)) past n applied = refl
begun_moment place (Lands number server ask origin stamp answer spaces) past n applied = refl
begun_moment place (at_servers.Does (Turns server key turned)) past n applied = refl
begun_moment place (at_servers.Does (Restarts server)) past n applied = refl
begun_moment place (at_servers.Does (Begins number ask)) past n applied = absurd applied.0
begun_moment place (at_servers.Does (Replies number key reply from)) past n applied = absurd applied.0
begun_moment place (at_servers.Does (Breaks number)) past n applied = absurd applied.0

same_begun : (moves : List Move) → AreApplied moves → (n : ℕ) → begun_late (seen (moments_in moves)) n ≡ begun_late (run_of (log_of moves)) n
same_begun [] applied n = refl
same_begun (OfProxy step entries ∷ past) applied n = begun_entries entries (moments_in past) (log_of past) n (same_begun past applied n)
same_begun (OfServer place moment ∷ past) applied n = begun_moment place moment past n applied ∙ same_begun past applied.1 n

-- what commands do leaves the calls
calls_with : (events : List Event) (moments : List Moment) (n : ℕ) → calls_so_far (seen (with_commands events moments)) n ≡ calls_so_far (seen moments) n
calls_with [] moments n = refl
calls_with (Begins number ask ∷ events) moments n = calls_with events moments n
calls_with (Replies number key reply from ∷ events) moments n = calls_with events moments n
calls_with (Breaks number ∷ events) moments n = calls_with events moments n
calls_with (Calls number server ask origin end ∷ events) moments n = calls_with events moments n
calls_with (Turns server key turned ∷ events) moments n = calls_with events moments n
calls_with (Restarts server ∷ events) moments n = calls_with events moments n

alike_at : (moves : List Move) → TellAlways moves → TellAlike moves
alike_at [] tell n = inl refl
alike_at (move ∷ past) tell n = tell.0 n

-- each call that is out is of a command under way, on its key
abbrev pub OutWay : List (Entry dialect) → Type 0
OutWay l = (s n : ℕ) (ticket : Ticket) → ticket_in (out_of l s) n ≡ Some ticket → (client : Ask) × (under_way (run_of l) n ≡ Some client) × (ticket.ask.key ≡ client.key)

abbrev pub OutWays : List Move → Type 0
OutWays [] = OutWay []
OutWays (OfProxy step entries ∷ past) = OutWay (entries ++ log_of past) × OutWays past
OutWays (OfServer place moment ∷ past) = OutWays past

out_at : (moves : List Move) → OutWays moves → OutWay (log_of moves)
out_at [] outs = outs
out_at (OfProxy step entries ∷ past) outs = outs.0
out_at (OfServer place moment ∷ past) outs = out_at past outs

-- a command is over: nothing of it is out, nor goes out again
record Over (l : List (Entry dialect)) (n : ℕ) : Type 0 where
  owner : owner_of l n ≡ None
  out : (s : ℕ) → ticket_in (out_of l s) n ≡ None
  ask : Ask
  begins : begun_late (run_of l) n ≡ Some ask

module _ (words : ℕ → Ask → List Call → Answer → Option ℕ → Type 0) (Bars : ℕ → Ask → ℕ → Ask → Type 0) (believes : ℕ → List ℕ → Option Item) (version : List ℕ) where
  abbrev Follow : List (Entry dialect) → Type 0
  Follow l = Follows words Bars believes version l

  unlike_owner : (l : List (Entry dialect)) (m n : ℕ) (o : Owner) → owner_of l m ≡ Some o → owner_of l n ≡ None → nat_eq m n ≡ false
  unlike_owner l m n o has none = differs m n (λ is. some_none (sym has ∙ ap (owner_of l) is ∙ none))

  over_stays : (e : Entry dialect) (l : List (Entry dialect)) → Follow (e ∷ l) → (n : ℕ) → Over l n → Over (e ∷ l) n × (calls_so_far (run_of (e ∷ l)) n ≡ calls_so_far (run_of l) n)
  over_stays (log.Feeds client bytes) l f n over = (record { owner = over.owner; out = over.out; ask = over.ask; begins = over.begins }, refl)
  over_stays (log.Starts client m part) l f n over =
      let u = begun_unlike m (run_of l) n over.ask f.0.0.0 over.begins in
      (record { owner = second (nat_eq m n) (Some (record { client = client; ask = part.ask })) (owner_of l n) u ∙ over.owner; out = over.out; ask = over.ask; begins = second (nat_eq m n) (Some part.ask) (begun_late (run_of l) n) u ∙ over.begins }, refl)
  over_stays (log.Sends m server ask origin) l f n over =
      let u = unlike_owner l m n f.0.0.0 f.0.0.1 over.owner in
      let t : Ticket = record { number = m; ask = ask; origin = origin } in (
        record {
          owner = over.owner;
          out = λ s. elim (nat_eq server s) as (λ b. ticket_in (cond b (out_of l s ++ t ∷ []) (out_of l s)) n ≡ None) [ true ↦ ticket_after (out_of l s) t n u (over.out s) | false ↦ over.out s ];
          ask = over.ask;
          begins = over.begins;
        },
        refl,
      )
  over_stays (Happens (Calls m server ask origin end)) l f n over =
      let u : nat_eq m n ≡ false = differs m n (λ is. some_none (sym f.0.1 ∙ ap (ticket_in (out_of l server)) is ∙ over.out server)) in (
        record {
          owner = over.owner;
          out = λ s. elim (nat_eq server s) as (λ b. ticket_in (cond b (without_ticket m (out_of l s)) (out_of l s)) n ≡ None) [ true ↦ ticket_without (out_of l s) m n (over.out s) | false ↦ over.out s ];
          ask = over.ask;
          begins = over.begins;
        },
        second (nat_eq m n) (calls_so_far (run_of l) n ++ record { server = server; ask = ask; origin = origin; outcome = outcome_of end } ∷ []) (calls_so_far (run_of l) n) u,
      )
  over_stays (Happens (Turns server key turned)) l f n over = (record { owner = over.owner; out = over.out; ask = over.ask; begins = over.begins }, refl)
  over_stays (Happens (Restarts server)) l f n over = (record { owner = over.owner; out = over.out; ask = over.ask; begins = over.begins }, refl)
  over_stays (Happens (Begins m ask)) l f n over = absurd f.0
  over_stays (Happens (Replies m key reply from)) l f n over = absurd f.0
  over_stays (Happens (Breaks m)) l f n over = absurd f.0
  over_stays (log.Ends client m part reply from) l f n over =
      (record { owner = elim (nat_eq m n) as (λ b. cond b None (owner_of l n) ≡ None) [ true ↦ refl | false ↦ over.owner ]; out = over.out; ask = over.ask; begins = over.begins }, refl)
  over_stays (log.Shows client slot reply) l f n over = (record { owner = over.owner; out = over.out; ask = over.ask; begins = over.begins }, refl)
  over_stays (log.Passes client message next) l f n over = (record { owner = over.owner; out = over.out; ask = over.ask; begins = over.begins }, refl)
  over_stays (log.Gives client bytes) l f n over = (record { owner = over.owner; out = over.out; ask = over.ask; begins = over.begins }, refl)
  over_stays (log.Drops client) l f n over = (record { owner = over.owner; out = over.out; ask = over.ask; begins = over.begins }, refl)
  over_stays (log.Frees m) l f n over =
      (record { owner = elim (nat_eq m n) as (λ b. cond b None (owner_of l n) ≡ None) [ true ↦ refl | false ↦ over.owner ]; out = over.out; ask = over.ask; begins = over.begins }, refl)
  over_stays (log.Resets client) l f n over = (record { owner = over.owner; out = over.out; ask = over.ask; begins = over.begins }, refl)

  -- what has begun has begun
  begun_stays : (entries l : List (Entry dialect)) → Follow (entries ++ l) → (n : ℕ) (ask : Ask) → begun_late (run_of l) n ≡ Some ask → begun_late (run_of (entries ++ l)) n ≡ Some ask
  begun_stays [] l f n ask is = is
  begun_stays (log.Starts client m part ∷ entries) l f n ask is =
      let before = begun_stays entries l f.1 n ask is in
      second (nat_eq m n) (Some part.ask) (begun_late (run_of (entries ++ l)) n) (begun_unlike m (run_of (entries ++ l)) n ask f.0.0.0 before) ∙ before
  begun_stays (log.Feeds client bytes ∷ entries) l f n ask is = begun_stays entries l f.1 n ask is
  begun_stays (log.Sends m server asked origin ∷ entries) l f n ask is = begun_stays entries l f.1 n ask is
  begun_stays (Happens (Calls m server asked origin end) ∷ entries) l f n ask is = begun_stays entries l f.1 n ask is
  begun_stays (Happens (Turns server key turned) ∷ entries) l f n ask is = begun_stays entries l f.1 n ask is
  begun_stays (Happens (Restarts server) ∷ entries) l f n ask is = begun_stays entries l f.1 n ask is
  begun_stays (Happens (Begins m asked) ∷ entries) l f n ask is = absurd f.0
  begun_stays (Happens (Replies m key reply from) ∷ entries) l f n ask is = absurd f.0
  begun_stays (Happens (Breaks m) ∷ entries) l f n ask is = absurd f.0
  begun_stays (log.Ends client m part reply from ∷ entries) l f n ask is = begun_stays entries l f.1 n ask is
  begun_stays (log.Shows client slot reply ∷ entries) l f n ask is = begun_stays entries l f.1 n ask is
  begun_stays (log.Passes client message next ∷ entries) l f n ask is = begun_stays entries l f.1 n ask is
  begun_stays (log.Gives client bytes ∷ entries) l f n ask is = begun_stays entries l f.1 n ask is
  begun_stays (log.Drops client ∷ entries) l f n ask is = begun_stays entries l f.1 n ask is
  begun_stays (log.Frees m ∷ entries) l f n ask is = begun_stays entries l f.1 n ask is
  begun_stays (log.Resets client ∷ entries) l f n ask is = begun_stays entries l f.1 n ask is

  before_them : (entries l : List (Entry dialect)) → Follow (entries ++ l) → Follow l
  before_them [] l f = f
  before_them (e ∷ entries) l f = before_them entries l f.1

  -- a number that is new to what has begun is new
  new_number : (x : ℕ) (events : List Event) → Own words Bars events → 0 < x → ((n : ℕ) (ask : Ask) → begun_late events n ≡ Some ask → n < x) → IsNewNumber x events
  new_number x [] own least all = omega (arith, least)
  new_number x (Begins m client ∷ past) own least all = (
    all m client (ap (λ b. cond b (Some client) (begun_late past m)) (eq-eqb m m refl)),
    new_number x past own.1 least (λ n ask e. (elim (nat_eq m n) as (λ b. nat_eq m n ≡ b → n < x) [
      | true ↦ λ is. all n client (ap (λ b. cond b (Some client) (begun_late past n)) is)
      | false ↦ λ is. all n ask (ap (λ b. cond b (Some client) (begun_late past n)) is ∙ e)
    ]) refl),
  )
  new_number x (Calls m server asked origin end ∷ past) own least all = (all m own.0.0 (way_begun past m own.0.0 own.0.1), new_number x past own.1 least all)
  new_number x (Replies m key reply from ∷ past) own least all = (all m own.0.0 (way_begun past m own.0.0 own.0.1), new_number x past own.1 least all)
  new_number x (Breaks m ∷ past) own least all = (all m own.0.0 (way_begun past m own.0.0 own.0.1), new_number x past own.1 least all)
  new_number x (Turns server key turned ∷ past) own least all = new_number x past own.1 least all
  new_number x (Restarts server ∷ past) own least all = new_number x past own.1 least all

  -- before its last entry
  earlier :
      (e : Entry dialect) (entries : List (Entry dialect)) (moments : List Moment) (l : List (Entry dialect)) → Follow (e ∷ entries ++ l)
      → ((n : ℕ) → Over (e ∷ entries ++ l) n → calls_so_far (seen moments) n ≡ calls_so_far (run_of (e ∷ entries ++ l)) n)
      → (n : ℕ) → Over (entries ++ l) n → calls_so_far (seen moments) n ≡ calls_so_far (run_of (entries ++ l)) n
  earlier e entries moments l f calls n over = let st = over_stays e (entries ++ l) f n over in calls n st.0 ∙ st.1

  -- in a step of the proxy
  own_entries :
      (entries : List (Entry dialect)) (moments : List Moment) (l : List (Entry dialect)) → Follow (entries ++ l) → Own words Bars (seen moments)
      → ((n : ℕ) → under_way (seen moments) n ≡ under_way (run_of l) n) → ((n : ℕ) → begun_late (seen moments) n ≡ begun_late (run_of l) n)
      → ((n : ℕ) → Over (entries ++ l) n → calls_so_far (seen moments) n ≡ calls_so_far (run_of (entries ++ l)) n) → Own words Bars (seen (with_commands (run_of entries) moments))
  own_entries [] moments l f own way begins calls = own
  own_entries (log.Starts client m part ∷ entries) moments l f own way begins calls =
      let before = own_entries entries moments l f.1 own way begins (earlier (log.Starts client m part) entries moments l f calls) in
      let past = run_of (entries ++ l) in
      let now = seen (with_commands (run_of entries) moments) in (
        (
          new_number m now before (least m past f.0.0.0) (λ n ask b. begun_below m past n ask f.0.0.0 (sym (begun_entries entries moments l n (begins n)) ∙ b)),
          λ other client is key. f.0.0.1 other client (sym (way_entries entries moments l other (way other)) ∙ is) key,
        ),
        before,
      )
  own_entries (log.Ends client m part reply from ∷ entries) moments l f own way begins calls =
      let before = own_entries entries moments l f.1 own way begins (earlier (log.Ends client m part reply from) entries moments l f calls) in
      let come = f.0.0 in
      let out = f.0.4 in
      let over : Over (log.Ends client m part reply from ∷ entries ++ l) m = record {
        owner = ap (λ b. cond b None (owner_of (entries ++ l) m)) (eq-eqb m m refl);
        out = out;
        ask = come.0;
        begins = way_begun (run_of (entries ++ l)) m come.0 come.1;
      } in
      let same : calls_so_far (seen (with_commands (run_of entries) moments)) m ≡ calls_so_far (run_of (entries ++ l)) m = calls_with (run_of entries) moments m ∙ calls m over in (
        (come.0, way_entries entries moments l m (way m) ∙ come.1, come.2, subst (λ c. words m come.0 c reply from) (sym same) come.3),
        before,
      )
  own_entries (log.Frees m ∷ entries) moments l f own way begins calls =
      ((f.0.0.0, way_entries entries moments l m (way m) ∙ f.0.0.1), own_entries entries moments l f.1 own way begins (earlier (log.Frees m) entries moments l f calls))
  own_entries (log.Feeds client bytes ∷ entries) moments l f own way begins calls = own_entries entries moments l f.1 own way begins (earlier (log.Feeds client bytes) entries moments l f calls)
  own_entries (log.Sends m server ask origin ∷ entries) moments l f own way begins calls = own_entries entries moments l f.1 own way begins (earlier (log.Sends m server ask origin) entries moments l f calls)
  own_entries (Happens (Calls m server ask origin end) ∷ entries) moments l f own way begins calls = own_entries entries moments l f.1 own way begins (earlier (Happens (Calls m server ask origin end)) entries moments l f calls)
  own_entries (Happens (Turns server key turned) ∷ entries) moments l f own way begins calls = own_entries entries moments l f.1 own way begins (earlier (Happens (Turns server key turned)) entries moments l f calls)
  own_entries (Happens (Restarts server) ∷ entries) moments l f own way begins calls = own_entries entries moments l f.1 own way begins (earlier (Happens (Restarts server)) entries moments l f calls)
  own_entries (Happens (Begins m ask) ∷ entries) moments l f own way begins calls = absurd f.0
  own_entries (Happens (Replies m key reply from) ∷ entries) moments l f own way begins calls = absurd f.0
  own_entries (Happens (Breaks m) ∷ entries) moments l f own way begins calls = absurd f.0
  own_entries (log.Shows client slot reply ∷ entries) moments l f own way begins calls = own_entries entries moments l f.1 own way begins (earlier (log.Shows client slot reply) entries moments l f calls)
  own_entries (log.Passes client message next ∷ entries) moments l f own way begins calls = own_entries entries moments l f.1 own way begins (earlier (log.Passes client message next) entries moments l f calls)
  own_entries (log.Gives client bytes ∷ entries) moments l f own way begins calls = own_entries entries moments l f.1 own way begins (earlier (log.Gives client bytes) entries moments l f calls)
  own_entries (log.Drops client ∷ entries) moments l f own way begins calls = own_entries entries moments l f.1 own way begins (earlier (log.Drops client) entries moments l f calls)
  own_entries (log.Resets client ∷ entries) moments l f own way begins calls = own_entries entries moments l f.1 own way begins (earlier (log.Resets client) entries moments l f calls)

  front_before : (n : ℕ) (client : Ask) (calls : List Call) (call : Call) → IsFront words n client (calls ++ call ∷ []) → IsFront words n client calls
  front_before n client calls call f = (call ∷ f.0, f.1, f.2, subst (λ l. words n client l f.1 f.2) (append_assoc calls (call ∷ []) f.0) f.3)

  -- the calls of a command are the first of a word, if there are any
  abbrev pub AreFront : ℕ → Ask → List Call → Type 0
  AreFront n client calls = (calls ≡ []) ⊎ IsFront words n client calls

  log_fronts : (events : List Event) → Own words Bars events → (n : ℕ) (client : Ask) → begun_late events n ≡ Some client → AreFront n client (calls_so_far events n)
  log_fronts [] own n client is = no_ask client is
  log_fronts (Begins m ask ∷ past) own n client is =
      (elim (nat_eq m n) as (λ b. nat_eq m n ≡ b → cond b (Some ask) (begun_late past n) ≡ Some client → AreFront n client (calls_so_far past n)) [
        | true ↦ λ e _. inl (new_calls n past (subst (λ k. IsNewNumber k past) (eqb-true m n e) own.0.0))
        | false ↦ λ _ is. log_fronts past own.1 n client is
      ]) refl is
  log_fronts (Calls m server ask origin end ∷ past) own n client is =
      let c : Call = record { server = server; ask = ask; origin = origin; outcome = outcome_of end } in
      (elim (nat_eq m n) as (λ b. nat_eq m n ≡ b → AreFront n client (cond b (calls_so_far past n ++ c ∷ []) (calls_so_far past n))) [
        | true ↦ λ e. (let same = eqb-true m n e in
            let its : own.0.0 ≡ client = some_ask own.0.0 client (sym (way_begun past m own.0.0 own.0.1) ∙ ap (begun_late past) same ∙ is) in
            inr (subst (λ k. IsFront words k client (calls_so_far past k ++ c ∷ [])) same (subst (λ (a : Ask). IsFront words m a (calls_so_far past m ++ c ∷ [])) its own.0.3)))
        | false ↦ λ _. log_fronts past own.1 n client is
      ]) refl
  log_fronts (Replies m key reply from ∷ past) own n client is = log_fronts past own.1 n client is
  log_fronts (Breaks m ∷ past) own n client is = log_fronts past own.1 n client is
  log_fronts (Turns server key turned ∷ past) own n client is = log_fronts past own.1 n client is
  log_fronts (Restarts server ∷ past) own n client is = log_fronts past own.1 n client is

  abbrev pub Fronts : List Move → Type 0
  Fronts moves = (n : ℕ) (client : Ask) → begun_late (run_of (log_of moves)) n ≡ Some client → AreFront n client (calls_so_far (seen (moments_in moves)) n)

  -- where a call of a command ended
  module _ (place number server : ℕ) (ask : Ask) (origin : Origin) (end : End) (past : List Move) where
    abbrev its : Call
    its = record { server = server; ask = ask; origin = origin; outcome = outcome_of end }

    abbrev calls_before : List Call
    calls_before = calls_so_far (seen (moments_in past)) number

    now_is : calls_so_far (Calls number server ask origin end ∷ seen (moments_in past)) number ≡ calls_before ++ its ∷ []
    now_is = ap (λ b. cond b (calls_before ++ its ∷ []) calls_before) (eq-eqb number number refl)

    -- it is the one that is out
    is_out : TellAlike (OfServer place (at_servers.Does (Calls number server ask origin end)) ∷ past) → TellAlike past → CallIsAwaited (log_of past) number its
    is_out now was =
        ⊎_elim
        (λ e. absurd (⊎_elim (λ f. not_longer calls_before (calls_so_far (run_of (log_of past)) number) its its (sym now_is ∙ e) (inl f))
        (λ f. not_longer calls_before (calls_so_far (run_of (log_of past)) number) its f.0 (sym now_is ∙ e) (inr f.1)) (was number)))
        (λ f. subst (λ (c : Call). CallIsAwaited (log_of past) number c) (sym (last_same calls_before (calls_so_far (run_of (log_of past)) number) its f.0 (sym now_is ∙ f.1)).1) f.2)
        (now number)

    fronts_before : Fronts (OfServer place (at_servers.Does (Calls number server ask origin end)) ∷ past) → Fronts past
    fronts_before fronts n client is =
        (elim (nat_eq number n) as (λ b. AreFront n client (cond b (calls_so_far (seen (moments_in past)) n ++ its ∷ []) (calls_so_far (seen (moments_in past)) n)) → AreFront n client (calls_so_far (seen (moments_in past)) n)) [
          | true ↦ λ f. ⊎_elim (λ e. absurd (not_empty (calls_so_far (seen (moments_in past)) n) its e)) (λ g. inr (front_before n client (calls_so_far (seen (moments_in past)) n) its g)) f
          | false ↦ λ f. f
        ]) (fronts n client is)

    front_of : Fronts (OfServer place (at_servers.Does (Calls number server ask origin end)) ∷ past) → (client : Ask) → begun_late (run_of (log_of past)) number ≡ Some client → IsFront words number client (calls_before ++ its ∷ [])
    front_of fronts client is =
        ⊎_elim (λ e. absurd (not_empty calls_before its e)) (λ f. f) (subst (λ (c : List Call). AreFront number client c) now_is (fronts number client is))

  own_moves : (moves : List Move) → Follow (log_of moves) → AreApplied moves → TellAlways moves → OutWays moves → Fronts moves → Own words Bars (seen (moments_in moves))
  own_moves [] f applied tell outs fronts = tt
  own_moves (OfProxy step entries ∷ past) f applied tell outs fronts =
      let l = log_of past in
      let still = calls_with (run_of entries) (moments_in past) in
      let over : (n : ℕ) → Over (entries ++ l) n → calls_so_far (seen (moments_in past)) n ≡ calls_so_far (run_of (entries ++ l)) n =
      λ n over. sym (still n) ∙ ⊎_elim (λ e. e) (λ g. absurd (some_none (sym g.2.out ∙ over.out g.0.server))) (tell.0 n) in
      let before : Fronts past = λ n client is. subst (λ (c : List Call). AreFront n client c) (still n) (fronts n client (begun_stays entries l f n client is)) in
      own_entries entries (moments_in past) l f (own_moves past (before_them entries l f) applied tell.1 outs.1 before) (same_way past applied) (same_begun past applied) over
  own_moves (OfServer place (at_servers.Does (Calls number server ask origin end)) ∷ past) f applied tell outs fronts =
      let awaited = is_out place number server ask origin end past tell.0 (alike_at past tell.1) in
      let way = out_at past outs server number (record { number = number; ask = ask; origin = origin }) awaited.out in (
        (way.0, same_way past applied.1 number ∙ way.1, way.2, front_of place number server ask origin end past fronts way.0 (way_begun (run_of (log_of past)) number way.0 way.1)),
        own_moves past f applied.1 tell.1 outs (fronts_before place number server ask origin end past fronts),
      )
  own_moves (OfServer place (Lands number server ask origin stamp answer spaces) ∷ past) f applied tell outs fronts = own_moves past f applied.1 tell.1 outs fronts
  own_moves (OfServer place (at_servers.Does (Turns server key turned)) ∷ past) f applied tell outs fronts = (tt, own_moves past f applied.1 tell.1 outs fronts)
  own_moves (OfServer place (at_servers.Does (Restarts server)) ∷ past) f applied tell outs fronts = (tt, own_moves past f applied.1 tell.1 outs fronts)
  own_moves (OfServer place (at_servers.Does (Begins number ask)) ∷ past) f applied tell outs fronts = absurd applied.0
  own_moves (OfServer place (at_servers.Does (Replies number key reply from)) ∷ past) f applied tell outs fronts = absurd applied.0
  own_moves (OfServer place (at_servers.Does (Breaks number)) ∷ past) f applied tell outs fronts = absurd applied.0

  -- what happened is what commands may do, where what is out ended so that a word goes on by it
  pub does_own :
      (moves : List Move) → Follow (log_of moves) → Own words Bars (run_of (log_of moves)) → AreApplied moves → TellAlways moves → OutWays moves
      → ((n : ℕ) (call : Call) (client : Ask) → CallIsAwaited (log_of moves) n call → begun_late (run_of (log_of moves)) n ≡ Some client → IsFront words n client (calls_so_far (run_of (log_of moves)) n ++ call ∷ []))
      → Own words Bars (seen (moments_in moves))
  does_own moves f own applied tell outs goes =
      own_moves moves f applied tell outs
      (λ n client is. ⊎_elim (λ e. subst (λ (c : List Call). AreFront n client c) (sym e) (log_fronts (run_of (log_of moves)) own n client is))
      (λ g. subst (λ (c : List Call). AreFront n client c) (sym g.1) (inr (goes n g.0 client g.2 is))) (alike_at moves tell n))
