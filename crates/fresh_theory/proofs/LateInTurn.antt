-- Several runs of a program, one after another before servers that may apply late what they sent, are one run over one connection to each server.
use Rattle.std.proofs.Common.{◌≡◌, ℕ, Bool, true, false, cond, List, [], ◌∷◌, ◌++◌, Option, Some, None, refl, sym, ap, ◌∙◌, subst, nat_eq}
use Rattle.std.proofs.lemmas.Bool.{eqb-true, eq-eqb}
use Rattle.mc_types.specs.declared.ask.Ask.{Ask}
use Rattle.mc_types.specs.declared.answer.Answer.{Answer}
use Rattle.mc_types.specs.declared.call.Origin.{Origin}
use Rattle.mc_types.specs.declared.call.Origin.TheVariants.{Client}
use Rattle.mc_types.specs.Items.{Item}
use Rattle.fresh_runs.specs.Calls.{Call, Read, Unread, Never}
use Rattle.fresh_runs.specs.Run.{Event, Begins, Calls, Replies, Breaks, Turns, Restarts, under_way, IsFront, IsFreshByNumber, AreAlone}
use Rattle.fresh_runs.specs.Overlap.{Ticket}
use Rattle.fresh_runs.proofs.Runs.{no_ask, differs, differ, second}
use Rattle.route_tree.specs.Route.{Route}
use Rattle.route_tree.specs.Plan.{Plan}
use Rattle.route_tree.specs.At.{tree_at}
use Rattle.route_tree.specs.Word.{PlanWord}
use Rattle.gate_check.specs.Sound.{trees_of}
use Rattle.core_commands.specs.declared.sharing.Sharing.TheVariants as sharings
use Rattle.core_proxy.specs.Claims.{bars_by, copies_by}
use Rattle.core_accepted.specs.Known.{is_arbitrary}
use Rattle.core_accepted.specs.Late.{Moment, Does, Lands, seen, told, begun_late, LateRun, LandsEver, IsFreshBy, WasOver}
use Rattle.core_accepted.specs.Pipes.{PipeStep, Sends, Moves, Closes, moments_of, is_pipe, behind_first, IsFirstIn, pipe_after, pipe_of, Obeys, PipeSteps}
use Rattle.core_accepted.specs.Parts.{Own, part, ServesPipes, PipesInOrder}
use Rattle.core_accepted.specs.Rollout.{words_by}
use Rattle.core_accepted.specs.LateCores.{only_line}
use Rattle.core_accepted.proofs.Keeping as keeping
use Rattle.core_accepted.proofs.Late.{way_begun, way_told}
use Rattle.core_accepted.proofs.LateGrown.{late_generations}
use Rattle.fresh_theory.specs.InTurn.{AreInTurn}
use Rattle.fresh_theory.specs.LateInTurn.{line_of, OthersAreDone, EndedClean, WaitToSettle, LateRunsInTurnAreFresh}
use Rattle.fresh_theory.proofs.Parts.{part_laws}
use Rattle.fresh_theory.proofs.InTurn.{BarsAll, one_own, bars_in, copies_in}

-- ---- connections

pipe_apart : (q t p s : ℕ) → nat_eq q p ≡ false → is_pipe q t p s ≡ false
pipe_apart q t p s other = ap (λ b. cond b (nat_eq t s) false) other

pub either_same : {A : Type 0} (b : Bool) (x y : A) → x ≡ y → cond b x y ≡ y
either_same true x y e = e
either_same false x y e = refl

pub no_first : {A : Type 0} (tickets : List Ticket) (number : ℕ) (ask : Ask) (origin : Origin) → IsFirstIn tickets number ask origin → tickets ≡ [] → A
no_first tickets number ask origin first none = absurd (let e = first.1 in cc)

-- where nothing stands nothing is taken away
empty_stays : (line : ℕ → ℕ → ℕ) (moment : Moment) (p s : ℕ) → pipe_after line moment p s [] ≡ []
empty_stays line (Does (Begins number ask)) p s = refl
empty_stays line (Does (Calls number server ask origin (Read stamp answer spaces))) p s = either_same (is_pipe (line number server) server p s) [] [] refl
empty_stays line (Does (Calls number server ask origin (Unread stamp answer spaces))) p s = either_same (is_pipe (line number server) server p s) [] [] refl
empty_stays line (Does (Calls number server ask origin Never)) p s = either_same (is_pipe (line number server) server p s) [] [] refl
empty_stays line (Does (Replies number key reply from)) p s = refl
empty_stays line (Does (Breaks number)) p s = refl
empty_stays line (Does (Turns server key turned)) p s = refl
empty_stays line (Does (Restarts server)) p s = refl
empty_stays line (Lands number server ask origin stamp answer spaces) p s = either_same (is_pipe (line number server) server p s) [] [] refl

pub still_none : (line : ℕ → ℕ → ℕ) (moment : Moment) (p s : ℕ) (tickets : List Ticket) → tickets ≡ [] → pipe_after line moment p s tickets ≡ []
still_none line moment p s tickets none = subst (λ l. pipe_after line moment p s l ≡ []) (sym none) (empty_stays line moment p s)

-- what stands in the one connection to a server is what stands in that of one of the runs, and nothing in those of the others
record Holds (one : List Ticket) (each : ℕ → List Ticket) : Type 0 where
  holder : ℕ
  same : one ≡ each holder
  others : (p : ℕ) → (p ≡ holder → ⊥) → each p ≡ []

-- it is that whose call is first
holds_first : (one : List Ticket) (each : ℕ → List Ticket) (h : Holds one each) (q number : ℕ) (ask : Ask) (origin : Origin) → IsFirstIn (each q) number ask origin → q ≡ h.holder
holds_first one each h q number ask origin first =
    (elim (nat_eq q h.holder) as (λ b. nat_eq q h.holder ≡ b → q ≡ h.holder) [
      | true ↦ λ is. eqb-true q h.holder is
      | false ↦ λ other. no_first (each q) number ask origin first (h.others q (λ e. differ q h.holder other e))
    ]) refl

one_first : (one : List Ticket) (each : ℕ → List Ticket) → Holds one each → (q number : ℕ) (ask : Ask) (origin : Origin) → IsFirstIn (each q) number ask origin → IsFirstIn one number ask origin
one_first one each h q number ask origin first = (first.0, h.same ∙ ap each (sym (holds_first one each h q number ask origin first)) ∙ first.1)

-- where nothing stands in those of others than this run, it is this one's
abbrev retaken : (one : List Ticket) (each : ℕ → List Ticket) → Holds one each → (q : ℕ) → ((p : ℕ) → (p ≡ q → ⊥) → each p ≡ []) → Holds one each
retaken one each h q none = record {
  holder = q;
  same = (elim (nat_eq q h.holder) as (λ b. nat_eq q h.holder ≡ b → one ≡ each q) [
    | true ↦ λ is. h.same ∙ ap each (sym (eqb-true q h.holder is))
    | false ↦ λ other. h.same ∙ none h.holder (λ e. differ q h.holder other (sym e)) ∙ sym (h.others q (λ e. differ q h.holder other e))
  ]) refl;
  others = none;
}

-- what stands there changes in the connection of the holder
acted : (change : List Ticket → List Ticket) (q t s : ℕ) (one : List Ticket) (each : ℕ → List Ticket) (h : Holds one each) → (nat_eq t s ≡ true → q ≡ h.holder) → Holds (cond (is_pipe 0 t 0 s) (change one) one) (λ p. cond (is_pipe q t p s) (change (each p)) (each p))
acted change q t s one each h mine =
    (elim (nat_eq t s) as (λ b. nat_eq t s ≡ b → Holds (cond b (change one) one) (λ p. cond (cond (nat_eq q p) b false) (change (each p)) (each p))) [
      | true ↦ λ here. record {
        holder = h.holder;
        same = ap change h.same ∙ sym (ap (λ b. cond (cond b true false) (change (each h.holder)) (each h.holder)) (eq-eqb q h.holder (mine here)));
        others = λ p other. ap (λ b. cond (cond b true false) (change (each p)) (each p)) (differs q p (λ e. other (sym e ∙ mine here))) ∙ h.others p other;
      }
      | false ↦ λ away. record {
        holder = h.holder;
        same = h.same ∙ sym (either_false (nat_eq q h.holder) (change (each h.holder)) (each h.holder));
        others = λ p other. either_false (nat_eq q p) (change (each p)) (each p) ∙ h.others p other;
      }
    ]) refl
  where
    either_false : {A : Type 0} (b : Bool) (x y : A) → cond (cond b false false) x y ≡ y
    either_false true x y = refl
    either_false false x y = refl

-- or nowhere
stayed : (one one' : List Ticket) (each each' : ℕ → List Ticket) → Holds one each → one' ≡ one → ((p : ℕ) → each' p ≡ each p) → Holds one' each'
stayed one one' each each' h same all = record { holder = h.holder; same = same ∙ h.same ∙ sym (all h.holder); others = λ p other. all p ∙ h.others p other }

module _ (run : ℕ → ℕ) where
  abbrev line : ℕ → ℕ → ℕ
  line = line_of run

  -- the same steps over one connection to each server
  abbrev closed_if : List Ticket → ℕ → List PipeStep → List PipeStep
  closed_if [] server steps = steps
  closed_if (ticket ∷ tickets) server steps = Closes 0 server ∷ steps

  abbrev merged : List PipeStep → List PipeStep
  merged [] = []
  merged (Sends number server ask origin ∷ past) = Sends number server ask origin ∷ merged past
  merged (Moves moment ∷ past) = Moves moment ∷ merged past
  merged (Closes q server ∷ past) = closed_if (pipe_of line past q server) server (merged past)

  closed_moments : (tickets : List Ticket) (server : ℕ) (steps : List PipeStep) → moments_of (closed_if tickets server steps) ≡ moments_of steps
  closed_moments [] server steps = refl
  closed_moments (ticket ∷ tickets) server steps = refl

  same_moments : (steps : List PipeStep) → moments_of (merged steps) ≡ moments_of steps
  same_moments [] = refl
  same_moments (Sends number server ask origin ∷ past) = same_moments past
  same_moments (Moves moment ∷ past) = ap (λ l. moment ∷ l) (same_moments past)
  same_moments (Closes q server ∷ past) = closed_moments (pipe_of line past q server) server (merged past) ∙ same_moments past

  -- whenever a call is sent, nothing of another run stands in a connection to its server
  abbrev AllDone : List PipeStep → Type 0
  AllDone [] = Unit {0}
  AllDone (Sends number server ask origin ∷ past) = OthersAreDone run past (run number) server × AllDone past
  AllDone (Moves moment ∷ past) = AllDone past
  AllDone (Closes q server ∷ past) = AllDone past

  abbrev Stand : List PipeStep → ℕ → Type 0
  Stand steps s = Holds (pipe_of only_line (merged steps) 0 s) (λ p. pipe_of line steps p s)

  at_server : (past : List PipeStep) (s t q number : ℕ) (ask : Ask) (origin : Origin) → IsFirstIn (pipe_of line past q t) number ask origin → nat_eq t s ≡ true → IsFirstIn (pipe_of line past q s) number ask origin
  at_server past s t q number ask origin first here = subst (λ k. IsFirstIn (pipe_of line past q k) number ask origin) (eqb-true t s here) first

  closed_stands : (past : List PipeStep) → ((s : ℕ) → Stand past s) → (q t s : ℕ) (tickets : List Ticket) → pipe_of line past q t ≡ tickets → Holds (pipe_of only_line (closed_if tickets t (merged past)) 0 s) (λ p. pipe_of line (Closes q t ∷ past) p s)
  closed_stands past old q t s [] none =
      stayed _ _ (λ p. pipe_of line past p s) (λ p. pipe_of line (Closes q t ∷ past) p s) (old s) refl
      (λ p. (elim (nat_eq q p) as (λ b. nat_eq q p ≡ b → cond (cond b (nat_eq t s) false) [] (pipe_of line past p s) ≡ pipe_of line past p s) [
        | true ↦ λ is. (elim (nat_eq t s) as (λ b. nat_eq t s ≡ b → cond b [] (pipe_of line past p s) ≡ pipe_of line past p s) [
          | true ↦ λ here. sym (ap (λ k. pipe_of line past k s) (sym (eqb-true q p is)) ∙ ap (pipe_of line past q) (sym (eqb-true t s here)) ∙ none)
          | false ↦ λ _. refl
        ]) refl
        | false ↦ λ _. refl
      ]) refl)
  closed_stands past old q t s (ticket ∷ tickets) some =
      acted (λ _. []) q t s (pipe_of only_line (merged past) 0 s) (λ p. pipe_of line past p s) (old s)
      (λ here. holds_first _ (λ p. pipe_of line past p s) (old s) q ticket.number ticket.ask ticket.origin (at_server past s t q ticket.number ticket.ask ticket.origin (tickets, some) here))

  stands : (steps : List PipeStep) → PipesInOrder line steps → AllDone steps → (s : ℕ) → Stand steps s
  stands [] order done s = record { holder = 0; same = refl; others = λ p other. refl }
  stands (Sends number server ask origin ∷ past) order done s =
      let old = stands past order.1 done.1 in
      let ticket : Ticket = record { number = number; ask = ask; origin = origin } in
      let one = pipe_of only_line (merged past) 0 s in
      let each : ℕ → List Ticket = λ p. pipe_of line past p s in
      (elim (nat_eq server s) as (λ b. nat_eq server s ≡ b → Stand (Sends number server ask origin ∷ past) s) [
        | true ↦ λ here.
            let now = retaken one each (old s) (run number) (λ p other. ap (pipe_of line past p) (sym (eqb-true server s here)) ∙ done.0 p other) in
            acted (λ l. l ++ ticket ∷ []) (run number) server s one each now (λ _. refl)
        | false ↦ λ away. acted (λ l. l ++ ticket ∷ []) (run number) server s one each (old s) (λ here. absurd (let x = away in cc))
      ]) refl
  stands (Moves (Does (Calls number server ask origin (Read stamp answer spaces))) ∷ past) order done s =
      let old = stands past order.1 done in
      acted behind_first (run number) server s (pipe_of only_line (merged past) 0 s) (λ p. pipe_of line past p s) (old s)
      (λ here. holds_first _ (λ p. pipe_of line past p s) (old s) (run number) number ask origin (at_server past s server (run number) number ask origin order.0 here))
  stands (Moves (Does (Calls number server ask origin (Unread stamp answer spaces))) ∷ past) order done s =
      let old = stands past order.1 done in
      acted behind_first (run number) server s (pipe_of only_line (merged past) 0 s) (λ p. pipe_of line past p s) (old s)
      (λ here. holds_first _ (λ p. pipe_of line past p s) (old s) (run number) number ask origin (at_server past s server (run number) number ask origin order.0 here))
  stands (Moves (Does (Calls number server ask origin Never)) ∷ past) order done s =
      stayed _ _ (λ p. pipe_of line past p s) (λ p. pipe_of line (Moves (Does (Calls number server ask origin Never)) ∷ past) p s) (stands past order.1 done s)
      (either_same (is_pipe 0 server 0 s) _ _ refl) (λ p. either_same (is_pipe (run number) server p s) _ _ refl)
  stands (Moves (Lands number server ask origin stamp answer spaces) ∷ past) order done s =
      let old = stands past order.1 done in
      acted behind_first (run number) server s (pipe_of only_line (merged past) 0 s) (λ p. pipe_of line past p s) (old s)
      (λ here. holds_first _ (λ p. pipe_of line past p s) (old s) (run number) number ask origin (at_server past s server (run number) number ask origin order.0 here))
  stands (Moves (Does (Begins number ask)) ∷ past) order done s = stands past order.1 done s
  stands (Moves (Does (Replies number key reply from)) ∷ past) order done s = stands past order.1 done s
  stands (Moves (Does (Breaks number)) ∷ past) order done s = stands past order.1 done s
  stands (Moves (Does (Turns server key turned)) ∷ past) order done s = stands past order.1 done s
  stands (Moves (Does (Restarts server)) ∷ past) order done s = stands past order.1 done s
  stands (Closes q server ∷ past) order done s = closed_stands past (stands past order done) q server s (pipe_of line past q server) refl

  one_obeys : (past : List PipeStep) → ((s : ℕ) → Stand past s) → (moment : Moment) → Obeys line past moment → Obeys only_line (merged past) moment
  one_obeys past old (Does (Calls number server ask origin (Read stamp answer spaces))) first = one_first _ (λ p. pipe_of line past p server) (old server) (run number) number ask origin first
  one_obeys past old (Does (Calls number server ask origin (Unread stamp answer spaces))) first = one_first _ (λ p. pipe_of line past p server) (old server) (run number) number ask origin first
  one_obeys past old (Does (Calls number server ask origin Never)) first = tt
  one_obeys past old (Lands number server ask origin stamp answer spaces) first = one_first _ (λ p. pipe_of line past p server) (old server) (run number) number ask origin first
  one_obeys past old (Does (Begins number ask)) first = tt
  one_obeys past old (Does (Replies number key reply from)) first = tt
  one_obeys past old (Does (Breaks number)) first = tt
  one_obeys past old (Does (Turns server key turned)) first = tt
  one_obeys past old (Does (Restarts server)) first = tt

  closed_order : (tickets : List Ticket) (server : ℕ) (steps : List PipeStep) → PipesInOrder only_line steps → PipesInOrder only_line (closed_if tickets server steps)
  closed_order [] server steps order = order
  closed_order (ticket ∷ tickets) server steps order = order

  one_order : (steps : List PipeStep) → PipesInOrder line steps → AllDone steps → PipesInOrder only_line (merged steps)
  one_order [] order done = tt
  one_order (Sends number server ask origin ∷ past) order done =
      (subst (λ l. (client : Ask) × (under_way (seen l) number ≡ Some client) × (ask.key ≡ client.key)) (sym (same_moments past)) order.0, one_order past order.1 done.1)
  one_order (Moves moment ∷ past) order done = (one_obeys past (stands past order.1 done) moment order.0, one_order past order.1 done)
  one_order (Closes q server ∷ past) order done = closed_order (pipe_of line past q server) server (merged past) (one_order past order done)

  -- ---- where runs ended with nothing in flight, or the next one waits

  -- what is under way after another command was over was before
  way_still : (x n : ℕ) (past : List Event) (ask : Ask) → cond (nat_eq x n) None (under_way past n) ≡ Some ask → under_way past n ≡ Some ask
  way_still x n past ask e =
      (elim (nat_eq x n) as (λ t. cond t None (under_way past n) ≡ Some ask → under_way past n ≡ Some ask) [
        | true ↦ λ f. no_ask ask f
        | false ↦ λ f. f
      ]) e

  -- what is under way at a time is of one run
  way_one : (events : List Event) → AreInTurn run events → (n m : ℕ) (a b : Ask) → under_way events n ≡ Some a → under_way events m ≡ Some b → run n ≡ run m
  way_one [] turn n m a b e f = no_ask a e
  way_one (Begins x ask ∷ past) turn n m a b e f =
      (elim (nat_eq x n) as (λ t. nat_eq x n ≡ t → cond t (Some ask) (under_way past n) ≡ Some a → run n ≡ run m) [
        | true ↦ λ is _. (elim (nat_eq x m) as (λ t. nat_eq x m ≡ t → cond t (Some ask) (under_way past m) ≡ Some b → run n ≡ run m) [
          | true ↦ λ too _. ap run (sym (eqb-true x n is) ∙ eqb-true x m too)
          | false ↦ λ _ g. ap run (sym (eqb-true x n is)) ∙ sym (turn.0 m b g)
        ]) refl f
        | false ↦ λ _ g. (elim (nat_eq x m) as (λ t. nat_eq x m ≡ t → cond t (Some ask) (under_way past m) ≡ Some b → run n ≡ run m) [
          | true ↦ λ too _. turn.0 n a g ∙ ap run (eqb-true x m too)
          | false ↦ λ _ k. way_one past turn.1 n m a b g k
        ]) refl f
      ]) refl e
  way_one (Calls x s asked o end ∷ past) turn n m a b e f = way_one past turn n m a b e f
  way_one (Replies x key r from ∷ past) turn n m a b e f = way_one past turn n m a b (way_still x n past a e) (way_still x m past b f)
  way_one (Breaks x ∷ past) turn n m a b e f = way_one past turn n m a b (way_still x n past a e) (way_still x m past b f)
  way_one (Turns s key turned ∷ past) turn n m a b e f = way_one past turn n m a b e f
  way_one (Restarts s ∷ past) turn n m a b e f = way_one past turn n m a b e f

  module _ (clean : ℕ → Bool) (opening : ℕ → List ℕ → Option Item) where
    ended_none : (steps : List PipeStep) → PipesInOrder line steps → AreInTurn run (told opening (moments_of steps)) → EndedClean run clean steps → (n : ℕ) (client : Ask) → under_way (told opening (moments_of steps)) n ≡ Some client → clean (run n) ≡ true → (s : ℕ) → OthersAreDone run steps (run n) s
    ended_none [] order turn ended n client e is s p other = refl
    ended_none (Sends m t ask origin ∷ past) order turn ended n client e is s p other =
        let alike : run n ≡ run m = way_one (told opening (moments_of past)) turn n m client order.0.0 e (sym (way_told opening (moments_of past) m) ∙ order.0.1) in
        second (is_pipe (run m) t p s) _ (pipe_of line past p s) (pipe_apart (run m) t p s (differs (run m) p (λ f. other (sym f ∙ sym alike))))
        ∙ ended_none past order.1 turn ended n client e is s p other
    ended_none (Moves (Does (Begins x ask)) ∷ past) order turn ended n client e is s p other =
        (elim (nat_eq x n) as (λ t. nat_eq x n ≡ t → cond t (Some ask) (under_way (told opening (moments_of past)) n) ≡ Some client → pipe_of line past p s ≡ []) [
          | true ↦ λ same _. let x_is = eqb-true x n same in ended.0 (ap (λ k. clean (run k)) x_is ∙ is) s p (λ f. other (f ∙ ap run x_is))
          | false ↦ λ _ g. ended_none past order.1 turn.1 ended.1 n client g is s p other
        ]) refl e
    ended_none (Moves (Does (Calls x t ask origin end)) ∷ past) order turn ended n client e is s p other =
        still_none line (Does (Calls x t ask origin end)) p s (pipe_of line past p s) (ended_none past order.1 turn ended n client e is s p other)
    ended_none (Moves (Does (Replies x key reply from)) ∷ past) order turn ended n client e is s p other =
        ended_none past order.1 turn ended n client (way_still x n (told opening (moments_of past)) client e) is s p other
    ended_none (Moves (Does (Breaks x)) ∷ past) order turn ended n client e is s p other =
        ended_none past order.1 turn ended n client (way_still x n (told opening (moments_of past)) client e) is s p other
    ended_none (Moves (Does (Turns t key turned)) ∷ past) order turn ended n client e is s p other = ended_none past order.1 turn ended n client e is s p other
    ended_none (Moves (Does (Restarts t)) ∷ past) order turn ended n client e is s p other = ended_none past order.1 turn ended n client e is s p other
    ended_none (Moves (Lands x t ask origin stamp answer spaces) ∷ past) order turn ended n client e is s p other =
        still_none line (Lands x t ask origin stamp answer spaces) p s (pipe_of line past p s) (ended_none past order.1 turn ended n client e is s p other)
    ended_none (Closes q t ∷ past) order turn ended n client e is s p other =
        let none = ended_none past order turn ended n client e is s p other in
        either_same (is_pipe q t p s) [] (pipe_of line past p s) (sym none) ∙ none

    all_done : (steps : List PipeStep) → PipesInOrder line steps → AreInTurn run (told opening (moments_of steps)) → EndedClean run clean steps → WaitToSettle run clean steps → AllDone steps
    all_done [] order turn ended waits = tt
    all_done (Sends n t ask origin ∷ past) order turn ended waits = (
      (elim (clean (run n)) as (λ b. clean (run n) ≡ b → OthersAreDone run past (run n) t) [
        | true ↦ λ is. ended_none past order.1 turn ended n order.0.0 (sym (way_told opening (moments_of past) n) ∙ order.0.1) is t
        | false ↦ λ not. waits.0 not
      ]) refl,
      all_done past order.1 turn ended waits.1,
    )
    all_done (Moves (Does (Begins x ask)) ∷ past) order turn ended waits = all_done past order.1 turn.1 ended.1 waits
    all_done (Moves (Does (Calls x t ask origin end)) ∷ past) order turn ended waits = all_done past order.1 turn ended waits
    all_done (Moves (Does (Replies x key reply from)) ∷ past) order turn ended waits = all_done past order.1 turn ended waits
    all_done (Moves (Does (Breaks x)) ∷ past) order turn ended waits = all_done past order.1 turn ended waits
    all_done (Moves (Does (Turns t key turned)) ∷ past) order turn ended waits = all_done past order.1 turn ended waits
    all_done (Moves (Does (Restarts t)) ∷ past) order turn ended waits = all_done past order.1 turn ended waits
    all_done (Moves (Lands x t ask origin stamp answer spaces) ∷ past) order turn ended waits = all_done past order.1 turn ended waits
    all_done (Closes q t ∷ past) order turn ended waits = all_done past order turn ended waits

-- ---- what runs do

-- what a proxy does it does by words that say no less of the commands that have begun, and by bars that bar no more of them
module _ (one other : ℕ → Ask → List Call → Answer → Option ℕ → Type 0) (OneBars OtherBars : ℕ → Ask → ℕ → Ask → Type 0) (P : ℕ → Type 0) (more : (n : ℕ) (ask : Ask) (calls : List Call) (reply : Answer) (from : Option ℕ) → P n → one n ask calls reply from → other n ask calls reply from) (fewer : (n m : ℕ) (ask client : Ask) → P n → P m → OtherBars n ask m client → OneBars n ask m client) where
  begun_still : (x : ℕ) (ask : Ask) (past : List Event) → ((n : ℕ) (a : Ask) → begun_late (Begins x ask ∷ past) n ≡ Some a → P n) → (n : ℕ) (a : Ask) → begun_late past n ≡ Some a → P n
  begun_still x ask past all n a e =
      (elim (nat_eq x n) as (λ b. nat_eq x n ≡ b → P n) [
        | true ↦ λ is. all n ask (ap (λ t. cond t (Some ask) (begun_late past n)) is)
        | false ↦ λ is. all n a (ap (λ t. cond t (Some ask) (begun_late past n)) is ∙ e)
      ]) refl

  own_more : (events : List Event) → ((n : ℕ) (ask : Ask) → begun_late events n ≡ Some ask → P n) → Own one OneBars events → Own other OtherBars events
  own_more [] all own = tt
  own_more (Begins x ask ∷ past) all own =
      let mine : P x = all x ask (ap (λ t. cond t (Some ask) (begun_late past x)) (eq-eqb x x refl)) in
      let still = begun_still x ask past all in (
        (
          own.0.0,
          λ m client e alike.
              let its : P m = still m client (way_begun past m client e) in
              let free = own.0.1 m client e alike in
              ((λ b. free.0 (fewer x m ask client mine its b)), (λ b. free.1 (fewer m x client ask its mine b))),
        ),
        own_more past still own.1,
      )
  own_more (Calls x s a o end ∷ past) all own =
      let mine : P x = all x own.0.0 (way_begun past x own.0.0 own.0.1) in
      let front : IsFront other x own.0.0 _ = (own.0.3.0, own.0.3.1, own.0.3.2, more x own.0.0 _ own.0.3.1 own.0.3.2 mine own.0.3.3) in
      ((own.0.0, own.0.1, own.0.2, front), own_more past all own.1)
  own_more (Replies x key r f ∷ past) all own =
      let mine : P x = all x own.0.0 (way_begun past x own.0.0 own.0.1) in
      ((own.0.0, own.0.1, own.0.2, more x own.0.0 _ r f mine own.0.3), own_more past all own.1)
  own_more (Breaks x ∷ past) all own = (own.0, own_more past all own.1)
  own_more (Turns s key turned ∷ past) all own = (tt, own_more past all own.1)
  own_more (Restarts s ∷ past) all own = (tt, own_more past all own.1)

module _ (words : ℕ → Ask → List Call → Answer → Option ℕ → Type 0) (Bars : ℕ → Ask → ℕ → Ask → Type 0) (opening : ℕ → List ℕ → Option Item) where
  -- before servers that answer by what they hold, and apply late what had failed, it is a run
  pub late_of : (moments : List Moment) → Own words Bars (told opening moments) → ServesPipes opening moments → LateRun words Bars opening LandsEver moments
  late_of [] own serves = tt
  late_of (Does (Begins x ask) ∷ past) own serves = (own.0, late_of past own.1 serves.1)
  late_of (Does (Calls x s a o end) ∷ past) own serves = ((own.0.0, own.0.1, own.0.2, own.0.3, serves.0), late_of past own.1 serves.1)
  late_of (Does (Replies x key r f) ∷ past) own serves = (own.0, late_of past own.1 serves.1)
  late_of (Does (Breaks x) ∷ past) own serves = (own.0, late_of past own.1 serves.1)
  late_of (Does (Turns s key turned) ∷ past) own serves = (serves.0, late_of past own.1 serves.1)
  late_of (Does (Restarts s) ∷ past) own serves = (tt, late_of past own.1 serves.1)
  late_of (Lands x s a o stamp answer spaces ∷ past) own serves = ((serves.0.0, tt, serves.0.1, serves.0.2), late_of past own.1 serves.1)

  with_order : (line : ℕ → ℕ → ℕ) (steps : List PipeStep) → LateRun words Bars opening LandsEver (moments_of steps) → PipesInOrder line steps → PipeSteps line words Bars opening steps
  with_order line [] run order = tt
  with_order line (Sends x s a o ∷ past) run order = (order.0, with_order line past run order.1)
  with_order line (Moves moment ∷ past) run order = ((run.0, order.0), with_order line past run.1 order.1)
  with_order line (Closes q s ∷ past) run order = (tt, with_order line past run order)

pub late_runs_in_turn : LateRunsInTurnAreFresh
late_runs_in_turn known are since served opening steps h opens =
    let words = words_by h.tree in
    let Bars = bars_in served h.run h.tree in
    let All = BarsAll words Bars h.run in
    let happened = told opening (moments_of steps) in
    let laws = part_laws words Bars in
    let own : (p : ℕ) → Own words Bars (part h.run p happened) = λ p.
    let led = h.led p in
    let rule = (served p).core.limits.sharing in
    let P : ℕ → Type 0 = λ n. (h.run (h.name p n) ≡ p) × (h.tree (h.name p n) ≡ led.tree n) in
    laws.changes _ _ (h.parts p)
    (laws.renames (h.name p) (h.rising p) (h.does p)
    (own_more (words_by led.tree) (λ n. words (h.name p n)) (bars_by rule (λ n key. tree_at (led.tree n) key)) (λ n ask m client. Bars (h.name p n) ask (h.name p m) client) P
    (λ n ask calls reply from mine word. (word.0, subst (λ (t : Route). PlanWord (tree_at t ask.key) ask Client 0 calls (record { reply = reply; from = from })) (sym mine.1) word.1))
    (λ n m ask client mine its b.
    let here : bars_by rule (λ k key. tree_at (h.tree k) key) (h.name p n) ask (h.name p m) client = subst (λ (q : ℕ). bars_by (served q).core.limits.sharing (λ k key. tree_at (h.tree k) key) (h.name p n) ask (h.name p m) client) mine.0 b in
    (subst (λ (x : Plan). copies_by rule ask.op x ≡ true) (ap (λ (t : Route). tree_at t ask.key) mine.1) here.0, here.1))
    (h.does p) (h.runs_by p) (h.own p))) in
    let run = late_of words All opening (moments_of steps) (one_own words Bars h.run happened own h.rise h.in_turn) h.serves in
    let done = all_done h.run h.clean opening steps h.order h.in_turn h.ended h.waits in
    let same = same_moments h.run steps in
    let pipes : PipeSteps only_line words All opening (merged h.run steps) =
    with_order words All opening only_line (merged h.run steps) (subst (LateRun words All opening LandsEver) (sym same) run) (one_order h.run steps h.order done) in
    let fresh = late_generations All (is_arbitrary known) (trees_of known.configs) are since h.tree h.loaded opening opens (merged h.run steps) pipes in
    let alone : ((p : ℕ) → (served p).core.limits.sharing ≡ sharings.Alone) → AreAlone All = λ each n m ask client key home. keeping.alone (served (h.run n)).core.limits.sharing (λ k key. tree_at (h.tree k) key) (each (h.run n)) n m ask client key in (
      subst (λ (l : List Moment). IsFreshBy opening WasOver l) same (fresh.0 (copies_in served h.run h.tree)),
      (λ each. subst (λ (l : List Moment). IsFreshByNumber opening (told opening l)) same (fresh.1 (alone each))),
    )
