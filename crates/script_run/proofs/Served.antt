-- Where the core has nothing left to do, a log that leads there has nothing left to do but to hand out; and so it is after each cut of a piece.
use Rattle.std.proofs.Common.{◌≡◌, ℕ, ◌<◌, ◌≤◌, Bool, true, false, List, [], ◌∷◌, ◌++◌, length, Option, Some, None, inl, inr, refl, sym, ap, ◌∙◌, subst, arith}
use Rattle.std.specs.Prelude.{MatchOption, option_map, nat_eq, ◌⊎◌}
use Rattle.std.specs.Map.{lookup}
use Rattle.std.proofs.lemmas.Bool.{cases_lt}
use Rattle.core_commands.specs.Begun.{owner_by}
use Rattle.mc_types.specs.Items.{Item}
use Rattle.fresh_runs.specs.Overlap.{Slot, Entry, owner_of}
use Rattle.fresh_runs.specs.Protocol.{IsStuck}
use Rattle.route_tree.specs.Route.{Route}
use Rattle.core_proxy.specs.CoreState.{dialect, client_at, command_at, dropped_by, front_by, IsQueue, ArePendingSlots, IsOut}
use Rattle.core_proxy.specs.Polls.{ClientIsDone}
use Rattle.core_client.specs.declared.client.Client.{Client}
use Rattle.core_client.specs.declared.client.Pending.{Pending}
use Rattle.core_proxy.specs.declared.proxy.Core.{Core}
use Rattle.core_commands.specs.declared.command.Command.{Command}
use Rattle.script_events.specs.Scripted.{Scripted, Piece, Add, Result, Fail, Hold, At, Now, Moment}
use Rattle.script_events.specs.declared.servers.servers.ScriptServers.{ScriptServers}
use Rattle.script_run.specs.Standing.{Kept, LogStands}
use Rattle.script_run.specs.Running.{kept_of, ClientIsIdle, RunnerRests}
use Rattle.script_run.specs.declared.driver.runner.Runner.{Runner}
use Rattle.script_run.specs.Driving.{said_in, IsServedFor, EventsAreServed, CutsCome, ComesSo}
use Rattle.script_run.specs.Stepping.{IsServedBelow, CutsBy}

none_in : (slots : List (Slot dialect)) (items : List Pending) → items ≡ [] → ArePendingSlots items slots → slots ≡ []
none_in [] items none are = refl
none_in (slot ∷ slots) items none are = absurd (subst (λ (l : List Pending). ArePendingSlots l (slot ∷ slots)) none are)

differ : (b : Bool) → b ≡ true → b ≡ false → ⊥
differ b on off = cc

-- the core has nothing left to do for a client: so it is in the log
pub idle_for : (opening : ℕ → List ℕ → Option Item) (tree : ℕ → Route) (log : List (Entry dialect)) (k : Kept) → LogStands opening tree log k → (c : ℕ) → ClientIsIdle k.core c → IsServedFor log c
idle_for opening tree log k s c idle = by (client_at k.core c) refl idle
  where
    of : (x : Client) → client_at k.core c ≡ Some x → ClientIsDone x → IsServedFor log c
    of x is (inl dropped) = absurd (differ x.dropped dropped (ap dropped_by (sym is) ∙ s.leads.dropped c ∙ s.served c))
    of x is (inr rests) =
        record {
          stuck = subst (λ f. IsStuck dialect f.place) (ap front_by (sym is) ∙ s.leads.front c) rests.1;
          shown = sym (s.leads.queue c) ∙ none_in (s.beside.queue c) x.queue.items rests.0 (subst (λ (o : Option Client). IsQueue o (s.beside.queue c)) is (s.fits.queues c)).0;
        }

    by : (o : Option Client) → client_at k.core c ≡ o → MatchOption o ⊥ ClientIsDone → IsServedFor log c
    by None is h = absurd h
    by (Some x) is h = of x is h

none_left : (entries : List (ℕ × Command)) → (0 < length entries → ⊥) → entries ≡ []
none_left [] none = refl
none_left (entry ∷ entries) none = absurd (none (omega arith))

not_there : (core : Core) → (IsOut core → ⊥) → (n : ℕ) → command_at core n ≡ None
not_there core none n = ap (λ (es : List (ℕ × Command)). lookup (λ k. nat_eq n k) es) (none_left core.commands.entries none)

-- no command is under way
pub free_all : (opening : ℕ → List ℕ → Option Item) (tree : ℕ → Route) (log : List (Entry dialect)) (k : Kept) → LogStands opening tree log k → (IsOut k.core → ⊥) → (n : ℕ) → owner_of log n ≡ None
free_all opening tree log k s none n = sym (s.leads.owner n) ∙ ap (option_map owner_by) (not_there k.core none n)

-- a runner that is at rest has served its clients
pub served_below : (opening : ℕ → List ℕ → Option Item) (tree : ℕ → Route) (log : List (Entry dialect)) (b : Runner) (t : ScriptServers) → LogStands opening tree log (kept_of b t) → RunnerRests b → IsServedBelow b.clients log
served_below opening tree log b t stands rest =
    record { clients = λ c lt. idle_for opening tree log (kept_of b t) stands c (rest.idle c lt); free = free_all opening tree log (kept_of b t) stands rest.none }

-- ---- cuts

-- cuts come where the log rests in a weaker sense after each
cuts_weaker :
    (client : ℕ) (P Q : List (Entry dialect) → Type 0) → ((log : List (Entry dialect)) → P log → Q log) → (cuts : List (List ℕ)) (before after : List (Entry dialect)) → CutsCome client P cuts before after → CutsCome client Q cuts before after
cuts_weaker client P Q f [] before after h = h
cuts_weaker client P Q f (cut ∷ cuts) before after h =
    (h.0, cuts_weaker client P Q f cuts before h.0 h.1, record { more = h.2.more; goes = h.2.goes; alone = h.2.alone; rests = f after h.2.rests })

-- clients that weren't opened said nothing
served_all : (done : List Scripted) (count : ℕ) → ((c : ℕ) → count ≤ c → said_in done c ≡ []) → (log : List (Entry dialect)) → IsServedBelow count log → EventsAreServed done log
served_all done count unheard log h = record { clients = each; free = h.free }
  where
    each : (c : ℕ) → (said_in done c ≡ []) ⊎ IsServedFor log c
    each c = elim (cases_lt c count) [
      | inl lt ↦ inr (h.clients c lt)
      | inr le ↦ inl (unheard c le)
    ]

-- an event came so, and then its output was handed out
pub comes_so : (event : Scripted) (done : List Scripted) (count : ℕ) (before mid newer : List (Entry dialect)) → ((c : ℕ) → count ≤ c → said_in done c ≡ []) → CutsBy event count before mid → ComesSo done event before (newer ++ mid)
comes_so (Piece client bytes) done count before mid newer unheard h =
    record {
      cuts = h.cuts;
      last = h.last;
      are = h.are;
      served = mid;
      newer = newer;
      goes = refl;
      come = cuts_weaker client (IsServedBelow count) (EventsAreServed done) (served_all done count unheard) (h.last ∷ h.cuts) before mid h.come;
    }
comes_so (Add client bytes) done count before mid newer unheard h = tt
comes_so (Result server) done count before mid newer unheard h = tt
comes_so (Fail turn manner) done count before mid newer unheard h = tt
comes_so (Hold server key content) done count before mid newer unheard h = tt
comes_so (At turn loss) done count before mid newer unheard h = tt
comes_so (Now loss) done count before mid newer unheard h = tt
comes_so (Moment moment) done count before mid newer unheard h = tt
