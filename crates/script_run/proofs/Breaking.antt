-- How far calls came that ended in a fault, one after another.
use Rattle.std.proofs.Common.{◌≡◌, ℕ, Bool, true, false, cond, nat_eq, List, [], ◌++◌, Result, Ok, Err, refl, sym, subst, inl, inr, arith, append-nil}
use Rattle.std.specs.Prelude.{IfErr, IsErrAnd}
use Rattle.fresh_runs.specs.OverlapStream.{stream_of}
use Rattle.script_events.specs.declared.servers.event.FleetFault.{FleetFault}
use Rattle.script_events.specs.declared.servers.event.FleetFault.TheVariants.{NoMemory, Spent}
use Rattle.core_proxy.specs.declared.proxy.Core.{Core}
use Rattle.script_events.specs.declared.servers.servers.ScriptServers.{ScriptServers}
use Rattle.script_run.specs.Breaking.{IsLastBegun, AreGivenAll, AreSpent, StopsAt, StopsFed, StopsGiving, BreaksOffAfter}
use Rattle.script_run.specs.Running.{Moves, MovesFed, MovesAt, AreAskedYet}
use Rattle.script_run.specs.declared.driver.runner.Runner.{Runner}
use Rattle.script_run.proofs.DriverRunning.{MovesByResults, stays, then, fed_then, none_by, by_none, by_then, at_then}

-- out of memory nothing is said of numbers
pub none_begun : (fault : FleetFault) (core : Core) → fault ≡ NoMemory → IsLastBegun fault core
none_begun fault core is = subst (λ (f : FleetFault). IsLastBegun f core) (sym is) tt

pub begun_spent : (fault : FleetFault) (core : Core) (servers : ScriptServers) → IsLastBegun fault core → AreSpent fault core servers
begun_spent NoMemory core servers h = tt
begun_spent Spent core servers h = inl h

given_spent : (fault : FleetFault) (core : Core) (servers : ScriptServers) → AreGivenAll fault servers → AreSpent fault core servers
given_spent NoMemory core servers h = tt
given_spent Spent core servers h = inr (omega (arith, h))

-- ---- polls

pub stops_here : (a b : Runner) (fault : FleetFault) → ((s : ScriptServers) → Moves a s b s) → IsLastBegun fault b.core → StopsAt a fault
stops_here a b fault m spent = record { mid = b; moves = m; spent = spent }

pub stops_then : (a b : Runner) (fault : FleetFault) → ((s : ScriptServers) → Moves a s b s) → StopsAt b fault → StopsAt a fault
stops_then a b fault m h = record { mid = h.mid; moves = λ s. then a b h.mid s s s (m s) (h.moves s); spent = h.spent }

-- ---- bytes

same_bytes : (b : Bool) (xs : List ℕ) → xs ≡ cond b (xs ++ []) xs
same_bytes true xs = sym (append-nil xs)
same_bytes false xs = refl

-- no bytes came
pub none_fed : (client : ℕ) (a : Runner) (s : ScriptServers) → MovesFed client [] a s a s
none_fed client a s opening tree log stands = (record { more = []; stands = stands; streams = λ c. same_bytes (nat_eq client c) (stream_of log c); given = λ c. refl }, refl)

pub fed_none : (client : ℕ) (bytes : List ℕ) (a : Runner) (fault : FleetFault) → fault ≡ NoMemory → StopsFed client bytes a fault
fed_none client bytes a fault is = record { mid = a; said = []; unsaid = bytes; cut = refl; moves = λ s. none_fed client a s; spent = none_begun fault a.core is }

pub fed_all : (client : ℕ) (bytes : List ℕ) (a b : Runner) (fault : FleetFault) → ((s : ScriptServers) → MovesFed client bytes a s b s) → StopsAt b fault → StopsFed client bytes a fault
fed_all client bytes a b fault m h =
    record { mid = h.mid; said = bytes; unsaid = []; cut = sym (append-nil bytes); moves = λ s. fed_then client bytes a b h.mid s s s (m s) (h.moves s); spent = h.spent }

-- ---- results

-- a result wasn't taken, after others
pub results_then : (a b : Runner) (s t u : ScriptServers) (fault : FleetFault) → MovesByResults a s b t → StopsGiving fault t u → BreaksOffAfter (λ results. Unit {0}) a s fault u
results_then a b s t u fault m h = record { mid = b; at = t; results = m.0; fit = tt; moves = m.1; within = h.within; spent = given_spent fault b.core t h.all }

-- nothing more could be done, after results
pub results_here : (a b : Runner) (s t : ScriptServers) (fault : FleetFault) → MovesByResults a s b t → IsLastBegun fault b.core → BreaksOffAfter (λ results. Unit {0}) a s fault t
results_here a b s t fault m h = record { mid = b; at = t; results = m.0; fit = tt; moves = m.1; within = inl refl; spent = begun_spent fault b.core t h }

pub results_stop : (a b : Runner) (s t : ScriptServers) (fault : FleetFault) → MovesByResults a s b t → StopsAt b fault → BreaksOffAfter (λ results. Unit {0}) a s fault t
results_stop a b s t fault m h = results_here a h.mid s t fault (by_then a b h.mid s t t m (by_none b h.mid t (h.moves t))) h.spent

-- nothing more could be done, after none of the results that are asked of one server
pub none_at : (server : ℕ) (a : Runner) (s u : ScriptServers) (fault : FleetFault) → StopsGiving fault s u → BreaksOffAfter (AreAskedYet server a s) a s fault u
none_at server a s u fault h = record { mid = a; at = s; results = []; fit = inl refl; moves = none_by a a s (stays a s); within = h.within; spent = given_spent fault a.core s h.all }

pub at_stop : (server : ℕ) (a b : Runner) (s t : ScriptServers) (fault : FleetFault) → MovesAt server a s b t → StopsAt b fault → BreaksOffAfter (AreAskedYet server a s) a s fault t
at_stop server a b s t fault m h =
    let n = at_then server a b h.mid s t m (h.moves t) in
    record { mid = h.mid; at = t; results = n.0; fit = inr n.1; moves = n.2; within = inl refl; spent = begun_spent fault h.mid.core t h.spent }

-- ---- faults that are passed on

pub passed : {T : Type 0} (r : Result T FleetFault) (fault : FleetFault) (P : FleetFault → Type 0) → IsErrAnd r (λ f. f ≡ fault) → P fault → IfErr r P
passed (Ok x) fault P is p = tt
passed (Err f) fault P is p = subst P (sym is) p

pub err_weaker : {T : Type 0} (r : Result T FleetFault) (P Q : FleetFault → Type 0) → ((f : FleetFault) → P f → Q f) → IfErr r P → IfErr r Q
err_weaker (Ok x) P Q f p = tt
err_weaker (Err e) P Q f p = f e p
