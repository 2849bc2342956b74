-- What stands at the names of numbers is what the core counts.
use Rattle.std.proofs.Common.{◌≡◌, ℕ, List, [], ◌∷◌, ◌++◌, codes, subst, sym, Result, Ok, Err}
use Rattle.std.specs.Prelude.{IfOk}
use Rattle.route_json.specs.Servers.{Addresses}
use Rattle.route_tree.specs.Each.{Each}
use Rattle.core_accepted.specs.declared.tally.CoreTally.{CoreTally}
use Rattle.core_accepted.specs.declared.served.ServedCore.{ServedCore}
use Rattle.watch_admin.specs.declared.families.Amount.TheVariants.{Count}
use Rattle.watch_admin.specs.declared.families.Family.{Family}
use Rattle.watch_admin.specs.declared.numbers.Numbers.{Numbers}
use Rattle.watch_admin.specs.declared.numbers.ServerNumbers.{ServerNumbers}
use Rattle.watch_admin.specs.Told.{Tells, IsAmong, one_labelled}
use Rattle.mcgate_serve.specs.Told.{IsRowOfServer, AreOfServers, FamiliesTell, IsInPrometheus, IsInJson, HasTally, TellsTally, TellsInPrometheus, TellsInJson}

-- families that tell of numbers which have what a core counts
pub tells_tally : (core : ServedCore) (servers : Addresses) (numbers : Numbers) (families : List Family) → HasTally core servers numbers → FamiliesTell numbers families → TellsTally core servers families
tells_tally core servers numbers families has tell =
    let opened =
    subst
    (λ n. IsAmong (Tells (codes "mcgate_client_connections_total") (one_labelled (codes "verdict") (codes "accepted") n ∷ one_labelled (codes "verdict") (codes "refused") numbers.clients.refused ∷ [])) families)
    has.opened tell.clients in
    let answered =
    subst
    (λ n. IsAmong (Tells (codes "mcgate_calls_total") (one_labelled (codes "outcome") (codes "answered") n ∷ one_labelled (codes "outcome") (codes "failed") numbers.calls.failed ∷ [])) families)
    has.answered tell.calls.1 in
    record {
      clients =
          subst
          (λ n. IsAmong (Tells (codes "mcgate_client_connections_total") (one_labelled (codes "verdict") (codes "accepted") core.tally.opened ∷ one_labelled (codes "verdict") (codes "refused") n ∷ [])) families)
          has.refused opened;
      bad_messages = subst (λ n. IsAmong (Tells (codes "mcgate_bad_messages_total") (([], Count n) ∷ [])) families) has.bad_messages tell.messages;
      begun = subst (λ n. IsAmong (Tells (codes "mcgate_commands_begun_total") (([], Count n) ∷ [])) families) has.begun tell.begun;
      commands = subst (λ l. IsAmong (Tells (codes "mcgate_commands_total") l) families) has.commands tell.commands;
      made = subst (λ n. IsAmong (Tells (codes "mcgate_calls_made_total") (([], Count n) ∷ [])) families) has.made tell.calls.0;
      ended =
          subst
          (λ n. IsAmong (Tells (codes "mcgate_calls_total") (one_labelled (codes "outcome") (codes "answered") core.tally.answered ∷ one_labelled (codes "outcome") (codes "failed") n ∷ [])) families)
          has.failed answered;
      of_servers = (numbers.servers.items, has.servers_are, tell.servers);
      unplaced = subst (λ n. IsAmong (Tells (codes "mcgate_calls_unplaced_total") (([], Count n) ∷ [])) families) has.unplaced tell.unplaced;
    }

-- a text of numbers that have what the core counts tells just that
in_prometheus : (core : ServedCore) (servers : Addresses) (numbers : Numbers) (text : List ℕ) → HasTally core servers numbers → IsInPrometheus numbers text → TellsInPrometheus core servers text
in_prometheus core servers numbers text has is = (is.0, tells_tally core servers numbers is.0 has is.1, is.2)

in_json : (core : ServedCore) (servers : Addresses) (numbers : Numbers) (text : List ℕ) → HasTally core servers numbers → IsInJson numbers text → TellsInJson core servers text
in_json core servers numbers text has is = (is.0, tells_tally core servers numbers is.0 has is.1, is.2)

-- where a text came
if_ok : {A E : Type 0} (r : Result A E) (P Q : A → Type 0) → ((a : A) → P a → Q a) → IfOk r P → IfOk r Q
if_ok (Ok a) P Q f is = f a is
if_ok (Err e) P Q f is = tt

pub told_in_prometheus : {A E : Type 0} (items : A → List ℕ) (core : ServedCore) (servers : Addresses) (numbers : Numbers) (r : Result A E) → HasTally core servers numbers → IfOk r (λ text. IsInPrometheus numbers (items text)) → IfOk r (λ text. TellsInPrometheus core servers (items text))
told_in_prometheus items core servers numbers r has = if_ok r _ _ (λ text. in_prometheus core servers numbers (items text) has)

pub told_in_json : {A E : Type 0} (items : A → List ℕ) (core : ServedCore) (servers : Addresses) (numbers : Numbers) (r : Result A E) → HasTally core servers numbers → IfOk r (λ text. IsInJson numbers (items text)) → IfOk r (λ text. TellsInJson core servers (items text))
told_in_json items core servers numbers r has = if_ok r _ _ (λ text. in_json core servers numbers (items text) has)

-- one more server
each_more : {A : Type 0} (P : A → Type 0) (xs : List A) (x : A) → Each P xs → P x → Each P (xs ++ x ∷ [])
each_more P [] x each is = (is, tt)
each_more P (y ∷ xs) x each is = (each.0, each_more P xs x each.1 is)

pub server_more : (tally : CoreTally) (servers : Addresses) (old new : List ServerNumbers) (row : ServerNumbers) → new ≡ old ++ row ∷ [] → IsRowOfServer tally servers row → AreOfServers tally servers old → AreOfServers tally servers new
server_more tally servers old new row is of are = subst (AreOfServers tally servers) (sym is) (each_more (IsRowOfServer tally servers) old row are of)
