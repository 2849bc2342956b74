-- What a refusal run is, and that a gap without an all-sync and a warm-up has one.
use Rattle.std.proofs.Common.{◌≡◌, ℕ, ◌<◌, Bool, true, false, not, cond, nat_eq, List, [], length, map, Option, Some, None, IsSome, IfSome, inl, inr, refl, sym, ap, ◌∙◌, subst}
use Rattle.mc_types.specs.declared.ask.Op.TheVariants.{Delete}
use Rattle.mc_types.specs.declared.ask.Ask.{Ask}
use Rattle.std.proofs.lemmas.Bool.{eq-eqb}
use Rattle.std.proofs.lemmas.List.{length-replicate}
use Rattle.fresh_runs.specs.Log.{Scripted, Shown}
use Rattle.fresh_runs.specs.Overlap.{run_of}
use Rattle.fresh_runs.specs.Run.{AreAlone}
use Rattle.fresh_runs.proofs.Stale.{counts_stale}
use Rattle.wire_parts.specs.declared.skip.Skip.TheVariants.{Nothing}
use Rattle.wire_parts.specs.Stream.{Stands}
use Rattle.wire_stream.specs.Spelling.{message_of}
use Rattle.wire_stream.specs.TextProtocol.{Whole, memcached_text}
use Rattle.wire_stream.specs.Version.{default_version}
use Rattle.route_tree.specs.At.{tree_at}
use Rattle.route_tree.specs.Direct.{words_of}
use Rattle.route_tree.specs.Place.{tree_at_place}
use Rattle.route_tree.specs.Plan.{Plan, IsGoodPlan}
use Rattle.route_tree.specs.Route.{Route, IsTree}
use Rattle.route_tree.specs.Word.{answer_of_nothing, tree_words}
use Rattle.route_tree.proofs.Places.{place_is_enough}
use Rattle.route_json.specs.Configuration.{Configuration}
use Rattle.route_json.specs.Fits.{IsBelow}
use Rattle.gate_coverage.specs.declared.deleting.Deleting.TheVariants as kinds
use Rattle.gate_coverage.specs.Cover.{IsTaking, deleting_dialect}
use Rattle.gate_coverage.proofs.Choices.{not_false}
use Rattle.gate_check.specs.declared.gap.Gap.{Gap}
use Rattle.script_events.specs.declared.script.Report.{Report}
use Rattle.script_events.specs.declared.script.Script.{Script}
use Rattle.script_events.specs.Scripted.{scripted_of}
use Rattle.script_events.specs.Opening.{opening_of}
use Rattle.script_events.specs.Bad.{first_bad}
use Rattle.cache_server.specs.Contents.{empty}
use Rattle.script_events.specs.Limits.{capacity}
use Rattle.script_events.specs.Servers.{AreNewServers, count_of_servers}
use Rattle.script_events.specs.declared.servers.servers.ScriptServers.{ScriptServers}
use Rattle.core_proxy.specs.Claims.{bars_by}
use Rattle.core_commands.specs.declared.sharing.Sharing.TheVariants.{Alone}
use Rattle.script_run.specs.Standing.{tree_by}
use Rattle.script_run.specs.Driving.{DrivesStepped, FollowsBy}
use Rattle.gate_gaps.specs.Turns.{acks, calls_before_found}
use Rattle.gate_gaps.specs.Bait.{delete_of, read_of, bait_answer}
use Rattle.gate_gaps.specs.Scripts.{Leaks}
use Rattle.gate_gaps.proofs.Beside.{gaps_have_words}
use Rattle.gate_gaps.proofs.Gaps.{numbers_have_script}
use Rattle.mcgate_check.specs.declared.leaks.failures.Failures.{Failures}
use Rattle.mcgate_check.specs.Tried.{IsFirstKeyTried}
use Rattle.mcgate_check.specs.Commands.{script_for, delete_text, read_text}
use Rattle.mcgate_check.specs.Failing.{failures_of_both, failures_of}
use Rattle.mcgate_check.specs.Refusals.{IsRealGap, LeaksStepped, IsShowing, IsRefusalRun, IsRoundabout, MayLack, IsLeakAnswer}
use Rattle.mcgate_check.proofs.OneAsk.{quiet_start, one_delete, one_read}
use Rattle.mcgate_check.proofs.Baited.{baited}
use Rattle.mcgate_check.proofs.Below.{found_is_below}
use Rattle.mcgate_check.proofs.Drivable.{script_can}

both_are : (d r : Option ℕ) (f : Failures) → failures_of_both d r ≡ Some f → (d ≡ Some f.delete) × (r ≡ Some f.read)
both_are None r f e = absurd (cc)
both_are (Some d) None f e = absurd (cc)
both_are (Some d) (Some r) f e =
    let is : record { delete = d; read = r } ≡ f = cc in
    (ap (λ (x : Failures). Some x.delete) is, ap (λ (x : Failures). Some x.read) is)

both_none : (d r : Option ℕ) → failures_of_both d r ≡ None → IsSome d → IsSome r → ⊥
both_none None r e a b = absurd (cc)
both_none (Some d) None e a b = absurd (cc)
both_none (Some d) (Some r) e a b = cc

-- the computed script
module _ (config : Configuration) (gap : Gap) (key : List ℕ) (f : Failures) (taking : IsTaking gap.op) (first : IsFirstKeyTried config.tree gap.place key) (computed : failures_of gap.op gap.server (tree_at config.tree key) ≡ Some f) (good : IsGoodPlan (tree_at config.tree key)) (is_tree : IsTree config.tree) (below : IsBelow (length config.servers) config.tree) where
  numbers : (acks gap.server (tree_at config.tree key) ≡ Some f.delete) × (calls_before_found gap.op gap.server (tree_at config.tree key) ≡ Some f.read)
  numbers = both_are (acks gap.server (tree_at config.tree key)) (calls_before_found gap.op gap.server (tree_at config.tree key)) f computed

  abbrev events : List Scripted
  events = script_for gap.server key gap.op f.delete f.read

  abbrev bars : ℕ → Ask → ℕ → Ask → Type 0
  bars = bars_by Alone (λ n k. tree_at config.tree k)

  leaks : Leaks memcached_text (words_of config.tree) bars (opening_of events) default_version events
  leaks = numbers_have_script memcached_text (λ n k. tree_at config.tree k) bars (opening_of events) default_version key gap.op kinds.Delete gap.server (delete_text key) (read_text gap.op key) (Whole (message_of (delete_of kinds.Delete key))) (Whole (message_of (read_of gap.op key))) (Stands Nothing []) (Stands Nothing []) first.is_key.key_is taking good good (baited gap.server key f.delete f.read (delete_text key) (read_text gap.op key)) quiet_start (one_delete key (answer_of_nothing (deleting_dialect kinds.Delete) Delete) first.is_key.key_is) (one_read gap.op key (bait_answer gap.op) taking first.is_key.key_is) f.delete f.read numbers.0 numbers.1

  can_be : first_bad (length config.servers) events ≡ None
  can_be =
      let there : gap.server < length config.servers = found_is_below (length config.servers) config.tree key gap.op gap.server f.read is_tree below numbers.1 in
      script_can (length config.servers) gap.server key gap.op f.delete f.read there first.is_key.key_is taking

  same_failures : (g : Failures) → failures_of gap.op gap.server (tree_at config.tree key) ≡ Some g → f ≡ g
  same_failures g e = some_is f g (sym computed ∙ e)
    where
      some_is : (x y : Failures) → Some x ≡ Some y → x ≡ y
      some_is x y e = cc

  pub computed_run : (script : List Scripted) → script ≡ events → IsRefusalRun config gap script
  computed_run script is = subst (IsRefusalRun config gap) (sym is) (record {
    key = key;
    first = first;
    delete = f.delete;
    read = f.read;
    script_is = refl;
    failing = λ g e. (ap (λ (x : Failures). x.delete) (same_failures g e), ap (λ (x : Failures). x.read) (same_failures g e));
    shows = record { can_be = can_be; leaks = inl leaks };
  })

-- a driven script
pub driven_run : (config : Configuration) (gap : Gap) (key : List ℕ) (script : List Scripted) → IsFirstKeyTried config.tree gap.place key → failures_of gap.op gap.server (tree_at config.tree key) ≡ None → script ≡ script_for gap.server key gap.op 0 0 → IsShowing config script → IsRefusalRun config gap script
driven_run config gap key script first none is shows = record {
  key = key;
  first = first;
  delete = 0;
  read = 0;
  script_is = is;
  failing = λ g e. absurd (let a = none in cc);
  shows = shows;
}

-- where no script is computed for a gap, an all-sync or a warm-up stands in the way
pub none_roundabout : (tree : Route) (gap : Gap) (key : List ℕ) → IsTree tree → IsFirstKeyTried tree gap.place key → IsGoodPlan (tree_at tree key) → failures_of gap.op gap.server (tree_at tree key) ≡ None → IsRealGap tree gap → IsRoundabout tree gap
none_roundabout tree gap key is_tree first good none real direct1 direct2 =
    let plain = tree_at_place tree gap.place in
    let same : tree_at tree key ≡ plain = place_is_enough tree key gap.place is_tree first.is_key.at in
    let good' : IsGoodPlan plain = subst IsGoodPlan same good in
    both_none (acks gap.server plain) (calls_before_found gap.op gap.server plain) (subst (λ (p : Plan). failures_of gap.op gap.server p ≡ None) same none)
    (gaps_have_words.kept plain gap.server gap.deleting good' direct1 real.gap_at.uncleared)
    (gaps_have_words.taken plain gap.op gap.server good' direct2 real.gap_at.taken)

pub none_answer : (tree t : Route) (gap : Gap) (key : List ℕ) (f : Option Failures) → t ≡ tree → IsTree t → IsFirstKeyTried tree gap.place key → IsGoodPlan (tree_at t key) → f ≡ failures_of gap.op gap.server (tree_at t key) → f ≡ None → IsRealGap tree gap → MayLack tree gap
none_answer tree t gap key f e is_tree first good computed none real =
    inr (none_roundabout tree gap key (subst IsTree e is_tree) first (subst (λ (r : Route). IsGoodPlan (tree_at r key)) e good) (subst (λ (r : Route). failures_of gap.op gap.server (tree_at r key) ≡ None) e (sym computed ∙ none)) real)

pub answered : (config : Configuration) (gap : Gap) (found : Option Script) → IfSome found (λ script. IsRefusalRun config gap (map scripted_of script.events.items)) → (IsRealGap config.tree gap → MayLack config.tree gap) → IsLeakAnswer config gap found
answered config gap None h n = n
answered config gap (Some script) h n = h

-- so many servers as were asked for
pub counted : (n : ℕ) (servers : ScriptServers) → AreNewServers n servers → count_of_servers servers ≡ n
counted n servers new = ap length new.caches ∙ length-replicate n (empty capacity)

-- each command has its key alone
alone : (plans : ℕ → List ℕ → Plan) → AreAlone (bars_by Alone plans)
alone plans number other ask client same = (refl, refl)

-- a driver that counts a stale reply shows a leak
pub drives_leak : (tree : Route) (events : List Scripted) (given : List Shown) (marks : List ℕ) (report : Report) → DrivesStepped tree [] [] events given marks report → not (nat_eq report.stale 0) ≡ true → LeaksStepped tree events
drives_leak tree events given marks report d t =
    let plans : ℕ → List ℕ → Plan = λ n key. tree_at (tree_by tree d.loads n) key in
    record {
      log = d.log;
      follows = subst (λ (l : List (ℕ × Route)). FollowsBy tree l events d.log) d.in_turn d.follows;
      streams = d.streams;
      settled = d.settled;
      replied = d.replied;
      servers = d.servers;
      world = d.world;
      loses = d.loses;
      leaks = λ fresh.
          not_false (nat_eq report.stale 0) t (eq-eqb report.stale 0 (d.stale ∙ (counts_stale (tree_words plans) (bars_by Alone plans) (opening_of events) (alone plans)).none (run_of d.log) d.run fresh));
    }

pub by_stale : (stale : Bool) (script : Script) (P : Script → Type 0) → (stale ≡ true → P script) → IfSome (cond stale (Some script) None) P
by_stale true script P h = h refl
by_stale false script P h = tt
