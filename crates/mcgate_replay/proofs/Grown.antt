-- The gate's answers where servers began as is said, and that a run by the trees that it accepted then is fresh.
use Rattle.std.proofs.Common.{◌≡◌, ℕ, zero, suc, ◌+◌, ◌-◌, ◌<◌, ◌≤◌, true, false, List, [], ◌∷◌, ◌++◌, length, length-append, map, take, get_or, slice_get, Option, Some, None, refl, sym, ap, ◌∙◌, subst, arith, inl, inr}
use Rattle.std.specs.Prelude.{IfOk, ok_or, ◌⊎◌}
use Rattle.mc_types.specs.Items.{Item}
use Rattle.fresh_runs.specs.Log.{Shown}
use Rattle.fresh_runs.specs.Overlap.{Entry, run_of}
use Rattle.fresh_runs.specs.Run.{LosesOnly, IsFreshByNumber}
use Rattle.fresh_runs.proofs.Stale.{counts_stale}
use Rattle.route_tree.specs.At.{tree_at}
use Rattle.route_tree.specs.Each.{Each}
use Rattle.route_tree.specs.Plan.{Plan}
use Rattle.route_tree.specs.Route.{Route, IsTree}
use Rattle.route_tree.specs.Word.{tree_words}
use Rattle.core_proxy.specs.Claims.{bars_by}
use Rattle.core_proxy.specs.CoreState.{dialect}
use Rattle.core_commands.specs.declared.sharing.Sharing.TheVariants.{Alone}
use Rattle.route_json.specs.Configuration.{Configuration}
use Rattle.gate_check.specs.Sound.{AreLoaded, IsLast, trees_of}
use Rattle.gate_growth.specs.Grown.{AreSoundSince, OpensBy}
use Rattle.gate_growth.specs.Puts.{Puts}
use Rattle.gate_check.specs.declared.reloading.ReloadFault.{ReloadFault}
use Rattle.gate_growth.specs.Ledgers.{most_generations, IsUnsoundFor}
use Rattle.gate_growth.specs.declared.ledger.unsound.Unsound.{Unsound}
use Rattle.gate_growth.specs.declared.ledger.unsound.Unsound.TheVariants as reasons
use Rattle.gate_growth.proofs.Since.{grown_are_fresh}
use Rattle.core_accepted.specs.declared.beginnings.Beginnings.{Beginnings}
use Rattle.core_accepted.specs.Known.{Known, is_arbitrary, first_of}
use Rattle.core_accepted.specs.Logs.{BeginSo}
use Rattle.script_events.specs.declared.script.Reload.{Reload}
use Rattle.script_events.specs.declared.script.Report.{Report}
use Rattle.script_events.specs.declared.script.Transcript.{Transcript}
use Rattle.script_events.specs.declared.script.DriveFault.{DriveFault}
use Rattle.script_events.specs.declared.script.DriveFault.TheVariants.{BadEvent, NoMemory, Spent}
use Rattle.script_events.specs.declared.servers.servers.ScriptServers.{ScriptServers}
use Rattle.script_events.specs.Scripted.{Scripted, transcript_of}
use Rattle.script_events.specs.Opening.{opening_of}
use Rattle.script_events.proofs.Due.{one_more_taken}
use Rattle.script_run.specs.Standing.{tree_by}
use Rattle.script_run.specs.Driving.{trees_loaded, loaded_trees, RunsBy, DrivesStepped, StepsPart, EndsStepped}
use Rattle.script_run.specs.Reloads.{loading_is_refused}
use Rattle.script_run.specs.Stepped.{StepsFreshly, StepsPartFreshly, EndsSteps}
use Rattle.script_run.specs.declared.accepted.judging.Loading.{Loading}
use Rattle.script_run.specs.declared.accepted.judging.Loading.TheVariants.{Loaded, Refused}
use Rattle.script_run.proofs.Accepting.{tree_at_number}
use Rattle.script_run.proofs.Loadings.{tree_after, accepted_in, accepted_rise, last_of_more, more_at, after_none, after_one}
use Rattle.script_run.proofs.Steppings.{have_come, alone}
use Rattle.mcgate_replay.specs.Growing.{MayNotFollowKnown, ForAnyReason, JudgesNext, JudgesAll, AreFollowed, IsFew, held_after, loading_of_unsound}

-- ---- answers in order

-- what is told of a refusal, running out of memory aside
pub told_refused : {E : Type 0} (most : ℕ) (known known' : Known) (r : Reload) (unsound : Unsound) (o : Option Loading) (e : E) → most ≤ most_generations → o ≡ loading_of_unsound unsound
    → (known' ≡ known) × IsUnsoundFor (is_arbitrary known) (trees_of known.configs) r.config.tree unsound → IfOk (ok_or o e) (λ l. JudgesNext (MayNotFollowKnown most) known r l known')
told_refused most known known' r unsound o e numbered is why = subst (λ (p : Option Loading). IfOk (ok_or p e) (λ l. JudgesNext (MayNotFollowKnown most) known r l known')) (sym is) (by unsound why)
  where
    by : (u : Unsound) → (known' ≡ known) × IsUnsoundFor (is_arbitrary known) (trees_of known.configs) r.config.tree u → IfOk (ok_or (loading_of_unsound u) e) (λ l. JudgesNext (MayNotFollowKnown most) known r l known')
    by reasons.TooManyGenerations h = let many = h.1 in (h.0, omega (arith, numbered, many))
    by reasons.TooManyPlaces h = h
    by (reasons.Left generation gap) h = h
    by reasons.NoMemory h = tt

-- after a refusal as many trees are held as before
pub few_told : {E : Type 0} (most held : ℕ) (unsound : Unsound) (o : Option Loading) (e : E) → o ≡ loading_of_unsound unsound → IsFew most held → IfOk (ok_or o e) (λ l. IsFew most (held_after held l))
few_told most held unsound o e is few = subst (λ (p : Option Loading). IfOk (ok_or p e) (λ l. IsFew most (held_after held l))) (sym is) (by unsound)
  where
    by : (u : Unsound) → IfOk (ok_or (loading_of_unsound u) e) (λ l. IsFew most (held_after held l))
    by reasons.TooManyGenerations = few
    by reasons.TooManyPlaces = few
    by (reasons.Left generation gap) = few
    by reasons.NoMemory = tt

module _ (Why : Known → Route → ReloadFault → Type 0) where
  judged_more : (known mid new : Known) (rs : List Reload) (ls : List Loading) (r : Reload) (l : Loading) → JudgesAll Why known rs ls mid → JudgesNext Why mid r l new → JudgesAll Why known (rs ++ r ∷ []) (ls ++ l ∷ []) new
  judged_more known mid new [] [] r l e j = (new, subst (λ (k : Known). JudgesNext Why k r l new) e j, refl)
  judged_more known mid new [] (x ∷ ls) r l e j = absurd e
  judged_more known mid new (y ∷ rs) [] r l e j = absurd e
  judged_more known mid new (y ∷ rs) (x ∷ ls) r l e j = (e.0, e.1, judged_more e.0 mid new rs ls r l e.2 j)

  pub one_more_judged : (known mid new : Known) (reloads : List Reload) (i : ℕ) (ls : List Loading) (r : Reload) (l : Loading) → i < length reloads → r ≡ get_or reloads i r
      → JudgesAll Why known (take i reloads) ls mid → JudgesNext Why mid r l new → JudgesAll Why known (take (i + 1) reloads) (ls ++ l ∷ []) new
  one_more_judged known mid new reloads i ls r l lt is j one =
      subst (λ (rs : List Reload). JudgesAll Why known rs (ls ++ l ∷ []) new) (sym (one_more_taken reloads i r lt is)) (judged_more known mid new (take i reloads) ls r l j one)

  -- how many are held then
  pub held_then : (known known' : Known) (r : Reload) (l : Loading) (held : ℕ) → JudgesNext Why known r l known' → held ≡ length known.configs → held_after held l ≡ length known'.configs
  held_then known known' r (Loaded n) held j is = j.1
  held_then known known' r (Refused fault) held j is = is ∙ ap (λ (k : Known). length k.configs) (sym j.0)

  -- what was answered for such reasons was for some
  pub anyhow : (known known' : Known) (rs : List Reload) (ls : List Loading) → JudgesAll Why known rs ls known' → JudgesAll ForAnyReason known rs ls known'
  anyhow known known' [] [] e = e
  anyhow known known' [] (l ∷ ls) e = absurd e
  anyhow known known' (r ∷ rs) [] e = absurd e
  anyhow known known' (r ∷ rs) (Loaded n ∷ ls) e = (e.0, e.1, anyhow e.0 known' rs ls e.2)
  anyhow known known' (r ∷ rs) (Refused fault ∷ ls) e = (e.0, (e.1.0, tt), anyhow e.0 known' rs ls e.2)

-- ---- what stays

-- nothing that was accepted is lost
kept_at : (known known' : Known) (rs : List Reload) (ls : List Loading) → JudgesAll ForAnyReason known rs ls known' → (i : ℕ) (c : Configuration) → slice_get known.configs i ≡ Some c → slice_get known'.configs i ≡ Some c
kept_at known known' [] [] e i c at = ap (λ (k : Known). slice_get k.configs i) e ∙ at
kept_at known known' [] (l ∷ ls) e i c at = absurd e
kept_at known known' (r ∷ rs) [] e i c at = absurd e
kept_at known known' (r ∷ rs) (Loaded n ∷ ls) e i c at = kept_at e.0 known' rs ls e.2 i c (ap (λ (k : Known). slice_get k.configs i) e.1.0 ∙ more_at known.configs (r.config ∷ []) i c at)
kept_at known known' (r ∷ rs) (Refused fault ∷ ls) e i c at = kept_at e.0 known' rs ls e.2 i c (ap (λ (k : Known). slice_get k.configs i) e.1.0 ∙ at)

-- nor how servers began
same_arbitrary : (known known' : Known) (rs : List Reload) (ls : List Loading) → JudgesAll ForAnyReason known rs ls known' → (s : ℕ) → is_arbitrary known' s ≡ is_arbitrary known s
same_arbitrary known known' [] [] e s = ap (λ (k : Known). is_arbitrary k s) e
same_arbitrary known known' [] (l ∷ ls) e s = absurd e
same_arbitrary known known' (r ∷ rs) [] e s = absurd e
same_arbitrary known known' (r ∷ rs) (Loaded n ∷ ls) e s = same_arbitrary e.0 known' rs ls e.2 s ∙ ap (λ (k : Known). is_arbitrary k s) e.1.0
same_arbitrary known known' (r ∷ rs) (Refused fault ∷ ls) e s = same_arbitrary e.0 known' rs ls e.2 s ∙ ap (λ (k : Known). is_arbitrary k s) e.1.0

same_config : (a b : Configuration) → Some a ≡ Some b → a ≡ b
same_config a b e = cc

-- the accepted configuration alone, with how servers began
pub begun_first : (accepted : List Configuration) (c : Configuration) (begun : Beginnings) (first : Known) → accepted ≡ c ∷ [] → (config : Configuration) × IsLast accepted config × (first ≡ first_of config begun) → first ≡ first_of c begun
begun_first accepted c begun first one made =
    let same : c ≡ made.0 = same_config c made.0 (subst (λ (cs : List Configuration). IsLast cs made.0) one made.1) in
    made.2 ∙ ap (λ (d : Configuration). first_of d begun) (sym same)

-- what it was asked of
pub judged_of : (Why : Known → Route → ReloadFault → Type 0) (c : Configuration) (begun : Beginnings) (first known : Known) (rs reloads : List Reload) (ls : List Loading) → first ≡ first_of c begun → rs ≡ reloads → JudgesAll Why first rs ls known
    → JudgesAll Why (first_of c begun) reloads ls known
judged_of Why c begun first known rs reloads ls is same judged =
    subst (λ (x : List Reload). JudgesAll Why (first_of c begun) x ls known) same (subst (λ (k : Known). JudgesAll Why k rs ls known) is judged)

pub begun_followed : (most : ℕ) (c : Configuration) (begun : Beginnings) (known : Known) (rs : List Reload) (ls : List Loading) (events : List Scripted) → JudgesAll (MayNotFollowKnown most) (first_of c begun) rs ls known
    → Each IsTree (trees_of known.configs) → AreSoundSince (is_arbitrary known) (trees_of known.configs) → BeginSo c begun (opening_of events) → AreFollowed c rs ls events
begun_followed most c begun known rs ls events judged are sound begins =
    record { begun = begun; known = known; judged = anyhow (MayNotFollowKnown most) (first_of c begun) known rs ls judged; trees_are = are; sound = sound; begins = begins }

same_some : (a b : Route) → Some a ≡ Some b → a ≡ b
same_some a b e = cc

-- servers that began so began so for all generations
opens_more : (c : Configuration) (begun : Beginnings) (known' : Known) (rs : List Reload) (ls : List Loading) (opening : ℕ → List ℕ → Option Item) → JudgesAll ForAnyReason (first_of c begun) rs ls known' → BeginSo c begun opening
    → OpensBy (is_arbitrary known') (trees_of known'.configs) opening
opens_more c begun known' rs ls opening judged opens server key own =
    by (opens server key (sym (same_arbitrary (first_of c begun) known' rs ls judged server) ∙ own))
  where
    first_is : slice_get (trees_of known'.configs) 0 ≡ Some c.tree
    first_is = tree_at_number known'.configs 0 c (kept_at (first_of c begun) known' rs ls judged 0 c refl)

    by : (opening server key ≡ None) ⊎ ((first : Route) × (slice_get (c.tree ∷ []) 0 ≡ Some first) × Puts (tree_at first key) server)
        → (opening server key ≡ None) ⊎ ((first : Route) × (slice_get (trees_of known'.configs) 0 ≡ Some first) × Puts (tree_at first key) server)
    by (inl none) = inl none
    by (inr put) = inr (c.tree, first_is, subst (λ (t : Route). Puts (tree_at t key) server) (sym (same_some c.tree put.0 put.1)) put.2)

-- ---- the trees in use are generations

-- the tree in use after so many reloads is one of them
loaded_at : (known known' : Known) (rs : List Reload) (ls : List Loading) (c : Configuration) → JudgesAll ForAnyReason known rs ls known' → 0 < length known.configs → IsLast known.configs c
    → (k : ℕ) → slice_get (trees_of known'.configs) ((length known.configs - 1) + accepted_in ls k) ≡ Some (tree_after c.tree (map loading_is_refused ls) rs k)
loaded_at known known' [] (l ∷ ls) c j some last k = absurd j
loaded_at known known' (r ∷ rs) [] c j some last k = absurd j
loaded_at known known' [] [] c j some last k =
    let at : (length known.configs - 1) + zero ≡ length known.configs - 1 = omega arith in
    ap (slice_get (trees_of known'.configs)) at ∙ tree_at_number known'.configs (length known.configs - 1) c (ap (λ (n : Known). slice_get n.configs (length known.configs - 1)) j ∙ last) ∙ ap Some (sym (after_none c.tree k))
loaded_at known known' (r ∷ rs) (Loaded n ∷ ls) c j some last zero =
    let at : (length known.configs - 1) + zero ≡ length known.configs - 1 = omega arith in
    ap (slice_get (trees_of known'.configs)) at ∙ tree_at_number known'.configs (length known.configs - 1) c (kept_at known known' (r ∷ rs) (Loaded n ∷ ls) j (length known.configs - 1) c last)
loaded_at known known' (r ∷ rs) (Refused fault ∷ ls) c j some last zero =
    let at : (length known.configs - 1) + zero ≡ length known.configs - 1 = omega arith in
    ap (slice_get (trees_of known'.configs)) at ∙ tree_at_number known'.configs (length known.configs - 1) c (kept_at known known' (r ∷ rs) (Refused fault ∷ ls) j (length known.configs - 1) c last)
loaded_at known known' (r ∷ rs) (Loaded n ∷ ls) c j some last (suc k) =
    let configs_are : j.0.configs ≡ known.configs ++ r.config ∷ [] = ap (λ (x : Known). x.configs) j.1.0 in
    let len : length j.0.configs ≡ length known.configs + 1 = ap length configs_are ∙ length-append known.configs (r.config ∷ []) in
    let at : (length known.configs - 1) + suc (accepted_in ls k) ≡ (length j.0.configs - 1) + accepted_in ls k = omega (arith, len, some) in
    ap (slice_get (trees_of known'.configs)) at
    ∙ loaded_at j.0 known' rs ls r.config j.2 (omega (arith, len)) (subst (λ (cs : List Configuration). IsLast cs r.config) (sym configs_are) (last_of_more known.configs r.config)) k
    ∙ ap Some (sym (after_one c.tree false (map loading_is_refused ls) r rs k))
loaded_at known known' (r ∷ rs) (Refused fault ∷ ls) c j some last (suc k) =
    let configs_are : j.0.configs ≡ known.configs = ap (λ (x : Known). x.configs) j.1.0 in
    let len : length j.0.configs ≡ length known.configs = ap length configs_are in
    let at : (length known.configs - 1) + accepted_in ls k ≡ (length j.0.configs - 1) + accepted_in ls k = omega (arith, len) in
    ap (slice_get (trees_of known'.configs)) at
    ∙ loaded_at j.0 known' rs ls c j.2 (omega (arith, len, some)) (subst (λ (cs : List Configuration). IsLast cs c) (sym configs_are) last) k
    ∙ ap Some (sym (after_one c.tree true (map loading_is_refused ls) r rs k))

-- ---- freshness

module _ (c : Configuration) (begun : Beginnings) (known : Known) (rs : List Reload) (ls : List Loading) (events : List Scripted) (judged : JudgesAll ForAnyReason (first_of c begun) rs ls known)
    (are : Each IsTree (trees_of known.configs)) (sound : AreSoundSince (is_arbitrary known) (trees_of known.configs)) (opens : BeginSo c begun (opening_of events)) where
  grown_loaded : (many : ℕ) (loads : List (ℕ × Route)) → loaded_trees loads ≡ trees_loaded (map loading_is_refused ls) rs many → AreLoaded (trees_of known.configs) (tree_by c.tree loads)
  grown_loaded many loads is =
      let come = have_come c.tree (map loading_is_refused ls) rs many loads is in
      record {
        generation = λ n. 0 + accepted_in ls (come.at n);
        loaded = λ n. loaded_at (first_of c begun) known rs ls c judged (omega arith) refl (come.at n) ∙ ap Some (sym (come.tree n));
        rising = λ n m lt. let h = accepted_rise ls (come.at n) (come.at m) (come.rising n m lt) in omega (arith, h);
      }

  grown_fresh : (many : ℕ) (loads : List (ℕ × Route)) (log : List (Entry dialect)) → loaded_trees loads ≡ trees_loaded (map loading_is_refused ls) rs many → LosesOnly (run_of log) → RunsBy c.tree loads events log → IsFreshByNumber (opening_of events) (run_of log)
  grown_fresh many loads log is lost run =
      let plans : ℕ → List ℕ → Plan = λ n key. tree_at (tree_by c.tree loads n) key in
      (grown_are_fresh (bars_by Alone plans) (is_arbitrary known) (trees_of known.configs) are sound (tree_by c.tree loads) (grown_loaded many loads is) (opening_of events) (opens_more c begun known rs ls (opening_of events) judged opens) (run_of log) lost run).1 (alone plans)

  pub grown_freshly : (given : List Shown) (marks : List ℕ) (report : Report) → DrivesStepped c.tree (map loading_is_refused ls) rs events given marks report → StepsFreshly c.tree ls rs events given marks report
  grown_freshly given marks report d =
      let plans : ℕ → List ℕ → Plan = λ n key. tree_at (tree_by c.tree d.loads n) key in
      let by : IsFreshByNumber (opening_of events) (run_of d.log) = grown_fresh (length rs) d.loads d.log d.loads_are d.loses d.run in
      record { drives = d; fresh = by; none_stale = d.stale ∙ (counts_stale (tree_words plans) (bars_by Alone plans) (opening_of events) (alone plans)).none (run_of d.log) d.run by }

  grown_part : (given : List Shown) (marks : List ℕ) (servers : ScriptServers) → StepsPart c.tree (map loading_is_refused ls) rs events given marks servers → StepsPartFreshly c.tree ls rs events given marks servers
  grown_part given marks servers p = record { part = p; fresh = grown_fresh p.loaded p.loads p.log p.loads_are p.loses p.run }

  pub grown_ends : (t : Transcript) (marks : List ℕ) (before after : ScriptServers) (fault : DriveFault) → EndsStepped c.tree (map loading_is_refused ls) rs events t marks before after fault → EndsSteps c.tree ls rs events t marks before after fault
  grown_ends t marks before after (BadEvent index) e = e
  grown_ends t marks before after NoMemory e = grown_part (transcript_of t) marks after e
  grown_ends t marks before after Spent e = (record { part = e.0; fresh = grown_fresh e.0.loaded e.0.loads e.0.log e.0.loads_are e.0.loses e.0.run }, e.1)
