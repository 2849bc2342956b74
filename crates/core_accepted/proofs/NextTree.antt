-- A core that is served and takes one more tree.
use Rattle.std.proofs.Common.{◌≡◌, ℕ, zero, suc, ◌<◌, ◌≤◌, Bool, true, false, cond, List, [], ◌∷◌, ◌++◌, length, nat_le, slice_get, Option, Some, None, Result, Ok, Err, refl, sym, ap, ◌∙◌, subst, arith}
use Rattle.std.specs.Prelude.{option_map, IfOk, IfErr, OnOk, OnErr}
use Rattle.std.proofs.lemmas.Bool.{leb-true, le-leb}
use Rattle.std.proofs.lemmas.Option.{slice_get_within}
use Rattle.mc_types.specs.Items.{Item}
use Rattle.fresh_runs.specs.Overlap.{Entry}
use Rattle.route_tree.specs.At.{tree_at}
use Rattle.route_tree.specs.Route.{Route}
use Rattle.route_tree.specs.Plan.{Plan}
use Rattle.route_json.specs.Configuration.{Configuration}
use Rattle.gate_check.specs.Sound.{AreLoaded, trees_of}
use Rattle.gate_check.proofs.Following.{trees_more}
use Rattle.gate_growth.specs.Grown.{AreSoundSince}
use Rattle.core_proxy.specs.declared.proxy.Core.{Core}
use Rattle.core_proxy.specs.CoreState as core_state
use Rattle.core_proxy.specs.CoreState.{dialect, IsTakenOver}
use Rattle.core_accepted.specs.declared.served.ServedCore.{ServedCore}
use Rattle.core_accepted.specs.declared.tally.CoreTally.{CoreTally}
use Rattle.core_accepted.specs.Tallies.{MakesPlaces}
use Rattle.core_accepted.specs.Known.{Known, is_arbitrary, more}
use Rattle.core_accepted.specs.Logs.{MayBeLoaded, MayHaveLed}
use Rattle.core_accepted.specs.declared.loading.LoadFault.{LoadFault}
use Rattle.core_accepted.specs.Loading.{TakesOver, IsGeneration, AreSoundIfAsked, IsTakenUp, TakesPlaces, IsLoaded, RefusesLoad}

more_at : (xs : List Route) (y : Route) (i : ℕ) (x : Route) → slice_get xs i ≡ Some x → slice_get (xs ++ y ∷ []) i ≡ Some x
more_at [] y i x e = absurd (cc)
more_at (z ∷ xs) y zero x e = e
more_at (z ∷ xs) y (suc i) x e = more_at xs y i x e

last_at : (xs : List Route) (y : Route) → slice_get (xs ++ y ∷ []) (length xs) ≡ Some y
last_at [] y = refl
last_at (x ∷ xs) y = last_at xs y

-- up to a number these, and then that one
abbrev before_or : {A : Type 0} → ℕ → (ℕ → A) → A → ℕ → A
before_or number f a n = cond (nat_le n number) (f n) a

up_to : {A : Type 0} (number : ℕ) (f : ℕ → A) (a : A) (n : ℕ) → n ≤ number → before_or number f a n ≡ f n
up_to number f a n le = ap (λ b. cond b (f n) a) (le-leb n number le)

not_le : (number n : ℕ) (b : Bool) → nat_le n number ≡ b → number < n → b ≡ false
not_le number n true e lt = absurd (let le = leb-true n number e in omega (arith, le, lt))
not_le number n false e lt = refl

above : {A : Type 0} (number : ℕ) (f : ℕ → A) (a : A) (n : ℕ) → number < n → before_or number f a n ≡ a
above number f a n lt = ap (λ b. cond b (f n) a) (not_le number n (nat_le n number) refl lt)

-- commands that run by the trees of a list run by those of the list with one more tree, which later ones run by
loaded_more : (trees : List Route) (tree : ℕ → Route) (number : ℕ) (new : Route) → AreLoaded trees tree → AreLoaded (trees ++ new ∷ []) (before_or number tree new)
loaded_more trees tree number new h =
    record {
      generation = before_or number h.generation (length trees);
      loaded = λ n. at n (nat_le n number);
      rising = λ n m lt. rises n m (nat_le n number) (nat_le m number) refl refl lt;
    }
  where
    at : (n : ℕ) (b : Bool) → slice_get (trees ++ new ∷ []) (cond b (h.generation n) (length trees)) ≡ Some (cond b (tree n) new)
    at n true = more_at trees new (h.generation n) (tree n) (h.loaded n)
    at n false = last_at trees new

    rises : (n m : ℕ) (b d : Bool) → nat_le n number ≡ b → nat_le m number ≡ d → n < m → cond b (h.generation n) (length trees) ≤ cond d (h.generation m) (length trees)
    rises n m true true e f lt = h.rising n m lt
    rises n m true false e f lt = let within = slice_get_within trees (h.generation n) (tree n) (h.loaded n) in omega (arith, within)
    rises n m false true e f lt = absurd (let le = leb-true m number f in let is = le-leb n number (omega (arith, le, lt)) in cc (e, is))
    rises n m false false e f lt = omega arith

-- the core took one more tree
over :
    (old : ServedCore) (x : Core) (word : Option Known) (new : Route) → core_state.Reloads old.core new x
    → ((tree : ℕ → Route) → MayBeLoaded old.accepted tree → MayBeLoaded word (before_or old.core.number tree new))
    → (opening : ℕ → List ℕ → Option Item) (past : List (Entry dialect)) (led : MayHaveLed opening past old) → TakesOver opening past new old (record old { core = x; accepted = word }) led
over old x word new step loads opening past led =
    let last = old.core.number in
    let tree = before_or last led.tree new in
    let plans : ℕ → List ℕ → Plan = λ n key. tree_at (tree n) key in
    let taken : IsTakenOver old.core new led.beside plans = record {
      begun = λ n key le. ap (λ t. tree_at t key) (up_to last led.tree new n le) ∙ ap (λ (p : ℕ → List ℕ → Plan). p n key) (sym led.plain);
      coming = λ n key lt. ap (λ t. tree_at t key) (above last led.tree new n lt);
    } in
    record {
      after = record {
        tree = tree;
        loaded = loads led.tree led.loaded;
        beside = record led.beside { at = plans };
        plain = refl;
        fits = step.fits led.beside plans led.fits taken;
        leads = step.leads led.beside plans taken opening past led.leads;
      };
      begun = λ n le. up_to last led.tree new n le;
      coming = λ n lt. above last led.tree new n lt;
      others = refl;
    }

-- of one more configuration that the gate accepted
loads_accepted :
    (old : ServedCore) (x : Core) (was now : Known) (config : Configuration) (number : ℕ) → old.accepted ≡ Some was → now ≡ more config was → number ≡ length now.configs
    → AreSoundSince (is_arbitrary now) (trees_of now.configs) → core_state.Reloads old.core config.tree x → IsTakenUp old config number (record old { core = x; accepted = Some now })
loads_accepted old x was now config number word is count sound step = record {
  word = ap Some is ∙ sym (ap (option_map (more config)) word);
  tally = refl;
  sound = sound;
  number_is = count;
  reloads = step;
  goes = over old x (Some now) config.tree step (λ tree loaded.
      let before : AreLoaded (trees_of was.configs) tree = subst (λ (w : Option Known). MayBeLoaded w tree) word loaded in
      let trees_are : trees_of now.configs ≡ trees_of was.configs ++ config.tree ∷ [] = ap (λ (k : Known). trees_of k.configs) is ∙ trees_more was.configs config in
      subst (λ (ts : List Route). AreLoaded ts (before_or old.core.number tree config.tree)) (sym trees_are) (loaded_more (trees_of was.configs) tree old.core.number config.tree before));
}

-- of a configuration of which no gate was asked
loads_any :
    (old : ServedCore) (x : Core) (config : Configuration) (number : ℕ) → old.accepted ≡ None → number ≡ x.generation → core_state.Reloads old.core config.tree x
    → IsTakenUp old config number (record old { core = x })
loads_any old x config number word count step = record {
  word = word ∙ sym (ap (option_map (more config)) word);
  tally = refl;
  sound = subst AreSoundIfAsked (sym word) tt;
  number_is = subst (λ (w : Option Known). IsGeneration w x number) (sym word) count;
  reloads = step;
  goes = over old x old.accepted config.tree step (λ tree loaded. subst (λ (w : Option Known). MayBeLoaded w (before_or old.core.number tree config.tree)) (sym word) tt);
}

-- where the core has a gate, a configuration whose load came out well is loaded
pub next_loaded :
    (old : ServedCore) (x : Core) (was now : Known) (config : Configuration) (r : Result ℕ LoadFault) → old.accepted ≡ Some was → OnOk r (now ≡ more config was) → IfOk r (λ number. number ≡ length now.configs)
    → OnOk r (AreSoundSince (is_arbitrary now) (trees_of now.configs)) → OnOk r (core_state.Reloads old.core config.tree x) → IfOk r (λ number. IsTakenUp old config number (record old { core = x; accepted = Some now }))
next_loaded old x was now config (Ok number) word taken count sound step = loads_accepted old x was now config number word taken count sound step
next_loaded old x was now config (Err fault) word taken count sound step = tt

pub any_loaded :
    (old : ServedCore) (x : Core) (config : Configuration) (r : Result ℕ LoadFault) → old.accepted ≡ None → IfOk r (λ number. number ≡ x.generation) → OnOk r (core_state.Reloads old.core config.tree x)
    → IfOk r (λ number. IsTakenUp old config number (record old { core = x }))
any_loaded old x config (Ok number) word count step = loads_any old x config number word count step
any_loaded old x config (Err fault) word count step = tt

-- the same core, whatever it counts
abbrev led_counting : (a : ServedCore) (tally : CoreTally) (opening : ℕ → List ℕ → Option Item) (past : List (Entry dialect)) → MayHaveLed opening past a → MayHaveLed opening past (record a { tally = tally })
led_counting a tally opening past led = record { tree = led.tree; loaded = led.loaded; beside = led.beside; plain = led.plain; fits = led.fits; leads = led.leads }

-- servers got places after it
with_places :
    (old a : ServedCore) (config : Configuration) (number : ℕ) (tally : CoreTally) → IsTakenUp old config number a → MakesPlaces a.tally tally → IsLoaded old config number (record a { tally = tally })
with_places old a config number tally taken places = record {
  word = taken.word;
  tally = subst (λ (t : CoreTally). MakesPlaces t tally) taken.tally places;
  sound = taken.sound;
  number_is = taken.number_is;
  reloads = taken.reloads;
  goes = λ opening past led.
      let over = taken.goes opening past led in
      record { after = led_counting a tally opening past over.after; begun = over.begun; coming = over.coming; others = over.others };
}

places_after :
    (old a b : ServedCore) (config : Configuration) (number : ℕ) → IsTakenUp old config number a → TakesPlaces a b → IsLoaded old config number b
places_after old a b config number taken takes = subst (IsLoaded old config number) (sym takes.rest) (with_places old a config number b.tally taken takes.places)

-- so it is where the load came out well
pub loaded_with_places :
    (old a b : ServedCore) (config : Configuration) (r : Result ℕ LoadFault) → IfOk r (λ number. IsTakenUp old config number a) → OnOk r (TakesPlaces a b) → IfOk r (λ number. IsLoaded old config number b)
loaded_with_places old a b config (Ok number) taken takes = places_after old a b config number taken takes
loaded_with_places old a b config (Err fault) taken takes = tt

-- else all is as it was
pub refused_without_places :
    (old a b : ServedCore) (config : Configuration) (r : Result ℕ LoadFault) → IfErr r (λ fault. RefusesLoad old config fault × (a ≡ old)) → OnErr r (b ≡ a) → IfErr r (λ fault. RefusesLoad old config fault × (b ≡ old))
refused_without_places old a b config (Ok number) refused same = tt
refused_without_places old a b config (Err fault) refused same = (refused.0, same ∙ refused.1)
