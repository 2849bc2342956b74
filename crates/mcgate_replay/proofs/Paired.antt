-- Trees that are judged in pairs cover each other, so that a run by them is fresh.
use Rattle.std.proofs.Common.{◌≡◌, ℕ, zero, suc, ◌+◌, ◌<◌, ◌≤◌, List, [], ◌∷◌, ◌++◌, length, length-append, slice_get, Option, Some, ◌⊎◌, inl, inr, ⊎_elim, refl, sym, ap, ◌∙◌, subst, arith}
use Rattle.std.specs.Prelude.{IfOk, ok_or}
use Rattle.route_tree.specs.Route.{Route, IsTree}
use Rattle.route_tree.proofs.Places.{each_append}
use Rattle.route_json.specs.Configuration.{Configuration}
use Rattle.gate_check.specs.Pairs.{IsPairFault}
use Rattle.gate_check.specs.Places.{CoversAt}
use Rattle.gate_check.specs.Reload.{AreCovering, IsFaultAmong}
use Rattle.gate_check.specs.Sound.{AreGenerations, AreSound, trees_of}
use Rattle.gate_check.specs.declared.pairs.PairFault.TheVariants as pairs
use Rattle.gate_check.specs.declared.reloading.ReloadFault.{ReloadFault}
use Rattle.gate_check.specs.declared.reloading.ReloadFault.TheVariants as faults
use Rattle.gate_check.proofs.Following.{among_is, last_is, trees_more}
use Rattle.gate_growth.proofs.Since.{sound_since}
use Rattle.core_accepted.specs.Begun.{any_begun}
use Rattle.core_accepted.specs.Known.{Known, is_arbitrary, first_of}
use Rattle.core_accepted.proofs.Keeping.{begin_anyhow}
use Rattle.script_events.specs.declared.script.Reload.{Reload}
use Rattle.script_events.specs.Opening.{opening_of}
use Rattle.script_events.specs.Scripted.{Scripted}
use Rattle.script_run.specs.declared.accepted.judging.Loading.{Loading}
use Rattle.script_run.specs.Reloads.{loading_of}
use Rattle.mcgate_replay.specs.Growing.{JudgesNext, AreFollowed}
use Rattle.mcgate_replay.specs.Pairing.{of_generation, IsFaultOf, IsJoinFault, MayNotJoin, AreHeld, ArePaired, known_of_pair}
use Rattle.mcgate_replay.proofs.Grown.{anyhow}

-- ---- one tree and another

only_one : (t a : Route) (i : ℕ) → slice_get (t ∷ []) i ≡ Some a → a ≡ t
only_one t a zero e = cc
only_one t a (suc i) e = absurd (cc)

pub one_covers : (configs : List Configuration) (c : Configuration) (tree : Route) → configs ≡ c ∷ [] → AreCovering (trees_of configs) tree (length configs) → CoversAt c.tree tree
one_covers configs c tree is h =
    let one = subst (λ (cs : List Configuration). AreCovering (trees_of cs) tree (length cs)) is h in
    one 0 c.tree (omega arith) refl

pub fault_of_one : (configs : List Configuration) (c : Configuration) (tree : Route) (n : ℕ) (fault : ReloadFault) → configs ≡ c ∷ [] → IsFaultAmong (trees_of configs) tree fault → IsFaultOf n c.tree tree (of_generation n fault)
fault_of_one configs c tree n fault is h = by fault (subst (λ (cs : List Configuration). IsFaultAmong (trees_of cs) tree fault) is h)
  where
    by : (f : ReloadFault) → IsFaultAmong (c.tree ∷ []) tree f → IsFaultOf n c.tree tree (of_generation n f)
    by faults.TooManyGenerations h = absurd h
    by (faults.TooManyPlaces g) h = (refl, subst (λ (a : Route). IsPairFault a tree pairs.TooManyPlaces) (only_one c.tree h.1 h.0 h.3) h.5)
    by (faults.Uncovered g gap) h = (refl, subst (λ (a : Route). IsPairFault a tree (pairs.Uncovered gap)) (only_one c.tree h.1 h.0 h.3) h.5)
    by faults.NoMemory h = tt

-- ---- all trees so far

-- the first that isn't known to cover it
pub fails_here : (trees : List Route) (tree : Route) (i n : ℕ) (d : Route) (fault : ReloadFault) → n ≡ i + 1 → AreCovering trees tree i → slice_get trees i ≡ Some d → IsFaultOf n d tree fault → IsFaultAmong trees tree fault
fails_here trees tree i n d faults.TooManyGenerations e covering at h = absurd h
fails_here trees tree i n d (faults.TooManyPlaces g) e covering at h = (i, d, h.0 ∙ e, at, covering, h.1)
fails_here trees tree i n d (faults.Uncovered g gap) e covering at h = (i, d, h.0 ∙ e, at, covering, h.1)
fails_here trees tree i n d faults.NoMemory e covering at h = tt

pub among_joins : (most : ℕ) (trees : List Route) (tree : Route) (fault : ReloadFault) → IsFaultAmong trees tree fault → IsJoinFault most trees tree fault
among_joins most trees tree faults.TooManyGenerations h = absurd h
among_joins most trees tree (faults.TooManyPlaces g) h = among_is trees tree (faults.TooManyPlaces g) h
among_joins most trees tree (faults.Uncovered g gap) h = among_is trees tree (faults.Uncovered g gap) h
among_joins most trees tree faults.NoMemory h = tt

-- the tree itself
pub last_joins : (most : ℕ) (trees : List Route) (tree : Route) (n : ℕ) (fault : ReloadFault) → n ≡ length trees + 1 → AreCovering trees tree (length trees) → IsFaultOf n tree tree fault → IsJoinFault most trees tree fault
last_joins most trees tree n faults.TooManyGenerations e covering h = absurd h
last_joins most trees tree n (faults.TooManyPlaces g) e covering h = last_is trees tree g pairs.TooManyPlaces covering (h.0 ∙ e) h.1
last_joins most trees tree n (faults.Uncovered g gap) e covering h = last_is trees tree g (pairs.Uncovered gap) covering (h.0 ∙ e) h.1
last_joins most trees tree n faults.NoMemory e covering h = tt

last_or : (xs : List Route) (t : Route) (i : ℕ) (a : Route) → slice_get (xs ++ t ∷ []) i ≡ Some a → ((i < length xs) × (slice_get xs i ≡ Some a)) ⊎ ((i ≡ length xs) × (t ≡ a))
last_or [] t zero a e = inr (refl, cc)
last_or [] t (suc i) a e = absurd (cc)
last_or (x ∷ xs) t zero a e = inl (omega arith, e)
last_or (x ∷ xs) t (suc i) a e =
    ⊎_elim (λ (l : (i < length xs) × (slice_get xs i ≡ Some a)). inl (omega (arith, l.0), l.1)) (λ (r : (i ≡ length xs) × (t ≡ a)). inr (ap suc r.0, r.1)) (last_or xs t i a e)

module _ (trees : List Route) (tree : Route) (sound : AreSound trees) (covering : AreCovering trees tree (length trees)) (own : CoversAt tree tree) where
  -- each covers the new one
  covers_last : (i : ℕ) (a : Route) → slice_get (trees ++ tree ∷ []) i ≡ Some a → CoversAt a tree
  covers_last i a x =
      ⊎_elim
      (λ (l : (i < length trees) × (slice_get trees i ≡ Some a)). covering i a l.0 l.1)
      (λ (r : (i ≡ length trees) × (tree ≡ a)). subst (λ (z : Route). CoversAt z tree) r.1 own)
      (last_or trees tree i a x)

  covers_earlier : (i j : ℕ) (a b : Route) → i ≤ j → j < length trees → slice_get (trees ++ tree ∷ []) i ≡ Some a → slice_get trees j ≡ Some b → CoversAt a b
  covers_earlier i j a b le lt x y =
      ⊎_elim
      (λ (l : (i < length trees) × (slice_get trees i ≡ Some a)). sound i j a b le l.1 y)
      (λ (r : (i ≡ length trees) × (tree ≡ a)). absurd (let e = r.0 in omega (arith, e, lt, le)))
      (last_or trees tree i a x)

  sound_more : AreSound (trees ++ tree ∷ [])
  sound_more i j a b le x y =
      ⊎_elim
      (λ (l : (j < length trees) × (slice_get trees j ≡ Some b)). covers_earlier i j a b le l.0 x l.1)
      (λ (r : (j ≡ length trees) × (tree ≡ b)). subst (CoversAt a) r.1 (covers_last i a x))
      (last_or trees tree j b y)

-- one tree more
pub held_more : (most : ℕ) (trees : List Route) (tree : Route) → AreHeld most trees → length trees < most → IsTree tree → AreCovering trees tree (length trees) → CoversAt tree tree → AreHeld most (trees ++ tree ∷ [])
held_more most trees tree held few is covering own =
    let more = length-append trees (tree ∷ []) in
    record {
      some = omega (arith, more);
      few = inl (omega (arith, more, few));
      trees_are = each_append IsTree trees (tree ∷ []) held.trees_are (is, tt);
      sound = sound_more trees tree held.sound covering own;
    }

pub held_pushed : (most : ℕ) (configs new : List Configuration) (config : Configuration) → new ≡ configs ++ config ∷ [] → AreHeld most (trees_of configs ++ config.tree ∷ []) → AreHeld most (trees_of new)
held_pushed most configs new config is held = subst (λ (cs : List Configuration). AreHeld most (trees_of cs)) (sym is) (subst (AreHeld most) (sym (trees_more configs config)) held)

-- the accepted configuration alone
pub held_first : (most : ℕ) (accepted : List Configuration) (c : Configuration) → accepted ≡ c ∷ [] → AreGenerations (trees_of accepted) → AreHeld most (c.tree ∷ [])
held_first most accepted c one are =
    let g = subst (λ (cs : List Configuration). AreGenerations (trees_of cs)) one are in
    record { some = g.some; few = inr refl; trees_are = g.trees_are; sound = g.sound }

-- ---- answers in order

-- what is told of a refusal, running out of memory aside
pub told_join : {E : Type 0} (most : ℕ) (known : Known) (r : Reload) (fault : ReloadFault) (o : Option Loading) (e : E) → o ≡ loading_of fault → IsJoinFault most (trees_of known.configs) r.config.tree fault
    → IfOk (ok_or o e) (λ l. JudgesNext (MayNotJoin most) known r l known)
told_join most known r fault o e is why = subst (λ (p : Option Loading). IfOk (ok_or p e) (λ l. JudgesNext (MayNotJoin most) known r l known)) (sym is) (by fault why)
  where
    by : (f : ReloadFault) → IsJoinFault most (trees_of known.configs) r.config.tree f → IfOk (ok_or (loading_of f) e) (λ l. JudgesNext (MayNotJoin most) known r l known)
    by faults.TooManyGenerations h = (refl, (h, λ same. absurd (cc)))
    by (faults.TooManyPlaces g) h = (refl, (h, λ same. absurd (cc)))
    by (faults.Uncovered g gap) h = (refl, (h, λ same. absurd (cc)))
    by faults.NoMemory h = tt

-- the first one alone is held before any answer
pub held_at_first : (first : Configuration) (configs : List Configuration) → configs ≡ first ∷ [] → known_of_pair first configs ≡ first_of first any_begun
held_at_first first configs is = ap (known_of_pair first) is

-- trees that cover each other are sound, however servers began
pub paired_followed : (most : ℕ) (c : Configuration) (rs : List Reload) (ls : List Loading) (events : List Scripted) → ArePaired most c rs ls → AreFollowed c rs ls events
paired_followed most c rs ls events p =
    let held = p.2 in
    record {
      begun = any_begun;
      known = p.0;
      judged = anyhow (MayNotJoin most) (first_of c any_begun) p.0 rs ls p.1;
      trees_are = held.trees_are;
      sound = sound_since (is_arbitrary p.0) (trees_of p.0.configs) held.trees_are held.sound;
      begins = begin_anyhow c (opening_of events);
    }
