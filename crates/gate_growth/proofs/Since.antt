-- Sound generations, by today's rule and by this one, and what they give.
use Rattle.std.proofs.Common.{◌≡◌, ℕ, suc, ◌%◌, ◌<◌, ◌≤◌, Bool, false, List, ◌++◌, length, Option, Some, ◌⊎◌, inl, inr, ⊎_elim, refl, sym, ap, ◌∙◌, subst, arith, slice_get}
use Rattle.std.specs.Int.{◌∣◌}
use Rattle.mc_types.specs.declared.ask.Op.TheVariants.{Delete}
use Rattle.mc_types.specs.declared.ask.Dialect.{Dialect}
use Rattle.mc_types.specs.declared.ask.Dialect.TheVariants as dialects
use Rattle.mc_types.specs.declared.ask.Ask.{Ask}
use Rattle.mc_types.specs.declared.answer.Answer.{Answer}
use Rattle.mc_types.specs.declared.call.Origin.TheVariants.{Client}
use Rattle.mc_types.specs.Items.{Item}
use Rattle.fresh_runs.specs.Calls.{Call}
use Rattle.fresh_runs.specs.Cover.{TakesIn, IsCleared}
use Rattle.fresh_runs.specs.Untouched.{KeyIsUntouched, IsCoveredOrUntouched}
use Rattle.fresh_runs.proofs.UntouchedFresh.{fresh, fresh_by_number}
use Rattle.route_tree.specs.Tag.{key_hash}
use Rattle.route_tree.specs.Each.{Each}
use Rattle.route_tree.specs.Plan.{Plan}
use Rattle.route_tree.specs.Route.{Route, IsTree}
use Rattle.route_tree.specs.At.{begins, plain_for, tree_at}
use Rattle.route_tree.specs.Place.{sizes, prefixes, prefix_text, tree_at_place}
use Rattle.route_tree.specs.Word.{Given, PlanWord, tree_words}
use Rattle.route_tree.proofs.Parts.{each_at}
use Rattle.route_tree.proofs.Words.{IsOwn, own_calls}
use Rattle.route_tree.proofs.Places.{each_append, each_left, each_right, tests}
use Rattle.gate_coverage.specs.declared.deleting.Deleting.{Deleting}
use Rattle.gate_coverage.specs.declared.deleting.Deleting.TheVariants as kinds
use Rattle.gate_coverage.specs.Cover.{IsTaking, Covers, deleting_dialect}
use Rattle.gate_coverage.proofs.Covering.{from_takes, copy_is_get, taking_get}
use Rattle.gate_growth.specs.Puts.{Puts}
use Rattle.gate_check.specs.Places.{CoversAt}
use Rattle.gate_check.proofs.Placing.{longest_of}
use Rattle.gate_check.specs.Sound.{AreLoaded}
use Rattle.gate_growth.specs.Marks.{IsTaken, IsClear}
use Rattle.gate_growth.specs.Grown.{AreSoundSince, OpensBy, SoundIsSoundSince, SinceIsCovered, GrownGenerationsAreFresh}
use Rattle.gate_growth.proofs.Among.{some_text, left_at_place, place_of, is_among, tree_there, class_of}

-- ---- today's rule

-- what one tree covers at their own places, it covers wherever the two are looked at
module _ (a b : Route) (is_a : IsTree a) (is_b : IsTree b) (h : CoversAt a b) (hash : ℕ) (text : List ℕ) where
  covers_there : Covers (plain_for hash text a) (plain_for hash text b)
  covers_there =
      let ps = prefixes a ++ prefixes b in
      let o = longest_of ps text in
      let some = each_append (λ p. 0 < length p) (prefixes a) (prefixes b) (some_text a is_a) (some_text b is_b) in
      let same = tests ps text o.0 some o.1 in
      let common = h.least.common in
      let P : List ℕ → Type 0 = λ p. begins p text ≡ begins p (prefix_text o.0) in
      let D : ℕ → Type 0 = λ n. n ∣ h.modulus in
      let at_a = left_at_place a hash text o.0 h.modulus (each_left D (sizes a) (sizes b) common) (each_left P (prefixes a) (prefixes b) same) in
      let at_b = left_at_place b hash text o.0 h.modulus (each_right D (sizes a) (sizes b) common) (each_right P (prefixes a) (prefixes b) same) in
      let some_modulus = h.least.some in
      let below : hash % h.modulus < h.modulus = omega (arith, some_modulus) in
      subst (λ x. Covers x (plain_for hash text b)) (sym at_a) (subst (Covers (plain_for (hash % h.modulus) (prefix_text o.0) a)) (sym at_b) (h.covers o.0 (hash % h.modulus) (class_of ps text o.0 o.1) below))

pub sound_since : SoundIsSoundSince
sound_since arbitrary trees are sound i j a b le ga gb place among server taken =
    inl (λ kind. covers_there a b (each_at IsTree trees i a are ga) (each_at IsTree trees j b are gb) (sound i j a b le ga gb) place.residue (prefix_text place.prefix) taken.0 taken.1 server taken.2 kind)

-- ---- what they give

abbrev kind_of : Dialect → Deleting
kind_of dialects.Classic = kinds.Delete
kind_of dialects.Meta = kinds.Md

kind_is : (d : Dialect) → d ≡ deleting_dialect (kind_of d)
kind_is dialects.Classic = refl
kind_is dialects.Meta = refl

module _ (arbitrary : ℕ → Bool) (trees : List Route) (are : Each IsTree trees) (since : AreSoundSince arbitrary trees) (tree : ℕ → Route) (loaded : AreLoaded trees tree) (opening : ℕ → List ℕ → Option Item) (opens : OpensBy arbitrary trees opening) where
  abbrev plans : ℕ → List ℕ → Plan
  plans n key = tree_at (tree n) key

  -- what a command takes, its plain tree takes
  takes_of : (m : ℕ) (ask : Ask) (key : List ℕ) → ask.key ≡ key → (calls : List Call) (reply : Answer) (from : Option ℕ) → tree_words plans m ask calls reply from → (server : ℕ) → TakesIn calls from server → IsTaken (plans m key) server
  takes_of m ask key same calls reply from word server takes =
      let given : Given = record { reply = reply; from = from } in
      let w : PlanWord (plans m key) ask Client 0 calls given = subst (λ k. PlanWord (plans m k) ask Client 0 calls given) same word.1 in
      let taking : IsTaking ask.op =
      ⊎_elim
      (λ f. from_takes (plans m key) ask Client 0 calls given word.0 w takes.0 f)
      (λ c. taking_get ask.op (copy_is_get (plans m key) ask 0 calls given w c.0 takes.0 c.1 c.2 c.3))
      takes.2 in
      (ask.op, taking, (ask, word.0, refl, calls, reply, from, w, takes))

  -- what its plain tree clears, a delete clears
  cleared_of : (n : ℕ) (delete : Ask) → delete.op ≡ Delete → (server : ℕ) → IsClear (plans n delete.key) server → IsCleared (tree_words plans) n delete server
  cleared_of n delete op server clear calls reply from word ack =
      clear (kind_of delete.dialect) delete word.0 op (kind_is delete.dialect) calls reply from word.1 ack

  -- where no tree up to the delete's puts items on it, the server was untouched
  untouched_of : (n : ℕ) (key : List ℕ) (server : ℕ) → arbitrary server ≡ false → ((h : ℕ) (t : Route) → h ≤ loaded.generation n → slice_get trees h ≡ Some t → Puts (tree_at t key) server → ⊥) → KeyIsUntouched (tree_words plans) opening n key server
  untouched_of n key server empty none =
      record {
        empty = ⊎_elim (λ e. e) (λ first. absurd (none 0 first.0 (omega arith) first.1 first.2)) (opens server key empty);
        unput = λ k ask lt same calls reply from word puts.
            let w : PlanWord (plans k key) ask Client 0 calls (record { reply = reply; from = from }) = subst (λ x. PlanWord (plans k x) ask Client 0 calls (record { reply = reply; from = from })) same word.1 in
            none (loaded.generation k) (tree k) (loaded.rising k n lt) (loaded.loaded k) (ask, word.0, calls, reply, from, w, puts);
      }

  covered : (n m : ℕ) (delete ask : Ask) → n < m → delete.op ≡ Delete → ask.key ≡ delete.key → (calls : List Call) (reply : Answer) (from : Option ℕ) → tree_words plans m ask calls reply from → (server : ℕ) → TakesIn calls from server → IsCleared (tree_words plans) n delete server ⊎ KeyIsUntouched (tree_words plans) opening n delete.key server
  covered n m delete ask lt op same calls reply from word server takes =
      let key = delete.key in
      let i = loaded.generation n in
      let j = loaded.generation m in
      let le = loaded.rising n m lt in
      let place = place_of trees are (suc j) (key_hash key) key in
      let at : (h : ℕ) (t : Route) → h ≤ j → slice_get trees h ≡ Some t → tree_at t key ≡ tree_at_place t place = λ h t small got. tree_there trees are (suc j) (key_hash key) key h t (omega (arith, small)) got in
      let taken : IsTaken (tree_at_place (tree m) place) server = subst (λ p. IsTaken p server) (at j (tree m) (omega arith) (loaded.loaded m)) (takes_of m ask key same calls reply from word server takes) in
      ⊎_elim
      (λ clear. inl (cleared_of n delete op server (subst (λ p. IsClear p server) (sym (at i (tree n) le (loaded.loaded n))) clear)))
      (λ other. inr (untouched_of n key server other.1 (λ h t small got puts. other.2 h t small got (subst (λ p. Puts p server) (at h t (omega (arith, small, le)) got) puts))))
      (since i j (tree n) (tree m) le (loaded.loaded n) (loaded.loaded m) place (is_among trees are (suc j) (key_hash key) key) server taken)

  pub is_covered : IsCoveredOrUntouched (tree_words plans) opening
  is_covered = record {
    covered = covered;
    deletes = λ n delete op calls reply from word i call is.
        ⊎_elim (λ o. ap (λ (a : Ask). a.op) o.0 ∙ op) (λ e. absurd cc) (each_at (IsOwn delete Client) calls i call (own_calls (plans n delete.key) delete Client 0 calls (record { reply = reply; from = from }) word.1) is);
  }

pub since_is_covered : SinceIsCovered
since_is_covered arbitrary trees are since tree loaded opening opens = is_covered arbitrary trees are since tree loaded opening opens

pub grown_are_fresh : (Bars : ℕ → Ask → ℕ → Ask → Type 0) → GrownGenerationsAreFresh Bars
grown_are_fresh Bars arbitrary trees are since tree loaded opening opens events lost run =
    let words = tree_words (λ n key. tree_at (tree n) key) in
    let cover = is_covered arbitrary trees are since tree loaded opening opens in (
      (λ copies. fresh words Bars opening cover copies events lost run),
      (λ alone. fresh_by_number words Bars opening cover alone events lost run),
    )
