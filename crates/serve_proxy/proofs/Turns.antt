-- Servers that follow each other at one address.
use Rattle.std.proofs.Common.{◌≡◌, ℕ, zero, suc, ◌+◌, ◌<◌, Bool, true, false, List, [], ◌∷◌, ◌⊎◌, inl, inr, get_or, Some, None, refl, sym, ap, subst, ◌∙◌, arith}
use Rattle.std.proofs.Math.ListN.{set}
use Rattle.std.specs.Prelude.{slice_get, not}
use Rattle.route_json.specs.NumberedServers.{Addresses}
use Rattle.serve_links.specs.declared.link.Link.{Link}
use Rattle.serve_links.specs.Epochs.{is_retired, with_retired, LinkIsQuiet}
use Rattle.serve_proxy.specs.Epochs.{share_address, HaveEnded, IsNeeded, EpochIsInTurn, Retires}
use Rattle.serve_proxy.specs.Emptying.{EmptiesAt}

none_some : {A : Type 0} (x : A) → None ≡ Some x → ⊥
none_some x e = cc

some_is : {A : Type 0} (x y : A) → Some x ≡ Some y → x ≡ y
some_is x y e = cc

-- ---- one link of several is set

set_one : (links : List Link) (at : ℕ) (y link : Link) → slice_get (set links at y) at ≡ Some link → link ≡ y
set_one [] at y link is = absurd (none_some link is)
set_one (first ∷ links) zero y link is = sym (some_is y link is)
set_one (first ∷ links) (suc at) y link is = set_one links at y link is

set_others : (links : List Link) (at : ℕ) (y : Link) (i : ℕ) (link : Link) → (i ≡ at → ⊥) → slice_get (set links at y) i ≡ Some link → slice_get links i ≡ Some link
set_others [] at y i link other is = is
set_others (first ∷ links) zero y zero link other is = absurd (other refl)
set_others (first ∷ links) zero y (suc i) link other is = is
set_others (first ∷ links) (suc at) y zero link other is = is
set_others (first ∷ links) (suc at) y (suc i) link other is = set_others links at y i link (λ same. other (ap suc same)) is

as_itself : (x link : Link) → Some x ≡ Some link → link ≡ with_retired (is_retired link) x
as_itself x link is = subst (λ (l : Link). l ≡ with_retired (is_retired l) x) (some_is x link is) refl

as_retired : (x y link : Link) (b : Bool) → y ≡ with_retired b x → Some y ≡ Some link → link ≡ with_retired (is_retired link) x
as_retired x y link b was is =
    let here : link ≡ with_retired b x = sym (some_is y link is) ∙ was in
    here ∙ ap (λ c. with_retired c x) (sym (ap is_retired here))

set_same :
    (links : List Link) (at : ℕ) (x y : Link) (b : Bool) → x ≡ get_or links at x → y ≡ with_retired b x → (i : ℕ) (link : Link) → slice_get (set links at y) i ≡ Some link
    → (was : Link) × (slice_get links i ≡ Some was) × (link ≡ with_retired (is_retired link) was)
set_same [] at x y b there was i link is = absurd (none_some link is)
set_same (first ∷ links) zero x y b there was zero link is = (first, refl, as_retired first y link b (was ∙ ap (with_retired b) there) is)
set_same (first ∷ links) zero x y b there was (suc i) link is = (link, is, refl)
set_same (first ∷ links) (suc at) x y b there was zero link is = (first, refl, as_itself first link is)
set_same (first ∷ links) (suc at) x y b there was (suc i) link is = set_same links at x y b there was i link is

pub retires_set : (links : List Link) (at : ℕ) (x y : Link) (b : Bool) → x ≡ get_or links at x → y ≡ with_retired b x → Retires at b links (set links at y)
retires_set links at x y b there was = record {
  one = λ link is. ap is_retired (set_one links at y link is ∙ was);
  others = set_others links at y;
  same = set_same links at x y b there was;
}

-- its server is emptied first
pub empties_set : (links : List Link) (at : ℕ) (y : Link) → y.flushes ≡ true → EmptiesAt at links (set links at y)
empties_set links at y is = record {
  one = λ link there. ap (λ (l : Link). l.flushes) (set_one links at y link there) ∙ is;
  others = set_others links at y;
}

pub empties_none : (links : List Link) (at : ℕ) → slice_get links at ≡ None → EmptiesAt at links links
empties_none links at none = record {
  one = λ link is. absurd (none_some link (sym none ∙ is));
  others = λ i link other is. is;
}

-- there is none of this number
pub retires_none : (links : List Link) (at : ℕ) (b : Bool) → slice_get links at ≡ None → Retires at b links links
retires_none links at b none = record {
  one = λ link is. absurd (none_some link (sym none ∙ is));
  others = λ i link other is. is;
  same = λ i link is. (link, is, refl);
}

-- ---- what is kept then

still_quiet : (was link : Link) → link ≡ with_retired (is_retired link) was → LinkIsQuiet was → LinkIsQuiet link
still_quiet was link same quiet = subst LinkIsQuiet (sym same) (record { sent = quiet.sent; waiting = quiet.waiting; late = quiet.late; draining = quiet.draining })

was_quiet : (was link : Link) → link ≡ with_retired (is_retired link) was → LinkIsQuiet link → LinkIsQuiet was
was_quiet was link same quiet = let now : LinkIsQuiet (with_retired (is_retired link) was) = subst LinkIsQuiet same quiet in record { sent = now.sent; waiting = now.waiting; late = now.late; draining = now.draining }

still_needed : (names : Addresses) (at : ℕ) (was link : Link) → link ≡ with_retired (is_retired link) was → IsNeeded names at was → IsNeeded names at link
still_needed names at was link same (inl none) = inl none
still_needed names at was link same (inr busy) = inr (λ quiet. busy (was_quiet was link same quiet))

still_ended : (names : Addresses) (at k : ℕ) (b : Bool) (old new : List Link) → Retires k b old new → HaveEnded names at old → HaveEnded names at new
still_ended names at k b old new r ended = λ earlier before shares link is.
    let s = r.same earlier link is in
    still_quiet s.0 link s.2 (ended earlier before shares s.0 s.1)

-- another one is set
pub still_in_turn : (names : Addresses) (at k : ℕ) (b : Bool) (old new : List Link) → Retires k b old new → (at ≡ k → ⊥) → EpochIsInTurn names old at → EpochIsInTurn names new at
still_in_turn names at k b old new r other turn = λ link is used.
    let was = turn link (r.others at link other is) used in
    (was.0, still_ended names at k b old new r was.1)

-- this one is
pub now_in_turn :
    (names : Addresses) (at : ℕ) (b : Bool) (old new : List Link) → Retires at b old new
    → (b ≡ false → ((link : Link) → slice_get old at ≡ Some link → IsNeeded names at link) × HaveEnded names at old) → EpochIsInTurn names new at
now_in_turn names at b old new r when = λ link is used.
    let was = when (sym (r.one link is) ∙ used) in
    let s = r.same at link is in
    (still_needed names at s.0 link s.2 (was.0 s.0 s.1), still_ended names at at b old new r was.1)

-- ---- all below a number

split_last : (k n : ℕ) → k < n + 1 → (k < n) ⊎ (k ≡ n)
split_last zero zero h = inr refl
split_last zero (suc n) h = inl (omega arith)
split_last (suc k) zero h = absurd (omega (arith, h))
split_last (suc k) (suc n) h = by (split_last k n (omega (arith, h)))
  where
    by : (k < n) ⊎ (k ≡ n) → (suc k < suc n) ⊎ (suc k ≡ suc n)
    by (inl less) = inl (omega (arith, less))
    by (inr same) = inr (ap suc same)

pub one_more :
    (names : Addresses) (at : ℕ) (b : Bool) (old new : List Link) → Retires at b old new → EpochIsInTurn names new at → ((k : ℕ) → k < at → EpochIsInTurn names old k)
    → (k : ℕ) → k < at + 1 → EpochIsInTurn names new k
one_more names at b old new r here before = λ k within. by k (split_last k at within)
  where
    by : (k : ℕ) → (k < at) ⊎ (k ≡ at) → EpochIsInTurn names new k
    by k (inl less) = still_in_turn names k at b old new r (λ same. omega (arith, less, same)) (before k less)
    by k (inr same) = subst (EpochIsInTurn names new) (sym same) here

-- one more server has left
pub ended_more :
    (names : Addresses) (at i : ℕ) (links : List Link) → ((e : ℕ) → e < i → share_address names e at ≡ true → (link : Link) → slice_get links e ≡ Some link → LinkIsQuiet link)
    → (share_address names i at ≡ true → (link : Link) → slice_get links i ≡ Some link → LinkIsQuiet link)
    → (e : ℕ) → e < i + 1 → share_address names e at ≡ true → (link : Link) → slice_get links e ≡ Some link → LinkIsQuiet link
ended_more names at i links before here = λ e within. by e (split_last e i within)
  where
    by : (e : ℕ) → (e < i) ⊎ (e ≡ i) → share_address names e at ≡ true → (link : Link) → slice_get links e ≡ Some link → LinkIsQuiet link
    by e (inl less) = before e less
    by e (inr same) = subst (λ (k : ℕ). share_address names k at ≡ true → (link : Link) → slice_get links k ≡ Some link → LinkIsQuiet link) (sym same) here

not_false : (b : Bool) → not b ≡ false → b ≡ true
not_false true is = refl
not_false false is = sym is

-- this one is in turn if that was so before
pub in_turn_if :
    (names : Addresses) (at : ℕ) (b : Bool) (old new : List Link) → Retires at (not b) old new → (b ≡ true → ((link : Link) → slice_get old at ≡ Some link → IsNeeded names at link) × HaveEnded names at old) → EpochIsInTurn names new at
in_turn_if names at b old new r when = now_in_turn names at (not b) old new r (λ is. when (not_false b is))
