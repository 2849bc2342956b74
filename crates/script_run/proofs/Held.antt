-- What a script puts on servers before its run is what its opening says.
use Rattle.std.proofs.Common.{◌≡◌, ℕ, zero, suc, ◌≤◌, Bool, true, false, cond, nat_eq, List, [], ◌∷◌, ◌++◌, length, map, slice_get, Option, Some, None, refl, sym, ap, ◌∙◌, arith}
use Rattle.std.specs.Prelude.{option_map, replicate}
use Rattle.std.proofs.Math.Dec.{eqb-zero-suc, eqb-suc-zero, eqb-suc-suc}
use Rattle.std.proofs.lemmas.Bool.{ne_eqb, leb-false}
use Rattle.mc_types.specs.Items.{Item}
use Rattle.cache_server.specs.Contents.{Contents, empty, storing_item, opening}
use Rattle.cache_server.specs.Held as cache
use Rattle.script_events.specs.Limits.{capacity}
use Rattle.script_events.specs.Caches.{cache_held, changed_at}
use Rattle.script_events.specs.declared.script.Event.{Event}
use Rattle.script_events.specs.Bad.{bad_in, first_from, first_bad}
use Rattle.script_events.specs.Opening.{put_by, put_by_all, opening_cache, opening_of}
use Rattle.script_events.specs.Scripted.{Scripted, Piece, Add, Result, Fail, Hold, At, Now, Moment, scripted_of}
use Rattle.script_events.proofs.BadEvents.{left_false}
use Rattle.script_run.specs.Holding.{put_on, put_all_on}

same_option : (o : Option Contents) → o ≡ option_map (λ c. c) o
same_option None = refl
same_option (Some c) = refl

one_map : (f g : Contents → Contents) (o : Option Contents) → option_map g (option_map f o) ≡ option_map (λ c. g (f c)) o
one_map f g None = refl
one_map f g (Some c) = refl

changed_get : (server s : ℕ) (change : Contents → Contents) (caches : List Contents) → slice_get (changed_at server change caches) s ≡ option_map (λ c. cond (nat_eq server s) (change c) c) (slice_get caches s)
changed_get server s change [] = refl
changed_get zero zero change (c ∷ caches) = refl
changed_get zero (suc s) change (c ∷ caches) = same_option (slice_get caches s) ∙ ap (λ b. option_map (λ c. cond b (change c) c) (slice_get caches s)) (sym (eqb-zero-suc s))
changed_get (suc server) zero change (c ∷ caches) = ap (λ b. Some (cond b (change c) c)) (sym (eqb-suc-zero server))
changed_get (suc server) (suc s) change (c ∷ caches) = changed_get server s change caches ∙ ap (λ b. option_map (λ c. cond b (change c) c) (slice_get caches s)) (sym (eqb-suc-suc server s))

put_get : (event : Scripted) (caches : List Contents) (s : ℕ) → slice_get (put_on event caches) s ≡ option_map (λ c. put_by s c event) (slice_get caches s)
put_get (Hold server key content) caches s = changed_get server s (λ c. storing_item c key (opening content)) caches
put_get (Piece client bytes) caches s = same_option (slice_get caches s)
put_get (Add client bytes) caches s = same_option (slice_get caches s)
put_get (Result server) caches s = same_option (slice_get caches s)
put_get (Fail turn manner) caches s = same_option (slice_get caches s)
put_get (At turn loss) caches s = same_option (slice_get caches s)
put_get (Now loss) caches s = same_option (slice_get caches s)
put_get (Moment moment) caches s = same_option (slice_get caches s)

all_get : (events : List Event) (caches : List Contents) (s : ℕ) → slice_get (put_all_on events caches) s ≡ option_map (λ c. put_by_all s c (map scripted_of events)) (slice_get caches s)
all_get [] caches s = same_option (slice_get caches s)
all_get (event ∷ events) caches s =
    all_get events (put_on (scripted_of event) caches) s ∙ ap (option_map (λ c. put_by_all s c (map scripted_of events))) (put_get (scripted_of event) caches s)
    ∙ one_map (λ c. put_by s c (scripted_of event)) (λ c. put_by_all s c (map scripted_of events)) (slice_get caches s)

-- ---- a server that isn't there

some_none : (n : ℕ) → Some n ≡ None → ⊥
some_none n e = cc

none_some : (c : Contents) → Some c ≡ None → ⊥
none_some c e = cc

same_some : (c d : Contents) → Some c ≡ Some d → c ≡ d
same_some c d e = cc

-- where no event is bad, nor is the first one
good_first : (servers : ℕ) (before : List Scripted) (event : Scripted) (events : List Scripted) → first_from servers before (event ∷ events) ≡ None → (bad_in servers before event ≡ false) × (first_from servers (before ++ event ∷ []) events ≡ None)
good_first servers before event events none = by (bad_in servers before event) none
  where
    by : (b : Bool) → cond b (Some (length before)) (first_from servers (before ++ event ∷ []) events) ≡ None → (b ≡ false) × (first_from servers (before ++ event ∷ []) events ≡ None)
    by true e = absurd (some_none (length before) e)
    by false e = (refl, e)

put_elsewhere : (servers s : ℕ) (before : List Scripted) (event : Scripted) (c : Contents) → servers ≤ s → bad_in servers before event ≡ false → put_by s c event ≡ c
put_elsewhere servers s before (Hold server key content) c le good =
    let lt = leb-false servers server (left_false _ _ (left_false _ _ good)) in
    ap (λ b. cond b (storing_item c key (opening content)) c) (ne_eqb server s (λ same. absurd (omega (arith, le, lt, same))))
put_elsewhere servers s before (Piece client bytes) c le good = refl
put_elsewhere servers s before (Add client bytes) c le good = refl
put_elsewhere servers s before (Result server) c le good = refl
put_elsewhere servers s before (Fail turn manner) c le good = refl
put_elsewhere servers s before (At turn loss) c le good = refl
put_elsewhere servers s before (Now loss) c le good = refl
put_elsewhere servers s before (Moment moment) c le good = refl

all_elsewhere : (servers s : ℕ) (before events : List Scripted) (c : Contents) → servers ≤ s → first_from servers before events ≡ None → put_by_all s c events ≡ c
all_elsewhere servers s before [] c le none = refl
all_elsewhere servers s before (event ∷ events) c le none =
    let g = good_first servers before event events none in
    ap (λ x. put_by_all s x events) (put_elsewhere servers s before event c le g.0) ∙ all_elsewhere servers s (before ++ event ∷ []) events c le g.1

-- ---- new servers

abbrev held_opt : Option Contents → List ℕ → Option Item
held_opt None k = None
held_opt (Some c) k = cache.holds c k

held_get : (caches : List Contents) (s : ℕ) (k : List ℕ) → cache_held caches s k ≡ held_opt (slice_get caches s) k
held_get [] s k = refl
held_get (c ∷ caches) zero k = refl
held_get (c ∷ caches) (suc s) k = held_get caches s k

data IsThere (n s : ℕ) : Type 0 where
  there : slice_get (replicate n (empty capacity)) s ≡ Some (empty capacity) → IsThere n s
  absent : slice_get (replicate n (empty capacity)) s ≡ None → n ≤ s → IsThere n s

is_there : (n s : ℕ) → IsThere n s
is_there zero s = absent refl (omega arith)
is_there (suc n) zero = there refl
is_there (suc n) (suc s) = elim (is_there n s) [
  | there e ↦ there e
  | absent e le ↦ absent e (omega (arith, le))
]

-- new servers hold what the script puts there
pub held_new : (n : ℕ) (events : List Event) → first_bad n (map scripted_of events) ≡ None → (s : ℕ) (key : List ℕ) → cache_held (put_all_on events (replicate n (empty capacity))) s key ≡ opening_of (map scripted_of events) s key
held_new n events good s key =
    held_get (put_all_on events (replicate n (empty capacity))) s key ∙ ap (λ o. held_opt o key) (all_get events (replicate n (empty capacity)) s) ∙ by (is_there n s)
  where
    puts : Contents → Contents
    puts c = put_by_all s c (map scripted_of events)

    by : IsThere n s → held_opt (option_map (λ c. put_by_all s c (map scripted_of events)) (slice_get (replicate n (empty capacity)) s)) key ≡ opening_of (map scripted_of events) s key
    by (there e) = ap (λ o. held_opt (option_map (λ c. put_by_all s c (map scripted_of events)) o) key) e
    by (absent e le) =
        ap (λ o. held_opt (option_map (λ c. put_by_all s c (map scripted_of events)) o) key) e ∙ ap (λ c. cache.holds c key) (sym (all_elsewhere n s [] (map scripted_of events) (empty capacity) le good))

-- the cache of each is what the script makes of a new one
pub opened_new : (n : ℕ) (events : List Event) (s : ℕ) (cache : Contents) → slice_get (put_all_on events (replicate n (empty capacity))) s ≡ Some cache → cache ≡ opening_cache (map scripted_of events) s
opened_new n events s cache at = by (is_there n s) (sym at ∙ all_get events (replicate n (empty capacity)) s)
  where
    by : IsThere n s → Some cache ≡ option_map (λ c. put_by_all s c (map scripted_of events)) (slice_get (replicate n (empty capacity)) s) → cache ≡ put_by_all s (empty capacity) (map scripted_of events)
    by (there e) is = same_some cache (put_by_all s (empty capacity) (map scripted_of events)) (is ∙ ap (option_map (λ c. put_by_all s c (map scripted_of events))) e)
    by (absent e le) is = absurd (none_some cache (is ∙ ap (option_map (λ c. put_by_all s c (map scripted_of events))) e))
