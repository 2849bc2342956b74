-- Losses of caches, one after another.
use Rattle.std.proofs.Common.{◌≡◌, ℕ, zero, suc, ◌+◌, ◌<◌, ◌≤◌, Bool, true, false, cond, List, [], ◌∷◌, ◌++◌, length, Option, None, refl, sym, ap, ◌∙◌, subst, arith, nat_eq, bytes_eq}
use Rattle.std.specs.Prelude.{slice_set, slice_index_or}
use Rattle.mc_types.specs.Items.{Item}
use Rattle.fresh_runs.specs.Run.{Event, Turns, Restarts, after_event}
use Rattle.cache_server.specs.Contents.{Contents, losing, restarted}
use Rattle.cache_server.specs.Held.{holds, IsLoss}
use Rattle.script_events.specs.Caches.{loss_event, cache_held, cache_left_by, event_server, changed_at, after_loss, lost_in}
use Rattle.script_events.specs.declared.servers.event.Loss.{Loss}
use Rattle.script_events.specs.declared.servers.event.Loss.TheVariants.{Item as LostItem, Restart}
use Rattle.script_events.proofs.Places.{held_here, held_else, by_server, loses_at, same}

pub set_is_changed : (f : Contents → Contents) (caches : List Contents) (s : ℕ) (x y : Contents) → s < length caches → x ≡ slice_index_or caches s x → y ≡ f x → slice_set caches s y ≡ changed_at s f caches
set_is_changed f [] s x y lt at is = absurd (omega (arith, lt))
set_is_changed f (c ∷ caches) zero x y lt at is = ap (λ z. z ∷ caches) (is ∙ ap f at)
set_is_changed f (c ∷ caches) (suc s) x y lt at is = ap (λ l. c ∷ l) (set_is_changed f caches s x y (omega (arith, lt)) at is)

pub changed_beyond : (f : Contents → Contents) (caches : List Contents) (s : ℕ) → length caches ≤ s → caches ≡ changed_at s f caches
changed_beyond f [] s le = refl
changed_beyond f (c ∷ caches) zero le = absurd (omega (arith, le))
changed_beyond f (c ∷ caches) (suc s) le = ap (λ l. c ∷ l) (changed_beyond f caches s (omega (arith, le)))

none_beyond : (caches : List Contents) (s : ℕ) (k : List ℕ) → length caches ≤ s → cache_held caches s k ≡ None
none_beyond [] s k le = refl
none_beyond (c ∷ caches) zero k le = absurd (omega (arith, le))
none_beyond (c ∷ caches) (suc s) k le = none_beyond caches s k (omega (arith, le))

cond_none : (b : Bool) (o : Option Item) → o ≡ None → o ≡ cond b None o
cond_none true o e = e
cond_none false o e = refl

-- a server that isn't there loses nothing
pub lost_beyond : (caches : List Contents) (loss : Loss) → length caches ≤ event_server (loss_event loss) → (s : ℕ) (k : List ℕ) → cache_held caches s k ≡ after_event (loss_event loss) (cache_held caches) s k
lost_beyond caches (LostItem server key) le s k =
    by_server (λ t. cache_held caches t k ≡ cond (nat_eq server t) (cond (bytes_eq key k) None (cache_held caches t k)) (cache_held caches t k)) server s
    (cond_none (bytes_eq key k) (cache_held caches server k) (none_beyond caches server k le) ∙ ap (λ b. cond b (cond (bytes_eq key k) None (cache_held caches server k)) (cache_held caches server k)) (sym (same server)))
    (λ other. ap (λ b. cond b (cond (bytes_eq key k) None (cache_held caches s k)) (cache_held caches s k)) (sym other))
lost_beyond caches (Restart server) le s k =
    by_server (λ t. cache_held caches t k ≡ cond (nat_eq server t) None (cache_held caches t k)) server s
    (none_beyond caches server k le ∙ ap (λ b. cond b None (cache_held caches server k)) (sym (same server)))
    (λ other. ap (λ b. cond b None (cache_held caches s k)) (sym other))

pub item_lost : (caches : List Contents) (server : ℕ) (key : List ℕ) (x y : Contents) → server < length caches → x ≡ slice_index_or caches server x → IsLoss (key ∷ []) x y → (s : ℕ) (k : List ℕ) → cache_held (slice_set caches server y) s k ≡ after_event (Turns server key None) (cache_held caches) s k
item_lost caches server key x y lt at loss s k = loses_at caches server x y (key ∷ []) lt at loss s k

pub all_lost : (caches : List Contents) (server : ℕ) (y : Contents) → server < length caches → ((k : List ℕ) → holds y k ≡ None) → (s : ℕ) (k : List ℕ) → cache_held (slice_set caches server y) s k ≡ after_event (Restarts server) (cache_held caches) s k
all_lost caches server y lt none s k =
    by_server (λ t. cache_held (slice_set caches server y) t k ≡ cond (nat_eq server t) None (cache_held caches t k)) server s
    (held_here caches server y lt k ∙ none k ∙ ap (λ b. cond b None (cache_held caches server k)) (sym (same server)))
    (λ other. held_else caches server y lt s k other ∙ ap (λ b. cond b None (cache_held caches s k)) (sym other))

-- one more loss
pub lost_more : (losses : List Event) (loss : Event) (caches : List Contents) → lost_in (losses ++ loss ∷ []) caches ≡ after_loss loss (lost_in losses caches)
lost_more [] loss caches = refl
lost_more (l ∷ losses) loss caches = lost_more losses loss (after_loss l caches)

-- ---- as the code loses it

pub item_contents : (caches : List Contents) (server place : ℕ) (key : List ℕ) (loss : Loss) (x y : Contents) → loss ≡ LostItem server key → place ≡ server → place < length caches → x ≡ slice_index_or caches place x → y ≡ losing x key → slice_set caches place y ≡ after_loss (loss_event loss) caches
item_contents caches server place key loss x y is at lt got to =
    set_is_changed (λ c. losing c key) caches place x y lt got to ∙ ap (λ p. changed_at p (λ c. losing c key) caches) at ∙ ap (λ l. after_loss (loss_event l) caches) (sym is)

pub item_held : (caches : List Contents) (server place : ℕ) (key : List ℕ) (loss : Loss) (x y : Contents) → loss ≡ LostItem server key → place ≡ server → place < length caches → x ≡ slice_index_or caches place x → IsLoss (key ∷ []) x y → (s : ℕ) (k : List ℕ) → cache_held (slice_set caches place y) s k ≡ after_event (loss_event loss) (cache_held caches) s k
item_held caches server place key loss x y is at lt got lost s k =
    item_lost caches place key x y lt got lost s k ∙ ap (λ p. after_event (Turns p key None) (cache_held caches) s k) at ∙ ap (λ l. after_event (loss_event l) (cache_held caches) s k) (sym is)

pub all_contents : (caches : List Contents) (server place : ℕ) (loss : Loss) (x y : Contents) → loss ≡ Restart server → place ≡ server → place < length caches → x ≡ slice_index_or caches place x → y ≡ restarted x → slice_set caches place y ≡ after_loss (loss_event loss) caches
all_contents caches server place loss x y is at lt got to =
    set_is_changed restarted caches place x y lt got to ∙ ap (λ p. changed_at p restarted caches) at ∙ ap (λ l. after_loss (loss_event l) caches) (sym is)

pub all_held : (caches : List Contents) (server place : ℕ) (loss : Loss) (y : Contents) → loss ≡ Restart server → place ≡ server → place < length caches → ((k : List ℕ) → holds y k ≡ None) → (s : ℕ) (k : List ℕ) → cache_held (slice_set caches place y) s k ≡ after_event (loss_event loss) (cache_held caches) s k
all_held caches server place loss y is at lt none s k =
    all_lost caches place y lt none s k ∙ ap (λ p. after_event (Restarts p) (cache_held caches) s k) at ∙ ap (λ l. after_event (loss_event l) (cache_held caches) s k) (sym is)

place_beyond : (caches : List Contents) (loss : Loss) → length caches ≤ event_server (loss_event loss) → caches ≡ after_loss (loss_event loss) caches
place_beyond caches loss le = changed_beyond (cache_left_by (loss_event loss)) caches (event_server (loss_event loss)) le

pub beyond_contents : (caches : List Contents) (place : ℕ) (loss l : Loss) → loss ≡ l → place ≡ event_server (loss_event l) → length caches ≤ place → caches ≡ after_loss (loss_event loss) caches
beyond_contents caches place loss l is at le = place_beyond caches l (subst (λ p. length caches ≤ p) at le) ∙ ap (λ m. after_loss (loss_event m) caches) (sym is)

pub beyond_held : (caches : List Contents) (place : ℕ) (loss l : Loss) → loss ≡ l → place ≡ event_server (loss_event l) → length caches ≤ place → (s : ℕ) (k : List ℕ) → cache_held caches s k ≡ after_event (loss_event loss) (cache_held caches) s k
beyond_held caches place loss l is at le s k = lost_beyond caches l (subst (λ p. length caches ≤ p) at le) s k ∙ ap (λ m. after_event (loss_event m) (cache_held caches) s k) (sym is)

changed_len : (s : ℕ) (f : Contents → Contents) (caches : List Contents) → length (changed_at s f caches) ≡ length caches
changed_len s f [] = refl
changed_len zero f (c ∷ caches) = refl
changed_len (suc s) f (c ∷ caches) = ap suc (changed_len s f caches)

pub lost_len : (losses : List Event) (caches : List Contents) → length (lost_in losses caches) ≡ length caches
lost_len [] caches = refl
lost_len (loss ∷ losses) caches = lost_len losses (after_loss loss caches) ∙ changed_len (event_server loss) (cache_left_by loss) caches
