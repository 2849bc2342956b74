-- Caches by their places, and what one of them loses.
use Rattle.std.proofs.Common.{◌≡◌, ℕ, zero, suc, ◌<◌, true, false, cond, List, [], ◌∷◌, length, Option, Some, None, refl, sym, ap, ◌∙◌, subst, arith, nat_eq, bytes_eq}
use Rattle.std.specs.Prelude.{slice_get, slice_set, slice_index_or}
use Rattle.std.proofs.Math.Dec.{eqb-suc-zero, eqb-zero-suc, eqb-suc-suc}
use Rattle.std.proofs.lemmas.Bool.{eqb-true, eq-eqb}
use Rattle.mc_types.specs.Items.{Item}
use Rattle.fresh_runs.specs.Fleet.{after_losses}
use Rattle.script_events.specs.Law.{spills_of}
use Rattle.cache_server.specs.Contents.{Contents}
use Rattle.cache_server.specs.Held.{holds, without, IsLoss}
use Rattle.script_events.specs.Caches.{cache_held}

pub held_set : (caches : List Contents) (s : ℕ) (x : Contents) → s < length caches → (t : ℕ) (k : List ℕ) → cache_held (slice_set caches s x) t k ≡ cond (nat_eq s t) (holds x k) (cache_held caches t k)
held_set [] s x lt t k = absurd (omega arith)
held_set (c ∷ caches) zero x lt zero k = refl
held_set (c ∷ caches) zero x lt (suc t) k = ap (λ b. cond b (holds x k) (cache_held caches t k)) (sym (eqb-zero-suc t))
held_set (c ∷ caches) (suc s) x lt zero k = ap (λ b. cond b (holds x k) (holds c k)) (sym (eqb-suc-zero s))
held_set (c ∷ caches) (suc s) x lt (suc t) k = held_set caches s x (omega arith) t k ∙ ap (λ b. cond b (holds x k) (cache_held caches t k)) (sym (eqb-suc-suc s t))

pub held_there : (caches : List Contents) (s : ℕ) (x : Contents) → s < length caches → x ≡ slice_index_or caches s x → (k : List ℕ) → cache_held caches s k ≡ holds x k
held_there [] s x lt is k = absurd (omega arith)
held_there (c ∷ caches) zero x lt is k = ap (λ y. holds y k) (sym is)
held_there (c ∷ caches) (suc s) x lt is k = held_there caches s x (omega arith) is k

pub is_there : (caches : List Contents) (s : ℕ) (x : Contents) → s < length caches → x ≡ slice_index_or caches s x → slice_get caches s ≡ Some x
is_there [] s x lt is = absurd (omega arith)
is_there (c ∷ caches) zero x lt is = ap Some (sym is)
is_there (c ∷ caches) (suc s) x lt is = is_there caches s x (omega arith) is

pub same : (s : ℕ) → nat_eq s s ≡ true
same s = eq-eqb s s refl

-- the changed place
pub held_here : (caches : List Contents) (s : ℕ) (x : Contents) → s < length caches → (k : List ℕ) → cache_held (slice_set caches s x) s k ≡ holds x k
held_here caches s x lt k = held_set caches s x lt s k ∙ ap (λ b. cond b (holds x k) (cache_held caches s k)) (same s)

-- what the other servers hold stays
pub held_else : (caches : List Contents) (s : ℕ) (x : Contents) → s < length caches → (t : ℕ) (k : List ℕ) → nat_eq s t ≡ false → cache_held (slice_set caches s x) t k ≡ cache_held caches t k
held_else caches s x lt t k other = held_set caches s x lt t k ∙ ap (λ b. cond b (holds x k) (cache_held caches t k)) other

pub without_same : (lost : List (List ℕ)) (f g : List ℕ → Option Item) → ((k : List ℕ) → f k ≡ g k) → (k : List ℕ) → without lost f k ≡ without lost g k
without_same [] f g is k = is k
without_same (key ∷ lost) f g is k = ap (λ o. cond (bytes_eq key k) None o) (without_same lost f g is k)

-- keys that a server loses, one after another
pub lost_else : (server : ℕ) (lost : List (List ℕ)) (h : ℕ → List ℕ → Option Item) (s : ℕ) (k : List ℕ) → nat_eq server s ≡ false → after_losses (spills_of server lost) h s k ≡ h s k
lost_else server [] h s k other = refl
lost_else server (key ∷ lost) h s k other =
    ap (λ b. cond b (cond (bytes_eq key k) None (after_losses (spills_of server lost) h s k)) (after_losses (spills_of server lost) h s k)) other ∙ lost_else server lost h s k other

pub lost_here : (server : ℕ) (lost : List (List ℕ)) (h : ℕ → List ℕ → Option Item) (k : List ℕ) → after_losses (spills_of server lost) h server k ≡ without lost (h server) k
lost_here server [] h k = refl
lost_here server (key ∷ lost) h k =
    ap (λ b. cond b (cond (bytes_eq key k) None (after_losses (spills_of server lost) h server k)) (after_losses (spills_of server lost) h server k)) (same server)
    ∙ ap (λ o. cond (bytes_eq key k) None o) (lost_here server lost h k)

-- two servers are the same or not, where something is to be shown of each
pub by_server : (P : ℕ → Type 0) (server s : ℕ) → P server → (nat_eq server s ≡ false → P s) → P s
by_server P server s here there =
    (elim (nat_eq server s) as (λ b. nat_eq server s ≡ b → P s) [
      | true ↦ λ is. subst P (eqb-true server s is) here
      | false ↦ λ other. there other
    ]) refl

-- one cache lost keys, and the others are the same
pub loses_at : (caches : List Contents) (server : ℕ) (x y : Contents) (lost : List (List ℕ)) → server < length caches → x ≡ slice_index_or caches server x → IsLoss lost x y → (s : ℕ) (k : List ℕ) → cache_held (slice_set caches server y) s k ≡ after_losses (spills_of server lost) (cache_held caches) s k
loses_at caches server x y lost lt is loss s k =
    by_server (λ t. cache_held (slice_set caches server y) t k ≡ after_losses (spills_of server lost) (cache_held caches) t k) server s
    (held_here caches server y lt k ∙ loss k ∙ without_same lost (holds x) (cache_held caches server) (λ q. sym (held_there caches server x lt is q)) k ∙ sym (lost_here server lost (cache_held caches) k))
    (λ other. held_else caches server y lt s k other ∙ sym (lost_else server lost (cache_held caches) s k other))
