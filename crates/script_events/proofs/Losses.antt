-- Losses, one after another, as events of a run.
use Rattle.std.proofs.Common.{◌≡◌, ℕ, zero, suc, ◌+◌, ◌<◌, cond, List, [], ◌∷◌, ◌++◌, length, map, take, get_or, Option, None, refl, sym, ap, ◌∙◌, subst, arith, nat_eq, bytes_eq}
use Rattle.mc_types.specs.Items.{Item}
use Rattle.fresh_runs.specs.Run.{after_event}
use Rattle.fresh_runs.specs.Fleet.{after_losses}
use Rattle.fresh_runs.specs.ScriptLog.{lost_by}
use Rattle.cache_server.specs.Contents.{Contents}
use Rattle.script_events.specs.Caches.{loss_event, cache_held, after_loss, lost_in}
use Rattle.script_events.specs.declared.servers.event.Loss.{Loss}
use Rattle.script_events.specs.declared.servers.event.Loss.TheVariants.{Item as LostItem, Restart}
use Rattle.script_events.proofs.CacheLosses.{lost_more, lost_len}
use Rattle.script_events.specs.Losing.{loss_told, events_of, AreLost}

-- a loss, as it is told, leaves the same
pub same_event : (loss : Loss) (h : ℕ → List ℕ → Option Item) (s : ℕ) (k : List ℕ) → after_event (loss_event loss) h s k ≡ after_event (lost_by (loss_told loss)) h s k
same_event (LostItem server key) h s k = refl
same_event (Restart server) h s k = refl

-- what a loss leaves at a place goes by what was held there
pub same_held : (loss : Loss) (g h : ℕ → List ℕ → Option Item) (s : ℕ) (k : List ℕ) → g s k ≡ h s k → after_event (lost_by (loss_told loss)) g s k ≡ after_event (lost_by (loss_told loss)) h s k
same_held (LostItem server key) g h s k is = ap (λ o. cond (nat_eq server s) (cond (bytes_eq key k) None o) o) is
same_held (Restart server) g h s k is = ap (λ o. cond (nat_eq server s) None o) is

events_more : (losses : List Loss) (loss : Loss) → events_of (losses ++ loss ∷ []) ≡ lost_by (loss_told loss) ∷ events_of losses
events_more [] loss = refl
events_more (l ∷ losses) loss = ap (λ es. es ++ lost_by (loss_told l) ∷ []) (events_more losses loss)

map_more : (losses : List Loss) (loss : Loss) → map loss_event (losses ++ loss ∷ []) ≡ map loss_event losses ++ loss_event loss ∷ []
map_more [] loss = refl
map_more (l ∷ losses) loss = ap (λ es. loss_event l ∷ es) (map_more losses loss)

pub none_lost : (caches : List Contents) → AreLost [] caches caches
none_lost caches = record { contents = refl; holds = λ s k. refl }

pub one_more : (losses : List Loss) (loss : Loss) (old mid new : List Contents) → AreLost losses old mid → new ≡ after_loss (loss_event loss) mid → ((s : ℕ) (k : List ℕ) → cache_held new s k ≡ after_event (loss_event loss) (cache_held mid) s k) → AreLost (losses ++ loss ∷ []) old new
one_more losses loss old mid new a contents held =
    record {
      contents = contents ∙ ap (after_loss (loss_event loss)) a.contents ∙ sym (lost_more (map loss_event losses) (loss_event loss) old) ∙ ap (λ l. lost_in l old) (sym (map_more losses loss));
      holds = λ s k.
          held s k ∙ same_event loss (cache_held mid) s k ∙ same_held loss (cache_held mid) (after_losses (events_of losses) (cache_held old)) s k (a.holds s k)
          ∙ ap (λ es. after_losses es (cache_held old) s k) (sym (events_more losses loss));
    }

take_suc : (xs : List Loss) (i : ℕ) (x : Loss) → i < length xs → x ≡ get_or xs i x → take (suc i) xs ≡ take i xs ++ x ∷ []
take_suc [] i x lt is = absurd (omega (arith, lt))
take_suc (y ∷ xs) zero x lt is = ap (λ z. z ∷ []) (sym is)
take_suc (y ∷ xs) (suc i) x lt is = ap (λ l. y ∷ l) (take_suc xs i x (omega (arith, lt)) is)

pub take_more : (xs : List Loss) (i : ℕ) (x : Loss) → i < length xs → x ≡ get_or xs i x → take (i + 1) xs ≡ take i xs ++ x ∷ []
take_more xs i x lt is = let one : i + 1 ≡ suc i = omega arith in ap (λ (n : ℕ). take n xs) one ∙ take_suc xs i x lt is

-- the servers stay as many
pub lost_there : (losses : List Loss) (old new : List Contents) (server : ℕ) → AreLost losses old new → server < length old → server < length new
lost_there losses old new server a lt = let same : length new ≡ length old = ap length a.contents ∙ lost_len (map loss_event losses) old in subst (λ n. server < n) (sym same) lt
