-- What servers hold, changed forward by each event.
use Rattle.std.proofs.Common.{◌≡◌, ℕ, Bool, true, false, cond, List, ◌∷◌, ◌++◌, Option, None, refl, ap, ◌∙◌, bytes_eq, nat_eq}
use Rattle.mc_types.specs.declared.ask.Ask.{Ask}
use Rattle.mc_types.specs.Items.{Item}
use Rattle.fresh_runs.specs.Life.{Mark, held_in}
use Rattle.fresh_runs.specs.Calls.{End, Read, Unread, Never, marks_of, left_after_end}
use Rattle.fresh_runs.specs.Run.{Event, Begins, Calls, Replies, Breaks, Turns, Restarts, life_of, held, after_event}

cond_ap : {A B : Type 0} (f : A → B) (b : Bool) (x y : A) → f (cond b x y) ≡ cond b (f x) (f y)
cond_ap f true x y = refl
cond_ap f false x y = refl

cond_same : {A : Type 0} (b : Bool) (x : A) → x ≡ cond b x x
cond_same true x = refl
cond_same false x = refl

module _ (opening : ℕ → List ℕ → Option Item) where
  held_marks : (o : Option Item) (ask : Ask) (end : End) (life : List Mark) (k : List ℕ) → held_in o (marks_of ask end ++ life) k ≡ cond (bytes_eq ask.key k) (left_after_end ask end (held_in o life k)) (held_in o life k)
  held_marks o ask (Read stamp answer spaces) life k = refl
  held_marks o ask (Unread stamp answer spaces) life k = refl
  held_marks o ask Never life k = cond_same (bytes_eq ask.key k) (held_in o life k)

  -- what is held is changed forward by each event
  pub held_after : (e : Event) (past : List Event) (s : ℕ) (k : List ℕ) → held opening (e ∷ past) s k ≡ after_event e (held opening past) s k
  held_after (Begins number ask) past s k = refl
  held_after (Replies number key reply from) past s k = refl
  held_after (Breaks number) past s k = refl
  held_after (Calls number server ask origin end) past s k =
      cond_ap (λ l. held_in (opening s k) l k) (nat_eq server s) (marks_of ask end ++ life_of past s) (life_of past s)
      ∙ ap (λ o. cond (nat_eq server s) o (held opening past s k)) (held_marks (opening s k) ask end (life_of past s) k)
  held_after (Turns server key turned) past s k = cond_ap (λ l. held_in (opening s k) l k) (nat_eq server s) _ _
  held_after (Restarts server) past s k = cond_ap (λ l. held_in (opening s k) l k) (nat_eq server s) _ _

  -- an event depends on what is held alone
  pub event_same : (e : Event) (g h : ℕ → List ℕ → Option Item) (s : ℕ) (k : List ℕ) → g s k ≡ h s k → after_event e g s k ≡ after_event e h s k
  event_same (Begins number ask) g h s k is = is
  event_same (Replies number key reply from) g h s k is = is
  event_same (Breaks number) g h s k is = is
  event_same (Calls number server ask origin end) g h s k is = ap (λ o. cond (nat_eq server s) (cond (bytes_eq ask.key k) (left_after_end ask end o) o) o) is
  event_same (Turns server key turned) g h s k is = ap (λ o. cond (nat_eq server s) (cond (bytes_eq key k) turned o) o) is
  event_same (Restarts server) g h s k is = ap (λ o. cond (nat_eq server s) None o) is
