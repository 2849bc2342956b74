-- Commands found by their numbers: which are over, which have begun, and which have their key alone.
use Rattle.std.proofs.Common.{◌≡◌, ℕ, ◌<◌, Bool, true, false, cond, List, [], ◌∷◌, Option, Some, None, inl, inr, ⊎_elim, refl, sym, ap, ◌∙◌, subst, arith, nat_eq}
use Rattle.std.proofs.lemmas.Bool.{eqb-true, eq-eqb}
use Rattle.mc_types.specs.declared.ask.Op.TheVariants.{Delete}
use Rattle.mc_types.specs.declared.ask.Ask.{Ask}
use Rattle.mc_types.specs.declared.answer.Answer.{Answer}
use Rattle.mc_types.specs.Items.{Item}
use Rattle.fresh_runs.specs.Calls.{Call}
use Rattle.fresh_runs.specs.Run.{Event, Begins, Calls, Replies, Breaks, Turns, Restarts, under_way, calls_so_far, before, HasEnded, IsNewNumber, item_at, Run, IsAcknowledged, IsShown}
use Rattle.fresh_runs.proofs.Lists.{bool_is}

pub some_ask : (a b : Ask) → ◌≡◌ {A = Option Ask} (Some a) (Some b) → a ≡ b
some_ask a b e = cc

pub no_ask : {A : Type 0} (a : Ask) → ◌≡◌ {A = Option Ask} None (Some a) → A
no_ask a e = absurd cc

pub differs : (a b : ℕ) → (a ≡ b → ⊥) → nat_eq a b ≡ false
differs a b unlike = ⊎_elim (λ y. absurd (unlike (eqb-true a b y))) (λ n. n) (bool_is (nat_eq a b))

pub differ : {A : Type 0} (a b : ℕ) → nat_eq a b ≡ false → a ≡ b → A
differ a b unlike is = absurd (let t = eq-eqb a b is in cc)

pub below_differs : (a b : ℕ) → a < b → nat_eq a b ≡ false
below_differs a b lt = differs a b (λ e. (let f = e in omega arith))

pub second : {A : Type 0} (b : Bool) (x y : A) → b ≡ false → cond b x y ≡ y
second true x y e = absurd cc
second false x y e = refl

-- a number that was given out is below a new one
pub way_below : (x : ℕ) (past : List Event) (n : ℕ) (ask : Ask) → IsNewNumber x past → under_way past n ≡ Some ask → n < x
way_below x [] n ask new e = no_ask ask e
way_below x (Begins m client ∷ past) n ask new e =
    (elim (nat_eq m n) as (λ b. nat_eq m n ≡ b → cond b (Some client) (under_way past n) ≡ Some ask → n < x) [
      | true ↦ λ is _. subst (λ k. k < x) (eqb-true m n is) new.0
      | false ↦ λ _ is. way_below x past n ask new.1 is
    ]) refl e
way_below x (Calls m s a o end ∷ past) n ask new e = way_below x past n ask new.1 e
way_below x (Replies m key r f ∷ past) n ask new e =
    (elim (nat_eq m n) as (λ b. cond b None (under_way past n) ≡ Some ask → n < x) [
      | true ↦ λ is. no_ask ask is
      | false ↦ λ is. way_below x past n ask new.1 is
    ]) e
way_below x (Breaks m ∷ past) n ask new e =
    (elim (nat_eq m n) as (λ b. cond b None (under_way past n) ≡ Some ask → n < x) [
      | true ↦ λ is. no_ask ask is
      | false ↦ λ is. way_below x past n ask new.1 is
    ]) e
way_below x (Turns s key turned ∷ past) n ask new e = way_below x past n ask new e
way_below x (Restarts s ∷ past) n ask new e = way_below x past n ask new e

pub ended_below : (x : ℕ) (past : List Event) (n : ℕ) → IsNewNumber x past → HasEnded past n → n < x
ended_below x [] n new e = let lt = new in let z = e in omega arith
ended_below x (Begins m client ∷ past) n new e = ended_below x past n new.1 e
ended_below x (Calls m s a o end ∷ past) n new e = ended_below x past n new.1 e
ended_below x (Replies m key r f ∷ past) n new (inl e) = subst (λ k. k < x) e new.0
ended_below x (Replies m key r f ∷ past) n new (inr e) = ended_below x past n new.1 e
ended_below x (Breaks m ∷ past) n new (inl e) = subst (λ k. k < x) e new.0
ended_below x (Breaks m ∷ past) n new (inr e) = ended_below x past n new.1 e
ended_below x (Turns s key turned ∷ past) n new e = ended_below x past n new e
ended_below x (Restarts s ∷ past) n new e = ended_below x past n new e

pub acked_below : (x : ℕ) (past : List Event) (n : ℕ) (delete : Ask) → IsNewNumber x past → IsAcknowledged past n delete → n < x
acked_below x [] n delete new ack = absurd ack
acked_below x (Begins m ask ∷ past) n delete new (inl h) = absurd h
acked_below x (Begins m ask ∷ past) n delete new (inr h) = acked_below x past n delete new.1 h
acked_below x (Calls m s a o end ∷ past) n delete new (inl h) = absurd h
acked_below x (Calls m s a o end ∷ past) n delete new (inr h) = acked_below x past n delete new.1 h
acked_below x (Replies m key r f ∷ past) n delete new (inl h) = subst (λ k. k < x) h.0 new.0
acked_below x (Replies m key r f ∷ past) n delete new (inr h) = acked_below x past n delete new.1 h
acked_below x (Breaks m ∷ past) n delete new (inl h) = absurd h
acked_below x (Breaks m ∷ past) n delete new (inr h) = acked_below x past n delete new.1 h
acked_below x (Turns s key turned ∷ past) n delete new (inl h) = absurd h
acked_below x (Turns s key turned ∷ past) n delete new (inr h) = acked_below x past n delete new h
acked_below x (Restarts s ∷ past) n delete new (inl h) = absurd h
acked_below x (Restarts s ∷ past) n delete new (inr h) = acked_below x past n delete new h

pub shown_below : (opening : ℕ → List ℕ → Option Item) (x : ℕ) (past : List Event) (m : ℕ) (key : List ℕ) (item : Item) → IsNewNumber x past → IsShown opening past m key item → m < x
shown_below opening x [] m key item new shown = absurd shown
shown_below opening x (Begins n ask ∷ past) m key item new (inl h) = absurd h
shown_below opening x (Begins n ask ∷ past) m key item new (inr h) = shown_below opening x past m key item new.1 h
shown_below opening x (Calls n s a o end ∷ past) m key item new (inl h) = absurd h
shown_below opening x (Calls n s a o end ∷ past) m key item new (inr h) = shown_below opening x past m key item new.1 h
shown_below opening x (Replies n k r f ∷ past) m key item new (inl h) = subst (λ k. k < x) h.0 new.0
shown_below opening x (Replies n k r f ∷ past) m key item new (inr h) = shown_below opening x past m key item new.1 h
shown_below opening x (Breaks n ∷ past) m key item new (inl h) = absurd h
shown_below opening x (Breaks n ∷ past) m key item new (inr h) = shown_below opening x past m key item new.1 h
shown_below opening x (Turns s k turned ∷ past) m key item new (inl h) = absurd h
shown_below opening x (Turns s k turned ∷ past) m key item new (inr h) = shown_below opening x past m key item new h
shown_below opening x (Restarts s ∷ past) m key item new (inl h) = absurd h
shown_below opening x (Restarts s ∷ past) m key item new (inr h) = shown_below opening x past m key item new h

-- a command that hasn't begun has made no call
pub new_calls : (x : ℕ) (past : List Event) → IsNewNumber x past → calls_so_far past x ≡ []
new_calls x [] new = refl
new_calls x (Begins m ask ∷ past) new = new_calls x past new.1
new_calls x (Calls m s a o end ∷ past) new = second _ _ _ (below_differs m x new.0) ∙ new_calls x past new.1
new_calls x (Replies m key r f ∷ past) new = new_calls x past new.1
new_calls x (Breaks m ∷ past) new = new_calls x past new.1
new_calls x (Turns s key turned ∷ past) new = new_calls x past new
new_calls x (Restarts s ∷ past) new = new_calls x past new

pub new_item_at : (opening : ℕ → List ℕ → Option Item) (x : ℕ) (past : List Event) (i : ℕ) → IsNewNumber x past → item_at opening past x i ≡ None
new_item_at opening x [] i new = refl
new_item_at opening x (Begins m ask ∷ past) i new = new_item_at opening x past i new.1
new_item_at opening x (Calls m s a o end ∷ past) i new = second _ _ _ (below_differs m x new.0) ∙ new_item_at opening x past i new.1
new_item_at opening x (Replies m key r f ∷ past) i new = new_item_at opening x past i new.1
new_item_at opening x (Breaks m ∷ past) i new = new_item_at opening x past i new.1
new_item_at opening x (Turns s key turned ∷ past) i new = new_item_at opening x past i new
new_item_at opening x (Restarts s ∷ past) i new = new_item_at opening x past i new

-- what was so when a command began is so
pub ended_since : (past : List Event) (n s : ℕ) → HasEnded (before past n) s → HasEnded past s
ended_since [] n s h = h
ended_since (Begins m ask ∷ past) n s h =
    (elim (nat_eq m n) as (λ b. HasEnded (cond b past (before past n)) s → HasEnded past s) [ true ↦ λ e. e | false ↦ λ e. ended_since past n s e ]) h
ended_since (Calls m server a o end ∷ past) n s h = ended_since past n s h
ended_since (Replies m key r f ∷ past) n s h = inr (ended_since past n s h)
ended_since (Breaks m ∷ past) n s h = inr (ended_since past n s h)
ended_since (Turns server key turned ∷ past) n s h = ended_since past n s h
ended_since (Restarts server ∷ past) n s h = ended_since past n s h

pub acked_since : (past : List Event) (m n : ℕ) (delete : Ask) → IsAcknowledged (before past m) n delete → IsAcknowledged past n delete
acked_since [] m n delete h = h
acked_since (Begins x ask ∷ past) m n delete h =
    inr ((elim (nat_eq x m) as (λ b. IsAcknowledged (cond b past (before past m)) n delete → IsAcknowledged past n delete) [ true ↦ λ e. e | false ↦ λ e. acked_since past m n delete e ]) h)
acked_since (Calls x server a o end ∷ past) m n delete h = inr (acked_since past m n delete h)
acked_since (Replies x key r f ∷ past) m n delete h = inr (acked_since past m n delete h)
acked_since (Breaks x ∷ past) m n delete h = inr (acked_since past m n delete h)
acked_since (Turns server key turned ∷ past) m n delete h = inr (acked_since past m n delete h)
acked_since (Restarts server ∷ past) m n delete h = inr (acked_since past m n delete h)

-- a delete that was acknowledged is over
pub acked_over : (past : List Event) (n : ℕ) (delete : Ask) → IsAcknowledged past n delete → HasEnded past n
acked_over [] n delete ack = absurd ack
acked_over (Begins m ask ∷ past) n delete (inl h) = absurd h
acked_over (Begins m ask ∷ past) n delete (inr h) = acked_over past n delete h
acked_over (Calls m s a o end ∷ past) n delete (inl h) = absurd h
acked_over (Calls m s a o end ∷ past) n delete (inr h) = acked_over past n delete h
acked_over (Replies m key r f ∷ past) n delete (inl h) = inl h.0
acked_over (Replies m key r f ∷ past) n delete (inr h) = inr (acked_over past n delete h)
acked_over (Breaks m ∷ past) n delete (inl h) = absurd h
acked_over (Breaks m ∷ past) n delete (inr h) = inr (acked_over past n delete h)
acked_over (Turns s key turned ∷ past) n delete (inl h) = absurd h
acked_over (Turns s key turned ∷ past) n delete (inr h) = acked_over past n delete h
acked_over (Restarts s ∷ past) n delete (inl h) = absurd h
acked_over (Restarts s ∷ past) n delete (inr h) = acked_over past n delete h

pub acked_delete : (past : List Event) (n : ℕ) (delete : Ask) → IsAcknowledged past n delete → delete.op ≡ Delete
acked_delete [] n delete ack = absurd ack
acked_delete (Begins m ask ∷ past) n delete (inl h) = absurd h
acked_delete (Calls m s a o end ∷ past) n delete (inl h) = absurd h
acked_delete (Replies m key r f ∷ past) n delete (inl h) = h.2.0
acked_delete (Breaks m ∷ past) n delete (inl h) = absurd h
acked_delete (Turns s key turned ∷ past) n delete (inl h) = absurd h
acked_delete (Restarts s ∷ past) n delete (inl h) = absurd h
acked_delete (event ∷ past) n delete (inr h) = acked_delete past n delete h

module _ (words : ℕ → Ask → List Call → Answer → Option ℕ → Type 0) (Bars : ℕ → Ask → ℕ → Ask → Type 0) (opening : ℕ → List ℕ → Option Item) where
  -- what is over isn't under way
  pub over : (past : List Event) (n : ℕ) (ask : Ask) → Run words Bars opening past → HasEnded past n → under_way past n ≡ Some ask → ⊥
  over [] n ask run h e = no_ask ask e
  over (Begins m client ∷ past) n ask run h e =
      (elim (nat_eq m n) as (λ b. nat_eq m n ≡ b → cond b (Some client) (under_way past n) ≡ Some ask → ⊥) [
        | true ↦ λ is _. (let lt = ended_below m past n run.0.0 h in let same = eqb-true m n is in omega arith)
        | false ↦ λ _ is. over past n ask run.1 h is
      ]) refl e
  over (Calls m s a o end ∷ past) n ask run h e = over past n ask run.1 h e
  over (Replies m key r f ∷ past) n ask run h e =
      (elim (nat_eq m n) as (λ b. nat_eq m n ≡ b → cond b None (under_way past n) ≡ Some ask → ⊥) [
        | true ↦ λ _ is. no_ask ask is
        | false ↦ λ unlike is. ⊎_elim (λ same. differ m n unlike same) (λ rest. over past n ask run.1 rest is) h
      ]) refl e
  over (Breaks m ∷ past) n ask run h e =
      (elim (nat_eq m n) as (λ b. nat_eq m n ≡ b → cond b None (under_way past n) ≡ Some ask → ⊥) [
        | true ↦ λ _ is. no_ask ask is
        | false ↦ λ unlike is. ⊎_elim (λ same. differ m n unlike same) (λ rest. over past n ask run.1 rest is) h
      ]) refl e
  over (Turns s key turned ∷ past) n ask run h e = over past n ask run.1 h e
  over (Restarts s ∷ past) n ask run h e = over past n ask run.1 h e

  -- two commands under way on a key: neither bars the other
  pub apart : (past : List Event) → Run words Bars opening past → (a b : ℕ) (x y : Ask) → under_way past a ≡ Some x → under_way past b ≡ Some y → (a ≡ b → ⊥) → x.key ≡ y.key → Bars a x b y → ⊥
  apart [] run a b x y ea eb unlike same alone = no_ask x ea
  apart (Begins m ask ∷ past) run a b x y ea eb unlike same alone =
      (elim (nat_eq m a) as (λ p. nat_eq m a ≡ p → cond p (Some ask) (under_way past a) ≡ Some x → ⊥) [
        | true ↦ λ is e.
            let here : ask ≡ x = some_ask ask x e in
            let there : under_way past b ≡ Some y = sym (ap (λ q. cond q (Some ask) (under_way past b)) (differs m b (λ mb. unlike (sym (eqb-true m a is) ∙ mb)))) ∙ eb in
            (run.0.1 b y there (sym same ∙ ap (λ (c : Ask). c.key) (sym here))).0 (subst (λ k. Bars k ask b y) (sym (eqb-true m a is)) (subst (λ c. Bars a c b y) (sym here) alone))
        | false ↦ λ _ e.
            (elim (nat_eq m b) as (λ p. nat_eq m b ≡ p → cond p (Some ask) (under_way past b) ≡ Some y → ⊥) [
              | true ↦ λ mb f. (run.0.1 a x e (same ∙ ap (λ (c : Ask). c.key) (sym (some_ask ask y f)))).1 (subst (λ k. Bars a x k ask) (sym (eqb-true m b mb)) (subst (λ c. Bars a x b c) (sym (some_ask ask y f)) alone))
              | false ↦ λ _ f. apart past run.1 a b x y e f unlike same alone
            ]) refl eb
      ]) refl ea
  apart (Calls m s c o end ∷ past) run a b x y ea eb unlike same alone = apart past run.1 a b x y ea eb unlike same alone
  apart (Replies m key r f ∷ past) run a b x y ea eb unlike same alone =
      (elim (nat_eq m a) as (λ p. cond p None (under_way past a) ≡ Some x → ⊥) [
        | true ↦ λ e. no_ask x e
        | false ↦ λ e. (elim (nat_eq m b) as (λ p. cond p None (under_way past b) ≡ Some y → ⊥) [ true ↦ λ g. no_ask y g | false ↦ λ g. apart past run.1 a b x y e g unlike same alone ]) eb
      ]) ea
  apart (Breaks m ∷ past) run a b x y ea eb unlike same alone =
      (elim (nat_eq m a) as (λ p. cond p None (under_way past a) ≡ Some x → ⊥) [
        | true ↦ λ e. no_ask x e
        | false ↦ λ e. (elim (nat_eq m b) as (λ p. cond p None (under_way past b) ≡ Some y → ⊥) [ true ↦ λ g. no_ask y g | false ↦ λ g. apart past run.1 a b x y e g unlike same alone ]) eb
      ]) ea
  apart (Turns s key turned ∷ past) run a b x y ea eb unlike same alone = apart past run.1 a b x y ea eb unlike same alone
  apart (Restarts s ∷ past) run a b x y ea eb unlike same alone = apart past run.1 a b x y ea eb unlike same alone

  -- a command that bars a delete, and is under way after that was acknowledged, began after that
  pub began_after : (past : List Event) → Run words Bars opening past → (n m : ℕ) (delete client : Ask) → IsAcknowledged past n delete → under_way past m ≡ Some client → client.key ≡ delete.key → Bars m client n delete → IsAcknowledged (before past m) n delete
  began_after [] run n m delete client ack e same alone = absurd ack
  began_after (Begins x ask ∷ past) run n m delete client (inl h) e same alone = absurd h
  began_after (Begins x ask ∷ past) run n m delete client (inr h) e same alone =
      (elim (nat_eq x m) as (λ p. cond p (Some ask) (under_way past m) ≡ Some client → IsAcknowledged (cond p past (before past m)) n delete) [
        | true ↦ λ _. h
        | false ↦ λ is. began_after past run.1 n m delete client h is same alone
      ]) e
  began_after (Calls x s a o end ∷ past) run n m delete client (inl h) e same alone = absurd h
  began_after (Calls x s a o end ∷ past) run n m delete client (inr h) e same alone = began_after past run.1 n m delete client h e same alone
  began_after (Replies x key r f ∷ past) run n m delete client (inl h) e same alone =
      (elim (nat_eq x m) as (λ p. nat_eq x m ≡ p → cond p None (under_way past m) ≡ Some client → IsAcknowledged (before past m) n delete) [
        | true ↦ λ _ is. no_ask client is
        | false ↦ λ unlike is. absurd (apart past run.1 m x client delete is h.1 (λ mx. differ x m unlike (sym mx)) same (subst (λ k. Bars m client k delete) (sym h.0) alone))
      ]) refl e
  began_after (Replies x key r f ∷ past) run n m delete client (inr h) e same alone =
      (elim (nat_eq x m) as (λ p. cond p None (under_way past m) ≡ Some client → IsAcknowledged (before past m) n delete) [
        | true ↦ λ is. no_ask client is
        | false ↦ λ is. began_after past run.1 n m delete client h is same alone
      ]) e
  began_after (Breaks x ∷ past) run n m delete client (inl h) e same alone = absurd h
  began_after (Breaks x ∷ past) run n m delete client (inr h) e same alone =
      (elim (nat_eq x m) as (λ p. cond p None (under_way past m) ≡ Some client → IsAcknowledged (before past m) n delete) [
        | true ↦ λ is. no_ask client is
        | false ↦ λ is. began_after past run.1 n m delete client h is same alone
      ]) e
  began_after (Turns s key turned ∷ past) run n m delete client (inl h) e same alone = absurd h
  began_after (Turns s key turned ∷ past) run n m delete client (inr h) e same alone = began_after past run.1 n m delete client h e same alone
  began_after (Restarts s ∷ past) run n m delete client (inl h) e same alone = absurd h
  began_after (Restarts s ∷ past) run n m delete client (inr h) e same alone = began_after past run.1 n m delete client h e same alone

  -- the number of a command that began after a delete was acknowledged is greater
  pub above : (past : List Event) → Run words Bars opening past → (n m : ℕ) (delete : Ask) → IsAcknowledged (before past m) n delete → n < m
  above [] run n m delete ack = absurd ack
  above (Begins x ask ∷ past) run n m delete ack =
      (elim (nat_eq x m) as (λ p. nat_eq x m ≡ p → IsAcknowledged (cond p past (before past m)) n delete → n < m) [
        | true ↦ λ is h. subst (λ k. n < k) (eqb-true x m is) (acked_below x past n delete run.0.0 h)
        | false ↦ λ _ h. above past run.1 n m delete h
      ]) refl ack
  above (Calls x s a o end ∷ past) run n m delete ack = above past run.1 n m delete ack
  above (Replies x key r f ∷ past) run n m delete ack = above past run.1 n m delete ack
  above (Breaks x ∷ past) run n m delete ack = above past run.1 n m delete ack
  above (Turns s key turned ∷ past) run n m delete ack = above past run.1 n m delete ack
  above (Restarts s ∷ past) run n m delete ack = above past run.1 n m delete ack
