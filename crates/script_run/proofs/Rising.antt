-- Outputs of one event are in rising order of clients; and those of events, one event after another.
use Rattle.std.proofs.Common.{◌≡◌, ℕ, ◌+◌, ◌<◌, true, false, Bool, nat_eq, List, [], ◌∷◌, ◌++◌, length, length-append, inl, inr, refl, sym, ap, ◌∙◌, arith, append_assoc, append-nil}
use Rattle.std.specs.List.{All}
use Rattle.std.proofs.lemmas.Bool.{eq-eqb}
use Rattle.std.proofs.lemmas.List.Elements.{All-weaker, All-push, All-nil}
use Rattle.std.proofs.lemmas.List.Quantifiers.{all_pairs_push}
use Rattle.fresh_runs.specs.Log.{Shown}
use Rattle.script_run.specs.Driving.{AreRising, AreOutputs, handed}
use Rattle.script_run.specs.Stepping.{AddsOne, AddsRising}

-- ---- one output after another

abbrev pub none_rising : AreRising []
none_rising = record { clients = λ i j d lt within. absurd (omega (arith, within)); some = All-nil (λ (shown : Shown). shown.bytes ≡ [] → ⊥) }

-- outputs were added in rising order, all for clients below this one
pub record AddsBelow (limit : ℕ) (before after : List Shown) : Type 0 where
  pub adds : AddsRising before after
  pub below : All (λ (shown : Shown). shown.client < limit) adds.outputs

pub adds_none : (limit : ℕ) (shown : List Shown) → AddsBelow limit shown shown
adds_none limit shown = record { adds = record { outputs = []; after_is = sym (append-nil shown); rising = none_rising }; below = All-nil (λ (one : Shown). one.client < limit) }

-- an output of the next client
pub adds_one : (client : ℕ) (before mid after : List Shown) → AddsBelow client before mid → AddsOne client mid after → AddsBelow (client + 1) before after
adds_one client before mid after h (inl same) =
    record {
      adds = record { outputs = h.adds.outputs; after_is = same ∙ h.adds.after_is; rising = h.adds.rising };
      below = All-weaker (λ (one : Shown). one.client < client) (λ (one : Shown). one.client < client + 1) (λ one lt. omega (arith, lt)) h.adds.outputs h.below;
    }
adds_one client before mid after h (inr more) =
    let x : Shown = record { client = client; bytes = more.0 } in
    let outputs = h.adds.outputs in
    record {
      adds = record {
        outputs = outputs ++ x ∷ [];
        after_is = more.2 ∙ ap (λ (l : List Shown). l ++ x ∷ []) h.adds.after_is ∙ append_assoc before outputs (x ∷ []);
        rising = record {
          clients = all_pairs_push (λ (one other : Shown). one.client < other.client) outputs x h.adds.rising.clients (λ k d lt. h.below k d lt);
          some = All-push (λ (shown : Shown). shown.bytes ≡ [] → ⊥) outputs x h.adds.rising.some more.1;
        };
      };
      below =
          All-push (λ (one : Shown). one.client < client + 1) outputs x (All-weaker (λ (one : Shown). one.client < client) (λ (one : Shown). one.client < client + 1) (λ one lt. omega (arith, lt)) outputs h.below) (omega arith);
    }

-- bytes that are there aren't none
pub some_new : (xs bytes : List ℕ) (b : Bool) → xs ≡ bytes → b ≡ nat_eq (length xs) 0 → b ≡ false → bytes ≡ [] → ⊥
some_new xs bytes b same is some none = let on : b ≡ true = is ∙ eq-eqb (length xs) 0 (ap length (same ∙ none)) in cc

-- ---- one event after another

pub handed_more : (outputs : List (List Shown)) (now : List Shown) → handed (outputs ++ now ∷ []) ≡ handed outputs ++ now
handed_more [] now = append-nil now
handed_more (first ∷ outputs) now = ap (λ (l : List Shown). first ++ l) (handed_more outputs now) ∙ sym (append_assoc first (handed outputs) now)

-- all that was handed out are the outputs of events
pub all_handed : (given : List Shown) (count : ℕ) (outputs : List (List Shown)) → AreOutputs given count outputs [] → given ≡ handed outputs
all_handed given count outputs o = o.given_are ∙ append-nil (handed outputs)

-- the outputs of one event more
pub outputs_next : (given after : List Shown) (count : ℕ) (outputs : List (List Shown)) → (a : AddsRising given after) → AreOutputs given count outputs [] → AreOutputs after (count + 1) (outputs ++ a.outputs ∷ []) []
outputs_next given after count outputs a o =
    record {
      given_are =
          a.after_is ∙ ap (λ (l : List Shown). l ++ a.outputs) (all_handed given count outputs o) ∙ sym (handed_more outputs a.outputs) ∙ sym (append-nil (handed (outputs ++ a.outputs ∷ [])));
      each = length-append outputs (a.outputs ∷ []) ∙ ap (λ (n : ℕ). n + 1) o.each;
      rising = All-push AreRising outputs a.outputs o.rising a.rising;
      last_rising = none_rising;
    }

-- outputs after those of all events
pub outputs_last : (given after : List Shown) (count : ℕ) (outputs : List (List Shown)) → (a : AddsRising given after) → AreOutputs given count outputs [] → AreOutputs after count outputs a.outputs
outputs_last given after count outputs a o =
    record { given_are = a.after_is ∙ ap (λ (l : List Shown). l ++ a.outputs) (all_handed given count outputs o); each = o.each; rising = o.rising; last_rising = a.rising }

-- none were handed out
pub outputs_none : (given : List Shown) → given ≡ [] → AreOutputs given 0 [] []
outputs_none given none = record { given_are = none; each = refl; rising = All-nil AreRising; last_rising = none_rising }
