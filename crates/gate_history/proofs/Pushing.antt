-- One generation more at the end of a history.
use Rattle.std.proofs.Common.{◌≡◌, ℕ, suc, ◌+◌, List, [], ◌∷◌, ◌++◌, length, refl, sym, ap, subst, ◌∙◌, append_assoc, append-nil, arith}
use Rattle.route_json.specs.Servers.{Addresses}
use Rattle.gate_history.specs.declared.generation.Generation.{Generation}
use Rattle.gate_history.specs.Lines.{Lacks, IsCutAt}
use Rattle.gate_history.specs.Histories.{Says, SayAll, IsHistoryOf, servers_after}

pub push_line : (n : ℕ) (servers : Addresses) (gs : List Generation) (g : Generation) (front line : List ℕ) → SayAll n servers gs front → Lacks 10 line → Says (n + length gs) (servers_after servers gs) g line
    → SayAll n servers (gs ++ g ∷ []) (front ++ (line ++ 10 ∷ []))
push_line n servers [] g front line is lacks says =
    let e : n + 0 ≡ n = omega arith in
    (line, [], (ap (λ (f : List ℕ). f ++ (line ++ 10 ∷ [])) is, lacks), subst (λ (k : ℕ). Says k servers g line) e says, refl)
push_line n servers (h ∷ gs) g front line is lacks says =
    let l = is.0 in
    let r = is.1 in
    let cut = is.2 in
    let e : n + suc (length gs) ≡ suc n + length gs = omega arith in
    let later = push_line (suc n) h.config.servers gs g r line is.4 lacks (subst (λ (k : ℕ). Says k (servers_after h.config.servers gs) g line) e says) in
    let whole : front ++ (line ++ 10 ∷ []) ≡ l ++ 10 ∷ (r ++ (line ++ 10 ∷ [])) = ap (λ (f : List ℕ). f ++ (line ++ 10 ∷ [])) cut.0 ∙ append_assoc l (10 ∷ r) (line ++ 10 ∷ []) in
    (l, r ++ (line ++ 10 ∷ []), (whole, cut.1), is.3, later)

-- the text is a history of these generations, and then the rest
pub record IsReadTo (text : List ℕ) (gs : List Generation) (rest : List ℕ) : Type 0 where
  pub front : List ℕ
  pub whole : text ≡ front ++ rest
  pub so_far : IsHistoryOf gs front

pub read_none : (text : List ℕ) (gs : List Generation) → gs ≡ [] → IsReadTo text gs text
read_none text gs none = record { front = []; whole = refl; so_far = subst (λ (l : List Generation). IsHistoryOf l []) (sym none) refl }

pub read_more : (text : List ℕ) (gs new : List Generation) (rest line left : List ℕ) (number : ℕ) → IsReadTo text gs rest → IsCutAt 10 rest line left → number ≡ length gs + 1
    → ((g : Generation) × Says number (servers_after [] gs) g line × (new ≡ gs ++ g ∷ [])) → IsReadTo text new left
read_more text gs new rest line left number is cut numbered (g, says, new-is) =
    let e : number ≡ 1 + length gs = omega (arith, numbered) in
    let more : IsHistoryOf (gs ++ g ∷ []) (is.front ++ (line ++ 10 ∷ [])) = push_line 1 [] gs g is.front line is.so_far cut.1 (subst (λ (k : ℕ). Says k (servers_after [] gs) g line) e says) in
    let end : line ++ 10 ∷ left ≡ (line ++ 10 ∷ []) ++ left = sym (append_assoc line (10 ∷ []) left) in
    record {
      front = is.front ++ (line ++ 10 ∷ []);
      whole = is.whole ∙ ap (λ (t : List ℕ). is.front ++ t) (cut.0 ∙ end) ∙ sym (append_assoc is.front (line ++ 10 ∷ []) left);
      so_far = subst (λ (l : List Generation). IsHistoryOf l (is.front ++ (line ++ 10 ∷ []))) (sym new-is) more;
    }

pub read_all : (text : List ℕ) (gs : List Generation) (rest : List ℕ) → IsReadTo text gs rest → rest ≡ [] → IsHistoryOf gs text
read_all text gs rest is none =
    let e : text ≡ is.front = is.whole ∙ ap (λ (r : List ℕ). is.front ++ r) none ∙ append-nil is.front in
    subst (IsHistoryOf gs) (sym e) is.so_far
