-- What is written is read back, and in one way.
use Rattle.std.proofs.Common.{◌≡◌, ◌≢◌, ℕ, suc, ◌+◌, List, [], ◌∷◌, ◌++◌, length, codes, Result, Ok, Option, refl, sym, ap, ap₂, subst, ◌∙◌, append_assoc, arith}
use Rattle.std.specs.Fmt.{decimal}
use Rattle.std.proofs.lemmas.List.{append_cancel_left, append_cancel_right}
use Rattle.serde_json.specs.Read.{read}
use Rattle.serde_json.specs.Data.{Data}
use Rattle.route_tree.specs.Route.{Route}
use Rattle.route_json.specs.Servers.{Addresses}
use Rattle.route_json.specs.Configuration.{Configuration}
use Rattle.route_json.specs.Configs.{read_after}
use Rattle.route_json.specs.Fault.{Fault}
use Rattle.gate_growth.specs.declared.ledger.page.Beginning.{Beginning}
use Rattle.gate_growth.specs.declared.ledger.page.Beginning.TheVariants.{Any, Own}
use Rattle.gate_history.specs.declared.generation.Generation.{Generation}
use Rattle.gate_history.specs.Spelled.{word_of, body_of, generation_line}
use Rattle.gate_history.specs.Histories.{Says, SayAll, servers_after}
use Rattle.gate_history.specs.Written.{WrittenIsRead, HistoriesAreDetermined}
use Rattle.gate_history.proofs.Cuts.{cut_once}
use Rattle.gate_history.proofs.Summed.{same_body}
use Rattle.gate_history.proofs.Pushing.{push_line}

pub written_is_read : WrittenIsRead
written_is_read gs g history text bytes is line says =
    let said = line.0 in
    let spelled = generation_line (length gs + 1) g.began said in
    let e : length gs + 1 ≡ 1 + length gs = omega arith in
    let reads : read_after (servers_after [] gs) (read said) ≡ Ok (g.config.tree, g.config.servers) = ap (λ (d : Option Data). read_after (servers_after [] gs) d) line.3 ∙ says in
    let next : Says (1 + length gs) (servers_after [] gs) g spelled = subst (λ n. Says n (servers_after [] gs) g spelled) e (said, refl, reads) in
    subst (λ (b : List ℕ). SayAll 1 [] (gs ++ g ∷ []) (history ++ b)) (sym line.1) (push_line 1 [] gs g history spelled is line.2 next)

-- the words that stand before the beginning
abbrev before : ℕ → List ℕ
before n = codes "\"generation\":" ++ decimal n ++ codes ",\"new_servers\":\""

tails : (n : ℕ) (b : Beginning) (said : List ℕ) → body_of n b said ≡ before n ++ (word_of b ++ (codes "\",\"config\":" ++ (said ++ codes "}")))
tails n b said = append_assoc (before n ++ word_of b) (codes "\",\"config\":") (said ++ codes "}") ∙ append_assoc (before n) (word_of b) (codes "\",\"config\":" ++ (said ++ codes "}"))

-- the first byte, or 0
abbrev first : List ℕ → ℕ
first [] = 0
first (x ∷ xs) = x

same_said : (n : ℕ) (b c : Beginning) (x y : List ℕ) → body_of n b x ≡ body_of n c y → (b ≡ c) × (x ≡ y)
same_said n b c x y e = by b c (append_cancel_left (before n) _ _ (sym (tails n b x) ∙ e ∙ tails n c y))
  where
    by : (b c : Beginning) → word_of b ++ (codes "\",\"config\":" ++ (x ++ codes "}")) ≡ word_of c ++ (codes "\",\"config\":" ++ (y ++ codes "}")) → (b ≡ c) × (x ≡ y)
    by Any Any h = (refl, append_cancel_right x y (codes "}") (append_cancel_left (codes "any\",\"config\":") (x ++ codes "}") (y ++ codes "}") h))
    by Own Own h = (refl, append_cancel_right x y (codes "}") (append_cancel_left (codes "own\",\"config\":") (x ++ codes "}") (y ++ codes "}") h))
    by Any Own h = let e : 97 ≡ 111 = ap first h in absurd (omega (arith, e))
    by Own Any h = let e : 111 ≡ 97 = ap first h in absurd (omega (arith, e))

same_config : (a b : Configuration) → (o : Result (Route × Addresses) Fault) → o ≡ Ok (a.tree, a.servers) → o ≡ Ok (b.tree, b.servers) → a ≡ b
same_config a b o e f =
    let both : Ok (a.tree, a.servers) ≡ Ok (b.tree, b.servers) = sym e ∙ f in
    let pair : (a.tree, a.servers) ≡ (b.tree, b.servers) = cc in
    ap (λ (p : Route × Addresses). record { tree = p.0; servers = p.1 }) pair

same_next : (n : ℕ) (servers : Addresses) (g h : Generation) (line : List ℕ) → Says n servers g line → Says n servers h line → g ≡ h
same_next n servers g h line a b =
    let same = same_said n g.began h.began a.0 b.0 (same_body (body_of n g.began a.0) (body_of n h.began b.0) (sym a.1 ∙ b.1)) in
    let config : g.config ≡ h.config = same_config g.config h.config (read_after servers (read a.0)) a.2 (ap (λ (s : List ℕ). read_after servers (read s)) same.1 ∙ b.2) in
    ap₂ (λ (c : Configuration) (b : Beginning). record { config = c; began = b }) config same.0

filled : (c : ℕ) (front rest : List ℕ) → [] ≢ front ++ c ∷ rest
filled c [] rest e = absurd cc
filled c (x ∷ front) rest e = absurd cc

same_all : (n : ℕ) (servers : Addresses) (gs hs : List Generation) (text : List ℕ) → SayAll n servers gs text → SayAll n servers hs text → gs ≡ hs
same_all n servers [] [] text a b = refl
same_all n servers [] (h ∷ hs) text a b = absurd (filled 10 b.0 b.1 (sym a ∙ b.2.0))
same_all n servers (g ∷ gs) [] text a b = absurd (filled 10 a.0 a.1 (sym b ∙ a.2.0))
same_all n servers (g ∷ gs) (h ∷ hs) text a b =
    let cut = cut_once 10 a.0 b.0 a.1 b.1 a.2.1 b.2.1 (sym a.2.0 ∙ b.2.0) in
    let one : g ≡ h = same_next n servers g h b.0 (subst (Says n servers g) cut.0 a.3) b.3 in
    let more : SayAll (suc n) h.config.servers gs b.1 = subst (λ (x : Generation). SayAll (suc n) x.config.servers gs b.1) one (subst (SayAll (suc n) g.config.servers gs) cut.1 a.4) in
    ap₂ (λ (x : Generation) (xs : List Generation). x ∷ xs) one (same_all (suc n) h.config.servers gs hs b.1 more b.4)

pub histories_are_determined : HistoriesAreDetermined
histories_are_determined gs hs text a b = same_all 1 [] gs hs text a b
