-- The loops that read pools.
use Rattle.std.proofs.Common.{◌≡◌, ◌<◌, ℕ, ◌+◌, List, [], ◌∷◌, ◌++◌, length, drop, get_or, drop-cons, add-one, append_assoc, sym, ap, ap₂, ◌∙◌}
use Rattle.std.specs.List.{flat_map}
use Rattle.route_json.specs.Reading.{members, values}
use Rattle.serde_json.specs.Data.{Data}
use Rattle.serde_json.specs.View.{view, items_view, members_view}
use Rattle.serde_json.specs.declared.value.Value.{Value}
use Rattle.serde_json.proofs.Views.{Entry}
use Rattle.route_json.specs.NumberedServers.{Addresses}
use Rattle.gate_gaps.specs.Pools.{NamedPool, NamedPools, pool_by_name, named_pools_of}

-- the members of a map's entries
abbrev pub entries : List Entry → List (List ℕ × Data)
entries es = members (members_view es)

-- the list that is left in a loop over a slice
drop_step : {A : Type 0} (xs : List A) (i : ℕ) (d : A) → i < length xs → d ≡ get_or xs i d → drop i xs ≡ d ∷ drop (i + 1) xs
drop_step xs i d h e = drop-cons xs i d h ∙ ap₂ (λ x k. x ∷ drop k xs) (sym e) (sym (add-one i))

pub items_go : {A : Type 0} (f : Data → List A) (vs : List Value) (i : ℕ) (d : Value) (done more : List A) → i < length vs → d ≡ get_or vs i d → done ++ flat_map f (values (items_view (drop i vs))) ≡ flat_map f (values (items_view vs)) → more ≡ done ++ f (view d) → more ++ flat_map f (values (items_view (drop (i + 1) vs))) ≡ flat_map f (values (items_view vs))
items_go f vs i d done more h e so_far is =
    let rest = flat_map f (values (items_view (drop (i + 1) vs))) in
    let step = ap (λ (ws : List Value). flat_map f (values (items_view ws))) (drop_step vs i d h e) in
    ap (λ ms. ms ++ rest) is
    ∙ append_assoc done (f (view d)) rest
    ∙ sym (ap (λ ms. done ++ ms) step)
    ∙ so_far

pub pools_go : (servers : Addresses) (xs left : List (List ℕ × Data)) (x : List ℕ × Data) (p : NamedPool) (done more all : NamedPools) → done ++ named_pools_of servers xs ≡ all → xs ≡ x ∷ left → p ≡ pool_by_name servers x → more ≡ done ++ p ∷ [] → more ++ named_pools_of servers left ≡ all
pools_go servers xs left x p done more all so_far at e is =
    ap (λ (ps : NamedPools). ps ++ named_pools_of servers left) is
    ∙ append_assoc done (p ∷ []) (named_pools_of servers left)
    ∙ ap (λ (q : NamedPool). done ++ q ∷ named_pools_of servers left) e
    ∙ sym (ap (λ (ys : List (List ℕ × Data)). done ++ named_pools_of servers ys) at)
    ∙ so_far
