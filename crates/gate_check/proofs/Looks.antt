-- Looks at one place.
use Rattle.std.proofs.Common.{◌≡◌, ◌↔◌, IsTrue, ℕ, ◌<◌, ◌≤◌, Bool, true, false, List, [], ◌∷◌, ◌++◌, nat_lt, cond, Option, Some, None, MatchOption, ◌⊎◌, inl, inr, ⊎_elim, refl, sym, subst, arith}
use Rattle.mc_types.specs.declared.ask.Op.{Op}
use Rattle.mc_types.specs.declared.ask.Op.TheVariants.{Get, Gat, Set, Add, Replace, Append, Prepend, Cas, Delete, Incr, Decr, Touch}
use Rattle.route_tree.specs.Each.{IsIn}
use Rattle.route_tree.specs.Plan.{Plan}
use Rattle.route_tree.proofs.Parts.{each_weaker}
use Rattle.route_tree.proofs.Places.{each_append}
use Rattle.gate_check.proofs.PlacesValidity.{each_in}
use Rattle.std.proofs.lemmas.Bool.{leb-true, cases_lt}
use Rattle.gate_check.specs.declared.finding.Found.{Found}
use Rattle.gate_coverage.specs.declared.deleting.Deleting.{Deleting}
use Rattle.gate_coverage.specs.declared.deleting.Deleting.TheVariants as kinds
use Rattle.gate_coverage.specs.Cover.{IsTaking, Takes, Clears}
use Rattle.gate_check.specs.Gate.{op_order, kind_order, IsFirstAt}
use Rattle.gate_check.specs.Rows.{HoldsTaken}
use Rattle.gate_check.specs.Looking.{IsFirstUncleared, IsFirstAtServer, CoversServer, IsFirstAmong, IfFound, IfGap, lesser}

pub is_not : (b : Bool) (P : Type 0) → (IsTrue b ↔ P) → b ≡ false → P → ⊥
is_not true P h e p = cc
is_not false P h e p = let t = h.1 p in cc

-- the first delete is always the first that doesn't clear
pub delete_first : (plain : Plan) (server : ℕ) → (Clears plain kinds.Delete server → ⊥) → IsFirstUncleared plain server kinds.Delete
delete_first plain server h = record { uncleared = h; first = λ e k. omega arith }

pub md_first : (plain : Plan) (server : ℕ) → Clears plain kinds.Delete server → (Clears plain kinds.Md server → ⊥) → IsFirstUncleared plain server kinds.Md
md_first plain server d h = record { uncleared = h; first = of_kind }
  where
    of_kind : (e : Deleting) → (Clears plain e server → ⊥) → kind_order kinds.Md ≤ kind_order e
    of_kind kinds.Delete k = absurd (k d)
    of_kind kinds.Md k = omega arith

pub both_clear : (plain : Plan) (server : ℕ) → Clears plain kinds.Delete server → Clears plain kinds.Md server → (kind : Deleting) → Clears plain kind server
both_clear plain server d m kinds.Delete = d
both_clear plain server d m kinds.Md = m

-- none of the four takes it
pub none_taken : (plain : Plan) (server : ℕ) → (Takes plain Get server → ⊥) → (Takes plain Gat server → ⊥) → (Takes plain Incr server → ⊥) → (Takes plain Decr server → ⊥) → (op : Op) → IsTaking op → Takes plain op server → ⊥
none_taken plain server a b c d Get is t = a t
none_taken plain server a b c d Gat is t = b t
none_taken plain server a b c d Incr is t = c t
none_taken plain server a b c d Decr is t = d t
none_taken plain server a b c d Set is t = is
none_taken plain server a b c d Add is t = is
none_taken plain server a b c d Replace is t = is
none_taken plain server a b c d Append is t = is
none_taken plain server a b c d Prepend is t = is
none_taken plain server a b c d Cas is t = is
none_taken plain server a b c d Delete is t = is
none_taken plain server a b c d Touch is t = is

-- ---- one server more

in_front : (xs ys : List ℕ) (x : ℕ) → IsIn x xs → IsIn x (xs ++ ys)
in_front [] ys x h = absurd h
in_front (z ∷ zs) ys x (inl e) = inl e
in_front (z ∷ zs) ys x (inr h) = inr (in_front zs ys x h)

in_last : (xs : List ℕ) (x y : ℕ) → x ≡ y → IsIn x (xs ++ y ∷ [])
in_last [] x y e = inl e
in_last (z ∷ zs) x y e = inr (in_last zs x y e)

module _ (earlier later : Plan) where
  abbrev At : ℕ → Option Found → Type 0
  At server here = MatchOption here (CoversServer earlier later server) (λ f. (f.server ≡ server) × IsFirstAtServer earlier later server f.op f.deleting)

  pub more_found : (xs : List ℕ) (server : ℕ) (best here : Option Found) → IfFound earlier later xs best → At server here → IfFound earlier later (xs ++ server ∷ []) (lesser best here)
  more_found xs server None None h at = each_append (CoversServer earlier later) xs (server ∷ []) h (at, tt)
  more_found xs server (Some b) None h at = record {
    is_in = in_front xs (server ∷ []) b.server h.is_in;
    first = h.first;
    least = each_append (λ s. s < b.server → CoversServer earlier later s) xs (server ∷ []) h.least ((λ _. at), tt);
  }
  more_found xs server None (Some f) h at = record {
    is_in = in_last xs f.server server at.0;
    first = subst (λ s. IsFirstAtServer earlier later s f.op f.deleting) (sym at.0) at.1;
    least = each_append (λ s. s < f.server → CoversServer earlier later s) xs (server ∷ []) (each_weaker (CoversServer earlier later) (λ s. s < f.server → CoversServer earlier later s) xs (λ s c _. c) h) ((λ lt. absurd (let e = at.0 in omega arith)), tt);
  }
  more_found xs server (Some b) (Some f) h at =
      (elim (nat_lt f.server b.server) as (λ t. nat_lt f.server b.server ≡ t → IfFound earlier later (xs ++ server ∷ []) (cond t (Some f) (Some b))) [
        | true ↦ λ e. (let lt = leb-true _ _ e in record {
          is_in = in_last xs f.server server at.0;
          first = subst (λ s. IsFirstAtServer earlier later s f.op f.deleting) (sym at.0) at.1;
          least = each_append (λ s. s < f.server → CoversServer earlier later s) xs (server ∷ []) (each_weaker (λ s. s < b.server → CoversServer earlier later s) (λ s. s < f.server → CoversServer earlier later s) xs (λ s c k. c (omega arith)) h.least) ((λ k. absurd (let e' = at.0 in omega arith)), tt);
        })
        | false ↦ λ e. record {
          is_in = in_front xs (server ∷ []) b.server h.is_in;
          first = h.first;
          least = each_append (λ s. s < b.server → CoversServer earlier later s) xs (server ∷ []) h.least ((λ k. absurd (let e' = at.0 in not_less f.server b.server e (omega arith))), tt);
        }
      ]) refl
    where
      not_less : (n m : ℕ) → nat_lt n m ≡ false → n < m → ⊥
      not_less n m e lt = grind arith

  -- ---- all servers

  first_at : (among : List ℕ) → HoldsTaken later among → (f : Found) → IsFirstAmong earlier later among f → IsFirstAt earlier later f.server f.op f.deleting
  first_at among all f h = record {
    gap = record { taking = h.first.taken.taking; taken = h.first.taken.taken; uncleared = h.first.uncleared.uncleared };
    first = λ t p e g.
        ⊎_elim
        (λ (lt : t < f.server). absurd (g.uncleared (each_in (λ s. s < f.server → CoversServer earlier later s) among t h.least (all p g.taking t g.taken) lt p g.taking g.taken e)))
        (λ (le : f.server ≤ t). ⊎_elim
        (λ (lt : f.server < t). inl lt)
        (λ (ge : t ≤ f.server).
        let same : f.server ≡ t = omega arith in
        inr (same, after p e (h.first.taken.first p g.taking (subst (Takes later p) (sym same) g.taken)) (h.first.uncleared.first e (subst (λ s. Clears earlier e s → ⊥) (sym same) g.uncleared))))
        (cases_lt f.server t))
        (cases_lt t f.server);
  }
    where
      after : (p : Op) (e : Deleting) → op_order f.op ≤ op_order p → kind_order f.deleting ≤ kind_order e → (op_order f.op < op_order p) ⊎ ((op_order f.op ≡ op_order p) × (kind_order f.deleting ≤ kind_order e))
      after p e a b = ⊎_elim (λ (lt : op_order f.op < op_order p). inl lt) (λ (ge : op_order p ≤ op_order f.op). inr (omega arith, b)) (cases_lt (op_order f.op) (op_order p))

  pub found_is_first : (among : List ℕ) → HoldsTaken later among → (found : Option Found) → IfFound earlier later among found → IfGap earlier later found
  found_is_first among all None h = λ op taking s t kind. each_in (CoversServer earlier later) among s h (all op taking s t) op taking t kind
  found_is_first among all (Some f) h = first_at among all f h
