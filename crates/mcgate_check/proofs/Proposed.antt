-- What is proposed for a tree that is covered is valid.
use Rattle.std.proofs.Common.{◌≡◌, ℕ, ◌<◌, List, [], ◌∷◌, ◌++◌, map, Some, None, Result, Ok, Err, sym, ap, ◌∙◌, subst}
use Rattle.std.proofs.lemmas.List.{append-nil}
use Rattle.std.specs.Prelude.{IfOk}
use Rattle.route_tree.specs.Each.{Each, IsIn}
use Rattle.route_tree.specs.Place.{sizes, prefixes, IsLeastCommonMultiple, tree_at_place}
use Rattle.route_tree.specs.Route.{Route, IsTree}
use Rattle.gate_coverage.specs.Cover.{Covers}
use Rattle.gate_check.specs.declared.places.table.Class.{Class}
use Rattle.gate_check.specs.declared.places.table.ClassRows.{ClassRows}
use Rattle.gate_check.specs.declared.places.table.PlaceTable.{PlaceTable}
use Rattle.gate_check.specs.declared.places.table.Certificate.{Certificate}
use Rattle.gate_check.specs.Gate.{HasCertificate, IsCertified}
use Rattle.gate_check.specs.Places.{CoversAt, IsClassOf, place_at}
use Rattle.gate_check.specs.Proposed.{AreValidWhereCovered, IsProposedBy}
use Rattle.gate_check.specs.Tables.{IsTable}
use Rattle.gate_check.specs.Valid.{AreValidRows, EachClass, IsTableOf}
use Rattle.gate_check.proofs.Accepting.{certified_is_fresh}
use Rattle.gate_check.proofs.PlacesAnswering.{each_valid, shaped_of}
use Rattle.gate_check.proofs.Tabling.{one_multiple, table_twice}

each_mapped : {A B : Type 0} (P : B → Type 0) (f : A → B) (xs : List A) → Each P (map f xs) → Each (λ x. P (f x)) xs
each_mapped P f [] h = tt
each_mapped P f (x ∷ xs) h = (h.0, each_mapped P f xs h.1)

some_each : (ps texts : List (List ℕ)) → Each (λ p. IsIn p ps) texts → Each (IsClassOf ps) (map Some texts)
some_each ps [] h = tt
some_each ps (t ∷ ts) h = (h.0, some_each ps ts h.1)

module _ (tree : Route) (covers : CoversAt tree tree) (table : PlaceTable) (is : IsTableOf (tree ∷ []) table) where
  abbrev all : List (List ℕ)
  all = prefixes tree ++ prefixes tree

  twice : IsTableOf (tree ∷ tree ∷ []) table
  twice = table_twice tree table is

  -- the table's modulus is that of the places
  modulus : covers.modulus ≡ table.modulus
  modulus =
      one_multiple (sizes tree ++ sizes tree) covers.modulus table.modulus covers.least
      (subst (λ l. IsLeastCommonMultiple (sizes tree ++ l) table.modulus) (append-nil (sizes tree)) twice.modulus)

  -- each class is one of the tree's
  classes : Each (λ (c : Class). IsClassOf all c.prefix) table.classes.items
  classes =
      let known : Each (λ p. IsIn p all) twice.texts = subst (λ l. Each (λ p. IsIn p (prefixes tree ++ l)) twice.texts) (append-nil (prefixes tree)) twice.known in
      let both : Each (IsClassOf all) (None ∷ map Some twice.texts) = (tt, some_each all twice.texts known) in
      each_mapped (IsClassOf all) (λ (c : Class). c.prefix) table.classes.items (subst (Each (IsClassOf all)) (sym twice.classes) both)

  covered : (c : Class) → IsClassOf all c.prefix → (residue : ℕ) → residue < table.modulus → Covers (tree_at_place tree (place_at c.prefix residue table.modulus)) (tree_at_place tree (place_at c.prefix residue table.modulus))
  covered c of residue lt =
      subst (λ m. Covers (tree_at_place tree (place_at c.prefix residue m)) (tree_at_place tree (place_at c.prefix residue m))) modulus
      (covers.covers c.prefix residue of (subst (λ m. residue < m) (sym modulus) lt))

  rows : (cs : List Class) (rs : List ClassRows) → Each (λ (c : Class). IsClassOf all c.prefix) cs → EachClass (AreValidWhereCovered tree table.modulus) cs rs → EachClass (AreValidRows tree table.modulus) cs rs
  rows [] [] of h = tt
  rows [] (r ∷ rs) of h = h
  rows (c ∷ cs) [] of h = h
  rows (c ∷ cs) (r ∷ rs) of h = (λ residue lt. h.0 residue lt (covered c of.0 residue lt), rows cs rs of.1 h.1)

pub proposal_is_valid : (tree : Route) (table : PlaceTable) (certificate : Certificate) → IsTree tree → IsCertified tree → IsTable (tree ∷ []) table → IsProposedBy tree table certificate → HasCertificate tree certificate
proposal_is_valid tree table certificate is certified t proposed =
    let covers : CoversAt tree tree = (certified_is_fresh tree is certified).0 in
    let m = table.modulus in
    let cs = table.classes.items in
    let rs = certificate.classes.items in
    record {
      table = table;
      is_table = t;
      valid = record {
        shaped = shaped_of tree m cs rs proposed;
        rows = rows tree covers table t.is_table cs rs (classes tree covers table t.is_table) (each_valid tree m cs rs t.is_table.moduli proposed);
      };
    }

pub proposed_are_valid : {E : Type 0} (tree : Route) (table : PlaceTable) (r : Result Certificate E) → IsTree tree → IsCertified tree → IsTable (tree ∷ []) table → IfOk r (IsProposedBy tree table) → IfOk r (HasCertificate tree)
proposed_are_valid tree table (Ok certificate) is certified t proposed = proposal_is_valid tree table certificate is certified t proposed
proposed_are_valid tree table (Err e) is certified t proposed = tt
