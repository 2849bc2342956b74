use Rattle.std.proofs.Common.{◌≡◌, ◌++◌, ◌∷◌, ◌+◌, ◌<◌, ◌≤◌, [], ℕ, List, Option, None, Some, map, length, ap, sym, subst, ◌∙◌, arith}
use Rattle.std.proofs.lemmas.List.{length_push}
use Rattle.route_tree.specs.Each.{Each}
use Rattle.route_tree.specs.Route.{Route, IsTree}
use Rattle.route_tree.specs.Servers.{tree_servers}
use Rattle.gate_growth.specs.declared.ledger.class.ClassPages.{ClassPages}
use Rattle.gate_growth.specs.declared.ledger.turning.LeftGap.{LeftGap}
use Rattle.gate_growth.specs.Pages.{AreBegun}
use Rattle.gate_growth.specs.Classes.{class_prefixes, ArePagesOf}
use Rattle.gate_growth.specs.PlaceRows.{AreRowsOf, AreTooManyPlaces}
use Rattle.gate_growth.specs.Finer.{IfFinerRows}
use Rattle.gate_growth.specs.Turning.{AreBefore, AreKnown, AreTurned}
use Rattle.gate_growth.proofs.Naming.{servers_low}
use Rattle.gate_growth.proofs.Booking.{begun_next, are_more, sound_with, first_left}
use Rattle.gate_growth.proofs.ledger.book.Ledger.next.Goals as goal

pub returns-in-None-clause-next : goal.returns-in-None-clause-next
returns-in-None-clause-next c = λ arbitrary trees is opened.
    let self = c.args.self.now in
    let rows = subst (λ (l : List ClassPages). AreRowsOf trees (class_prefixes l) self.modulus) (sym c.deref.ensures.value) is.known.rows in
    subst (λ (t : Route). AreTooManyPlaces (trees ++ t ∷ [])) c.tree-tree.ensures.tree
    (subst (IfFinerRows trees c.tree-tree.result.now) c.in-None.is (c.in_ok-finer_rows.ensures.rows trees rows))

pub turned_classes-requires-clause-below : goal.turned_classes-requires-clause-below
turned_classes-requires-clause-below c =
    let bound = length c.args.config.now.servers in
    let size : c.len.result ≡ bound = c.len.ensures.len ∙ ap length c.servers.ensures.servers in
    let begun : length c.deref-3.result.now ≡ length c.in_ok-begun.begun.items = ap length c.deref-3.ensures.value in
    let whole = c.in_ok-begun.ensures.size in
    subst (λ (t : Route). Each (λ s. s < length c.deref-3.result.now) (tree_servers t)) (sym c.tree-tree.ensures.tree) (servers_low bound (length c.deref-3.result.now) c.args.config.now.tree (omega (arith, size, begun, whole)) c.tree-tree.ensures.below)

pub returns-in-Some-gap-clause-next : goal.returns-in-Some-gap-clause-next
returns-in-Some-gap-clause-next c = λ arbitrary trees is opened.
    let self = c.args.self.now in
    let tree = c.args.config.now.tree in
    let old = c.tree-tree.result.now in
    let same : old ≡ tree = c.tree-tree.ensures.tree in
    let begun = c.in_ok-begun.begun.items in
    let bound = length c.deref-3.result.now in
    let classes = c.in_ok-classes.field-0.classes.items in
    let modulus = c.in-Some.finer.modulus in
    let good : IsTree tree = subst IsTree same c.form-form.ensures.tree in
    let began : AreBegun arbitrary begun =
    begun_next arbitrary self.begun.items c.deref-2.result.now begun (length c.args.config.now.servers) c.len.result c.args.new c.deref-2.ensures.value (c.len.ensures.len ∙ ap length c.servers.ensures.servers) (c.in_ok-begun.ensures.begun arbitrary) is.begun opened in
    let before : AreBefore arbitrary trees self.count c.deref-3.result.now = record { counted = sym is.count; trees_are = is.trees_are; began = subst (AreBegun arbitrary) (sym c.deref-3.ensures.value) began } in
    let size_old : length c.deref-2.result.now ≡ length self.begun.items = ap length c.deref-2.ensures.value in
    let size : bound ≡ length begun = ap length c.deref-3.ensures.value in
    let more = c.in_ok-begun.ensures.size in
    let within : length self.begun.items ≤ bound = omega (arith, size_old, size, more) in
    let known : AreKnown arbitrary trees self.modulus (length self.begun.items) c.deref-4.result.now = subst (AreKnown arbitrary trees self.modulus (length self.begun.items)) (sym c.deref-4.ensures.value) is.known in
    let turned_old : AreTurned arbitrary trees old modulus bound classes c.in_ok-classes.field-0.gap = c.in_ok-classes.ensures.turned arbitrary trees self.modulus (length self.begun.items) before within known in
    let turned : AreTurned arbitrary trees tree modulus bound classes (Some c.in-Some-gap.left) = subst (λ (g : Option LeftGap). AreTurned arbitrary trees tree modulus bound classes g) c.in-Some-gap.is (subst (λ (t : Route). AreTurned arbitrary trees t modulus bound classes c.in_ok-classes.field-0.gap) same turned_old) in
    let old_rows = subst (λ (l : List ClassPages). AreRowsOf trees (class_prefixes l) self.modulus) (sym c.deref.ensures.value) is.known.rows in
    let finer = subst (IfFinerRows trees old) c.in-Some.is (c.in_ok-finer_rows.ensures.rows trees old_rows) in
    let prefixes : class_prefixes classes ≡ None ∷ map Some c.in-Some.finer.texts.items = c.in_ok-classes.ensures.prefixes ∙ ap (λ (l : List (List ℕ)). None ∷ map Some l) c.deref-5.ensures.value in
    let rows : AreRowsOf (trees ++ tree ∷ []) (class_prefixes classes) modulus =
    subst (λ (os : List (Option (List ℕ))). AreRowsOf (trees ++ tree ∷ []) os modulus) (sym prefixes) (subst (λ (t : Route). AreRowsOf (trees ++ t ∷ []) (None ∷ map Some c.in-Some.finer.texts.items) modulus) same finer) in
    let left = c.in-Some-gap.left in
    let next = c.saturating_add.ensures in
    let some = c.if-self.false in
    first_left arbitrary trees tree is.trees_are good (class_prefixes classes) modulus rows left.generation self.count c.saturating_add.result left.gap turned.1 is.count (omega (arith, some)) (λ low. (omega (arith, next, low)))

pub returns-clause-next : goal.returns-clause-next
returns-clause-next c = λ arbitrary trees is opened.
    let self = c.args.self.now in
    let tree = c.args.config.now.tree in
    let old = c.tree-tree.result.now in
    let same : old ≡ tree = c.tree-tree.ensures.tree in
    let begun = c.in_ok-begun.begun.items in
    let bound = length c.deref-3.result.now in
    let classes = c.in_ok-classes.field-0.classes.items in
    let modulus = c.in-Some.finer.modulus in
    let good : IsTree tree = subst IsTree same c.form-form.ensures.tree in
    let began : AreBegun arbitrary begun =
    begun_next arbitrary self.begun.items c.deref-2.result.now begun (length c.args.config.now.servers) c.len.result c.args.new c.deref-2.ensures.value (c.len.ensures.len ∙ ap length c.servers.ensures.servers) (c.in_ok-begun.ensures.begun arbitrary) is.begun opened in
    let before : AreBefore arbitrary trees self.count c.deref-3.result.now = record { counted = sym is.count; trees_are = is.trees_are; began = subst (AreBegun arbitrary) (sym c.deref-3.ensures.value) began } in
    let size_old : length c.deref-2.result.now ≡ length self.begun.items = ap length c.deref-2.ensures.value in
    let size : bound ≡ length begun = ap length c.deref-3.ensures.value in
    let more = c.in_ok-begun.ensures.size in
    let within : length self.begun.items ≤ bound = omega (arith, size_old, size, more) in
    let known : AreKnown arbitrary trees self.modulus (length self.begun.items) c.deref-4.result.now = subst (AreKnown arbitrary trees self.modulus (length self.begun.items)) (sym c.deref-4.ensures.value) is.known in
    let turned_old : AreTurned arbitrary trees old modulus bound classes c.in_ok-classes.field-0.gap = c.in_ok-classes.ensures.turned arbitrary trees self.modulus (length self.begun.items) before within known in
    let turned : AreTurned arbitrary trees tree modulus bound classes None = subst (λ (g : Option LeftGap). AreTurned arbitrary trees tree modulus bound classes g) c.in-None-gap.is (subst (λ (t : Route). AreTurned arbitrary trees t modulus bound classes c.in_ok-classes.field-0.gap) same turned_old) in
    let old_rows = subst (λ (l : List ClassPages). AreRowsOf trees (class_prefixes l) self.modulus) (sym c.deref.ensures.value) is.known.rows in
    let finer = subst (IfFinerRows trees old) c.in-Some.is (c.in_ok-finer_rows.ensures.rows trees old_rows) in
    let prefixes : class_prefixes classes ≡ None ∷ map Some c.in-Some.finer.texts.items = c.in_ok-classes.ensures.prefixes ∙ ap (λ (l : List (List ℕ)). None ∷ map Some l) c.deref-5.ensures.value in
    let rows : AreRowsOf (trees ++ tree ∷ []) (class_prefixes classes) modulus =
    subst (λ (os : List (Option (List ℕ))). AreRowsOf (trees ++ tree ∷ []) os modulus) (sym prefixes) (subst (λ (t : Route). AreRowsOf (trees ++ t ∷ []) (None ∷ map Some c.in-Some.finer.texts.items) modulus) same finer) in
    record {
      count = ap (λ n. n + 1) is.count ∙ sym (length_push trees tree);
      trees_are = are_more arbitrary trees tree is.trees_are good;
      sound = sound_with arbitrary trees tree is.trees_are good (class_prefixes classes) modulus rows is.sound turned.1;
      begun = began;
      known = record {
        rows = rows;
        pages = subst (λ n. Each (ArePagesOf arbitrary (trees ++ tree ∷ []) modulus n) classes) size turned.0;
      };
    }
