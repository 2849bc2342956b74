use Rattle.std.proofs.Common.{◌≡◌, List, [], ◌∷◌, ◌++◌, length, Option, None, sym, ap, ◌∙◌, subst}
use Rattle.std.specs.Prelude.{OnOk, OnErr}
use Rattle.route_json.specs.Configuration.{Configuration}
use Rattle.gate_check.specs.Sound.{trees_of}
use Rattle.gate_growth.specs.declared.ledger.book.Ledger.{Ledger}
use Rattle.gate_growth.specs.Pages.{AreOpened}
use Rattle.gate_growth.specs.Ledgers.{count_of_known}
use Rattle.core_accepted.specs.declared.beginnings.Beginnings.{Beginnings}
use Rattle.core_accepted.specs.Known.{is_arbitrary, IsBookOf}
use Rattle.core_accepted.proofs.Growing.{next_book, next_number}
use Rattle.core_accepted.proofs.generations.take_later.Goals as goal

pub returns-in-Err-clause-book : goal.returns-in-Err-clause-book
returns-in-Err-clause-book c = λ known are begun book.
    let none : c.args.ledger.now ≡ None = sym c.take-held.ensures.value ∙ c.in-Err.ensures.none.1 in
    subst (λ (l : Option Ledger). IsBookOf (record known { configs = c.args.configs.now.items }) l) (sym c.take-held.ensures.after)
    (subst (λ (xs : List Configuration). IsBookOf (record known { configs = xs }) None) are (subst (IsBookOf known) none book))

pub returns-in-Ok-clause-followed : goal.returns-in-Ok-clause-followed
returns-in-Ok-clause-followed c = λ known are begun book.
    let opened = c.in-Ok.ensures.opened known (are ∙ sym c.deref.ensures.value) (ap (λ (b : Beginnings). b.opened) begun) (subst (IsBookOf known) (sym c.take-held.ensures.value) book) in
    let follows = c.take_next-result.ensures.followed (is_arbitrary known) (trees_of known.configs) in
    next_number known c.args.config c.in-Ok.book c.take_next-result.new.ledger c.take_next-result.result opened
    (λ kept opens. follows kept (subst (λ (b : Beginnings). AreOpened (is_arbitrary known) (count_of_known c.in-Ok.book) (length c.args.config.servers) b.added) begun opens))

pub returns-in-Ok-clause-book : goal.returns-in-Ok-clause-book
returns-in-Ok-clause-book c = λ known are begun book.
    let opened = c.in-Ok.ensures.opened known (are ∙ sym c.deref.ensures.value) (ap (λ (b : Beginnings). b.opened) begun) (subst (IsBookOf known) (sym c.take-held.ensures.value) book) in
    let taken = c.take_next-result.ensures in
    let follows = taken.followed (is_arbitrary known) (trees_of known.configs) in
    let r = c.take_next-result.result in
    let new = c.take_next-result.new.configs.items in
    next_book known c.args.config c.in-Ok.book c.take_next-result.new.ledger new r opened
    (λ kept opens. follows kept (subst (λ (b : Beginnings). AreOpened (is_arbitrary known) (count_of_known c.in-Ok.book) (length c.args.config.servers) b.added) begun opens))
    (subst (λ (xs : List Configuration). OnOk r (new ≡ xs ++ c.args.config ∷ [])) (sym are) taken.taken) taken.servers
    (subst (λ (xs : List Configuration). OnErr r ((c.take_next-result.new.ledger ≡ c.in-Ok.book) × (new ≡ xs))) (sym are) taken.same)
