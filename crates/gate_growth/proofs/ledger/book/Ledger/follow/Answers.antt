use Rattle.std.proofs.Common.{arith}
use Rattle.std.proofs.lemmas.List.{length_push}
use Rattle.std.proofs.lemmas.Result.{err_from_is_err_and}
use Rattle.gate_growth.proofs.ledger.book.Ledger.follow.Goals as goal

pub returns-in_err-next-clause-followed : goal.returns-in_err-next-clause-followed
returns-in_err-next-clause-followed c = λ arbitrary trees is opened.
    let unsound = c.in_err-next.ensures.next arbitrary trees is opened in
    let p = err_from_is_err_and c.from_residual.result c.from_residual.ensures.1 in
    rw (p.1, p.2) unsound

pub returns-clause-followed : goal.returns-clause-followed
returns-clause-followed c = λ arbitrary trees is opened.
    let next = c.in_ok-next.ensures.next arbitrary trees is opened in
    let size = length_push trees c.args.config.now.tree in
    let count = next.count in
    (omega (arith, count, size), next)
