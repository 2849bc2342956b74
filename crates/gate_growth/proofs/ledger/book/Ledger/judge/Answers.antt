use Rattle.std.proofs.lemmas.Result.{err_from_is_err_and}
use Rattle.gate_growth.proofs.ledger.book.Ledger.judge.Goals as goal

pub returns-in_err-_next : goal.returns-in_err-_next
returns-in_err-_next c = λ arbitrary trees is opened. let e = c.in_err-_next.ensures.next arbitrary trees is opened in let p = err_from_is_err_and c.from_residual.result c.from_residual.ensures.1 in rw (p.1, p.2) e

pub returns : goal.returns
returns c = λ arbitrary trees is opened. (c.in_ok-_next.ensures.next arbitrary trees is opened).sound
