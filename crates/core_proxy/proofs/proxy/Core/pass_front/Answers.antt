use Rattle.std.proofs.Common.{ℕ, List, sym, subst}
use Rattle.core_client.specs.Fronts.{PassesFront}
use Rattle.core_client.specs.Nexts.{IsPassing}
use Rattle.core_proxy.proofs.Clients.{written}
use Rattle.core_proxy.proofs.Polls.{passed_goes, still_goes, still_served, of_client}
use Rattle.core_proxy.proofs.proxy.Core.pass_front.Goals as goal

pub returns-in-Ok-clause-ok : goal.returns-in-Ok-clause-ok
returns-in-Ok-clause-ok c =
    let old = c.args.self.now in
    let x = c.in-Some.x.now in
    passed_goes old _ c.args.client x c.pass.new.self c.in-Ok.passed (written old c.args.client x c.pass.new.self (sym c.in-Some.ensures.value))
    (subst (λ (v : List ℕ). PassesFront v x c.in-Ok.passed c.pass.new.self) c.version_of.ensures c.in-Ok.ensures.ok)

pub returns-in-Err-clause-err : goal.returns-in-Err-clause-err
returns-in-Err-clause-err c =
    let old = c.args.self.now in
    let x = c.in-Some.x.now in
    let y = c.pass.new.self in
    let was = sym c.in-Some.ensures.value in
    let t = written old c.args.client x y was in
    (still_goes old _ c.args.client x y t c.in-Err.ensures.err, still_served old _ c.args.client x y t c.in-Err.ensures.err (of_client old c.args.client (IsPassing c.args.read) x was c.requires).served)
