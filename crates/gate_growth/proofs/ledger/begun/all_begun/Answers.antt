use Rattle.std.proofs.Common.{◌+◌, List, length, sym, subst, ap, ◌∙◌, arith}
use Rattle.std.proofs.lemmas.List.{length_push}
use Rattle.gate_growth.specs.declared.ledger.page.Beginning.{Beginning}
use Rattle.gate_growth.specs.Pages.{AreBegun}
use Rattle.gate_growth.proofs.Naming.{begun_more}
use Rattle.gate_growth.proofs.ledger.begun.all_begun.Goals as goal

pub loop-server-preserved : goal.loop-server-preserved
loop-server-preserved c =
    let old = c.loop-server.begun.items in
    let size = c.loop-server.invariant.0 in
    let from = c.loop-server.auto._server in
    let below = c.loop-server-test.true in
    let few = c.requires.few in (
      ap length c.in_ok-push.ensures.items ∙ length_push old c.args.new ∙ ap (λ n. n + 1) size,
      omega (arith, below, few),
      (λ arbitrary are opened.
          subst (λ (l : List Beginning). AreBegun arbitrary l) (sym c.in_ok-push.ensures.items)
          (begun_more arbitrary old c.args.new (length c.args.known.now) c.args.servers (omega (arith, size, from)) (omega (arith, size, below)) opened (c.loop-server.invariant.2 arbitrary are opened))),
    )
