use Rattle.std.proofs.Common.{Some, true, sym, refl, ap}
use Rattle.core_client.specs.ClientState.{output_by, dropped_by}
use Rattle.core_proxy.specs.Steps.{Turns}
use Rattle.core_proxy.proofs.Clients.{written, stays}
use Rattle.core_proxy.proofs.Ending.{drops}
use Rattle.core_proxy.proofs.proxy.Core.drop_one.Goals as goal

pub returns : goal.returns
returns c =
    let old = c.args.self.now in
    let x = c.in-Some.x.now in
    let y = record x { dropped = true } in
    let w = written old c.args.client x y (sym c.in-Some.ensures.value) in
    let t : Turns old _ c.args.client (Some x) (Some y) = record { was = w.was; is = w.is; others = w.others; commands = λ n. refl; tree = refl; limits = refl; number = refl } in
    record {
      lines = c.leave.ensures;
      goes = drops old _ c.args.client x y t (record { stream = refl; index = refl; waits = refl; queue = refl; output = refl; dropped = refl });
      dropped = ap dropped_by t.is;
      output = stays old _ c.args.client (Some x) (Some y) t output_by refl;
    }
