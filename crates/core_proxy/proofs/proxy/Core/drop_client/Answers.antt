use Rattle.std.proofs.Common.{◌≡◌, List, [], ◌∷◌, ◌++◌, ap, ◌∙◌}
use Rattle.fresh_runs.specs.Overlap.{Entry, Drops}
use Rattle.core_client.specs.ClientState.{dialect, output_by, dropped_by}
use Rattle.core_proxy.specs.Settles.{freed}
use Rattle.core_proxy.proofs.Chains.{Then, goes_then, goes_as}
use Rattle.core_proxy.proofs.proxy.Core.drop_client.Goals as goal

pub returns : goal.returns
returns c =
    let old = c.args.self.now in
    let mid = c.drop_one.new.self in
    let new = c.free_idle.new.self in
    let d = c.drop_one.ensures in
    let f = c.free_idle.ensures.0 in
    let IsFirst : List (Entry dialect) → Type 0 = λ entries. entries ≡ Drops c.args.client ∷ [] in
    let IsSecond : List (Entry dialect) → Type 0 = λ entries. entries ≡ freed f.numbers in
    record {
      numbers = f.numbers;
      lines = f.lines ∙ d.lines;
      goes = goes_as old new (Then IsFirst IsSecond) (λ entries. entries ≡ freed f.numbers ++ Drops c.args.client ∷ []) (λ entries h. h.4 ∙ (λ i. h.3 i ++ h.2 i)) (goes_then old mid new IsFirst IsSecond d.goes (f.goes d.dropped));
      gone = c.free_idle.ensures.1;
      dropped = ap dropped_by (f.clients c.args.client) ∙ d.dropped;
      output = λ n. ap output_by (f.clients n) ∙ d.output n;
    }
