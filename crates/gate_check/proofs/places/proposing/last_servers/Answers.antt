use Rattle.std.proofs.Common.{◌≡◌, ◌+◌, ◌-◌, [], length, ◌∙◌, sym, arith}
use Rattle.gate_check.proofs.RunLists.{last_is}
use Rattle.gate_check.proofs.places.proposing.last_servers.Goals as goal

pub returns : goal.returns
returns c =
    let some : length c.args.runs.now - 1 + 1 ≡ length c.args.runs.now = (let h = c.requires in omega (arith, h)) in
    c.deref.ensures.value ∙ sym (last_is [] c.args.runs.now (length c.args.runs.now - 1) c.index-runs-runs.result some c.index-runs-runs.is)
