use Rattle.std.proofs.Common.{◌≡◌, map, take}
use Rattle.route_tree.specs.Each.{Each}
use Rattle.gate_gaps.specs.declared.server_uses.ServerUse.{ServerUse}
use Rattle.gate_gaps.specs.ServerUses.{IsServerUse}
use Rattle.gate_gaps.proofs.server_uses.server_uses.Given as goal

abbrev pub invariant-loop-server : goal.invariant-loop-server
invariant-loop-server l = record {
  servers : map (λ (x : ServerUse). x.server) l.server_uses.items ≡ take l.server-index l.server-items;
  each : Each (IsServerUse l.plain l.deleting) l.server_uses.items;
}
