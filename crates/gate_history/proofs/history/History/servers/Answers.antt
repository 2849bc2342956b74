use Rattle.std.proofs.Common.{◌≡◌, ◌-◌, ◌∙◌, List, [], IfOk, Some, length, slice_get, ap, subst}
use Rattle.route_json.specs.Servers.{Addresses}
use Rattle.gate_history.specs.declared.generation.Generation.{Generation}
use Rattle.gate_history.specs.Histories.{servers_after}
use Rattle.gate_history.proofs.Judging.{last_servers}
use Rattle.gate_history.proofs.history.History.servers.Goals as goal

pub returns-in-Some : goal.returns-in-Some
returns-in-Some c =
    let gs = c.self.inside.generations.items in
    let last : Some c.in-Some.last.now ≡ slice_get gs (length gs - 1) = subst (λ (l : List Generation). Some c.in-Some.last.now ≡ slice_get l (length l - 1)) c.deref.ensures.value c.in-Some.ensures.value in
    let same = c.servers.ensures.servers ∙ last_servers gs c.in-Some.last.now last ∙ ap (servers_after []) c.self.view_is in
    subst (λ (v : Addresses). IfOk c.copy.result (λ s. s ≡ v)) same c.copy.ensures
