use Rattle.std.proofs.Common.{◌<◌, ◌≤◌, ◌∙◌, ℕ, List, Result, Err, ap, sym, length, arith}
use Rattle.route_json.specs.declared.pools.WeightedServer.{WeightedServer}
use Rattle.route_json.specs.Fault.{Fault, TooManyServers}
use Rattle.route_json.specs.Servers.{Addresses}
use Rattle.route_json.proofs.Gives.{gives_too}
use Rattle.route_json.proofs.Numbers.{list_many, list_some}
use Rattle.std.proofs.lemmas.Bool.Decides.{nat_tests}
use Rattle.route_json.proofs.pools.read_list.Goals as goal

pub returns-then-items-clause-gives : goal.returns-then-items-clause-gives
returns-then-items-clause-gives c =
    let more : 1024 < length c.args.items.now = omega arith in
    list_many c.args.name.now c.args.items.now c.args.servers.now more
    ∙ ap (λ (name : List ℕ). let r : Result (List WeightedServer × Addresses) Fault = Err (TooManyServers name) in r) (sym c.in_ok-from_str-2.ensures.ok)

pub returns-clause-gives : goal.returns-clause-gives
returns-clause-gives c =
    let few : length c.args.items.now ≤ 1024 = omega arith in
    let some : 0 < length c.args.items.now = grind (arith, nat_tests) in
    gives_too _ c.read_servers.result _ _ (sym (list_some c.args.name.now c.args.items.now c.args.servers.now some few)) c.read_servers.ensures.gives
