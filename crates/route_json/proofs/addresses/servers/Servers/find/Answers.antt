use Rattle.std.proofs.Common.{◌∙◌, ℕ, Option, Some, is_some, sym, ap}
use Rattle.route_json.proofs.Known.{place_is, any_is}
use Rattle.route_json.proofs.addresses.servers.Servers.find.Goals as goal

pub returns-in-Some-clause-found : goal.returns-in-Some-clause-found
returns-in-Some-clause-found c =
    ap (λ (n : ℕ). let o : Option ℕ = Some n in o) c.new.ensures ∙ sym c.in-Some.is ∙ c.get_index_of.ensures.index ∙ sym (place_is c.args.address.now c.args.self.now c.self.inside.set.keys (sym c.self.view_is))

pub returns-in-Some-clause-known : goal.returns-in-Some-clause-known
returns-in-Some-clause-known c =
    sym (ap is_some c.in-Some.is) ∙ c.get_index_of.ensures.found ∙ sym (any_is c.args.address.now c.args.self.now c.self.inside.set.keys (sym c.self.view_is))

pub returns-in-None-clause-found : goal.returns-in-None-clause-found
returns-in-None-clause-found c =
    sym c.in-None.is ∙ c.get_index_of.ensures.index ∙ sym (place_is c.args.address.now c.args.self.now c.self.inside.set.keys (sym c.self.view_is))

pub returns-in-None-clause-known : goal.returns-in-None-clause-known
returns-in-None-clause-known c =
    sym (ap is_some c.in-None.is) ∙ c.get_index_of.ensures.found ∙ sym (any_is c.args.address.now c.args.self.now c.self.inside.set.keys (sym c.self.view_is))
