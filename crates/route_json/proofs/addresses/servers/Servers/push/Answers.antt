use Rattle.std.proofs.Common.{◌≡◌, ◌∙◌, ◌<◌, ◌++◌, [], ◌∷◌, ap, length, false, arith}
use Rattle.std.specs.List.{list_any}
use Rattle.std.specs.Str.{bytes_eq}
use Rattle.route_json.specs.NumberedServers.{Addresses, texts}
use Rattle.route_json.proofs.Known.{pushed, servers_push}
use Rattle.route_json.proofs.addresses.servers.Servers.push.Goals as goal

pub invariant_of-self-2 : goal.invariant_of-self-2
invariant_of-self-2 c =
    let ks = c.self.inside.set.keys in
    let new : list_any (bytes_eq c.args.address.now) (texts ks) ≡ false = ap (list_any (bytes_eq c.args.address.now)) c.self.view_is ∙ c.requires.new in
    let few : length (texts ks) < 4294967295 = omega (arith, ap length c.self.view_is, c.requires.room) in
    servers_push (texts ks) (texts c.insert.new.self.keys) c.args.address.now c.self.invariant new few (pushed c.args.address.now ks c.insert.new.self.keys c.in_ok-from_str.field-0 c.in_ok-insert.ensures.keys c.in_ok-from_str.ensures.ok new)

pub returns-clause-last : goal.returns-clause-last
returns-clause-last c =
    let ks = c.self.inside.set.keys in
    let new : list_any (bytes_eq c.args.address.now) (texts ks) ≡ false = ap (list_any (bytes_eq c.args.address.now)) c.self.view_is ∙ c.requires.new in
    pushed c.args.address.now ks c.insert.new.self.keys c.in_ok-from_str.field-0 c.in_ok-insert.ensures.keys c.in_ok-from_str.ensures.ok new ∙ ap (λ (l : Addresses). l ++ c.args.address.now ∷ []) c.self.view_is
