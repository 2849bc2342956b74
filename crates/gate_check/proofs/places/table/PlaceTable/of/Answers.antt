use Rattle.std.proofs.Common.{◌%◌, ℕ, List, map, ap, ◌∙◌, refl}
use Rattle.route_tree.specs.declared.place.Place.{Place}
use Rattle.gate_check.specs.declared.places.table.Class.{Class}
use Rattle.gate_check.specs.Lookup.{longest_in}
use Rattle.gate_check.proofs.Lookups.{place_of}
use Rattle.gate_check.proofs.places.table.PlaceTable.of.Goals as goal

pub returns : goal.returns
returns c =
    let place : Place = record { prefix = c.longest_in.result; residue = c.key_hash.result % c.args.self.now.modulus; modulus = c.args.self.now.modulus } in
    place_of c.args.self.now c.args.key.now place refl (ap (λ (n : ℕ). n % c.args.self.now.modulus) c.key_hash.ensures) (c.longest_in.ensures ∙ ap (λ (l : List Class). longest_in (map (λ (k : Class). k.prefix) l) c.args.key.now) c.deref.ensures.value)
