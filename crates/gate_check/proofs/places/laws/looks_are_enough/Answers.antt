use Rattle.gate_check.proofs.PlacesValidity as lemmas
use Rattle.gate_check.proofs.places.laws.looks_are_enough.Goals as goal

pub returns : goal.returns
returns c = lemmas.looks_are_enough
