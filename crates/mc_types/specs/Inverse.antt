-- A key is determined by its text.
use Rattle.mc_types.specs.declared.limits.TheConstants.{KEY_LIMIT}
use Rattle.std.specs.Prelude.{◌≡◌, ℕ, List, length, take}
use Rattle.std.proofs.Common.{ap}
use Rattle.mc_types.specs.declared.key.Key.TheInside.{Inside}
use Rattle.mc_types.specs.KeyText.{HoldsKey}
use Rattle.mc_types.specs.Padded.{padded, padded_is}

pub inverse_is : (a : Inside) → HoldsKey a.len a.bytes → record { len = length (take a.len a.bytes); bytes = padded KEY_LIMIT (take a.len a.bytes) } ≡ a
inverse_is a h = ap (λ (p : ℕ × List ℕ). let r : Inside = record { len = p.0; bytes = p.1 } in r) (padded_is 250 a.len a.bytes h.lies)
