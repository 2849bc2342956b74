-- An opaque token is determined by its text.
use Rattle.std.specs.Prelude.{◌≡◌, ℕ, List, length, take}
use Rattle.std.proofs.Common.{ap}
use Rattle.mc_types.specs.declared.token.Opaque.TheInside.{Inside}
use Rattle.mc_types.specs.declared.limits.TheConstants.{OPAQUE_LIMIT}
use Rattle.mc_types.specs.OpaqueText.{HoldsOpaque}
use Rattle.mc_types.specs.Padded.{padded, padded_is}

pub opaque_inverse_is : (a : Inside) → HoldsOpaque a.len a.bytes → record { len = length (take a.len a.bytes); bytes = padded OPAQUE_LIMIT (take a.len a.bytes) } ≡ a
opaque_inverse_is a h = ap (λ (p : ℕ × List ℕ). let r : Inside = record { len = p.0; bytes = p.1 } in r) (padded_is OPAQUE_LIMIT a.len a.bytes h.lies)
