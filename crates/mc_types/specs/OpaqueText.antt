-- What the text of an opaque token is. Source: memcached's protocol.txt, "Meta Commands": "O(token): opaque value, consumes a token and copies back with response"; at most 32 bytes.
use Rattle.std.specs.Prelude.{◌≡◌, ℕ, ◌<◌, ◌≤◌, ◌&&◌, Bool, true, List, length, take, nat_le}
use Rattle.std.specs.List.{list_all}
use Rattle.mc_types.specs.Padded.{IsPadded}
use Rattle.mc_types.specs.declared.limits.TheConstants.{OPAQUE_LIMIT}

abbrev pub is_opaque_byte : ℕ → Bool
is_opaque_byte b = nat_le 33 b && nat_le b 126

-- 1 to 32 bytes, each 33..=126
pub record IsOpaque (text : List ℕ) : Type 0 where
  pub some : 0 < length text
  pub short : length text ≤ OPAQUE_LIMIT
  pub bytes : list_all is_opaque_byte text ≡ true

-- how it lies in its array
pub record HoldsOpaque (len : ℕ) (bytes : List ℕ) : Type 0 where
  pub lies : IsPadded OPAQUE_LIMIT len bytes
  pub text : IsOpaque (take len bytes)
