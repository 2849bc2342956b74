-- What a key is. Source: memcached's protocol.txt, "Keys": up to 250 characters, without control characters or white space.
use Rattle.std.specs.Prelude.{◌≡◌, ℕ, ◌<◌, ◌≤◌, Bool, true, not, List, length, take, nat_lt, ◌||◌, ◌==◌}
use Rattle.std.specs.List.{list_all}
use Rattle.mc_types.specs.Padded.{IsPadded}
use Rattle.mc_types.specs.declared.limits.TheConstants.{KEY_LIMIT}

abbrev pub is_bad_byte : ℕ → Bool
is_bad_byte b = nat_lt b 33 || b == 127

abbrev pub is_key_byte : ℕ → Bool
is_key_byte b = not (is_bad_byte b)

-- 1 to 250 bytes, each 33..=126 or 128..=255
pub record IsKey (text : List ℕ) : Type 0 where
  pub some : 0 < length text
  pub short : length text ≤ KEY_LIMIT
  pub bytes : list_all is_key_byte text ≡ true

-- how a key's text lies in its array
pub record HoldsKey (len : ℕ) (bytes : List ℕ) : Type 0 where
  pub lies : IsPadded KEY_LIMIT len bytes
  pub text : IsKey (take len bytes)
