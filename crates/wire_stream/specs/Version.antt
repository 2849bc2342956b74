-- The text by which clients are told mcgate's version. Source: mcgate's own.
use Rattle.std.specs.Prelude.{◌≡◌, ℕ, ◌-◌, ◌<◌, ◌≤◌, ◌&&◌, Bool, true, false, List, length, take, Option, Some, None, nat_eq, nat_le, slice_get, codes}
use Rattle.std.specs.List.{list_all}
use Rattle.wire_stream.specs.declared.version.TheConstants.{VERSION_LIMIT}
use Rattle.wire_stream.specs.declared.version.VersionText.{VersionText}

-- a character of ASCII that is printed, or a space
abbrev pub is_version_byte : ℕ → Bool
is_version_byte b = nat_le 32 b && nat_le b 126

abbrev pub is_space_there : Option ℕ → Bool
is_space_there None = false
is_space_there (Some b) = nat_eq b 32

-- 1 to 64 bytes, each 32..=126, of which neither the first nor the last is a space
pub record IsVersionText (text : List ℕ) : Type 0 where
  pub some : 0 < length text
  pub short : length text ≤ VERSION_LIMIT
  pub bytes : list_all is_version_byte text ≡ true
  pub first : is_space_there (slice_get text 0) ≡ false
  pub last : is_space_there (slice_get text (length text - 1)) ≡ false

-- the text that was given
abbrev pub version_text_of : VersionText → List ℕ
version_text_of text = take text.len text.bytes

-- the text where none is given
abbrev pub default_version : List ℕ
default_version = codes "mcgate-1"

-- the text by which clients are told the version
abbrev pub version_of : Option VersionText → List ℕ
version_of None = default_version
version_of (Some text) = version_text_of text
