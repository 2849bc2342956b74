-- The part of a key that is hashed, and its slot. Source: twemproxy, `hash_tag: "{}"` and `distribution: modula`.
use Rattle.std.specs.Prelude.{ℕ, ◌%◌, ◌&&◌, Bool, List, length, nat_lt, ◌==◌, if◌then◌else◌}
use Rattle.std.specs.List.{before_first, after_first, position_or_len}
use Rattle.route_tree.specs.Fnv.{fnv1a}

abbrev pub opens_tag : ℕ → Bool
opens_tag b = b == 123

abbrev pub is_close : ℕ → Bool
is_close b = b == 125

-- what stands between the first `{` and the first `}` after it
abbrev pub tag_of : List ℕ → List ℕ
tag_of key = before_first is_close (after_first opens_tag key)

-- the key has a `{` and a `}` after it, with something between them
abbrev pub has_tag : List ℕ → Bool
has_tag key =
    let after = after_first opens_tag key in
    nat_lt 0 (position_or_len is_close after) && nat_lt (position_or_len is_close after) (length after)

-- the tag, or the whole key where there is none
abbrev pub hash_part : List ℕ → List ℕ
hash_part key = if has_tag key then tag_of key else key

-- the hash that decides where a key lives
abbrev pub key_hash : List ℕ → ℕ
key_hash key = fnv1a (hash_part key)

-- which of a list of n servers has the key
abbrev pub slot_of : ℕ → List ℕ → ℕ
slot_of n key = key_hash key % n
