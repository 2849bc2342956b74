-- Numbers in decimal digits (memcached's protocol.txt: "the decimal representation" of a number of 32 or 64 bits). How many
-- digits may stand there, and that leading zeros are read, is mcgate's own.
use Rattle.std.specs.Prelude.{ℕ, ◌+◌, ◌^◌, ◌&&◌, ℤ, pos, neg_ℤ, Bool, List, length, drop, Option, Some, None, nat_lt, nat_le, ◌==◌, if◌then◌else◌, slice_index}
use Rattle.std.specs.Option.{option_map}
use Rattle.std.specs.Str.{all_ascii_digits}
use Rattle.std.specs.Str.Parse.{digits_value}

-- 1 to 20 digits
abbrev pub is_number : List ℕ → Bool
is_number word = nat_le 1 (length word) && nat_le (length word) 20 && all_ascii_digits word

-- the number that a word writes, where it writes one below the limit
abbrev pub number_below : ℕ → List ℕ → Option ℕ
number_below limit word = if is_number word && nat_lt (digits_value 10 word) limit then Some (digits_value 10 word) else None

-- the number that a word writes with a minus sign or without, where it is in the range of 64 bits (protocol.txt, "Expiration times"); -0 is 0
abbrev pub signed_number : List ℕ → Option ℤ
signed_number word = if slice_index word 0 == 45 then option_map (λ n. neg_ℤ (pos n)) (number_below (2 ^ 63 + 1) (drop 1 word)) else option_map pos (number_below (2 ^ 63) word)
