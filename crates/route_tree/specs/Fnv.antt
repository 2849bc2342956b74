-- FNV-1a, 32 bits. Source: Fowler, Noll and Vo, "FNV Hash": "hash = offset_basis; for each octet: hash = hash xor octet; hash = hash * FNV_prime".
use Rattle.std.specs.Prelude.{ℕ, ◌*◌, ◌%◌, ◌^◌, List, bit_xor, fold}

-- what one byte makes of the hash
abbrev pub with_byte : ℕ → ℕ → ℕ
with_byte hash byte = bit_xor hash byte * 16777619 % 2 ^ 32

abbrev pub fnv1a : List ℕ → ℕ
fnv1a bytes = fold with_byte 2166136261 bytes
