-- What is noted beside the places.
use Rattle.std.specs.Prelude.{◌≡◌, ◌≤◌, ℕ, Bool, true, false, List, Option, length, sum, slice_index, slice_index_or, Contains}
use Rattle.serve_clients.specs.declared.clients.Client.{Client}
use Rattle.serve_clients.specs.Held.{held_in}

-- whether the place of this id was touched
abbrev pub flag_at : List Bool → ℕ → Bool
flag_at flags id = slice_index_or flags id false

-- there is a note for each place, and the sum of all notes is known
pub record AreSummed (all : List (Option Client)) (held : List ℕ) (flags : List Bool) (total : ℕ) : Type 0 where
  pub held_len : length all ≤ length held
  pub flags_len : length all ≤ length flags
  pub summed : total ≡ sum held

-- the note of a place that wasn't touched is what is held for it
pub record AreExact (all : List (Option Client)) (held : List ℕ) (flags : List Bool) : Type 0 where
  pub exact : (id : ℕ) → flag_at flags id ≡ false → held_in all id ≡ slice_index held id

-- whoever was touched is listed, unless memory was refused for that
pub record AreTouched (flags : List Bool) (ids : List ℕ) (is_short : Bool) : Type 0 where
  pub listed : (id : ℕ) → flag_at flags id ≡ true → is_short ≡ false → Contains ids id

pub record AreNoted (all : List (Option Client)) (held : List ℕ) (flags : List Bool) (total : ℕ) (ids : List ℕ) (is_short : Bool) : Type 0 where
  pub summed : AreSummed all held flags total
  pub exact : AreExact all held flags
  pub touched : AreTouched flags ids is_short
