-- The lines of keys: clients whose next command waits for its key, first come first. Source: mcgate's own.
use Rattle.std.specs.Prelude.{◌≡◌, ℕ, Bool, true, false, not, List, [], ◌∷◌, ◌++◌, Option, Some, None, ◌||◌, if◌then◌else◌, nat_eq, filter, position, slice_set, take_while}
use Rattle.std.specs.Cmp.Lexicographic.{pointwise}
use Rattle.std.specs.List.{list_any}
use Rattle.core_commands.specs.declared.claim.Claim.{Claim}
use Rattle.core_commands.specs.declared.key_lines.Standing.{Standing}

-- by this the client stands in the line of the key
abbrev pub is_place : ℕ → List ℕ → Standing → Bool
is_place client key it = if nat_eq it.client client then pointwise nat_eq it.key key else false

-- what this standing client claims of the key is in the way of the claim: one of the two clears it, and the other copies to it
abbrev pub is_in_way : List ℕ → Claim → Standing → Bool
is_in_way key claim it = if pointwise nat_eq it.key key then ((if claim.clears then it.claim.copies else false) || (if claim.copies then it.claim.clears else false)) else false

-- who stands before the client, or would if it came now
abbrev pub standing_before : ℕ → List ℕ → List Standing → List Standing
standing_before client key lines = take_while (λ it. not (is_place client key it)) lines

-- one of those before the client stands in the line of the key, and its claim is in the way
abbrev pub is_behind : ℕ → List ℕ → Claim → List Standing → Bool
is_behind client key claim lines = list_any (is_in_way key claim) (standing_before client key lines)

-- all that stand but this client, in their order
abbrev pub others : ℕ → List Standing → List Standing
others client lines = filter (λ it. not (nat_eq it.client client)) lines

-- a client that stands there keeps its place; any other one comes to the end, and stands nowhere else
abbrev pub standing_put_at : Option ℕ → Standing → List Standing → List Standing
standing_put_at None it lines = others it.client lines ++ it ∷ []
standing_put_at (Some place) it lines = slice_set lines place it

abbrev pub joined : Standing → List Standing → List Standing
joined it lines = standing_put_at (position (is_place it.client it.key) lines) it lines

-- the client stands in a line
abbrev pub is_standing : ℕ → List Standing → Bool
is_standing client lines = list_any (λ it. nat_eq it.client client) lines

-- first come first: where another client leaves, or comes to stand in a line where it didn't stand, the same stand before the client as did but for that one
abbrev pub NobodyIsPassed : Type 0
NobodyIsPassed =
    (client : ℕ) (key : List ℕ) (it : Standing) (lines : List Standing) → nat_eq client it.client ≡ false
    → (standing_before client key (others it.client lines) ≡ others it.client (standing_before client key lines))
    × (list_any (is_place client key) lines ≡ true → position (is_place it.client it.key) lines ≡ None → standing_before client key (joined it lines) ≡ others it.client (standing_before client key lines))
