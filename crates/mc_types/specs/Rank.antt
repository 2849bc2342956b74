-- How bad answers are, and the worst of several. Source: mcgate's own.
use Rattle.std.specs.Prelude.{◌≡◌, ℕ, ◌<◌, ◌≤◌, List, [], ◌∷◌, ◌⊎◌}
use Rattle.mc_types.specs.declared.answer.Code.{Code}
use Rattle.mc_types.specs.declared.answer.Code.TheVariants.{Hd, Va, En, Ns, Ex, Nf}
use Rattle.mc_types.specs.declared.answer.Answer.{Answer}
use Rattle.mc_types.specs.declared.answer.Answer.TheVariants.{Stored, NotStored, Exists, NotFound, Deleted, Touched, Number, Hit, Miss, Meta, ClientError, Error, ServerError}

abbrev pub code_rank : Code → ℕ
code_rank Hd = 0
code_rank Va = 0
code_rank En = 1
code_rank Ns = 1
code_rank Nf = 1
code_rank Ex = 2

-- 0 where it was done, 1 where nothing was there, 2 where another cas number is held, 3 where the ask was wrong, 4 where the server or the call failed
abbrev pub rank_of : Answer → ℕ
rank_of Stored = 0
rank_of Deleted = 0
rank_of Touched = 0
rank_of (Number n) = 0
rank_of (Hit f b c) = 0
rank_of NotFound = 1
rank_of NotStored = 1
rank_of Miss = 1
rank_of Exists = 2
rank_of (ClientError t) = 3
rank_of Error = 3
rank_of (ServerError t) = 4
rank_of (Meta code fields) = code_rank code

-- none of them has a rank above this one
abbrev pub NoneAbove : {A : Type 0} → (A → ℕ) → List A → ℕ → Type 0
NoneAbove rank [] most = Unit {0}
NoneAbove rank (x ∷ xs) most = (rank x ≤ most) × NoneAbove rank xs most

-- the first one of the greatest rank
abbrev pub IsWorst : {A : Type 0} → (A → ℕ) → List A → A → Type 0
IsWorst rank [] worst = ⊥
IsWorst rank (x ∷ xs) worst = ((x ≡ worst) × NoneAbove rank xs (rank worst)) ⊎ ((rank x < rank worst) × IsWorst rank xs worst)
