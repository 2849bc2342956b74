-- Which items are lost where all takes too much. Source: mcgate's own.
use Rattle.std.specs.Prelude.{◌≡◌, ℕ, List, ◌++◌}
use Rattle.std.specs.Map.{keys_of}
use Rattle.cache_server.specs.Contents.{Contents, Key}
use Rattle.cache_server.specs.Held.{IsLoss}

-- Sizes of items, the most recently used first: the last of them went, with their items, and no other item is lost.
pub record LosesOldest (sizes : List (Key × ℕ)) (old : Contents) (sizes' : List (Key × ℕ)) (new : Contents) : Type 0 where
  pub gone : List (Key × ℕ)
  pub sizes_are : sizes ≡ sizes' ++ gone
  pub lost : IsLoss (keys_of gone) old new
