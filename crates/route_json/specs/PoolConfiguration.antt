-- The configuration of one pool, as a script's line `pool N` says it. Source: mcgate's own.
use Rattle.std.specs.Prelude.{ℕ, zero, suc, List, [], ◌∷◌, ◌++◌, codes, decimal, map}
use Rattle.route_tree.specs.Route.{Pool}
use Rattle.route_json.specs.Configuration.{Configuration}

-- the numbers below n, in order
abbrev pub numbers_below : ℕ → List ℕ
numbers_below zero = []
numbers_below (suc n) = numbers_below n ++ n ∷ []

-- the address of a pool's server: s0:1, s1:1, ..
abbrev pub pool_address : ℕ → List ℕ
pool_address n = codes "s" ++ decimal n ++ codes ":1"

-- so many servers, and one pool of them
abbrev pub pool_configuration : ℕ → Configuration
pool_configuration n = record { tree = Pool (numbers_below n); servers = map pool_address (numbers_below n) }
