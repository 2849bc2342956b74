-- Servers by their first appearance. Source: mcgate's own.
use Rattle.route_json.specs.declared.addresses.servers.TheConstants.{MAX_SERVERS}
use Rattle.std.specs.Prelude.{ℕ, List, [], ◌∷◌, ◌++◌, length, nat_lt, Option, Some, None, Ok, Err, if◌then◌else◌, position}
use Rattle.std.specs.Str.{bytes_eq}
pub use Rattle.route_json.specs.NumberedServers.{Addresses}
use Rattle.route_json.specs.ServerTexts.{server_in}
use Rattle.route_json.specs.declared.pools.WeightedServer.{WeightedServer}
use Rattle.route_json.specs.Fault.{BadAddress, TooManyServers}
use Rattle.route_json.specs.Reading.{Reading, ◌>>=◌, give, fail}

-- the number of an address that is known at this place or new
abbrev pub numbered_at : Option ℕ → List ℕ → List ℕ → Reading Addresses ℕ
numbered_at (Some n) pool a known = Ok (n, known)
numbered_at None pool a known = if nat_lt (length known) MAX_SERVERS then Ok (length known, known ++ a ∷ []) else Err (TooManyServers pool)

-- the number of an address in the list of this pool
abbrev pub address_number : List ℕ → List ℕ → Reading Addresses ℕ
address_number pool a known = numbered_at (position (bytes_eq a) known) pool a known

-- the server of an address and a weight, if the text says them
abbrev pub server_or : List ℕ → List ℕ → Option (List ℕ × ℕ) → Reading Addresses WeightedServer
server_or pool text (Some s) = do
  n ← address_number pool s.0
  give (record { server = n; weight = s.1 })
server_or pool text None = fail (BadAddress text)

-- the server of a text in the list of this pool
abbrev pub server_of_text : List ℕ → List ℕ → Reading Addresses WeightedServer
server_of_text pool text = server_or pool text (server_in text)
