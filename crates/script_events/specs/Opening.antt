-- What servers hold before the run of a script: what the script puts there. Source: mcgate's own.
use Rattle.std.specs.Prelude.{ℕ, List, [], ◌∷◌, Option, if◌then◌else◌, nat_eq}
use Rattle.mc_types.specs.Items.{Item}
use Rattle.cache_server.specs.Contents.{Contents, empty, storing_item, opening}
use Rattle.cache_server.specs.Held.{holds}
use Rattle.script_events.specs.Limits.{capacity}
use Rattle.script_events.specs.Scripted.{Scripted, Piece, Add, Result, Fail, Hold, At, Now, Moment}

-- what an event puts into the cache of a server: of a full cache the least recently used is pushed out
abbrev pub put_by : ℕ → Contents → Scripted → Contents
put_by s cache (Hold server key content) = if nat_eq server s then storing_item cache key (opening content) else cache
put_by s cache (Piece client bytes) = cache
put_by s cache (Add client bytes) = cache
put_by s cache (Result server) = cache
put_by s cache (Fail turn manner) = cache
put_by s cache (At turn loss) = cache
put_by s cache (Now loss) = cache
put_by s cache (Moment moment) = cache

-- what events put into the cache of a server, in order
abbrev pub put_by_all : ℕ → Contents → List Scripted → Contents
put_by_all s cache [] = cache
put_by_all s cache (event ∷ events) = put_by_all s (put_by s cache event) events

-- the cache of a server before the run: a new one, with what the script puts there
abbrev pub opening_cache : List Scripted → ℕ → Contents
opening_cache events s = put_by_all s (empty capacity) events

-- what a server holds of a key before the run
abbrev pub opening_of : List Scripted → ℕ → List ℕ → Option Item
opening_of events s key = holds (opening_cache events s) key
