-- What is kept of the request at the front of a client's bytes. Source: mcgate's own.
use Rattle.std.specs.Prelude.{◌≡◌, Option, Some, None}
use Rattle.wire_stream.specs.Asks.{IsWalk, request_of, taken_of}
use Rattle.wire_stream.specs.declared.requests.reader.Read.TheVariants.{Request as Requests}
use Rattle.wire_parts.specs.Stream.{Place}
use Rattle.wire_stream.specs.Held.{bytes_at, IsReadAt}
use Rattle.wire_stream.specs.declared.connection.client_stream.Walk.{Walk}

-- a walk over the asks of the request that is read at a place
pub record IsWalkAt (place : Place) (walk : Walk) : Type 0 where
  pub read : IsReadAt place (Requests walk.request)
  pub asks : IsWalk (bytes_at place) walk.asks
  pub request : request_of walk.asks ≡ walk.request
  pub taken : taken_of walk.asks ≡ walk.taken

-- where a walk is kept, it is one over the request at the front
abbrev pub WalkIsKept : Place → Option Walk → Type 0
WalkIsKept place None = Unit {0}
WalkIsKept place (Some walk) = IsWalkAt place walk
