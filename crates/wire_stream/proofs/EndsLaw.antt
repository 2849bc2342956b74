-- A message ends with the reply to its last key, at the latest.
use Rattle.std.proofs.Common.{◌≡◌, Bool, true, false, ◌||◌, refl}
use Rattle.fresh_runs.specs.Overlap.{is_last_slot}
use Rattle.fresh_runs.specs.OverlapStream.{EndsWithLast}
use Rattle.wire_stream.specs.TextProtocol.{memcached_text}
use Rattle.wire_stream.specs.Replies.{is_failure}

or_right : (a b : Bool) → b ≡ true → (a || b) ≡ true
or_right true b h = refl
or_right false b h = h

pub ends_with_last : EndsWithLast memcached_text
ends_with_last slot reply last = or_right (is_failure reply) (is_last_slot slot) last
