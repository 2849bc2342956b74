-- Which scripts step their calls: commands overlap in them, or answers come in part. Source: mcgate's own.
use Rattle.std.specs.Prelude.{Bool, true, false, List}
use Rattle.std.specs.List.{list_any}
use Rattle.script_events.specs.Scripted.{Manner, Before, After, Junk, Cut, Scripted, Piece, Add, Result, Fail, Hold, At, Now, Moment}

-- a call fails so by the bytes of its answer
abbrev pub is_by_bytes : Manner → Bool
is_by_bytes Before = false
is_by_bytes After = false
is_by_bytes Junk = true
is_by_bytes (Cut count) = true

-- with this event a call stays out or has its result by hand, or is to fail by the bytes of its answer
abbrev pub is_step : Scripted → Bool
is_step (Piece client bytes) = false
is_step (Add client bytes) = true
is_step (Result server) = true
is_step (Fail turn manner) = is_by_bytes manner
is_step (Hold server key content) = false
is_step (At turn loss) = false
is_step (Now loss) = false
is_step (Moment moment) = false

-- with one of these events a call stays out or has its result by hand, or is to fail by the bytes of its answer
abbrev pub is_stepped : List Scripted → Bool
is_stepped events = list_any is_step events
