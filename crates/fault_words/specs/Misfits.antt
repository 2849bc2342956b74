-- Why an event that can't be is none. Source: mcgate's own.
use Rattle.std.specs.Prelude.{ℕ, ◌+◌, nat_lt, nat_le, ◌==◌, List, take, length, Option, Some, None, sum_by, if◌then◌else◌}
use Rattle.mc_types.specs.Asks.{data_limit}
use Rattle.script_events.specs.Scripted.{Scripted, Piece, Add, Result, Fail, Hold, At, Now, Moment}
use Rattle.script_events.specs.Bad.{last_client, piece_limit, len_of, loser_of, first_bad}
use Rattle.fault_words.specs.declared.script.misfit.Misfit.{Misfit}
use Rattle.fault_words.specs.declared.script.misfit.Misfit.TheVariants.{NoClient, NoServer, TurnZero, BeforeZero, TooMuch, AddsTooMuch, TooLong, TooLate}

-- why an event that can't be over so many servers, with so many bytes in the pieces before it, is none: the first of its faults
abbrev pub misfit_of : ℕ → ℕ → Scripted → Misfit
misfit_of servers before (Piece client bytes) = if nat_lt last_client client then NoClient client else TooMuch
misfit_of servers before (Add client bytes) = if nat_lt last_client client then NoClient client else if nat_lt piece_limit (before + length bytes) then TooMuch else AddsTooMuch
misfit_of servers before (Result server) = NoServer server
misfit_of servers before (Fail turn manner) = TurnZero
misfit_of servers before (Hold server key content) = if nat_le servers server then NoServer server else if nat_lt data_limit (length content) then TooLong else TooLate
misfit_of servers before (At turn loss) = if turn == 0 then TurnZero else NoServer (loser_of loss)
misfit_of servers before (Now loss) = NoServer (loser_of loss)
misfit_of servers before (Moment moment) = BeforeZero

-- how many bytes the events before a place have in their pieces; none where no place is named
abbrev pub bytes_before : Option ℕ → List Scripted → ℕ
bytes_before None events = 0
bytes_before (Some at) events = sum_by len_of (take at events)

-- how many bytes came before the first event that can't be
abbrev pub bytes_before_bad : ℕ → List Scripted → ℕ
bytes_before_bad servers events = bytes_before (first_bad servers events) events
