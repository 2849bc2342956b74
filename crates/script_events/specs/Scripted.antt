-- What a script's events and a transcript's entries are in a log, and what ends a script before its last event. Source: mcgate's own.
use Rattle.std.specs.Prelude.{List, map}
use Rattle.script_events.specs.declared.servers.event.Loss.{Loss as Lost}
use Rattle.script_events.specs.declared.servers.event.Loss.TheVariants as losses
use Rattle.script_events.specs.declared.servers.event.FleetFault.{FleetFault}
use Rattle.script_events.specs.declared.servers.event.FleetFault.TheVariants as fleet_faults
use Rattle.script_events.specs.declared.script.Event.{Event}
use Rattle.script_events.specs.declared.script.Event.TheVariants as events
use Rattle.script_events.specs.declared.script.Output.{Output}
use Rattle.script_events.specs.declared.script.Transcript.{Transcript}
use Rattle.script_events.specs.declared.script.DriveFault.{DriveFault}
use Rattle.script_events.specs.declared.script.DriveFault.TheVariants.{NoMemory, Spent}
pub use Rattle.fresh_runs.specs.Log.{Manner, Before, After, Junk, Cut, Loss, Lose, Restart, Scripted, Piece, Add, Result, Fail, Hold, At, Now, Moment, Shown}
pub use Rattle.script_events.specs.Servers.{manner_of}

-- what is lost
abbrev pub loss_of : Lost → Loss
loss_of (losses.Item server key) = Lose server key
loss_of (losses.Restart server) = Restart server

-- what an event says
abbrev pub scripted_of : Event → Scripted
scripted_of (events.Piece client bytes) = Piece client bytes.items
scripted_of (events.Add client bytes) = Add client bytes.items
scripted_of (events.Result server) = Result server
scripted_of (events.Hold server key content) = Hold server key content.items
scripted_of (events.Fail turn manner) = Fail turn (manner_of manner)
scripted_of (events.At turn loss) = At turn (loss_of loss)
scripted_of (events.Now loss) = Now (loss_of loss)
scripted_of (events.Moment moment) = Moment moment

abbrev pub output_shown : Output → Shown
output_shown output = record { client = output.client; bytes = output.bytes.items }

abbrev pub transcript_of : Transcript → List Shown
transcript_of transcript = map output_shown transcript.shown.items

-- what a fault of the servers is to the script
abbrev pub drive_fault_of : FleetFault → DriveFault
drive_fault_of fleet_faults.NoMemory = NoMemory
drive_fault_of fleet_faults.Spent = Spent
