-- Which commands have a call out. Source: mcgate's own.
use Rattle.std.specs.Prelude.{Bool, true, false, if◌then◌else◌}
use Rattle.route_job.specs.declared.frame.Pending.TheVariants.{Enter, Call as Calling, Back}
use Rattle.route_job.specs.declared.frame.Pending.{Pending as NextStep}
use Rattle.core_commands.specs.declared.command.Command.{Command}

abbrev pub is_call : NextStep → Bool
is_call (Enter tree) = false
is_call (Calling server) = true
is_call (Back done) = false

-- a call of the command is out: the one that its job shows
abbrev pub has_call_out : Command → Bool
has_call_out command = if command.is_out then is_call command.job.pending else false
