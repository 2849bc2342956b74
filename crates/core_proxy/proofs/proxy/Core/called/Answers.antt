use Rattle.std.proofs.Common.{◌≡◌, ℕ, Option, Some, None, IfSome, sym}
use Rattle.core_commands.specs.declared.command.Command.{Command}
use Rattle.core_commands.specs.declared.ticket.OutCall.{OutCall}
use Rattle.core_proxy.specs.CoreState.{command_at}
use Rattle.core_proxy.specs.Settles.{IsOutAs, IsCalled}
use Rattle.core_proxy.specs.declared.proxy.Core.{Core}
use Rattle.core_proxy.proofs.proxy.Core.called.Goals as goal

-- a call of a command that is there is a call of the core
called_there : (core : Core) (number : ℕ) (command : Command) (out : Option OutCall) → command_at core number ≡ Some command → IfSome out (λ call. IsOutAs command call.server call.ask.now call.origin) → IfSome out (λ call. IsCalled core number call.server call.ask.now call.origin)
called_there core number command None was is = tt
called_there core number command (Some call) was is = record { command = command; was = was; is = is }

pub returns-in-Some : goal.returns-in-Some
returns-in-Some c = called_there c.args.self.now c.args.number c.in-Some.command.now c.called.result (sym c.in-Some.ensures.value) c.called.ensures
