use Rattle.std.proofs.Common.{subst}
use Rattle.core_commands.specs.declared.turns.Turn.{Turn}
use Rattle.core_commands.specs.Ready.{IsCommandTurn}
use Rattle.core_proxy.proofs.Resting.{calling_is_idle}
use Rattle.core_proxy.proofs.proxy.Core.act.Goals as goal

pub send-requires-clause-can : goal.send-requires-clause-can
send-requires-clause-can c =
    let t = subst (λ (turn : Turn). IsCommandTurn c.args.client c.args.self.now.limits.window c.args.self.now.commands c.args.number turn) c.in-Sends.is c.requires.turn in
    record { command = t.0; was = t.1.was; idle = calling_is_idle t.0 t.2 t.1.idle; calling = t.2 }

pub finish-requires-clause-done : goal.finish-requires-clause-done
finish-requires-clause-done c =
    let t = subst (λ (turn : Turn). IsCommandTurn c.args.client c.args.self.now.limits.window c.args.self.now.commands c.args.number turn) c.in-Ends.is c.requires.turn in
    record { command = t.0; idle = t.1; done = t.2 }
