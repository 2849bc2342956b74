use Rattle.std.proofs.Common.{◌≡◌, ℕ, ◌<◌, ◌≤◌, true, false, sym, ap, ◌∙◌, subst, arith, if◌then◌else◌}
use Rattle.core_commands.specs.declared.command.Command.{Command}
use Rattle.core_commands.specs.Out.{is_call, has_call_out}
use Rattle.core_commands.specs.Ready.{calls_at}
use Rattle.core_commands.proofs.Commands.{some_command, is_call_true, done_is_in}
use Rattle.core_commands.proofs.turns.turn_of.Goals as goal

pub returns-in-None : goal.returns-in-None
returns-in-None c = (c.in-Some.command.now, record { was = sym c.in-Some.ensures.value; own = (let f = c.if-command-client.false in grind (arith, f)); idle = done_is_in c.in-Some.command.now c.in-None.ensures.done }, c.in-None.ensures.done)

pub returns-then-command : goal.returns-then-command
returns-then-command c = λ a is own.
    subst (λ (b : Command). has_call_out b ≡ true) (some_command (c.in-Some.ensures.value ∙ is))
    (ap (λ b. if b then is_call c.in-Some.command.now.job.pending else false) c.if-command.true ∙ is_call_true c.in-Some.command.now.job.pending c.in-Some-server.ensures.call.0)

pub returns-then-calls_at-window : goal.returns-then-calls_at-window
returns-then-calls_at-window c = (
  c.in-Some.command.now,
  record { was = sym c.in-Some.ensures.value; own = (let f = c.if-command-client.false in grind (arith, f)); idle = ap (λ b. if b then is_call c.in-Some.command.now.job.pending else false) c.if-command.false },
  c.in-Some-server.ensures.call.0,
  subst (λ (s : ℕ). calls_at s c.args.commands.now < c.args.window) c.in-Some-server.ensures.call.1 (subst (λ (n : ℕ). n < c.args.window) c.calls_at.ensures c.if-calls_at-window.true),
)

pub returns-else-calls_at-window : goal.returns-else-calls_at-window
returns-else-calls_at-window c = (
  c.in-Some.command.now,
  record { was = sym c.in-Some.ensures.value; own = (let f = c.if-command-client.false in grind (arith, f)); idle = ap (λ b. if b then is_call c.in-Some.command.now.job.pending else false) c.if-command.false },
  c.in-Some-server.ensures.call.0,
  subst (λ (s : ℕ). c.args.window ≤ calls_at s c.args.commands.now) c.in-Some-server.ensures.call.1 (subst (λ (n : ℕ). c.args.window ≤ n) c.calls_at.ensures c.if-calls_at-window.false),
)
