-- A command whose job is done, and what is told of it. Source: mcgate's own.
use Rattle.std.specs.Prelude.{◌≡◌, ◌↔◌, ℕ, [], Some, None, IsTrue, if◌then◌else◌, nat_eq}
use Rattle.mc_types.specs.Acknowledged.{Acknowledges}
use Rattle.mc_types.specs.Fits.{is_error}
use Rattle.mc_types.specs.declared.ask.Ask.{Ask}
use Rattle.mc_types.specs.declared.answer.Answer.{Answer}
use Rattle.route_tree.specs.Word.{Given}
use Rattle.route_job.specs.Jobs.{Comes, IsDone}
use Rattle.core_client.specs.declared.client.Client.{Client}
use Rattle.core_client.specs.Heads.{AnswersHead}
use Rattle.core_commands.specs.declared.command.Command.{Command}
use Rattle.core_proxy.specs.declared.note.Note.{Note}
use Rattle.core_proxy.specs.declared.finishing.EndedCommand.{EndedCommand}
use Rattle.core_proxy.specs.declared.proxy.Core.{Core}
use Rattle.core_proxy.specs.CoreState.{command_at}
use Rattle.core_commands.specs.Ready.{IsIdle}

-- a command of the client whose job is done, and of which no call is out
pub record CanEnd (core : Core) (client number : ℕ) : Type 0 where
  pub command : Command
  pub idle : IsIdle client core.commands number command
  pub done : IsDone command.job

-- what is told of a command of this number that ended with this reply
pub record IsNote (number : ℕ) (ask : Ask) (given : Given) (note : Note) (reply : Answer) : Type 0 where
  pub number_is : note.number ≡ number
  pub asked : note.ask ≡ ask
  pub from : note.from ≡ given.from
  pub reply_is : reply ≡ given.reply
  pub acknowledged : IsTrue note.acknowledged ↔ Acknowledges ask given.reply
  pub error : note.is_error ≡ is_error given.reply

-- the reply of the command of this number, whose job is done, came to its client and was shown: what is told of the command
pub record ShowsDone (number : ℕ) (command : Command) (x : Client) (told : EndedCommand) (y : Client) : Type 0 where
  pub given : Given
  pub done : Comes command.job [] given
  pub shown : AnswersHead x number given.reply y
  pub from : told.from ≡ given.from
  pub acknowledged : IsTrue told.acknowledged ↔ Acknowledges command.ask given.reply
  pub error : told.is_error ≡ is_error given.reply

-- the command of this number, which has this ask, is taken out, and nothing else changes
pub record TakesAway (old : Core) (number : ℕ) (ask : Ask) (new : Core) : Type 0 where
  pub command : Command
  pub was : command_at old number ≡ Some command
  pub ask_is : ask ≡ command.ask
  pub gone : (n : ℕ) → command_at new n ≡ (if nat_eq number n then None else command_at old n)
  pub core_is : new ≡ record old { commands = new.commands }
