-- A command whose reply was shown as it came ended, and its reply was shown after that.
use Rattle.std.proofs.Common.{◌≡◌, ℕ, true, false, cond, Some, None, refl, sym, ◌∙◌, nat_eq}
use Rattle.slab.specs.Slab as slab
use Rattle.mc_types.specs.declared.ask.Ask.{Ask}
use Rattle.core_client.specs.declared.client.Client.{Client}
use Rattle.core_proxy.specs.declared.finishing.EndedCommand.{EndedCommand}
use Rattle.core_proxy.specs.declared.note.Note.{Note}
use Rattle.core_proxy.specs.declared.proxy.Core.{Core}
use Rattle.core_proxy.specs.CoreState.{client_at, command_at, GoesByEntries}
use Rattle.core_proxy.specs.Finishing.{CanEnd, IsNote, ShowsDone}
use Rattle.core_proxy.specs.Polls.{CommandIsEnded, AreShown, EntriesThen}
use Rattle.core_proxy.proofs.Chains.{goes_then}
use Rattle.core_proxy.proofs.Clients.{written}
use Rattle.core_proxy.proofs.Polls.{ended_goes, shown_goes}

-- between the two the core has the reply at the client's place, and the command no more
pub shown_at_once :
    (old new : Core) (client number : ℕ) (x y : Client) (can : CanEnd old client number) (told : EndedCommand) (ask : Ask) (note : Note) (shows : ShowsDone number can.command x told y)
    → client_at old client ≡ Some x → client_at new client ≡ Some y → ((c : ℕ) → nat_eq client c ≡ false → client_at new c ≡ client_at old c) → x.dropped ≡ false
    → ask ≡ can.command.ask → IsNote number ask shows.given note shows.given.reply
    → ((n : ℕ) → command_at new n ≡ cond (nat_eq number n) None (command_at old n)) → new.tree ≡ old.tree → new.limits ≡ old.limits → new.number ≡ old.number
    → GoesByEntries old (EntriesThen (CommandIsEnded client note) (AreShown client)) new
shown_at_once old new client number x y can told ask note shows was here others served ask_is is_note commands tree limits number_is =
    let s = shows.shown in
    let mid : Core = record old { clients = slab.with_value old.clients client s.between; commands = new.commands } in
    let w = written old client x s.between was in
    goes_then old mid new (CommandIsEnded client note) (AreShown client)
    (ended_goes old mid client number x s.between can s.place s.is shows.given ask note shows.given.reply was w.is w.others served shows.done ask_is is_note s.answers commands refl refl refl)
    (shown_goes mid new client s.between y true (record { was = w.is; is = here; others = λ c differs. others c differs ∙ sym (w.others c differs); commands = λ n. refl; tree = tree; limits = limits; number = number_is }) (s.answers.dropped ∙ served) s.shows).0
