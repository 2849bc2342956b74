-- Commands of a client for whom nothing is done any more, broken off one after another.
use Rattle.std.proofs.Common.{◌≡◌, ℕ, Bool, true, false, cond, not, List, [], ◌∷◌, ◌++◌, Option, Some, None, refl, sym, ap, ◌∙◌, subst, nat_eq}
use Rattle.std.proofs.lemmas.Bool.{eqb-true}
use Rattle.std.specs.Prelude.{IsSome}
use Rattle.slab.specs.Slab as slab
use Rattle.slab.proofs.SlabLemmas.{Updates-with_value}
use Rattle.indexmap.specs.IndexMap as map
use Rattle.fresh_runs.specs.Overlap as log
use Rattle.core_client.specs.declared.client.Client.{Client}
use Rattle.core_commands.specs.declared.command.Command.{Command}
use Rattle.core_proxy.specs.declared.proxy.Core.{Core}
use Rattle.core_proxy.specs.CoreState.{client_at, command_at}
use Rattle.core_client.specs.ClientState.{dropped_by}
use Rattle.core_proxy.specs.Settles.{is_idle, HasIdle, asked_by, freed, FreesSome, DropsBy, TakesOut}
use Rattle.core_proxy.specs.Ending.{Drops}
use Rattle.core_commands.specs.declared.key_lines.Standing.{Standing}
use Rattle.core_commands.specs.Lines as line
use Rattle.core_proxy.proofs.Chains.{Then, goes_then, goes_as, goes_nowhere}
use Rattle.core_proxy.proofs.Clients.{others_by}
use Rattle.core_commands.proofs.Commands.{no_command}
use Rattle.core_proxy.proofs.Ending.{frees}

-- an idle command is its client's, and no call of it is out
idle_parts : (client : ℕ) (command : Command) → is_idle client command ≡ true → (command.client ≡ client) × (command.is_out ≡ false)
idle_parts client command e =
    (elim (nat_eq command.client client) as (λ b. nat_eq command.client client ≡ b → cond b (not command.is_out) false ≡ true → (command.client ≡ client) × (command.is_out ≡ false)) [
      | true ↦ λ same e. (eqb-true command.client client same, off command.is_out e)
      | false ↦ λ _ e. absurd cc
    ]) refl e
  where
    off : (b : Bool) → not b ≡ true → b ≡ false
    off true e = sym e
    off false e = refl

-- who is dropped is there
pub dropped_is : (o : Option Client) → dropped_by o ≡ true → (x : Client) × (o ≡ Some x) × (x.dropped ≡ true)
dropped_is None e = absurd cc
dropped_is (Some x) e = (x, refl, e)

pub none_yet : (core : Core) (client : ℕ) → FreesSome core client core
none_yet core client = record { numbers = []; idle = tt; goes = λ _. goes_nowhere core; kept = λ n command e. e; calls = λ n. refl; clients = λ c. refl; tree = refl; limits = refl; number = refl; lines = refl }

none_asked : (a : Command) → a.is_out ≡ false → asked_by (Some a) ≡ None
none_asked a off = rw off refl

-- one more command of the client is broken off
pub one_more : (old now new : Core) (client n : ℕ) → FreesSome old client now → HasIdle client now.commands n → ((m : ℕ) → command_at new m ≡ cond (nat_eq n m) None (command_at now m)) → ((c : ℕ) → client_at new c ≡ client_at now c) → new.tree ≡ now.tree → new.limits ≡ now.limits → new.number ≡ now.number → new.lines ≡ now.lines → FreesSome old client new
one_more old now new client n some idle commands clients tree limits number lines =
    let a = idle.0 in
    let parts = idle_parts client a idle.2 in
    record {
      numbers = n ∷ some.numbers;
      idle = ((a, some.kept n a idle.1, idle.2), some.idle);
      goes = λ dropped.
          let x = dropped_is (client_at old client) dropped in
          goes_as old new (Then (λ entries. entries ≡ freed some.numbers) (λ entries. entries ≡ log.Frees n ∷ [])) (λ entries. entries ≡ freed (n ∷ some.numbers))
          (λ entries t. t.4 ∙ (λ i. t.3 i ++ t.2 i))
          (goes_then old now new (λ entries. entries ≡ freed some.numbers) (λ entries. entries ≡ log.Frees n ∷ []) (some.goes dropped) (frees now new n a x.0 (record {
            was = idle.1;
            idle = parts.1;
            client_was = ap (client_at now) parts.0 ∙ some.clients client ∙ x.1;
            dropped = x.2;
            clients = clients;
            commands = commands;
            tree = tree;
            limits = limits;
            number_is = number;
          })));
      kept = λ m command e.
          some.kept m command ((elim (nat_eq n m) as (λ b. cond b None (command_at now m) ≡ Some command → command_at now m ≡ Some command) [
            | true ↦ λ e. no_command e
            | false ↦ λ e. e
          ]) (sym (commands m) ∙ e));
      calls = λ m.
          ap asked_by (commands m) ∙ (elim (nat_eq n m) as (λ b. nat_eq n m ≡ b → asked_by (cond b None (command_at now m)) ≡ asked_by (command_at now m)) [
            | true ↦ λ same. sym (subst (λ k. asked_by (command_at now k) ≡ None) (eqb-true n m same) (ap asked_by idle.1 ∙ none_asked a parts.1))
            | false ↦ λ _. refl
          ]) refl ∙ some.calls m;
      clients = λ c. clients c ∙ some.clients c;
      tree = tree ∙ some.tree;
      limits = limits ∙ some.limits;
      number = number ∙ some.number;
      lines = lines ∙ some.lines;
    }

-- a command was taken out, and its client was written, which left its line
pub taken_out :
    (old : Core) (commands : _) (lines : List Standing) (number client : ℕ) (x y : Client) → client_at old client ≡ Some x → Drops x y
    → ((n : ℕ) → map.get nat_eq commands n ≡ cond (nat_eq number n) None (command_at old n))
    → lines ≡ line.others client old.lines
    → TakesOut old number client (record old { clients = slab.with_value old.clients client y; commands = commands; lines = lines })
taken_out old commands lines number client x y was drops gone left =
    let u = Updates-with_value old.clients client y (subst IsSome (sym was) refl) in
    record {
      commands = gone;
      client_is = subst (λ o. DropsBy o (slab.get (slab.with_value old.clients client y) client)) (sym was) (y, u.changed, drops);
      others = others_by client old.clients (slab.with_value old.clients client y) u.others;
      tree = refl;
      limits = refl;
      number_is = refl;
      lines = left;
    }
