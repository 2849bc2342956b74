use Rattle.std.proofs.Common.{◌≡◌, ℕ, false, List, [], ◌∷◌, Option, Some, None, MatchOption, refl, subst}
use Rattle.indexmap.specs.IndexMap as map
use Rattle.core_commands.specs.Counts.{HasAllCallsOut}
use Rattle.core_commands.specs.declared.command.Command.{Command}
use Rattle.core_client.specs.declared.client.Client.{Client}
use Rattle.core_client.specs.declared.client.Pending.{Pending}
use Rattle.core_proxy.specs.CoreState.{client_at}
use Rattle.core_proxy.specs.Resting.{AreNotFull}
use Rattle.core_proxy.proofs.Resting.{if_none, called_not_full}
use Rattle.core_proxy.proofs.proxy.Core.full.Goals as goal

-- where each command of the client has its call out, none waits for its server
none_full : {S : Type 0} (client window : ℕ) (commands : map.IndexMap ℕ Command S) → HasAllCallsOut client commands → (ps : List Pending) → AreNotFull client window commands ps
none_full client window commands out [] = tt
none_full client window commands out (pending ∷ rest) = (λ _. called_not_full client window commands pending.number (λ a was own. out pending.number a was own), none_full client window commands out rest)

client_waits : {S : Type 0} (client window : ℕ) (commands : map.IndexMap ℕ Command S) → HasAllCallsOut client commands → (o : Option Client) → MatchOption o ⊥ (λ x. x.dropped ≡ false) → MatchOption o ⊥ (λ x. AreNotFull client window commands x.queue.items)
client_waits client window commands out None served = served
client_waits client window commands out (Some x) served = none_full client window commands out x.queue.items

pub returns-then-is_all_out-clause-none : goal.returns-then-is_all_out-clause-none
returns-then-is_all_out-clause-none c =
    let core = c.args.self.now in
    client_waits c.args.client core.limits.window core.commands (c.if-is_all_out.ensures.out refl) (client_at core c.args.client) c.requires

pub returns-clause-none : goal.returns-clause-none
returns-clause-none c =
    let core = c.args.self.now in
    if_none c.first_full.result _ _ (λ h. subst (λ o. MatchOption o ⊥ (λ (x : Client). AreNotFull c.args.client core.limits.window core.commands x.queue.items)) c.in-Some.ensures h) c.first_full.ensures.none
