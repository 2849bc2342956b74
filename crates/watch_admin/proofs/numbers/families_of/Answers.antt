use Rattle.std.proofs.Common.{List, subst}
use Rattle.watch_admin.specs.declared.numbers.CommandNumbers.{CommandNumbers}
use Rattle.watch_admin.specs.declared.numbers.ServerNumbers.{ServerNumbers}
use Rattle.watch_admin.specs.Told.{TellsCommands, TellsServers}
use Rattle.watch_admin.proofs.Told.{more_then, stays_among}
use Rattle.watch_admin.proofs.numbers.families_of.Goals as goal

pub returns-clause-clients : goal.returns-clause-clients
returns-clause-clients c =
    let rest = more_then _ _ _ c.in_ok-add_servers.ensures (more_then _ _ _ c.in_ok-add_calls_of_servers.ensures.adds c.in_ok-add_rest.ensures) in
    stays_among _ _ _ c.in_ok-add_clients.ensures.told
    (more_then _ _ _ c.in_ok-add_bad_messages.ensures.adds (more_then _ _ _ c.in_ok-add_begun.ensures.adds (more_then _ _ _ c.in_ok-add_commands.ensures.adds (more_then _ _ _ c.in_ok-add_command_times.ensures (more_then _ _ _ c.in_ok-add_all_calls.ensures.adds rest)))))

pub returns-clause-messages : goal.returns-clause-messages
returns-clause-messages c =
    let rest = more_then _ _ _ c.in_ok-add_servers.ensures (more_then _ _ _ c.in_ok-add_calls_of_servers.ensures.adds c.in_ok-add_rest.ensures) in
    stays_among _ _ _ c.in_ok-add_bad_messages.ensures.told
    (more_then _ _ _ c.in_ok-add_begun.ensures.adds (more_then _ _ _ c.in_ok-add_commands.ensures.adds (more_then _ _ _ c.in_ok-add_command_times.ensures (more_then _ _ _ c.in_ok-add_all_calls.ensures.adds rest))))

pub returns-clause-begun : goal.returns-clause-begun
returns-clause-begun c =
    let rest = more_then _ _ _ c.in_ok-add_servers.ensures (more_then _ _ _ c.in_ok-add_calls_of_servers.ensures.adds c.in_ok-add_rest.ensures) in
    stays_among _ _ _ c.in_ok-add_begun.ensures.told
    (more_then _ _ _ c.in_ok-add_commands.ensures.adds (more_then _ _ _ c.in_ok-add_command_times.ensures (more_then _ _ _ c.in_ok-add_all_calls.ensures.adds rest)))

pub returns-clause-commands : goal.returns-clause-commands
returns-clause-commands c =
    let rest = more_then _ _ _ c.in_ok-add_servers.ensures (more_then _ _ _ c.in_ok-add_calls_of_servers.ensures.adds c.in_ok-add_rest.ensures) in
    stays_among _ _ _ (subst (λ (commands : List CommandNumbers). TellsCommands commands c.add_commands.new.families.items) c.as_slice.ensures.value c.in_ok-add_commands.ensures.told)
    (more_then _ _ _ c.in_ok-add_command_times.ensures (more_then _ _ _ c.in_ok-add_all_calls.ensures.adds rest))

pub returns-clause-calls : goal.returns-clause-calls
returns-clause-calls c =
    let rest = more_then _ _ _ c.in_ok-add_servers.ensures (more_then _ _ _ c.in_ok-add_calls_of_servers.ensures.adds c.in_ok-add_rest.ensures) in
    (stays_among _ _ _ c.in_ok-add_all_calls.ensures.told.0 rest, stays_among _ _ _ c.in_ok-add_all_calls.ensures.told.1 rest)

pub returns-clause-servers : goal.returns-clause-servers
returns-clause-servers c =
    let told = subst (λ (servers : List ServerNumbers). TellsServers servers c.add_calls_of_servers.new.families.items) c.as_slice-servers.ensures.value c.in_ok-add_calls_of_servers.ensures.told in
    (stays_among _ _ _ told.0 c.in_ok-add_rest.ensures, stays_among _ _ _ told.1 c.in_ok-add_rest.ensures)

pub returns-clause-unplaced : goal.returns-clause-unplaced
returns-clause-unplaced c = stays_among _ _ _ c.in_ok-add_calls_of_servers.ensures.unplaced c.in_ok-add_rest.ensures
