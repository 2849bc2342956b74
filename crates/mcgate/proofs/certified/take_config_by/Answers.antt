use Rattle.mcgate.proofs.Declining.{given_back}
use Rattle.mcgate.proofs.certified.take_config_by.Goals as goal

pub returns-in-Err : goal.returns-in-Err
returns-in-Err g c =
    let given = c.in-Err.declined in
    given_back c.args.config given.config c.args.certificate.now given.why _ _ c.print_declined.result c.in-Err.ensures.refused.0 c.in-Err.ensures.refused.1 c.print_declined.ensures
