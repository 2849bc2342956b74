-- Each log of a core on sound generations is fresh.
use Rattle.core_accepted.proofs.Keeping as keeping
use Rattle.fresh_theory.specs.Grown.{GrownLogsAreFresh}

pub grown_logs_are_fresh : GrownLogsAreFresh
grown_logs_are_fresh = keeping.grown_logs_are_fresh
