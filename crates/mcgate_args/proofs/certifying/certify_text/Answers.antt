use Rattle.mcgate_check.specs.Certifying.{Certifies}
use Rattle.mcgate_args.specs.Program.{WritesNothing}
use Rattle.mcgate_ends.specs.Ends.{NeverOverruns}
use Rattle.mcgate_ends.proofs.StopLemmas.{ran, never}
use Rattle.mcgate_args.proofs.certifying.certify_text.Goals as goal

pub returns : goal.returns
returns g c =
    ran Certifies WritesNothing NeverOverruns c.args.text.now _ _ c.run_certify.result c.ended.result c.ended.ensures c.run_certify.ensures.wrote c.run_certify.ensures.refused
    (never c.run_certify.result c.run_certify.ensures.status)
