use Rattle.std.proofs.Common.{refl}
use Rattle.serve_proxy.proofs.Growing.{adds_none, adds_one}
use Rattle.serve_proxy.proofs.Emptied.{adds_no, adds_it}
use Rattle.serve_proxy.proofs.links.Links.add_one.Goals as goal

pub returns-in_err-link-clause-adds : goal.returns-in_err-link-clause-adds
returns-in_err-link-clause-adds c = adds_none _ _ refl

pub returns-in_err-push-clause-adds : goal.returns-in_err-push-clause-adds
returns-in_err-push-clause-adds c = adds_none _ _ c.in_err-push.ensures.items

pub returns-clause-adds : goal.returns-clause-adds
returns-clause-adds c = adds_one _ _ c.in_ok-link.link c.in_ok-push.ensures.items c.in_ok-link.ensures.down c.in_ok-link.ensures.drained c.in_ok-link.ensures.late c.in_ok-link.ensures.awaits c.in_ok-link.ensures.dialect c.in_ok-link.ensures.opened c.in_ok-link.ensures.lost

pub returns-in_err-link-clause-emptied : goal.returns-in_err-link-clause-emptied
returns-in_err-link-clause-emptied c = adds_no _ _ _ refl

pub returns-in_err-push-clause-emptied : goal.returns-in_err-push-clause-emptied
returns-in_err-push-clause-emptied c = adds_no _ _ _ c.in_err-push.ensures.items

pub returns-clause-emptied : goal.returns-clause-emptied
returns-clause-emptied c = adds_it _ _ _ c.in_ok-link.link c.in_ok-push.ensures.items c.in_ok-link.ensures.flushes
