use Rattle.std.proofs.Common.{None, refl}
use Rattle.serve_links.proofs.Walked.{from}
use Rattle.serve_proxy.proofs.Going.{core_of, go_from}
use Rattle.serve_proxy.proofs.GivenUp.{fails_of, wanted}
use Rattle.serve_proxy.proofs.proxy.ProxyEnd.drop_link.Goals as goal

pub returns-clause-core : goal.returns-clause-core
returns-clause-core g c = let given = core_of (c.shut_link.ensures.ends None refl) in from c.as_mut.ensures.value (fails_of None given.steps _ _ given.kinds given.walks)

pub returns-clause-ends : goal.returns-clause-ends
returns-clause-ends g c = go_from c.as_mut.ensures.value (wanted c.args.server (c.shut_link.ensures.ends None refl))
