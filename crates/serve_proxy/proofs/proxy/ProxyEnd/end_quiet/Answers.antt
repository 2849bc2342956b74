use Rattle.serve_proxy.proofs.Going.{core_of, go_from}
use Rattle.serve_proxy.proofs.proxy.ProxyEnd.end_quiet.Goals as goal

pub returns : goal.returns
returns g c = let e = go_from c.as_mut.ensures.value c.end_quiet.ensures.ends in record { core = core_of e; ends = e }
