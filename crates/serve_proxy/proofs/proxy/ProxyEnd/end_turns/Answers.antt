use Rattle.serve_proxy.proofs.Going.{go_from, core_of}
use Rattle.serve_proxy.proofs.proxy.ProxyEnd.end_turns.Goals as goal

pub returns : goal.returns
returns g c = let e = go_from c.as_mut.ensures.value c.send_clients.ensures.ends in record { core = core_of e; ends = e }
