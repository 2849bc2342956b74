use Rattle.serve_proxy.proofs.Going.{still, go_then, go_stay}
use Rattle.serve_proxy.proofs.Staying.{stay_links}
use Rattle.serve_proxy.proofs.sockets.Sockets.drain_now.Goals as goal

pub loop-init : goal.loop-init
loop-init g c = λ core. still

pub loop-preserved : goal.loop-preserved
loop-preserved g c = go_then c.loop.invariant c.drain_once.ensures.ends

pub returns-then-not-drain_once : goal.returns-then-not-drain_once
returns-then-not-drain_once g c = record { ends = go_stay (go_then c.loop.invariant c.drain_once.ensures.ends) (stay_links _ _ _ _ c.note_limit.ensures.lines) }

pub returns : goal.returns
returns g c = record { ends = go_stay (go_stay c.loop.invariant (stay_links _ _ _ _ c.note_limit-2.ensures.lines)) (stay_links _ _ _ _ c.mark_ready.ensures.lines) }
