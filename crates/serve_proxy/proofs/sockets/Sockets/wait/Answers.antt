use Rattle.serve_proxy.proofs.Going.{and_then, stays}
use Rattle.serve_proxy.proofs.Staying.{stay_then}
use Rattle.serve_proxy.proofs.Told.{stay_same}
use Rattle.serve_proxy.proofs.sockets.Sockets.wait.Goals as goal

pub returns-in_err-count : goal.returns-in_err-count
returns-in_err-count g c = record { ends = λ core. stays core (stay_same _ _ _ _ c.wait.ensures) }

pub loop-at-init : goal.loop-at-init
loop-at-init g c = stay_same _ _ _ _ c.wait.ensures

pub loop-at-preserved : goal.loop-at-preserved
loop-at-preserved g c = stay_then c.loop-at.invariant c.note_report.ensures.ends

pub returns : goal.returns
returns g c = record { ends = λ core. and_then (stays core c.loop-at.invariant) (c.look.ensures.ends core) }
