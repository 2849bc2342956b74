use Rattle.std.proofs.Common.{◌+◌}
use Rattle.route_job.specs.Settling.{frames_work, pending_work}
use Rattle.route_job.proofs.walk.+settle.Given as goal

abbrev pub decreases-settle : goal.decreases-settle
decreases-settle l = frames_work l.hash l.ask.now.key l.frames.now.items + pending_work l.hash l.ask.now.key l.pending
