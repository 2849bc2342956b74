use Rattle.route_job.proofs.Jobs.{end_is}
use Rattle.route_job.proofs.job.Job.into_done.Goals as goal

pub returns : goal.returns
returns c =
    let self = c.args.self in
    end_is self.hash self.ask.key self.frames.items self.ask self.pending self.made c.in-Back.done c.in-Back.is self.kept.rests
