use Rattle.std.proofs.Common.{ap, ◌∙◌}
use Rattle.mc_types.specs.declared.call.Origin.TheVariants.{Client}
use Rattle.route_job.specs.Rest.{ask_under, origin_under}
use Rattle.route_job.proofs.Jobs.{next_call, end_is, is_reply}
use Rattle.route_job.proofs.job.Job.next.Goals as goal

pub returns-in-Call : goal.returns-in-Call
returns-in-Call c =
    let is = next_call c.args.self.now.hash c.args.self.now.ask.key c.args.self.now.frames.items c.args.self.now.ask c.args.self.now.pending c.args.self.now.made c.in-Call.server c.in-Call.is in
    (is.0, is.1, c.ask_under.ensures ∙ ap (λ l. ask_under l c.args.self.now.ask) c.as_slice.ensures.value, c.origin_under.ensures ∙ ap (λ l. origin_under l Client) c.as_slice-in-Call.ensures.value, is.2)

pub returns-in-Back : goal.returns-in-Back
returns-in-Back c =
    let self = c.args.self.now in
    (is_reply self.pending c.in-Back.done c.in-Back.is, end_is self.hash self.ask.key self.frames.items self.ask self.pending self.made c.in-Back.done c.in-Back.is self.kept.rests)
