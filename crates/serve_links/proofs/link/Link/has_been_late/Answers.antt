use Rattle.serve_links.proofs.Stalled.{waited}
use Rattle.serve_links.proofs.link.Link.has_been_late.Goals as goal

pub returns-in-Some : goal.returns-in-Some
returns-in-Some c = λ is. waited c.args.self.now.limits.call_ms c.args.self.now.late_since c.in-Some.since c.args.self.now.calls.sent.items c.in-Some.ensures.one (c.was_late.ensures is)
