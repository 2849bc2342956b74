use Rattle.serve_links.specs.Unsent.{IsRefused}
use Rattle.serve_links.proofs.Refused.{refused_anew, first_is}
use Rattle.serve_links.proofs.link.Link.next_too_late.Goals as goal

pub returns-clause-refused : goal.returns-clause-refused
returns-clause-refused c =
    refused_anew c.in_ok-why.why c.in_ok-call.call.since c.args.now c.args.self.now c.next_waiting.new.self c.next_waiting.ensures.rest
    (first_is (λ call. IsRefused c.in_ok-why.why call.since c.args.now c.args.self.now) c.args.self.now.waiting c.next_waiting.new.self.waiting c.in_ok-call.call c.in_ok-call.ensures.waiting c.in_ok-why.ensures.refused)
