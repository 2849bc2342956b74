use Rattle.std.proofs.Common.{ℕ, ◌<◌, refl, sym, subst}
use Rattle.serve_links.proofs.calls.calls.LinkCalls.is_late_at.Goals as goal

pub returns-in-Some : goal.returns-in-Some
returns-in-Some c =
    λ is. (c.args.at, c.in-Some.call.now, subst (λ (n : ℕ). c.args.at < n) c.args.self.now.sent.ok.0 (c.in-Some.ensures.variant.0 refl), sym c.in-Some.ensures.lookup, c.is_late.ensures is)
