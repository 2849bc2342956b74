use Rattle.std.proofs.Common.{refl, ap, arith}
use Rattle.serve_links.specs.Links.{calls_out}
use Rattle.serve_proxy.proofs.Counting.{out_at, out_end, none_left, no_truth}
use Rattle.serve_proxy.proofs.links.Links.are_out.Goals as goal

pub loop-link-init : goal.loop-link-init
loop-link-init c = refl

pub loop-link-preserved : goal.loop-link-preserved
loop-link-preserved c = omega (arith, out_at c.as_slice-link-items.result.now c.loop-link.link-index c.link-item.result c.loop-link-test.true c.link-item.is, c.loop-link.invariant, c.in-Some.ensures)

pub returns-in-None : goal.returns-in-None
returns-in-None c = (λ f. absurd (no_truth f), λ e. absurd (omega (arith, out_at c.as_slice-link-items.result.now c.loop-link.link-index c.link-item.result c.loop-link-test.true c.link-item.is, c.loop-link.invariant, c.in-None.ensures, ap calls_out c.as_slice-link-items.ensures.value, e)))

pub returns : goal.returns
returns c = none_left (calls_out c.args.self.now.all.items) c.loop-link.left c.args.calls (omega (arith, out_end c.as_slice-link-items.result.now c.loop-link.link-index c.loop-link-test.false, c.loop-link.invariant, ap calls_out c.as_slice-link-items.ensures.value))
