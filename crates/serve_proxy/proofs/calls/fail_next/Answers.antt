use Rattle.std.proofs.Common.{◌≡◌, true, false, refl, sym, ◌∙◌}
use Rattle.serve_proxy.proofs.Going.{and_then, stays}
use Rattle.serve_proxy.proofs.Staying.{stay_links}
use Rattle.serve_proxy.proofs.calls.fail_next.Goals as goal

true_false : true ≡ false → ⊥
true_false e = cc

pub returns-in-None : goal.returns-in-None
returns-in-None g c = record { ends = stays c.args.core.now (stay_links _ _ _ _ c.in-None.ensures.call); late = λ is. absurd (let no = is in cc no); none = λ is. refl }

pub returns-in-Some : goal.returns-in-Some
returns-in-Some g c = record { ends = and_then (c.in-Some.ensures.call (g.W.Wire.history c.args.sockets.now.wire) c.args.sockets.now.clients c.args.core.now) c.refuse_waited.ensures.ends; late = λ is. c.in-Some.ensures.late refl; none = λ is. absurd (true_false (sym c.refuse_waited.ensures.told ∙ is)) }
