use Rattle.std.proofs.Common.{ap, ◌∙◌}
use Rattle.std.proofs.lemmas.Result.{on_err_weaker}
use Rattle.std.specs.Box.{with_value}
use Rattle.serve_proxy.proofs.Going.{and_then, core_of, go_from}
use Rattle.serve_proxy.proofs.proxy.ProxyEnd.turn_within.Goals as goal

pub returns-in_err-limit-clause-core : goal.returns-in_err-limit-clause-core
returns-in_err-limit-clause-core g c = core_of (c.wait_limit.ensures.ends c.args.self.now.core.value)

pub returns-in_err-limit-clause-ends : goal.returns-in_err-limit-clause-ends
returns-in_err-limit-clause-ends g c = c.wait_limit.ensures.ends c.args.self.now.core.value

pub returns-clause-core : goal.returns-clause-core
returns-clause-core g c = core_of (and_then (c.wait_limit.ensures.ends c.args.self.now.core.value) (go_from c.as_mut.ensures.value c.run_turn.ensures.ends))

pub returns-clause-ends : goal.returns-clause-ends
returns-clause-ends g c = and_then (c.wait_limit.ensures.ends c.args.self.now.core.value) (go_from c.as_mut.ensures.value c.run_turn.ensures.ends)

pub returns-clause-refused : goal.returns-clause-refused
returns-clause-refused g c = on_err_weaker c.run_turn.result (λ e. ap (λ v. with_value c.args.self.now.core v) (e ∙ c.as_mut.ensures.value)) c.run_turn.ensures.refused

pub returns-clause-bounded : goal.returns-clause-bounded
returns-clause-bounded g c = c.run_turn.ensures.bounded

pub returns-clause-share : goal.returns-clause-share
returns-clause-share g c = c.run_turn.ensures.share
