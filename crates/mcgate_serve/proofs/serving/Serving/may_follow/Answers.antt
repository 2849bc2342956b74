use Rattle.std.proofs.Common.{Option, sym, subst}
use Rattle.route_json.specs.Configuration.{Configuration}
use Rattle.mcgate_serve.specs.InFleet.{StandsBeside}
use Rattle.mcgate_serve.proofs.serving.Serving.may_follow.Goals as goal

pub returns-in_ok-may_follow-in-Some : goal.returns-in_ok-may_follow-in-Some
returns-in_ok-may_follow-in-Some g c = λ may. subst (λ (x : Option Configuration). StandsBeside x c.args.config.now) (sym c.in-Some.is) (c.in_ok-may_follow-in-Some.ensures.beside may)
