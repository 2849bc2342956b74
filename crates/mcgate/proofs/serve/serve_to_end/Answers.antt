use Rattle.std.proofs.Common.{ap}
use Rattle.std.specs.Prelude.{string_bytes}
use Rattle.mcgate.proofs.Loads.{has_served, served_text, stays_fresh}
use Rattle.mcgate.proofs.serve.serve_to_end.Goals as goal

pub returns : goal.returns
returns g c =
    let last = c.tell_and_run-ended.new.self.end in
    let text = string_bytes c.args.started.text in
    let served = has_served c.args.servable text c.args.job.now.begun c.args.job.now.settings c.in_ok-serving.serving.end last c.in_ok-serving.ensures.begins (served_text c.in_ok-serving.serving.end last (ap string_bytes c.in_ok-serving.ensures.text) c.tell_and_run-ended.ensures.ends) c.logs_are_fresh.ensures.fresh c.logs_are_fresh.ensures.sound in
    record { served = served; fresh = stays_fresh c.args.servable text c.args.job.now.begun c.args.job.now.settings last served c.logs_are_fresh.ensures.fresh c.logs_are_fresh.ensures.sound }
