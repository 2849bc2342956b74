use Rattle.std.proofs.Common.{refl, inr, length}
use Rattle.serde_json.specs.View.{view}
use Rattle.serve_links.specs.Lateness.{usual_limits}
use Rattle.serve_proxy.proofs.Growing.{load_none}
use Rattle.mcgate_serve.proofs.Loads.{stay_loads, loads_by}
use Rattle.mcgate_serve.proofs.LookedUp.{looked_as}
use Rattle.mcgate_serve.proofs.serving.Serving.load.Goals as goal

pub returns-in_err-resolve-clause-ends : goal.returns-in_err-resolve-clause-ends
returns-in_err-resolve-clause-ends g c = stay_loads g.W.Wire.history c.args.self.now.end.sockets c.resolve.new.sockets c.resolve.ensures.ends (load_none c.resolve.new.sockets refl)

pub returns-in_err-print_loaded-in-Ok-clause-ends : goal.returns-in_err-print_loaded-in-Ok-clause-ends
returns-in_err-print_loaded-in-Ok-clause-ends g c = loads_by c.link_limits.result (usual_limits c.args.job.now.settings) (view c.args.said.now) c.link_limits.ensures (stay_loads g.W.Wire.history c.args.self.now.end.sockets c.resolve.new.sockets c.resolve.ensures.ends c.load.ensures.ends)

pub returns-in_err-print_kept-in-Err-clause-ends : goal.returns-in_err-print_kept-in-Err-clause-ends
returns-in_err-print_kept-in-Err-clause-ends g c = loads_by c.link_limits.result (usual_limits c.args.job.now.settings) (view c.args.said.now) c.link_limits.ensures (stay_loads g.W.Wire.history c.args.self.now.end.sockets c.resolve.new.sockets c.resolve.ensures.ends c.load.ensures.ends)

pub returns-in_ok-print_loaded-in-Ok-clause-ends : goal.returns-in_ok-print_loaded-in-Ok-clause-ends
returns-in_ok-print_loaded-in-Ok-clause-ends g c = loads_by c.link_limits.result (usual_limits c.args.job.now.settings) (view c.args.said.now) c.link_limits.ensures (stay_loads g.W.Wire.history c.args.self.now.end.sockets c.resolve.new.sockets c.resolve.ensures.ends c.load.ensures.ends)

pub returns-in_ok-print_kept-in-Err-clause-ends : goal.returns-in_ok-print_kept-in-Err-clause-ends
returns-in_ok-print_kept-in-Err-clause-ends g c = loads_by c.link_limits.result (usual_limits c.args.job.now.settings) (view c.args.said.now) c.link_limits.ensures (stay_loads g.W.Wire.history c.args.self.now.end.sockets c.resolve.new.sockets c.resolve.ensures.ends c.load.ensures.ends)

pub returns-in_ok-print_kept-in-Err-clause-unused : goal.returns-in_ok-print_kept-in-Err-clause-unused
returns-in_ok-print_kept-in-Err-clause-unused g c = inr c.in-Err.ensures.refused

pub returns-in_ok-print_loaded-in-Ok-clause-looked : goal.returns-in_ok-print_loaded-in-Ok-clause-looked
returns-in_ok-print_loaded-in-Ok-clause-looked g c = λ used. looked_as g.W.Wire.history (length c.args.self.now.servers) c.args.servers c.resolve.new.sockets.wire c.load.new.self.sockets.wire c.load.ensures.wire c.in_ok-resolve.ensures.looked

pub returns-in_ok-print_loaded-in-Ok-clause-loaded : goal.returns-in_ok-print_loaded-in-Ok-clause-loaded
returns-in_ok-print_loaded-in-Ok-clause-loaded g c = λ used. (c.in-Ok.generation, c.in-Ok.ensures.loaded)
