use Rattle.std.proofs.lemmas.Result.{IfErr-weaker}
use Rattle.serve_links.proofs.Failing.{on_ok}
use Rattle.serve_proxy.proofs.Linking.{taken, not_taken, hindered_set}
use Rattle.serve_proxy.proofs.links.Links.let_wait.Goals as goal

pub returns-in-Some : goal.returns-in-Some
returns-in-Some c = record {
  ok = on_ok c.wait_for.result _ _ (λ takes. taken c.args.self.now.all.items c.args.at c.in-Some.link.now c.wait_for.new.link c.args.call c.in-Some.ensures.item.3.0 c.in-Some.ensures.value takes) c.wait_for.ensures.ok;
  err = IfErr-weaker c.wait_for.result _ _ (λ it did. not_taken c.args.self.now.all.items c.args.at c.in-Some.link.now c.wait_for.new.link c.args.call it.call c.in-Some.ensures.value did) c.wait_for.ensures.err;
  why = IfErr-weaker c.wait_for.result _ _ (λ it refused. λ since now. hindered_set it.why c.args.self.now.all.items c.args.at since now c.wait_for.new.link c.in-Some.ensures.item.3.0 (refused since now)) c.wait_for.ensures.why;
}
