use Rattle.std.proofs.lemmas.Result.{IfErr-weaker}
use Rattle.serve_links.proofs.Failing.{on_ok}
use Rattle.serve_proxy.proofs.Linking.{taken, not_taken, awaited_at, hindered_set}
use Rattle.serve_proxy.proofs.links.Links.write_call.Goals as goal

pub returns-in-Some : goal.returns-in-Some
returns-in-Some c = record {
  ok = on_ok c.write_to.result _ _ (λ takes. taken c.args.self.now.all.items c.args.at c.in-Some.link.now c.write_to.new.link c.args.call c.in-Some.ensures.item.3.0 c.in-Some.ensures.value takes) c.write_to.ensures.ok;
  awaited = on_ok c.write_to.result _ _ (awaited_at c.args.self.now.all.items c.args.at c.in-Some.link.now c.in-Some.ensures.item.3.0 c.in-Some.ensures.value) c.write_to.ensures.awaited;
  err = IfErr-weaker c.write_to.result _ _ (λ it did. not_taken c.args.self.now.all.items c.args.at c.in-Some.link.now c.write_to.new.link c.args.call it.call c.in-Some.ensures.value did) c.write_to.ensures.err;
  why = IfErr-weaker c.write_to.result _ _ (λ it refused. λ since clock. hindered_set it.why c.args.self.now.all.items c.args.at since clock c.write_to.new.link c.in-Some.ensures.item.3.0 (refused since clock)) c.write_to.ensures.why;
}
