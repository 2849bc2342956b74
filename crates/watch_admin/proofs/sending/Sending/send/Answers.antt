use Rattle.std.proofs.Common.{◌∙◌, ℕ, List, ap, drop, subst, take}
use Rattle.std.specs.Io.KnownBytes.{Appends}
use Rattle.text_words.proofs.WordLemmas.{rest_is}
use Rattle.watch_admin.proofs.Sent.{more_sent}
use Rattle.watch_admin.proofs.sending.Sending.send.Goals as goal

pub loop-preserved : goal.loop-preserved
loop-preserved g c =
    let rest = rest_is c.deref.result.now c.loop.self.sent ∙ ap (λ (answer : List ℕ). drop c.loop.self.sent answer) (c.deref.ensures.value ∙ c.loop.invariant.0) in
    let took = subst (λ (bytes : List ℕ). Appends (g.W.Write.contents c.loop.stream) (g.W.Write.contents c.write.new.self) (take c.in-Ok.count bytes)) rest c.in-Ok.ensures.bytes in (
      c.loop.invariant.0,
      more_sent c.args.self.now.answer.items c.args.self.now.sent c.loop.self.sent c.in-Ok.count (g.W.Write.contents c.args.stream.now) (g.W.Write.contents c.loop.stream) (g.W.Write.contents c.write.new.self) c.loop.invariant.1 took,
    )
