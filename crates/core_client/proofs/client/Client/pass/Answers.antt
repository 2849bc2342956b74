use Rattle.std.proofs.Common.{false, refl}
use Rattle.core_client.proofs.Fronts.{passes_front}
use Rattle.core_client.proofs.client.Client.pass.Goals as goal

pub returns-clause-ok : goal.returns-clause-ok
returns-clause-ok c =
    let x = c.args.self.now in
    passes_front c.args.version.now x (record x { stream = c.pass.new.stream; output = record x.output { text = c.pass.new.output }; index = 0; waits = false }) c.in_ok-passed.passed c.requires.served c.requires.none c.in_ok-passed.ensures.ok refl refl refl refl refl
