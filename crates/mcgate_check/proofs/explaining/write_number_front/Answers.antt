use Rattle.std.proofs.Common.{ℕ, OnOk, subst}
use Rattle.std.specs.Io.KnownBytes.{Appends}
use Rattle.mcgate_check.specs.Explaining.{number_front}
use Rattle.mcgate_check.proofs.explaining.write_number_front.Goals as goal

pub returns : goal.returns
returns g c =
    subst (λ (n : ℕ). OnOk c.write.result (Appends (g.W.Write.contents c.args.out.now) (g.W.Write.contents c.write.new.self) (number_front n)))
    c.number-number.ensures c.write.ensures.bytes
