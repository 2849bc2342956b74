use Rattle.std.proofs.Common.{arith}
use Rattle.std.proofs.Math.Nat.{dvd-mul_left}
use Rattle.std.proofs.lemmas.Nat.Gcd.{mod-eq-zero_of_dvd}
use Rattle.gate_check.proofs.LeastMultiples.{first_multiple}
use Rattle.gate_check.proofs.places.multiples.common_multiple.Goals as goal

pub returns-then-a-times-eq0 : goal.returns-then-a-times-eq0
returns-then-a-times-eq0 c = first_multiple c.args.a c.args.b c.loop-times.times c.requires.some_a c.requires.some_b (omega arith) c.if-a-times-eq0.true c.loop-times.invariant

pub returns : goal.returns
returns c = first_multiple c.args.a c.args.b c.args.b c.requires.some_a c.requires.some_b c.requires.some_b (mod-eq-zero_of_dvd c.args.b (dvd-mul_left c.args.b c.args.a)) (λ k p lt e. c.loop-times.invariant k p (omega arith) e)
