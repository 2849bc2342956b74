use Rattle.std.proofs.Common.{sym, subst}
use Rattle.wire_stream.specs.declared.requests.reader.Read.{Read}
use Rattle.core_client.specs.Nexts.{IsNextOf}
use Rattle.core_client.proofs.client.Client.next.Goals as goal

pub returns-in-More : goal.returns-in-More
returns-in-More c = subst (λ (r : Read). IsNextOf c.args.depth c.args.self.now r c.nothing.result) (sym c.in-More.is) (c.nothing.ensures c.args.depth)

pub returns-in-TooLong : goal.returns-in-TooLong
returns-in-TooLong c = c.passing.ensures c.args.depth

pub returns-in-OtherProtocol : goal.returns-in-OtherProtocol
returns-in-OtherProtocol c = c.passing-in-OtherProtocol.ensures c.args.depth

pub returns-in-Refused : goal.returns-in-Refused
returns-in-Refused c = c.passing-in-Refused.ensures c.args.depth

pub returns-then-asks-eq0 : goal.returns-then-asks-eq0
returns-then-asks-eq0 c = c.passing-then-asks-eq0.ensures c.args.depth
