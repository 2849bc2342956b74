use Rattle.std.proofs.Common.{arith}
use Rattle.route_json.proofs.LastSigns.{split_at_last}
use Rattle.route_json.proofs.addresses.address.around_colon.Goals as goal

pub returns : goal.returns
returns c = split_at_last 58 c.args.text.now c.rsplit_once.result (omega arith) c.rsplit_once.ensures.cases
