use Rattle.route_json.proofs.Fronts.{after_is}
use Rattle.route_json.proofs.names.words.rest_after.Goals as goal

pub returns : goal.returns
returns c = after_is c.args.front.now c.args.text.now c.strip_prefix.result c.strip_prefix.ensures.cases
