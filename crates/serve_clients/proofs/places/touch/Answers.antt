use Rattle.std.proofs.Common.{rules}
use Rattle.serve_clients.proofs.Noting.{one_touched}
use Rattle.serve_clients.proofs.places.touch.Goals as goal

pub returns-else-is_err-clause-touched : goal.returns-else-is_err-clause-touched
returns-else-is_err-clause-touched c = one_touched c.args.flags.now.items c.args.ids.now.items c.push.new.self.items c.args.id c.args.is_short.now (search rules)
