use Rattle.script_events.proofs.Calls.{cut}
use Rattle.script_events.proofs.servers.calling.cut_call.Goals as goal

pub returns-clause-ok : goal.returns-clause-ok
returns-clause-ok c =
    cut c.args.stamp c.args.moment.seconds c.args.caches.now.items c.args.server c.args.ask.now c.in_ok-answer.answer c.in_ok-answer.found c.apply.new.caches.items c.in_ok-answer.ensures.ok c.args.count c.made_of.result c.in_ok-read.read c.in_ok-read.ensures c.made_of.ensures
