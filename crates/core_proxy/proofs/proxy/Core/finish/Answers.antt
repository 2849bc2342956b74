use Rattle.core_proxy.proofs.Polls.{finish_goes, finish_stops, still_on}
use Rattle.core_proxy.proofs.proxy.Core.finish.Goals as goal

pub returns-in-Ok-clause-ok : goal.returns-in-Ok-clause-ok
returns-in-Ok-clause-ok c = finish_goes c.args.self.now c.end-note.new.self c.show_all.new.self c.args.client c.end-note.result c.end-note.ensures.ended c.in-Ok.ensures.ok c.in-Ok.ensures.shown (still_on c.args.self.now c.end-note.new.self c.show_all.new.self c.end-note.ensures.still c.show_all.ensures.still)

pub returns-in-Err-clause-err : goal.returns-in-Err-clause-err
returns-in-Err-clause-err c = finish_stops c.args.self.now c.end-note.new.self c.show_all.new.self c.args.client c.end-note.result c.in-Err.fault c.end-note.ensures.ended c.in-Err.ensures.err
