use Rattle.core_accepted.proofs.NextTree.{next_loaded, any_loaded}
use Rattle.core_accepted.proofs.served.ServedCore.take.Goals as goal

pub returns-in-Some-clause-loaded : goal.returns-in-Some-clause-loaded
returns-in-Some-clause-loaded c =
    let e = c.load_accepted.ensures in
    next_loaded c.args.self.now c.load_accepted.new.core c.in-Some.generations c.load_accepted.new.generations c.args.config c.load_accepted.result c.in-Some.is e.taken e.number e.sound e.loaded

pub returns-in-None-clause-loaded : goal.returns-in-None-clause-loaded
returns-in-None-clause-loaded c = any_loaded c.args.self.now c.load_any.new.core c.args.config c.load_any.result c.in-None.is c.load_any.ensures.number c.load_any.ensures.loaded
