use Rattle.core_accepted.proofs.NextTree.{loaded_with_places, refused_without_places}
use Rattle.core_accepted.proofs.served.ServedCore.load.Goals as goal

pub returns-clause-loaded : goal.returns-clause-loaded
returns-clause-loaded c = loaded_with_places c.args.self.now c.take-loaded.new.self c.make_places.new.self c.args.config c.take-loaded.result c.take-loaded.ensures.loaded c.make_places.ensures.ok

pub returns-clause-refused : goal.returns-clause-refused
returns-clause-refused c = refused_without_places c.args.self.now c.take-loaded.new.self c.make_places.new.self c.args.config c.take-loaded.result c.take-loaded.ensures.refused c.make_places.ensures.err
