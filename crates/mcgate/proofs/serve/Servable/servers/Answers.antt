use Rattle.mcgate.specs.declared.serve.Servable.TheVariants as servables
use Rattle.mcgate.proofs.Loads.{servers_on}
use Rattle.mcgate.proofs.serve.Servable.servers.Goals as goal

pub returns-in-Accepted : goal.returns-in-Accepted
returns-in-Accepted c = servers_on c.args.self.now (servables.Accepted c.in-Accepted.accepted) c.servers.result.now c.copy.result c.in-Accepted.is (c.config.result.now, c.config.ensures.config, c.servers.ensures.servers) c.copy.ensures

pub returns-in-Unchecked : goal.returns-in-Unchecked
returns-in-Unchecked c = servers_on c.args.self.now (servables.Unchecked c.in-Unchecked.config) c.servers-in-Unchecked.result.now c.copy-in-Unchecked.result c.in-Unchecked.is c.servers-in-Unchecked.ensures.servers c.copy-in-Unchecked.ensures
