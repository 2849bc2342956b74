use Rattle.mc_types.specs.Parts.{ask_of}
use Rattle.wire_meta.proofs.Sound.{made}
use Rattle.wire_meta.proofs.command.MetaRequest.parts.Goals as goal

pub returns-clause-ask : goal.returns-clause-ask
returns-clause-ask c = made c.args.received.now c.args.self.now c.in-Keyed.key c.in-Keyed.flags c.in-Keyed.length c.in-Keyed.kind c.key_in.result.now c.in_ok-tokens-in-Keyed.tokens c.in_ok-body-in-Keyed.body (ask_of c.ask_by.result) c.requires.read c.in-Keyed.is c.key_in.ensures c.in_ok-tokens-in-Keyed.ensures c.in_ok-body-in-Keyed.ensures c.ask_by.ensures
