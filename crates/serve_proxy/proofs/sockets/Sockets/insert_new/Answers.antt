use Rattle.std.proofs.Common.{ap, ◌∙◌, Some}
use Rattle.std.specs.Option.{option_map}
use Rattle.serve_clients.specs.Agrees.{end_said_of}
use Rattle.serve_proxy.proofs.Told.{new_said}
use Rattle.serve_proxy.proofs.sockets.Sockets.insert_new.Goals as goal

pub returns-in-Ok-clause-begins : goal.returns-in-Ok-clause-begins
returns-in-Ok-clause-begins g c = λ t. ap (option_map end_said_of) c.in-Ok.ensures.there ∙ ap (λ s. Some s) (new_said c.new-client.result c.args.conn c.new-client.ensures.number c.new-client.ensures.none c.new-client.ensures.stands)
