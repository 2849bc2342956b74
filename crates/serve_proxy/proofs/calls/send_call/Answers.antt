use Rattle.serve_links.proofs.Story.{still_called}
use Rattle.serve_proxy.proofs.Going.{and_then}
use Rattle.serve_proxy.proofs.calls.send_call.Goals as goal

pub returns : goal.returns
returns g c = record { ends = and_then (still_called c.args.ticket.number c.args.ticket.server c.args.ticket.ask c.look_at_idle.ensures.ends) c.send_looked.ensures.ends }
