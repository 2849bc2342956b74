use Rattle.serve_proxy.proofs.Staying.{stay_clients, stay_links}
use Rattle.serve_proxy.proofs.sockets.Sockets.note.Goals as goal

pub returns-in-Client : goal.returns-in-Client
returns-in-Client g c = record { ends = stay_clients _ _ _ _ c.note.ensures.ends }

pub returns-in-Server : goal.returns-in-Server
returns-in-Server g c = record { ends = stay_links _ _ _ _ c.note-in-Server.ensures.lines }
