use Rattle.std.proofs.Common.{◌≡◌, ◌++◌, take}
use Rattle.std.specs.Prelude.{filter}
use Rattle.serve_clients.specs.Marks.{client_of, client_is_idle, EndsBusy}
use Rattle.serve_clients.specs.Agrees.{KeepsEnds}
use Rattle.serve_clients.proofs.Marked.{Erased}
use Rattle.serve_clients.proofs.clients.Clients.move_busy.Given as goal

abbrev pub invariant-loop-i : goal.invariant-loop-i
invariant-loop-i l = record {
  rest : l.self ≡ record l.fn.self { all = l.self.all };
  moved : l.to.items ≡ l.fn.to.items ++ filter (λ id. client_is_idle (client_of l.fn.self id)) (take l.i l.fn.self.busy.items);
  ends : EndsBusy (take l.i l.fn.self.busy.items) l.fn.self l.self;
  erased : Erased l.fn.self l.self;
  kept : KeepsEnds l.fn.self l.self;
}
