use Rattle.std.proofs.Common.{◌≡◌, ◌∙◌, ◌<◌, ap, sym, length, get_or, rules}
use Rattle.serve_clients.specs.Marks.{client_of, client_is_idle}
use Rattle.serve_clients.proofs.Agreeing.{keeps_twice}
use Rattle.serve_clients.proofs.Marked.{erased_more, ends_more, moved_more, idle_still}
use Rattle.serve_clients.proofs.clients.Clients.move_busy.Goals as goal

pub loop-i-preserved : goal.loop-i-preserved
loop-i-preserved c =
    let same : c.loop-i.self.busy.items ≡ c.args.self.now.busy.items = ap (λ s. s.busy.items) c.loop-i.invariant.rest in
    let within : c.loop-i.i < length c.args.self.now.busy.items = search rules in
    let is : get_or c.args.self.now.busy.items c.loop-i.i c.index-id.result.now ≡ c.index-id.result.now = sym (c.index-id.ensures ∙ ap (λ xs. get_or xs c.loop-i.i c.index-id.result.now) same) in
    record {
      rest = search rules;
      moved = moved_more (λ id. client_is_idle (client_of c.args.self.now id)) c.args.self.now.busy.items c.args.to.now.items c.loop-i.to.items c.move_one.new.to.items c.loop-i.i c.index-id.result.now (client_is_idle (client_of c.loop-i.self c.index-id.result.now))
          within is (idle_still c.args.self.now c.loop-i.self c.index-id.result.now c.loop-i.invariant.erased) c.loop-i.invariant.moved c.in_ok-move_one.ensures.moved;
      ends = ends_more c.args.self.now.busy.items c.args.self.now c.loop-i.self c.move_one.new.self c.loop-i.i c.index-id.result.now within is c.loop-i.invariant.erased c.loop-i.invariant.ends c.in_ok-move_one.ensures.client;
      erased = erased_more c.args.self.now c.loop-i.self c.move_one.new.self c.index-id.result.now c.loop-i.invariant.erased c.in_ok-move_one.ensures.client;
      kept = keeps_twice c.args.self.now c.loop-i.self c.move_one.new.self c.loop-i.invariant.kept c.move_one.ensures.ends;
    }

pub returns-in_err-move_one-clause-ends : goal.returns-in_err-move_one-clause-ends
returns-in_err-move_one-clause-ends c = keeps_twice c.args.self.now c.loop-i.self c.move_one.new.self c.loop-i.invariant.kept c.move_one.ensures.ends
