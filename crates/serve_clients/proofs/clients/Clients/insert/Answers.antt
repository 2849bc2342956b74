use Rattle.std.proofs.Common.{◌∙◌}
use Rattle.serve_clients.specs.Marks.{with_ready}
use Rattle.std.specs.Prelude.{true}
use Rattle.serve_clients.proofs.Marked.{put_changed, kept}
use Rattle.serve_clients.proofs.clients.Clients.insert.Goals as goal

pub returns-clause-there : goal.returns-clause-there
returns-clause-there c = put_changed (with_ready true) c.make_place.new.all.items c.put_at.new.all.items c.mark_ready.new.self.all.items c.args.id c.args.client (c.in_ok-make_place.ensures.there) c.put_at.ensures c.mark_ready.ensures.client

pub returns-clause-others : goal.returns-clause-others
returns-clause-others c = λ other apart.
    kept c.put_at.new.all.items c.mark_ready.new.self.all.items c.args.id other _ apart c.mark_ready.ensures.client
    ∙ (kept c.make_place.new.all.items c.put_at.new.all.items c.args.id other _ apart c.put_at.ensures ∙ c.make_place.ensures.same other)
