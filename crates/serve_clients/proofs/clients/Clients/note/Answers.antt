use Rattle.std.proofs.Common.{ap, ◌∙◌}
use Rattle.serve_clients.proofs.Agreeing.{keeps_twice, keeps_by, ready_said, unsent_said, told_keeps}
use Rattle.serve_clients.specs.Marks.{ready_if, unsent_if}
use Rattle.serve_clients.proofs.Marked.{noted_so, served_so, unsent_so, kept}
use Rattle.serve_clients.proofs.clients.Clients.note.Goals as goal

pub returns-clause-client : goal.returns-clause-client
returns-clause-client c = noted_so c.args.told c.note_told-sends.result c.args.self.now.all.items c.note_told-sends.new.self.all.items c.mark_ready_if.new.self.all.items c.mark_output_if.new.self.all.items c.args.id
    c.note_told-sends.ensures.sends c.note_told-sends.ensures.client c.mark_ready_if.ensures.client c.mark_output_if.ensures.client

pub returns-clause-served : goal.returns-clause-served
returns-clause-served c = λ full. served_so c.args.told c.args.self.now.all.items c.note_told-sends.new.self.all.items c.args.id c.args.self.now.ready.items c.note_told-sends.new.self.ready.items c.mark_ready_if.new.self.ready.items c.mark_output_if.new.self.ready.items
    c.note_told-sends.ensures.client (ap (λ s. s.ready.items) c.note_told-sends.ensures.rest) (c.mark_ready_if.ensures.listed (c.mark_output_if.ensures.short full)) (ap (λ s. s.ready.items) c.mark_output_if.ensures.rest)

pub returns-clause-unsent : goal.returns-clause-unsent
returns-clause-unsent c = λ full. unsent_so c.args.told c.note_told-sends.result c.args.self.now.all.items c.note_told-sends.new.self.all.items c.mark_ready_if.new.self.all.items c.args.id c.args.self.now.with_output.items c.mark_ready_if.new.self.with_output.items c.mark_output_if.new.self.with_output.items
    c.note_told-sends.ensures.sends c.note_told-sends.ensures.client c.mark_ready_if.ensures.client (ap (λ s. s.with_output.items) c.mark_ready_if.ensures.rest ∙ ap (λ s. s.with_output.items) c.note_told-sends.ensures.rest) (c.mark_output_if.ensures.listed full)

pub returns-clause-others : goal.returns-clause-others
returns-clause-others c = λ other apart.
    kept c.mark_ready_if.new.self.all.items c.mark_output_if.new.self.all.items c.args.id other _ apart c.mark_output_if.ensures.client
    ∙ kept c.note_told-sends.new.self.all.items c.mark_ready_if.new.self.all.items c.args.id other _ apart c.mark_ready_if.ensures.client
    ∙ kept c.args.self.now.all.items c.note_told-sends.new.self.all.items c.args.id other _ apart c.note_told-sends.ensures.client

pub returns-clause-ends : goal.returns-clause-ends
returns-clause-ends c =
    let was = c.args.self.now in
    let told = c.note_told-sends.new.self in
    let read = c.mark_ready_if.new.self in
    keeps_twice was told c.mark_output_if.new.self (told_keeps c.args.told c.args.id was told c.note_told-sends.ensures.client)
    (keeps_twice told read c.mark_output_if.new.self (keeps_by (ready_if c.args.told.reads) c.args.id told read (ready_said c.args.told.reads) c.mark_ready_if.ensures.client)
    (keeps_by (unsent_if c.note_told-sends.result) c.args.id read c.mark_output_if.new.self (unsent_said c.note_told-sends.result) c.mark_output_if.ensures.client))
