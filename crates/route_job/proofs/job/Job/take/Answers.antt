use Rattle.std.proofs.Common.{◌≡◌, [], arith, sym, ◌∙◌}
use Rattle.std.proofs.lemmas.Bool.{eqb-true}
use Rattle.std.proofs.lemmas.List.{nil_from_length}
use Rattle.route_job.specs.declared.frame.Pending.TheVariants.{Back}
use Rattle.route_job.proofs.Jobs.{take_is, call_work, stays, rests_there}
use Rattle.route_job.proofs.job.Job.take.Goals as goal

pub returns-then-is_empty-clause-rest : goal.returns-then-is_empty-clause-rest
returns-then-is_empty-clause-rest c =
    let self = c.args.self.now in
    let next = Back c.done_by.result in
    (take_is self.hash self.ask.key self.frames.items self.frames.items self.ask self.pending next self.made c.done_by.result c.args.outcome c.requires.calling c.done_by.ensures c.requires.fits self.kept.sure (stays self.hash self.ask.key self.frames.items self.ask next)).0

pub returns-then-is_empty-clause-less : goal.returns-then-is_empty-clause-less
returns-then-is_empty-clause-less c =
    let self = c.args.self.now in
    let two = call_work self.hash self.ask.key self.pending c.requires.calling in
    omega (arith, two)

pub invariant_of-self : goal.invariant_of-self
invariant_of-self c =
    let self = c.args.self.now in
    let next = Back c.done_by.result in
    let is = take_is self.hash self.ask.key self.frames.items self.frames.items self.ask self.pending next self.made c.done_by.result c.args.outcome c.requires.calling c.done_by.ensures c.requires.fits self.kept.sure (stays self.hash self.ask.key self.frames.items self.ask next) in
    let two = call_work self.hash self.ask.key self.pending c.requires.calling in
    let few = self.kept.few in
    let none : self.frames.items ≡ [] = nil_from_length self.frames.items (sym self.frames.ok.0 ∙ eqb-true self.frames.len 0 (sym c.if-is_empty.ensures)) in
    record { kept = record { rests = rests_there self.frames.items c.done_by.result none; sure = is.1; few = omega (arith, two, few) } }

pub returns-in-Ok-clause-rest : goal.returns-in-Ok-clause-rest
returns-in-Ok-clause-rest c =
    let self = c.args.self.now in
    (take_is self.hash self.ask.key self.frames.items c.settle.new.frames.items self.ask self.pending c.in-Ok.pending self.made c.done_by-done.result c.args.outcome c.requires.calling c.done_by-done.ensures c.requires.fits self.kept.sure c.in-Ok.ensures.leads).0

pub returns-in-Ok-clause-less : goal.returns-in-Ok-clause-less
returns-in-Ok-clause-less c =
    let self = c.args.self.now in
    let less = c.in-Ok.ensures.less in
    let two = call_work self.hash self.ask.key self.pending c.requires.calling in
    omega (arith, less, two)

pub invariant_of-self-in-Ok : goal.invariant_of-self-in-Ok
invariant_of-self-in-Ok c =
    let self = c.args.self.now in
    let is = take_is self.hash self.ask.key self.frames.items c.settle.new.frames.items self.ask self.pending c.in-Ok.pending self.made c.done_by-done.result c.args.outcome c.requires.calling c.done_by-done.ensures c.requires.fits self.kept.sure c.in-Ok.ensures.leads in
    let less = c.in-Ok.ensures.less in
    let two = call_work self.hash self.ask.key self.pending c.requires.calling in
    let few = self.kept.few in
    record { kept = record { rests = c.in-Ok.ensures.rests; sure = is.1; few = omega (arith, less, two, few) } }
