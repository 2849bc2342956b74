use Rattle.std.proofs.Common.{sym, ◌∙◌, subst}
use Rattle.mc_types.specs.declared.call.Outcome.TheVariants.{Answered}
use Rattle.serve_links.specs.Calls.{IsReadNext}
use Rattle.serve_links.proofs.CallOrder.{fits_first}
use Rattle.serve_links.proofs.calls.calls.LinkCalls.settle_next.Goals as goal

pub give_first-requires : goal.give_first-requires
give_first-requires c =
    fits_first c.args.self.now.sent.items c.args.core.now.core c.in-Some.number c.in-Some.dialect (Answered c.in-Answer.answer) (sym c.first_asked.ensures ∙ c.in-Some.is) (subst (IsReadNext c.in-Some.dialect c.args.core.now.core c.in-Some.number c.args.received.now) c.in-Answer.is c.in-Some-read_next.ensures).3
