use Rattle.std.proofs.Common.{sym, subst, refl, inl, inr}
use Rattle.serve_clients.proofs.Agreeing.{keeps_none}
use Rattle.serve_links.proofs.LinkGoes.{quiet, line_keeps}
use Rattle.serve_links.specs.Lateness.{HasLate}
use Rattle.serve_links.proofs.LateGoes.{one_late, waits_still}
use Rattle.serve_links.proofs.outcomes.fail_late.Goals as goal

pub returns-then-not-has_late : goal.returns-then-not-has_late
returns-then-not-has_late c =
    record { goes = λ at h shown. line_keeps (quiet h) refl; late = inr (refl, refl); stores = waits_still c.args.link.now c.args.link.now refl refl; ends = keeps_none c.args.clients.now }

pub returns : goal.returns
returns c = record { goes = λ at h shown. c.fail_all_late.ensures.goes at h (one_late _ c.args.link.now (subst (λ now. HasLate now c.args.link.now) (sym shown) (c.has_late.ensures c.if-not-has_late.false))); late = inl (c.has_late.ensures c.if-not-has_late.false); stores = c.fail_all_late.ensures.stores; ends = c.fail_all_late.ensures.ends }
