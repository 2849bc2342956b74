use Rattle.std.proofs.Common.{inl, inr, refl, ◌∙◌, subst}
use Rattle.serve_proxy.specs.declared.links.Links.{Links}
use Rattle.serve_proxy.specs.Unsent.{WaitsTooLongAt}
use Rattle.serve_proxy.proofs.Going.{still, and_then}
use Rattle.serve_proxy.proofs.calls.fail_waited.Goals as goal

pub loop-init : goal.loop-init
loop-init g c = record { ends = still; late = inr (refl, refl) }

pub loop-preserved : goal.loop-preserved
loop-preserved g c = record {
  ends = and_then c.loop.invariant.ends c.fail_next.ensures.ends;
  late = elim c.loop.invariant.late [
    | inl late ↦ inl late
    | inr same ↦ inl (subst (λ (links : Links). WaitsTooLongAt c.args.at links.pace links.all.items) same.1 (c.fail_next.ensures.late c.if-not-fail_next.false))
  ];
}

pub returns-then-not-fail_next : goal.returns-then-not-fail_next
returns-then-not-fail_next g c = record {
  ends = and_then c.loop.invariant.ends c.fail_next.ensures.ends;
  late = elim c.loop.invariant.late [ inl late ↦ inl late | inr same ↦ inr (c.fail_next.ensures.none c.if-not-fail_next.true ∙ same.0) ];
}

pub returns : goal.returns
returns g c = record { ends = c.loop.invariant.ends; late = elim c.loop.invariant.late [ inl late ↦ inl late | inr same ↦ inr same.0 ] }
