use Rattle.std.proofs.Common.{ℕ, ◌<◌, List, refl, ◌∙◌, subst}
use Rattle.mc_types.specs.declared.answer.Answer.{Answer}
use Rattle.serve_links.specs.Dialects.{SpellsIn, IsForeignIn}
use Rattle.serve_links.proofs.Foreign.{first_none}
use Rattle.serve_links.proofs.LateGoes.{passed}
use Rattle.serve_links.proofs.late.pass_over.Goals as goal

pub returns-in-Ok-clause-passes : goal.returns-in-Ok-clause-passes
returns-in-Ok-clause-passes c =
    let call = c.in-Some.call.now in (
      call,
      passed c.args.late.now.items c.pop_front.new.self.items call c.pop_front.result (c.in-Some.ensures.variant.0 refl) c.pop_front.ensures.value c.in-Some.ensures.lookup c.pop_front.ensures.items,
      c.use_up.ensures.held,
      subst (λ (l : List ℕ). (answer : Answer) × SpellsIn call.dialect call.ask l answer c.in-Ok.used) (c.copied.ensures ∙ c.as_slice.ensures) c.in-Ok.ensures.read,
    )

pub returns-in-Err-clause-passes : goal.returns-in-Err-clause-passes
returns-in-Err-clause-passes c =
    let call = c.in-Some.call.now in (
      refl,
      refl,
      λ is.
          let none : IsForeignIn call.dialect call.ask c.args.conn.now.held.items = subst (IsForeignIn call.dialect call.ask) (c.copied.ensures ∙ c.as_slice.ensures) (c.in-Err.ensures.read is) in
          first_none c.args.late.now.items call c.args.conn.now.held.items (subst (λ (n : ℕ). 0 < n) c.args.late.now.ok.0 (c.in-Some.ensures.variant.0 refl)) c.in-Some.ensures.lookup none,
    )
