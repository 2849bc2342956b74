use Rattle.std.proofs.Common.{◌≡◌, List, ℕ, Some, None, refl, sym, ap, ◌∙◌}
use Rattle.std.proofs.lemmas.Bool.Decides.{Decides-eqb}
use Rattle.std.proofs.lemmas.Slice.Eq.{slice_eq-Decides}
use Rattle.serve_proxy.proofs.LinkTexts.{same_some}
use Rattle.serve_proxy.proofs.links.is_to.Goals as goal

none_some : {x : List ℕ} → None ≡ Some x → ⊥
none_some e = cc

pub returns-in-Some : goal.returns-in-Some
returns-in-Some c =
    let named = c.in-Some.ensures.some in
    let both = slice_eq-Decides Decides-eqb c.as_slice.result.now c.as_bytes.result.now c.eq.result c.eq.ensures in (
      λ is. named ∙ ap (λ (t : List ℕ). Some t) (sym (sym c.as_slice.ensures.value ∙ both.0 is ∙ c.as_bytes.ensures.value)),
      λ is. both.1 (c.as_slice.ensures.value ∙ same_some (sym is ∙ named) ∙ sym c.as_bytes.ensures.value),
    )

pub returns-in-None : goal.returns-in-None
returns-in-None c = (λ is. absurd (let no = is in cc no), λ is. absurd (none_some (sym (c.in-None.ensures.none refl) ∙ is)))
