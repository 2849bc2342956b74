-- What stands after the next line end.
use Rattle.std.proofs.Common.{◌≡◌, ℕ, suc, ◌+◌, ◌<◌, true, false, eqb, List, [], ◌∷◌, length, drop, refl, sym, ap, ◌∙◌, arith}
use Rattle.std.specs.List.{position_or_len}
use Rattle.std.specs.Prelude.{◌==◌}
use Rattle.wire_parts.specs.declared.skip.Skip.TheVariants.{Nothing, ThroughNewline}
use Rattle.wire_parts.specs.Stream.{Stands, through_newline}

abbrev line_end : List ℕ → ℕ
line_end bytes = position_or_len (λ b. b == 10) bytes

pub through_at : (bytes : List ℕ) (at : ℕ) → at < length bytes → line_end bytes ≡ at → through_newline bytes ≡ Stands Nothing (drop (at + 1) bytes)
through_at [] at lt e = absurd (omega arith)
through_at (b ∷ bytes) at lt e = (elim (eqb b 10) as (λ t. eqb b 10 ≡ t → through_newline (b ∷ bytes) ≡ Stands Nothing (drop (at + 1) (b ∷ bytes))) [
  | true ↦ λ h. let z : 0 ≡ at = simp h at e in rw (h, ← z) refl
  | false ↦ λ h.
      let s : 1 + line_end bytes ≡ at = simp h at e in
      let one : at + 1 ≡ suc (line_end bytes + 1) = omega (arith, s) in
      simp h (through_at bytes (line_end bytes) (omega (arith, lt, s)) refl ∙ ap (λ (k : ℕ). Stands Nothing (drop k (b ∷ bytes))) (sym one))
]) refl

pub through_none : (bytes : List ℕ) → line_end bytes ≡ length bytes → through_newline bytes ≡ Stands ThroughNewline []
through_none [] e = refl
through_none (b ∷ bytes) e = (elim (eqb b 10) as (λ t. eqb b 10 ≡ t → through_newline (b ∷ bytes) ≡ Stands ThroughNewline []) [
  | true ↦ λ h. let z : 0 ≡ length (b ∷ bytes) = simp h at e in absurd (omega (arith, z))
  | false ↦ λ h. let s : 1 + line_end bytes ≡ length (b ∷ bytes) = simp h at e in simp h (through_none bytes (omega (arith, s)))
]) refl
