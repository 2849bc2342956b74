-- Which messages close a stream.
use Rattle.std.proofs.Common.{◌≡◌, ℕ, ◌-◌, Bool, true, false, cond, eqb, List, [], ◌∷◌, length, drop, Option, Some, None, refl, sym, ◌∙◌, ◌↔◌}
use Rattle.text_words.specs.Line.{LF}
use Rattle.wire_parts.specs.declared.proxy_command.ProxyCommand.{ProxyCommand}
use Rattle.wire_parts.specs.declared.proxy_command.ProxyCommand.TheVariants.{Version, Quit, Noop}
use Rattle.wire_parts.specs.declared.skip.Skip.{Skip}
use Rattle.wire_parts.specs.declared.skip.Skip.TheVariants.{Nothing, Bytes, ThroughNewline}
use Rattle.wire_parts.specs.Message.{Served, Refusal}
use Rattle.wire_parts.specs.Stream.{Stands, Closed, skipped, through_newline, after_own}
use Rattle.wire_stream.specs.Both.{own_by}
use Rattle.wire_stream.specs.TextProtocol.{Whole, LongLine, OtherProtocol}
use Rattle.cache_theory.specs.Laws.{ClosesAfterLast}

stands : (skip : Skip) (held : List ℕ) → Stands skip held ≡ Closed → ⊥
stands skip held e = cc

through_stands : (bytes : List ℕ) → through_newline bytes ≡ Closed → ⊥
through_stands [] e = stands ThroughNewline [] e
through_stands (b ∷ bytes) e = (elim (eqb b LF) as (λ t. cond t (Stands Nothing bytes) (through_newline bytes) ≡ Closed → ⊥) [
  | true ↦ λ h. stands Nothing bytes h
  | false ↦ λ h. through_stands bytes h
]) e

passing_stands : (b : Bool) (n : ℕ) (bytes : List ℕ) → cond b (Stands (Bytes (n - length bytes)) []) (Stands Nothing (drop n bytes)) ≡ Closed → ⊥
passing_stands true n bytes e = stands (Bytes (n - length bytes)) [] e
passing_stands false n bytes e = stands Nothing (drop n bytes) e

skipped_stands : (skip : Skip) (bytes : List ℕ) → skipped skip bytes ≡ Closed → ⊥
skipped_stands Nothing bytes e = stands Nothing bytes e
skipped_stands (Bytes n) bytes e = passing_stands _ n bytes e
skipped_stands ThroughNewline bytes e = through_stands bytes e

own_closes : (own : Option ProxyCommand) (rest : List ℕ) → (after_own own rest ≡ Closed) ↔ (own ≡ Some Quit)
own_closes None rest = (λ e. absurd (stands Nothing rest e), λ e. absurd (cc))
own_closes (Some Version) rest = (λ e. absurd (stands Nothing rest e), λ e. absurd (cc))
own_closes (Some Noop) rest = (λ e. absurd (stands Nothing rest e), λ e. absurd (cc))
own_closes (Some Quit) rest = (λ e. refl, λ e. refl)

pub closes : ClosesAfterLast
closes (Stands Nothing held) next (Whole (Served order block)) r =
    let is = own_closes (own_by order) (drop r.0 held) in
    (λ e. is.0 (sym r.2 ∙ e), λ e. r.2 ∙ is.1 e)
closes (Stands Nothing held) next (Whole (Refusal why skip)) r = (λ e. skipped_stands skip (drop r.0 held) (sym r.2 ∙ e), λ e. absurd e)
closes (Stands Nothing held) next LongLine r = (λ e. tt, λ e. r.1)
closes (Stands Nothing held) next OtherProtocol r = (λ e. tt, λ e. r.1)
closes (Stands (Bytes n) held) next said r = absurd r
closes (Stands ThroughNewline held) next said r = absurd r
closes Closed next said r = absurd r
