-- After a message fewer bytes are held.
use Rattle.std.proofs.Common.{◌≡◌, ℕ, ◌<◌, ◌≤◌, true, false, eqb, List, [], ◌∷◌, length, drop, Option, Some, None, refl, ap, arith, inl, inr, length-drop}
use Rattle.std.proofs.lemmas.Bool.{cases_lt, lt-ltb, le-ltb}
use Rattle.text_words.specs.Line.{LF}
use Rattle.wire_parts.specs.declared.proxy_command.ProxyCommand.{ProxyCommand}
use Rattle.wire_parts.specs.declared.proxy_command.ProxyCommand.TheVariants.{Version, Quit, Noop}
use Rattle.wire_parts.specs.declared.skip.Skip.{Skip}
use Rattle.wire_parts.specs.declared.skip.Skip.TheVariants.{Nothing, Bytes, ThroughNewline}
use Rattle.wire_parts.specs.Message.{Served, Refusal}
use Rattle.wire_parts.specs.Stream.{Place, Stands, Closed, skipped, through_newline, after_own}
use Rattle.wire_parts.proofs.Streams.{some_taken, fewer_left}
use Rattle.wire_stream.specs.Both.{both_grammar, own_by}
use Rattle.wire_stream.proofs.OtherProtocols.{some_other}
use Rattle.wire_stream.specs.Message.{AnyMessage, Begins}
use Rattle.wire_stream.specs.Stream.{after_any}
use Rattle.wire_stream.specs.Held.{bytes_at}
use Rattle.wire_stream.specs.TextProtocol.{Said, Whole, LongLine, OtherProtocol, ReadsNext}

-- a message takes a byte at least
pub takes_some : (bytes : List ℕ) (message : AnyMessage) (used : ℕ) → Begins bytes message used → 1 ≤ used
takes_some = some_taken both_grammar

-- after a message fewer bytes are left
pub fewer : (held : List ℕ) (message : AnyMessage) (used : ℕ) → Begins held message used → length (drop used held) < length held
fewer = fewer_left both_grammar

through_len : (bytes : List ℕ) → length (bytes_at (through_newline bytes)) ≤ length bytes
through_len [] = omega arith
through_len (b ∷ bytes) = (elim (eqb b LF) as (λ t. eqb b LF ≡ t → length (bytes_at (through_newline (b ∷ bytes))) ≤ length (b ∷ bytes)) [
  | true ↦ λ e. simp e (omega arith)
  | false ↦ λ e. let h = through_len bytes in simp e (omega (arith, h))
]) refl

-- passing over makes no byte
pub skipped_len : (skip : Skip) (bytes : List ℕ) → length (bytes_at (skipped skip bytes)) ≤ length bytes
skipped_len Nothing bytes = omega arith
skipped_len ThroughNewline bytes = through_len bytes
skipped_len (Bytes n) bytes =
    elim (cases_lt (length bytes) n) [
      | inl lt ↦ rw (lt-ltb (length bytes) n lt) (omega arith)
      | inr ge ↦ rw (le-ltb (length bytes) n ge) (omega (arith, length-drop n bytes))
    ]

own_len : (own : Option ProxyCommand) (rest : List ℕ) → length (bytes_at (after_own own rest)) ≤ length rest
own_len None rest = omega arith
own_len (Some Version) rest = omega arith
own_len (Some Quit) rest = omega arith
own_len (Some Noop) rest = omega arith

after_len : (message : AnyMessage) (rest : List ℕ) → length (bytes_at (after_any message rest)) ≤ length rest
after_len (Served order block) rest = own_len (own_by order) rest
after_len (Refusal why skip) rest = skipped_len skip rest

-- fewer bytes are held at the place after a message
pub next_len : (place : Place) (message : Said) (next : Place) → ReadsNext place message next → length (bytes_at next) < length (bytes_at place)
next_len (Stands Nothing held) (Whole message) next r =
    let at : length (bytes_at next) ≡ length (bytes_at (after_any message (drop r.0 held))) = ap (λ (p : Place). length (bytes_at p)) r.2 in
    let within = after_len message (drop r.0 held) in
    let less = fewer held message r.0 r.1 in
    omega (arith, at, within, less)
next_len (Stands Nothing held) LongLine next r =
    let at : length (bytes_at next) ≡ 0 = ap (λ (p : Place). length (bytes_at p)) r.1 in
    let long = r.0.long in
    omega (arith, at, long)
next_len (Stands Nothing held) OtherProtocol next r =
    let at : length (bytes_at next) ≡ 0 = ap (λ (p : Place). length (bytes_at p)) r.1 in
    omega (arith, at, some_other held r.0)
next_len (Stands (Bytes n) held) said next r = absurd r
next_len (Stands ThroughNewline held) said next r = absurd r
next_len Closed said next r = absurd r
