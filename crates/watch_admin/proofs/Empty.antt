-- No bytes are no request.
use Rattle.std.proofs.Common.{◌≡◌, ℕ, [], ◌∷◌, ◌++◌, List, length, ap, arith, length-append}
use Rattle.httparse.specs.Ascii.{space}
use Rattle.httparse.specs.Grammar.{print_blank, print_version, print_end, print_section, print_request, HasNoRequest}

holds_one : (front target version end section more : List ℕ) → [] ≡ front ++ space ∷ target ++ space ∷ version ++ end ++ section ++ more → ⊥
holds_one front target version end section more e = omega (
  arith,
  ap length e,
  length-append (front ++ space ∷ target ++ space ∷ version ++ end ++ section) more,
  length-append (front ++ space ∷ target ++ space ∷ version ++ end) section,
  length-append (front ++ space ∷ target ++ space ∷ version) end,
  length-append (front ++ space ∷ target) (space ∷ version),
  length-append front (space ∷ target),
)

pub empty_has_none : HasNoRequest []
unfolding print_request
empty_has_none head more reads =
    holds_one (print_blank head.blank ++ head.method) head.target (print_version head.minor) (print_end head.line_end) (print_section head.fields head.last) more reads.1
