-- What the file of a history has. Source: mcgate's own.
use Rattle.std.specs.Prelude.{ℕ, List, refl}
use Rattle.std.specs.Coded.{Coded, code_by, coded×, coded_list, coded_ℕ}
use Rattle.gate_history.specs.declared.generation.Generation.{Generation}
use Rattle.gate_history.specs.Generations.{generations_code}

-- generations, the oldest first, and the text that says them
pub record InFile : Type 0 where
  pub generations : List Generation
  pub text : List ℕ

-- it is stored as its fields
abbrev pub in_file_code : Coded InFile
in_file_code = code_by (List Generation × List ℕ) (coded× generations_code (coded_list coded_ℕ)) (λ f. (f.generations, f.text)) (λ p. record { generations = p.0; text = p.1 }) (λ _. refl)
