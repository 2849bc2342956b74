-- Answers that are sent in parts.
use Rattle.std.proofs.Common.{◌∙◌, ℕ, ◌+◌, ◌++◌, List, take, drop, Option, ap, append_assoc}
use Rattle.std.proofs.Math.Seq.{take-add}
use Rattle.std.proofs.KnownBytes.{Appends-trans}
use Rattle.std.specs.Io.KnownBytes.{Appends}
use Rattle.watch_admin.specs.Sending.{GoesUpTo}

-- so many of its next bytes are sent
pub more_sent : (answer : List ℕ) (sent sent' count : ℕ) (a b c : Option (List ℕ)) → GoesUpTo answer sent sent' a b → Appends b c (take count (drop sent' answer)) → GoesUpTo answer sent (sent' + count) a c
more_sent answer sent sent' count a b c goes took =
    record {
      bytes = goes.bytes ++ take count (drop sent' answer);
      next = take-add sent' count answer ∙ ap (λ (bytes : List ℕ). bytes ++ take count (drop sent' answer)) goes.next ∙ append_assoc (take sent answer) goes.bytes (take count (drop sent' answer));
      took = Appends-trans a b c goes.bytes (take count (drop sent' answer)) goes.took took;
    }
