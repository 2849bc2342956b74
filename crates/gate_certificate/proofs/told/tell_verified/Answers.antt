use Rattle.std.proofs.Common.{◌≡◌, ℕ, List, ◌++◌, codes, sym, subst, ◌∙◌}
use Rattle.std.proofs.lemmas.List.{append_assoc}
use Rattle.std.specs.Prelude.{OnOk, decimal}
use Rattle.std.specs.Io.KnownBytes.{Appends}
use Rattle.gate_certificate.proofs.told.tell_verified.Goals as goal

six : (a b d e f h : List ℕ) → a ++ b ++ d ++ e ++ f ++ h ≡ a ++ (b ++ (d ++ (e ++ (f ++ h))))
six a b d e f h = append_assoc (a ++ b ++ d ++ e) f h ∙ append_assoc (a ++ b ++ d) e (f ++ h) ∙ append_assoc (a ++ b) d (e ++ (f ++ h)) ∙ append_assoc a b (d ++ (e ++ (f ++ h)))

pub returns : goal.returns
returns g c =
    subst (λ (l : List ℕ). OnOk c.writeln.result (Appends (g.W.Write.contents c.args.out.now) (g.W.Write.contents c.writeln.new.self) (codes "verified: " ++ l)))
    (sym (six c.args.config.now (codes " is fresh by ") c.args.certificate.now (codes ", places=") (decimal c.args.places) (codes "\n"))) c.writeln.ensures.bytes
