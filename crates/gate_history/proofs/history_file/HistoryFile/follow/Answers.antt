use Rattle.std.proofs.Common.{◌∙◌, ◌++◌, List, ℕ, ap, subst, string_bytes}
use Rattle.std.proofs.lemmas.Result.{err_from_is_err_and}
use Rattle.gate_history.specs.InFile.{InFile}
use Rattle.gate_history.specs.Standing.{IsNoNext}
use Rattle.gate_history.proofs.Ending.{stands_next}
use Rattle.gate_history.proofs.history_file.HistoryFile.follow.Goals as goal

pub returns-in_err-config-clause-refused : goal.returns-in_err-config-clause-refused
returns-in_err-config-clause-refused c =
    let p = err_from_is_err_and c.from_residual.result c.from_residual.ensures.1 in
    rw (p.1, p.2) (subst (λ (f : InFile). IsNoNext f.generations c.args.text.now c.args.began c.in_err-config.field-0.0) c.self.view_is (c.in_err-config.ensures c.args.began))

pub invariant_of-self : goal.invariant_of-self
invariant_of-self c =
    let whole = ap string_bytes c.replace.ensures.after ∙ c.in-Ok.ensures.2 ∙ ap (λ (l : List ℕ). l ++ c.in-Ok.ensures.1) c.as_str.ensures.value in
    (stands_next c.self.inside.history c.follow.new.self (record { config = c.in_ok-config.config; began = c.args.began }) (string_bytes c.self.inside.text) (string_bytes c.replace.new.dest) c.in-Ok.ensures.1 c.args.text.now c.self.invariant
    c.in-Ok-follow.ensures.followed whole c.in-Ok.ensures.3 c.in_ok-config.ensures).0

pub returns-in-Ok-follow-clause-stands : goal.returns-in-Ok-follow-clause-stands
returns-in-Ok-follow-clause-stands c =
    let whole = ap string_bytes c.replace.ensures.after ∙ c.in-Ok.ensures.2 ∙ ap (λ (l : List ℕ). l ++ c.in-Ok.ensures.1) c.as_str.ensures.value in
    let next = stands_next c.self.inside.history c.follow.new.self (record { config = c.in_ok-config.config; began = c.args.began }) (string_bytes c.self.inside.text) (string_bytes c.replace.new.dest) c.in-Ok.ensures.1 c.args.text.now c.self.invariant
    c.in-Ok-follow.ensures.followed whole c.in-Ok.ensures.3 c.in_ok-config.ensures in
    record { generations = c.follow.new.self; history = next.0; sound = c.generations-sound.ensures.sound; last = next.1 }
