use Rattle.std.proofs.Common.{ℕ, ◌+◌, get_or, set, refl, ap, ◌∙◌}
use Rattle.script_events.proofs.BadEvents.{piece_more, add_more}
use Rattle.script_events.proofs.bad.Before.take.Goals as goal

pub returns-in-Piece : goal.returns-in-Piece
returns-in-Piece c = piece_more c.args.self.now _ c.args.event.now c.in-Piece.field-0 c.in-Piece.bytes c.in-Piece.is (ap (λ (n : ℕ). c.args.self.now.bytes + n) (c.len.ensures ∙ c.in-Piece.bytes.ok.0)) c.none_added-self.ensures refl

pub returns-in-Add : goal.returns-in-Add
returns-in-Add c = add_more c.args.self.now _ c.args.event.now c.in-Add.client c.in-Add.bytes c.in-Add.is (ap (λ (n : ℕ). c.args.self.now.bytes + n) (c.len-in-Add.ensures ∙ c.in-Add.bytes.ok.0)) (ap (λ (n : ℕ). set c.args.self.now.added c.in-Add.client (get_or c.args.self.now.added c.in-Add.client 0 + n)) (c.len-in-Add-2.ensures ∙ c.in-Add.bytes.ok.0)) refl
