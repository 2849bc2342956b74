-- What was read stays read.
use Rattle.std.proofs.Common.{◌≡◌, ◌++◌, refl, sym, subst}
use Rattle.wire_parts.specs.Requests.{ReadStill}
use Rattle.wire_parts.proofs.Requests.{LiesIn-still, order_in-still, IsIn-still, text_at-still}
use Rattle.wire_parts.proofs.Streams.{begins_still}
use Rattle.wire_classic.specs.Places.{order_in, ClassicLiesIn}
use Rattle.wire_classic.specs.Grammar.{classic_grammar}
use Rattle.wire_classic.specs.Message.{ClassicMessage, BeginsClassic, classic_message_in}
use Rattle.wire_classic.specs.Laws.{classic_requests}
use Rattle.wire_classic.proofs.Front.{order_in-take, LiesIn-take}

pub read_still : ReadStill classic_requests
read_still bytes more r h =
    let same : classic_message_in (bytes ++ more) r ≡ classic_message_in bytes r = rw (order_in-still classic_grammar order_in ClassicLiesIn order_in-take bytes more r.command h.placed.command, text_at-still bytes more r.block h.placed.block) refl in
    (record { placed = record { command = LiesIn-still ClassicLiesIn LiesIn-take bytes more r.command h.placed.command; block = IsIn-still bytes more r.block h.placed.block }; begins = subst (λ (m : ClassicMessage). BeginsClassic (bytes ++ more) m r.used) (sym same) (begins_still classic_grammar bytes more (classic_message_in bytes r) r.used h.begins) }, same)
