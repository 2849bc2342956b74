use Rattle.std.proofs.Common.{ℕ, ◌≤◌, length, sym, subst}
use Rattle.wire_stream.specs.Held.{bytes_at, IsReadAt}
use Rattle.wire_stream.specs.Fronts.{AsksNone}
use Rattle.wire_stream.proofs.Fronts.{front_is, used_held, used_refused}
use Rattle.wire_stream.proofs.Passing.{long_line_passed, other_passed, refused_passed, own_passed_by}
use Rattle.wire_stream.proofs.connection.front.pass.Goals as goal

pub answer_own-requires : goal.answer_own-requires
answer_own-requires c =
    let place = c.args.stream.now in
    subst (λ (n : ℕ). n ≤ length (bytes_at place)) (sym c.used.ensures)
    (used_held place c.in-Request.request (front_is place c.in-Request.request (subst (IsReadAt place) c.in-Request.is c.requires.read)))

pub refuse-requires : goal.refuse-requires
refuse-requires c =
    let place = c.args.stream.now in
    used_refused place c.in-Refused.why c.in-Refused.used c.in-Refused.skip (subst (IsReadAt place) c.in-Refused.is c.requires.read)

pub returns-in_ok-refuse_long_line-in-TooLong-clause-ok : goal.returns-in_ok-refuse_long_line-in-TooLong-clause-ok
returns-in_ok-refuse_long_line-in-TooLong-clause-ok c =
    let place = c.args.stream.now in
    long_line_passed c.args.version.now place c.refuse_long_line.new.stream c.args.output.now.items c.refuse_long_line.new.output.items (subst (IsReadAt place) c.in-TooLong.is c.requires.read) c.in_ok-refuse_long_line-in-TooLong.ensures.place c.in_ok-refuse_long_line-in-TooLong.ensures.text

pub returns-in_ok-refuse_protocol-in-OtherProtocol-clause-ok : goal.returns-in_ok-refuse_protocol-in-OtherProtocol-clause-ok
returns-in_ok-refuse_protocol-in-OtherProtocol-clause-ok c =
    let place = c.args.stream.now in
    other_passed c.args.version.now place c.refuse_protocol.new.stream c.args.output.now.items c.refuse_protocol.new.output.items (subst (IsReadAt place) c.in-OtherProtocol.is c.requires.read) c.in_ok-refuse_protocol-in-OtherProtocol.ensures.place c.in_ok-refuse_protocol-in-OtherProtocol.ensures.text

pub returns-in_ok-refuse-in-Refused-clause-ok : goal.returns-in_ok-refuse-in-Refused-clause-ok
returns-in_ok-refuse-in-Refused-clause-ok c =
    let place = c.args.stream.now in
    refused_passed c.args.version.now place c.refuse.new.stream c.args.output.now.items c.refuse.new.output.items c.in-Refused.why c.in-Refused.used c.in-Refused.skip (subst (IsReadAt place) c.in-Refused.is c.requires.read) c.in_ok-refuse-in-Refused.ensures.place c.in_ok-refuse-in-Refused.ensures.text

pub returns-in_ok-answer_own-in-Request-clause-ok : goal.returns-in_ok-answer_own-in-Request-clause-ok
returns-in_ok-answer_own-in-Request-clause-ok c =
    let place = c.args.stream.now in
    own_passed_by c.args.version.now place c.answer_own.new.stream c.args.output.now.items c.answer_own.new.output.items c.in-Request.request c.own.result c.used.result
    (subst (IsReadAt place) c.in-Request.is c.requires.read) (subst (AsksNone place) c.in-Request.is c.requires.asks)
    c.used.ensures (c.own.ensures (bytes_at place)) c.in_ok-answer_own-in-Request.ensures.place c.in_ok-answer_own-in-Request.ensures.text
