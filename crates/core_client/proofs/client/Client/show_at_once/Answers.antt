use Rattle.std.proofs.Common.{refl, sym, ap, ◌∙◌, ◌++◌, length, drop}
use Rattle.std.proofs.lemmas.Option.{slice_get_read}
use Rattle.wire_parts.specs.Sending.{bytes_of}
use Rattle.mc_types.specs.declared.ask.Ask.{Ask}
use Rattle.wire_stream.specs.Replies.{shown_text}
use Rattle.core_client.proofs.AtOnce.{head_of, at_once}
use Rattle.core_client.proofs.client.Client.show_at_once.Goals as goal

pub returns-clause-ok : goal.returns-clause-ok
returns-clause-ok c =
    let x = c.args.self.now in
    let p = c.in-Some.pending.now in
    let a = c.in-Some.ensures.item in
    let b = c.in-Some.ensures.lookup in
    let head = head_of x.queue.items p (slice_get_read x.queue.items (length x.queue.items) 0 p refl a.3.0 b) in
    at_once x (record x { output = c.send_part.new.out; queue = c.take_head.new.queue }) c.args.number c.args.reply.now p (drop 1 x.queue.items) head (sym c.is_next_reply.ensures ∙ c.if-not-is_next_reply.false) c.requires c.take_head.ensures
    (c.in_ok-send_part.ensures.ok ∙ ap (λ (a : Ask). bytes_of x.output ++ shown_text p.quiet p.last a c.args.reply.now) c.get.ensures) refl refl refl refl
