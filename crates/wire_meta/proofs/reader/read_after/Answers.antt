use Rattle.std.proofs.Common.{None, Some}
use Rattle.text_words.specs.Word.{text_at}
use Rattle.wire_parts.specs.Message.{Served, Refusal}
use Rattle.wire_parts.specs.declared.refusal.RefusalReason.TheVariants.{BadChunk}
use Rattle.wire_parts.specs.declared.skip.Skip.TheVariants.{ThroughNewline}
use Rattle.wire_parts.proofs.Requests.{meaning-asked}
use Rattle.wire_meta.specs.Grammar.{meta_grammar}
use Rattle.wire_meta.specs.Places.{meta_order_in, MetaLiesIn}
use Rattle.wire_meta.proofs.Front.{order_in-take, LiesIn-take}
use Rattle.wire_meta.proofs.reader.read_after.Goals as goal

pub returns-in-More : goal.returns-in-More
returns-in-More c = meaning-asked meta_grammar meta_order_in MetaLiesIn order_in-take _ _ _ c.in-Ok.command _ None c.requires.line c.in-Ok.ensures.within c.in-Ok.ensures.order (c.block_len.ensures c.args.bytes.now) c.in-More.ensures

pub returns-in-Whole : goal.returns-in-Whole
returns-in-Whole c = (
  record { command = LiesIn-take c.args.end c.args.bytes.now c.in-Ok.command c.in-Ok.ensures.within; block = c.in-Whole.ensures.0 },
  meaning-asked meta_grammar meta_order_in MetaLiesIn order_in-take _ _ _ c.in-Ok.command _ (Some (Served tt (text_at c.args.bytes.now c.in-Whole.block), c.in-Whole.used)) c.requires.line c.in-Ok.ensures.within c.in-Ok.ensures.order (c.block_len.ensures c.args.bytes.now) c.in-Whole.ensures.1,
)

pub returns-in-Bad : goal.returns-in-Bad
returns-in-Bad c = meaning-asked meta_grammar meta_order_in MetaLiesIn order_in-take _ _ _ c.in-Ok.command _ (Some (Refusal BadChunk ThroughNewline, c.in-Bad.used)) c.requires.line c.in-Ok.ensures.within c.in-Ok.ensures.order (c.block_len.ensures c.args.bytes.now) c.in-Bad.ensures
