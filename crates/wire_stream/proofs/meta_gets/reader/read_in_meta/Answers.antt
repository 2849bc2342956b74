use Rattle.std.proofs.Common.{refl, sym, ◌∙◌}
use Rattle.wire_answers.specs.declared.reader.AnswerRead.TheVariants as reads
use Rattle.wire_stream.specs.Form.{meta_form}
use Rattle.wire_stream.proofs.Answers.{reads_answer, reads_none}
use Rattle.wire_stream.proofs.meta_gets.reader.read_in_meta.Goals as goal

pub returns-in-More-clause-reads : goal.returns-in-More-clause-reads
returns-in-More-clause-reads c =
    reads_none c.args.ask.now (meta_form c.args.ask.now) c.args.received.now c.in_ok-read.field-0 reads.More (sym c.is_retrieval.ensures ∙ c.if-not-is_retrieval.false) refl c.in_ok-read.ensures.reads c.in-More.is

pub returns-in-Foreign-clause-reads : goal.returns-in-Foreign-clause-reads
returns-in-Foreign-clause-reads c =
    reads_none c.args.ask.now (meta_form c.args.ask.now) c.args.received.now c.in_ok-read.field-0 reads.Foreign (sym c.is_retrieval.ensures ∙ c.if-not-is_retrieval.false) refl c.in_ok-read.ensures.reads c.in-Foreign.is

pub returns-in-Answer-clause-reads : goal.returns-in-Answer-clause-reads
returns-in-Answer-clause-reads c =
    reads_answer c.spelled_answers_fit.ensures c.args.ask.now (meta_form c.args.ask.now) c.args.received.now c.in_ok-read.field-0 c.in-Answer.told c.classic_of.result c.in-Answer.used c.requires (sym c.is_retrieval.ensures ∙ c.if-not-is_retrieval.false) refl c.in_ok-read.ensures.reads c.in-Answer.is c.classic_of.ensures
