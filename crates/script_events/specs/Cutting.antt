-- What is read of an answer. Source: mcgate's own.
use Rattle.std.specs.Prelude.{Option, Some, None}
use Rattle.mc_types.specs.declared.answer.Answer.{Answer}
use Rattle.wire_answers.specs.declared.reader.AnswerRead.{AnswerRead}
use Rattle.wire_answers.specs.declared.reader.AnswerRead.TheVariants as reads

-- the answer, where one was read
abbrev pub answer_of : AnswerRead → Option Answer
answer_of (reads.Answer answer used) = Some answer
answer_of reads.More = None
answer_of reads.Foreign = None
