use Rattle.std.proofs.Common.{Some}
use Rattle.serve_wire.specs.declared.conn.conn.Got.TheVariants as got
use Rattle.serve_links.specs.declared.news.Cause.TheVariants as causes
use Rattle.serve_links.specs.Story.{Agrees, AgreesBut, LineFails}
use Rattle.serve_links.proofs.Story.{go_between}
use Rattle.serve_proxy.proofs.Going.{and_then, stays}
use Rattle.serve_proxy.proofs.GivenUp.{as_before, no_room_at, given_by}
use Rattle.serve_proxy.specs.Ends.{end_of}
use Rattle.serve_proxy.proofs.answers.take_read.Goals as goal

pub returns-in-Bytes : goal.returns-in-Bytes
returns-in-Bytes g c = record { ends = given_by c.args.at c.args.got got.Bytes c.in-Bytes.is (and_then (stays c.args.core.now c.note_came.ensures.ends) c.take_said_at.ensures.ends) }

pub returns-in-Nothing : goal.returns-in-Nothing
returns-in-Nothing g c = record { ends = given_by c.args.at c.args.got got.Nothing c.in-Nothing.is c.take_nothing.ensures.ends }

pub returns-in-Full : goal.returns-in-Full
returns-in-Full g c =
    let x = end_of g.W.Wire.history c.args.core.now c.args.sockets.now in
    record { ends = given_by c.args.at c.args.got got.Full c.in-Full.is (go_between {P = Agrees} (λ past was. was) (λ past was. no_room_at c.args.at past x (c.requires.full c.in-Full.is) was) (as_before {P = Agrees} {a = x})) }

pub returns-in-Ended : goal.returns-in-Ended
returns-in-Ended g c = record { ends = given_by c.args.at c.args.got got.Ended c.in-Ended.is (as_before {P = AgreesBut (LineFails (Some causes.Closed)) c.args.at} {a = end_of g.W.Wire.history c.args.core.now c.args.sockets.now}) }

pub returns-in-Failed : goal.returns-in-Failed
returns-in-Failed g c = record { ends = given_by c.args.at c.args.got got.Failed c.in-Failed.is (as_before {P = AgreesBut (LineFails (Some causes.Broken)) c.args.at} {a = end_of g.W.Wire.history c.args.core.now c.args.sockets.now}) }
