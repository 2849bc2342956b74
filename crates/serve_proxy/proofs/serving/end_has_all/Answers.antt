use Rattle.serve_proxy.proofs.Going.{one_gives, one_kept}
use Rattle.serve_proxy.proofs.Told.{all_sent}
use Rattle.serve_proxy.proofs.serving.end_has_all.Goals as goal

pub returns-in-Ok : goal.returns-in-Ok
returns-in-Ok c = record {
  one = λ h. (one_gives c.args.client.now c.show.new.client c.in-Ok.ensures.gives c.in-Ok.ensures.bytes c.show.ensures.rest).0;
  given = λ all h. one_gives c.args.client.now c.show.new.client c.in-Ok.ensures.gives c.in-Ok.ensures.bytes c.show.ensures.rest;
  sent = λ all. all_sent c.show.new.client c.is_all_sent.result c.is_all_sent.ensures all;
}

pub returns-in-Err : goal.returns-in-Err
returns-in-Err c = record {
  one = λ h. one_kept c.args.client.now c.show.new.client c.in-Err.ensures.same c.in-Err.ensures.kept c.show.ensures.rest;
  given = λ all. absurd cc;
  sent = λ all. absurd cc;
}
