use Rattle.std.proofs.Common.{◌≡◌, ℕ, ◌<◌, ◌+◌, inl, inr, refl, sym, subst, ◌∙◌, List, map, arith}
use Rattle.std.specs.Prelude.{◌⊎◌}
use Rattle.std.proofs.lemmas.Bool.{cases_lt}
use Rattle.script_events.specs.declared.script.Output.{Output}
use Rattle.script_events.specs.Scripted.{transcript_of, output_shown}
use Rattle.route_job.proofs.Executing.{on_err}
use Rattle.script_run.specs.Stepping.{HandsOut, HandsSome}
use Rattle.script_run.proofs.Steps.{hands_nothing, hands_then, hands_some}
use Rattle.script_run.proofs.Rising.{adds_none, adds_one}
use Rattle.script_run.proofs.events.give_all.Goals as goal

pub loop-client-init : goal.loop-client-init
loop-client-init c = record {
  hands = hands_nothing (λ n. n < 0) (λ n lt. omega (arith, lt)) (transcript_of c.args.transcript.now) c.args.runner.now;
  longer = omega arith;
  clients = refl;
  stalled = λ m h. h;
  adds = adds_none 0 (transcript_of c.args.transcript.now);
}

pub returns-in_err-give-clause-err : goal.returns-in_err-give-clause-err
returns-in_err-give-clause-err c =
    on_err c.from_residual.result (subst (λ (l : List Output). HandsSome (transcript_of c.args.transcript.now) (map output_shown l) c.args.runner.now) (sym c.in_err-give.ensures.err)
    (hands_some (λ n. n < c.loop-client.client) (transcript_of c.args.transcript.now) (transcript_of c.loop-client.transcript) c.args.runner.now c.loop-client.runner c.loop-client.invariant.hands))

-- the clients up to this one are those before it and itself
up_to : (client c : ℕ) → c < client + 1 → (c < client) ⊎ (client ≡ c)
up_to client c lt = elim (cases_lt c client) [
  | inl less ↦ inl less
  | inr le ↦ inr (omega (arith, le, lt))
]

pub loop-client-preserved : goal.loop-client-preserved
loop-client-preserved c =
    let n = c.loop-client.client in
    record {
      hands = hands_then (λ m. m < n) (λ m. n ≡ m) (λ m. m < n + 1) (up_to n) (transcript_of c.args.transcript.now) (transcript_of c.loop-client.transcript) (transcript_of c.give.new.transcript) c.args.runner.now c.loop-client.runner c.give.new.runner c.loop-client.invariant.hands c.in_ok-give.ensures.ok;
      longer = let a = c.loop-client.invariant.longer in let b = c.in_ok-give.ensures.longer in omega (arith, a, b);
      clients = c.in_ok-give.ensures.clients ∙ c.loop-client.invariant.clients;
      stalled = λ m h. c.in_ok-give.ensures.stalled m (c.loop-client.invariant.stalled m h);
      adds = adds_one n (transcript_of c.args.transcript.now) (transcript_of c.loop-client.transcript) (transcript_of c.give.new.transcript) c.loop-client.invariant.adds c.in_ok-give.ensures.one;
    }

pub returns-clause-ok : goal.returns-clause-ok
returns-clause-ok c =
    let is = c.clients-client-end.ensures in
    let all : c.loop-client.client ≡ c.args.runner.now.clients = omega (arith, is) in
    subst (λ (n : ℕ). HandsOut (λ m. m < n) (transcript_of c.args.transcript.now) (transcript_of c.loop-client.transcript) c.args.runner.now c.loop-client.runner) all c.loop-client.invariant.hands

pub returns-clause-clients : goal.returns-clause-clients
returns-clause-clients c = c.loop-client.invariant.clients

pub returns-clause-stalled : goal.returns-clause-stalled
returns-clause-stalled c = c.loop-client.invariant.stalled

pub returns-clause-rising : goal.returns-clause-rising
returns-clause-rising c = c.loop-client.invariant.adds.adds

pub returns-in_err-give-clause-rising : goal.returns-in_err-give-clause-rising
returns-in_err-give-clause-rising c =
    (adds_one c.loop-client.client (transcript_of c.args.transcript.now) (transcript_of c.loop-client.transcript) (transcript_of c.give.new.transcript) c.loop-client.invariant.adds c.in_err-give.ensures.one).adds
