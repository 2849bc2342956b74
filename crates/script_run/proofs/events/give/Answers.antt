use Rattle.std.proofs.Common.{◌++◌, ◌∷◌, [], ℕ, inr, ap, ◌∙◌}
use Rattle.script_events.specs.Scripted.{transcript_of}
use Rattle.script_run.proofs.Steps.{given_nothing, given_more, one_more_shown, nothing_new}
use Rattle.script_run.proofs.Rising.{some_new}
use Rattle.script_run.proofs.events.give.Goals as goal

pub returns-then-is_empty-clause-ok : goal.returns-then-is_empty-clause-ok
returns-then-is_empty-clause-ok c =
    given_nothing c.args.client c.in_ok-bytes.bytes.items (transcript_of c.args.transcript.now) c.args.runner.now c.take_output.new.self
    (nothing_new c.as_slice-new.result.now c.in_ok-bytes.bytes.items c.is_empty.result c.as_slice-new.ensures.value c.is_empty.ensures c.if-is_empty.true) c.in_ok-bytes.ensures.given

pub returns-clause-ok : goal.returns-clause-ok
returns-clause-ok c =
    let bytes = c.in_ok-bytes.bytes.items in
    let shown = transcript_of c.args.transcript.now in
    given_more c.args.client bytes shown (transcript_of (record { shown = c.push.new.self })) c.args.runner.now c.take_output.new.self
    (one_more_shown c.args.transcript.now.shown.items c.push.new.self.items c.args.client (record { client = c.in-Ok.client; bytes = c.in_ok-bytes.bytes }) c.in_ok-push.ensures.items
    ∙ ap (λ (n : ℕ). shown ++ record { client = n; bytes = bytes } ∷ []) c.in-Ok.ensures.1)
    c.in_ok-bytes.ensures.given

pub returns-then-is_empty-clause-stalled : goal.returns-then-is_empty-clause-stalled
returns-then-is_empty-clause-stalled c = c.in_ok-bytes.ensures.stalled

pub returns-clause-stalled : goal.returns-clause-stalled
returns-clause-stalled c = c.in_ok-bytes.ensures.stalled

pub returns-clause-one : goal.returns-clause-one
returns-clause-one c =
    let bytes = c.in_ok-bytes.bytes.items in
    let shown = transcript_of c.args.transcript.now in
    inr (
      bytes,
      some_new c.as_slice-new.result.now bytes c.is_empty.result c.as_slice-new.ensures.value c.is_empty.ensures c.if-is_empty.false,
      one_more_shown c.args.transcript.now.shown.items c.push.new.self.items c.args.client (record { client = c.in-Ok.client; bytes = c.in_ok-bytes.bytes }) c.in_ok-push.ensures.items
          ∙ ap (λ (n : ℕ). shown ++ record { client = n; bytes = bytes } ∷ []) c.in-Ok.ensures.1,
    )
