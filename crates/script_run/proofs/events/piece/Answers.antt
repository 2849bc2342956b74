use Rattle.std.proofs.Common.{◌≡◌, ◌<◌, ◌≤◌, ◌++◌, ◌∷◌, ℕ, List, [], length, inl, inr, refl, sym, ap, ◌∙◌, subst, append_assoc, append-nil, arith}
use Rattle.std.proofs.lemmas.List.{length-drop, length-take-le}
use Rattle.std.proofs.lemmas.List.Elements.{All-nil, All-cons}
use Rattle.script_run.specs.Driving.{joined_cuts}
use Rattle.script_run.proofs.DriverRunning.{on_ok, on_both}
use Rattle.script_run.proofs.Steps.{cuts_none, cuts_more, cut_joins}
use Rattle.script_run.proofs.Breaking.{passed, err_weaker}
use Rattle.script_run.proofs.Broken.{none_in_part, fed_in_part}
use Rattle.script_run.proofs.events.piece.Goals as goal

pub loop-rest-init : goal.loop-rest-init
loop-rest-init c = record {
  cuts = [];
  bytes_are = refl;
  full = All-nil (λ (cut : List ℕ). length cut ≡ 65536);
  some = inl refl;
  fed = cuts_none c.args.client c.args.runner.now c.open.new.self c.args.servers.now (c.in_ok-open.ensures.stays c.args.servers.now);
  count = refl;
  opened = c.in_ok-open.ensures.opened;
}

pub loop-rest-preserved : goal.loop-rest-preserved
loop-rest-preserved c =
    let v = c.loop-rest.invariant in
    let rest = c.loop-rest.rest.now in
    let cut = c.split_at.result.0.now in
    let more = c.split_at.result.1.now in
    let front = c.split_at.ensures.front in
    let back = c.split_at.ensures.back in
    let long : 65536 < length rest = omega arith in
    record {
      cuts = cut ∷ v.cuts;
      bytes_are = cut_joins c.args.bytes.now (joined_cuts v.cuts) rest cut more 65536 v.bytes_are front back;
      full = All-cons (λ (cut : List ℕ). length cut ≡ 65536) cut v.cuts (ap length front ∙ length-take-le 65536 rest (omega (arith, long))) v.full;
      some = inr (let e = ap length back in let d = length-drop 65536 rest in omega (arith, long, e, d));
      fed = cuts_more c.args.client v.cuts cut c.args.runner.now c.loop-rest.runner c.serve.new.runner c.args.servers.now c.loop-rest.servers c.serve.new.servers v.fed c.in_ok-serve.ensures.ok c.in_ok-serve.ensures.clients c.in_ok-serve.ensures.rest;
      count = c.in_ok-serve.ensures.count ∙ v.count;
      opened = subst (λ (n : ℕ). (c.args.client < n) × (c.args.runner.now.clients ≤ n)) (sym c.in_ok-serve.ensures.clients) v.opened;
    }

pub returns-clause-ok : goal.returns-clause-ok
returns-clause-ok c =
    let v = c.loop-rest.invariant in
    let rest = c.loop-rest.rest.now in
    on_ok c.serve-2.result _ _
    (λ e. record {
      cuts = v.cuts;
      last = rest;
      are = record { bytes_are = v.bytes_are; full = v.full; within = omega arith; some = v.some };
      fed = cuts_more c.args.client v.cuts rest c.args.runner.now c.loop-rest.runner c.serve-2.new.runner c.args.servers.now c.loop-rest.servers c.serve-2.new.servers v.fed e.0 e.1.0 e.1.1;
    })
    (on_both c.serve-2.result _ _ c.serve-2.ensures.ok (on_both c.serve-2.result _ _ c.serve-2.ensures.clients c.serve-2.ensures.rest))

pub returns-clause-opened : goal.returns-clause-opened
returns-clause-opened c =
    on_ok c.serve-2.result _ _ (λ e. subst (λ (n : ℕ). (c.args.client < n) × (c.args.runner.now.clients ≤ n)) (sym e) c.loop-rest.invariant.opened) c.serve-2.ensures.clients

pub returns-in_err-open-clause-err : goal.returns-in_err-open-clause-err
returns-in_err-open-clause-err c =
    passed c.from_residual.result _ _ c.from_residual.ensures.1 (none_in_part c.args.client c.args.bytes.now c.args.runner.now c.args.servers.now _ c.in_err-open.ensures.fault)

pub returns-in_err-serve-clause-err : goal.returns-in_err-serve-clause-err
returns-in_err-serve-clause-err c =
    let v = c.loop-rest.invariant in
    let cut = c.split_at.result.0.now in
    let more = c.split_at.result.1.now in
    passed c.from_residual-in_err-serve.result _ _ c.from_residual-in_err-serve.ensures.1
    (fed_in_part c.args.client c.args.bytes.now (joined_cuts v.cuts) cut more c.args.runner.now c.loop-rest.runner c.args.servers.now c.loop-rest.servers c.serve.new.servers _
    (cut_joins c.args.bytes.now (joined_cuts v.cuts) c.loop-rest.rest.now cut more 65536 v.bytes_are c.split_at.ensures.front c.split_at.ensures.back ∙ append_assoc (joined_cuts v.cuts) cut more) v.fed.turn.fed c.in_err-serve.ensures.err)

pub returns-clause-err : goal.returns-clause-err
returns-clause-err c =
    let v = c.loop-rest.invariant in
    err_weaker c.serve-2.result _ _
    (λ fault h. fed_in_part c.args.client c.args.bytes.now (joined_cuts v.cuts) c.loop-rest.rest.now [] c.args.runner.now c.loop-rest.runner c.args.servers.now c.loop-rest.servers c.serve-2.new.servers fault
    (v.bytes_are ∙ ap (λ (l : List ℕ). joined_cuts v.cuts ++ l) (sym (append-nil c.loop-rest.rest.now))) v.fed.turn.fed h)
    c.serve-2.ensures.err
