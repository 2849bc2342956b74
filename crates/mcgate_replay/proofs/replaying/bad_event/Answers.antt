use Rattle.std.proofs.Common.{ℕ, Some, map, sym, ap, ◌∙◌}
use Rattle.script_events.specs.Told.{either, count_known}
use Rattle.script_events.specs.Bad.{first_bad}
use Rattle.script_events.specs.Scripted.{scripted_of}
use Rattle.mcgate_replay.specs.Growing.{excluded_by}
use Rattle.mcgate_replay.specs.Replay.{replayed_events}
use Rattle.mcgate_replay.proofs.Printing.{none_or_excluded, bad_there}
use Rattle.mcgate_replay.proofs.replaying.bad_event.Goals as goal

pub returns-in-Some-clause-first : goal.returns-in-Some-clause-first
returns-in-Some-clause-first c =
    let s = c.args.script.now in
    bad_there (first_bad (count_known s) (replayed_events s)) (excluded_by c.args.judging s.config (replayed_events s)) c.in-Some.event (c.in-Some.ensures.first ∙ ap (λ (n : ℕ). first_bad n (replayed_events s)) c.server_count.ensures)

pub returns-in-None-clause-first : goal.returns-in-None-clause-first
returns-in-None-clause-first c =
    let s = c.args.script.now in
    none_or_excluded (first_bad (count_known s) (replayed_events s)) (excluded_by c.args.judging s.config (replayed_events s)) c.excluded_event.result (sym (c.in-None.ensures.first ∙ ap (λ (n : ℕ). first_bad n (replayed_events s)) c.server_count.ensures)) (c.excluded_event.ensures.first ∙ ap (λ es. excluded_by c.args.judging s.config (map scripted_of es)) c.deref.ensures.value)
