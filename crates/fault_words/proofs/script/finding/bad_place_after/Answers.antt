use Rattle.std.proofs.Common.{◌≡◌, ℕ, ◌+◌, length, map, sym, ap, ◌∙◌, subst, IfSome}
use Rattle.route_json.specs.Servers.{Addresses}
use Rattle.script_events.specs.Scripted.{scripted_of}
use Rattle.script_events.specs.LinesAfter.{lines_after}
use Rattle.script_events.specs.Told.{servers_known, either, bad_event_line}
use Rattle.fault_words.specs.declared.script.finding.LinePlace.{LinePlace}
use Rattle.fault_words.specs.Misfits.{bytes_before_bad}
use Rattle.fault_words.proofs.Found.{servers_read, bad_line_read, bytes_read}
use Rattle.fault_words.proofs.script.finding.bad_place_after.Goals as goal

pub returns : goal.returns
returns c =
    let config = c.args.config in
    let first = c.args.above + 1 in
    let lines = lines_after c.args.further in
    let r = c.in_ok-reading.reading in
    let read = rw c.servers.ensures.servers at c.in_ok-reading.ensures in
    let known : c.servers_known.result.now ≡ servers_known config.servers r.reloads.items =
    c.servers_known.ensures ∙ ap (λ (u : Addresses). servers_known u c.deref.result.now) c.servers-2.ensures.servers ∙ ap (servers_known config.servers) c.deref.ensures.value in
    let count : c.len-servers.result ≡ length (servers_known config.servers r.reloads.items) = c.len-servers.ensures.len ∙ ap length known in
    record {
      number =
          bad_line_read first config lines r read
          ∙ ap (λ (n : ℕ). either (bad_event_line n (map scripted_of r.events.items) r.lines.items) r.unreadable) (sym count)
          ∙ sym c.bad_place.ensures.number;
      servers =
          subst (λ (n : ℕ). IfSome c.bad_place.result (λ (p : LinePlace). p.servers ≡ n)) (count ∙ sym (servers_read first config lines r read)) c.bad_place.ensures.servers;
      before =
          subst (λ (n : ℕ). IfSome c.bad_place.result (λ (p : LinePlace). p.before ≡ n))
          (ap (λ (n : ℕ). bytes_before_bad n (map scripted_of r.events.items)) count ∙ sym (bytes_read first config lines r read)) c.bad_place.ensures.before;
    }
