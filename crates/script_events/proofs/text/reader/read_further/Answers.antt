use Rattle.std.proofs.Common.{◌≡◌, ◌+◌, ◌∷◌, length, sym, ap, ◌∙◌, arith}
use Rattle.route_json.specs.Servers.{Addresses}
use Rattle.script_events.specs.LinesAfter.{lines_after}
use Rattle.script_events.specs.Read.{line_meaning}
use Rattle.script_events.specs.Told.{Loads, line_means, servers_known}
use Rattle.script_events.proofs.Further.{loads_one}
use Rattle.script_events.proofs.text.reader.read_further.Goals as goal

pub loop-rest-preserved : goal.loop-rest-preserved
loop-rest-preserved c =
    let line = c.front_of-front.result.line.now in
    let left = lines_after c.front_of-front.result.rest in
    let l = c.loop-rest in
    let here : lines_after l.rest ≡ line ∷ left = ap lines_after c.in-Some.is ∙ c.front_of-front.ensures.lines in
    let known : c.servers_known.result.now ≡ servers_known c.args.servers.now l.reloads.items = c.servers_known.ensures ∙ ap (servers_known c.args.servers.now) c.deref.ensures.value in
    let means : Loads c.in-Loads.config ≡ line_means (servers_known c.args.servers.now l.reloads.items) line =
    ap line_meaning (sym c.in-Loads.is) ∙ c.in_ok-read_line.ensures ∙ ap (λ (u : Addresses). line_means u line) known in
    let many : c.len-at.result ≡ length l.events.items = omega arith in
    record {
      few = omega (arith, ap length here);
      so_far = loads_one c.args.servers.now (c.args.above + 1) (lines_after c.args.further) l.events.items l.lines.items l.reloads.items l.number (lines_after l.rest) line left l.invariant.so_far here
          (record { at = c.len-at.result; config = c.in-Loads.config }) c.push-in-Loads.new.self.items means many c.in_ok-push-in-Loads.ensures.items;
    }
