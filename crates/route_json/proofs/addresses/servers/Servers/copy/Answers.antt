use Rattle.std.proofs.Common.{◌∙◌, drop, string_bytes, ◌+◌}
use Rattle.route_json.specs.NumberedServers.{texts}
use Rattle.route_json.proofs.Known.{copy_goes, texts_step, pushed}
use Rattle.route_json.proofs.addresses.servers.Servers.copy.Goals as goal

pub loop-text-preserved : goal.loop-text-preserved
loop-text-preserved c =
    let items = c.as_slice-text-items.result.now in
    let text = c.text-item.result in
    copy_goes (texts items) (texts c.loop-text.set.keys) (texts c.insert.new.self.keys) (texts (drop c.loop-text.text-index items)) (texts (drop (c.loop-text.text-index + 1) items)) (string_bytes text) c.loop-text.invariant (texts_step items c.loop-text.text-index text c.loop-text-test.true c.text-item.is) (λ new. pushed (string_bytes text) c.loop-text.set.keys c.insert.new.self.keys c.in_ok-from_str.field-0 c.in_ok-insert.ensures.keys (c.in_ok-from_str.ensures.ok ∙ c.as_str.ensures.value) new)
