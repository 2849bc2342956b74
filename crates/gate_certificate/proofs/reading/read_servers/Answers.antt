use Rattle.std.proofs.Common.{[], ◌∷◌, ◌++◌, sym, ap, ◌∙◌}
use Rattle.gate_certificate.specs.Format.{data_number}
use Rattle.gate_certificate.proofs.Lists.{each_none, read_more}
use Rattle.gate_certificate.proofs.reading.read_servers.Goals as goal

pub returns-in-None : goal.returns-in-None
returns-in-None c =
    each_none data_number c.args.items.now c.loop-item.item-index c.item-item.result c.loop-item-test.true c.item-item.is (sym c.number_in.ensures ∙ c.in-None.is)

pub loop-item-preserved : goal.loop-item-preserved
loop-item-preserved c =
    read_more data_number c.args.items.now c.loop-item.item-index c.item-item.result c.loop-item.servers.items c.push.new.self.items c.in-Some.number c.loop-item.invariant c.loop-item-test.true c.item-item.is (sym c.number_in.ensures ∙ c.in-Some.is)
    (c.in_ok-push-in-Some.ensures.items ∙ ap (λ n. c.loop-item.servers.items ++ n ∷ []) c.new.ensures)
