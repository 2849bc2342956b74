use Rattle.std.proofs.Common.{◌↔◌, Bool, [], refl, subst}
use Rattle.std.specs.Prelude.{IsTrue}
use Rattle.mc_types.specs.Acknowledged.{Acknowledges}
use Rattle.mc_types.specs.declared.ask.Ask.{Ask}
use Rattle.core_client.specs.Heads.{ShowsAtOnce}
use Rattle.route_job.specs.Given.{given_when_done}
use Rattle.core_proxy.proofs.finishing.show_done.Goals as goal

pub returns-in-Ok-true-clause-some : goal.returns-in-Ok-true-clause-some
returns-in-Ok-true-clause-some c =
    let done = c.in-Done.done.now in
    record {
      given = given_when_done done;
      done = (c.in-Done.ensures.1 [] (given_when_done done)).1 (refl, refl);
      shown = subst (λ (b : Bool). ShowsAtOnce c.args.client.now c.args.number done.reply b c.show_at_once.new.self) c.in-Ok-true.field-0-test c.in-Ok-true.ensures.ok;
      from = c.told_of.ensures.from;
      acknowledged = subst (λ (a : Ask). IsTrue c.told_of.result.acknowledged ↔ Acknowledges a (given_when_done done).reply) c.get.ensures c.told_of.ensures.acknowledged;
      error = c.told_of.ensures.error;
    }
