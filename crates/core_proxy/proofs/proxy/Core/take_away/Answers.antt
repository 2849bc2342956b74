use Rattle.std.proofs.Common.{sym, refl, ap, ◌∙◌, nat_eq}
use Rattle.indexmap.specs.IndexMap.{get}
use Rattle.core_commands.specs.Counts.{ByNumber}
use Rattle.core_proxy.proofs.proxy.Core.take_away.Goals as goal

pub returns : goal.returns
returns c = record {
  command = c.in-Some.command;
  was = sym c.in-Some.ensures.value;
  ask_is = refl;
  gone = λ n. ap (λ (t : ByNumber). get nat_eq t n) c.keep.ensures ∙ c.remove.ensures.gone n;
  core_is = refl;
}
