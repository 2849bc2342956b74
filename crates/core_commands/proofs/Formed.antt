-- What a command asks is what a client can write.
use Rattle.std.proofs.Common.{◌≡◌, sym, ◌∙◌, subst}
use Rattle.mc_types.specs.Asks.{IsAsk}
use Rattle.mc_types.specs.declared.ask.Ask.{Ask}
use Rattle.route_job.specs.Rest.{ask_under, under_is_ask}
use Rattle.route_job.specs.declared.job.Job.{Job}

pub same_is_ask : (a b : Ask) → a ≡ b → IsAsk b → IsAsk a
same_is_ask a b same is = subst IsAsk (sym same) is

-- the ask that a job shows
pub shown_is_ask : (job : Job) (a b : Ask) → a ≡ b → b ≡ ask_under job.frames.items job.ask → IsAsk job.ask → IsAsk a
shown_is_ask job a b same shown is = subst IsAsk (sym (same ∙ shown)) (under_is_ask job.frames.items job.ask is)
