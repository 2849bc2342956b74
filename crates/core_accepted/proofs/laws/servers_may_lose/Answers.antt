use Rattle.core_accepted.proofs.Losses as lemmas
use Rattle.core_accepted.proofs.laws.servers_may_lose.Goals as goal

pub returns : goal.returns
returns c = lemmas.servers_may_lose
