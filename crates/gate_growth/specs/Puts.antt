-- On which servers a plain tree's commands put items. Source: mcgate's own; which operations store is memcached's protocol.txt.
use Rattle.std.specs.Prelude.{ℕ, List, Option}
use Rattle.mc_types.specs.declared.ask.Ask.{Ask}
use Rattle.mc_types.specs.declared.answer.Answer.{Answer}
use Rattle.mc_types.specs.declared.call.Origin.TheVariants.{Client}
use Rattle.mc_types.specs.Asks.{IsAsk}
use Rattle.fresh_runs.specs.Calls.{Call}
use Rattle.fresh_runs.specs.Untouched.{PutsIn}
use Rattle.route_tree.specs.Plan.{Plan}
use Rattle.route_tree.specs.Word.{PlanWord}

-- some word of some ask has a call of the server that asks for a set, an add, a replace or a cas, of the client's data or a copy, also where that call fails
abbrev pub Puts : Plan → ℕ → Type 0
Puts plain server =
    (ask : Ask) × IsAsk ask × (calls : List Call) × (reply : Answer) × (from : Option ℕ)
    × PlanWord plain ask Client 0 calls (record { reply = reply; from = from }) × PutsIn calls server
