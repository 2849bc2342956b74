-- What a plain tree takes and clears. Source: mcgate's own.
use Rattle.std.specs.Prelude.{◌≡◌, ℕ, List, Option}
use Rattle.mc_types.specs.declared.ask.Op.{Op}
use Rattle.mc_types.specs.declared.ask.Op.TheVariants.{Get, Gat, Set, Add, Replace, Append, Prepend, Cas, Delete, Incr, Decr, Touch}
use Rattle.mc_types.specs.declared.ask.Dialect.{Dialect}
use Rattle.mc_types.specs.declared.ask.Dialect.TheVariants as dialects
use Rattle.mc_types.specs.declared.ask.Ask.{Ask}
use Rattle.mc_types.specs.declared.answer.Answer.{Answer}
use Rattle.mc_types.specs.declared.call.Origin.TheVariants.{Client}
use Rattle.mc_types.specs.Acknowledged.{Acknowledges}
use Rattle.mc_types.specs.Asks.{IsAsk}
use Rattle.fresh_runs.specs.Calls.{Call}
use Rattle.fresh_runs.specs.Cover.{TakesIn, ClearsIn}
use Rattle.route_tree.specs.Plan.{Plan}
use Rattle.route_tree.specs.Word.{PlanWord}
use Rattle.gate_coverage.specs.declared.deleting.Deleting.{Deleting}
use Rattle.gate_coverage.specs.declared.deleting.Deleting.TheVariants as kinds

-- the operations whose replies show items
abbrev pub IsTaking : Op → Type 0
IsTaking Get = Unit {0}
IsTaking Gat = Unit {0}
IsTaking Incr = Unit {0}
IsTaking Decr = Unit {0}
IsTaking Set = ⊥
IsTaking Add = ⊥
IsTaking Replace = ⊥
IsTaking Append = ⊥
IsTaking Prepend = ⊥
IsTaking Cas = ⊥
IsTaking Delete = ⊥
IsTaking Touch = ⊥

-- some word of some ask of the operation shows or copies an item of the server
abbrev pub Takes : Plan → Op → ℕ → Type 0
Takes plain op server =
    (ask : Ask) × IsAsk ask × (ask.op ≡ op) × (calls : List Call) × (reply : Answer) × (from : Option ℕ)
    × PlanWord plain ask Client 0 calls (record { reply = reply; from = from }) × TakesIn calls from server

-- `delete` is of the classic dialect, `md` of the meta one
abbrev pub deleting_dialect : Deleting → Dialect
deleting_dialect kinds.Delete = dialects.Classic
deleting_dialect kinds.Md = dialects.Meta

-- in every word of a delete of this kind that is acknowledged the server is cleared
abbrev pub Clears : Plan → Deleting → ℕ → Type 0
Clears plain kind server =
    (ask : Ask) → IsAsk ask → ask.op ≡ Delete → ask.dialect ≡ deleting_dialect kind → (calls : List Call) (reply : Answer) (from : Option ℕ)
    → PlanWord plain ask Client 0 calls (record { reply = reply; from = from }) → Acknowledges ask reply → ClearsIn calls server

-- each server that the later tree takes is cleared by the earlier one, whichever delete is asked
abbrev pub Covers : Plan → Plan → Type 0
Covers earlier later = (op : Op) → IsTaking op → (server : ℕ) → Takes later op server → (kind : Deleting) → Clears earlier kind server
