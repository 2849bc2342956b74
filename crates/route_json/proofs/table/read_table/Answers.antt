use Rattle.std.proofs.Common.{◌∙◌, ℕ, List, Result, Err, ap, sym}
use Rattle.route_json.specs.Fault.{Fault, BadField}
use Rattle.route_json.proofs.Gives.{gives_too, gives_result}
use Rattle.route_json.proofs.Tables.{table_when, are_slots}
use Rattle.route_json.proofs.table.read_table.Goals as goal

pub returns-then-is_no_table-clause-gives : goal.returns-then-is_no_table-clause-gives
returns-then-is_no_table-clause-gives c =
    table_when c.args.servers.now c.args.items.now _ (sym c.is_no_table.ensures ∙ c.if-is_no_table.true)
    ∙ ap (λ (name : List ℕ). let r : Result (List ℕ) Fault = Err (BadField name) in r) (sym c.in_ok-from_str.ensures.ok)

pub returns-clause-gives : goal.returns-clause-gives
returns-clause-gives c =
    gives_too _ c.read_slots.result _ _ (sym (table_when c.args.servers.now c.args.items.now _ (sym c.is_no_table.ensures ∙ c.if-is_no_table.false)))
    (gives_result _ tt c.read_slots.result _ c.read_slots.ensures.gives)

pub returns-clause-good : goal.returns-clause-good
returns-clause-good c = λ bound weighted.
    are_slots bound c.args.servers.now c.args.items.now c.read_slots.result (sym c.is_no_table.ensures ∙ c.if-is_no_table.false) c.read_slots.ensures.many (c.read_slots.ensures.below bound weighted)
