-- The names of operations, of the two kinds of delete and of servers. Source: mcgate's own.
use Rattle.std.specs.Prelude.{ℕ, List, [], codes, Option, Some, None, slice_get}
use Rattle.mc_types.specs.declared.ask.Op.{Op}
use Rattle.mc_types.specs.declared.ask.Op.TheVariants.{Get, Gat, Set, Add, Replace, Append, Prepend, Cas, Delete, Incr, Decr, Touch}
use Rattle.gate_coverage.specs.declared.deleting.Deleting.{Deleting}
use Rattle.gate_coverage.specs.declared.deleting.Deleting.TheVariants as kinds

-- the names of operations
abbrev pub op_name : Op → List ℕ
op_name Get = codes "get"
op_name Gat = codes "gat"
op_name Set = codes "set"
op_name Add = codes "add"
op_name Replace = codes "replace"
op_name Append = codes "append"
op_name Prepend = codes "prepend"
op_name Cas = codes "cas"
op_name Delete = codes "delete"
op_name Incr = codes "incr"
op_name Decr = codes "decr"
op_name Touch = codes "touch"

-- the words of the two kinds of delete
abbrev pub delete_name : Deleting → List ℕ
delete_name kinds.Delete = codes "delete"
delete_name kinds.Md = codes "md"

abbrev pub or_nothing : Option (List ℕ) → List ℕ
or_nothing None = []
or_nothing (Some text) = text

-- the address of a server; nothing where there is no such server
abbrev pub server_address : List (List ℕ) → ℕ → List ℕ
server_address servers server = or_nothing (slice_get servers server)
