-- Which calls may put an item, or change its data. Source: memcached's protocol.txt, "Storage commands", "Increment/Decrement", "Touch", "Meta Set" and "Meta Arithmetic".
use Rattle.std.specs.Prelude.{Bool, true, false}
use Rattle.mc_types.specs.declared.ask.Op.{Op}
use Rattle.mc_types.specs.declared.ask.Op.TheVariants.{Get, Gat, Set, Add, Replace, Append, Prepend, Cas, Delete, Incr, Decr, Touch}

-- whether an operation is a store, as a server is awaited for it: it may put an item, or change the data of one. That are the storage commands (set, add, replace, append, prepend and cas; ms in any mode, also with a cas number) and those that count (incr and decr; ma). Late, they may change what was stored after a delete. Touch and gat (mg with an expiry) change only when an item expires, and a delete takes one away: late, they bring no data
abbrev pub changes_data : Op → Bool
changes_data Set = true
changes_data Add = true
changes_data Replace = true
changes_data Append = true
changes_data Prepend = true
changes_data Cas = true
changes_data Incr = true
changes_data Decr = true
changes_data Get = false
changes_data Gat = false
changes_data Touch = false
changes_data Delete = false
