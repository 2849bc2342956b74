-- The events of a refusal run. Source: the commands are memcached's protocol.txt, "Deletion", "Retrieval command", "Get And Touch", "Increment/Decrement".
use Rattle.std.specs.Prelude.{ℕ, List, ◌++◌, codes}
use Rattle.mc_types.specs.declared.ask.Op.{Op}
use Rattle.mc_types.specs.declared.ask.Op.TheVariants.{Gat, Incr, Decr}
use Rattle.fresh_runs.specs.Log.{Scripted}
use Rattle.gate_gaps.specs.Scripts.{leaking_script}

-- what stands before the key in the line of a read
abbrev pub before_key : Op → List ℕ
before_key Gat = codes "gat 0 "
before_key Incr = codes "incr "
before_key Decr = codes "decr "
before_key _ = codes "get "

-- what stands after it
abbrev pub after_key : Op → List ℕ
after_key Incr = codes " 1\r\n"
after_key Decr = codes " 1\r\n"
after_key _ = codes "\r\n"

-- `get K`, `gat 0 K`, `incr K 1` or `decr K 1`
abbrev pub read_text : Op → List ℕ → List ℕ
read_text op key = before_key op ++ key ++ after_key op

-- `delete K`
abbrev pub delete_text : List ℕ → List ℕ
delete_text key = codes "delete " ++ key ++ codes "\r\n"

-- the server holds `1`; so many calls of the delete fail, not applied, and so many of the read
abbrev pub script_for : (server : ℕ) (key : List ℕ) (op : Op) (i j : ℕ) → List Scripted
script_for server key op i j = leaking_script server key i (delete_text key) j (read_text op key)
