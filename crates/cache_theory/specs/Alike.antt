-- A classic get and its meta form, as a memcached server serves them. Source: memcached's protocol.txt, "Retrieval command", "Get And Touch" and "Meta Get".
use Rattle.std.specs.Prelude.{◌≡◌, ℕ, true, Option}
use Rattle.mc_types.specs.declared.ask.Ask.{Ask}
use Rattle.mc_types.specs.declared.answer.Answer.{Answer}
use Rattle.cache_server.specs.Contents.{Contents}
use Rattle.cache_server.specs.Table.{Serves}
use Rattle.wire_stream.specs.Form.{is_retrieval, meta_form}
use Rattle.wire_stream.specs.Reading.{SaysSame}

-- whatever the server holds: where it serves the form, it may serve the get with the same item found and the same contents left, and the answer says the same
abbrev pub MetaGetsAreServedAlike : Type 0
MetaGetsAreServedAlike = (now stamp : ℕ) (ask : Ask) (old new : Contents) (told : Answer) (found : Option ℕ) → is_retrieval ask ≡ true
    → Serves now stamp (meta_form ask) old told found new → (answer : Answer) × Serves now stamp ask old answer found new × SaysSame told answer
