-- What a client is shown for its messages. Source: memcached's protocol.txt, "Retrieval command", the answers of each command, and the flag q of each meta command; that an error ends the reply to several keys, and mcgate's own lines, are mcgate's own.
use Rattle.std.specs.Prelude.{ℕ, ◌+◌, Bool, true, false, not, ◌&&◌, ◌||◌, List, [], ◌++◌, length, nat_le, ◌==◌, if◌then◌else◌, codes}
use Rattle.mc_types.specs.Rank.{rank_of}
use Rattle.mc_types.specs.declared.ask.Op.{Op}
use Rattle.mc_types.specs.declared.ask.Op.TheVariants.{Get, Gat, Set, Add, Replace, Append, Prepend, Cas, Delete, Incr, Decr, Touch}
use Rattle.mc_types.specs.declared.ask.Dialect.{Dialect}
use Rattle.mc_types.specs.declared.ask.Dialect.TheVariants as dialects
use Rattle.mc_types.specs.declared.ask.Ask.{Ask}
use Rattle.mc_types.specs.declared.answer.Code.{Code}
use Rattle.mc_types.specs.declared.answer.Code.TheVariants.{Hd, Va, En, Ns, Ex, Nf}
use Rattle.mc_types.specs.declared.answer.Answer.{Answer}
use Rattle.mc_types.specs.declared.answer.Answer.TheVariants as answers
use Rattle.wire_parts.specs.declared.proxy_command.ProxyCommand.{ProxyCommand}
use Rattle.wire_parts.specs.declared.proxy_command.ProxyCommand.TheVariants.{Version, Quit, Noop}
use Rattle.wire_parts.specs.declared.refusal.RefusalReason.{RefusalReason}
use Rattle.wire_parts.specs.Refusals.{refusal_line}
use Rattle.wire_answers.specs.Spelling.{answer_spelling, value_of, end_text}

abbrev pub fetches : Op → Bool
fetches Get = true
fetches Gat = true
fetches Set = false
fetches Add = false
fetches Replace = false
fetches Append = false
fetches Prepend = false
fetches Cas = false
fetches Delete = false
fetches Incr = false
fetches Decr = false
fetches Touch = false

-- the reply is a value, and has `END` after the last key: that of a classic get
abbrev pub shows_values : Dialect → Op → Bool
shows_values dialects.Classic op = fetches op
shows_values dialects.Meta op = false

-- what `q` hides of `mg`: a miss
abbrev pub hidden_get : Code → Bool
hidden_get En = true
hidden_get Hd = false
hidden_get Va = false
hidden_get Ns = false
hidden_get Ex = false
hidden_get Nf = false

-- of `ms`: that it was stored
abbrev pub hidden_store : Code → Bool
hidden_store Hd = true
hidden_store Va = false
hidden_store En = false
hidden_store Ns = false
hidden_store Ex = false
hidden_store Nf = false

-- of `md` and `ma`: that it was done, and that nothing is held
abbrev pub hidden_change : Code → Bool
hidden_change Hd = true
hidden_change Nf = true
hidden_change Va = false
hidden_change En = false
hidden_change Ns = false
hidden_change Ex = false

-- what `q` hides of each operation; no meta command is a touch
abbrev pub hidden_code : Op → Code → Bool
hidden_code Get code = hidden_get code
hidden_code Gat code = hidden_get code
hidden_code Set code = hidden_store code
hidden_code Add code = hidden_store code
hidden_code Replace code = hidden_store code
hidden_code Append code = hidden_store code
hidden_code Prepend code = hidden_store code
hidden_code Cas code = hidden_store code
hidden_code Delete code = hidden_change code
hidden_code Incr code = hidden_change code
hidden_code Decr code = hidden_change code
hidden_code Touch code = false

-- an error line is never hidden by `q`
abbrev pub hidden_answer : Op → Answer → Bool
hidden_answer op (answers.Meta code fields) = hidden_code op code
hidden_answer op _ = false

-- `noreply` hides every answer
abbrev pub hidden_in : Dialect → Op → Answer → Bool
hidden_in dialects.Classic op reply = true
hidden_in dialects.Meta op reply = hidden_answer op reply

-- the reply is hidden, where `noreply` or `q` stands on the line
abbrev pub is_hidden : Bool → Ask → Answer → Bool
is_hidden quiet ask reply = quiet && hidden_in ask.dialect ask.op reply

-- an error line, after which no further key of the message is asked
abbrev pub is_failure : Answer → Bool
is_failure reply = nat_le 3 (rank_of reply)

-- what the reply to one key adds: of a classic get the value, and `END` after the last key; an error line stands in place of `END`
abbrev pub part_text : Bool → Ask → Answer → List ℕ
part_text last ask reply =
    if shows_values ask.dialect ask.op && not (is_failure reply)
    then value_of ask reply ++ (if last then end_text else [])
    else answer_spelling ask reply

-- what the reply to one key adds to the output: nothing where it is hidden
abbrev pub shown_text : Bool → Bool → Ask → Answer → List ℕ
shown_text quiet last ask reply = if is_hidden quiet ask reply then [] else part_text last ask reply

-- the reply shows its data after their line: a hit, or a meta answer to a meta ask
abbrev pub shows_data : Bool → Answer → Bool
shows_data shows (answers.Hit flags body cas) = true
shows_data shows (answers.Meta code fields) = not shows
shows_data shows _ = false

-- `END` stands after the data: of a hit, but for one that has further keys after it
abbrev pub has_end : Bool → Bool → Answer → Bool
has_end shows last (answers.Hit flags body cas) = if shows then last else true
has_end shows last _ = false

-- what stands after the data of a reply
abbrev pub after_data : Bool → Ask → Answer → List ℕ
after_data last ask reply = codes "\r\n" ++ (if has_end (shows_values ask.dialect ask.op) last reply then end_text else [])

-- the i-th ask is the last one
abbrev pub is_last_ask : List Ask → ℕ → Bool
is_last_ask asks i = i + 1 == length asks

-- the message is done with the reply to its i-th ask
abbrev pub ends_with : List Ask → ℕ → Answer → Bool
ends_with asks i reply = is_failure reply || is_last_ask asks i

-- what mcgate itself answers, where its version is this text
abbrev pub own_answer : List ℕ → ProxyCommand → List ℕ
own_answer version Version = codes "VERSION " ++ version ++ codes "\r\n"
own_answer version Quit = []
own_answer version Noop = codes "MN\r\n"

abbrev pub refusal_text : RefusalReason → List ℕ
refusal_text why = refusal_line why ++ codes "\r\n"

abbrev pub long_line_text : List ℕ
long_line_text = codes "CLIENT_ERROR line too long\r\n"
