-- When a delete is acknowledged. Source: memcached's protocol.txt, "Deletion" and "Meta Delete".
use Rattle.std.specs.Prelude.{◌≡◌, Bool, true, false}
use Rattle.mc_types.specs.declared.ask.Op.TheVariants.{Delete}
use Rattle.mc_types.specs.declared.ask.Ask.{Ask}
use Rattle.mc_types.specs.declared.answer.Code.{Code}
use Rattle.mc_types.specs.declared.answer.Code.TheVariants.{Hd, Va, En, Ns, Ex, Nf}
use Rattle.mc_types.specs.declared.answer.Answer.{Answer}
use Rattle.mc_types.specs.declared.answer.Answer.TheVariants.{Stored, NotStored, Exists, NotFound, Deleted, Touched, Number, Hit, Miss, Meta, ClientError, Error, ServerError}

abbrev pub code_says_gone : Code → Bool
code_says_gone Hd = true
code_says_gone Nf = true
code_says_gone Va = false
code_says_gone En = false
code_says_gone Ns = false
code_says_gone Ex = false

-- the answer of a delete after which nothing is held of the key
abbrev pub says_gone : Answer → Bool
says_gone Deleted = true
says_gone NotFound = true
says_gone (Meta code fields) = code_says_gone code
says_gone Stored = false
says_gone NotStored = false
says_gone Exists = false
says_gone Touched = false
says_gone (Number n) = false
says_gone (Hit f b c) = false
says_gone Miss = false
says_gone (ClientError t) = false
says_gone Error = false
says_gone (ServerError t) = false

-- the ask is a delete, and the answer says that the key is gone
abbrev pub Acknowledges : Ask → Answer → Type 0
Acknowledges ask answer = (ask.op ≡ Delete) × (says_gone answer ≡ true)
