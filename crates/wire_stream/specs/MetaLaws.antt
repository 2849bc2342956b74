-- What holds of the meta form of each classic get.
use Rattle.std.specs.Prelude.{◌≡◌, ℕ, false, true, Bool, List, [], ◌∷◌, ◌++◌, None, length, codes}
use Rattle.mc_types.specs.Asks.{IsAsk}
use Rattle.mc_types.specs.Fits.{Fits}
use Rattle.mc_types.specs.declared.ask.Ask.{Ask}
use Rattle.mc_types.specs.declared.answer.Answer.{Answer}
use Rattle.wire_parts.specs.Message.{Served}
use Rattle.wire_parts.specs.Tests.{Word}
use Rattle.wire_meta.specs.declared.command.Kind.TheVariants.{Get}
use Rattle.wire_meta.specs.Order.{Asking}
use Rattle.wire_meta.specs.Spelling.{exptime_words}
use Rattle.wire_stream.specs.Both.{Meta}
use Rattle.wire_stream.specs.Message.{AnyMessage, Begins}
use Rattle.wire_stream.specs.Asks.{asks_of}
use Rattle.wire_stream.specs.Spelling.{spelling_of}
use Rattle.wire_answers.specs.Spelling as answers
use Rattle.wire_stream.specs.Form.{is_retrieval, meta_form, in_meta}
use Rattle.wire_stream.specs.Reading.{SaysSame, SpellsInMeta}

abbrev pub cas_flag : Bool → List Word
cas_flag true = codes "c" ∷ []
cas_flag false = []

-- an `mg` of the key, with T first where the expiry is set, and with the flags k, f and v, and with c where the cas number is wanted
abbrev pub get_line : Ask → AnyMessage
get_line ask = Served (Meta (Asking Get ask.key None (exptime_words ask.exptime ++ (codes "k" ∷ codes "f" ∷ codes "v" ∷ cas_flag ask.with_cas)))) []

-- what is written of a classic get is read as an `mg` of its key with the flags of the form, whatever follows, and that is one ask, the form
abbrev pub FormsAreRead : Type 0
FormsAreRead = (ask : Ask) (more : List ℕ) → IsAsk ask → is_retrieval ask ≡ true
    → Begins (spelling_of (in_meta ask) ++ more) (get_line ask) (length (spelling_of (in_meta ask))) × (asks_of (get_line ask) ≡ meta_form ask ∷ [])

-- each answer that fits the form is read, whatever follows, as a classic one that says the same
abbrev pub AnswersAreRead : Type 0
AnswersAreRead = (ask : Ask) (told : Answer) (more : List ℕ) → IsAsk ask → is_retrieval ask ≡ true → Fits (meta_form ask) told
    → (answer : Answer) × SaysSame told answer × SpellsInMeta ask (answers.answer_spelling (meta_form ask) told ++ more) answer (length (answers.answer_spelling (meta_form ask) told))

-- bytes begin with one answer to an ask at most
abbrev pub OneMetaAnswer : Type 0
OneMetaAnswer = (ask : Ask) (bytes : List ℕ) (a b : Answer) (m n : ℕ) → SpellsInMeta ask bytes a m → SpellsInMeta ask bytes b n → (a ≡ b) × (m ≡ n)
