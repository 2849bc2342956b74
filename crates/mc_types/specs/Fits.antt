-- Which answers a server may give to an ask. Source: memcached's protocol.txt, what is said of the answers of each command; which meta codes are taken is mcgate's own.
use Rattle.mc_types.specs.declared.limits.TheConstants.{ERROR_TEXT_LIMIT}
use Rattle.std.specs.Prelude.{◌≡◌, ℕ, ◌<◌, ◌≤◌, ◌^◌, ◌&&◌, ℤ, pos, negsuc, ◌≤ℤ◌, ◌<ℤ◌, Bool, true, false, List, [], Option, Some, None, is_some, IsSome, IfSome, length, nat_le, not, ◌==◌}
use Rattle.std.specs.List.{list_all}
use Rattle.text_words.specs.Number.{number_below}
use Rattle.mc_types.specs.Asks.{data_limit}
use Rattle.mc_types.specs.Tokens.{wants, LetterC, LetterF, LetterS, LetterT, LetterV}
use Rattle.mc_types.specs.declared.token.Token.{Token}
use Rattle.mc_types.specs.declared.ask.Op.{Op}
use Rattle.mc_types.specs.declared.ask.Op.TheVariants.{Get, Gat, Set, Add, Replace, Append, Prepend, Cas, Delete, Incr, Decr, Touch}
use Rattle.mc_types.specs.declared.ask.Dialect.{Dialect}
use Rattle.mc_types.specs.declared.ask.Dialect.TheVariants as dialects
use Rattle.mc_types.specs.declared.ask.Ask.{Ask}
use Rattle.mc_types.specs.declared.answer.Code.{Code}
use Rattle.mc_types.specs.declared.answer.Code.TheVariants.{Hd, Va, En, Ns, Ex, Nf}
use Rattle.mc_types.specs.declared.answer.Fields.{Fields}
use Rattle.mc_types.specs.declared.answer.Answer.{Answer}
use Rattle.mc_types.specs.declared.answer.Answer.TheVariants.{Stored, NotStored, Exists, NotFound, Deleted, Touched, Number, Hit, Miss, Meta, ClientError, Error, ServerError}

-- a byte of an error text: 32..=126 or 128..=255
abbrev pub is_text_byte : ℕ → Bool
is_text_byte b = nat_le 32 b && nat_le b 255 && not (b == 127)

-- the text of an error line: at most 1,024 bytes
pub record IsErrorText (text : List ℕ) : Type 0 where
  pub short : length text ≤ ERROR_TEXT_LIMIT
  pub bytes : list_all is_text_byte text ≡ true

-- the seconds left: -1 for never
abbrev pub IsTtl : ℤ → Type 0
IsTtl ttl = (negsuc 0 ≤ℤ ttl) × (ttl <ℤ pos (2 ^ 63))

pub record AreFieldsInRange (fields : Fields) : Type 0 where
  pub body : IfSome fields.body (λ body. length body ≤ data_limit)
  pub cas : IfSome fields.cas (λ cas. cas < 2 ^ 64)
  pub flags : IfSome fields.flags (λ flags. flags < 2 ^ 32)
  pub size : IfSome fields.size (λ size. size ≤ data_limit)
  pub ttl : IfSome fields.ttl IsTtl

-- an answer's numbers and texts are in their ranges
abbrev pub IsAnswer : Answer → Type 0
IsAnswer (Number n) = n < 2 ^ 64
IsAnswer (Hit flags body cas) = (flags < 2 ^ 32) × (length body ≤ data_limit) × IfSome cas (λ n. n < 2 ^ 64)
IsAnswer (Meta code fields) = AreFieldsInRange fields
IsAnswer (ClientError text) = IsErrorText text
IsAnswer (ServerError text) = IsErrorText text
IsAnswer _ = Unit {0}

-- an error line is taken for any ask
abbrev pub is_error : Answer → Bool
is_error Error = true
is_error (ClientError t) = true
is_error (ServerError t) = true
is_error _ = false

abbrev pub FitsStore : Answer → Type 0
FitsStore Stored = Unit {0}
FitsStore NotStored = Unit {0}
FitsStore answer = is_error answer ≡ true

abbrev pub FitsCas : Answer → Type 0
FitsCas Stored = Unit {0}
FitsCas Exists = Unit {0}
FitsCas NotFound = Unit {0}
FitsCas answer = is_error answer ≡ true

-- the cas number stands on a hit where it was asked for
abbrev pub FitsFetch : Bool → Answer → Type 0
FitsFetch with_cas Miss = Unit {0}
FitsFetch with_cas (Hit flags body cas) = is_some cas ≡ with_cas
FitsFetch with_cas answer = is_error answer ≡ true

abbrev pub FitsDelete : Answer → Type 0
FitsDelete Deleted = Unit {0}
FitsDelete NotFound = Unit {0}
FitsDelete answer = is_error answer ≡ true

abbrev pub FitsTouch : Answer → Type 0
FitsTouch Touched = Unit {0}
FitsTouch NotFound = Unit {0}
FitsTouch answer = is_error answer ≡ true

abbrev pub FitsCount : Answer → Type 0
FitsCount (Number n) = Unit {0}
FitsCount NotFound = Unit {0}
FitsCount answer = is_error answer ≡ true

abbrev pub FitsClassic : Op → Bool → Answer → Type 0
FitsClassic Get with_cas answer = FitsFetch with_cas answer
FitsClassic Gat with_cas answer = FitsFetch with_cas answer
FitsClassic Set with_cas answer = FitsStore answer
FitsClassic Add with_cas answer = FitsStore answer
FitsClassic Replace with_cas answer = FitsStore answer
FitsClassic Append with_cas answer = FitsStore answer
FitsClassic Prepend with_cas answer = FitsStore answer
FitsClassic Cas with_cas answer = FitsCas answer
FitsClassic Delete with_cas answer = FitsDelete answer
FitsClassic Incr with_cas answer = FitsCount answer
FitsClassic Decr with_cas answer = FitsCount answer
FitsClassic Touch with_cas answer = FitsTouch answer

-- each of c, f, s and t stands exactly where it was asked for, and the data where said
pub record StandAs (tokens : List Token) (body : Bool) (fields : Fields) : Type 0 where
  pub body_is : is_some fields.body ≡ body
  pub cas : is_some fields.cas ≡ wants tokens LetterC
  pub flags : is_some fields.flags ≡ wants tokens LetterF
  pub size : is_some fields.size ≡ wants tokens LetterS
  pub ttl : is_some fields.ttl ≡ wants tokens LetterT

-- nothing stands beside the code
abbrev pub AreBare : Fields → Type 0
AreBare fields = StandAs [] false fields

-- a size that stands beside data is the length of these
abbrev pub IsSizeOf : Option ℕ → Option (List ℕ) → Type 0
IsSizeOf (Some size) (Some body) = size ≡ length body
IsSizeOf (Some size) None = Unit {0}
IsSizeOf None body = Unit {0}

-- data that are a number of 1 to 20 digits, without spaces after it
abbrev pub IsNumberText : Option (List ℕ) → Type 0
IsNumberText None = ⊥
IsNumberText (Some body) = IsSome (number_below (2 ^ 64) body)

abbrev pub FitsMetaFetch : List Token → Code → Fields → Type 0
FitsMetaFetch tokens Va fields = (wants tokens LetterV ≡ true) × StandAs tokens true fields × IsSizeOf fields.size fields.body
FitsMetaFetch tokens Hd fields = (wants tokens LetterV ≡ false) × StandAs tokens false fields
FitsMetaFetch tokens En fields = AreBare fields
FitsMetaFetch tokens _ fields = ⊥

abbrev pub FitsMetaStore : List Token → Code → Fields → Type 0
FitsMetaStore tokens Hd fields = StandAs tokens false fields
FitsMetaStore tokens Ns fields = AreBare fields
FitsMetaStore tokens Ex fields = AreBare fields
FitsMetaStore tokens Nf fields = AreBare fields
FitsMetaStore tokens _ fields = ⊥

abbrev pub FitsMetaDelete : Code → Fields → Type 0
FitsMetaDelete Hd fields = AreBare fields
FitsMetaDelete Nf fields = AreBare fields
FitsMetaDelete Ex fields = AreBare fields
FitsMetaDelete _ fields = ⊥

abbrev pub FitsMetaCount : List Token → Code → Fields → Type 0
FitsMetaCount tokens Va fields = (wants tokens LetterV ≡ true) × StandAs tokens true fields × IsNumberText fields.body
FitsMetaCount tokens Hd fields = (wants tokens LetterV ≡ false) × StandAs tokens false fields
FitsMetaCount tokens Nf fields = AreBare fields
FitsMetaCount tokens Ns fields = AreBare fields
FitsMetaCount tokens Ex fields = AreBare fields
FitsMetaCount tokens En fields = ⊥

abbrev pub FitsMetaCode : Op → List Token → Code → Fields → Type 0
FitsMetaCode Get tokens code fields = FitsMetaFetch tokens code fields
FitsMetaCode Gat tokens code fields = FitsMetaFetch tokens code fields
FitsMetaCode Set tokens code fields = FitsMetaStore tokens code fields
FitsMetaCode Add tokens code fields = FitsMetaStore tokens code fields
FitsMetaCode Replace tokens code fields = FitsMetaStore tokens code fields
FitsMetaCode Append tokens code fields = FitsMetaStore tokens code fields
FitsMetaCode Prepend tokens code fields = FitsMetaStore tokens code fields
FitsMetaCode Cas tokens code fields = FitsMetaStore tokens code fields
FitsMetaCode Delete tokens code fields = FitsMetaDelete code fields
FitsMetaCode Incr tokens code fields = FitsMetaCount tokens code fields
FitsMetaCode Decr tokens code fields = FitsMetaCount tokens code fields
FitsMetaCode Touch tokens code fields = ⊥

abbrev pub FitsMeta : Op → List Token → Answer → Type 0
FitsMeta op tokens (Meta code fields) = FitsMetaCode op tokens code fields
FitsMeta op tokens answer = is_error answer ≡ true

abbrev pub FitsIn : Dialect → Ask → Answer → Type 0
FitsIn dialects.Classic ask answer = FitsClassic ask.op ask.with_cas answer
FitsIn dialects.Meta ask answer = FitsMeta ask.op ask.tokens answer

-- a server may answer the ask so
pub record Fits (ask : Ask) (answer : Answer) : Type 0 where
  pub ranges : IsAnswer answer
  pub listed : FitsIn ask.dialect ask answer
