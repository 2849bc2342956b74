-- Which answers agree with what a server holds of the key. Source: memcached's protocol.txt, what is said of each command and its answers.
use Rattle.std.specs.Prelude.{◌≡◌, ℕ, Option, Some, None, IsSome, IfSome, length, decimal}
use Rattle.mc_types.specs.Items.{Item, number_made}
use Rattle.mc_types.specs.declared.ask.Op.{Op}
use Rattle.mc_types.specs.declared.ask.Op.TheVariants.{Get, Gat, Set, Add, Replace, Append, Prepend, Cas, Delete, Incr, Decr, Touch}
use Rattle.mc_types.specs.declared.ask.Ask.{Ask}
use Rattle.mc_types.specs.declared.answer.Code.TheVariants.{Hd, Va, En, Ns, Ex, Nf}
use Rattle.mc_types.specs.declared.answer.Fields.{Fields}
use Rattle.mc_types.specs.declared.answer.Answer.{Answer}
use Rattle.mc_types.specs.declared.answer.Answer.TheVariants.{Stored, NotStored, Exists, NotFound, Deleted, Touched, Number, Hit, Miss, Meta}

-- data, flags and size, where they stand, are the item's
abbrev pub MatchesFields : Fields → Item → Type 0
MatchesFields fields item =
    IfSome fields.body (λ body. body ≡ item.content) × IfSome fields.flags (λ flags. flags ≡ item.flags) × IfSome fields.size (λ size. size ≡ length item.content)

-- of a get or gat, a hit carries the item, and a miss means that nothing is held
abbrev pub AgreesFetch : Answer → Option Item → Type 0
AgreesFetch (Hit flags body cas) held = (item : Item) × (held ≡ Some item) × (flags ≡ item.flags) × (body ≡ item.content)
AgreesFetch (Meta Hd fields) held = (item : Item) × (held ≡ Some item) × MatchesFields fields item
AgreesFetch (Meta Va fields) held = (item : Item) × (held ≡ Some item) × MatchesFields fields item
AgreesFetch (Meta En fields) held = held ≡ None
AgreesFetch Miss held = held ≡ None
AgreesFetch _ held = Unit {0}

-- of these operations done, or another cas number, means that an item is held, and the others that none is
abbrev pub AgreesHeld : Answer → Option Item → Type 0
AgreesHeld Stored held = IsSome held
AgreesHeld Exists held = IsSome held
AgreesHeld Deleted held = IsSome held
AgreesHeld Touched held = IsSome held
AgreesHeld (Meta Hd fields) held = IsSome held
AgreesHeld (Meta Va fields) held = IsSome held
AgreesHeld (Meta Ex fields) held = IsSome held
AgreesHeld (Meta Nf fields) held = held ≡ None
AgreesHeld (Meta Ns fields) held = held ≡ None
AgreesHeld NotFound held = held ≡ None
AgreesHeld NotStored held = held ≡ None
AgreesHeld _ held = Unit {0}

-- an add is done where nothing is held
abbrev pub AgreesAdd : Answer → Option Item → Type 0
AgreesAdd Stored held = held ≡ None
AgreesAdd NotStored held = IsSome held
AgreesAdd (Meta Hd fields) held = held ≡ None
AgreesAdd (Meta Ns fields) held = IsSome held
AgreesAdd _ held = Unit {0}

-- a number item is held, and the ask makes this number of it
abbrev pub CountsTo : Ask → Option Item → ℕ → Type 0
CountsTo ask held n = (item : Item) × (held ≡ Some item) × (number_made ask item.content ≡ Some n)

abbrev pub AgreesCount : Ask → Answer → Option Item → Type 0
AgreesCount ask (Number n) held = CountsTo ask held n
AgreesCount ask (Meta Hd fields) held = (n : ℕ) × CountsTo ask held n
AgreesCount ask (Meta Va fields) held = (n : ℕ) × CountsTo ask held n × IfSome fields.body (λ body. body ≡ decimal n)
AgreesCount ask (Meta Ex fields) held = IsSome held
AgreesCount ask (Meta Nf fields) held = held ≡ None
AgreesCount ask (Meta Ns fields) held = held ≡ None
AgreesCount ask NotFound held = held ≡ None
AgreesCount ask _ held = Unit {0}

abbrev pub AgreesAs : Op → Ask → Answer → Option Item → Type 0
AgreesAs Get ask answer held = AgreesFetch answer held
AgreesAs Gat ask answer held = AgreesFetch answer held
AgreesAs Set ask answer held = Unit {0}
AgreesAs Add ask answer held = AgreesAdd answer held
AgreesAs Replace ask answer held = AgreesHeld answer held
AgreesAs Append ask answer held = AgreesHeld answer held
AgreesAs Prepend ask answer held = AgreesHeld answer held
AgreesAs Cas ask answer held = AgreesHeld answer held
AgreesAs Delete ask answer held = AgreesHeld answer held
AgreesAs Incr ask answer held = AgreesCount ask answer held
AgreesAs Decr ask answer held = AgreesCount ask answer held
AgreesAs Touch ask answer held = AgreesHeld answer held

-- the answer agrees with what is held of the ask's key; error lines agree with anything
abbrev pub AnswerAgrees : Ask → Answer → Option Item → Type 0
AnswerAgrees ask answer held = AgreesAs ask.op ask answer held
