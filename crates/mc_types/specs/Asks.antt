-- The asks that a client can write: numbers in their ranges, and the fields that an operation has. Source: memcached's protocol.txt, the lines of each command; which meta flags are served is mcgate's own.
use Rattle.mc_types.specs.declared.limits.TheConstants.{DATA_LIMIT}
use Rattle.std.specs.Prelude.{◌≡◌, ℕ, ◌<◌, ◌≤◌, ◌^◌, ℤ, pos, neg_ℤ, ◌≤ℤ◌, ◌<ℤ◌, Bool, true, false, List, [], ◌∷◌, Option, Some, None, IsSome, IfSome, length}
use Rattle.mc_types.specs.KeyText.{IsKey}
use Rattle.mc_types.specs.Tokens.{Letter, LetterC, LetterF, LetterK, LetterS, LetterT, LetterV, LetterO, are_served}
use Rattle.mc_types.specs.declared.ask.Op.{Op}
use Rattle.mc_types.specs.declared.ask.Op.TheVariants.{Get, Gat, Set, Add, Replace, Append, Prepend, Cas, Delete, Incr, Decr, Touch}
use Rattle.mc_types.specs.declared.ask.Dialect.{Dialect}
use Rattle.mc_types.specs.declared.ask.Dialect.TheVariants.{Classic, Meta}
use Rattle.mc_types.specs.declared.ask.Ask.{Ask}

-- all operations
abbrev pub all_ops : List Op
all_ops = Get ∷ Gat ∷ Set ∷ Add ∷ Replace ∷ Append ∷ Prepend ∷ Cas ∷ Delete ∷ Incr ∷ Decr ∷ Touch ∷ []

-- the most bytes of data
abbrev pub data_limit : ℕ
data_limit = DATA_LIMIT

-- an exptime is a signed number of 64 bits
abbrev pub IsExptime : ℤ → Type 0
IsExptime exptime = (neg_ℤ (pos (2 ^ 63)) ≤ℤ exptime) × (exptime <ℤ pos (2 ^ 63))

pub record AreInRange (ask : Ask) : Type 0 where
  pub flags : ask.flags < 2 ^ 32
  pub exptime : IfSome ask.exptime IsExptime
  pub body : length ask.body ≤ data_limit
  pub cas : IfSome ask.cas (λ cas. cas < 2 ^ 64)
  pub delta : ask.delta < 2 ^ 64

-- whether a field stands in an ask
pub data Presence : Type 0 where
  Absent Optional Required : Presence

-- which fields an ask has
pub record Shape : Type 0 where
  pub with_cas : Presence
  pub flags : Presence
  pub exptime : Presence
  pub body : Presence
  pub cas : Presence
  pub delta : Presence
  -- which return flags are served
  pub served : List Letter

abbrev pub bare : List Letter → Shape
bare served = record { with_cas = Absent; flags = Absent; exptime = Absent; body = Absent; cas = Absent; delta = Absent; served = served }

abbrev pub storing : List Letter → Shape
storing served = record { with_cas = Absent; flags = Required; exptime = Required; body = Required; cas = Absent; delta = Absent; served = served }

-- of the return flags, a get has all
abbrev pub of_get : List Letter
of_get = LetterC ∷ LetterF ∷ LetterK ∷ LetterS ∷ LetterT ∷ LetterV ∷ LetterO ∷ []

-- of a store the cas number can be asked for
abbrev pub of_store : List Letter
of_store = LetterC ∷ LetterK ∷ LetterO ∷ []

abbrev pub of_delete : List Letter
of_delete = LetterK ∷ LetterO ∷ []

abbrev pub of_count : List Letter
of_count = LetterC ∷ LetterK ∷ LetterT ∷ LetterV ∷ LetterO ∷ []

abbrev pub classic_shape : Op → Shape
classic_shape Get = record (bare []) { with_cas = Optional }
classic_shape Gat = record (bare []) { with_cas = Optional; exptime = Required }
classic_shape Set = storing []
classic_shape Add = storing []
classic_shape Replace = storing []
classic_shape Append = storing []
classic_shape Prepend = storing []
classic_shape Cas = record (storing []) { cas = Required }
classic_shape Delete = bare []
classic_shape Incr = record (bare []) { delta = Required }
classic_shape Decr = record (bare []) { delta = Required }
classic_shape Touch = record (bare []) { exptime = Required }

-- `mg` is a get, and a gat with `T`; `ms` is a store by its mode, and a cas with `C`; `md` is a delete; `ma` counts; no meta command is a touch
abbrev pub meta_shape : Op → Option Shape
meta_shape Get = Some (bare of_get)
meta_shape Gat = Some (record (bare of_get) { exptime = Required })
meta_shape Set = Some (storing of_store)
meta_shape Add = Some (storing of_store)
meta_shape Replace = Some (storing of_store)
meta_shape Append = Some (storing of_store)
meta_shape Prepend = Some (storing of_store)
meta_shape Cas = Some (record (storing of_store) { cas = Required })
meta_shape Delete = Some (record (bare of_delete) { cas = Optional })
meta_shape Incr = Some (record (bare of_count) { exptime = Optional; cas = Optional; delta = Required })
meta_shape Decr = Some (record (bare of_count) { exptime = Optional; cas = Optional; delta = Required })
meta_shape Touch = None

abbrev pub shape_of : Dialect → Op → Option Shape
shape_of Classic op = Some (classic_shape op)
shape_of Meta op = meta_shape op

abbrev pub FlagIs : Presence → Bool → Type 0
FlagIs Absent flag = flag ≡ false
FlagIs Optional flag = Unit {0}
FlagIs Required flag = Unit {0}

abbrev pub NumberIs : Presence → ℕ → Type 0
NumberIs Absent n = n ≡ 0
NumberIs Optional n = Unit {0}
NumberIs Required n = Unit {0}

abbrev pub OptionIs : {A : Type 0} → Presence → Option A → Type 0
OptionIs Absent o = o ≡ None
OptionIs Optional o = Unit {0}
OptionIs Required o = IsSome o

abbrev pub BytesAre : Presence → List ℕ → Type 0
BytesAre Absent bytes = bytes ≡ []
BytesAre Optional bytes = Unit {0}
BytesAre Required bytes = Unit {0}

-- a field that the shape lacks is empty, 0 or none
pub record HasShape (ask : Ask) (shape : Shape) : Type 0 where
  pub with_cas : FlagIs shape.with_cas ask.with_cas
  pub flags : NumberIs shape.flags ask.flags
  pub exptime : OptionIs shape.exptime ask.exptime
  pub body : BytesAre shape.body ask.body
  pub cas : OptionIs shape.cas ask.cas
  pub delta : NumberIs shape.delta ask.delta
  pub tokens : are_served shape.served ask.tokens ≡ true

abbrev pub HasShapeOf : Ask → Option Shape → Type 0
HasShapeOf ask None = ⊥
HasShapeOf ask (Some shape) = HasShape ask shape

-- an ask that a client can write
pub record IsAsk (ask : Ask) : Type 0 where
  pub key : IsKey ask.key
  pub ranges : AreInRange ask
  pub shape : HasShapeOf ask (shape_of ask.dialect ask.op)
