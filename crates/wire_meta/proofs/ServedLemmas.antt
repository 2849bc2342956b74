-- The return flags of a line that was let through: each is one of its command, and none stands twice.
use Rattle.std.proofs.Common.{◌≡◌, ℕ, Bool, true, false, eqb, leb, ◌||◌, ◌&&◌, List, [], ◌∷◌, ◌++◌, length, Option, Some, None, Result, Ok, Err, refl, sym, ap, subst, ◌∙◌, append_assoc, inl, inr}
use Rattle.std.specs.Prelude.{if◌then◌else◌}
use Rattle.std.specs.List.{AllByRecursion, list_all}
use Rattle.std.proofs.lemmas.Bool.{cases_Bool, and_parts, leb-true, eqb-true, eq-eqb}
use Rattle.std.proofs.lemmas.List.{append-nil}
use Rattle.mc_types.specs.OpaqueText.{IsOpaque, is_opaque_byte}
use Rattle.mc_types.specs.Tokens.{Letter, LetterC, LetterF, LetterK, LetterS, LetterT, LetterV, LetterO, same_letter, has_letter, wants, are_served, TokenIsText}
use Rattle.mc_types.specs.Tokens as served
use Rattle.mc_types.specs.Asks.{of_get, of_store, of_delete, of_count}
use Rattle.mc_types.specs.declared.token.Token.{Token}
use Rattle.mc_types.specs.declared.token.Token.TheVariants as tokens
use Rattle.wire_parts.specs.declared.refusal.RefusalReason.{RefusalReason}
use Rattle.wire_parts.specs.declared.refusal.RefusalReason.TheVariants.{FlagNotServed, FlagTwice, BadToken}
use Rattle.wire_parts.specs.Tests.{Word, ◌>>=◌}
use Rattle.wire_meta.specs.declared.command.Kind.{Kind}
use Rattle.wire_meta.specs.declared.command.Kind.TheVariants.{Get, Store, Delete, Count}
use Rattle.wire_meta.specs.Flags.{flag_letter, flag_text, is_served, stands_in, has_value, is_opaque, flag_of, flags_of, flag_wants, wanted_by, tokens_in}
use Rattle.wire_meta.proofs.SeenLemmas.{stands-more}

-- the byte of a letter
abbrev pub byte_of : Letter → ℕ
byte_of LetterC = 99
byte_of LetterF = 102
byte_of LetterK = 107
byte_of LetterS = 115
byte_of LetterT = 116
byte_of LetterV = 118
byte_of LetterO = 79

-- letters are told apart by their bytes
pub apart : (x y : Letter) → same_letter x y ≡ eqb (byte_of x) (byte_of y)
apart LetterC LetterC = refl
apart LetterC LetterF = refl
apart LetterC LetterK = refl
apart LetterC LetterS = refl
apart LetterC LetterT = refl
apart LetterC LetterV = refl
apart LetterC LetterO = refl
apart LetterF LetterC = refl
apart LetterF LetterF = refl
apart LetterF LetterK = refl
apart LetterF LetterS = refl
apart LetterF LetterT = refl
apart LetterF LetterV = refl
apart LetterF LetterO = refl
apart LetterK LetterC = refl
apart LetterK LetterF = refl
apart LetterK LetterK = refl
apart LetterK LetterS = refl
apart LetterK LetterT = refl
apart LetterK LetterV = refl
apart LetterK LetterO = refl
apart LetterS LetterC = refl
apart LetterS LetterF = refl
apart LetterS LetterK = refl
apart LetterS LetterS = refl
apart LetterS LetterT = refl
apart LetterS LetterV = refl
apart LetterS LetterO = refl
apart LetterT LetterC = refl
apart LetterT LetterF = refl
apart LetterT LetterK = refl
apart LetterT LetterS = refl
apart LetterT LetterT = refl
apart LetterT LetterV = refl
apart LetterT LetterO = refl
apart LetterV LetterC = refl
apart LetterV LetterF = refl
apart LetterV LetterK = refl
apart LetterV LetterS = refl
apart LetterV LetterT = refl
apart LetterV LetterV = refl
apart LetterV LetterO = refl
apart LetterO LetterC = refl
apart LetterO LetterF = refl
apart LetterO LetterK = refl
apart LetterO LetterS = refl
apart LetterO LetterT = refl
apart LetterO LetterV = refl
apart LetterO LetterO = refl

-- the return flags of a command
abbrev pub served_by : Kind → List Letter
served_by Get = of_get
served_by Store = of_store
served_by Delete = of_delete
served_by Count = of_count

-- the return flags of a command are those of its letters
pub same_served : (kind : Kind) (x : Letter) → has_letter (served_by kind) x ≡ is_served kind (byte_of x)
same_served Get LetterC = refl
same_served Get LetterF = refl
same_served Get LetterK = refl
same_served Get LetterS = refl
same_served Get LetterT = refl
same_served Get LetterV = refl
same_served Get LetterO = refl
same_served Store LetterC = refl
same_served Store LetterF = refl
same_served Store LetterK = refl
same_served Store LetterS = refl
same_served Store LetterT = refl
same_served Store LetterV = refl
same_served Store LetterO = refl
same_served Delete LetterC = refl
same_served Delete LetterF = refl
same_served Delete LetterK = refl
same_served Delete LetterS = refl
same_served Delete LetterT = refl
same_served Delete LetterV = refl
same_served Delete LetterO = refl
same_served Count LetterC = refl
same_served Count LetterF = refl
same_served Count LetterK = refl
same_served Count LetterS = refl
same_served Count LetterT = refl
same_served Count LetterV = refl
same_served Count LetterO = refl

some_is : {A : Type 0} (x y : A) → Some x ≡ Some y → x ≡ y
some_is x y e = cc

-- the first that is there
by_if : {A : Type 0} (P : A → Type 0) (c : Bool) (a x : A) (r : Option A) → (c ≡ true → P a) → (r ≡ Some x → P x) → (if c then Some a else r) ≡ Some x → P x
by_if P true a x r h g e = subst P (some_is a x e) (h refl)
by_if P false a x r h g e = g e

not_none : {A B : Type 0} (x : A) → None ≡ Some x → B
not_none x e = absurd cc

opaque_is : (text : Word) → is_opaque text ≡ true → IsOpaque text
opaque_is text e =
    let a = and_parts (leb 1 (length text) && leb (length text) 32) (list_all is_opaque_byte text) e in
    let b = and_parts (leb 1 (length text)) (leb (length text) 32) a.0 in
    record { some = leb-true 1 (length text) b.0; short = leb-true (length text) 32 b.1; bytes = a.1 }

-- a token has the letter of its flag, and a text that is one
abbrev IsOf : ℕ → Token → Type 0
IsOf letter t = (letter ≡ byte_of (served.letter_of t)) × TokenIsText t

opaque_by : (letter : ℕ) (text : Word) (t : Token) → letter ≡ 79 → (if is_opaque text then Some (tokens.Opaque text) else None) ≡ Some t → IsOf letter t
opaque_by letter text t is e = by_if (IsOf letter) (is_opaque text) (tokens.Opaque text) t None (λ h. (is, opaque_is text h)) (not_none t) e

-- of two that are there or not
by_else : {A : Type 0} (P : A → Type 0) (c : Bool) (a r : Option A) (x : A) → (c ≡ true → a ≡ Some x → P x) → (r ≡ Some x → P x) → (if c then a else r) ≡ Some x → P x
by_else P true a r x h g e = h refl e
by_else P false a r x h g e = g e

wanted_is : (letter : ℕ) (text : Word) (t : Token) → wanted_by letter text ≡ Some t → IsOf letter t
wanted_is letter text t e =
    by_if (IsOf letter) (eqb letter 99) tokens.Cas t _ (λ h. (eqb-true letter 99 h, tt))
    (by_if (IsOf letter) (eqb letter 102) tokens.Flags t _ (λ h. (eqb-true letter 102 h, tt))
    (by_if (IsOf letter) (eqb letter 107) tokens.Key t _ (λ h. (eqb-true letter 107 h, tt))
    (by_if (IsOf letter) (eqb letter 115) tokens.Size t _ (λ h. (eqb-true letter 115 h, tt))
    (by_if (IsOf letter) (eqb letter 116) tokens.Ttl t _ (λ h. (eqb-true letter 116 h, tt))
    (by_if (IsOf letter) (eqb letter 118) tokens.Value t _ (λ h. (eqb-true letter 118 h, tt))
    (by_else (IsOf letter) (eqb letter 79) (if is_opaque text then Some (tokens.Opaque text) else None) None t (λ h. opaque_by letter text t (eqb-true letter 79 h)) (not_none t))))))) e

-- a flag that passed its tests
pub record HasPassed (kind : Kind) (before : List Word) (word flag : Word) : Type 0 where
  pub same : flag ≡ word
  pub served : is_served kind (flag_letter word) ≡ true
  pub first : stands_in (flag_letter word) before ≡ false

ok_is : {A : Type 0} (x y : A) → ◌≡◌ {A = Result A RefusalReason} (Ok x) (Ok y) → x ≡ y
ok_is x y e = cc

passed : (kind : Kind) (before : List Word) (word flag : Word) (s t v : Bool) → is_served kind (flag_letter word) ≡ s → stands_in (flag_letter word) before ≡ t → has_value kind (flag_letter word) (flag_text word) ≡ v → flag_of kind before word ≡ Ok flag → HasPassed kind before word flag
passed kind before word flag false t v a b c e = let f : ◌≡◌ {A = Result Word RefusalReason} (Err FlagNotServed) (Ok flag) = rw a at e in absurd cc
passed kind before word flag true true v a b c e = let f : ◌≡◌ {A = Result Word RefusalReason} (Err FlagTwice) (Ok flag) = rw (a, b) at e in absurd cc
passed kind before word flag true false false a b c e = let f : ◌≡◌ {A = Result Word RefusalReason} (Err BadToken) (Ok flag) = rw (a, b, c) at e in absurd cc
passed kind before word flag true false true a b c e = let f : ◌≡◌ {A = Result Word RefusalReason} (Ok word) (Ok flag) = rw (a, b, c) at e in record { same = sym (ok_is word flag f); served = a; first = b }

pub has_passed : (kind : Kind) (before : List Word) (word flag : Word) → flag_of kind before word ≡ Ok flag → HasPassed kind before word flag
has_passed kind before word flag e = passed kind before word flag _ _ _ refl refl refl e

-- the first test was passed, and so were the others
then_passed : (r : Result Word RefusalReason) (f : Word → Result (List Word) RefusalReason) (o : List Word) → r >>= f ≡ Ok o → (x : Word) × (r ≡ Ok x) × (f x ≡ Ok o)
then_passed (Ok x) f o e = (x, refl, e)
then_passed (Err why) f o e = absurd cc

-- flags after others that were let through
pub record AreServed (kind : Kind) (before words all : List Word) : Type 0 where
  pub served : are_served (served_by kind) (tokens_in words) ≡ true
  pub texts : AllByRecursion TokenIsText (tokens_in words)
  pub new : (x : Letter) → stands_in (byte_of x) before ≡ true → wants (tokens_in words) x ≡ false
  pub all_are : all ≡ before ++ words

true_or : (a b : Bool) → a ≡ true → (a || b) ≡ true
true_or true b e = refl
true_or false b e = absurd cc

or_true : (a b : Bool) → b ≡ true → (a || b) ≡ true
or_true true b e = refl
or_true false b e = e

still : (before : List Word) (word : Word) (x : Letter) → stands_in (byte_of x) before ≡ true → stands_in (byte_of x) (before ++ word ∷ []) ≡ true
still before word x e = stands-more (byte_of x) before word ∙ true_or (stands_in (byte_of x) before) (eqb (flag_letter word) (byte_of x)) e

now : (before : List Word) (word : Word) (x : Letter) → flag_letter word ≡ byte_of x → stands_in (byte_of x) (before ++ word ∷ []) ≡ true
now before word x e = stands-more (byte_of x) before word ∙ or_true (stands_in (byte_of x) before) (eqb (flag_letter word) (byte_of x)) (eq-eqb (flag_letter word) (byte_of x) e)

other : (before : List Word) (word : Word) (t : Token) (x : Letter) → flag_letter word ≡ byte_of (served.letter_of t) → stands_in (flag_letter word) before ≡ false → stands_in (byte_of x) before ≡ true → same_letter (served.letter_of t) x ≡ false
other before word t x is first stands = elim (cases_Bool (eqb (byte_of (served.letter_of t)) (byte_of x))) [
  | inl same ↦
      let e : flag_letter word ≡ byte_of x = is ∙ eqb-true (byte_of (served.letter_of t)) (byte_of x) same in
      let f : true ≡ false = sym stands ∙ sym (ap (λ (b : ℕ). stands_in b before) e) ∙ first in absurd cc
  | inr differ ↦ apart (served.letter_of t) x ∙ differ
]

one_more : (kind : Kind) (before words all : List Word) (word : Word) (o : Option Token) → flag_wants word ≡ o → HasPassed kind before word word → AreServed kind (before ++ word ∷ []) words all → AreServed kind before (word ∷ words) all
one_more kind before words all word None is p h =
    let same : tokens_in (word ∷ words) ≡ tokens_in words = rw is refl in
    record {
      served = ap (are_served (served_by kind)) same ∙ h.served;
      texts = subst (AllByRecursion TokenIsText) (sym same) h.texts;
      new = λ x e. ap (λ ts. wants ts x) same ∙ h.new x (still before word x e);
      all_are = h.all_are ∙ append_assoc before (word ∷ []) words;
    }
one_more kind before words all word (Some t) is p h =
    let same : tokens_in (word ∷ words) ≡ t ∷ tokens_in words = rw is refl in
    let of = wanted_is (flag_letter word) (flag_text word) t is in
    let mine : has_letter (served_by kind) (served.letter_of t) ≡ true = same_served kind (served.letter_of t) ∙ ap (is_served kind) (sym of.0) ∙ p.served in
    let alone : wants (tokens_in words) (served.letter_of t) ≡ false = h.new (served.letter_of t) (now before word (served.letter_of t) of.0) in
    let let_through : are_served (served_by kind) (t ∷ tokens_in words) ≡ true = rw (mine, alone, h.served) refl in
    record {
      served = ap (are_served (served_by kind)) same ∙ let_through;
      texts = subst (AllByRecursion TokenIsText) (sym same) (of.1, h.texts);
      new = λ x e.
          let a : same_letter (served.letter_of t) x ≡ false = other before word t x of.0 p.first e in
          let b : wants (t ∷ tokens_in words) x ≡ false = rw (a, h.new x (still before word x e)) refl in
          ap (λ ts. wants ts x) same ∙ b;
      all_are = h.all_are ∙ append_assoc before (word ∷ []) words;
    }

pub are_let_through : (kind : Kind) (before words all : List Word) → flags_of kind before words ≡ Ok all → AreServed kind before words all
are_let_through kind before [] all e = record { served = refl; texts = tt; new = λ x h. refl; all_are = sym (ok_is before all e) ∙ sym (append-nil before) }
are_let_through kind before (word ∷ words) all e =
    let p = then_passed (flag_of kind before word) _ all e in
    let h = has_passed kind before word p.0 p.1 in
    let rest : flags_of kind (before ++ word ∷ []) words ≡ Ok all = subst (λ w. flags_of kind (before ++ w ∷ []) words ≡ Ok all) h.same p.2 in
    let q : HasPassed kind before word word = record { same = refl; served = h.served; first = h.first } in
    one_more kind before words all word (flag_wants word) refl q (are_let_through kind (before ++ word ∷ []) words all rest)
