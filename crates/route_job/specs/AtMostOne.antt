-- There is at most one proof that an ask is one that a client can write, so a struct may hold it.
use Rattle.std.specs.Prelude.{◌≡◌, ◌<◌, ◌^◌, ℕ, ℤ, Bool, true, false, List, [], length, Option, Some, None, IfSome, is_some, refl}
use Rattle.std.specs.List.{list_all}
use Rattle.std.specs.Coded.{le_prop, Coded-set, coded_bool, coded_ℕ, coded_ℤ, coded_list, coded_option}
use Rattle.std.proofs.Props.{props}
use Rattle.mc_types.specs.KeyText.{is_key_byte, IsKey}
use Rattle.mc_types.specs.Tokens.{are_served}
use Rattle.mc_types.specs.Asks.{IsExptime, AreInRange, Presence, Absent, Optional, Required, Shape, FlagIs, NumberIs, OptionIs, BytesAre, HasShape, HasShapeOf, shape_of, IsAsk}
use Rattle.mc_types.specs.declared.ask.Ask.{Ask}

if_some_prop : {A : Type 0} (P : A → Type 0) → ((x : A) → IsProp (P x)) → (o : Option A) → IsProp (IfSome o P)
if_some_prop P one None = λ x y. refl
if_some_prop P one (Some x) = one x

key_prop : (text : List ℕ) → IsProp (IsKey text)
key_prop text x y = λ i. record {
  some = le_prop x.some y.some i;
  short = le_prop x.short y.short i;
  bytes = Coded-set coded_bool (list_all is_key_byte text) true x.bytes y.bytes i;
}

exptime_prop : (exptime : ℤ) → IsProp (IsExptime exptime)
exptime_prop exptime = Prim.hlevel props

ranges_prop : (ask : Ask) → IsProp (AreInRange ask)
ranges_prop ask x y = λ i. record {
  flags = le_prop x.flags y.flags i;
  exptime = if_some_prop IsExptime exptime_prop ask.exptime x.exptime y.exptime i;
  body = le_prop x.body y.body i;
  cas = if_some_prop (λ cas. cas < 2 ^ 64) (λ cas. le_prop) ask.cas x.cas y.cas i;
  delta = le_prop x.delta y.delta i;
}

flag_prop : (p : Presence) (flag : Bool) → IsProp (FlagIs p flag)
flag_prop Absent flag = Coded-set coded_bool flag false
flag_prop Optional flag = λ x y. refl
flag_prop Required flag = λ x y. refl

number_prop : (p : Presence) (n : ℕ) → IsProp (NumberIs p n)
number_prop Absent n = Coded-set coded_ℕ n 0
number_prop Optional n = λ x y. refl
number_prop Required n = λ x y. refl

exptime_is_prop : (p : Presence) (o : Option ℤ) → IsProp (OptionIs p o)
exptime_is_prop Absent o = Coded-set (coded_option coded_ℤ) o None
exptime_is_prop Optional o = λ x y. refl
exptime_is_prop Required o = Coded-set coded_bool (is_some o) true

cas_is_prop : (p : Presence) (o : Option ℕ) → IsProp (OptionIs p o)
cas_is_prop Absent o = Coded-set (coded_option coded_ℕ) o None
cas_is_prop Optional o = λ x y. refl
cas_is_prop Required o = Coded-set coded_bool (is_some o) true

bytes_prop : (p : Presence) (bytes : List ℕ) → IsProp (BytesAre p bytes)
bytes_prop Absent bytes = Coded-set (coded_list coded_ℕ) bytes []
bytes_prop Optional bytes = λ x y. refl
bytes_prop Required bytes = λ x y. refl

has_shape_prop : (ask : Ask) (shape : Shape) → IsProp (HasShape ask shape)
has_shape_prop ask shape x y = λ i. record {
  with_cas = flag_prop shape.with_cas ask.with_cas x.with_cas y.with_cas i;
  flags = number_prop shape.flags ask.flags x.flags y.flags i;
  exptime = exptime_is_prop shape.exptime ask.exptime x.exptime y.exptime i;
  body = bytes_prop shape.body ask.body x.body y.body i;
  cas = cas_is_prop shape.cas ask.cas x.cas y.cas i;
  delta = number_prop shape.delta ask.delta x.delta y.delta i;
  tokens = Coded-set coded_bool (are_served shape.served ask.tokens) true x.tokens y.tokens i;
}

shape_prop : (ask : Ask) (shape : Option Shape) → IsProp (HasShapeOf ask shape)
shape_prop ask None = λ x y. absurd x
shape_prop ask (Some shape) = has_shape_prop ask shape

pub is_ask_prop : (ask : Ask) → IsProp (IsAsk ask)
is_ask_prop ask x y = λ i. record {
  key = key_prop ask.key x.key y.key i;
  ranges = ranges_prop ask x.ranges y.ranges i;
  shape = shape_prop ask (shape_of ask.dialect ask.op) x.shape y.shape i;
}
