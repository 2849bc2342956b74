-- Flags that were found, and those still to be looked at.
use Rattle.std.proofs.Common.{◌≡◌, ◌||◌, Bool, true, false, List, ◌∷◌, refl, ap}
use Rattle.mc_types.specs.declared.token.Token.{Token}
use Rattle.mc_types.specs.declared.token.Token.TheVariants.{Cas, Flags, Key, Size, Ttl, Value, Opaque}
use Rattle.mc_types.specs.declared.wanted.Wanted.{Wanted}
use Rattle.mc_types.specs.Wanted.{wanted_of, wanting}

abbrev pub joined : Wanted → Wanted → Wanted
joined a b = record {
  cas = a.cas || b.cas;
  flags = a.flags || b.flags;
  key = a.key || b.key;
  size = a.size || b.size;
  ttl = a.ttl || b.ttl;
  value = a.value || b.value;
}

or_true : (b : Bool) → true ≡ (b || true)
or_true true = refl
or_true false = refl

pub one_more : (w : Wanted) (t : Token) (ts : List Token) → joined (wanting w t) (wanted_of ts) ≡ joined w (wanted_of (t ∷ ts))
one_more w Cas ts = ap (λ (b : Bool). let r : Wanted = record (joined w (wanted_of ts)) { cas = b } in r) (or_true w.cas)
one_more w Flags ts = ap (λ (b : Bool). let r : Wanted = record (joined w (wanted_of ts)) { flags = b } in r) (or_true w.flags)
one_more w Key ts = ap (λ (b : Bool). let r : Wanted = record (joined w (wanted_of ts)) { key = b } in r) (or_true w.key)
one_more w Size ts = ap (λ (b : Bool). let r : Wanted = record (joined w (wanted_of ts)) { size = b } in r) (or_true w.size)
one_more w Ttl ts = ap (λ (b : Bool). let r : Wanted = record (joined w (wanted_of ts)) { ttl = b } in r) (or_true w.ttl)
one_more w Value ts = ap (λ (b : Bool). let r : Wanted = record (joined w (wanted_of ts)) { value = b } in r) (or_true w.value)
one_more w (Opaque text) ts = refl
