-- The flags with a value of a spelled ask, and what they say.
use Rattle.std.proofs.Common.{◌≡◌, ℕ, ◌^◌, ◌<◌, false, [], ◌∷◌, ◌++◌, Option, Some, None, refl, arith}
use Rattle.std.specs.Prelude.{ℤ, IfSome, decimal}
use Rattle.std.specs.Fmt.{signed_decimal}
use Rattle.text_words.specs.Number.{number_below, signed_number}
use Rattle.text_words.proofs.NumberLemmas.{number_below-decimal}
use Rattle.text_words.proofs.ReadBack.{signed_are_read_back}
use Rattle.mc_types.specs.Asks.{IsExptime}
use Rattle.mc_types.specs.declared.ask.Op.{Op}
use Rattle.wire_parts.proofs.Tokens.{fits}
use Rattle.wire_meta.specs.declared.command.Kind.TheVariants.{Get, Store, Delete, Count}
use Rattle.wire_meta.specs.declared.command.Values.{Values}
use Rattle.wire_meta.specs.Flags.{mode_of}
use Rattle.wire_meta.specs.Spelling.{meta_cas_words, mode_word, mode_letter}
use Rattle.wire_meta.proofs.FlagsBack.{AreValued, IsDate}

wide : (n : ℕ) → n < 2 ^ 64 → number_below (2 ^ 64) (decimal n) ≡ Some n
wide n lt = number_below-decimal (2 ^ 64) n lt (omega arith)

small : (n : ℕ) → n < 2 ^ 32 → number_below (2 ^ 32) (decimal n) ≡ Some n
small n lt = number_below-decimal (2 ^ 32) n lt (omega arith)

signed : (z : ℤ) → IsExptime z → signed_number (signed_decimal z) ≡ Some z
signed z h = signed_are_read_back z (fits z h)

abbrev values : Option ℕ → Option ℕ → Option ℕ → Option Op → Values
values c d f m = record { cas = c; delta = d; exptime = None; flags = f; mode = m; quiet = false }

-- the expiry of an ask is read back
pub get_date : (e : Option ℤ) → IfSome e IsExptime → IsDate Get e
get_date None h = tt
get_date (Some z) h = (refl, signed z h)

pub store_date : (e : Option ℤ) → IfSome e IsExptime → IsDate Store e
store_date None h = tt
store_date (Some z) h = (refl, signed z h)

pub count_date : (e : Option ℤ) → IfSome e IsExptime → IsDate Count e
count_date None h = tt
count_date (Some z) h = (refl, signed z h)

pub get_values : AreValued Get [] (values None None None None)
get_values = record { fit = tt; once = refl; valued = refl; none = refl; values = refl; undated = refl }

pub delete_values : (c : Option ℕ) → IfSome c (λ n. n < 2 ^ 64) → AreValued Delete (meta_cas_words c) (values c None None None)
delete_values None h = record { fit = tt; once = refl; valued = refl; none = refl; values = refl; undated = refl }
delete_values (Some n) h = record { fit = (refl, rw (wide n h) refl, tt); once = refl; valued = refl; none = refl; values = rw (wide n h) refl; undated = refl }

pub store_values : (c : Option ℕ) (f : ℕ) (op m : Op) → IfSome c (λ n. n < 2 ^ 64) → f < 2 ^ 32 → mode_of Store (mode_letter op ∷ []) ≡ Some m → AreValued Store (meta_cas_words c ++ (70 ∷ decimal f) ∷ mode_word op ∷ []) (values c None (Some f) (Some m))
store_values None f op m c lt is = record { fit = (refl, rw (small f lt) refl, (refl, rw is refl, tt)); once = refl; valued = refl; none = refl; values = rw (small f lt, is) refl; undated = refl }
store_values (Some n) f op m c lt is = record { fit = (refl, rw (wide n c) refl, (refl, rw (small f lt) refl, (refl, rw is refl, tt))); once = refl; valued = refl; none = refl; values = rw (wide n c, small f lt, is) refl; undated = refl }

pub count_values : (c : Option ℕ) (d : ℕ) (op m : Op) → IfSome c (λ n. n < 2 ^ 64) → d < 2 ^ 64 → mode_of Count (mode_letter op ∷ []) ≡ Some m → AreValued Count (meta_cas_words c ++ (68 ∷ decimal d) ∷ mode_word op ∷ []) (values c (Some d) None (Some m))
count_values None d op m c lt is = record { fit = (refl, rw (wide d lt) refl, (refl, rw is refl, tt)); once = refl; valued = refl; none = refl; values = rw (wide d lt, is) refl; undated = refl }
count_values (Some n) d op m c lt is = record { fit = (refl, rw (wide n c) refl, (refl, rw (wide d lt) refl, (refl, rw is refl, tt))); once = refl; valued = refl; none = refl; values = rw (wide n c, wide d lt, is) refl; undated = refl }
