-- The set of servers as a list of texts.
use Rattle.std.proofs.Common.{◌≡◌, ◌<◌, ℕ, suc, ◌+◌, Bool, false, cond, not, nat_lt, ◌||◌, List, [], ◌∷◌, ◌++◌, length, drop, drop-cons, add-one, get_or, Option, Some, None, String, string_bytes, position, refl, sym, ap, ap₂, ◌∙◌, arith, subst, append-nil, append_assoc, length-append}
use Rattle.std.specs.List.{list_any, position_or_len}
use Rattle.std.specs.Str.{bytes_eq}
use Rattle.std.specs.String.{string_eq}
use Rattle.std.specs.declared.alloc.Global.{Global}
use Rattle.std.proofs.lemmas.List.{map-append}
use Rattle.indexmap.specs.IndexSet.{insert_key}
use Rattle.route_json.specs.NumberedServers.{Addresses, texts, AreNew, AreServers}

abbrev is_text : List ℕ → String Global → Bool
is_text a k = bytes_eq a (string_bytes k)

pub any_text : (a : List ℕ) (ks : List (String Global)) → list_any (is_text a) ks ≡ list_any (bytes_eq a) (texts ks)
any_text a [] = refl
any_text a (k ∷ ks) = ap (λ b. bytes_eq a (string_bytes k) || b) (any_text a ks)

place_text : (a : List ℕ) (ks : List (String Global)) → position_or_len (is_text a) ks ≡ position_or_len (bytes_eq a) (texts ks)
place_text a [] = refl
place_text a (k ∷ ks) = ap (λ n. cond (not (bytes_eq a (string_bytes k))) (1 + n) 0) (place_text a ks)

pub length_texts : (ks : List (String Global)) → length (texts ks) ≡ length ks
length_texts [] = refl
length_texts (k ∷ ks) = ap suc (length_texts ks)

abbrev at_place : ℕ → ℕ → Option ℕ
at_place n m = cond (nat_lt n m) (Some n) None

position_text : (a : List ℕ) (ks : List (String Global)) → position (is_text a) ks ≡ position (bytes_eq a) (texts ks)
position_text a ks = ap₂ at_place (place_text a ks) (sym (length_texts ks))

pub place_is : (a : List ℕ) (known : Addresses) (ks : List (String Global)) → known ≡ texts ks → position (bytes_eq a) known ≡ position (is_text a) ks
place_is a known ks is = ap (position (bytes_eq a)) is ∙ sym (position_text a ks)

pub any_is : (a : List ℕ) (known : Addresses) (ks : List (String Global)) → known ≡ texts ks → list_any (bytes_eq a) known ≡ list_any (is_text a) ks
any_is a known ks is = ap (list_any (bytes_eq a)) is ∙ sym (any_text a ks)

-- the texts after an insert of a text that is new
pub pushed : (a : List ℕ) (ks ks' : List (String Global)) (k : String Global) → ks' ≡ insert_key string_eq ks k → string_bytes k ≡ a → list_any (bytes_eq a) (texts ks) ≡ false → texts ks' ≡ texts ks ++ a ∷ []
pushed a ks ks' k is text new =
    let e : list_any (string_eq k) ks ≡ false = any_text (string_bytes k) ks ∙ ap (λ b. list_any (bytes_eq b) (texts ks)) text ∙ new in
    ap texts (is ∙ ap (λ b. cond b ks (ks ++ k ∷ [])) e) ∙ map-append string_bytes ks (k ∷ []) ∙ ap (λ b. texts ks ++ b ∷ []) text

new_push : (known xs : Addresses) (a : List ℕ) → AreNew known xs → list_any (bytes_eq a) (known ++ xs) ≡ false → AreNew known (xs ++ a ∷ [])
new_push known [] a h e = (ap (list_any (bytes_eq a)) (sym (append-nil known)) ∙ e, tt)
new_push known (x ∷ xs) a h e = (h.0, new_push (known ++ x ∷ []) xs a h.1 (ap (list_any (bytes_eq a)) (append_assoc known (x ∷ []) xs) ∙ e))

pub servers_push : (xs ys : Addresses) (a : List ℕ) → AreServers xs → list_any (bytes_eq a) xs ≡ false → length xs < 4294967295 → ys ≡ xs ++ a ∷ [] → AreServers ys
servers_push xs ys a h e few is = subst AreServers (sym is) (record {
  distinct = new_push [] xs a h.distinct e;
  few = omega (arith, length-append xs (a ∷ []));
})

-- ---- a copy

-- these are copied, and these are left
pub record Copies (all done left : Addresses) : Type 0 where
  pub parts : done ++ left ≡ all
  pub new : AreNew done left

pub copy_goes : (all done done' left left' : Addresses) (a : List ℕ) → Copies all done left → left ≡ a ∷ left' → (list_any (bytes_eq a) done ≡ false → done' ≡ done ++ a ∷ []) → Copies all done' left'
copy_goes all done done' left left' a h at is =
    let new : AreNew done (a ∷ left') = subst (AreNew done) at h.new in
    let e : done' ≡ done ++ a ∷ [] = is new.0 in
    record {
      parts = ap (λ d. d ++ left') e ∙ append_assoc done (a ∷ []) left' ∙ ap (λ l. done ++ l) (sym at) ∙ h.parts;
      new = subst (λ d. AreNew d left') (sym e) new.1;
    }

pub texts_step : (ks : List (String Global)) (i : ℕ) (k : String Global) → i < length ks → k ≡ get_or ks i k → texts (drop i ks) ≡ string_bytes k ∷ texts (drop (i + 1) ks)
texts_step ks i k h e = ap texts (drop-cons ks i k h ∙ ap₂ (λ x n. x ∷ drop n ks) (sym e) (sym (add-one i)))
