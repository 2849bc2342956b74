-- Each event of a computed script can be.
use Rattle.std.proofs.Common.{◌≡◌, ℕ, zero, suc, ◌+◌, ◌<◌, ◌≤◌, Bool, false, cond, eqb, List, [], ◌∷◌, ◌++◌, length, codes, Some, None, refl, sym, ap, ◌∙◌, arith, append_assoc, append-nil}
use Rattle.std.specs.Prelude.{sum_by}
use Rattle.std.proofs.lemmas.Bool.{ne_eqb, le-ltb, lt-leb}
use Rattle.std.proofs.lemmas.List.{length-append}
use Rattle.std.proofs.lemmas.List.Sums.{sum_by-append, sum_by-cons}
use Rattle.mc_types.specs.declared.ask.Op.{Op}
use Rattle.mc_types.specs.declared.ask.Op.TheVariants.{Get, Gat, Set, Add, Replace, Append, Prepend, Cas, Delete, Incr, Decr, Touch}
use Rattle.mc_types.specs.KeyText.{IsKey}
use Rattle.fresh_runs.specs.Log.{Scripted, Piece, Fail, Hold, Before}
use Rattle.gate_coverage.specs.Cover.{IsTaking}
use Rattle.script_events.specs.Bad.{piece_limit, len_of, bad_in, first_from, first_bad}
use Rattle.gate_gaps.specs.Scripts.{fail_lines, leaking_script}
use Rattle.mcgate_check.specs.Commands.{script_for, delete_text, read_text}

-- ---- events that can be, one after another

module _ (servers : ℕ) where
  step : (before : List Scripted) (event : Scripted) (rest : List Scripted) → bad_in servers before event ≡ false → first_from servers before (event ∷ rest) ≡ first_from servers (before ++ event ∷ []) rest
  step before event rest good = ap (λ (b : Bool). cond b (Some (length before)) (first_from servers (before ++ event ∷ []) rest)) good

  -- failures of calls from the first on
  fails_pass : (n : ℕ) (before rest : List Scripted) → first_from servers before (fail_lines n ++ rest) ≡ first_from servers (before ++ fail_lines n) rest
  fails_pass zero before rest = ap (λ (b : List Scripted). first_from servers b rest) (sym (append-nil before))
  fails_pass (suc n) before rest =
      let one = Fail (suc n) Before in
      let not0 : eqb (suc n) 0 ≡ false = ne_eqb (suc n) 0 (λ e. omega arith) in
      ap (first_from servers before) (append_assoc (fail_lines n) (one ∷ []) rest)
      ∙ fails_pass n before (one ∷ rest)
      ∙ step (before ++ fail_lines n) one rest not0
      ∙ ap (λ (b : List Scripted). first_from servers b rest) (append_assoc before (fail_lines n) (one ∷ []))

-- ---- how many bytes come

fails_bring : (n : ℕ) → sum_by len_of (fail_lines n) ≡ 0
fails_bring zero = refl
fails_bring (suc n) =
    let e : sum_by len_of (fail_lines (suc n)) ≡ sum_by len_of (fail_lines n) + sum_by len_of (Fail (suc n) Before ∷ []) = sum_by-append len_of (fail_lines n) (Fail (suc n) Before ∷ []) in
    let f : sum_by len_of (Fail (suc n) Before ∷ []) ≡ 0 = refl in
    omega (arith, e, f, fails_bring n)

around : (a key b : List ℕ) → length (a ++ key ++ b) ≡ length a + length key + length b
around a key b = let e = length-append (a ++ key) b in let f = length-append a key in omega (arith, e, f)

delete_short : (key : List ℕ) → length (delete_text key) ≡ 9 + length key
delete_short key = let e : length (delete_text key) ≡ 7 + length key + 2 = around (codes "delete ") key (codes "\r\n") in omega (arith, e)

read_short : (op : Op) (key : List ℕ) → IsTaking op → length (read_text op key) ≤ 12 + length key
read_short Get key t = let e : length (read_text Get key) ≡ 4 + length key + 2 = around (codes "get ") key (codes "\r\n") in omega (arith, e)
read_short Gat key t = let e : length (read_text Gat key) ≡ 6 + length key + 2 = around (codes "gat 0 ") key (codes "\r\n") in omega (arith, e)
read_short Incr key t = let e : length (read_text Incr key) ≡ 5 + length key + 4 = around (codes "incr ") key (codes " 1\r\n") in omega (arith, e)
read_short Decr key t = let e : length (read_text Decr key) ≡ 5 + length key + 4 = around (codes "decr ") key (codes " 1\r\n") in omega (arith, e)
read_short Set key t = absurd t
read_short Add key t = absurd t
read_short Replace key t = absurd t
read_short Append key t = absurd t
read_short Prepend key t = absurd t
read_short Cas key t = absurd t
read_short Delete key t = absurd t
read_short Touch key t = absurd t

-- ---- the script

module _ (servers server : ℕ) (key : List ℕ) (i j : ℕ) (text1 text2 : List ℕ) (there : server < servers) (short : length text1 + length text2 ≤ 16777216) where
  abbrev held : Scripted
  held = Hold server key (49 ∷ [])

  abbrev first : Scripted
  first = Piece 0 text1

  abbrev second : Scripted
  second = Piece 0 text2

  abbrev one : List Scripted
  one = held ∷ fail_lines i

  abbrev two : List Scripted
  two = one ++ first ∷ []

  abbrev three : List Scripted
  three = two ++ fail_lines j

  held_can : bad_in servers [] held ≡ false
  held_can = rw (lt-leb servers server there) refl

  one_brings : sum_by len_of one ≡ 0
  one_brings =
      let e : sum_by len_of one ≡ 0 + sum_by len_of (fail_lines i) = sum_by-cons len_of held (fail_lines i) in
      omega (arith, e, fails_bring i)

  three_brings : sum_by len_of three ≡ length text1
  three_brings =
      let e : sum_by len_of three ≡ sum_by len_of two + sum_by len_of (fail_lines j) = sum_by-append len_of two (fail_lines j) in
      let f : sum_by len_of two ≡ sum_by len_of one + sum_by len_of (first ∷ []) = sum_by-append len_of one (first ∷ []) in
      let g : sum_by len_of (first ∷ []) ≡ length text1 + sum_by len_of [] = sum_by-cons len_of first [] in
      let z : sum_by len_of [] ≡ 0 = refl in
      omega (arith, e, f, g, z, fails_bring j, one_brings)

  first_can : bad_in servers one first ≡ false
  first_can = le-ltb piece_limit (sum_by len_of one + length text1) (let e = one_brings in omega (arith, e, short))

  second_can : bad_in servers three second ≡ false
  second_can = le-ltb piece_limit (sum_by len_of three + length text2) (let e = three_brings in omega (arith, e, short))

  leaking_can : first_bad servers (leaking_script server key i text1 j text2) ≡ None
  leaking_can =
      ap (first_bad servers) (append_assoc two (fail_lines j) (second ∷ []) ∙ append_assoc one (first ∷ []) (fail_lines j ++ second ∷ []))
      ∙ step servers [] held (fail_lines i ++ first ∷ (fail_lines j ++ second ∷ [])) held_can
      ∙ fails_pass servers i (held ∷ []) (first ∷ (fail_lines j ++ second ∷ []))
      ∙ step servers one first (fail_lines j ++ second ∷ []) first_can
      ∙ fails_pass servers j two (second ∷ [])
      ∙ step servers three second [] second_can

pub script_can : (servers server : ℕ) (key : List ℕ) (op : Op) (i j : ℕ) → server < servers → IsKey key → IsTaking op → first_bad servers (script_for server key op i j) ≡ None
script_can servers server key op i j there is taking =
    let small : length key ≤ 250 = is.short in
    let d = delete_short key in
    let r = read_short op key taking in
    leaking_can servers server key i j (delete_text key) (read_text op key) there (omega (arith, d, r, small))
