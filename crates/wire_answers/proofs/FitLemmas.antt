-- What a line says fits the ask.
use Rattle.std.proofs.Common.{◌≡◌, ℕ, ◌+◌, ◌^◌, ◌<◌, ◌≤◌, Bool, true, false, ltb, leb, ◌&&◌, List, [], ◌∷◌, length, Option, Some, None, refl, sym, subst, arith}
use Rattle.std.specs.Prelude.{codes, IfSome, is_some, option_map}
use Rattle.std.specs.Option.{option_and_then}
use Rattle.std.specs.List.{list_all}
use Rattle.std.specs.Str.{bytes_eq}
use Rattle.std.specs.Str.Parse.{digits_value}
use Rattle.std.proofs.lemmas.Bool.{cond_both, ltb-true, leb-true}
use Rattle.text_words.specs.Number.{number_below, is_number}
use Rattle.text_words.specs.Word.{words}
use Rattle.mc_types.specs.Asks.{data_limit}
use Rattle.mc_types.specs.Fits.{FitsClassic, IsAnswer, IsErrorText, is_text_byte}
use Rattle.mc_types.specs.declared.ask.Ask.{Ask}
use Rattle.mc_types.specs.declared.ask.Op.{Op}
use Rattle.mc_types.specs.declared.ask.Op.TheVariants.{Get, Gat, Set, Add, Replace, Append, Prepend, Cas, Delete, Incr, Decr, Touch}
use Rattle.mc_types.specs.declared.ask.Dialect.{Dialect}
use Rattle.mc_types.specs.declared.ask.Dialect.TheVariants.{Classic}
use Rattle.mc_types.specs.declared.answer.Answer.{Answer}
use Rattle.mc_types.specs.declared.answer.Answer.TheVariants as answers
use Rattle.wire_answers.specs.declared.line_kinds.FirstLine.{FirstLine}
use Rattle.wire_answers.specs.declared.line_kinds.FirstLine.TheVariants.{Whole, Hit, Value, NoAnswer}
use Rattle.wire_answers.specs.declared.line_kinds.HitLine.{HitLine}
use Rattle.wire_answers.specs.Table.{looked_up, store_answers, of_cas, of_fetch, delete_answers, of_touch, count_answers, number_or, word_answer}
use Rattle.wire_answers.specs.FirstLine.{kind_of_line, words_said, error_said, error_text, is_error_text, after_word, cas_said, hit_said, is_fetch, hit_or_foreign, whole_or_foreign, one_word_line, in_dialect}
use Rattle.wire_answers.specs.Reading.{FollowsLine}

both : (a b : Bool) → (a && b) ≡ true → (a ≡ true) × (b ≡ true)
both true b e = (refl, e)
both false b e = absurd cc

abbrev pub Taken : Op → Bool → Answer → Type 0
Taken op with_cas answer = IsAnswer answer × FitsClassic op with_cas answer

abbrev pub IsHitOf : Bool → HitLine → Type 0
IsHitOf with_cas hit = (hit.flags < 2 ^ 32) × (hit.len ≤ data_limit) × IfSome hit.cas (λ n. n < 2 ^ 64) × (is_some hit.cas ≡ with_cas)

abbrev SaidFits : Op → Bool → FirstLine → Type 0
SaidFits op with_cas (Whole answer) = Taken op with_cas answer
SaidFits op with_cas (Hit hit) = IsHitOf with_cas hit × (is_fetch op ≡ true)
SaidFits op with_cas (Value line) = ⊥
SaidFits op with_cas NoAnswer = Unit {0}

below_limit : (limit : ℕ) (w : List ℕ) → IfSome (number_below limit w) (λ n. n < limit)
below_limit limit w = cond_both (is_number w && ltb (digits_value 10 w) limit) (Some (digits_value 10 w)) None (λ (o : Option ℕ). IfSome o (λ n. n < limit))
    (λ yes. ltb-true _ _ (both (is_number w) (ltb (digits_value 10 w) limit) yes).1)
    (λ no. tt)

-- the tables
abbrev AllRows : (Answer → Type 0) → List (List ℕ × Answer) → Type 0
AllRows P [] = Unit {0}
AllRows P (row ∷ rows) = P row.1 × AllRows P rows

found : (P : Answer → Type 0) (rows : List (List ℕ × Answer)) (w : List ℕ) → AllRows P rows → IfSome (looked_up rows w) P
found P [] w h = tt
found P (row ∷ rows) w h = cond_both (bytes_eq w row.0) (Some row.1) (looked_up rows w) (λ (o : Option Answer). IfSome o P) (λ yes. h.0) (λ no. found P rows w h.1)

number_taken : (P : Answer → Type 0) (w : List ℕ) (o : Option Answer) → ((n : ℕ) → n < 2 ^ 64 → P (answers.Number n)) → IfSome o P → IfSome (number_or w o) P
number_taken P w (Some a) all h = h
number_taken P w None all h = go (number_below (2 ^ 64) w) (below_limit (2 ^ 64) w) where
  go : (o : Option ℕ) → IfSome o (λ n. n < 2 ^ 64) → IfSome (option_map answers.Number o) P
  go (Some n) lt = all n lt
  go None lt = tt

word_taken : (op : Op) (wc : Bool) (w : List ℕ) → IfSome (word_answer op w) (Taken op wc)
word_taken Get wc w = found (Taken Get wc) of_fetch w ((tt, tt), ((tt, refl), tt))
word_taken Gat wc w = found (Taken Gat wc) of_fetch w ((tt, tt), ((tt, refl), tt))
word_taken Set wc w = found (Taken Set wc) store_answers w ((tt, tt), ((tt, tt), ((tt, refl), tt)))
word_taken Add wc w = found (Taken Add wc) store_answers w ((tt, tt), ((tt, tt), ((tt, refl), tt)))
word_taken Replace wc w = found (Taken Replace wc) store_answers w ((tt, tt), ((tt, tt), ((tt, refl), tt)))
word_taken Append wc w = found (Taken Append wc) store_answers w ((tt, tt), ((tt, tt), ((tt, refl), tt)))
word_taken Prepend wc w = found (Taken Prepend wc) store_answers w ((tt, tt), ((tt, tt), ((tt, refl), tt)))
word_taken Cas wc w = found (Taken Cas wc) of_cas w ((tt, tt), ((tt, tt), ((tt, tt), ((tt, refl), tt))))
word_taken Delete wc w = found (Taken Delete wc) delete_answers w ((tt, tt), ((tt, tt), ((tt, refl), tt)))
word_taken Incr wc w = number_taken (Taken Incr wc) w (looked_up count_answers w) (λ n lt. (lt, tt)) (found (Taken Incr wc) count_answers w ((tt, tt), ((tt, refl), tt)))
word_taken Decr wc w = number_taken (Taken Decr wc) w (looked_up count_answers w) (λ n lt. (lt, tt)) (found (Taken Decr wc) count_answers w ((tt, tt), ((tt, refl), tt)))
word_taken Touch wc w = found (Taken Touch wc) of_touch w ((tt, tt), ((tt, tt), ((tt, refl), tt)))

alone_taken : (op : Op) (wc : Bool) (w : List ℕ) (more : List (List ℕ)) → SaidFits op wc (one_word_line op w more)
alone_taken op wc w (o ∷ more) = tt
alone_taken op wc w [] = go (word_answer op w) (word_taken op wc w) where
  go : (o : Option Answer) → IfSome o (Taken op wc) → SaidFits op wc (whole_or_foreign o)
  go (Some a) h = h
  go None h = tt

-- hits
cas_taken : (wc : Bool) (ws : List (List ℕ)) → IfSome (cas_said wc ws) (λ c. IfSome c (λ n. n < 2 ^ 64) × (is_some c ≡ wc))
cas_taken true [] = tt
cas_taken false [] = (tt, refl)
cas_taken true (w ∷ []) = go (number_below (2 ^ 64) w) (below_limit (2 ^ 64) w) where
  go : (o : Option ℕ) → IfSome o (λ n. n < 2 ^ 64) → IfSome (option_map Some o) (λ (c : Option ℕ). IfSome c (λ n. n < 2 ^ 64) × (is_some c ≡ true))
  go (Some n) lt = (lt, refl)
  go None lt = tt
cas_taken false (w ∷ []) = go (number_below (2 ^ 64) w) where
  go : (o : Option ℕ) → IfSome (option_map (λ (n : ℕ). let none : Option ℕ = None in none) o) (λ (c : Option ℕ). IfSome c (λ n. n < 2 ^ 64) × (is_some c ≡ false))
  go (Some n) = (tt, refl)
  go None = tt
cas_taken true (w ∷ v ∷ ws) = tt
cas_taken false (w ∷ v ∷ ws) = tt

parts_taken : (wc : Bool) (f n : Option ℕ) (c : Option (Option ℕ)) → IfSome f (λ x. x < 2 ^ 32) → IfSome n (λ x. x < data_limit + 1) → IfSome c (λ x. IfSome x (λ m. m < 2 ^ 64) × (is_some x ≡ wc))
    → IfSome (option_and_then (λ (x : ℕ). option_and_then (λ (y : ℕ). option_map (λ (z : Option ℕ). let h : HitLine = record { flags = x; len = y; cas = z } in h) c) n) f) (IsHitOf wc)
parts_taken wc None n c a b d = tt
parts_taken wc (Some x) None c a b d = tt
parts_taken wc (Some x) (Some y) None a b d = tt
parts_taken wc (Some x) (Some y) (Some z) a b d = (a, omega arith, d.0, d.1)

hit_taken : (key : List ℕ) (wc : Bool) (ws : List (List ℕ)) → IfSome (hit_said key wc ws) (IsHitOf wc)
hit_taken key wc [] = tt
hit_taken key wc (a ∷ []) = tt
hit_taken key wc (a ∷ b ∷ []) = tt
hit_taken key wc (a ∷ f ∷ n ∷ ws) =
    let parts = parts_taken wc (number_below (2 ^ 32) f) (number_below (data_limit + 1) n) (cas_said wc ws) (below_limit (2 ^ 32) f) (below_limit (data_limit + 1) n) (cas_taken wc ws) in
    cond_both (bytes_eq a key) _ None (λ (o : Option HitLine). IfSome o (IsHitOf wc)) (λ yes. parts) (λ no. tt)

hit_fits : (op : Op) (wc : Bool) (o : Option HitLine) → is_fetch op ≡ true → IfSome o (IsHitOf wc) → SaidFits op wc (hit_or_foreign o)
hit_fits op wc (Some hit) e h = (h, e)
hit_fits op wc None e h = tt

-- error lines
pub text_is : (line : List ℕ) → IfSome (error_text line) IsErrorText
text_is line = cond_both (is_error_text (after_word line)) (Some (after_word line)) None (λ (o : Option (List ℕ)). IfSome o IsErrorText)
    (λ yes. let parts = both (leb (length (after_word line)) 1024) (list_all is_text_byte (after_word line)) yes in record { short = leb-true _ _ parts.0; bytes = parts.1 })
    (λ no. tt)

errors_taken : (op : Op) (wc : Bool) (text : List ℕ) → FitsClassic op wc (answers.ClientError text) × FitsClassic op wc (answers.ServerError text)
errors_taken Get wc text = (refl, refl)
errors_taken Gat wc text = (refl, refl)
errors_taken Set wc text = (refl, refl)
errors_taken Add wc text = (refl, refl)
errors_taken Replace wc text = (refl, refl)
errors_taken Append wc text = (refl, refl)
errors_taken Prepend wc text = (refl, refl)
errors_taken Cas wc text = (refl, refl)
errors_taken Delete wc text = (refl, refl)
errors_taken Incr wc text = (refl, refl)
errors_taken Decr wc text = (refl, refl)
errors_taken Touch wc text = (refl, refl)

client_fits : (op : Op) (wc : Bool) (o : Option (List ℕ)) → IfSome o IsErrorText → SaidFits op wc (error_said answers.ClientError o)
client_fits op wc (Some text) h = (h, (errors_taken op wc text).0)
client_fits op wc None h = tt

server_fits : (op : Op) (wc : Bool) (o : Option (List ℕ)) → IfSome o IsErrorText → SaidFits op wc (error_said answers.ServerError o)
server_fits op wc (Some text) h = (h, (errors_taken op wc text).1)
server_fits op wc None h = tt

words_fit : (ask : Ask) → ask.dialect ≡ Classic → (text : Option (List ℕ)) (ws : List (List ℕ)) → IfSome text IsErrorText → SaidFits ask.op ask.with_cas (words_said ask text ws)
words_fit ask classic text [] h = tt
words_fit ask classic text (w ∷ more) h =
    let P : FirstLine → Type 0 = SaidFits ask.op ask.with_cas in
    cond_both (bytes_eq w (codes "CLIENT_ERROR")) _ _ P (λ client. client_fits ask.op ask.with_cas text h)
    (λ no. cond_both (bytes_eq w (codes "SERVER_ERROR")) _ _ P (λ server. server_fits ask.op ask.with_cas text h)
    (λ no. subst (λ (d : Dialect). P (in_dialect d ask w more)) (sym classic)
    (cond_both (bytes_eq w (codes "VALUE") && is_fetch ask.op) _ _ P
    (λ value. hit_fits ask.op ask.with_cas (hit_said ask.key ask.with_cas more) (both (bytes_eq w (codes "VALUE")) (is_fetch ask.op) value).1 (hit_taken ask.key ask.with_cas more))
    (λ no. alone_taken ask.op ask.with_cas w more))))

said_fits : (ask : Ask) (line : List ℕ) → ask.dialect ≡ Classic → SaidFits ask.op ask.with_cas (kind_of_line ask line)
said_fits ask line classic = words_fit ask classic (error_text line) (words line) (text_is line)

hit_listed : (op : Op) (wc : Bool) (flags : ℕ) (body : List ℕ) (cas : Option ℕ) → is_fetch op ≡ true → is_some cas ≡ wc → FitsClassic op wc (answers.Hit flags body cas)
hit_listed Get wc flags body cas e h = h
hit_listed Gat wc flags body cas e h = h
hit_listed _ wc flags body cas e h = absurd cc

follows_fit : (op : Op) (wc : Bool) (s : FirstLine) (rest : List ℕ) (answer : Answer) (used : ℕ) → SaidFits op wc s → FollowsLine s rest answer used → Taken op wc answer
follows_fit op wc (Whole x) rest answer used h f = subst (Taken op wc) (sym f.0) h
follows_fit op wc (Hit hit) rest answer used h f =
    subst (Taken op wc) (sym f.3) ((h.0.0, omega (arith, f.4, h.0.1), h.0.2), hit_listed op wc hit.flags f.0 hit.cas h.1 h.0.3)
follows_fit op wc (Value line) rest answer used h f = absurd h
follows_fit op wc NoAnswer rest answer used h f = absurd f

pub classic_taken : (ask : Ask) → ask.dialect ≡ Classic → (line rest : List ℕ) (answer : Answer) (used : ℕ) → FollowsLine (kind_of_line ask line) rest answer used → Taken ask.op ask.with_cas answer
classic_taken ask classic line rest answer used f = follows_fit ask.op ask.with_cas (kind_of_line ask line) rest answer used (said_fits ask line classic) f
