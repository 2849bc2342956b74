-- Each line says an event, or has a trouble.
use Rattle.std.proofs.Common.{ℕ, ◌^◌, inl, inr, List, Option, Some, None, Result, Ok, Err}
use Rattle.std.specs.Prelude.{codes, if◌then◌else◌}
use Rattle.std.proofs.lemmas.Bool.{cases_Bool}
use Rattle.std.specs.Str.{bytes_eq}
use Rattle.std.specs.Result.{result_ok}
use Rattle.text_words.specs.Number.{number_below}
use Rattle.mc_types.specs.Fault.{read_key}
use Rattle.mc_types.specs.declared.key.KeyFault.{KeyFault}
use Rattle.script_events.specs.Scripted.{Cut}
use Rattle.script_events.specs.Escapes.{unescaped}
use Rattle.script_events.specs.Lines.{cut, Parts}
use Rattle.script_events.specs.Events.{◌>>=◌, client_said, server_said, turn_said, count_said, manner_said, key_said, sent_said, piece_said, add_said, result_said, hold_said, fail_said, item_loss_said, restart_loss_said, loss_said, at_said, moment_said, said_after}
use Rattle.fault_words.specs.declared.script.trouble.Form.{Form}
use Rattle.fault_words.specs.declared.script.trouble.Form.TheVariants as forms
use Rattle.fault_words.specs.declared.script.trouble.Number.TheVariants as numbers
use Rattle.fault_words.specs.Troubles.{Trouble, NoNumber, NoEscape, unless, first_trouble, in_parts, form_of, number_trouble, cut_trouble, manner_trouble, key_bytes_trouble, spelled_key_trouble, key_trouble, sent_trouble, hold_trouble, fail_trouble, item_loss_trouble, loss_trouble, at_trouble, named_trouble, line_trouble}
use Rattle.fault_words.specs.Laws.{IsEither, EachLineIsEither}

-- what was read, or a trouble in its place
one : {A : Type 0} (o : Option A) (t : Trouble) → IsEither o (unless o t)
one None t = tt
one (Some a) t = tt

-- something more that is read or has a trouble
further : {A B : Type 0} (o : Option A) (f : A → Option B) (t u : Option Trouble) → IsEither o t → ((a : A) → IsEither (f a) u) → IsEither (o >>= f) (first_trouble t u)
further None f None u h k = absurd h
further None f (Some t) u h k = tt
further (Some a) f None u h k = k a
further (Some a) f (Some t) u h k = absurd h

-- made of what was read
made : {A B : Type 0} (o : Option A) (f : A → B) (t : Option Trouble) → IsEither o t → IsEither (o >>= (λ a. Some (f a))) t
made None f None h = absurd h
made None f (Some t) h = tt
made (Some a) f None h = tt
made (Some a) f (Some t) h = absurd h

parts : {B : Type 0} (form : Form) (o : Option Parts) (f : Parts → Option B) (t : Parts → Option Trouble) → ((p : Parts) → IsEither (f p) (t p)) → IsEither (o >>= f) (in_parts form t o)
parts form None f t h = tt
parts form (Some p) f t h = h p

key_bytes : (r : Result (List ℕ) KeyFault) → IsEither (result_ok r) (key_bytes_trouble r)
key_bytes (Ok key) = tt
key_bytes (Err fault) = tt

spelled_key : (o : Option (List ℕ)) → IsEither (o >>= (λ bytes. result_ok (read_key bytes))) (spelled_key_trouble o)
spelled_key None = tt
spelled_key (Some bytes) = key_bytes (read_key bytes)

key : (text : List ℕ) → IsEither (key_said text) (key_trouble text)
key text = spelled_key (unescaped text)

sent : (form : Form) (text : List ℕ) → IsEither (sent_said text) (sent_trouble form text)
sent form text = parts form (cut text) _ _ (λ p. further (client_said p.word) _ _ _ (one (client_said p.word) (NoNumber numbers.Client p.word)) (λ c. made (unescaped p.rest) _ _ (one (unescaped p.rest) NoEscape)))

piece : (text : List ℕ) → IsEither (piece_said text) (sent_trouble forms.Piece text)
piece text = made (sent_said text) _ _ (sent forms.Piece text)

add : (text : List ℕ) → IsEither (add_said text) (sent_trouble forms.Add text)
add text = made (sent_said text) _ _ (sent forms.Add text)

result : (text : List ℕ) → IsEither (result_said text) (number_trouble numbers.Server text)
result text = made (server_said text) _ _ (one (server_said text) (NoNumber numbers.Server text))

hold : (text : List ℕ) → IsEither (hold_said text) (hold_trouble text)
hold text = parts forms.Hold (cut text) _ _ (λ p. further (server_said p.word) _ _ _ (one (server_said p.word) (NoNumber numbers.Server p.word))
    (λ s. parts forms.Hold (cut p.rest) _ _ (λ q. further (key_said q.word) _ _ _ (key q.word) (λ k. made (unescaped q.rest) _ _ (one (unescaped q.rest) NoEscape)))))

cut_parts : (text : List ℕ) (o : Option Parts) → IsEither (o >>= (λ p. (if bytes_eq p.word (codes "cut") then count_said p.rest else None) >>= (λ n. Some (Cut n)))) (cut_trouble text o)
cut_parts text None = elim (cases_Bool (bytes_eq text (codes "cut"))) [
  | inl e ↦ rw e tt
  | inr e ↦ rw e tt
]
cut_parts text (Some p) = elim (cases_Bool (bytes_eq p.word (codes "cut"))) [
  | inl e ↦ rw e (made (count_said p.rest) _ _ (one (count_said p.rest) (NoNumber numbers.Count p.rest)))
  | inr e ↦ rw e tt
]

manner : (text : List ℕ) → IsEither (manner_said text) (manner_trouble text)
manner text = elim (cases_Bool (bytes_eq text (codes "before"))) [
  | inl e ↦ rw e tt
  | inr a ↦ elim (cases_Bool (bytes_eq text (codes "after"))) [
    | inl e ↦ rw (a, e) tt
    | inr b ↦ elim (cases_Bool (bytes_eq text (codes "junk"))) [
      | inl e ↦ rw (a, b, e) tt
      | inr c ↦ rw (a, b, c) (cut_parts text (cut text))
    ]
  ]
]

fail : (text : List ℕ) → IsEither (fail_said text) (fail_trouble text)
fail text = parts forms.Fail (cut text) _ _ (λ p. further (turn_said p.word) _ _ _ (one (turn_said p.word) (NoNumber numbers.Turn p.word)) (λ k. made (manner_said p.rest) _ _ (manner p.rest)))

item_loss : (text : List ℕ) → IsEither (item_loss_said text) (item_loss_trouble text)
item_loss text = parts forms.Lose (cut text) _ _ (λ p. further (server_said p.word) _ _ _ (one (server_said p.word) (NoNumber numbers.Server p.word)) (λ s. made (key_said p.rest) _ _ (key p.rest)))

restart_loss : (text : List ℕ) → IsEither (restart_loss_said text) (number_trouble numbers.Server text)
restart_loss text = made (server_said text) _ _ (one (server_said text) (NoNumber numbers.Server text))

loss : (word text : List ℕ) → IsEither (loss_said word text) (loss_trouble word text)
loss word text = elim (cases_Bool (bytes_eq word (codes "lose"))) [
  | inl e ↦ rw e (item_loss text)
  | inr a ↦ elim (cases_Bool (bytes_eq word (codes "restart"))) [
    | inl e ↦ rw (a, e) (restart_loss text)
    | inr none ↦ rw (a, none) tt
  ]
]

at : (text : List ℕ) → IsEither (at_said text) (at_trouble text)
at text = parts forms.At (cut text) _ _ (λ p. further (turn_said p.word) _ _ _ (one (turn_said p.word) (NoNumber numbers.Turn p.word))
    (λ k. parts forms.At (cut p.rest) _ _ (λ q. made (loss_said q.word q.rest) _ _ (loss q.word q.rest))))

moment : (text : List ℕ) → IsEither (moment_said text) (number_trouble numbers.Moment text)
moment text = made (number_below (2 ^ 63) text) _ _ (one (number_below (2 ^ 63) text) (NoNumber numbers.Moment text))

after_word : (word text : List ℕ) → IsEither (said_after word text) (named_trouble (form_of word) word text)
after_word word text = elim (cases_Bool (bytes_eq word (codes ">"))) [
  | inl e ↦ rw e (piece text)
  | inr a ↦ elim (cases_Bool (bytes_eq word (codes "+"))) [
    | inl e ↦ rw (a, e) (add text)
    | inr b ↦ elim (cases_Bool (bytes_eq word (codes "result"))) [
      | inl e ↦ rw (a, b, e) (result text)
      | inr c ↦ elim (cases_Bool (bytes_eq word (codes "hold"))) [
        | inl e ↦ rw (a, b, c, e) (hold text)
        | inr d ↦ elim (cases_Bool (bytes_eq word (codes "fail"))) [
          | inl e ↦ rw (a, b, c, d, e) (fail text)
          | inr f ↦ elim (cases_Bool (bytes_eq word (codes "lose"))) [
            | inl e ↦ rw (a, b, c, d, f, e) (made (item_loss_said text) _ _ (item_loss text))
            | inr g ↦ elim (cases_Bool (bytes_eq word (codes "restart"))) [
              | inl e ↦ rw (a, b, c, d, f, g, e) (made (restart_loss_said text) _ _ (restart_loss text))
              | inr h ↦ elim (cases_Bool (bytes_eq word (codes "at"))) [
                | inl e ↦ rw (a, b, c, d, f, g, h, e) (at text)
                | inr i ↦ elim (cases_Bool (bytes_eq word (codes "moment"))) [
                  | inl e ↦ rw (a, b, c, d, f, g, h, i, e) (moment text)
                  | inr j ↦ elim (cases_Bool (bytes_eq word (codes "reload"))) [
                    | inl e ↦ rw (a, b, c, d, f, g, h, i, j, e) tt
                    | inr k ↦ rw (a, b, c, d, f, g, h, i, j, k) tt
                  ]
                ]
              ]
            ]
          ]
        ]
      ]
    ]
  ]
]

line_is : (line : List ℕ) (o : Option Parts) → IsEither (o >>= (λ p. said_after p.word p.rest)) (line_trouble line o)
line_is line None = tt
line_is line (Some p) = after_word p.word p.rest

pub each_line_is_either : EachLineIsEither
each_line_is_either line = line_is line (cut line)
