-- Events that were written as lines are read back.
use Rattle.std.proofs.Common.{◌≡◌, ℕ, ℤ, ◌+◌, ◌<◌, ◌^◌, false, eqb, List, [], ◌∷◌, ◌++◌, map, codes, Option, Some, None, Result, Ok, All, refl, sym, ap, ◌∙◌, subst, arith, append_assoc}
use Rattle.std.specs.Prelude.{pos, option_and_then, decimal, if◌then◌else◌}
use Rattle.std.specs.Str.{bytes_eq}
use Rattle.std.specs.Result.{result_ok}
use Rattle.std.proofs.lemmas.Bool.{ne_eqb}
use Rattle.std.proofs.lemmas.List.Splits.{slice_split_at}
use Rattle.text_words.proofs.NumberLemmas.{number_below-decimal}
use Rattle.mc_types.specs.declared.key.KeyFault.{KeyFault}
use Rattle.mc_types.specs.Fault.{read_key}
use Rattle.mc_types.specs.KeyText.{IsKey}
use Rattle.wire_parts.proofs.KeyTexts.{is_read}
use Rattle.script_events.specs.Scripted.{Scripted, Piece, Add, Fail, Hold, At, Now, Moment, Manner, Before, After, Junk, Cut, Loss, Lose, Restart}
use Rattle.script_events.specs.Scripted as scripted
use Rattle.text_words.specs.Escapes.{escaped}
use Rattle.script_events.specs.Escapes.{unescaped}
use Rattle.script_events.specs.Lines.{Parts, cut, lines_of, is_line_end}
use Rattle.script_events.specs.Events.{nonzero, client_said, server_said, turn_said, key_said, count_said, manner_said, sent_said, hold_said, fail_said, item_loss_said, restart_loss_said, loss_said, at_said, said_after, event_said}
use Rattle.route_json.specs.Configuration.{Configuration}
use Rattle.route_json.specs.Servers.{Addresses}
use Rattle.script_events.specs.FirstLine.{WhyNot, first_said}
use Rattle.script_events.specs.Told.{Meaning, Says, line_means, said_or_not, reload_said, load_or_event, used_after, events_after, Numbered, and_then, numbered, or_after, first_unreadable, load_then, loaded, told_from, told_after, told_by, text_told}
use Rattle.script_events.specs.ScriptLines.{manner_text, manner_line, loss_line, event_line, script_lines}
use Rattle.script_events.specs.LineLaws.{AreBytes, CanBeLost, IsTurn, IsManner, HasLine, HaveLines, SaysAll, ScriptsAreReadBack}
use Rattle.script_events.proofs.ReadBack.{escapes_are_read_back}
use Rattle.script_events.proofs.WordCuts.{Lacks, lacks_both, lacks_all, lacks_by, cut_at, decimal_lacks, escaped_lacks, key_lacks}

-- ---- words

turn_back : (turn : ℕ) → IsTurn turn → turn_said (decimal turn) ≡ Some turn
turn_back turn h =
    let some = h.0 in
    let not0 : eqb turn 0 ≡ false = ne_eqb turn 0 (λ e. omega arith) in
    ap (option_and_then nonzero) (number_below-decimal (2 ^ 32) turn h.1 (omega arith)) ∙ rw not0 refl

key_back : (key : List ℕ) → IsKey key → AreBytes key → key_said (escaped key) ≡ Some key
key_back key is bytes =
    ap (option_and_then (λ (text : List ℕ). result_ok (read_key text))) (escapes_are_read_back key bytes)
    ∙ ap (λ (r : Result (List ℕ) KeyFault). result_ok r) (is_read key is)

number_lacks : (byte n : ℕ) → byte < 48 → n < 2 ^ 63 → Lacks byte (decimal n)
number_lacks byte n lt small = decimal_lacks byte n lt (omega arith)

cut_back : (count : ℕ) → count < 2 ^ 32 → manner_said (manner_text (Cut count)) ≡ Some (Cut count)
cut_back count lt =
    ap (option_and_then (λ (p : Parts). option_and_then (λ (n : ℕ). Some (Cut n)) (if bytes_eq p.word (codes "cut") then count_said p.rest else None))) (cut_at (codes "cut") (decimal count) (lacks_by 32 (codes "cut") refl))
    ∙ ap (option_and_then (λ (n : ℕ). Some (Cut n))) (number_below-decimal (2 ^ 32) count lt (omega arith))

manner_back : (manner : Manner) → IsManner manner → manner_said (manner_text manner) ≡ Some manner
manner_back Before h = refl
manner_back After h = refl
manner_back Junk h = refl
manner_back (Cut count) h = cut_back count h

manner_lacks : (manner : Manner) → IsManner manner → Lacks 10 (manner_text manner)
manner_lacks Before h = lacks_by 10 (codes "before") refl
manner_lacks After h = lacks_by 10 (codes "after") refl
manner_lacks Junk h = lacks_by 10 (codes "junk") refl
manner_lacks (Cut count) h = let lt : count < 2 ^ 32 = h in lacks_both 10 (codes "cut ") (decimal count) (lacks_by 10 (codes "cut ") refl) (number_lacks 10 count (omega arith) (omega arith))

-- ---- lines

-- a first word, and what stands after it
event_by : (word text : List ℕ) (event : Scripted) → Lacks 32 word → said_after word text ≡ Some event → event_said (word ++ 32 ∷ text) ≡ Some event
event_by word text event lacks said = ap (option_and_then (λ (p : Parts). said_after p.word p.rest)) (cut_at word text lacks) ∙ said

-- where the first word isn't `reload`, the line says that event, whatever servers are known
no_reload : (word text : List ℕ) → Lacks 32 word → bytes_eq word (codes "reload") ≡ false → reload_said (word ++ 32 ∷ text) ≡ None
no_reload word text lacks other =
    ap (option_and_then (λ (p : Parts). if bytes_eq p.word (codes "reload") then Some p.rest else None)) (cut_at word text lacks) ∙ rw other refl

means_by : (word text : List ℕ) (event : Scripted) → Lacks 32 word → bytes_eq word (codes "reload") ≡ false → said_after word text ≡ Some event → (used : Addresses)
    → load_or_event used (reload_said (word ++ 32 ∷ text)) (word ++ 32 ∷ text) ≡ Says event
means_by word text event lacks other said used =
    ap (λ (o : Option (List ℕ)). load_or_event used o (word ++ 32 ∷ text)) (no_reload word text lacks other) ∙ ap said_or_not (event_by word text event lacks said)

joined : (a b c : List ℕ) → (((a ++ 32 ∷ []) ++ b) ++ 32 ∷ []) ++ c ≡ a ++ 32 ∷ (b ++ 32 ∷ c)
joined a b c = append_assoc ((a ++ 32 ∷ []) ++ b) (32 ∷ []) c ∙ append_assoc (a ++ 32 ∷ []) b (32 ∷ c) ∙ append_assoc a (32 ∷ []) (b ++ 32 ∷ c)

-- the line of an event, without its end
record LineOf (event : Scripted) : Type 0 where
  line : List ℕ
  written : event_line event ≡ line ++ 10 ∷ []
  lacks : Lacks 10 line
  means : (used : Addresses) → line_means used line ≡ Says event

-- a client and what it sends
module _ (client : ℕ) (bytes : List ℕ) (lt : client < 64) (all : AreBytes bytes) where
  abbrev sent : List ℕ
  sent = decimal client ++ 32 ∷ escaped bytes

  sent_back : sent_said sent ≡ Some (client, bytes)
  sent_back =
      ap (option_and_then (λ (p : Parts). option_and_then (λ (c : ℕ). option_and_then (λ (b : List ℕ). Some (c, b)) (unescaped p.rest)) (client_said p.word))) (cut_at (decimal client) (escaped bytes) (number_lacks 32 client (omega arith) (omega arith)))
      ∙ ap (option_and_then (λ (c : ℕ). option_and_then (λ (b : List ℕ). Some (c, b)) (unescaped (escaped bytes)))) (number_below-decimal 64 client lt (omega arith))
      ∙ ap (option_and_then (λ (b : List ℕ). Some (client, b))) (escapes_are_read_back bytes all)

  sent_lacks : Lacks 10 sent
  sent_lacks = lacks_both 10 (decimal client) (32 ∷ escaped bytes) (number_lacks 10 client (omega arith) (omega arith)) (refl, escaped_lacks bytes all)

  piece_line : LineOf (Piece client bytes)
  piece_line = record {
    line = codes "> " ++ sent;
    written = ap (λ (t : List ℕ). codes "> " ++ (t ++ 10 ∷ [])) (append_assoc (decimal client) (32 ∷ []) (escaped bytes));
    lacks = lacks_both 10 (codes "> ") sent (lacks_by 10 (codes "> ") refl) sent_lacks;
    means = means_by (codes ">") sent (Piece client bytes) (lacks_by 32 (codes ">") refl) refl (ap (option_and_then (λ (s : ℕ × List ℕ). Some (Piece s.0 s.1))) sent_back);
  }

  add_line : LineOf (Add client bytes)
  add_line = record {
    line = codes "+ " ++ sent;
    written = ap (λ (t : List ℕ). codes "+ " ++ (t ++ 10 ∷ [])) (append_assoc (decimal client) (32 ∷ []) (escaped bytes));
    lacks = lacks_both 10 (codes "+ ") sent (lacks_by 10 (codes "+ ") refl) sent_lacks;
    means = means_by (codes "+") sent (Add client bytes) (lacks_by 32 (codes "+") refl) refl (ap (option_and_then (λ (s : ℕ × List ℕ). Some (Add s.0 s.1))) sent_back);
  }

result_line : (server : ℕ) → server < 2 ^ 32 → LineOf (scripted.Result server)
result_line server lt =
    let d = decimal server in
    record {
      line = codes "result " ++ d;
      written = refl;
      lacks = lacks_both 10 (codes "result ") d (lacks_by 10 (codes "result ") refl) (number_lacks 10 server (omega arith) (omega arith));
      means = means_by (codes "result") d (scripted.Result server) (lacks_by 32 (codes "result") refl) refl (ap (option_and_then (λ (s : ℕ). Some (scripted.Result s))) (number_below-decimal (2 ^ 32) server lt (omega arith)));
    }

hold_line : (server : ℕ) (key content : List ℕ) → HasLine (Hold server key content) → LineOf (Hold server key content)
hold_line server key content h =
    let lt = h.0 in
    let d = decimal server in
    let k = escaped key in
    let t = escaped content in
    let said : hold_said (d ++ 32 ∷ (k ++ 32 ∷ t)) ≡ Some (Hold server key content) =
    ap (option_and_then (λ (p : Parts). option_and_then (λ (s : ℕ). option_and_then (λ (q : Parts). option_and_then (λ (x : List ℕ). option_and_then (λ (y : List ℕ). Some (Hold s x y)) (unescaped q.rest)) (key_said q.word)) (cut p.rest)) (server_said p.word))) (cut_at d (k ++ 32 ∷ t) (number_lacks 32 server (omega arith) (omega arith)))
    ∙ ap (option_and_then (λ (s : ℕ). option_and_then (λ (q : Parts). option_and_then (λ (x : List ℕ). option_and_then (λ (y : List ℕ). Some (Hold s x y)) (unescaped q.rest)) (key_said q.word)) (cut (k ++ 32 ∷ t)))) (number_below-decimal (2 ^ 32) server lt (omega arith))
    ∙ ap (option_and_then (λ (q : Parts). option_and_then (λ (x : List ℕ). option_and_then (λ (y : List ℕ). Some (Hold server x y)) (unescaped q.rest)) (key_said q.word))) (cut_at k t (key_lacks key h.1.bytes h.2))
    ∙ ap (option_and_then (λ (x : List ℕ). option_and_then (λ (y : List ℕ). Some (Hold server x y)) (unescaped t))) (key_back key h.1 h.2)
    ∙ ap (option_and_then (λ (y : List ℕ). Some (Hold server key y))) (escapes_are_read_back content h.3) in
    record {
      line = codes "hold " ++ (d ++ 32 ∷ (k ++ 32 ∷ t));
      written = ap (λ (x : List ℕ). codes "hold " ++ (x ++ 10 ∷ [])) (joined d k t);
      lacks = lacks_both 10 (codes "hold ") (d ++ 32 ∷ (k ++ 32 ∷ t)) (lacks_by 10 (codes "hold ") refl) (lacks_both 10 d (32 ∷ (k ++ 32 ∷ t)) (number_lacks 10 server (omega arith) (omega arith)) (refl, lacks_both 10 k (32 ∷ t) (escaped_lacks key h.2) (refl, escaped_lacks content h.3)));
      means = means_by (codes "hold") (d ++ 32 ∷ (k ++ 32 ∷ t)) (Hold server key content) (lacks_by 32 (codes "hold") refl) refl said;
    }

fail_line : (turn : ℕ) (manner : Manner) → IsTurn turn → IsManner manner → LineOf (Fail turn manner)
fail_line turn manner h is =
    let lt = h.1 in
    let d = decimal turn in
    let m = manner_text manner in
    let said : fail_said (d ++ 32 ∷ m) ≡ Some (Fail turn manner) =
    ap (option_and_then (λ (p : Parts). option_and_then (λ (n : ℕ). option_and_then (λ (x : Manner). Some (Fail n x)) (manner_said p.rest)) (turn_said p.word))) (cut_at d m (number_lacks 32 turn (omega arith) (omega arith)))
    ∙ ap (option_and_then (λ (n : ℕ). option_and_then (λ (x : Manner). Some (Fail n x)) (manner_said m))) (turn_back turn h)
    ∙ ap (option_and_then (λ (x : Manner). Some (Fail turn x))) (manner_back manner is) in
    record {
      line = codes "fail " ++ (d ++ 32 ∷ m);
      written = ap (λ (t : List ℕ). codes "fail " ++ t) (append_assoc d (32 ∷ []) (manner_line manner) ∙ sym (append_assoc d (32 ∷ m) (10 ∷ [])));
      lacks = lacks_both 10 (codes "fail ") (d ++ 32 ∷ m) (lacks_by 10 (codes "fail ") refl) (lacks_both 10 d (32 ∷ m) (number_lacks 10 turn (omega arith) (omega arith)) (refl, manner_lacks manner is));
      means = means_by (codes "fail") (d ++ 32 ∷ m) (Fail turn manner) (lacks_by 32 (codes "fail") refl) refl said;
    }

-- the line of what is lost: its first word, and what stands after it
record LossLineOf (loss : Loss) : Type 0 where
  word : List ℕ
  text : List ℕ
  written : loss_line loss ≡ (word ++ 32 ∷ text) ++ 10 ∷ []
  one_word : Lacks 32 word
  lacks : Lacks 10 (word ++ 32 ∷ text)
  said : loss_said word text ≡ Some loss
  means : (used : Addresses) → line_means used (word ++ 32 ∷ text) ≡ Says (Now loss)

lost_line : (loss : Loss) → CanBeLost loss → LossLineOf loss
lost_line (Lose server key) h =
    let lt = h.0 in
    let d = decimal server in
    let k = escaped key in
    let said : item_loss_said (d ++ 32 ∷ k) ≡ Some (Lose server key) =
    ap (option_and_then (λ (p : Parts). option_and_then (λ (s : ℕ). option_and_then (λ (x : List ℕ). Some (Lose s x)) (key_said p.rest)) (server_said p.word))) (cut_at d k (number_lacks 32 server (omega arith) (omega arith)))
    ∙ ap (option_and_then (λ (s : ℕ). option_and_then (λ (x : List ℕ). Some (Lose s x)) (key_said k))) (number_below-decimal (2 ^ 32) server lt (omega arith))
    ∙ ap (option_and_then (λ (x : List ℕ). Some (Lose server x))) (key_back key h.1 h.2) in
    record {
      word = codes "lose";
      text = d ++ 32 ∷ k;
      written = ap (λ (t : List ℕ). codes "lose " ++ (t ++ 10 ∷ [])) (append_assoc d (32 ∷ []) k);
      one_word = lacks_by 32 (codes "lose") refl;
      lacks = lacks_both 10 (codes "lose ") (d ++ 32 ∷ k) (lacks_by 10 (codes "lose ") refl) (lacks_both 10 d (32 ∷ k) (number_lacks 10 server (omega arith) (omega arith)) (refl, escaped_lacks key h.2));
      said = said;
      means = means_by (codes "lose") (d ++ 32 ∷ k) (Now (Lose server key)) (lacks_by 32 (codes "lose") refl) refl (ap (option_and_then (λ (l : Loss). Some (Now l))) said);
    }
lost_line (Restart server) lt =
    let d = decimal server in
    let said : restart_loss_said d ≡ Some (Restart server) = ap (option_and_then (λ (s : ℕ). Some (Restart s))) (number_below-decimal (2 ^ 32) server lt (omega arith)) in
    record {
      word = codes "restart";
      text = d;
      written = refl;
      one_word = lacks_by 32 (codes "restart") refl;
      lacks = lacks_both 10 (codes "restart ") d (lacks_by 10 (codes "restart ") refl) (number_lacks 10 server (omega arith) (omega arith));
      said = said;
      means = means_by (codes "restart") d (Now (Restart server)) (lacks_by 32 (codes "restart") refl) refl (ap (option_and_then (λ (l : Loss). Some (Now l))) said);
    }

at_line : (turn : ℕ) (loss : Loss) → IsTurn turn → LossLineOf loss → LineOf (At turn loss)
at_line turn loss h l =
    let lt = h.1 in
    let d = decimal turn in
    let line = l.word ++ 32 ∷ l.text in
    let said : at_said (d ++ 32 ∷ line) ≡ Some (At turn loss) =
    ap (option_and_then (λ (p : Parts). option_and_then (λ (n : ℕ). option_and_then (λ (q : Parts). option_and_then (λ (x : Loss). Some (At n x)) (loss_said q.word q.rest)) (cut p.rest)) (turn_said p.word))) (cut_at d line (number_lacks 32 turn (omega arith) (omega arith)))
    ∙ ap (option_and_then (λ (n : ℕ). option_and_then (λ (q : Parts). option_and_then (λ (x : Loss). Some (At n x)) (loss_said q.word q.rest)) (cut line))) (turn_back turn h)
    ∙ ap (option_and_then (λ (q : Parts). option_and_then (λ (x : Loss). Some (At turn x)) (loss_said q.word q.rest))) (cut_at l.word l.text l.one_word)
    ∙ ap (option_and_then (λ (x : Loss). Some (At turn x))) l.said in
    record {
      line = codes "at " ++ (d ++ 32 ∷ line);
      written = ap (λ (t : List ℕ). codes "at " ++ t) (append_assoc d (32 ∷ []) (loss_line loss) ∙ ap (λ (t : List ℕ). d ++ 32 ∷ t) l.written ∙ sym (append_assoc d (32 ∷ line) (10 ∷ [])));
      lacks = lacks_both 10 (codes "at ") (d ++ 32 ∷ line) (lacks_by 10 (codes "at ") refl) (lacks_both 10 d (32 ∷ line) (number_lacks 10 turn (omega arith) (omega arith)) (refl, l.lacks));
      means = means_by (codes "at") (d ++ 32 ∷ line) (At turn loss) (lacks_by 32 (codes "at") refl) refl said;
    }

moment_line : (n : ℕ) → n < 2 ^ 63 → LineOf (Moment (pos n))
moment_line n lt = record {
  line = codes "moment " ++ decimal n;
  written = refl;
  lacks = lacks_both 10 (codes "moment ") (decimal n) (lacks_by 10 (codes "moment ") refl) (number_lacks 10 n (omega arith) lt);
  means = means_by (codes "moment") (decimal n) (Moment (pos n)) (lacks_by 32 (codes "moment") refl) refl (ap (option_and_then (λ (m : ℕ). Some (Moment (pos m)))) (number_below-decimal (2 ^ 63) n lt (omega arith)));
}

line_of : (event : Scripted) → HasLine event → LineOf event
line_of (Piece client bytes) h = piece_line client bytes h.0 h.1
line_of (Add client bytes) h = add_line client bytes h.0 h.1
line_of (scripted.Result server) h = result_line server h
line_of (Hold server key content) h = hold_line server key content h
line_of (Fail turn manner) h = fail_line turn manner h.0 h.1
line_of (At turn loss) h = at_line turn loss h.0 (lost_line loss h.1)
line_of (Now loss) h = let l = lost_line loss h in record { line = l.word ++ 32 ∷ l.text; written = l.written; lacks = l.lacks; means = l.means }
line_of (Moment moment) h = subst (λ (z : ℤ). LineOf (Moment z)) (sym h.2) (moment_line h.0 h.1)

-- ---- scripts

front_line : (event : Scripted) (events : List Scripted) (l : LineOf event) → lines_of (script_lines (event ∷ events)) ≡ l.line ∷ lines_of (script_lines events)
front_line event events l =
    ap (λ (t : List ℕ). lines_of (t ++ script_lines events)) l.written
    ∙ ap lines_of (append_assoc l.line (10 ∷ []) (script_lines events))
    ∙ slice_split_at is_line_end l.line 10 (script_lines events) (lacks_all 10 l.line l.lacks) refl

-- what these lines say over any servers, from any number and place on
record AllSaid (used : Addresses) (n at : ℕ) (events : List Scripted) (lines : List (List ℕ)) : Type 0 where
  said : map (λ (x : Numbered). x.event) (numbered used n lines) ≡ events
  whole : first_unreadable used n lines ≡ None
  nothing_loaded : loaded used at lines ≡ []

lines_back : (events : List Scripted) → HaveLines events → (used : Addresses) (n at : ℕ) → AllSaid used n at events (lines_of (script_lines events))
lines_back [] h used n at = record { said = refl; whole = refl; nothing_loaded = refl }
lines_back (event ∷ events) h used n at =
    let l = line_of event h.0 in
    let front = front_line event events l in
    let after = lines_of (script_lines events) in
    let rest = lines_back events h.1 used (n + 1) (at + 1) in
    record {
      said = ap (λ (ls : List (List ℕ)). map (λ (x : Numbered). x.event) (numbered used n ls)) front
          ∙ ap (λ (m : Meaning). map (λ (x : Numbered). x.event) (and_then m n (numbered (used_after m used) (n + 1) after))) (l.means used)
          ∙ ap (λ (es : List Scripted). event ∷ es) rest.said;
      whole = ap (first_unreadable used n) front ∙ ap (λ (m : Meaning). or_after m n (first_unreadable (used_after m used) (n + 1) after)) (l.means used) ∙ rest.whole;
      nothing_loaded = ap (loaded used at) front ∙ ap (λ (m : Meaning). load_then m at (loaded (used_after m used) (events_after m at) after)) (l.means used) ∙ rest.nothing_loaded;
    }

said_again : (events : List Scripted) → HaveLines events → (n : ℕ) (config : Configuration) → SaysAll (told_from n config (lines_of (script_lines events))) config events
said_again events h n config =
    let back = lines_back events h config.servers n 0 in
    record { configuration = refl; said = back.said; whole = back.whole; nothing_loaded = back.nothing_loaded }

-- the first line, and those after it
told_front : (line : List ℕ) (events : List Scripted) (config : Configuration) → All (λ b. is_line_end b ≡ false) line → first_said line ≡ Ok config → text_told (line ++ 10 ∷ script_lines events) ≡ Ok (told_from 2 config (lines_of (script_lines events)))
told_front line events config one said =
    ap told_by (slice_split_at is_line_end line 10 (script_lines events) one refl)
    ∙ ap (λ (r : Result Configuration WhyNot). told_after r (lines_of (script_lines events))) said

pub scripts_are_read_back : ScriptsAreReadBack
scripts_are_read_back events h = record {
  over = λ config. said_again events h 1 config;
  after = λ line config one said. (told_from 2 config (lines_of (script_lines events)), told_front line events config one said, said_again events h 2 config);
}
