-- The log of the core that a script's log is, by the words of the trees loaded.
use Rattle.std.proofs.Common.{◌≡◌, ℕ, ◌+◌, ◌<◌, ◌≤◌, true, false, cond, List, [], ◌∷◌, ◌++◌, Option, refl, sym, ap, ◌∙◌, subst, arith, nat_eq, nat_lt, append-nil, None}
use Rattle.std.proofs.lemmas.Bool.{le-ltb}
use Rattle.mc_types.specs.declared.ask.Ask.{Ask}
use Rattle.mc_types.specs.declared.answer.Answer.{Answer}
use Rattle.mc_types.specs.Items.{Item}
use Rattle.fresh_runs.specs.Calls.{Words}
use Rattle.fresh_runs.specs.Run.{Event, Begins, Calls, Replies, Breaks, Turns, Restarts, LosesOnly, IsNewNumber, calls_in, commands_in}
use Rattle.fresh_runs.specs.Log.{Loss, Lose, Restart}
use Rattle.fresh_runs.specs.Protocol.{Protocol}
use Rattle.fresh_runs.specs.Overlap.{Entry, Feeds, Starts, Sends, Happens, Ends, Shows, Passes, Gives, Drops, Frees, Resets, run_of, Follows}
use Rattle.fresh_runs.specs.OverlapStream.{stream_of}
use Rattle.fresh_runs.specs.OverlapLaws.{WordsAreKept}
use Rattle.fresh_runs.specs.ScriptLog.{Plays, Reload, Line, Takes, Results, Spills, Loads, Does, lost_by, entries_by, IsPlain, fed_by, losses_now, core_of, losses_of, made_in, fed_of, tree_loaded_at, words_in, IsScript}
use Rattle.fresh_runs.proofs.Runs.{way_below}
use Rattle.fresh_runs.proofs.OverlapReload.{follows_kept}

new_up : (n m : ℕ) (past : List Event) → n ≤ m → IsNewNumber n past → IsNewNumber m past
new_up n m [] le h = let a = h in let b = le in omega (arith, a, b)
new_up n m (Begins x ask ∷ past) le h = ((let lt = h.0 in omega (arith, lt, le)), new_up n m past le h.1)
new_up n m (Calls x s a o e ∷ past) le h = ((let lt = h.0 in omega (arith, lt, le)), new_up n m past le h.1)
new_up n m (Breaks x ∷ past) le h = ((let lt = h.0 in omega (arith, lt, le)), new_up n m past le h.1)
new_up n m (Replies x k r f ∷ past) le h = ((let lt = h.0 in omega (arith, lt, le)), new_up n m past le h.1)
new_up n m (Turns s k turned ∷ past) le h = new_up n m past le h
new_up n m (Restarts s ∷ past) le h = new_up n m past le h

module _ {P : Protocol} (words : Words) (Bars : ℕ → Ask → ℕ → Ask → Type 0) (opening : ℕ → List ℕ → Option Item) (version : List ℕ) where
  -- numbers are counted
  pub new_by_count : (log : List (Entry P)) → Follows words Bars opening version log → IsNewNumber (commands_in (run_of log) + 1) (run_of log)
  new_by_count [] f = omega arith
  new_by_count (Feeds c b ∷ log) f = new_by_count log f.1
  new_by_count (Starts c n part ∷ log) f =
      let is = f.0.3 in
      ((let k : n < commands_in (run_of log) + 1 + 1 = omega (arith, is) in k), new_up (commands_in (run_of log) + 1) (commands_in (run_of log) + 1 + 1) (run_of log) (omega arith) (new_by_count log f.1))
  new_by_count (Sends n s a o ∷ log) f = new_by_count log f.1
  new_by_count (Happens (Calls n s a o e) ∷ log) f = (way_below _ (run_of log) n f.0.0.0 (new_by_count log f.1) f.0.0.1, new_by_count log f.1)
  new_by_count (Happens (Turns s k turned) ∷ log) f = new_by_count log f.1
  new_by_count (Happens (Restarts s) ∷ log) f = new_by_count log f.1
  new_by_count (Happens (Begins n a) ∷ log) f = absurd f.0
  new_by_count (Happens (Replies n k r m) ∷ log) f = absurd f.0
  new_by_count (Happens (Breaks n) ∷ log) f = absurd f.0
  new_by_count (Ends c n part r m ∷ log) f = (way_below _ (run_of log) n f.0.0.0 (new_by_count log f.1) f.0.0.1, new_by_count log f.1)
  new_by_count (Shows c slot r ∷ log) f = new_by_count log f.1
  new_by_count (Passes c m next ∷ log) f = new_by_count log f.1
  new_by_count (Gives c b ∷ log) f = new_by_count log f.1
  new_by_count (Drops c ∷ log) f = new_by_count log f.1
  new_by_count (Frees n ∷ log) f = (way_below _ (run_of log) n f.0.0.0 (new_by_count log f.1) f.0.0.1, new_by_count log f.1)
  new_by_count (Resets c ∷ log) f = new_by_count log f.1

  lost_follows : (losses : List Loss) (log : List (Entry P)) → Follows words Bars opening version log → Follows words Bars opening version (entries_by losses log)
  lost_follows [] log f = f
  lost_follows (Lose s k ∷ losses) log f = lost_follows losses (Happens (Turns s k None) ∷ log) (tt, f)
  lost_follows (Restart s ∷ losses) log f = lost_follows losses (Happens (Restarts s) ∷ log) (tt, f)

lower : (count n : ℕ) → n < count + 1 → nat_lt count n ≡ false
lower count n lt = le-ltb count n (let x = lt in omega arith)

module _ {P : Protocol} {T : Type 0} (first : T) (words_of : T → Words) (Bars : ℕ → Ask → ℕ → Ask → Type 0) (opening : ℕ → List ℕ → Option Item) (version : List ℕ) (depth window : ℕ) (text_of : Ask → Answer → List ℕ) (MaySpill : List (Line P T) → ℕ → List ℕ → Type 0) where
  abbrev words : List (Line P T) → Words
  words log = words_in first words_of log

  -- a tree is that of later commands
  pub loads_kept : (tree : T) (log : List (Line P T)) → WordsAreKept (commands_in (run_of (core_of log)) + 1) (words log) (words (Loads tree ∷ log))
  loads_kept tree log n ask calls reply from lt w =
      subst (λ b. words_of (cond b tree (tree_loaded_at first log n)) n ask calls reply from) (sym (lower (commands_in (run_of (core_of log))) n lt)) w

  -- the core's log follows
  pub script_follows : (log : List (Line P T)) → IsScript first words_of Bars opening version depth window text_of MaySpill log → Follows (words log) Bars opening version (core_of log)
  script_follows [] h = tt
  script_follows (Takes (Plays event) ∷ log) h = lost_follows (words log) Bars opening version (losses_now event) (core_of log) (script_follows log h.1)
  script_follows (Takes (Reload tree) ∷ log) h = script_follows log h.1
  script_follows (Results n s a o e ∷ log) h = (h.0.0, lost_follows (words log) Bars opening version (losses_of log (made_in log + 1)) (core_of log) (script_follows log h.1))
  script_follows (Spills s k ∷ log) h = (tt, script_follows log h.1)
  script_follows (Loads tree ∷ log) h =
      let f = script_follows log h.1 in
      follows_kept (words log) (words (Loads tree ∷ log)) Bars Bars opening version (commands_in (run_of (core_of log)) + 1) (loads_kept tree log) (λ n other ask client low lower bars. bars) (core_of log) (new_by_count (words log) Bars opening version (core_of log) f) f
  script_follows (Does entry ∷ log) h = (h.0.2, script_follows log h.1)

  lost_stream : (losses : List Loss) (log : List (Entry P)) (c : ℕ) → stream_of (entries_by losses log) c ≡ stream_of log c
  lost_stream [] log c = refl
  lost_stream (loss ∷ losses) log c = lost_stream losses (Happens (lost_by loss) ∷ log) c

  does_stream : (entry : Entry P) (log : List (Entry P)) (c : ℕ) → IsPlain entry → stream_of (entry ∷ log) c ≡ stream_of log c ++ fed_by entry c
  does_stream (Feeds client bytes) log c p =
      elim (nat_eq client c) as (λ b. cond b (stream_of log c ++ bytes) (stream_of log c) ≡ stream_of log c ++ cond b bytes []) [
        | true ↦ refl
        | false ↦ sym (append-nil (stream_of log c))
      ]
  does_stream (Starts a b d) log c p = sym (append-nil (stream_of log c))
  does_stream (Sends a b d e) log c p = sym (append-nil (stream_of log c))
  does_stream (Happens e) log c p = absurd p
  does_stream (Ends a b d e f) log c p = sym (append-nil (stream_of log c))
  does_stream (Shows a b d) log c p = sym (append-nil (stream_of log c))
  does_stream (Passes a b d) log c p = sym (append-nil (stream_of log c))
  does_stream (Gives a b) log c p = sym (append-nil (stream_of log c))
  does_stream (Drops a) log c p = sym (append-nil (stream_of log c))
  does_stream (Frees a) log c p = sym (append-nil (stream_of log c))
  does_stream (Resets a) log c p = absurd p

  -- a client's stream is what was fed of what the script says
  pub script_streams : (log : List (Line P T)) → IsScript first words_of Bars opening version depth window text_of MaySpill log → (c : ℕ) → stream_of (core_of log) c ≡ fed_of log c
  script_streams [] h c = refl
  script_streams (Takes (Plays event) ∷ log) h c = lost_stream (losses_now event) (core_of log) c ∙ script_streams log h.1 c
  script_streams (Takes (Reload tree) ∷ log) h c = script_streams log h.1 c
  script_streams (Results n s a o e ∷ log) h c = lost_stream (losses_of log (made_in log + 1)) (core_of log) c ∙ script_streams log h.1 c
  script_streams (Spills s k ∷ log) h c = script_streams log h.1 c
  script_streams (Loads tree ∷ log) h c = script_streams log h.1 c
  script_streams (Does entry ∷ log) h c = does_stream entry (core_of log) c h.0.0 ∙ ap (λ l. l ++ fed_by entry c) (script_streams log h.1 c)

  lost_made : (losses : List Loss) (log : List (Entry P)) → calls_in (run_of (entries_by losses log)) ≡ calls_in (run_of log)
  lost_made [] log = refl
  lost_made (Lose s k ∷ losses) log = lost_made losses (Happens (Turns s k None) ∷ log)
  lost_made (Restart s ∷ losses) log = lost_made losses (Happens (Restarts s) ∷ log)

  does_made : (entry : Entry P) (log : List (Entry P)) → IsPlain entry → calls_in (run_of (entry ∷ log)) ≡ calls_in (run_of log)
  does_made (Feeds a b) log p = refl
  does_made (Starts a b d) log p = refl
  does_made (Sends a b d e) log p = refl
  does_made (Happens e) log p = absurd p
  does_made (Ends a b d e f) log p = refl
  does_made (Shows a b d) log p = refl
  does_made (Passes a b d) log p = refl
  does_made (Gives a b) log p = refl
  does_made (Drops a) log p = refl
  does_made (Frees a) log p = refl
  does_made (Resets a) log p = refl

  -- turns count the run's calls
  pub script_turns : (log : List (Line P T)) → IsScript first words_of Bars opening version depth window text_of MaySpill log → calls_in (run_of (core_of log)) ≡ made_in log
  script_turns [] h = refl
  script_turns (Takes (Plays event) ∷ log) h = lost_made (losses_now event) (core_of log) ∙ script_turns log h.1
  script_turns (Takes (Reload tree) ∷ log) h = script_turns log h.1
  script_turns (Results n s a o e ∷ log) h = ap (λ n. n + 1) (lost_made (losses_of log (made_in log + 1)) (core_of log) ∙ script_turns log h.1)
  script_turns (Spills s k ∷ log) h = script_turns log h.1
  script_turns (Loads tree ∷ log) h = script_turns log h.1
  script_turns (Does entry ∷ log) h = does_made entry (core_of log) h.0.0 ∙ script_turns log h.1

  lost_loses : (losses : List Loss) (log : List (Entry P)) → LosesOnly (run_of log) → LosesOnly (run_of (entries_by losses log))
  lost_loses [] log l = l
  lost_loses (Lose s k ∷ losses) log l = lost_loses losses (Happens (Turns s k None) ∷ log) (refl, l)
  lost_loses (Restart s ∷ losses) log l = lost_loses losses (Happens (Restarts s) ∷ log) l

  does_loses : (entry : Entry P) (log : List (Entry P)) → IsPlain entry → LosesOnly (run_of log) → LosesOnly (run_of (entry ∷ log))
  does_loses (Feeds a b) log p l = l
  does_loses (Starts a b d) log p l = l
  does_loses (Sends a b d e) log p l = l
  does_loses (Happens e) log p l = absurd p
  does_loses (Ends a b d e f) log p l = l
  does_loses (Shows a b d) log p l = l
  does_loses (Passes a b d) log p l = l
  does_loses (Gives a b) log p l = l
  does_loses (Drops a) log p l = l
  does_loses (Frees a) log p l = l
  does_loses (Resets a) log p l = l

  -- nobody but the core writes the servers of a script
  pub script_loses : (log : List (Line P T)) → IsScript first words_of Bars opening version depth window text_of MaySpill log → LosesOnly (run_of (core_of log))
  script_loses [] h = tt
  script_loses (Takes (Plays event) ∷ log) h = lost_loses (losses_now event) (core_of log) (script_loses log h.1)
  script_loses (Takes (Reload tree) ∷ log) h = script_loses log h.1
  script_loses (Results n s a o e ∷ log) h = lost_loses (losses_of log (made_in log + 1)) (core_of log) (script_loses log h.1)
  script_loses (Spills s k ∷ log) h = (refl, script_loses log h.1)
  script_loses (Loads tree ∷ log) h = script_loses log h.1
  script_loses (Does entry ∷ log) h = does_loses entry (core_of log) h.0.0 (script_loses log h.1)
