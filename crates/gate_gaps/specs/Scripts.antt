-- Scripts that leak, and their logs, whatever the protocol. Source: mcgate's own.
use Rattle.std.specs.Prelude.{◌≡◌, ℕ, zero, suc, ◌≤◌, List, [], ◌∷◌, ◌++◌, map, Option}
use Rattle.mc_types.specs.declared.ask.Ask.{Ask}
use Rattle.mc_types.specs.declared.answer.Answer.{Answer}
use Rattle.mc_types.specs.Items.{Item}
use Rattle.fresh_runs.specs.Calls.{Words}
use Rattle.fresh_runs.specs.Run.{IsFreshByNumber, commands_in}
use Rattle.fresh_runs.specs.Protocol.{Protocol}
use Rattle.fresh_runs.specs.Log.{Scripted, Piece, Fail, Hold, Before}
use Rattle.fresh_runs.specs.Overlap.{run_of, NothingIsLeft}
use Rattle.fresh_runs.specs.OverlapStream.{IsReplied}
use Rattle.fresh_runs.specs.ScriptLog.{Plays, Line, core_of, script_of, said_of, fed_of, IsScript}

-- `fail 1 before` .. `fail n before`
abbrev pub fail_lines : ℕ → List Scripted
fail_lines zero = []
fail_lines (suc n) = fail_lines n ++ Fail (suc n) Before ∷ []

-- server s holds `1`; the first i calls of the delete fail, and the first j of the read
abbrev pub leaking_script : (s : ℕ) (key : List ℕ) (i : ℕ) (delete_text : List ℕ) (j : ℕ) (read_text : List ℕ) → List Scripted
leaking_script s key i delete_text j read_text =
    (((Hold s key (49 ∷ []) ∷ [] ++ fail_lines i) ++ Piece 0 delete_text ∷ []) ++ fail_lines j) ++ Piece 0 read_text ∷ []

-- a log of the script, where the proxy's version is this text, however much may be under way and whatever the texts of answers, in which no tree is loaded and servers drop nothing by themselves: all that the script says was fed, and each command has its reply, yet its run isn't fresh
pub record Leaks (P : Protocol) (words : Words) (Bars : ℕ → Ask → ℕ → Ask → Type 0) (opening : ℕ → List ℕ → Option Item) (version : List ℕ) (events : List Scripted) : Type 0 where
  pub log : List (Line P (Unit {0}))
  pub script : (depth window : ℕ) (text_of : Ask → Answer → List ℕ) → IsScript tt (λ tree. words) Bars opening version depth window text_of (λ log server key. ⊥) log
  pub script_is : script_of log ≡ map Plays events
  pub fed : (c : ℕ) → fed_of log c ≡ said_of log c
  pub settled : NothingIsLeft version (core_of log)
  pub replied : (n : ℕ) → 1 ≤ n → n ≤ commands_in (run_of (core_of log)) → (key : List ℕ) × (reply : Answer) × IsReplied (run_of (core_of log)) n key reply
  pub leaks : IsFreshByNumber opening (run_of (core_of log)) → ⊥
