-- The laws of a script's log. Source: mcgate's own.
use Rattle.std.specs.Prelude.{◌≡◌, ℕ, List, [], Option, None}
use Rattle.mc_types.specs.declared.ask.Ask.{Ask}
use Rattle.mc_types.specs.declared.answer.Answer.{Answer}
use Rattle.mc_types.specs.Items.{Item}
use Rattle.fresh_runs.specs.Calls.{Words}
use Rattle.fresh_runs.specs.Run.{LosesOnly, calls_in}
use Rattle.fresh_runs.specs.Protocol.{Protocol, silence}
use Rattle.fresh_runs.specs.Overlap.{run_of, Follows}
use Rattle.fresh_runs.specs.OverlapStream.{stream_of}
use Rattle.fresh_runs.specs.ScriptLog.{Line, core_of, made_in, fed_of, words_in, IsScript}

-- what a script's log is of: a protocol, trees and their words, what servers hold at first, the text of the proxy's version, how much may be under way, the texts of answers, and what servers drop by themselves
pub record Stage : Type 1 where
  pub protocol : Protocol
  pub Tree : Type 0
  pub first : Tree
  pub words_of : Tree → Words
  pub Bars : ℕ → Ask → ℕ → Ask → Type 0
  pub opening : ℕ → List ℕ → Option Item
  pub version : List ℕ
  pub depth : ℕ
  pub window : ℕ
  pub text_of : Ask → Answer → List ℕ
  pub MaySpill : List (Line protocol Tree) → ℕ → List ℕ → Type 0

-- the core's log follows by the words of the trees that were loaded; clients' streams are what was fed of what the script says; turns count the run's calls; and nobody but the core writes the servers
pub record HasCore (x : Stage) (log : List (Line x.protocol x.Tree)) : Type 0 where
  pub follows : Follows (words_in x.first x.words_of log) x.Bars x.opening x.version (core_of log)
  pub streams : (c : ℕ) → stream_of (core_of log) c ≡ fed_of log c
  pub turns : calls_in (run_of (core_of log)) ≡ made_in log
  pub loses : LosesOnly (run_of (core_of log))

abbrev pub ScriptHasCore : Stage → Type 0
ScriptHasCore x = (log : List (Line x.protocol x.Tree)) → IsScript x.first x.words_of x.Bars x.opening x.version x.depth x.window x.text_of x.MaySpill log → HasCore x log

abbrev pub no_stage : Stage
no_stage =
    record {
      protocol = silence;
      Tree = ℕ;
      first = 0;
      words_of = λ tree number ask calls reply from. ⊥;
      Bars = λ number ask other client. ⊥;
      opening = λ server key. None;
      version = [];
      depth = 1;
      window = 1;
      text_of = λ ask answer. [];
      MaySpill = λ log server key. ⊥;
    }
