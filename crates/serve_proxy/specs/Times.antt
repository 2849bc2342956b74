-- How long commands took. Source: mcgate's own.
use Rattle.std.specs.Prelude.{ℕ, ◌-◌, Option, Some, None}
use Rattle.serve_links.specs.Counting.{with_answer}
use Rattle.serve_proxy.specs.declared.times.CommandTimes.{CommandTimes}

-- a command ended now that counts from then; of none that isn't known from when is counted
abbrev pub with_ended : Option ℕ → ℕ → CommandTimes → CommandTimes
with_ended (Some from) now times = record times { tally = with_answer (now - from) times.tally }
with_ended None now times = times
