-- Which calls fail in a refusal run. Source: mcgate's own.
use Rattle.std.specs.Prelude.{ℕ, Option, Some, None}
use Rattle.mc_types.specs.declared.ask.Op.{Op}
use Rattle.route_tree.specs.Plan.{Plan}
use Rattle.gate_gaps.specs.Turns.{acks, calls_before_found}
use Rattle.mcgate_check.specs.declared.leaks.failures.Failures.{Failures}

abbrev pub failures_of_both : Option ℕ → Option ℕ → Option Failures
failures_of_both None read = None
failures_of_both (Some delete) None = None
failures_of_both (Some delete) (Some read) = Some (record { delete = delete; read = read })

-- the calls of the delete and of the read that fail before the one that acknowledges, and the one that shows
abbrev pub failures_of : Op → ℕ → Plan → Option Failures
failures_of op server plain = failures_of_both (acks server plain) (calls_before_found op server plain)
