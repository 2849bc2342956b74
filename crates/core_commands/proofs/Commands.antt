-- Commands that are found, and whether a call of them is out.
use Rattle.std.proofs.Common.{◌≡◌, Bool, true, false, cond, Option, Some, None, refl}
use Rattle.route_job.specs.Jobs.{IsCall, IsReply, IsDone}
use Rattle.route_job.specs.declared.frame.Pending.{Pending as NextStep}
use Rattle.route_job.specs.declared.frame.Pending.TheVariants.{Enter, Call as Calling, Back}
use Rattle.core_commands.specs.declared.command.Command.{Command}
use Rattle.core_commands.specs.Out.{is_call, has_call_out}

pub some_command : {x y : Command} → ◌≡◌ {A = Option Command} (Some x) (Some y) → x ≡ y
some_command e = cc

pub no_command : {A : Type 0} {x : Command} → ◌≡◌ {A = Option Command} None (Some x) → A
no_command e = absurd cc

pub is_call_true : (p : NextStep) → IsCall p → is_call p ≡ true
is_call_true (Enter tree) is = absurd is
is_call_true (Calling s) is = refl
is_call_true (Back done) is = absurd is

pub call_is_true : (p : NextStep) → is_call p ≡ true → IsCall p
call_is_true (Enter tree) e = absurd cc
call_is_true (Calling s) e = tt
call_is_true (Back done) e = absurd cc

-- where a job is done, no call is out
pub done_is_in : (a : Command) → IsDone a.job → has_call_out a ≡ false
done_is_in a done = by a.is_out a.job.pending done
  where
    by : (b : Bool) (p : NextStep) → IsReply p → cond b (is_call p) false ≡ false
    by true (Enter tree) done = absurd done
    by true (Calling server) done = absurd done
    by true (Back reply) done = refl
    by false p done = refl
