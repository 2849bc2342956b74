-- What may still come of a job.
use Rattle.std.specs.Prelude.{◌≡◌, ◌↔◌, ℕ, ◌+◌, List, [], ◌∷◌}
use Rattle.mc_types.specs.declared.call.Origin.TheVariants.{Client}
use Rattle.mc_types.specs.declared.call.Outcome.{Outcome}
use Rattle.fresh_runs.specs.Calls.{Call}
use Rattle.route_tree.specs.Word.{Given}
use Rattle.route_job.specs.Given.{given_when_done}
use Rattle.route_job.specs.Parts.{broken_reply}
use Rattle.route_job.specs.Rest.{Comings, ask_under, origin_under}
use Rattle.route_job.specs.Settling.{frames_work, pending_work}
use Rattle.route_job.specs.declared.frame.Pending.{Pending}
use Rattle.route_job.specs.declared.frame.Pending.TheVariants.{Enter, Call as Calling, Back}
use Rattle.route_job.specs.declared.job.Job.{Job}
use Rattle.route_job.specs.declared.job.JobStep.{JobStep}
use Rattle.route_job.specs.declared.job.JobStep.TheVariants as steps

-- these calls and then this reply may still come
abbrev pub Comes : Job → List Call → Given → Type 0
Comes job calls given = Comings job.hash job.ask.key job.frames.items job.ask Client job.pending job.made calls given

-- nothing more is called, and the reply is the error of a command that was refused memory
abbrev pub IsBroken : Job → Type 0
IsBroken job = (calls : List Call) (given : Given) → Comes job calls given ↔ ((calls ≡ []) × (given ≡ broken_reply))

-- the server that is called
abbrev pub server_of_pending : Pending → ℕ
server_of_pending (Enter tree) = 0
server_of_pending (Calling server) = server
server_of_pending (Back done) = 0

abbrev pub IsCall : Pending → Type 0
IsCall (Enter tree) = ⊥
IsCall (Calling server) = Unit {0}
IsCall (Back done) = ⊥

-- a call is next
abbrev pub IsCalling : Job → Type 0
IsCalling job = IsCall job.pending

abbrev pub IsReply : Pending → Type 0
IsReply (Enter tree) = ⊥
IsReply (Calling server) = ⊥
IsReply (Back done) = Unit {0}

-- the reply is next
abbrev pub IsDone : Job → Type 0
IsDone job = IsReply job.pending

-- more than the steps that are left
abbrev pub work_of : Job → ℕ
work_of job = frames_work job.hash job.ask.key job.frames.items + pending_work job.hash job.ask.key job.pending

-- the next call, with this outcome
abbrev pub call_of : Job → Outcome → Call
call_of job outcome = record { server = server_of_pending job.pending; ask = ask_under job.frames.items job.ask; origin = origin_under job.frames.items Client; outcome = outcome }

-- what is shown: the call with which all begins that may still come, or the reply, where nothing is left to call
abbrev pub JobShows : Job → JobStep → Type 0
JobShows job (steps.Call server ask origin) =
    IsCalling job
    × (server ≡ server_of_pending job.pending) × (ask.now ≡ ask_under job.frames.items job.ask) × (origin ≡ origin_under job.frames.items Client)
    × ((calls : List Call) (given : Given) → Comes job calls given → (outcome : Outcome) × (rest : List Call) × (calls ≡ call_of job outcome ∷ rest))
JobShows job (steps.Done done) = IsDone job × ((calls : List Call) (given : Given) → Comes job calls given ↔ ((calls ≡ []) × (given ≡ given_when_done done.now)))
