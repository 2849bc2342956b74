-- How a command that is under way turns to its next call.
use Rattle.std.specs.Prelude.{ℕ, ◌+◌, ◌*◌, ◌≤◌, List, [], ◌∷◌, ◌++◌, Option, Some, None, IsSome, is_some, true, refl}
use Rattle.std.specs.Coded.{×_prop, le_prop, Coded-set, coded_bool}
use Rattle.mc_types.specs.declared.ask.Ask.{Ask}
use Rattle.mc_types.specs.declared.call.Origin.{Origin}
use Rattle.mc_types.specs.declared.call.Origin.TheVariants.{Client}
use Rattle.fresh_runs.specs.Calls.{Call}
use Rattle.route_tree.specs.Word.{Given}
use Rattle.route_tree.specs.At.{plain_for, plain_for_all}
use Rattle.route_tree.specs.Plan.{plan_count, plan_count_of_all}
use Rattle.route_job.specs.Parts.{SameAt}
use Rattle.route_job.specs.Rest.{PendingOf, ask_in, origin_in, ask_under, origin_under, Under, Comings, NeedsHit, SureOf, Sure}
use Rattle.route_job.specs.declared.frame.Frame.{Frame}
use Rattle.route_job.specs.declared.frame.Frame.TheVariants.{All, First, Cold, Warm, Refill}
use Rattle.route_job.specs.declared.frame.Pending.{Pending}
use Rattle.route_job.specs.declared.frame.Pending.TheVariants.{Enter, Call as Calling, Back}
use Rattle.route_job.specs.declared.frame.Advance.{Advance}

-- the frames with this one put down inmost
abbrev pub put_down : List Frame → Option Frame → List Frame
put_down frames None = frames
put_down frames (Some frame) = frames ++ frame ∷ []

-- there is no frame
abbrev pub IsNoFrame : List Frame → Type 0
IsNoFrame [] = Unit {0}
IsNoFrame (frame ∷ frames) = ⊥

-- a call is next, or the reply of the whole
abbrev pub IsAtRest : List Frame → Pending → Type 0
IsAtRest frames (Enter tree) = ⊥
IsAtRest frames (Calling server) = Unit {0}
IsAtRest frames (Back done) = IsNoFrame frames

rest_prop : (frames : List Frame) (pending : Pending) → IsProp (IsAtRest frames pending)
rest_prop frames (Enter tree) = λ x y. absurd x
rest_prop frames (Calling server) = λ x y. refl
rest_prop [] (Back done) = λ x y. refl
rest_prop (frame ∷ frames) (Back done) = λ x y. absurd x

some_prop : (from : Option ℕ) → IsProp (IsSome from)
some_prop from = Coded-set coded_bool (is_some from) true

needs_prop : (frame : Frame) (g : Given) → IsProp (NeedsHit frame g)
needs_prop (All rest worst) g = λ x y. refl
needs_prop (First rest limit) g = λ x y. refl
needs_prop (Cold sides) g = λ x y. refl
needs_prop (Warm sides first get) g = λ x y i none. some_prop g.from (x none) (y none) i
needs_prop (Refill sides from_warm from add) g = λ x y. refl

sure_of_prop : (frame : Frame) (b : ℕ) (inner : ℕ → List Call → Given → Type 0) → IsProp (SureOf frame b inner)
sure_of_prop frame b inner = λ x y i calls given w. needs_prop frame given (x calls given w) (y calls given w) i

-- Trees are seen by the keys of this hash and text.
module _ (hash : ℕ) (text : List ℕ) where
  -- what comes within the frame that is put down gives it what it needs
  abbrev pub IsSureBy : Option Frame → Pending → Ask → Origin → ℕ → Type 0
  IsSureBy None pending ask origin b = Unit {0}
  IsSureBy (Some frame) pending ask origin b = SureOf frame b (PendingOf hash text pending (ask_in frame ask) (origin_in frame origin))

  abbrev pub IsSure : Advance → Ask → Origin → ℕ → Type 0
  IsSure advance ask origin b = IsSureBy advance.frame advance.pending ask origin b

  -- what comes from this call on gives each frame what it needs
  abbrev pub AreSure : ℕ → Ask → List Frame → Pending → Type 0
  AreSure b ask frames pending = Sure hash text frames ask Client b (PendingOf hash text pending (ask_under frames ask) (origin_under frames Client))

  -- these frames and this pending lead to those, from call b on
  abbrev pub FramesLead : ℕ → Ask → List Frame → Pending → List Frame → Pending → Type 0
  FramesLead b ask frames pending frames' pending' =
      AreSure b ask frames pending
      → SameAt b (Comings hash text frames ask Client pending) (Comings hash text frames' ask Client pending') × AreSure b ask frames' pending'

  -- more than the steps that are left
  abbrev pub frame_work : Frame → ℕ
  frame_work (All rest worst) = 3 * plan_count_of_all (plain_for_all hash text rest) + 1
  frame_work (First rest limit) = 3 * plan_count_of_all (plain_for_all hash text rest) + 1
  frame_work (Cold sides) = 6 * plan_count (plain_for hash text sides.cold) + 3 * plan_count (plain_for hash text sides.warm) + 2
  frame_work (Warm sides first get) = 6 * plan_count (plain_for hash text sides.cold) + 2
  frame_work (Refill sides from_warm from add) = 3 * plan_count (plain_for hash text sides.cold) + 1

  abbrev pub pending_work : Pending → ℕ
  pending_work (Enter tree) = 3 * plan_count (plain_for hash text tree)
  pending_work (Calling server) = 2
  pending_work (Back done) = 1

  abbrev pub frames_work : List Frame → ℕ
  frames_work [] = 0
  frames_work (frame ∷ frames) = frame_work frame + frames_work frames

  abbrev pub advance_work_by : Option Frame → Pending → ℕ
  advance_work_by None pending = pending_work pending
  advance_work_by (Some frame) pending = frame_work frame + pending_work pending

  abbrev pub advance_work : Advance → ℕ
  advance_work advance = advance_work_by advance.frame advance.pending

  -- what every job keeps: it has come to a call or to its reply, each frame gets what it needs, and it ends within so many steps
  pub record IsKept (ask : Ask) (frames : List Frame) (pending : Pending) (made : ℕ) : Type 0 where
    pub rests : IsAtRest frames pending
    pub sure : AreSure made ask frames pending
    pub few : made + frames_work frames + pending_work pending ≤ 12288

  sure_prop : (frames : List Frame) (ask : Ask) (origin : Origin) (b : ℕ) (inner : ℕ → List Call → Given → Type 0) → IsProp (Sure hash text frames ask origin b inner)
  sure_prop [] ask origin b inner = λ x y. refl
  sure_prop (frame ∷ frames) ask origin b inner =
      ×_prop (sure_of_prop frame b (Under hash text frames (ask_in frame ask) (origin_in frame origin) inner)) (sure_prop frames (ask_in frame ask) (origin_in frame origin) b inner)

  -- there is at most one proof of what every job keeps, so a job may hold it
  pub kept_prop : (ask : Ask) (frames : List Frame) (pending : Pending) (made : ℕ) → IsProp (IsKept ask frames pending made)
  kept_prop ask frames pending made x y = λ i. record {
    rests = rest_prop frames pending x.rests y.rests i;
    sure = sure_prop frames ask Client made (PendingOf hash text pending (ask_under frames ask) (origin_under frames Client)) x.sure y.sure i;
    few = le_prop x.few y.few i;
  }
