-- What may still come of a command that is under way.
use Rattle.std.specs.Prelude.{ℕ, List, [], ◌∷◌, Option, Some, None, option_map}
use Rattle.mc_types.specs.Asks.{IsAsk}
use Rattle.mc_types.specs.declared.ask.Ask.{Ask}
use Rattle.mc_types.specs.declared.call.Origin.{Origin}
use Rattle.mc_types.specs.declared.call.Origin.TheVariants.{CopyOf}
use Rattle.fresh_runs.specs.Calls.{Call}
use Rattle.route_tree.specs.At.{plain_for, plain_for_all}
use Rattle.route_tree.specs.Plan.{Server}
use Rattle.route_tree.specs.Word.{Given, rank, GivesOnly, Then, PlanWord, plain_get, refill, AfterCold, AfterWarm, AfterRefill}
use Rattle.route_job.specs.Given.{given_when_done}
use Rattle.route_job.specs.Parts.{AfterAll, AfterFirst, NamesHit}
use Rattle.route_job.specs.declared.frame.Frame.{Frame}
use Rattle.route_job.specs.declared.frame.Frame.TheVariants.{All, First, Cold, Warm, Refill}
use Rattle.route_job.specs.declared.frame.Pending.{Pending}
use Rattle.route_job.specs.declared.frame.Pending.TheVariants.{Enter, Call as Calling, Back}
use Rattle.route_job.specs.declared.frame.Advance.{Advance}

-- what a child of the frame is asked
abbrev pub ask_in : Frame → Ask → Ask
ask_in (All rest worst) ask = ask
ask_in (First rest limit) ask = ask
ask_in (Cold sides) ask = ask
ask_in (Warm sides first get) ask = get.ask
ask_in (Refill sides from_warm from add) ask = add.ask

-- whose data that ask carries
abbrev pub origin_in : Frame → Origin → Origin
origin_in (All rest worst) origin = origin
origin_in (First rest limit) origin = origin
origin_in (Cold sides) origin = origin
origin_in (Warm sides first get) origin = origin
origin_in (Refill sides from_warm from add) origin = CopyOf from

-- what is asked within the frames
abbrev pub ask_under : List Frame → Ask → Ask
ask_under [] ask = ask
ask_under (frame ∷ frames) ask = ask_under frames (ask_in frame ask)

-- it is an ask that a client can write, where the command's is
pub under_is_ask : (frames : List Frame) (ask : Ask) → IsAsk ask → IsAsk (ask_under frames ask)
under_is_ask [] ask is = is
under_is_ask (All rest worst ∷ frames) ask is = under_is_ask frames ask is
under_is_ask (First rest limit ∷ frames) ask is = under_is_ask frames ask is
under_is_ask (Cold sides ∷ frames) ask is = under_is_ask frames ask is
under_is_ask (Warm sides first get ∷ frames) ask is = under_is_ask frames get.ask get.formed
under_is_ask (Refill sides from_warm from add ∷ frames) ask is = under_is_ask frames add.ask add.formed

-- whose data that ask carries
abbrev pub origin_under : List Frame → Origin → Origin
origin_under [] origin = origin
origin_under (frame ∷ frames) origin = origin_under frames (origin_in frame origin)

-- only a warm side's frame needs something of the reply that it gets
abbrev pub NeedsHit : Frame → Given → Type 0
NeedsHit (All rest worst) g = Unit {0}
NeedsHit (First rest limit) g = Unit {0}
NeedsHit (Cold sides) g = Unit {0}
NeedsHit (Warm sides first get) g = NamesHit g
NeedsHit (Refill sides from_warm from add) g = Unit {0}

-- what comes within the frame from this call on gives it what it needs
abbrev pub SureOf : Frame → ℕ → (ℕ → List Call → Given → Type 0) → Type 0
SureOf frame b inner = (calls : List Call) (given : Given) → inner b calls given → NeedsHit frame given

-- Trees are seen by the keys of this hash and text.
module _ (hash : ℕ) (text : List ℕ) where
  -- what a frame goes on with when a child gave this
  abbrev pub AfterFrame : Frame → Ask → Origin → Given → ℕ → List Call → Given → Type 0
  AfterFrame (All rest worst) ask origin g = AfterAll (option_map given_when_done worst) (plain_for_all hash text rest) ask origin g
  AfterFrame (First rest limit) ask origin g = AfterFirst (plain_for_all hash text rest) limit ask origin g
  AfterFrame (Cold sides) ask origin g =
      AfterCold ask (PlanWord (plain_for hash text sides.cold) ask origin) (PlanWord (plain_for hash text sides.warm) (plain_get ask) origin) (λ hit w. PlanWord (plain_for hash text sides.cold) (refill ask hit sides.exptime) (CopyOf w)) g (rank g)
  AfterFrame (Warm sides first get) ask origin g =
      AfterWarm ask (PlanWord (plain_for hash text sides.cold) ask origin) (PlanWord (plain_for hash text sides.warm) (plain_get ask) origin) (λ hit w. PlanWord (plain_for hash text sides.cold) (refill ask hit sides.exptime) (CopyOf w)) (given_when_done first) g (rank g)
  AfterFrame (Refill sides from_warm from add) ask origin g =
      AfterRefill ask (PlanWord (plain_for hash text sides.cold) ask origin) (PlanWord (plain_for hash text sides.warm) (plain_get ask) origin) (λ hit w. PlanWord (plain_for hash text sides.cold) (refill ask hit sides.exptime) (CopyOf w)) (given_when_done from_warm)

  -- what is to be done next may bring this
  abbrev pub PendingOf : Pending → Ask → Origin → ℕ → List Call → Given → Type 0
  PendingOf (Enter tree) ask origin = PlanWord (plain_for hash text tree) ask origin
  PendingOf (Calling server) ask origin = PlanWord (Server server) ask origin
  PendingOf (Back done) ask origin = GivesOnly (given_when_done done)

  -- what is to be done next, and then what the frame that is put down goes on with
  abbrev pub AdvanceBy : Option Frame → Pending → Ask → Origin → ℕ → List Call → Given → Type 0
  AdvanceBy None pending ask origin = PendingOf pending ask origin
  AdvanceBy (Some frame) pending ask origin = Then (PendingOf pending (ask_in frame ask) (origin_in frame origin)) (AfterFrame frame ask origin)

  abbrev pub AdvanceOf : Advance → Ask → Origin → ℕ → List Call → Given → Type 0
  AdvanceOf advance ask origin = AdvanceBy advance.frame advance.pending ask origin

  -- frames, the outmost first, and within them what is under way
  abbrev pub Under : List Frame → Ask → Origin → (ℕ → List Call → Given → Type 0) → ℕ → List Call → Given → Type 0
  Under [] ask origin inner = inner
  Under (frame ∷ frames) ask origin inner = Then (Under frames (ask_in frame ask) (origin_in frame origin) inner) (AfterFrame frame ask origin)

  -- what may still come of a command that has these frames and this to do next
  abbrev pub Comings : List Frame → Ask → Origin → Pending → ℕ → List Call → Given → Type 0
  Comings frames ask origin pending = Under frames ask origin (PendingOf pending (ask_under frames ask) (origin_under frames origin))

  -- what comes within each frame gives it what it needs
  abbrev pub Sure : List Frame → Ask → Origin → ℕ → (ℕ → List Call → Given → Type 0) → Type 0
  Sure [] ask origin b inner = Unit {0}
  Sure (frame ∷ frames) ask origin b inner =
      SureOf frame b (Under frames (ask_in frame ask) (origin_in frame origin) inner) × Sure frames (ask_in frame ask) (origin_in frame origin) b inner
