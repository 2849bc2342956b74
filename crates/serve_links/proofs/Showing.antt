-- Why connections were given up, as the wire showed it.
use Rattle.std.proofs.Common.{ℕ, List, [], ◌∷◌, ◌++◌, Option, Some, refl}
use Rattle.serve_wire.specs.Events.{WireEvent}
use Rattle.serve_wire.specs.Agreement.{Extends}
use Rattle.serve_wire.proofs.Steps.{extends_twice}
use Rattle.serve_links.specs.declared.news.Cause.{Cause}
use Rattle.serve_links.specs.CoreSteps.{Obstacle, WaitedLong, StoreLate, ForeignCame, LeftAlone, ManyWait, Step, Opened, NotOpened, Fed, Polled, Stopped, Settled, Gave, Closed, LeftLine, Broke, Ticked, Loaded, Linked, Asked, Greeted, Spelled, Late, CameLate, Lost, Noted, StepsAreOf}
use Rattle.serve_links.specs.declared.news.Cause.TheVariants as causes
use Rattle.serve_links.specs.Story.{WasShown, ObstacleIsShown, StepIsShown, StepsAreShown}
use Rattle.serve_links.proofs.Talking.{IsPlain}

-- no server's connection is given up, and no call is late
abbrev pub IsUnlost : Step → Type 0
IsUnlost (Lost at why limit) = ⊥
IsUnlost (Opened client) = Unit {0}
IsUnlost (NotOpened fault) = Unit {0}
IsUnlost (Fed client piece) = Unit {0}
IsUnlost (Polled client poll) = Unit {0}
IsUnlost (Stopped client fault) = Unit {0}
IsUnlost (Settled number outcome) = Unit {0}
IsUnlost (Gave client bytes) = Unit {0}
IsUnlost (Closed client) = Unit {0}
IsUnlost (LeftLine client) = Unit {0}
IsUnlost (Ticked now) = Unit {0}
IsUnlost (Broke client) = Unit {0}
IsUnlost (Loaded configuration generation) = Unit {0}
IsUnlost (Linked at dialect) = Unit {0}
IsUnlost (Asked at number dialect ask since) = Unit {0}
IsUnlost (Greeted at dialect bytes) = Unit {0}
IsUnlost (Noted at obstacle) = ⊥
IsUnlost (Late at number limit now) = ⊥
IsUnlost (CameLate at number ask answer bytes) = Unit {0}
IsUnlost (Spelled at number ask answer bytes) = Unit {0}

pub plain_unlost : (steps : List Step) → StepsAreOf IsPlain steps → StepsAreOf IsUnlost steps
plain_unlost [] kinds = tt
plain_unlost (step ∷ steps) kinds = (unlost step kinds.0, plain_unlost steps kinds.1)
  where
    unlost : (s : Step) → IsPlain s → IsUnlost s
    unlost (Lost at why limit) is = is
    unlost (Opened client) is = tt
    unlost (NotOpened fault) is = tt
    unlost (Fed client piece) is = tt
    unlost (Polled client poll) is = tt
    unlost (Stopped client fault) is = tt
    unlost (Settled number outcome) is = tt
    unlost (Gave client bytes) is = tt
    unlost (Closed client) is = tt
    unlost (LeftLine client) is = tt
    unlost (Ticked now) is = tt
    unlost (Broke client) is = tt
    unlost (Loaded configuration generation) is = tt
    unlost (Linked at dialect) is = absurd is
    unlost (Asked at number dialect ask since) is = absurd is
    unlost (Greeted at dialect bytes) is = absurd is
    unlost (Noted at obstacle) is = absurd is
    unlost (Late at number limit now) is = absurd is
    unlost (CameLate at number ask answer bytes) is = absurd is
    unlost (Spelled at number ask answer bytes) is = absurd is

-- nothing has happened since
pub none_since : (h : List WireEvent) → Extends h h
none_since h = ([], refl)

was_since : (why : Option Cause) (limit at : ℕ) (past : List Step) (h h' : List WireEvent) → Extends h h' → WasShown why limit at past h → WasShown why limit at past h'
was_since why limit at past h h' more was = record {
  conn = was.conn;
  before = was.before;
  since = extends_twice was.before h h' was.since more;
  begun = was.begun;
  held = was.held;
  unsent = was.unsent;
  agrees = was.agrees;
  shows = was.shows;
}

obstacle_since : (obstacle : Obstacle) (at : ℕ) (past : List Step) (h h' : List WireEvent) → Extends h h' → ObstacleIsShown obstacle at past h → ObstacleIsShown obstacle at past h'
obstacle_since ForeignCame at past h h' more was = was_since (Some causes.ForeignAnswer) 0 at past h h' more was
obstacle_since (WaitedLong number limit) at past h h' more was = tt
obstacle_since (StoreLate limit) at past h h' more was = tt
obstacle_since (LeftAlone limit) at past h h' more was = tt
obstacle_since ManyWait at past h h' more was = tt

-- what was shown stays so
pub shown_since : (steps : List Step) (h h' : List WireEvent) → Extends h h' → StepsAreShown steps h → StepsAreShown steps h'
shown_since [] h h' more shown = tt
shown_since (step ∷ steps) h h' more shown = (by step shown.0, shown_since steps h h' more shown.1)
  where
    by : (s : Step) → StepIsShown s steps h → StepIsShown s steps h'
    by (Lost at why limit) was = was_since why limit at steps h h' more was
    by (Opened client) was = tt
    by (NotOpened fault) was = tt
    by (Fed client piece) was = tt
    by (Polled client poll) was = tt
    by (Stopped client fault) was = tt
    by (Settled number outcome) was = tt
    by (Gave client bytes) was = tt
    by (Closed client) was = tt
    by (LeftLine client) was = tt
    by (Ticked now) was = tt
    by (Broke client) was = tt
    by (Loaded configuration generation) was = tt
    by (Linked at dialect) was = tt
    by (Asked at number dialect ask since) was = tt
    by (Greeted at dialect bytes) was = tt
    by (Noted at obstacle) was = obstacle_since obstacle at steps h h' more was
    by (Late at number limit now) was = (was.0, extends_twice was.0 h h' was.1 more, was.2)
    by (CameLate at number ask answer bytes) was = tt
    by (Spelled at number ask answer bytes) was = tt

-- and so it is with steps by which none is given up
pub shown_later : (steps past : List Step) (h h' : List WireEvent) → StepsAreOf IsUnlost steps → Extends h h' → StepsAreShown past h → StepsAreShown (steps ++ past) h'
shown_later [] past h h' kinds more shown = shown_since past h h' more shown
shown_later (step ∷ steps) past h h' kinds more shown = (by step kinds.0, shown_later steps past h h' kinds.1 more shown)
  where
    by : (s : Step) → IsUnlost s → StepIsShown s (steps ++ past) h'
    by (Lost at why limit) is = absurd is
    by (Opened client) is = tt
    by (NotOpened fault) is = tt
    by (Fed client piece) is = tt
    by (Polled client poll) is = tt
    by (Stopped client fault) is = tt
    by (Settled number outcome) is = tt
    by (Gave client bytes) is = tt
    by (Closed client) is = tt
    by (LeftLine client) is = tt
    by (Ticked now) is = tt
    by (Broke client) is = tt
    by (Loaded configuration generation) is = tt
    by (Linked at dialect) is = tt
    by (Asked at number dialect ask since) is = tt
    by (Greeted at dialect bytes) is = tt
    by (Noted at obstacle) is = absurd is
    by (Late at number limit now) is = absurd is
    by (CameLate at number ask answer bytes) is = tt
    by (Spelled at number ask answer bytes) is = tt
