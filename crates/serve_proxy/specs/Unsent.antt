-- Why calls fail that never go out. Source: mcgate's own.
use Rattle.std.specs.Prelude.{◌≡◌, ℕ, List, Some, MatchOption, slice_get}
use Rattle.serve_links.specs.declared.link.Link.{Link}
use Rattle.serve_links.specs.declared.refusal.Refusal.{Refusal}
use Rattle.serve_links.specs.declared.refusal.Refusal.TheVariants as refusals
use Rattle.serve_links.specs.Unsent.{TakesCalls, WaitsTooLong, IsRefused, IsHindered}

-- a call that was given out by this time isn't sent over the link of this number for this reason, when a clock shows this; where there is no such link, for want of a connection
abbrev pub IsRefusedAt : Refusal → (at since now : ℕ) → List Link → Type 0
IsRefusedAt why at since now links = MatchOption (slice_get links at) (why ≡ refusals.NoConnection) (IsRefused why since now)

-- it isn't sent for such a reason, or as many calls wait for the link as there is always room for
abbrev pub IsHinderedAt : Refusal → (at since now : ℕ) → List Link → Type 0
IsHinderedAt why at since now links = MatchOption (slice_get links at) (why ≡ refusals.NoConnection) (IsHindered why since now)

-- calls may go out on the link of this number when a clock shows this
abbrev pub TakesCallsAt : (at now : ℕ) → List Link → Type 0
TakesCallsAt at now links = (link : Link) × (slice_get links at ≡ Some link) × TakesCalls now link

-- the first call that waits for the link of this number is to wait no longer, by the clock of calls that wait
abbrev pub WaitsTooLongAt : (at pace : ℕ) → List Link → Type 0
WaitsTooLongAt at pace links = (link : Link) × (slice_get links at ≡ Some link) × WaitsTooLong pace link
