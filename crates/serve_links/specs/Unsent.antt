-- Why calls of a server fail that never go out. Source: mcgate's own.
use Rattle.std.specs.Prelude.{◌≡◌, ◌≢◌, ◌⊎◌, ℕ, true, false, ◌+◌, ◌<◌, ◌≤◌, List, [], ◌∷◌, length, None, IsSome}
use Rattle.serve_links.specs.declared.calls.calls.SentCall.{SentCall}
use Rattle.serve_links.specs.declared.link.Link.{Link}
use Rattle.serve_links.specs.declared.refusal.Refusal.{Refusal}
use Rattle.serve_links.specs.declared.refusal.Refusal.TheVariants as refusals
use Rattle.serve_links.specs.Dialects.{awaits_flush}
use Rattle.serve_links.specs.Epochs.{is_retired}
use Rattle.serve_links.specs.Lateness.{HasLate, awaits_store}
use Rattle.serve_links.specs.Links.{least_waiting}
use Rattle.serve_links.specs.Story.{said_asks, LineIsForeign}
use Rattle.serve_links.specs.Talks.{HasWaited}

-- one of these calls began then
abbrev pub HasSince : ℕ → List SentCall → Type 0
HasSince since [] = ⊥
HasSince since (call ∷ calls) = (call.since ≡ since) ⊎ HasSince since calls

-- a store is awaited however long it takes, as the first of the calls that are out, and one of them had waited too long when a call was late last
abbrev pub IsStoreLate : Link → Type 0
IsStoreLate link = (awaits_store link ≡ true) × HasWaited link.limits.call_ms link.late_since (said_asks link.calls.sent.items)

-- its server is late: answers are still to come of calls that have failed, or a store is
abbrev pub IsServerLate : Link → Type 0
IsServerLate link = (link.late.items ≢ []) ⊎ IsStoreLate link

-- it failed as many times in a row as is allowed, and isn't tried again yet
abbrev pub IsHeld : (now : ℕ) → Link → Type 0
IsHeld now link = (link.limits.fail_limit ≤ link.failures) × (now < link.held_until)

-- as many of its connections in a row were given up as is allowed, and a call tries it
abbrev pub IsLeftAlone : Link → Type 0
IsLeftAlone link = (link.limits.fail_limit ≤ link.lost) × (link.calls.sent.items ≢ [])

-- no connection is begun: its server is late, the end of a connection is awaited, no call goes out any more, or it isn't tried again yet
abbrev pub HoldsBack : (now : ℕ) → Link → Type 0
HoldsBack now link = IsServerLate link ⊎ IsSome link.draining ⊎ (is_retired link ≡ true) ⊎ IsHeld now link

-- calls may go out, or wait for that: no late answers are to come, and it isn't left alone; and without a connection one may be begun, as no end of one is awaited, it is not retired, and may be tried
pub record TakesCalls (now : ℕ) (link : Link) : Type 0 where
  pub late : link.late.items ≡ []
  pub draining : link.conn ≡ None → link.draining ≡ None
  pub retired : link.conn ≡ None → is_retired link ≡ false
  pub tried : link.conn ≡ None → (link.failures < link.limits.fail_limit) ⊎ (link.held_until ≤ now)
  pub alone : IsSome link.conn → (link.lost < link.limits.fail_limit) ⊎ (link.calls.sent.items ≡ [])

-- this holds of the first of these calls, if there is one
abbrev pub FirstIs : (SentCall → Type 0) → List SentCall → Type 0
FirstIs Is [] = Unit {0}
FirstIs Is (call ∷ calls) = Is call

-- the first call that waits for it is to wait no longer: it has no connection, its server is late, or that call has waited for more milliseconds than it may to go out, by the clock of calls that wait
abbrev pub WaitsTooLong : (pace : ℕ) → Link → Type 0
WaitsTooLong pace link = (link.conn ≡ None) ⊎ IsServerLate link ⊎ (FirstIs (λ call. call.paced + link.limits.call_ms < pace) link.waiting × (link.waiting ≢ []))

-- a call that was given out by this time isn't sent over a link for this reason, which isn't that many wait, when a clock shows this
abbrev pub IsRefused : Refusal → (since now : ℕ) → Link → Type 0
IsRefused refusals.NoConnection since now link = link.conn ≡ None
IsRefused refusals.ServerLate since now link = IsSome link.conn × (link.late.items ≢ [])
IsRefused refusals.StoreLate since now link = IsSome link.conn × (awaits_store link ≡ true) × HasLate now link
IsRefused refusals.Emptying since now link = IsSome link.conn × (awaits_flush link.awaits_dialect ≡ true)
IsRefused refusals.ForeignCame since now link = IsSome link.conn × LineIsForeign link
IsRefused refusals.WaitedLong since now link = since + link.limits.call_ms < now
IsRefused refusals.LeftAlone since now link = IsSome link.conn × IsLeftAlone link
IsRefused refusals.ManyWait since now link = ⊥

-- it isn't sent for such a reason, or as many calls wait for the link as there is always room for
abbrev pub IsHindered : Refusal → (since now : ℕ) → Link → Type 0
IsHindered why since now link = ((why ≡ refusals.ManyWait) × (least_waiting ≤ length link.waiting)) ⊎ IsRefused why since now link
