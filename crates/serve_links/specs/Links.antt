-- The links of a proxy to its servers. Source: mcgate's own.
use Rattle.std.specs.Prelude.{◌≡◌, Bool, true, false, Option, Some, ℕ, ◌+◌, List, [], ◌∷◌, ◌++◌, length, None, IfSome, slice_get}
use Rattle.mc_types.specs.declared.call.Outcome.TheVariants.{Failed}
use Rattle.core_accepted.specs.declared.served.ServedCore.{ServedCore}
use Rattle.serve_links.specs.declared.calls.calls.SentCall.{SentCall}
use Rattle.core_accepted.specs.Results.{IsSettled}
use Rattle.serve_links.specs.declared.link.Link.{Link}
use Rattle.serve_links.specs.declared.news.Cause.{Cause}
use Rattle.serve_links.specs.declared.news.Cause.TheVariants as causes

-- for so many calls that wait for a link there is room from the start, whatever memory there is
abbrev pub least_waiting : ℕ
least_waiting = 64

-- how many calls are out on these links: sent, or waiting to be sent
abbrev pub calls_out : List Link → ℕ
calls_out [] = 0
calls_out (link ∷ links) = length link.calls.sent.items + length link.waiting + calls_out links

-- each of these calls has failed, in this order, and nothing else was done
abbrev pub AllFail : List SentCall → ServedCore → ServedCore → Type 0
AllFail [] old new = new ≡ old
AllFail (call ∷ calls) old new = (mid : ServedCore) × IsSettled old call.ticket.number Failed mid × AllFail calls mid new

-- of these calls this one is gone, and the others are left in their order
abbrev pub CallIsTaken : List SentCall → SentCall → List SentCall → Type 0
CallIsTaken calls call calls' = (before after : List SentCall) × (calls ≡ before ++ call ∷ after) × (calls' ≡ before ++ after)

-- of these calls the first have failed, in this order, and these are left; nothing else was done
abbrev pub FailsTo : List SentCall → List SentCall → ServedCore → ServedCore → Type 0
FailsTo calls left old new = (gone : List SentCall) × (calls ≡ gone ++ left) × AllFail gone old new

-- the link has no connection, and none of its calls is out
pub record IsDown (link : Link) : Type 0 where
  pub closed : link.conn ≡ None
  pub sent : link.calls.sent.items ≡ []
  pub waiting : link.waiting ≡ []

-- the link of this number, if there is one, has no connection, and none of its calls is out
abbrev pub IsDownAt : ℕ → List Link → Type 0
IsDownAt at links = IfSome (slice_get links at) IsDown

abbrev pub IsClosedAt : ℕ → List Link → Type 0
IsClosedAt at links = IfSome (slice_get links at) (λ link. link.conn ≡ None)

-- why a link is given up where too many reads were in vain
abbrev pub vain_cause : Bool → Option Cause
vain_cause true = Some causes.VainReads
vain_cause false = None
