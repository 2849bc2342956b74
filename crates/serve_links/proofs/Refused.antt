-- Why a call isn't sent over a link, whatever else waits for it.
use Rattle.std.proofs.Common.{◌≡◌, ℕ, List, ◌∷◌, sym, subst}
use Rattle.serve_links.specs.declared.calls.calls.SentCall.{SentCall}
use Rattle.serve_links.specs.declared.link.Link.{Link}
use Rattle.serve_links.specs.declared.refusal.Refusal.{Refusal}
use Rattle.serve_links.specs.declared.refusal.Refusal.TheVariants as refusals
use Rattle.serve_links.specs.Unsent.{IsRefused, FirstIs}

pub refused_anew : (why : Refusal) (since now : ℕ) (x y : Link) → y ≡ record x { waiting = y.waiting } → IsRefused why since now x → IsRefused why since now y
refused_anew why since now x y is was = subst (IsRefused why since now) (sym is) (by why was)
  where
    by : (w : Refusal) → IsRefused w since now x → IsRefused w since now (record x { waiting = y.waiting })
    by refusals.NoConnection r = r
    by refusals.ServerLate r = r
    by refusals.StoreLate r = r
    by refusals.Emptying r = r
    by refusals.ForeignCame r = r
    by refusals.WaitedLong r = r
    by refusals.LeftAlone r = r
    by refusals.ManyWait r = r

pub first_is : (Is : SentCall → Type 0) (calls rest : List SentCall) (call : SentCall) → calls ≡ call ∷ rest → FirstIs Is calls → Is call
first_is Is calls rest call same first = subst (FirstIs Is) same first
