-- When nothing is left to do for a proxy until something comes. Source: mcgate's own.
use Rattle.std.specs.Prelude.{◌≡◌, ℕ, ◌≤◌, true, false, []}
use Rattle.serve_proxy.specs.declared.accepting.Accepting.TheVariants as accepting
use Rattle.serve_proxy.specs.declared.sockets.Sockets.{Sockets}
use Rattle.serve_proxy.specs.declared.proxy.ProxyEnd.{ProxyEnd}
use Rattle.serve_links.specs.Links.{calls_out}

-- clients may wait to be accepted, and it is time for it
abbrev pub MayAccept : accepting.the_data → ℕ → Type 0
MayAccept accepting.Now now = Unit {0}
MayAccept (accepting.From time) now = time ≤ now
MayAccept accepting.Idle now = ⊥

-- nothing is ready, and none that waits can go on
pub record HasNoWork {W : Type 0} (sockets : Sockets W) : Type 0 where
  pub listed : (sockets.clients.is_short ≡ false) × (sockets.links.is_short ≡ false)
  pub accepting : MayAccept sockets.accepting sockets.time → ⊥
  pub clients : sockets.clients.ready.items ≡ []
  pub links : sockets.links.ready.items ≡ []
  pub output : sockets.links.with_output.items ≡ []
  pub replies : sockets.clients.with_output.items ≡ []
  pub busy : sockets.is_freed ≡ true → sockets.clients.busy.items ≡ []

-- nothing is ready, none that waits can go on, and so many calls are out
abbrev pub AreStill : {W : Type 0} → ℕ → Sockets W → Type 0
AreStill calls sockets = HasNoWork sockets × (calls_out sockets.links.all.items ≡ calls)

-- of a proxy's end nothing is ready, none that waits can go on, and so many calls are out
abbrev pub EndIsStill : {W : Type 0} → ℕ → ProxyEnd W → Type 0
EndIsStill calls end = AreStill calls end.sockets
