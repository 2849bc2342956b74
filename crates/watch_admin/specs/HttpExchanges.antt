-- Where a client stands. Source: mcgate's own.
use Rattle.std.specs.Prelude.{◌≡◌, ℕ, List}
use Rattle.watch_admin.specs.declared.http.exchange.Exchange.{Exchange}
use Rattle.watch_admin.specs.declared.http.exchange.Exchange.TheVariants.{Asking, Waiting, Answering, Lingering}

-- it stands there by these bytes, which it has sent
abbrev pub Holds : Exchange → List ℕ → Type 0
Holds (Asking asking) bytes = asking.came.items ≡ bytes
Holds (Waiting waiting) bytes = waiting.came.items ≡ bytes
Holds (Answering answering) bytes = answering.came.items ≡ bytes
Holds Lingering bytes = ⊥
