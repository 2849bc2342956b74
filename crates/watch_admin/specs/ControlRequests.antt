-- What a line asks for. Source: mcgate's own.
use Rattle.std.specs.Prelude.{◌≡◌, ◌≢◌, ℕ, List, ◌++◌, codes}
use Rattle.watch_admin.specs.declared.control.requests.Request.{Request}
use Rattle.watch_admin.specs.declared.control.requests.Request.TheVariants as asks

-- the line asks for this; one that is no word asks for nothing
abbrev pub LineMeans : List ℕ → Request → Type 0
LineMeans line asks.Drain = line ≡ codes "drain"
LineMeans line asks.Reload = line ≡ codes "reload"
LineMeans line asks.Status = line ≡ codes "status"
LineMeans line asks.Servers = line ≡ codes "servers"
LineMeans line (asks.Where key) = line ≡ codes "where " ++ key.now
LineMeans line (asks.Log level) = line ≡ codes "log " ++ level.now
LineMeans line asks.Unknown = (line ≢ codes "drain") × (line ≢ codes "reload") × (line ≢ codes "status") × (line ≢ codes "servers")
