-- How the core of a proxy begins. Source: mcgate's own.
use Rattle.std.specs.Prelude.{List}
use Rattle.route_tree.specs.Route.{Route}
use Rattle.route_json.specs.Configuration.{Configuration}
use Rattle.core_proxy.specs.declared.limits.CoreLimits.{CoreLimits}
use Rattle.core_accepted.specs.declared.beginnings.Beginnings.{Beginnings}
use Rattle.core_accepted.specs.Logs.{IsNewFrom, IsUnchecked}
use Rattle.core_accepted.specs.declared.served.ServedCore.{ServedCore}
use Rattle.serve_links.specs.declared.settings.Settings.{Settings}
use Rattle.serve_proxy.specs.declared.beginning.TheConstants.{HELD_LIMIT}

-- the core's limits
abbrev pub limits_by : Settings → CoreLimits
limits_by settings = record { clients = settings.clients; held = HELD_LIMIT; depth = settings.client_window; window = settings.link_window; sharing = settings.sharing; version = settings.version }

-- it is a new core on accepted trees, where servers began so
abbrev pub BeginsFresh : List Configuration → Beginnings → Settings → ServedCore → Type 0
BeginsFresh accepted begun settings core = IsNewFrom accepted begun (limits_by settings) core

-- it is a new core on this tree, which no gate was asked about
abbrev pub BeginsUnchecked : Route → Settings → ServedCore → Type 0
BeginsUnchecked tree settings core = IsUnchecked tree (limits_by settings) core
