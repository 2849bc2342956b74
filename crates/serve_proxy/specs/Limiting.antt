-- Limits of servers: what a configuration's text says of each, and the usual ones. Source: mcgate's own.
use Rattle.std.specs.Prelude.{◌≡◌, ℕ, List, Option, Some, None, map as each}
use Rattle.serde_json.specs.Data.{Data}
use Rattle.serde_json.specs.Read.{read}
use Rattle.route_tree.specs.Each.{Each}
use Rattle.route_json.specs.declared.limits.ServerLimits.{ServerLimits}
use Rattle.route_json.specs.Limits.{no_limits, limits_said, pools_said}
use Rattle.serve_links.specs.declared.link.Link.{Link}
use Rattle.serve_links.specs.declared.settings.LinkLimits.{LinkLimits}

-- the limit that is said, or the usual one
abbrev pub limit_or : ℕ → Option ℕ → ℕ
limit_or usual None = usual
limit_or usual (Some limit) = limit

-- the limits that are said, and the usual ones of those that aren't
abbrev pub own_limits : LinkLimits → ServerLimits → LinkLimits
own_limits usual said = record {
  call_ms = limit_or usual.call_ms said.call_ms;
  connect_ms = limit_or usual.connect_ms said.connect_ms;
  fail_limit = limit_or usual.fail_limit said.fail_limit;
  retry_ms = limit_or usual.retry_ms said.retry_ms;
  stores_wait = usual.stores_wait;
}

-- the limits of the server of this name, by a configuration's value, and the usual ones of those that it doesn't say
abbrev pub value_limits : LinkLimits → Data → List ℕ → LinkLimits
value_limits usual value name = own_limits usual (limits_said (pools_said value) name)

-- the limits of the server of this name, by the value of a text, which may be no JSON
abbrev pub limits_by_text : LinkLimits → Option Data → List ℕ → LinkLimits
limits_by_text usual None name = own_limits usual no_limits
limits_by_text usual (Some value) name = value_limits usual value name

abbrev pub text_limits : LinkLimits → List ℕ → List ℕ → LinkLimits
text_limits usual text name = limits_by_text usual (read text) name

-- these links, but that each has the limits of its server's name
abbrev pub limited_by : (List ℕ → LinkLimits) → List Link → List Link
limited_by limits links = each (λ (link : Link). record link { limits = limits link.text.items }) links

-- each of these servers has the limits of its name
abbrev pub AreLimited : (List ℕ → LinkLimits) → List (List ℕ × LinkLimits) → Type 0
AreLimited limits servers = Each (λ (server : List ℕ × LinkLimits). server.1 ≡ limits server.0) servers
