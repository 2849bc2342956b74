-- What is printed of the limits that pools say for a key's servers: a line for each that has one. Source: mcgate's own.
use Rattle.std.specs.Prelude.{ℕ, ◌||◌, Bool, List, [], ◌++◌, codes, decimal, length, nat_eq, is_some, Option, Some, None, if◌then◌else◌}
use Rattle.std.specs.List.{flat_map, list_any, range_with_len}
use Rattle.serde_json.specs.Data.{Data, null}
use Rattle.mc_types.specs.declared.ask.Op.{Op}
use Rattle.route_tree.specs.Plan.{Plan}
use Rattle.route_json.specs.Servers.{Addresses}
use Rattle.route_json.specs.declared.limits.ServerLimits.{ServerLimits}
use Rattle.route_json.specs.Limits.{limits_said, pools_said}
use Rattle.gate_gaps.specs.Names.{server_address}
use Rattle.gate_gaps.specs.Pools.{NamedPools}
use Rattle.gate_gaps.specs.PoolWords.{server_text}
use Rattle.mcgate_lines.specs.Asking.{servers_asked}

-- the value of a configuration's text; null where it is no JSON
abbrev pub limits_value : Option Data → Data
limits_value None = null
limits_value (Some d) = d

-- a limit and its number, if it is said
abbrev pub limit_word : List ℕ → Option ℕ → List ℕ
limit_word name None = []
limit_word name (Some n) = codes " " ++ name ++ codes "=" ++ decimal n

-- each limit that is said
abbrev pub limit_words : ServerLimits → List ℕ
limit_words limits =
    limit_word (codes "call_ms") limits.call_ms ++ limit_word (codes "connect_ms") limits.connect_ms
    ++ limit_word (codes "fail_limit") limits.fail_limit ++ limit_word (codes "retry_ms") limits.retry_ms

-- some limit is said
abbrev pub is_some_said : ServerLimits → Bool
is_some_said limits = is_some limits.call_ms || is_some limits.connect_ms || is_some limits.fail_limit || is_some limits.retry_ms

-- the line of a server with these limits, if some limit is said
abbrev pub limits_line : Addresses → NamedPools → ℕ → ServerLimits → List ℕ
limits_line addresses pools server limits =
    if is_some_said limits then codes "  limits " ++ server_text addresses pools server ++ limit_words limits ++ codes "\n" else []

-- the limits that the pools of a configuration's value say of the server of a number
abbrev pub limits_at : Addresses → Data → ℕ → ServerLimits
limits_at addresses value server = limits_said (pools_said value) (server_address addresses server)

-- the line of a server, if it is one of these
abbrev pub limits_line_of : Addresses → NamedPools → Data → List ℕ → ℕ → List ℕ
limits_line_of addresses pools value servers server =
    if list_any (nat_eq server) servers then limits_line addresses pools server (limits_at addresses value server) else []

-- the lines of these servers, each once, in the order of their numbers
abbrev pub limits_lines : Addresses → NamedPools → Data → List ℕ → List ℕ
limits_lines addresses pools value servers = flat_map (limits_line_of addresses pools value servers) (range_with_len 0 (length addresses))

-- the servers that the plain tree has for these operations
abbrev pub plan_servers : Plan → List Op → List ℕ
plan_servers plain ops = flat_map (λ op. servers_asked op plain) ops
