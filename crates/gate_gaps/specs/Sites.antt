-- By which route of a tree deletes go, and what to change there. Source: mcgate's own.
use Rattle.std.specs.Prelude.{ℕ, ◌==◌, ◌&&◌, List, [], ◌++◌, codes, length, nat_lt, if◌then◌else◌}
use Rattle.mc_types.specs.declared.ask.Op.TheVariants.{Delete}
use Rattle.route_json.specs.NumberedServers.{Addresses}
use Rattle.route_tree.specs.At.{begins}
use Rattle.route_tree.specs.Operation.{same_op}
use Rattle.route_tree.specs.Route.{Route, Policies, Prefixes, Pool, Server, Null, Failing, AllSync, Failover, MissFailover, WarmUp, ByOperation, ByPrefix, Otherwise, Policy, Wildcard, Prefix}
use Rattle.gate_gaps.specs.Kinds.{kind_name}
use Rattle.gate_gaps.specs.Phrases.{gap_phrase_text}
use Rattle.gate_gaps.specs.Pointing.{pointed}
use Rattle.gate_gaps.specs.Pools.{NamedPools}
use Rattle.gate_gaps.specs.PoolWords.{server_text, pool_names}
use Rattle.gate_gaps.specs.declared.spelling.Spelling.TheVariants.{Line}
use Rattle.gate_gaps.specs.declared.phrases.Phrase.{Phrase}
use Rattle.gate_gaps.specs.declared.phrases.Phrase.TheVariants as phrases

-- how long the longest of the prefixes is that begin the text; 0 where none does
abbrev pub longest_begun : List ℕ → Prefixes → ℕ
longest_begun text (Wildcard r) = 0
longest_begun text (Prefix p r ps) = if begins p text && nat_lt (longest_begun text ps) (length p) then length p else longest_begun text ps

-- the names of the pools whose route this is
abbrev pub pools_of_route : NamedPools → Route → List ℕ
pools_of_route pools (Pool slots) = pool_names Line pools slots
pools_of_route pools (Server s) = []
pools_of_route pools Null = []
pools_of_route pools Failing = []
pools_of_route pools (AllSync rs) = []
pools_of_route pools (Failover rs) = []
pools_of_route pools (MissFailover rs) = []
pools_of_route pools (WarmUp cold warm e) = []
pools_of_route pools (ByOperation ps) = []
pools_of_route pools (ByPrefix ps) = []

-- a route by its kind, and that of a pool by its pool
abbrev pub route_text : NamedPools → Route → List ℕ
route_text pools r = kind_name r ++ pools_of_route pools r

-- what deletes by a route of this kind lack, before the server is named
abbrev pub lack_phrase : Route → Phrase
lack_phrase (Pool slots) = phrases.Lacks
lack_phrase (Server s) = phrases.Lacks
lack_phrase Null = phrases.ClearsNothing
lack_phrase Failing = phrases.ClearsNothing
lack_phrase (AllSync rs) = phrases.LacksChild
lack_phrase (Failover rs) = phrases.StopsBefore
lack_phrase (MissFailover rs) = phrases.FirstAlone
lack_phrase (WarmUp cold warm e) = phrases.ColdAlone
lack_phrase (ByOperation ps) = phrases.Lacks
lack_phrase (ByPrefix ps) = phrases.Lacks

-- what helps where a route of this kind leaves a gap
abbrev pub fix_phrase : Route → Phrase
fix_phrase (Pool slots) = phrases.OverBoth
fix_phrase (Server s) = phrases.OverBoth
fix_phrase Null = phrases.SendThere
fix_phrase Failing = phrases.SendThere
fix_phrase (AllSync rs) = phrases.AddOne
fix_phrase (Failover rs) = phrases.OfChildren
fix_phrase (MissFailover rs) = phrases.OfChildren
fix_phrase (WarmUp cold warm e) = phrases.OfSides
fix_phrase (ByOperation ps) = phrases.OverBoth
fix_phrase (ByPrefix ps) = phrases.OverBoth

abbrev pub policy_path : List ℕ → List ℕ
policy_path policy = codes "/policies/" ++ pointed policy

abbrev pub change_front : Route → List ℕ
change_front r = gap_phrase_text phrases.ToChange ++ codes " " ++ gap_phrase_text (lack_phrase r) ++ codes " "

abbrev pub change_end : Route → List ℕ
change_end r = gap_phrase_text (fix_phrase r) ++ codes "\n"

-- the end of the path, and the route there
abbrev pub end_line : NamedPools → Route → List ℕ
end_line pools r = codes ": " ++ route_text pools r ++ codes "\n"

module _ (servers : Addresses) (pools : NamedPools) (server : ℕ) where
  -- what to change where deletes go by this route
  abbrev pub change_text : Route → List ℕ
  change_text r = change_front r ++ server_text servers pools server ++ change_end r

  -- the route by which deletes go at last, and what to change there
  abbrev pub end_route_text : Route → List ℕ
  end_route_text r = end_line pools r ++ change_text r

  module _ (prefix : List ℕ) where
    abbrev mutual
      -- from a route on: the rest of the path, and then the route. Deletes are followed through selectors alone
      pub site_text : Route → List ℕ
      site_text (Pool slots) = end_route_text (Pool slots)
      site_text (Server s) = end_route_text (Server s)
      site_text Null = end_route_text Null
      site_text Failing = end_route_text Failing
      site_text (AllSync rs) = end_route_text (AllSync rs)
      site_text (Failover rs) = end_route_text (Failover rs)
      site_text (MissFailover rs) = end_route_text (MissFailover rs)
      site_text (WarmUp cold warm e) = end_route_text (WarmUp cold warm e)
      site_text (ByOperation ps) = site_by ps
      site_text (ByPrefix ps) = site_begun (longest_begun prefix ps) ps

      -- the rest of the path by the first policy of deletes, else by the default
      pub site_by : Policies → List ℕ
      site_by (Otherwise r) = gap_phrase_text phrases.DefaultPath ++ site_text r
      site_by (Policy op r ps) = if same_op op Delete then gap_phrase_text phrases.DeletePath ++ site_text r else site_by ps

      -- the rest of the path by the policy of this length that begins the place's prefix, else by the wildcard
      pub site_begun : (longest : ℕ) → Prefixes → List ℕ
      site_begun longest (Wildcard r) = gap_phrase_text phrases.WildcardPath ++ site_text r
      site_begun longest (Prefix p r ps) =
          if begins p prefix && length p == longest then policy_path p ++ site_text r
          else site_begun longest ps

    -- by which route deletes go, what to change there, and what else could be done
    abbrev pub change_lines : Route → List ℕ
    change_lines r = gap_phrase_text phrases.DeletesGo ++ site_text r ++ gap_phrase_text phrases.Else ++ codes "\n"
