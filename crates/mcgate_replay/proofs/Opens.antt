-- What a script puts on servers is what they may have held at first.
use Rattle.std.proofs.Common.{◌≡◌, ℕ, zero, suc, ◌+◌, ◌-◌, ◌<◌, ◌≤◌, Bool, true, false, cond, not, ◌&&◌, List, [], ◌∷◌, length, map, take, drop, get_or, slice_get, nat_eq, nat_lt, Option, Some, None, refl, sym, ap, ◌∙◌, subst, inl, inr, arith}
use Rattle.std.specs.Prelude.{option_map, ◌⊎◌}
use Rattle.std.specs.Map.{lookup, lookup_entry, remove_entry}
use Rattle.std.specs.Option.{option_map_or}
use Rattle.std.proofs.Math.Seq.{drop-cons}
use Rattle.std.proofs.lemmas.List.{drop_all}
use Rattle.std.proofs.lemmas.Bool.{eqb-true}
use Rattle.std.proofs.lemmas.Slice.Eq.{bytes_eq-Decides}
use Rattle.lru.specs.LruCache.{lru_cache, put_entries}
use Rattle.cache_server.specs.declared.item.CacheItem.{CacheItem}
use Rattle.cache_server.specs.declared.item.Entry.{Entry}
use Rattle.cache_server.specs.Contents.{Contents, Key, Entries, same_key, entry_held, empty, next_number, storing_item}
use Rattle.cache_server.specs.Held.{item_of}
use Rattle.route_tree.specs.Each.{Each}
use Rattle.route_tree.specs.At.{tree_at}
use Rattle.route_tree.specs.Plan.{Plan, IsPlan}
use Rattle.route_tree.specs.Route.{Route, IsTree}
use Rattle.route_tree.specs.Tag.{key_hash}
use Rattle.route_tree.proofs.PlainTrees.{plan_plain}
use Rattle.route_json.specs.Configuration.{Configuration}
use Rattle.gate_growth.specs.Puts.{Puts}
use Rattle.gate_growth.specs.PutsComputed.{puts}
use Rattle.gate_growth.specs.Pages.{is_any}
use Rattle.gate_growth.specs.declared.ledger.page.Beginning.{Beginning}
use Rattle.gate_growth.specs.declared.ledger.page.Beginning.TheVariants as beginnings
use Rattle.gate_growth.proofs.Storing.{puts_is_exact}
use Rattle.core_accepted.specs.declared.beginnings.Beginnings.{Beginnings}
use Rattle.core_accepted.specs.Known.{is_arbitrary, first_of}
use Rattle.core_accepted.specs.Logs.{BeginSo}
use Rattle.script_events.specs.declared.script.Event.{Event}
use Rattle.script_events.specs.Limits.{capacity}
use Rattle.script_events.specs.Opening.{put_by, put_by_all, opening_cache, opening_of}
use Rattle.script_events.specs.Scripted.{Scripted, Piece, Add, Result, Fail, Hold, At, Now, Moment, scripted_of}
use Rattle.mcgate_replay.specs.Growing.{may_begin_with, may_hold, is_excluded, first_excluded}

-- ---- the first event that is excluded

-- the first event isn't excluded, so the first that is stands after it
pub not_so_far : (begun : Beginnings) (config : Configuration) (at : ℕ) (event : Scripted) (events : List Scripted) → is_excluded begun config event ≡ false → first_excluded begun config at (event ∷ events) ≡ first_excluded begun config (at + 1) events
not_so_far begun config at event events fits = ap (λ (b : Bool). cond b (Some at) (first_excluded begun config (at + 1) events)) fits

pub this_one : (begun : Beginnings) (config : Configuration) (at : ℕ) (event : Scripted) (events : List Scripted) → is_excluded begun config event ≡ true → first_excluded begun config at (event ∷ events) ≡ Some at
this_one begun config at event events excluded = ap (λ (b : Bool). cond b (Some at) (first_excluded begun config (at + 1) events)) excluded

-- the events from this place on
abbrev pub excluded_from : Beginnings → Configuration → List Event → ℕ → Option ℕ
excluded_from begun config events at = first_excluded begun config at (map scripted_of (drop at events))

pub parted : (begun : Beginnings) (config : Configuration) (events : List Event) (at : ℕ) (event : Event) → at < length events → event ≡ get_or events at event
    → excluded_from begun config events at ≡ first_excluded begun config at (scripted_of event ∷ map scripted_of (drop (suc at) events))
parted begun config events at event lt is =
    ap (λ (es : List Event). first_excluded begun config at (map scripted_of es)) (drop-cons events at event lt)
    ∙ ap (λ (e : Event). first_excluded begun config at (scripted_of e ∷ map scripted_of (drop (suc at) events))) (sym is)

pub one_more_fits : (begun : Beginnings) (config : Configuration) (events : List Event) (at : ℕ) (event : Event) → at < length events → event ≡ get_or events at event → is_excluded begun config (scripted_of event) ≡ false
    → excluded_from begun config events at ≡ excluded_from begun config events (at + 1)
one_more_fits begun config events at event lt is fits =
    let next : suc at ≡ at + 1 = omega arith in
    parted begun config events at event lt is ∙ not_so_far begun config at (scripted_of event) (map scripted_of (drop (suc at) events)) fits
    ∙ ap (λ (n : ℕ). first_excluded begun config (at + 1) (map scripted_of (drop n events))) next

pub excluded_here : (begun : Beginnings) (config : Configuration) (events : List Event) (at : ℕ) (event : Event) → at < length events → event ≡ get_or events at event → is_excluded begun config (scripted_of event) ≡ true
    → excluded_from begun config events at ≡ Some at
excluded_here begun config events at event lt is excluded =
    parted begun config events at event lt is ∙ this_one begun config at (scripted_of event) (map scripted_of (drop (suc at) events)) excluded

pub none_excluded : (begun : Beginnings) (config : Configuration) (events : List Event) (at : ℕ) → length events ≤ at → excluded_from begun config events at ≡ None
none_excluded begun config events at end = ap (λ (es : List Event). first_excluded begun config at (map scripted_of es)) (drop_all at events end)

-- ---- what caches hold

not_true : (b : Bool) → not b ≡ false → b ≡ true
not_true true e = refl
not_true false e = absurd (cc)

module _ (P : Key → Type 0) where
  abbrev OfKey : Key × Entry → Type 0
  OfKey e = P e.0

  removed : (test : Key → Bool) (es : Entries) → Each OfKey es → Each OfKey (remove_entry test es)
  removed test [] all = tt
  removed test (f ∷ es) all = elim (test f.0) as (λ b. Each OfKey (cond b es (f ∷ remove_entry test es))) [ true ↦ all.1 | false ↦ (all.0, removed test es all.1) ]

  fewer : (n : ℕ) (es : Entries) → Each OfKey es → Each OfKey (take n es)
  fewer zero [] all = tt
  fewer zero (f ∷ es) all = tt
  fewer (suc n) [] all = tt
  fewer (suc n) (f ∷ es) all = (all.0, fewer n es all.1)

  same_entry : (a b : Key × Entry) → Some a ≡ Some b → a ≡ b
  same_entry a b e = cc

  found : (test : Key → Bool) (es : Entries) (e : Key × Entry) → lookup_entry test es ≡ Some e → Each OfKey es → OfKey e
  found test [] e is all = absurd (cc)
  found test (f ∷ es) e is all =
      (elim (test f.0) as (λ b. cond b (Some f) (lookup_entry test es) ≡ Some e → OfKey e) [
        | true ↦ λ this. subst OfKey (same_entry f e this) all.0
        | false ↦ λ later. found test es e later all.1
      ]) is

  stored : (c : Contents) (key : Key) (item : CacheItem) → P key → Each OfKey c.entries → Each OfKey (storing_item c key item).entries
  stored c key item here all = by (lookup_entry (same_key key) c.entries) refl
    where
      entry : Entry
      entry = record { item = item; cas = next_number c.counter }

      by : (o : Option (Key × Entry)) → lookup_entry (same_key key) c.entries ≡ o → Each OfKey (option_map_or (λ e. (e.0, entry) ∷ remove_entry (same_key key) c.entries) o ((key, entry) ∷ take (c.cap - 1) c.entries))
      by None is = (here, fewer (c.cap - 1) c.entries all)
      by (Some e) is = (found (same_key key) c.entries e is all, removed (same_key key) c.entries all)

  -- what is held is of such a key
  looked : (key : Key) (es : Entries) (entry : Entry) → lookup (same_key key) es ≡ Some entry → Each OfKey es → P key
  looked key [] entry is all = absurd (cc)
  looked key (f ∷ es) entry is all =
      (elim (same_key key f.0) as (λ b. same_key key f.0 ≡ b → cond b (Some f.1) (lookup (same_key key) es) ≡ Some entry → P key) [
        | true ↦ λ same this. subst P (sym ((bytes_eq-Decides key f.0).0 same)) all.0
        | false ↦ λ other later. looked key es entry later all.1
      ]) refl is

module _ (begun : Beginnings) (config : Configuration) (server : ℕ) where
  abbrev Allowed : Key → Type 0
  Allowed key = may_hold begun config server key ≡ true

  put_one : (event : Scripted) (c : Contents) → is_excluded begun config event ≡ false → Each (OfKey Allowed) c.entries → Each (OfKey Allowed) (put_by server c event).entries
  put_one (Piece client bytes) c fits all = all
  put_one (Add client bytes) c fits all = all
  put_one (Result s) c fits all = all
  put_one (Fail turn manner) c fits all = all
  put_one (At turn loss) c fits all = all
  put_one (Now loss) c fits all = all
  put_one (Moment moment) c fits all = all
  put_one (Hold s key content) c fits all = by (nat_eq s server) refl
    where
      allowed : s ≡ server → Allowed key
      allowed same = subst (λ (n : ℕ). may_hold begun config n key ≡ true) same (not_true (may_hold begun config s key) fits)

      by : (b : Bool) → nat_eq s server ≡ b → Each (OfKey Allowed) (cond b (storing_item c key (record { body = content; flags = 0; expiry = None; stamp = 0 })) c).entries
      by true is = stored Allowed c key (record { body = content; flags = 0; expiry = None; stamp = 0 }) (allowed (eqb-true s server is)) all
      by false is = all

  put_all : (at : ℕ) (events : List Scripted) (c : Contents) → first_excluded begun config at events ≡ None → Each (OfKey Allowed) c.entries → Each (OfKey Allowed) (put_by_all server c events).entries
  put_all at [] c fits all = all
  put_all at (event ∷ events) c fits all =
      (elim (is_excluded begun config event) as (λ b. is_excluded begun config event ≡ b → cond b (Some at) (first_excluded begun config (at + 1) events) ≡ None → Each (OfKey Allowed) (put_by_all server (put_by server c event) events).entries) [
        | true ↦ λ is none. absurd (cc)
        | false ↦ λ is none. put_all (at + 1) events (put_by server c event) none (put_one event c is all)
      ]) refl fits

  -- what a server that isn't arbitrary may hold its tree puts there
  put_there : (b : Beginning) (founder put : Bool) → is_any b ≡ false → may_begin_with b founder put ≡ true → put ≡ true
  put_there beginnings.Any founder put own may = absurd (cc)
  put_there beginnings.Own true put own may = may
  put_there beginnings.Own false put own may = absurd (cc)

  puts_there : (tree : IsTree config.tree) (key : Key) → is_arbitrary (first_of config begun) server ≡ false → Allowed key → Puts (tree_at config.tree key) server
  puts_there tree key own allowed =
      let put = put_there (cond (nat_lt server (length config.servers)) begun.opened begun.added) (nat_lt server (length config.servers)) (puts (tree_at config.tree key) server) own allowed in
      (puts_is_exact (tree_at config.tree key) server (plan_plain (key_hash key) key config.tree tree).good).0 put

-- where no event is excluded, servers begin as is said
pub holds_begin_so : (begun : Beginnings) (config : Configuration) (events : List Scripted) → IsTree config.tree → first_excluded begun config 0 events ≡ None → BeginSo config begun (opening_of events)
holds_begin_so begun config events tree fits server key own = by (entry_held (opening_cache events server) key) refl
  where
    all : Each (OfKey (Allowed begun config server)) (opening_cache events server).entries
    all = put_all begun config server 0 events (empty capacity) fits tt

    by : (o : Option Entry) → entry_held (opening_cache events server) key ≡ o
        → (opening_of events server key ≡ None) ⊎ ((first : Route) × (slice_get (config.tree ∷ []) 0 ≡ Some first) × Puts (tree_at first key) server)
    by None is = inl (ap (option_map (λ (entry : Entry). item_of entry.item)) is)
    by (Some entry) is = inr (config.tree, refl, puts_there begun config server tree key own (looked (Allowed begun config server) key (opening_cache events server).entries entry is all))
