use Rattle.std.proofs.Common.{◌∙◌, ℕ, List, ap, sym, string_bytes, Ok, Result, refl}
use Rattle.std.proofs.lemmas.Result.{err_from_is_err_and}
use Rattle.serde_json.specs.View.{view, members_view}
use Rattle.serde_json.proofs.Views.{Entry}
use Rattle.route_json.specs.Fault.{Fault, fault_of}
use Rattle.route_json.specs.Pools.{Slotted, slotted, pools_of, pool_of, pools_in}
use Rattle.route_json.specs.Reading.{named}
use Rattle.route_json.proofs.Each.{entries, named_ok, named_stops, stops}
use Rattle.route_json.proofs.Gives.{passed}
use Rattle.route_json.proofs.Numbers.{pools_go, pools_of_push}
use Rattle.route_json.proofs.pools.Pools.read.Goals as goal

pub returns-in_err-pool : goal.returns-in_err-pool
returns-in_err-pool c =
    let p = err_from_is_err_and c.from_residual.result c.from_residual.ensures.1 in
    let e : Entry = (c.in-Some.name.now, c.in-Some.value.now) in
    rw (p.1, p.2) (passed (fault_of c.in_err-pool.field-0.0) (pool_of c.as_str-text.result.now (view e.1) c.loop-name.servers) (pools_in (members_view c.args.map.now.entries) c.args.servers) c.in_err-pool.ensures.gives (λ f k. stops (named Ok pool_of) _ (entries c.loop-name.name-iterator) (entries c.next.new.self) (string_bytes e.0, view e.1) (pools_of c.loop-name.list.items) c.loop-name.servers f c.loop-name.invariant.reads (ap entries c.in-Some.ensures.steps) (named_stops Ok pool_of (string_bytes e.0) c.as_str-text.result.now (view e.1) c.as_str-text.ensures.value c.loop-name.servers c.as_str-text.result.now f refl k)))

pub loop-name-preserved : goal.loop-name-preserved
loop-name-preserved c =
    let e : Entry = (c.in-Some.name.now, c.in-Some.value.now) in
    let p : List ℕ × Slotted = (string_bytes c.in_ok-name.name, slotted c.in_ok-pool.pool) in
    let pool = c.in_ok-pool.ensures in
    pools_go (named Ok pool_of) _ (entries c.loop-name.name-iterator) (entries c.next.new.self) (string_bytes e.0, view e.1) p (pools_of c.loop-name.list.items) (pools_of c.push.new.self.items) c.loop-name.servers c.read_pool.new.servers c.loop-name.invariant (ap entries c.in-Some.ensures.steps) (named_ok Ok pool_of (string_bytes e.0) c.as_str-text.result.now (view e.1) c.as_str-text.ensures.value c.loop-name.servers p.0 p.1 c.read_pool.new.servers (ap (λ (t : List ℕ). let r : Result (List ℕ) Fault = Ok t in r) (sym c.in_ok-name.ensures.ok)) pool.gives) (ap pools_of c.in_ok-push.ensures.items ∙ pools_of_push c.loop-name.list.items _) pool.good pool.more
