-- Reading a configuration after servers that are known: these stand first in its own.
use Rattle.std.proofs.Common.{◌≡◌, ℕ, ◌+◌, ◌≤◌, ◌==◌, nat_lt, List, [], ◌∷◌, ◌++◌, length, Option, Some, None, Result, Ok, Err, refl, sym, ap, ◌∙◌, arith, inl, inr, append_assoc, length-append, codes}
use Rattle.std.specs.Prelude.{position, if◌then◌else◌}
use Rattle.std.specs.Str.{bytes_eq}
use Rattle.std.proofs.lemmas.Bool.{cases_Bool}
use Rattle.std.proofs.lemmas.List.{append-nil}
use Rattle.serde_json.specs.Data.{Data, null, boolean, number, string, array, object, Members}
use Rattle.serde_json.specs.Find.{get}
use Rattle.route_json.specs.declared.names.holders.Holder.TheVariants as holders
use Rattle.route_json.specs.ServerTexts.{server_in}
use Rattle.route_json.specs.ServerNames.{have_epochs}
use Rattle.route_json.specs.Fault.{Fault}
use Rattle.route_json.specs.Fields.{only, value_or, list_or, object_or}
use Rattle.route_json.specs.Servers.{Addresses, numbered_at, address_number, server_or}
use Rattle.route_json.specs.Names.{limit_fields}
use Rattle.route_json.specs.Limits.{limits_or}
use Rattle.route_json.specs.Pools.{server_named, few_slots, servers_in, pool_list, slots_or, pool_object, pool_of, pools_in, Pools, in_epochs, none_over, first_over_in}
use Rattle.route_json.specs.Reading.{Reading, then_read, ◌>>=◌, pure, each, named, members, values}
use Rattle.route_json.specs.Configs.{tree_of, object_after, config_after, read_after}

-- the list begins with the one before it
pub record Begins (used new : Addresses) : Type 0 where
  pub more : Addresses
  pub is : new ≡ used ++ more

same : (used : Addresses) → Begins used used
same used = record { more = []; is = sym (append-nil used) }

further : (a b c : Addresses) → Begins a b → Begins b c → Begins a c
further a b c h k = record { more = h.more ++ k.more; is = k.is ∙ ap (λ (l : Addresses). l ++ k.more) h.is ∙ append_assoc a h.more k.more }

pub begins_more : (used new : Addresses) → Begins used new → length used ≤ length new
begins_more used new h = omega (arith, ap length h.is, length-append used h.more)

-- of what a reading gives
abbrev pub Adds_to : {A : Type 0} → Addresses → Result (A × Addresses) Fault → Type 0
Adds_to known (Ok x) = Begins known x.1
Adds_to known (Err e) = Unit {0}

-- a reading adds at most to what is known
abbrev Adds : {A : Type 0} → Reading Addresses A → Type 0
Adds r = (known : Addresses) → Adds_to known (r known)

adds_on : {B : Type 0} (a b : Addresses) (o : Result (B × Addresses) Fault) → Begins a b → Adds_to b o → Adds_to a o
adds_on a b (Ok y) h k = further a b y.1 h k
adds_on a b (Err e) h k = tt

then_adds_to : {A B : Type 0} (known : Addresses) (o : Result (A × Addresses) Fault) (f : A → Reading Addresses B) → Adds_to known o → ((a : A) → Adds (f a)) → Adds_to known (then_read o f)
then_adds_to known (Ok x) f h k = adds_on known x.1 (f x.0 x.1) h (k x.0 x.1)
then_adds_to known (Err e) f h k = tt

then_adds : {A B : Type 0} (r : Reading Addresses A) (f : A → Reading Addresses B) → Adds r → ((a : A) → Adds (f a)) → Adds (r >>= f)
then_adds r f h k = λ known. then_adds_to known (r known) f (h known) k

pure_adds : {A : Type 0} (o : Result A Fault) → Adds (pure {S = Addresses} o)
pure_adds (Ok a) = same
pure_adds (Err e) = λ known. tt

each_adds : {X A : Type 0} (read : X → Reading Addresses A) → ((x : X) → Adds (read x)) → (xs : List X) → Adds (each read xs)
each_adds read h [] = same
each_adds read h (x ∷ xs) = then_adds (read x) _ (h x) (λ a. then_adds (each read xs) _ (each_adds read h xs) (λ more. same))

numbered_adds : (o : Option ℕ) (pool a : List ℕ) → Adds (numbered_at o pool a)
numbered_adds (Some n) pool a = same
numbered_adds None pool a = λ known. elim (cases_Bool (nat_lt (length known) 4294967295)) [
  | inl e ↦ rw e (record { more = a ∷ []; is = refl })
  | inr e ↦ rw e tt
]

server_adds : (pool text : List ℕ) (o : Option (List ℕ × ℕ)) → Adds (server_or pool text o)
server_adds pool text (Some s) = then_adds (address_number pool s.0) _ (λ known. numbered_adds (position (bytes_eq s.0) known) pool s.0 known) (λ n. same)
server_adds pool text None = λ known. tt

server_of_adds : (pool : List ℕ) (d : Data) → Adds (server_named pool d)
server_of_adds pool (string text) = server_adds pool text (server_in text)
server_of_adds pool null = λ known. tt
server_of_adds pool (boolean b) = λ known. tt
server_of_adds pool (number n) = λ known. tt
server_of_adds pool (array ds) = λ known. tt
server_of_adds pool (object ms) = λ known. tt

servers_add : (pool : List ℕ) (ds : List Data) → Adds (servers_in pool ds)
servers_add pool ds = then_adds (each (server_named pool) ds) _ (each_adds (server_named pool) (server_of_adds pool) ds) (λ servers. pure_adds (few_slots pool servers))

list_adds : (pool : List ℕ) (ds : List Data) → Adds (pool_list pool ds)
list_adds pool ds = λ known. elim (cases_Bool (length ds == 0)) [
  | inl e ↦ rw e tt
  | inr some ↦ elim (cases_Bool (nat_lt 1024 (length ds))) [
    | inl e ↦ rw (some, e) tt
    | inr few ↦ rw (some, few) (servers_add pool ds known)
  ]
]

pool_object_adds : (name : List ℕ) (d : Data) → Adds (pool_object name d)
pool_object_adds name d = then_adds (pure (only holders.Pool d)) _ (pure_adds (only holders.Pool d)) (λ u.
    then_adds (pure (list_or (codes "servers") (get (codes "servers") d))) _ (pure_adds _) (λ ds.
    then_adds (pool_list name (values ds)) _ (list_adds name (values ds)) (λ servers.
    then_adds (pure (slots_or servers (get (codes "slots") d))) _ (pure_adds _) (λ slots.
    then_adds (pure (limits_or limit_fields d)) _ (pure_adds _) (λ w. same)))))

pool_adds : (name : List ℕ) (d : Data) → Adds (pool_of name d)
pool_adds name (object ms) = pool_object_adds name (object ms)
pool_adds name null = λ known. tt
pool_adds name (boolean b) = λ known. tt
pool_adds name (number n) = λ known. tt
pool_adds name (string text) = λ known. tt
pool_adds name (array ds) = λ known. tt

pools_add : (ms : Members) → Adds (pools_in ms)
pools_add ms = each_adds (named Ok pool_of) (λ m. λ known. then_adds (pool_of m.0 m.1) _ (pool_adds m.0 m.1) (λ a. same) known) (members ms)

epochs_add : (pools : Pools) → Adds (in_epochs pools)
epochs_add pools = λ known. pure_adds (if have_epochs known then none_over (first_over_in known pools) else Ok tt) known

object_adds : (d : Data) → Adds (object_after d)
object_adds d = then_adds (pure (only holders.Config d)) _ (pure_adds _) (λ u.
    then_adds (pure (value_or (codes "pools") (get (codes "pools") d))) _ (pure_adds _) (λ p.
    then_adds (pure (value_or (codes "route") (get (codes "route") d))) _ (pure_adds _) (λ root.
    then_adds (pure (object_or (codes "pools") (get (codes "pools") d))) _ (pure_adds _) (λ ms.
    then_adds (pools_in ms) _ (pools_add ms) (λ pools.
    then_adds (in_epochs pools) _ (epochs_add pools) (λ v. pure_adds (tree_of pools root)))))))

config_adds : (d : Data) → Adds (config_after d)
config_adds (object ms) = object_adds (object ms)
config_adds null = λ known. tt
config_adds (boolean b) = λ known. tt
config_adds (number n) = λ known. tt
config_adds (string text) = λ known. tt
config_adds (array ds) = λ known. tt

pub read_adds : (used : Addresses) (d : Option Data) → Adds_to used (read_after used d)
read_adds used None = tt
read_adds used (Some d) = config_adds d used
