-- What may still come of a job, before and after a call.
use Rattle.std.proofs.Common.{◌≡◌, ◌↔◌, ℕ, ◌+◌, List, [], ◌∷◌, refl, sym, ap, ◌∙◌, subst, Result, Ok, Err, OnErr}
use Rattle.mc_types.specs.declared.ask.Ask.{Ask}
use Rattle.mc_types.specs.declared.call.Origin.{Origin}
use Rattle.mc_types.specs.declared.call.Origin.TheVariants.{Client}
use Rattle.mc_types.specs.declared.call.Outcome.{Outcome}
use Rattle.fresh_runs.specs.Calls.{Call}
use Rattle.fresh_runs.specs.Single.{FitsOutcome}
use Rattle.route_tree.specs.Tag.{key_hash}
use Rattle.route_tree.proofs.PlainTrees.{plan_plain}
use Rattle.route_tree.specs.At.{plain_for, tree_at}
use Rattle.route_tree.specs.Route.{Route, IsTree}
use Rattle.route_tree.specs.Plan.{Plan, Server, IsPlan}
use Rattle.route_tree.specs.Word.{Given, GivesOnly, PlanWord, given_by}
use Rattle.route_job.specs.Given.{given_when_done}
use Rattle.route_job.specs.Rest.{Comings, ask_under, origin_under}
use Rattle.route_job.specs.Settling.{IsAtRest, AreSure, FramesLead, pending_work}
use Rattle.route_job.specs.Jobs.{server_of_pending, IsCall, IsReply}
use Rattle.route_job.specs.declared.done.Done.{Done}
use Rattle.route_job.specs.declared.frame.Frame.{Frame}
use Rattle.route_job.specs.declared.frame.Pending.{Pending}
use Rattle.route_job.specs.declared.frame.Pending.TheVariants.{Enter, Call as Calling, Back}
use Rattle.route_job.proofs.Same.{same_refl}
use Rattle.route_job.proofs.Frames.{Later, under_later, sure_later, under_begins}

-- the plain tree of a key keeps the limits
pub good_at : (tree : Route) (key : List ℕ) → IsTree tree → IsPlan (tree_at tree key)
good_at tree key is = plan_plain (key_hash key) key tree is

-- what holds anyway holds after an error
pub on_err : {T E : Type 0} {P : Type 0} (r : Result T E) → P → OnErr r P
on_err (Ok x) p = tt
on_err (Err e) p = p

-- the next call of these frames and this pending, with this outcome
abbrev pub call_in : List Frame → Ask → Pending → Outcome → Call
call_in fs ask pending outcome = record { server = server_of_pending pending; ask = ask_under fs ask; origin = origin_under fs Client; outcome = outcome }

-- after a call of a server there is nothing more
server_later : (s : ℕ) (a : Ask) (o : Origin) (b : ℕ) (outcome : Outcome) (g : Given) → g ≡ given_by b outcome → FitsOutcome a outcome → Later b (record { server = s; ask = a; origin = o; outcome = outcome }) (PlanWord (Server s) a o) (GivesOnly g)
server_later s a o b outcome g e fits = record { none = empty; same = λ calls given. (there calls given, back calls given) }
  where
    call : Outcome → Call
    call x = record { server = s; ask = a; origin = o; outcome = x }

    no_call : (c : Call) → [] ≡ c ∷ [] → ⊥
    no_call c h = cc

    empty : (given : Given) → PlanWord (Server s) a o b [] given → ⊥
    empty given w = no_call (record { server = s; ask = a; origin = o; outcome = w.0 }) w.2

    first_is : (c d : Call) (calls : List Call) → c ∷ calls ≡ d ∷ [] → c ≡ d
    first_is c d calls h = cc

    none_left : (c d : Call) (calls : List Call) → c ∷ calls ≡ d ∷ [] → calls ≡ []
    none_left c d calls h = cc

    there : (calls : List Call) (given : Given) → PlanWord (Server s) a o b (record { server = s; ask = a; origin = o; outcome = outcome } ∷ calls) given → GivesOnly g (b + 1) calls given
    there calls given w =
        let d : Call = record { server = s; ask = a; origin = o; outcome = w.0 } in
        let c : Call = record { server = s; ask = a; origin = o; outcome = outcome } in
        let is : outcome ≡ w.0 = ap (λ (x : Call). x.outcome) (first_is c d calls w.2) in
        (none_left c d calls w.2, w.3 ∙ ap (given_by b) (sym is) ∙ sym e)

    back : (calls : List Call) (given : Given) → GivesOnly g (b + 1) calls given → PlanWord (Server s) a o b (record { server = s; ask = a; origin = o; outcome = outcome } ∷ calls) given
    back calls given w = (outcome, fits, ap (λ l. record { server = s; ask = a; origin = o; outcome = outcome } ∷ l) w.0, w.1 ∙ e)

pub is_reply : (pending : Pending) (done : Done) → pending ≡ Back done → IsReply pending
is_reply pending done e = subst IsReply (sym e) tt

-- without a frame a reply is that of the whole
pub rests_there : (fs : List Frame) (done : Done) → fs ≡ [] → IsAtRest fs (Back done)
rests_there fs done e = subst (λ l. IsAtRest l (Back done)) (sym e) tt

-- Trees are seen by the keys of this hash and text.
module _ (hash : ℕ) (text : List ℕ) where
  pub new_is : (fs fs' : List Frame) (ask : Ask) (tree : Route) (pending : Pending) → fs ≡ [] → ((b : ℕ) → FramesLead hash text b ask fs (Enter tree) fs' pending) → ((calls : List Call) (given : Given) → Comings hash text fs' ask Client pending 0 calls given ↔ PlanWord (plain_for hash text tree) ask Client 0 calls given) × AreSure hash text 0 ask fs' pending
  new_is fs fs' ask tree pending e leads =
      let l = subst (λ x. FramesLead hash text 0 ask x (Enter tree) fs' pending) e (leads 0) in
      let r = l tt in
      ((λ calls given. ((r.0 calls given).1, (r.0 calls given).0)), r.1)

  -- a plain tree that is one call of a server begins with it
  pub calls_at_once : (fs : List Frame) (ask : Ask) (server : ℕ) (p : Plan) → fs ≡ [] → p ≡ Server server → ((calls : List Call) (given : Given) → Comings hash text fs ask Client (Calling server) 0 calls given ↔ PlanWord p ask Client 0 calls given) × AreSure hash text 0 ask fs (Calling server)
  calls_at_once fs ask server p none is =
      subst (λ l. ((calls : List Call) (given : Given) → Comings hash text l ask Client (Calling server) 0 calls given ↔ PlanWord p ask Client 0 calls given) × AreSure hash text 0 ask l (Calling server)) (sym none)
      ((λ calls given. ((λ w. subst (λ (q : Plan). PlanWord q ask Client 0 calls given) (sym is) w), (λ w. subst (λ (q : Plan). PlanWord q ask Client 0 calls given) is w))), tt)

  pub take_is : (fs fs' : List Frame) (ask : Ask) (pending pending' : Pending) (made : ℕ) (done : Done) (outcome : Outcome) → IsCall pending → given_when_done done ≡ given_by made outcome → FitsOutcome (ask_under fs ask) outcome → AreSure hash text made ask fs pending → ((b : ℕ) → FramesLead hash text b ask fs (Back done) fs' pending') → ((calls : List Call) (given : Given) → Comings hash text fs' ask Client pending' (made + 1) calls given ↔ Comings hash text fs ask Client pending made (call_in fs ask pending outcome ∷ calls) given) × AreSure hash text (made + 1) ask fs' pending'
  take_is fs fs' ask (Enter tree) pending' made done outcome is e fits sure leads = absurd is
  take_is fs fs' ask (Back g) pending' made done outcome is e fits sure leads = absurd is
  take_is fs fs' ask (Calling s) pending' made done outcome is e fits sure leads =
      let X : ℕ → List Call → Given → Type 0 = PlanWord (Server s) (ask_under fs ask) (origin_under fs Client) in
      let Y : ℕ → List Call → Given → Type 0 = GivesOnly (given_when_done done) in
      let call = call_in fs ask (Calling s) outcome in
      let later = server_later s (ask_under fs ask) (origin_under fs Client) made outcome (given_when_done done) e fits in
      let l = under_later hash text fs ask Client made call X Y later in
      let r = leads (made + 1) (sure_later hash text fs ask Client made call X Y later sure) in
      ((λ calls given. ((λ w. (l.same calls given).1 ((r.0 calls given).1 w)), (λ w. (r.0 calls given).0 ((l.same calls given).0 w)))), r.1)

  -- where nothing is done, nothing changes
  pub stays : (fs : List Frame) (ask : Ask) (pending : Pending) (b : ℕ) → FramesLead hash text b ask fs pending fs pending
  stays fs ask pending b sure = (same_refl b (Comings hash text fs ask Client pending), sure)

  pub call_work : (pending : Pending) → IsCall pending → pending_work hash text pending ≡ 2
  call_work (Enter tree) is = absurd is
  call_work (Back g) is = absurd is
  call_work (Calling s) is = refl

  pub next_call : (fs : List Frame) (ask : Ask) (pending : Pending) (made s : ℕ) → pending ≡ Calling s → IsCall pending × (s ≡ server_of_pending pending) × ((calls : List Call) (given : Given) → Comings hash text fs ask Client pending made calls given → (outcome : Outcome) × (rest : List Call) × (calls ≡ call_in fs ask pending outcome ∷ rest))
  next_call fs ask pending made s e =
      subst (λ t. IsCall t × (s ≡ server_of_pending t) × ((calls : List Call) (given : Given) → Comings hash text fs ask Client t made calls given → (outcome : Outcome) × (rest : List Call) × (calls ≡ call_in fs ask t outcome ∷ rest))) (sym e)
      (tt, refl, under_begins hash text fs ask Client made (PlanWord (Server s) (ask_under fs ask) (origin_under fs Client)) s (ask_under fs ask) (origin_under fs Client) (λ calls given w. (w.0, [], w.2)))

  -- where the reply is next, nothing more is called
  pub end_is : (fs : List Frame) (ask : Ask) (pending : Pending) (made : ℕ) (done : Done) → pending ≡ Back done → IsAtRest fs pending → (calls : List Call) (given : Given) → Comings hash text fs ask Client pending made calls given ↔ ((calls ≡ []) × (given ≡ given_when_done done))
  end_is [] ask pending made done e rests calls given =
      subst (λ p. Comings hash text [] ask Client p made calls given ↔ ((calls ≡ []) × (given ≡ given_when_done done))) (sym e) ((λ w. w), (λ w. w))
  end_is (f ∷ fs) ask pending made done e rests calls given = absurd (subst (IsAtRest (f ∷ fs)) e rests)
