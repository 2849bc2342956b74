-- A command that is under way goes into a plain tree and back.
use Rattle.std.proofs.Common.{◌≡◌, ℕ, ◌+◌, List, [], ◌∷◌, ◌++◌, Option, Some, None, refl, sym, ap, ◌∙◌, subst, arith}
use Rattle.mc_types.specs.declared.ask.Ask.{Ask}
use Rattle.mc_types.specs.declared.call.Origin.{Origin}
use Rattle.mc_types.specs.declared.call.Origin.TheVariants.{Client}
use Rattle.fresh_runs.specs.Calls.{Call}
use Rattle.route_tree.specs.At.{plain_for}
use Rattle.route_tree.specs.Route.{Route}
use Rattle.route_tree.specs.Word.{Given, GivesOnly, Then, PlanWord}
use Rattle.route_job.specs.Given.{given_when_done}
use Rattle.route_job.specs.Parts.{SameAt}
use Rattle.route_job.specs.Rest.{Under, PendingOf, AdvanceBy, Comings, AfterFrame, ask_in, origin_in, ask_under, origin_under, Sure, NeedsHit}
use Rattle.route_job.specs.Settling.{put_down, IsSureBy, AreSure, FramesLead, frames_work, frame_work, pending_work, advance_work_by}
use Rattle.route_job.specs.declared.done.Done.{Done}
use Rattle.route_job.specs.declared.frame.Frame.{Frame}
use Rattle.route_job.specs.declared.frame.Pending.{Pending}
use Rattle.route_job.specs.declared.frame.Pending.TheVariants.{Enter, Back}
use Rattle.route_job.proofs.Same.{same_sym, same_trans, gives_then}
use Rattle.route_job.proofs.Frames.{under_same, under_put, ask_put, origin_put, sure_same, sure_off, sure_put}

-- Trees are seen by the keys of this hash and text.
module _ (hash : ℕ) (text : List ℕ) where
  -- what is under way is parted into a frame and a pending
  pub entered : (fs : List Frame) (a : Ask) (X : ℕ → List Call → Given → Type 0) (fr : Option Frame) (pending : Pending) (b : ℕ) → SameAt b X (AdvanceBy hash text fr pending (ask_under fs a) (origin_under fs Client)) → IsSureBy hash text fr pending (ask_under fs a) (origin_under fs Client) b → Sure hash text fs a Client b X → SameAt b (Under hash text fs a Client X) (Comings hash text (put_down fs fr) a Client pending) × AreSure hash text b a (put_down fs fr) pending
  entered fs a X None pending b same sure s = (
    under_same hash text fs a Client b X (PendingOf hash text pending (ask_under fs a) (origin_under fs Client)) same,
    sure_same hash text fs a Client b X (PendingOf hash text pending (ask_under fs a) (origin_under fs Client)) same s,
  )
  entered fs a X (Some f) pending b same sure s =
      let Y : ℕ → List Call → Given → Type 0 = PendingOf hash text pending (ask_in f (ask_under fs a)) (origin_in f (origin_under fs Client)) in
      let Z : ℕ → List Call → Given → Type 0 = Then Y (AfterFrame hash text f (ask_under fs a) (origin_under fs Client)) in
      let here : SameAt b (Under hash text fs a Client X) (Under hash text (fs ++ f ∷ []) a Client Y) = same_trans b (Under hash text fs a Client X) (Under hash text fs a Client Z) (Under hash text (fs ++ f ∷ []) a Client Y) (under_same hash text fs a Client b X Z same) (same_sym b (Under hash text (fs ++ f ∷ []) a Client Y) (Under hash text fs a Client Z) (under_put hash text fs f a Client b Y)) in
      let needs : Sure hash text (fs ++ f ∷ []) a Client b Y = sure_put hash text fs f a Client b Y (sure_same hash text fs a Client b X Z same s) sure in
      subst (λ x. SameAt b (Under hash text fs a Client X) (Under hash text (fs ++ f ∷ []) a Client (PendingOf hash text pending x (origin_under (fs ++ f ∷ []) Client))) × Sure hash text (fs ++ f ∷ []) a Client b (PendingOf hash text pending x (origin_under (fs ++ f ∷ []) Client))) (sym (ask_put fs f a))
      (subst (λ o. SameAt b (Under hash text fs a Client X) (Under hash text (fs ++ f ∷ []) a Client (PendingOf hash text pending (ask_in f (ask_under fs a)) o)) × Sure hash text (fs ++ f ∷ []) a Client b (PendingOf hash text pending (ask_in f (ask_under fs a)) o)) (sym (origin_put fs f Client))
      (here, needs))

  pub went_in : (fs fs' : List Frame) (a A : Ask) (tree : Route) (fr : Option Frame) (pending : Pending) → A ≡ ask_under fs a → fs' ≡ put_down fs fr → ((origin : Origin) (b : ℕ) → SameAt b (PlanWord (plain_for hash text tree) A origin) (AdvanceBy hash text fr pending A origin)) → ((origin : Origin) (b : ℕ) → IsSureBy hash text fr pending A origin b) → (b : ℕ) → FramesLead hash text b a fs (Enter tree) fs' pending
  went_in fs fs' a A tree fr pending ea ef same sure b s =
      let O = origin_under fs Client in
      let same' = subst (λ x. SameAt b (PlanWord (plain_for hash text tree) x O) (AdvanceBy hash text fr pending x O)) ea (same O b) in
      let sure' = subst (λ x. IsSureBy hash text fr pending x O b) ea (sure O b) in
      subst (λ l. SameAt b (Comings hash text fs a Client (Enter tree)) (Comings hash text l a Client pending) × AreSure hash text b a l pending) (sym ef) (entered fs a (PlanWord (plain_for hash text tree) (ask_under fs a) O) fr pending b same' sure' s)

  pub went_back : (fs fs' : List Frame) (a A : Ask) (f : Frame) (done : Done) (fr : Option Frame) (pending : Pending) → A ≡ ask_under fs a → fs' ≡ put_down fs fr → ((origin : Origin) (b : ℕ) → NeedsHit f (given_when_done done) → SameAt b (AfterFrame hash text f A origin (given_when_done done)) (AdvanceBy hash text fr pending A origin)) → ((origin : Origin) (b : ℕ) → IsSureBy hash text fr pending A origin b) → (b : ℕ) → FramesLead hash text b a (fs ++ f ∷ []) (Back done) fs' pending
  went_back fs fs' a A f done fr pending ea ef same sure b s =
      let O = origin_under fs Client in
      let g = given_when_done done in
      let r = sure_off hash text fs f a Client b (GivesOnly g) s in
      let need = r.1 [] g (refl, refl) in
      let Y : ℕ → List Call → Given → Type 0 = Then (GivesOnly g) (AfterFrame hash text f (ask_under fs a) O) in
      let same' = subst (λ x. SameAt b (AfterFrame hash text f x O g) (AdvanceBy hash text fr pending x O)) ea (same O b need) in
      let sure' = subst (λ x. IsSureBy hash text fr pending x O b) ea (sure O b) in
      let more = same_trans b Y (AfterFrame hash text f (ask_under fs a) O g) (AdvanceBy hash text fr pending (ask_under fs a) O) (gives_then b g (AfterFrame hash text f (ask_under fs a) O)) same' in
      let e = entered fs a Y fr pending b more sure' r.0 in
      subst (λ l. SameAt b (Comings hash text (fs ++ f ∷ []) a Client (Back done)) (Comings hash text l a Client pending) × AreSure hash text b a l pending) (sym ef)
      (same_trans b (Comings hash text (fs ++ f ∷ []) a Client (Back done)) (Under hash text fs a Client Y) (Comings hash text (put_down fs fr) a Client pending) (under_put hash text fs f a Client b (GivesOnly g)) e.0, e.1)

  pub leads_on : (b : ℕ) (a : Ask) (fs : List Frame) (t : Pending) (fs1 : List Frame) (t1 : Pending) (fs2 : List Frame) (t2 : Pending) → FramesLead hash text b a fs t fs1 t1 → FramesLead hash text b a fs1 t1 fs2 t2 → FramesLead hash text b a fs t fs2 t2
  leads_on b a fs t fs1 t1 fs2 t2 h k s =
      let x = h s in
      let y = k x.1 in
      (same_trans b (Comings hash text fs a Client t) (Comings hash text fs1 a Client t1) (Comings hash text fs2 a Client t2) x.0 y.0, y.1)

  -- ---- work

  pub work_put : (fs : List Frame) (f : Frame) → frames_work hash text (fs ++ f ∷ []) ≡ frames_work hash text fs + frame_work hash text f
  work_put [] f = omega arith
  work_put (g ∷ fs) f = let k = work_put fs f in omega (arith, k)

  pub work_down : (fs fs' : List Frame) (fr : Option Frame) (pending : Pending) → fs' ≡ put_down fs fr → frames_work hash text fs' + pending_work hash text pending ≡ frames_work hash text fs + advance_work_by hash text fr pending
  work_down fs fs' None pending e = ap (λ l. frames_work hash text l + pending_work hash text pending) e
  work_down fs fs' (Some f) pending e = let k = ap (frames_work hash text) e ∙ work_put fs f in omega (arith, k)
