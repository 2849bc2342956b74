-- The stamp of a call that is out is that of its origin; and what it found is known with its stamp.
use Rattle.std.proofs.Common.{◌≡◌, ℕ, ◌+◌, Bool, true, false, cond, List, [], ◌∷◌, ◌++◌, Option, Some, option_map, inl, inr, refl, sym, ap, ◌∙◌, subst, arith, append-nil, append_assoc}
use Rattle.std.specs.Prelude.{unwrap_or}
use Rattle.mc_types.specs.declared.ask.Dialect.{Dialect}
use Rattle.mc_types.specs.declared.answer.Answer.{Answer}
use Rattle.mc_types.specs.declared.call.Origin.{Origin}
use Rattle.mc_types.specs.declared.call.Origin.TheVariants.{Client, CopyOf}
use Rattle.mc_types.specs.declared.call.Outcome.TheVariants.{Failed}
use Rattle.mc_types.specs.Items.{Item}
use Rattle.fresh_runs.specs.Calls.{Call}
use Rattle.fresh_runs.specs.Fleet.{StampIn}
use Rattle.fresh_runs.specs.Run.{calls_so_far}
use Rattle.fresh_runs.specs.Overlap.{Entry, run_of}
use Rattle.fresh_runs.specs.OverlapState.{LeadsTo}
use Rattle.script_events.specs.Found.{stamp_given, AreFound, IsFound}
use Rattle.script_events.proofs.Found.{shown_found}
use Rattle.route_tree.specs.Sources.{IsSourced, AreAsked}
use Rattle.route_tree.specs.Word.{tree_words}
use Rattle.route_tree.proofs.Sources.{calls_are_asked}
use Rattle.route_job.specs.Rest.{origin_under}
use Rattle.route_job.specs.Jobs.{IsCalling, call_of}
use Rattle.core_commands.specs.declared.command.Command.{Command}
use Rattle.core_proxy.specs.declared.proxy.Core.{Core}
use Rattle.core_proxy.specs.CoreState.{dialect, bars_of, command_at, Beside, owner_by, MayComeOf, FitsBeside, state_of, is_call, has_call_out}
use Rattle.core_commands.proofs.Commands.{call_is_true}
use Rattle.core_proxy.proofs.Commands.{goes_on}

-- ---- whose data a call carries

-- each call that is asked after others carries data with a source among these
source_of : (d : Dialect) (o : Origin) (b : ℕ) (before calls : List Call) (call : Call) (rest : List Call) → AreAsked d o b before (calls ++ call ∷ rest) → IsSourced o b (before ++ calls) call
source_of d o b before [] call rest h = subst (λ l. IsSourced o b l call) (sym (append-nil before)) h.2
source_of d o b before (c ∷ calls) call rest h = subst (λ l. IsSourced o b l call) (append_assoc before (c ∷ []) calls) (source_of d o b (before ++ c ∷ []) calls call rest h.3)

-- where what the calls before it found is known, a copy has the stamp of the item that it copies
stamp_is : (before : List Call) (found : List (Option Item)) (stamps : List (Option ℕ)) (number : ℕ) (call : Call) → AreFound before found stamps → IsSourced Client 0 before call → StampIn found number call.origin (stamp_given stamps number call.origin)
stamp_is before found stamps number call h (inl own) = subst (λ o. StampIn found number o (stamp_given stamps number o)) (sym own) refl
stamp_is before found stamps number call h (inr copy) =
    let at : 0 + copy.0 ≡ copy.0 = omega arith in
    let item = shown_found before found stamps copy.0 copy.1 h copy.3 in
    subst (λ o. StampIn found number o (stamp_given stamps number o)) (sym (copy.2 ∙ ap CopyOf at)) (item.0, item.1, ap (λ o. unwrap_or o 0) item.2)

-- ---- the call that is out

-- the job of a command whose call is out shows a call
calling_of : (a : Command) → has_call_out a ≡ true → IsCalling a.job
calling_of a e = call_is_true a.job.pending (by a.is_out (is_call a.job.pending) e)
  where
    by : (b c : Bool) → cond b c false ≡ true → c ≡ true
    by true c e = e
    by false c e = absurd cc

module _ (core : Core) (beside : Beside) (opening : ℕ → List ℕ → Option Item) (log : List (Entry dialect)) (fits : FitsBeside core beside) (leads : LeadsTo (tree_words beside.at) (bars_of core beside) opening log (state_of core beside))
    (number : ℕ) (a : Command) (was : command_at core number ≡ Some a) (out : has_call_out a ≡ true) where
  -- the calls of a command so far and the one that is out are the first of a word of its plain tree
  in_word : (rest : List Call) × (reply : Answer) × (from : Option ℕ) × tree_words beside.at number a.ask (calls_so_far (run_of log) number ++ call_of a.job Failed ∷ rest) reply from
  in_word =
      let r = goes_on core.limits.sharing (beside.at number a.ask.key) a (fits.to_come number a was) (calling_of a out) Failed tt in
      (r.0, r.1.reply, r.1.from, leads.to_come number (owner_by a) (ap (option_map owner_by) was) (call_of a.job Failed ∷ r.0) r.1.reply r.1.from (subst (λ o. MayComeOf o (call_of a.job Failed ∷ r.0) r.1.reply r.1.from) (sym was) r.2))

  -- what is known of stamps gives the call that is out the stamp of its origin
  pub stamp_in_turn : (stamps : List (Option ℕ)) → AreFound (calls_so_far (run_of log) number) (beside.found number) stamps → StampIn (beside.found number) number (origin_under a.job.frames.items Client) (stamp_given stamps number (origin_under a.job.frames.items Client))
  stamp_in_turn stamps known =
      let w = in_word in
      let calls : List Call = calls_so_far (run_of log) number in
      let asked = calls_are_asked (beside.at number a.ask.key) a.ask (calls ++ call_of a.job Failed ∷ w.0) (record { reply = w.1; from = w.2 }) w.3.0 w.3.1 in
      stamp_is calls (beside.found number) stamps number (call_of a.job Failed) known (source_of a.ask.dialect Client 0 [] calls (call_of a.job Failed) w.0 asked)

-- ---- one call more

-- what a call found is known after those before it
found_more : (calls : List Call) (found : List (Option Item)) (stamps : List (Option ℕ)) (call : Call) (item : Option Item) (stamp : Option ℕ) → AreFound calls found stamps → IsFound call item stamp → AreFound (calls ++ call ∷ []) (found ++ item ∷ []) (stamps ++ stamp ∷ [])
found_more [] [] [] call item stamp h one = (one, tt)
found_more [] [] (s ∷ stamps) call item stamp h one = absurd h
found_more [] (f ∷ found) stamps call item stamp h one = absurd h
found_more (c ∷ calls) [] stamps call item stamp h one = absurd h
found_more (c ∷ calls) (f ∷ found) [] call item stamp h one = absurd h
found_more (c ∷ calls) (f ∷ found) (s ∷ stamps) call item stamp h one = (h.0, found_more calls found stamps call item stamp h.1 one)

-- what calls found is known with one call more, where that is one of the command
pub found_if : (mine : Bool) (calls : List Call) (found : List (Option Item)) (stamps : List (Option ℕ)) (call : Call) (item : Option Item) (stamp : Option ℕ) → AreFound calls found stamps → IsFound call item stamp → AreFound (cond mine (calls ++ call ∷ []) calls) (cond mine (found ++ item ∷ []) found) (cond mine (stamps ++ stamp ∷ []) stamps)
found_if true calls found stamps call item stamp h one = found_more calls found stamps call item stamp h one
found_if false calls found stamps call item stamp h one = h

-- the last of equal lists is equal
pub same_last : (found : List (Option Item)) (x y : Option Item) → found ++ x ∷ [] ≡ found ++ y ∷ [] → x ≡ y
same_last [] x y e = cc
same_last (f ∷ found) x y e = same_last found x y (rest_of f (found ++ x ∷ []) (found ++ y ∷ []) e)
  where
    rest_of : (f : Option Item) (xs ys : List (Option Item)) → f ∷ xs ≡ f ∷ ys → xs ≡ ys
    rest_of f xs ys e = cc
