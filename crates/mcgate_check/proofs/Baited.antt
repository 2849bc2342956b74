-- The server of a refusal run alone holds something of its key before the run.
use Rattle.std.proofs.Common.{◌≡◌, ◌≢◌, ℕ, zero, suc, true, false, List, [], ◌∷◌, ◌++◌, Some, None, ⊎_elim, refl, sym, ap, ◌∙◌, nat_eq, bytes_eq}
use Rattle.std.proofs.lemmas.Bool.{eqb-true, eq-eqb}
use Rattle.std.proofs.lemmas.Slice.Eq.{bytes_eq-Decides}
use Rattle.std.specs.List.{IsDistinct}
use Rattle.std.specs.Map.{keys_of}
use Rattle.fresh_runs.specs.Log.{Scripted, Piece, Fail, Hold, Before}
use Rattle.cache_server.specs.Contents.{Contents, empty, same_key, storing_item, opening}
use Rattle.cache_server.specs.Held.{holds}
use Rattle.cache_server.proofs.CallLemmas.{hold_is}
use Rattle.script_events.specs.Limits.{capacity}
use Rattle.gate_coverage.proofs.Choices.{bool_is}
use Rattle.script_events.specs.Opening.{put_by, put_by_all, opening_of}
use Rattle.gate_gaps.specs.Bait.{bait, IsBaited}
use Rattle.gate_gaps.specs.Scripts.{fail_lines, leaking_script}
use Rattle.gate_gaps.proofs.Trying.{pick_true, pick_false}

nothing_distinct : IsDistinct same_key (keys_of (empty capacity).entries)
unfolding IsDistinct
nothing_distinct = tt

put_append : (s : ℕ) (c : Contents) (xs ys : List Scripted) → put_by_all s c (xs ++ ys) ≡ put_by_all s (put_by_all s c xs) ys
put_append s c [] ys = refl
put_append s c (x ∷ xs) ys = put_append s (put_by s c x) xs ys

fails_put : (s : ℕ) (c : Contents) (n : ℕ) → put_by_all s c (fail_lines n) ≡ c
fails_put s c zero = refl
fails_put s c (suc n) = put_append s c (fail_lines n) (Fail (suc n) Before ∷ []) ∙ fails_put s c n

module _ (s : ℕ) (key : List ℕ) (i j : ℕ) (text1 text2 : List ℕ) where
  put_script : (t : ℕ) → put_by_all t (empty capacity) (leaking_script s key i text1 j text2) ≡ put_by t (empty capacity) (Hold s key (49 ∷ []))
  put_script t =
      let c = put_by t (empty capacity) (Hold s key (49 ∷ [])) in
      let l0 = Hold s key (49 ∷ []) ∷ [] in
      let l1 = l0 ++ fail_lines i in
      let l2 = l1 ++ Piece 0 text1 ∷ [] in
      let l3 = l2 ++ fail_lines j in
      put_append t (empty capacity) l3 (Piece 0 text2 ∷ [])
      ∙ (put_append t (empty capacity) l2 (fail_lines j)
      ∙ (fails_put t (put_by_all t (empty capacity) l2) j
      ∙ (put_append t (empty capacity) l1 (Piece 0 text1 ∷ [])
      ∙ (put_append t (empty capacity) l0 (fail_lines i)
      ∙ fails_put t c i))))

  pub baited : IsBaited (opening_of (leaking_script s key i text1 j text2)) s key
  baited = (
    ap (λ (c : Contents). holds c key) (put_script s ∙ pick_true (nat_eq s s) (storing_item (empty capacity) key (opening (49 ∷ []))) (empty capacity) (eq-eqb s s refl))
        ∙ (hold_is (empty capacity) key (49 ∷ []) nothing_distinct key
        ∙ pick_true (bytes_eq key key) (Some bait) None ((bytes_eq-Decides key key).1 refl)),
    λ t other.
        ap (λ (c : Contents). holds c key) (put_script t ∙ pick_false (nat_eq s t) (storing_item (empty capacity) key (opening (49 ∷ []))) (empty capacity) (not_same t other)),
  )
    where
      not_same : (t : ℕ) → t ≢ s → nat_eq s t ≡ false
      not_same t other = ⊎_elim (λ (is : nat_eq s t ≡ true). absurd (other (sym (eqb-true s t is)))) (λ no. no) (bool_is (nat_eq s t))
