-- A call of the cache is a call of a server: it fits, agrees, and leaves what the definition of a call says.
use Rattle.std.proofs.Common.{◌≡◌, ℕ, ◌<◌, ◌^◌, ◌&&◌, true, false, cond, List, [], ◌∷◌, Option, Some, None, option_map, IfSome, refl, sym, ap, subst, ◌∙◌, eqb}
use Rattle.std.specs.List.{IsDistinct}
use Rattle.std.specs.Map.{keys_of}
use Rattle.std.proofs.lemmas.Bool.{cond_both}
use Rattle.std.proofs.lemmas.Slice.Eq.{bytes_eq-Decides}
use Rattle.std.specs.Prelude.{filter, Result, Ok, Err, IfOk, OnOk, OnErr}
use Rattle.mc_types.specs.Asks.{IsAsk, OptionIs, classic_shape, meta_shape, HasShapeOf, shape_of}
use Rattle.mc_types.specs.Items.{Item, after_call}
use Rattle.mc_types.specs.Fits.{Fits, FitsIn, IsAnswer}
use Rattle.mc_types.specs.Agree.{AnswerAgrees}
use Rattle.mc_types.specs.declared.ask.Ask.{Ask}
use Rattle.mc_types.specs.declared.ask.Op.{Op}
use Rattle.mc_types.specs.declared.ask.Op.TheVariants.{Delete, Incr, Decr}
use Rattle.mc_types.specs.declared.ask.Dialect.{Dialect}
use Rattle.mc_types.specs.declared.ask.Dialect.TheVariants.{Classic, Meta}
use Rattle.mc_types.specs.declared.answer.Answer.{Answer}
use Rattle.cache_server.specs.declared.item.Entry.{Entry}
use Rattle.cache_server.specs.declared.decision.Verdict.TheVariants as verdicts
use Rattle.cache_server.specs.declared.decision.Change.{Change}
use Rattle.cache_server.specs.declared.decision.Change.TheVariants as changes
use Rattle.cache_server.specs.declared.decision.Decision.{Decision}
use Rattle.cache_server.specs.Contents.{Contents, Key, same_key, entry_held, is_expired, live, at_moment, losing, storing_item, opening, last_number}
use Rattle.cache_server.specs.Sound.{IsEntry, IsChange, AreEntries}
use Rattle.cache_server.specs.Table.{decided, settled, decided_in, finds, needs_number, Serves, answer_in}
use Rattle.cache_server.specs.Held.{without, item_of, holds, expired_keys, pushed_by_new, pushed_out, keys_lost_by, IsServerCall, IsHold, IsLoss}
use Rattle.cache_server.proofs.SoundLemmas.{Contains-live}
use Rattle.cache_server.proofs.TableLemmas.{lookup_entry_is, decided_sound}
use Rattle.cache_server.proofs.PartLemmas.{parts_live, held_in_parts, distinct_live, without_append, without_equal}
use Rattle.cache_server.proofs.ChangeLemmas.{shown, left, changed_own, changed_other, pushed_own}
use Rattle.cache_server.proofs.RowLemmas.{IsRow, refused, absent_row, held_row}
use Rattle.cache_server.proofs.MetaRowLemmas.{IsMetaRow, met, meta_refused, meta_absent, meta_held}

none_at : (ask : Ask) (op at : Op) → op ≡ at → OptionIs (classic_shape op).cas ask.cas → OptionIs (classic_shape at).cas ask.cas
none_at ask op at e h = subst (λ (o : Op). OptionIs (classic_shape o).cas ask.cas) e h

-- what a call that was answered so has to keep, in a dialect
pub record IsServed (dialect : Dialect) (ask : Ask) (stamp : ℕ) (change : Change) (answer : Answer) (before : Option Item) : Type 0 where
  pub ranges : IsAnswer answer
  pub listed : FitsIn dialect ask answer
  pub agrees : AnswerAgrees ask answer before
  pub left_is : left change before ≡ after_call ask stamp answer 0 before

module _ (now stamp counter : ℕ) (ask : Ask) where
  abbrev pub Answered : Dialect → Option Entry → Decision → Type 0
  Answered dialect o d = IsServed dialect ask stamp d.change (answer_in dialect now ask counter o d) (shown o)

  classic_row : (o : Option Entry) → OptionIs (classic_shape ask.op).cas ask.cas → IfSome o IsEntry → IsRow ask stamp ask.op (decided now stamp ask o) (shown o)
  classic_row None cas h = absent_row ask stamp now ask.op
  classic_row (Some entry) cas h =
      held_row ask stamp now entry ask.op h (λ e. none_at ask ask.op Delete e cas) (λ e. none_at ask ask.op Incr e cas) (λ e. none_at ask ask.op Decr e cas)

  meta_row : (o : Option Entry) → HasShapeOf ask (meta_shape ask.op) → IfSome o IsEntry → IsChange (decided now stamp ask o).change
      → IsMetaRow ask stamp ask.op (decided now stamp ask o).change (met now counter ask o (decided now stamp ask o)) (shown o)
  meta_row None shape h change = meta_absent ask stamp now counter ask.op shape change
  meta_row (Some entry) shape h change = meta_held ask stamp now counter entry ask.op shape h change

  row_of : (dialect : Dialect) (o : Option Entry) → HasShapeOf ask (shape_of dialect ask.op) → IfSome o IsEntry → IsChange (decided now stamp ask o).change → Answered dialect o (decided now stamp ask o)
  row_of Classic o shape h change = let row = classic_row o shape.cas h in record { ranges = row.ranges; listed = row.listed; agrees = row.agrees; left_is = row.left_is }
  row_of Meta o shape h change = let row = meta_row o shape h change in record { ranges = row.ranges; listed = row.listed; agrees = row.agrees; left_is = row.left_is }

  refused_row : (dialect : Dialect) (o : Option Entry) → Answered dialect o (finds verdicts.OutOfMemory)
  refused_row Classic o = let row = refused ask stamp ask.op (shown o) in record { ranges = row.ranges; listed = row.listed; agrees = row.agrees; left_is = row.left_is }
  refused_row Meta o = let row = meta_refused ask stamp now counter ask.op o in record { ranges = row.ranges; listed = row.listed; agrees = row.agrees; left_is = row.left_is }

  row_settled : (dialect : Dialect) (o : Option Entry) (d : Decision) → Answered dialect o d → Answered dialect o (settled counter d)
  row_settled dialect o d row =
      cond_both (needs_number d.change && eqb counter last_number) (finds verdicts.OutOfMemory) d (Answered dialect o)
      (λ yes. refused_row dialect o) (λ no. row)

stamp_of : (o : Option Entry) → option_map (λ (entry : Entry). entry.item.stamp) o ≡ option_map (λ (item : Item). item.stamp) (shown o)
stamp_of None = refl
stamp_of (Some entry) = refl

pub call_is : (now stamp : ℕ) (ask : Ask) (old : Contents) (answer : Answer) (found : Option ℕ) (new : Contents)
    → now < 2 ^ 63 → IsAsk ask → AreEntries old.entries → IsDistinct same_key (keys_of old.entries) → Serves now stamp ask (at_moment now old) answer found new
    → IsServerCall stamp ask (holds old) (keys_lost_by now stamp ask old) answer found (holds new)
call_is now stamp ask old answer found new lt is are distinct serves =
    let c : Contents = at_moment now old in
    let d : Decision = decided_in now stamp ask c in
    let differ : IsDistinct same_key (keys_of c.entries) = distinct_live now old.entries distinct in
    let are_then : AreEntries c.entries = λ e at. are e (Contains-live now old.entries e at) in
    let entry_is : IfSome (entry_held c ask.key) IsEntry = lookup_entry_is ask.key c.entries are_then in
    let row : Answered now stamp c.counter ask ask.dialect (entry_held c ask.key) d =
    row_settled now stamp c.counter ask ask.dialect (entry_held c ask.key) (decided now stamp ask (entry_held c ask.key))
    (row_of now stamp c.counter ask ask.dialect (entry_held c ask.key) is.shape entry_is (decided_sound now stamp ask lt is (entry_held c ask.key) entry_is)) in
    let gone : (q : Key) → holds c q ≡ without (expired_keys now old.entries) (holds old) q =
    λ q. held_in_parts old.entries (live now old.entries) (filter (is_expired now) old.entries) q distinct (parts_live now old.entries) in
    let lost : (q : Key) → without (keys_lost_by now stamp ask old) (holds old) q ≡ without (pushed_out c ask.key d.change) (holds c) q =
    λ q. without_append (pushed_out c ask.key d.change) (expired_keys now old.entries) (holds old) q
    ∙ sym (without_equal (pushed_out c ask.key d.change) (holds c) (λ k. without (expired_keys now old.entries) (holds old) k) q (gone q)) in
    let own : without (keys_lost_by now stamp ask old) (holds old) ask.key ≡ holds c ask.key = lost ask.key ∙ pushed_own c ask.key d.change in
    let before : Option Item = holds c ask.key in
    let after : holds new ask.key ≡ after_call ask stamp answer 0 (holds c ask.key) =
    ap (λ (n : Contents). holds n ask.key) serves.contents ∙ changed_own c ask.key d.change differ ∙ row.left_is
    ∙ ap (λ (a : Answer). after_call ask stamp a 0 (holds c ask.key)) (sym serves.answer_is) in
    record {
      fits = subst (Fits ask) (sym serves.answer_is) (record { ranges = row.ranges; listed = row.listed });
      agrees = subst (λ (o : Option Item). AnswerAgrees ask answer o) (sym own) (subst (λ (a : Answer). AnswerAgrees ask a (holds c ask.key)) (sym serves.answer_is) row.agrees);
      found_is = serves.found_is ∙ stamp_of (entry_held c ask.key) ∙ ap (option_map (λ (item : Item). item.stamp)) (sym own);
      after = λ q. (elim (same_key ask.key q) as (λ t. same_key ask.key q ≡ t
          → holds new q ≡ cond t (after_call ask stamp answer 0 (without (keys_lost_by now stamp ask old) (holds old) q)) (without (keys_lost_by now stamp ask old) (holds old) q)) [
            | true ↦ λ t.
                let equal : ask.key ≡ q = (bytes_eq-Decides ask.key q).0 t in
                subst (λ (k : Key). holds new k ≡ after_call ask stamp answer 0 (without (keys_lost_by now stamp ask old) (holds old) k)) equal
                (after ∙ ap (after_call ask stamp answer 0) (sym own))
            | false ↦ λ t. ap (λ (n : Contents). holds n q) serves.contents ∙ changed_other c ask.key q d.change t differ ∙ sym (lost q)
          ]) refl;
    }

-- after a lost key
pub loss_is : (c : Contents) (key : Key) → IsDistinct same_key (keys_of c.entries) → IsLoss (key ∷ []) c (losing c key)
loss_is c key distinct = λ q. (elim (same_key key q) as (λ t. same_key key q ≡ t → holds (losing c key) q ≡ cond t None (holds c q)) [
  | true ↦ λ t.
      let equal : key ≡ q = (bytes_eq-Decides key q).0 t in
      subst (λ (k : Key). holds (losing c key) k ≡ None) equal (changed_own c key changes.Removes distinct)
  | false ↦ λ t. changed_other c key q changes.Removes t distinct
]) refl

-- after data that are held from the start
pub hold_is : (c : Contents) (key : Key) (body : List ℕ) → IsDistinct same_key (keys_of c.entries) → IsHold key body c (storing_item c key (opening body))
hold_is c key body distinct = λ q. (elim (same_key key q) as (λ t. same_key key q ≡ t
    → holds (storing_item c key (opening body)) q ≡ cond t (Some (item_of (opening body))) (without (pushed_by_new c (entry_held c key)) (holds c) q)) [
      | true ↦ λ t.
          let equal : key ≡ q = (bytes_eq-Decides key q).0 t in
          subst (λ (k : Key). holds (storing_item c key (opening body)) k ≡ Some (item_of (opening body))) equal (changed_own c key (changes.Stores (opening body)) distinct)
      | false ↦ λ t. changed_other c key q (changes.Stores (opening body)) t distinct
    ]) refl

-- after what has expired is gone
pub expired_is : (now : ℕ) (c : Contents) → IsDistinct same_key (keys_of c.entries) → IsLoss (expired_keys now c.entries) c (at_moment now c)
expired_is now c distinct = λ q. held_in_parts c.entries (live now c.entries) (filter (is_expired now) c.entries) q distinct (parts_live now c.entries)

pub if_ok : {A E : Type 0} (r : Result A E) (P Q : A → Type 0) → ((a : A) → P a → Q a) → IfOk r P → IfOk r Q
if_ok (Ok a) P Q on p = on a p
if_ok (Err e) P Q on p = tt

pub on_ok : {A E : Type 0} (r : Result A E) (P Q : Type 0) → (P → Q) → OnOk r P → OnOk r Q
on_ok (Ok a) P Q on p = on p
on_ok (Err e) P Q on p = tt

pub on_err : {A E : Type 0} (r : Result A E) (P Q : Type 0) → (P → Q) → OnErr r P → OnErr r Q
on_err (Ok a) P Q on p = tt
on_err (Err e) P Q on p = on p
