-- Each row of the table fits its ask, agrees with what is held, and leaves what the definition of a call says.
use Rattle.std.proofs.Common.{◌≡◌, ℕ, ◌<◌, ◌^◌, Bool, true, false, cond, List, ◌++◌, length, Option, Some, None, is_some, IfSome, refl, sym, ap, arith, ltb, append-nil}
use Rattle.std.specs.Fmt.{decimal}
use Rattle.mc_types.specs.Asks.{data_limit}
use Rattle.mc_types.specs.ErrorTexts.{own_text}
use Rattle.mc_types.specs.declared.error_text.OwnText.{OwnText}
use Rattle.mc_types.specs.declared.error_text.OwnText.TheVariants as texts
use Rattle.mc_types.specs.Items.{Item, number_made, removes, is_done, after_done}
use Rattle.mc_types.specs.Fits.{IsErrorText, IsAnswer, FitsClassic}
use Rattle.mc_types.specs.Agree.{AgreesAs}
use Rattle.mc_types.specs.declared.ask.Ask.{Ask}
use Rattle.mc_types.specs.declared.ask.Op.{Op}
use Rattle.mc_types.specs.declared.ask.Op.TheVariants.{Get, Gat, Set, Add, Replace, Append, Prepend, Cas, Delete, Incr, Decr, Touch}
use Rattle.mc_types.specs.declared.answer.Answer.{Answer}
use Rattle.cache_server.specs.declared.item.Entry.{Entry}
use Rattle.cache_server.specs.declared.decision.Verdict.TheVariants.{OutOfMemory}
use Rattle.cache_server.specs.declared.decision.Decision.{Decision}
use Rattle.cache_server.specs.Sound.{IsEntry}
use Rattle.cache_server.specs.Table.{classic_answer, shown_cas, finds, joins, counts_to, is_other, where_absent, where_held}
use Rattle.cache_server.specs.Held.{item_of}
use Rattle.cache_server.proofs.TableLemmas.{counted_below}
use Rattle.cache_server.proofs.ChangeLemmas.{left}

-- what a call leaves, by its operation
abbrev pub after_as : Op → Ask → ℕ → Answer → Option Item → Option Item
after_as op ask stamp answer before = cond (removes op answer) None (cond (is_done answer) (after_done op ask stamp 0 before) before)

pub record IsRow (ask : Ask) (stamp : ℕ) (op : Op) (d : Decision) (before : Option Item) : Type 0 where
  pub ranges : IsAnswer (classic_answer ask.with_cas d.verdict)
  pub listed : FitsClassic op ask.with_cas (classic_answer ask.with_cas d.verdict)
  pub agrees : AgreesAs op ask (classic_answer ask.with_cas d.verdict) before
  pub left_is : left d.change before ≡ after_as op ask stamp (classic_answer ask.with_cas d.verdict) before

pub short_text : (text : OwnText) → IsErrorText (own_text text)
short_text texts.CallFailed = record { short = omega arith; bytes = refl }
short_text texts.ErrorRoute = record { short = omega arith; bytes = refl }
short_text texts.OutOfMemory = record { short = omega arith; bytes = refl }
short_text texts.TooLarge = record { short = omega arith; bytes = refl }
short_text texts.NotNumeric = record { short = omega arith; bytes = refl }

abbrev shown : Entry → Option Item
shown entry = Some (item_of entry.item)

module _ (ask : Ask) (stamp : ℕ) where
  -- an error line fits every ask, and changes nothing
  pub refused : (op : Op) (before : Option Item) → IsRow ask stamp op (finds OutOfMemory) before
  refused Get before = record { ranges = short_text texts.OutOfMemory; listed = refl; agrees = tt; left_is = refl }
  refused Gat before = record { ranges = short_text texts.OutOfMemory; listed = refl; agrees = tt; left_is = refl }
  refused Set before = record { ranges = short_text texts.OutOfMemory; listed = refl; agrees = tt; left_is = refl }
  refused Add before = record { ranges = short_text texts.OutOfMemory; listed = refl; agrees = tt; left_is = refl }
  refused Replace before = record { ranges = short_text texts.OutOfMemory; listed = refl; agrees = tt; left_is = refl }
  refused Append before = record { ranges = short_text texts.OutOfMemory; listed = refl; agrees = tt; left_is = refl }
  refused Prepend before = record { ranges = short_text texts.OutOfMemory; listed = refl; agrees = tt; left_is = refl }
  refused Cas before = record { ranges = short_text texts.OutOfMemory; listed = refl; agrees = tt; left_is = refl }
  refused Delete before = record { ranges = short_text texts.OutOfMemory; listed = refl; agrees = tt; left_is = refl }
  refused Incr before = record { ranges = short_text texts.OutOfMemory; listed = refl; agrees = tt; left_is = refl }
  refused Decr before = record { ranges = short_text texts.OutOfMemory; listed = refl; agrees = tt; left_is = refl }
  refused Touch before = record { ranges = short_text texts.OutOfMemory; listed = refl; agrees = tt; left_is = refl }

  module _ (now : ℕ) where
    pub absent_row : (op : Op) → IsRow ask stamp op (where_absent now stamp ask op) None
    absent_row Get = record { ranges = tt; listed = tt; agrees = refl; left_is = refl }
    absent_row Gat = record { ranges = tt; listed = tt; agrees = refl; left_is = refl }
    absent_row Set = record { ranges = tt; listed = tt; agrees = tt; left_is = refl }
    absent_row Add = record { ranges = tt; listed = tt; agrees = refl; left_is = refl }
    absent_row Replace = record { ranges = tt; listed = tt; agrees = refl; left_is = refl }
    absent_row Append = record { ranges = tt; listed = tt; agrees = refl; left_is = refl }
    absent_row Prepend = record { ranges = tt; listed = tt; agrees = refl; left_is = refl }
    absent_row Cas = record { ranges = tt; listed = tt; agrees = refl; left_is = refl }
    absent_row Delete = record { ranges = tt; listed = tt; agrees = refl; left_is = refl }
    absent_row Incr = record { ranges = tt; listed = tt; agrees = refl; left_is = refl }
    absent_row Decr = record { ranges = tt; listed = tt; agrees = refl; left_is = refl }
    absent_row Touch = record { ranges = tt; listed = tt; agrees = refl; left_is = refl }

    cas_shown : (with_cas : Bool) (cas : ℕ) → cas < 2 ^ 64 → (is_some (shown_cas with_cas cas) ≡ with_cas) × IfSome (shown_cas with_cas cas) (λ n. n < 2 ^ 64)
    cas_shown true cas lt = (refl, lt)
    cas_shown false cas lt = (refl, tt)

    append_row : (entry : Entry) → IsRow ask stamp Append (joins entry.item (entry.item.body ++ ask.body)) (shown entry)
    append_row entry = (elim (ltb data_limit (length (entry.item.body ++ ask.body))) as (λ t. ltb data_limit (length (entry.item.body ++ ask.body)) ≡ t → IsRow ask stamp Append (joins entry.item (entry.item.body ++ ask.body)) (shown entry)) [
      | true ↦ λ t. rw t (record { ranges = short_text texts.TooLarge; listed = refl; agrees = tt; left_is = refl })
      | false ↦ λ t. rw t (record { ranges = tt; listed = tt; agrees = refl; left_is = refl })
    ]) refl

    prepend_row : (entry : Entry) → IsRow ask stamp Prepend (joins entry.item (ask.body ++ entry.item.body)) (shown entry)
    prepend_row entry = (elim (ltb data_limit (length (ask.body ++ entry.item.body))) as (λ t. ltb data_limit (length (ask.body ++ entry.item.body)) ≡ t → IsRow ask stamp Prepend (joins entry.item (ask.body ++ entry.item.body)) (shown entry)) [
      | true ↦ λ t. rw t (record { ranges = short_text texts.TooLarge; listed = refl; agrees = tt; left_is = refl })
      | false ↦ λ t. rw t (record { ranges = tt; listed = tt; agrees = refl; left_is = refl })
    ]) refl

    incr_to : (entry : Entry) (o : Option ℕ) → number_made ask entry.item.body ≡ o → IfSome o (λ n. n < 2 ^ 64) → IsRow ask stamp Incr (counts_to now ask entry.item o) (shown entry)
    incr_to entry None e lt = record { ranges = short_text texts.NotNumeric; listed = refl; agrees = tt; left_is = refl }
    incr_to entry (Some n) e lt = record {
      ranges = lt;
      listed = tt;
      agrees = (item_of entry.item, refl, e);
      left_is = rw e (ap (λ (bytes : List ℕ). let it : Item = record { content = bytes; flags = entry.item.flags; stamp = entry.item.stamp } in Some it) (sym (append-nil (decimal n))));
    }

    decr_to : (entry : Entry) (o : Option ℕ) → number_made ask entry.item.body ≡ o → IfSome o (λ n. n < 2 ^ 64) → IsRow ask stamp Decr (counts_to now ask entry.item o) (shown entry)
    decr_to entry None e lt = record { ranges = short_text texts.NotNumeric; listed = refl; agrees = tt; left_is = refl }
    decr_to entry (Some n) e lt = record {
      ranges = lt;
      listed = tt;
      agrees = (item_of entry.item, refl, e);
      left_is = rw e (ap (λ (bytes : List ℕ). let it : Item = record { content = bytes; flags = entry.item.flags; stamp = entry.item.stamp } in Some it) (sym (append-nil (decimal n))));
    }

    cas_row : (entry : Entry) → IsRow ask stamp Cas (where_held now stamp ask entry Cas) (shown entry)
    cas_row entry = (elim (is_other ask.cas entry.cas) as (λ t. is_other ask.cas entry.cas ≡ t → IsRow ask stamp Cas (where_held now stamp ask entry Cas) (shown entry)) [
      | true ↦ λ t. rw t (record { ranges = tt; listed = tt; agrees = refl; left_is = refl })
      | false ↦ λ t. rw t (record { ranges = tt; listed = tt; agrees = refl; left_is = refl })
    ]) refl

    -- a delete or count without a cas number, as every classic one
    pub held_row : (entry : Entry) (op : Op) → IsEntry entry → (op ≡ Delete → ask.cas ≡ None) → (op ≡ Incr → ask.cas ≡ None) → (op ≡ Decr → ask.cas ≡ None)
        → IsRow ask stamp op (where_held now stamp ask entry op) (shown entry)
    held_row entry Get h _ _ _ = let cas = cas_shown ask.with_cas entry.cas h.cas in
        record { ranges = (h.item.flags, h.item.body, cas.1); listed = cas.0; agrees = (item_of entry.item, refl, refl, refl); left_is = refl }
    held_row entry Gat h _ _ _ = let cas = cas_shown ask.with_cas entry.cas h.cas in
        record { ranges = (h.item.flags, h.item.body, cas.1); listed = cas.0; agrees = (item_of entry.item, refl, refl, refl); left_is = refl }
    held_row entry Set h _ _ _ = record { ranges = tt; listed = tt; agrees = tt; left_is = refl }
    held_row entry Add h _ _ _ = record { ranges = tt; listed = tt; agrees = refl; left_is = refl }
    held_row entry Replace h _ _ _ = record { ranges = tt; listed = tt; agrees = refl; left_is = refl }
    held_row entry Append h _ _ _ = append_row entry
    held_row entry Prepend h _ _ _ = prepend_row entry
    held_row entry Cas h _ _ _ = cas_row entry
    held_row entry Delete h d _ _ = let same : is_other ask.cas entry.cas ≡ false = ap (λ (o : Option ℕ). is_other o entry.cas) (d refl) in rw same (record { ranges = tt; listed = tt; agrees = refl; left_is = refl })
    held_row entry Incr h _ i _ = let same : is_other ask.cas entry.cas ≡ false = ap (λ (o : Option ℕ). is_other o entry.cas) (i refl) in rw same (incr_to entry (number_made ask entry.item.body) refl (counted_below ask entry.item.body))
    held_row entry Decr h _ _ i = let same : is_other ask.cas entry.cas ≡ false = ap (λ (o : Option ℕ). is_other o entry.cas) (i refl) in rw same (decr_to entry (number_made ask entry.item.body) refl (counted_below ask entry.item.body))
    held_row entry Touch h _ _ _ = record { ranges = tt; listed = tt; agrees = refl; left_is = refl }
