-- Each row of the table, answered in the meta dialect, fits its ask, agrees with what is held, and leaves what the definition of a call says.
use Rattle.std.proofs.lemmas.Int.{ints}
use Rattle.std.proofs.Common.{◌≡◌, ℕ, ◌+◌, ◌-◌, ◌<◌, ◌≤◌, ◌^◌, Bool, true, false, cond, ◌&&◌, List, [], ◌∷◌, ◌++◌, length, Option, Some, None, is_some, IsSome, IfSome, refl, sym, ap, subst, ◌∙◌, arith, ltb, append-nil}
use Rattle.std.specs.Bool.{then_some}
use Rattle.std.specs.Fmt.{decimal}
use Rattle.text_words.specs.Number.{number_below}
use Rattle.text_words.proofs.NumberLemmas.{number_below-decimal}
use Rattle.mc_types.specs.Asks.{data_limit, HasShapeOf, meta_shape, of_store}
use Rattle.mc_types.specs.Tokens.{LetterC, LetterF, LetterS, LetterT, LetterV, wants, are_served}
use Rattle.mc_types.specs.declared.error_text.OwnText.TheVariants as texts
use Rattle.mc_types.specs.Items.{Item, number_made, recounted, is_done}
use Rattle.mc_types.specs.Fits.{IsAnswer, IsTtl, AreFieldsInRange, FitsMeta, FitsMetaCount, StandAs, AreBare, IsSizeOf, IsNumberText}
use Rattle.mc_types.specs.Agree.{AgreesAs, AgreesCount, MatchesFields}
use Rattle.mc_types.specs.declared.ask.Ask.{Ask}
use Rattle.mc_types.specs.declared.ask.Op.{Op}
use Rattle.mc_types.specs.declared.ask.Op.TheVariants.{Get, Gat, Set, Add, Replace, Append, Prepend, Cas, Delete, Incr, Decr, Touch}
use Rattle.mc_types.specs.declared.token.Token.{Token}
use Rattle.mc_types.specs.declared.token.Token.TheVariants as tokens
use Rattle.mc_types.specs.declared.answer.Code.{Code}
use Rattle.mc_types.specs.declared.answer.Code.TheVariants as codes
use Rattle.mc_types.specs.declared.answer.Fields.{Fields}
use Rattle.mc_types.specs.declared.answer.Answer.{Answer}
use Rattle.mc_types.specs.declared.answer.Answer.TheVariants as answers
use Rattle.cache_server.specs.declared.item.CacheItem.{CacheItem}
use Rattle.cache_server.specs.declared.item.Entry.{Entry}
use Rattle.cache_server.specs.declared.decision.Change.{Change}
use Rattle.cache_server.specs.declared.decision.Change.TheVariants.{Leaves, Renews, Stores}
use Rattle.cache_server.specs.declared.decision.Decision.{Decision}
use Rattle.cache_server.specs.declared.decision.Verdict.TheVariants.{OutOfMemory}
use Rattle.cache_server.specs.Expiry.{ttl_of, expiry_after}
use Rattle.cache_server.specs.Contents.{next_number}
use Rattle.cache_server.specs.Sound.{IsItem, IsEntry, IsChange}
use Rattle.cache_server.specs.Table.{meta_answer, done_answer, entry_fields, left_by, finds, begun, renewed, joins, counts_to, is_other, where_absent, where_held}
use Rattle.cache_server.specs.Held.{item_of}
use Rattle.cache_server.proofs.TableLemmas.{counted_below}
use Rattle.cache_server.proofs.ChangeLemmas.{left, shown}
use Rattle.cache_server.proofs.RowLemmas.{after_as, short_text, refused}

-- the meta answer to a decision
abbrev pub met : ℕ → ℕ → Ask → Option Entry → Decision → Answer
met now counter ask before d = meta_answer now ask.tokens (left_by counter before d.change) d.verdict

pub record IsMetaRow (ask : Ask) (stamp : ℕ) (op : Op) (change : Change) (answer : Answer) (before : Option Item) : Type 0 where
  pub ranges : IsAnswer answer
  pub listed : FitsMeta op ask.tokens answer
  pub agrees : AgreesAs op ask answer before
  pub left_is : left change before ≡ after_as op ask stamp answer before

second : (a b : Bool) → (a && b) ≡ true → b ≡ true
second true b e = e
second false b e = absurd cc

-- of a store the data can't be asked for
no_value : (ts : List Token) → are_served of_store ts ≡ true → wants ts LetterV ≡ false
no_value [] e = refl
no_value (tokens.Cas ∷ ts) e = no_value ts (second _ (are_served of_store ts) e)
no_value (tokens.Key ∷ ts) e = no_value ts (second _ (are_served of_store ts) e)
no_value (tokens.Opaque text ∷ ts) e = no_value ts (second _ (are_served of_store ts) e)
no_value (tokens.Flags ∷ ts) e = absurd cc
no_value (tokens.Size ∷ ts) e = absurd cc
no_value (tokens.Ttl ∷ ts) e = absurd cc
no_value (tokens.Value ∷ ts) e = absurd cc

-- what stands where it was asked for
stands : {A : Type 0} (b : Bool) (x : A) → is_some (then_some b x) ≡ b
stands true x = refl
stands false x = refl

if_stands : {A : Type 0} (b : Bool) (x : A) (P : A → Type 0) → P x → IfSome (then_some b x) P
if_stands true x P p = p
if_stands false x P p = tt

size_is : (b c : Bool) (body : List ℕ) → IsSizeOf (then_some b (length body)) (then_some c body)
size_is true true body = refl
size_is true false body = tt
size_is false c body = tt

ttl_is : (now : ℕ) (expiry : Option ℕ) → IfSome expiry (λ n. n < 2 ^ 63) → IsTtl (ttl_of now expiry)
ttl_is now None h = (omega (arith, ints), omega (arith, ints))
ttl_is now (Some expiry) h = (omega (arith, ints), omega (arith, ints))

module _ (now : ℕ) (ts : List Token) (entry : Entry) where
  fields_range : IsEntry entry → AreFieldsInRange (entry_fields now ts entry)
  fields_range h = record {
    body = if_stands (wants ts LetterV) entry.item.body (λ body. length body ≤ data_limit) h.item.body;
    cas = if_stands (wants ts LetterC) entry.cas (λ cas. cas < 2 ^ 64) h.cas;
    flags = if_stands (wants ts LetterF) entry.item.flags (λ flags. flags < 2 ^ 32) h.item.flags;
    size = if_stands (wants ts LetterS) (length entry.item.body) (λ size. size ≤ data_limit) h.item.body;
    ttl = if_stands (wants ts LetterT) (ttl_of now entry.item.expiry) IsTtl (ttl_is now entry.item.expiry h.item.expiry);
  }

  stand_as : (b : Bool) → wants ts LetterV ≡ b → StandAs ts b (entry_fields now ts entry)
  stand_as b e = record {
    body_is = stands (wants ts LetterV) entry.item.body ∙ e;
    cas = stands (wants ts LetterC) entry.cas;
    flags = stands (wants ts LetterF) entry.item.flags;
    size = stands (wants ts LetterS) (length entry.item.body);
    ttl = stands (wants ts LetterT) (ttl_of now entry.item.expiry);
  }

  matches : MatchesFields (entry_fields now ts entry) (item_of entry.item)
  matches = (
    if_stands (wants ts LetterV) entry.item.body (λ body. body ≡ entry.item.body) refl,
    if_stands (wants ts LetterF) entry.item.flags (λ flags. flags ≡ entry.item.flags) refl,
    if_stands (wants ts LetterS) (length entry.item.body) (λ size. size ≡ length entry.item.body) refl,
  )

  -- with the data or without
  by_value : (P : Answer → Type 0) → (wants ts LetterV ≡ true → P (answers.Meta codes.Va (entry_fields now ts entry))) → (wants ts LetterV ≡ false → P (answers.Meta codes.Hd (entry_fields now ts entry)))
      → P (done_answer now ts (Some entry))
  by_value P with_data without = (elim (wants ts LetterV) as (λ b. wants ts LetterV ≡ b → P (answers.Meta (cond b codes.Va codes.Hd) (entry_fields now ts entry))) [
    | true ↦ λ e. with_data e
    | false ↦ λ e. without e
  ]) refl

bare_range : AreFieldsInRange (record { body = None; cas = None; flags = None; size = None; ttl = None })
bare_range = record { body = tt; cas = tt; flags = tt; size = tt; ttl = tt }

are_bare : AreBare (record { body = None; cas = None; flags = None; size = None; ttl = None })
are_bare = record { body_is = refl; cas = refl; flags = refl; size = refl; ttl = refl }

number_word : (n : ℕ) → n < 2 ^ 64 → IsSome (number_below (2 ^ 64) (decimal n))
number_word n lt = subst (λ (o : Option ℕ). IsSome o) (sym (number_below-decimal (2 ^ 64) n lt (omega arith))) refl

number_shown : (b : Bool) (n : ℕ) → b ≡ true → n < 2 ^ 64 → IsNumberText (then_some b (decimal n))
number_shown true n e lt = number_word n lt
number_shown false n e lt = absurd cc

module _ (ask : Ask) (stamp now counter : ℕ) where
  -- an error line fits every ask, and changes nothing
  pub meta_refused : (op : Op) (before : Option Entry) → IsMetaRow ask stamp op Leaves (met now counter ask before (finds OutOfMemory)) (shown before)
  meta_refused op before = let row = refused ask stamp op (shown before) in record { ranges = row.ranges; listed = refl; agrees = row.agrees; left_is = row.left_is }

  numbered : (item : CacheItem) → IsItem item → IsEntry (record { item = item; cas = next_number counter })
  numbered item h = record { item = h; cas = omega arith }

  get_row : (entry : Entry) → IsEntry entry → IsMetaRow ask stamp Get Leaves (done_answer now ask.tokens (Some entry)) (Some (item_of entry.item))
  get_row entry h = by_value now ask.tokens entry (λ a. IsMetaRow ask stamp Get Leaves a (Some (item_of entry.item)))
      (λ e. record {
        ranges = fields_range now ask.tokens entry h;
        listed = (e, stand_as now ask.tokens entry true e, size_is (wants ask.tokens LetterS) (wants ask.tokens LetterV) entry.item.body);
        agrees = (item_of entry.item, refl, matches now ask.tokens entry);
        left_is = refl;
      })
      (λ e. record {
        ranges = fields_range now ask.tokens entry h;
        listed = (e, stand_as now ask.tokens entry false e);
        agrees = (item_of entry.item, refl, matches now ask.tokens entry);
        left_is = refl;
      })

  gat_row : (entry : Entry) → IsEntry entry → IsMetaRow ask stamp Gat (Renews entry) (done_answer now ask.tokens (Some entry)) (Some (item_of entry.item))
  gat_row entry h = by_value now ask.tokens entry (λ a. IsMetaRow ask stamp Gat (Renews entry) a (Some (item_of entry.item)))
      (λ e. record {
        ranges = fields_range now ask.tokens entry h;
        listed = (e, stand_as now ask.tokens entry true e, size_is (wants ask.tokens LetterS) (wants ask.tokens LetterV) entry.item.body);
        agrees = (item_of entry.item, refl, matches now ask.tokens entry);
        left_is = refl;
      })
      (λ e. record {
        ranges = fields_range now ask.tokens entry h;
        listed = (e, stand_as now ask.tokens entry false e);
        agrees = (item_of entry.item, refl, matches now ask.tokens entry);
        left_is = refl;
      })

  -- a store is told by HD
  store_row : (op : Op) (item : CacheItem) (before : Option Item) → wants ask.tokens LetterV ≡ false → IsItem item
      → ((fields : Fields) → StandAs ask.tokens false fields → FitsMeta op ask.tokens (answers.Meta codes.Hd fields))
      → ((fields : Fields) → AgreesAs op ask (answers.Meta codes.Hd fields) before)
      → ((fields : Fields) → Some (item_of item) ≡ after_as op ask stamp (answers.Meta codes.Hd fields) before)
      → IsMetaRow ask stamp op (Stores item) (done_answer now ask.tokens (Some (record { item = item; cas = next_number counter }))) before
  store_row op item before none h fits agrees left =
      let entry : Entry = record { item = item; cas = next_number counter } in
      by_value now ask.tokens entry (λ a. IsMetaRow ask stamp op (Stores item) a before)
      (λ e. absurd (let f : false ≡ true = sym none ∙ e in cc))
      (λ e. record {
        ranges = fields_range now ask.tokens entry (numbered item h);
        listed = fits (entry_fields now ask.tokens entry) (stand_as now ask.tokens entry false e);
        agrees = agrees (entry_fields now ask.tokens entry);
        left_is = left (entry_fields now ask.tokens entry);
      })

  pub meta_absent : (op : Op) → HasShapeOf ask (meta_shape op) → IsChange (where_absent now stamp ask op).change
      → IsMetaRow ask stamp op (where_absent now stamp ask op).change (met now counter ask None (where_absent now stamp ask op)) None
  meta_absent Get s h = record { ranges = bare_range; listed = are_bare; agrees = refl; left_is = refl }
  meta_absent Gat s h = record { ranges = bare_range; listed = are_bare; agrees = refl; left_is = refl }
  meta_absent Set s h = store_row Set (begun now stamp ask) None (no_value ask.tokens s.tokens) h (λ fields is. is) (λ fields. tt) (λ fields. refl)
  meta_absent Add s h = store_row Add (begun now stamp ask) None (no_value ask.tokens s.tokens) h (λ fields is. is) (λ fields. refl) (λ fields. refl)
  meta_absent Replace s h = record { ranges = bare_range; listed = are_bare; agrees = refl; left_is = refl }
  meta_absent Append s h = record { ranges = bare_range; listed = are_bare; agrees = refl; left_is = refl }
  meta_absent Prepend s h = record { ranges = bare_range; listed = are_bare; agrees = refl; left_is = refl }
  meta_absent Cas s h = record { ranges = bare_range; listed = are_bare; agrees = refl; left_is = refl }
  meta_absent Delete s h = record { ranges = bare_range; listed = are_bare; agrees = refl; left_is = refl }
  meta_absent Incr s h = record { ranges = bare_range; listed = are_bare; agrees = refl; left_is = refl }
  meta_absent Decr s h = record { ranges = bare_range; listed = are_bare; agrees = refl; left_is = refl }
  meta_absent Touch s h = absurd s

  abbrev pub Row : Op → Decision → Entry → Type 0
  Row op d entry = IsMetaRow ask stamp op d.change (met now counter ask (Some entry) d) (Some (item_of entry.item))

  append_row : (entry : Entry) → wants ask.tokens LetterV ≡ false → IsChange (joins entry.item (entry.item.body ++ ask.body)).change → Row Append (joins entry.item (entry.item.body ++ ask.body)) entry
  append_row entry none = (elim (ltb data_limit (length (entry.item.body ++ ask.body))) as (λ t. ltb data_limit (length (entry.item.body ++ ask.body)) ≡ t
      → IsChange (joins entry.item (entry.item.body ++ ask.body)).change → Row Append (joins entry.item (entry.item.body ++ ask.body)) entry) [
        | true ↦ λ t. rw t (λ h. record { ranges = short_text texts.TooLarge; listed = refl; agrees = tt; left_is = refl })
        | false ↦ λ t. rw t (λ h. store_row Append (record entry.item { body = entry.item.body ++ ask.body }) (Some (item_of entry.item)) none h (λ fields is. is) (λ fields. refl) (λ fields. refl))
      ]) refl

  prepend_row : (entry : Entry) → wants ask.tokens LetterV ≡ false → IsChange (joins entry.item (ask.body ++ entry.item.body)).change → Row Prepend (joins entry.item (ask.body ++ entry.item.body)) entry
  prepend_row entry none = (elim (ltb data_limit (length (ask.body ++ entry.item.body))) as (λ t. ltb data_limit (length (ask.body ++ entry.item.body)) ≡ t
      → IsChange (joins entry.item (ask.body ++ entry.item.body)).change → Row Prepend (joins entry.item (ask.body ++ entry.item.body)) entry) [
        | true ↦ λ t. rw t (λ h. record { ranges = short_text texts.TooLarge; listed = refl; agrees = tt; left_is = refl })
        | false ↦ λ t. rw t (λ h. store_row Prepend (record entry.item { body = ask.body ++ entry.item.body }) (Some (item_of entry.item)) none h (λ fields is. is) (λ fields. refl) (λ fields. refl))
      ]) refl

  -- the item that a count leaves
  abbrev pub counted_item : CacheItem → ℕ → CacheItem
  counted_item item n = record item { body = decimal n; expiry = expiry_after now ask.exptime item.expiry }

  count_row : (op : Op) (entry : Entry) (n : ℕ) → number_made ask entry.item.body ≡ Some n → n < 2 ^ 64 → IsItem (counted_item entry.item n)
      → ((code : Code) (fields : Fields) → FitsMetaCount ask.tokens code fields → FitsMeta op ask.tokens (answers.Meta code fields))
      → ((code : Code) (fields : Fields) → AgreesCount ask (answers.Meta code fields) (Some (item_of entry.item)) → AgreesAs op ask (answers.Meta code fields) (Some (item_of entry.item)))
      → ((answer : Answer) → is_done answer ≡ true → after_as op ask stamp answer (Some (item_of entry.item)) ≡ Some (recounted 0 (item_of entry.item) (number_made ask entry.item.body)))
      → Row op (counts_to now ask entry.item (Some n)) entry
  count_row op entry n e lt h fits agrees after =
      let item = counted_item entry.item n in
      let next : Entry = record { item = item; cas = next_number counter } in
      let ranges = fields_range now ask.tokens next (numbered item h) in
      let held : Item = item_of entry.item in
      let texts : Some (item_of item) ≡ Some (recounted 0 held (Some n)) =
      ap (λ (bytes : List ℕ). let it : Item = record { content = bytes; flags = entry.item.flags; stamp = entry.item.stamp } in Some it) (sym (append-nil (decimal n))) in
      let left : Some (item_of item) ≡ Some (recounted 0 held (number_made ask entry.item.body)) = texts ∙ ap (λ (o : Option ℕ). Some (recounted 0 held o)) (sym e) in
      by_value now ask.tokens next (λ a. IsMetaRow ask stamp op (Stores item) a (Some held))
      (λ v. record {
        ranges = ranges;
        listed = fits codes.Va (entry_fields now ask.tokens next) (v, stand_as now ask.tokens next true v, number_shown (wants ask.tokens LetterV) n v lt);
        agrees = agrees codes.Va (entry_fields now ask.tokens next) (n, (held, refl, e), if_stands (wants ask.tokens LetterV) (decimal n) (λ body. body ≡ decimal n) refl);
        left_is = left ∙ sym (after (answers.Meta codes.Va (entry_fields now ask.tokens next)) refl);
      })
      (λ v. record {
        ranges = ranges;
        listed = fits codes.Hd (entry_fields now ask.tokens next) (v, stand_as now ask.tokens next false v);
        agrees = agrees codes.Hd (entry_fields now ask.tokens next) (n, (held, refl, e));
        left_is = left ∙ sym (after (answers.Meta codes.Hd (entry_fields now ask.tokens next)) refl);
      })

  incr_to : (entry : Entry) (o : Option ℕ) → number_made ask entry.item.body ≡ o → IfSome o (λ n. n < 2 ^ 64) → IsChange (counts_to now ask entry.item o).change → Row Incr (counts_to now ask entry.item o) entry
  incr_to entry None e lt h = record { ranges = short_text texts.NotNumeric; listed = refl; agrees = tt; left_is = refl }
  incr_to entry (Some n) e lt h = count_row Incr entry n e lt h (λ code fields is. is) (λ code fields is. is) (λ answer done. rw done refl)

  decr_to : (entry : Entry) (o : Option ℕ) → number_made ask entry.item.body ≡ o → IfSome o (λ n. n < 2 ^ 64) → IsChange (counts_to now ask entry.item o).change → Row Decr (counts_to now ask entry.item o) entry
  decr_to entry None e lt h = record { ranges = short_text texts.NotNumeric; listed = refl; agrees = tt; left_is = refl }
  decr_to entry (Some n) e lt h = count_row Decr entry n e lt h (λ code fields is. is) (λ code fields is. is) (λ answer done. rw done refl)

  cas_row : (entry : Entry) → wants ask.tokens LetterV ≡ false → IsChange (where_held now stamp ask entry Cas).change → Row Cas (where_held now stamp ask entry Cas) entry
  cas_row entry none = (elim (is_other ask.cas entry.cas) as (λ t. is_other ask.cas entry.cas ≡ t → IsChange (where_held now stamp ask entry Cas).change → Row Cas (where_held now stamp ask entry Cas) entry) [
    | true ↦ λ t. rw t (λ h. record { ranges = bare_range; listed = are_bare; agrees = refl; left_is = refl })
    | false ↦ λ t. rw t (λ h. store_row Cas (begun now stamp ask) (Some (item_of entry.item)) none h (λ fields is. is) (λ fields. refl) (λ fields. refl))
  ]) refl

  delete_row : (entry : Entry) → Row Delete (where_held now stamp ask entry Delete) entry
  delete_row entry = (elim (is_other ask.cas entry.cas) as (λ t. is_other ask.cas entry.cas ≡ t → Row Delete (where_held now stamp ask entry Delete) entry) [
    | true ↦ λ t. rw t (record { ranges = bare_range; listed = are_bare; agrees = refl; left_is = refl })
    | false ↦ λ t. rw t (record { ranges = bare_range; listed = are_bare; agrees = refl; left_is = refl })
  ]) refl

  incr_row : (entry : Entry) → IsChange (where_held now stamp ask entry Incr).change → Row Incr (where_held now stamp ask entry Incr) entry
  incr_row entry = (elim (is_other ask.cas entry.cas) as (λ t. is_other ask.cas entry.cas ≡ t → IsChange (where_held now stamp ask entry Incr).change → Row Incr (where_held now stamp ask entry Incr) entry) [
    | true ↦ λ t. rw t (λ h. record { ranges = bare_range; listed = are_bare; agrees = refl; left_is = refl })
    | false ↦ λ t. rw t (λ h. incr_to entry (number_made ask entry.item.body) refl (counted_below ask entry.item.body) h)
  ]) refl

  decr_row : (entry : Entry) → IsChange (where_held now stamp ask entry Decr).change → Row Decr (where_held now stamp ask entry Decr) entry
  decr_row entry = (elim (is_other ask.cas entry.cas) as (λ t. is_other ask.cas entry.cas ≡ t → IsChange (where_held now stamp ask entry Decr).change → Row Decr (where_held now stamp ask entry Decr) entry) [
    | true ↦ λ t. rw t (λ h. record { ranges = bare_range; listed = are_bare; agrees = refl; left_is = refl })
    | false ↦ λ t. rw t (λ h. decr_to entry (number_made ask entry.item.body) refl (counted_below ask entry.item.body) h)
  ]) refl

  pub meta_held : (entry : Entry) (op : Op) → HasShapeOf ask (meta_shape op) → IsEntry entry → IsChange (where_held now stamp ask entry op).change → Row op (where_held now stamp ask entry op) entry
  meta_held entry Get s is h = get_row entry is
  meta_held entry Gat s is h = gat_row (renewed now ask entry) h
  meta_held entry Set s is h = store_row Set (begun now stamp ask) (Some (item_of entry.item)) (no_value ask.tokens s.tokens) h (λ fields is. is) (λ fields. tt) (λ fields. refl)
  meta_held entry Add s is h = record { ranges = bare_range; listed = are_bare; agrees = refl; left_is = refl }
  meta_held entry Replace s is h = store_row Replace (begun now stamp ask) (Some (item_of entry.item)) (no_value ask.tokens s.tokens) h (λ fields is. is) (λ fields. refl) (λ fields. refl)
  meta_held entry Append s is h = append_row entry (no_value ask.tokens s.tokens) h
  meta_held entry Prepend s is h = prepend_row entry (no_value ask.tokens s.tokens) h
  meta_held entry Cas s is h = cas_row entry (no_value ask.tokens s.tokens) h
  meta_held entry Delete s is h = delete_row entry
  meta_held entry Incr s is h = incr_row entry h
  meta_held entry Decr s is h = decr_row entry h
  meta_held entry Touch s is h = absurd s
