-- What a line that is served asks, is in its ranges.
use Rattle.std.proofs.Common.{◌≡◌, ◌^◌, ◌<◌, ◌≤◌, Bool, true, false, cond, List, [], ◌∷◌, Option, Some, None, Result, Ok, Err, subst, inl, inr}
use Rattle.std.specs.Prelude.{IfSome}
use Rattle.std.specs.Str.{bytes_eq}
use Rattle.std.specs.List.{AllByRecursion, list_all}
use Rattle.std.proofs.lemmas.Bool.{cases_Bool, and_parts}
use Rattle.mc_types.specs.KeyText.{IsKey}
use Rattle.mc_types.specs.Asks.{IsExptime, data_limit}
use Rattle.wire_parts.specs.declared.refusal.RefusalReason.{RefusalReason}
use Rattle.wire_parts.specs.declared.refusal.RefusalReason.TheVariants.{BadKey}
use Rattle.wire_parts.specs.declared.proxy_command.ProxyCommand.{ProxyCommand}
use Rattle.wire_parts.specs.Tests.{Word, is_key, key_of, u32_of, u64_of, exptime_of}
use Rattle.wire_parts.proofs.KeyTexts.{key_is}
use Rattle.wire_parts.proofs.Ranges.{passed, is_ok, a_key, a_small, a_wide, an_exptime, fits}
use Rattle.wire_classic.specs.declared.command.Verb.{Verb}
use Rattle.wire_classic.specs.declared.command.Verb.TheVariants as verbs
use Rattle.mc_types.specs.declared.ask.Op.{Op}
use Rattle.mc_types.specs.declared.ask.Op.TheVariants as ops
use Rattle.wire_classic.specs.CommandWords.{WordEntry, command_words, found_in, verb_of}
use Rattle.wire_classic.specs.Order.{Order, Storing, Retrieval, Storage, Swapping, Deletion, Touching, Counting, OfItself, keys_of, noreply_of, delete_tail_of, getting, getting_and_touching, retrieval, storing_of, storage, swapping, deletion, touching, counting, of_itself, ordered_by, classic_order_of}

pub record IsSoundStoring (s : Storing) : Type 0 where
  pub key : IsKey s.key
  pub flags : s.flags < 2 ^ 32
  pub exptime : IsExptime s.exptime

-- the stores without a cas number
abbrev pub IsPlainStore : Op → Type 0
IsPlainStore ops.Set = Unit {0}
IsPlainStore ops.Add = Unit {0}
IsPlainStore ops.Replace = Unit {0}
IsPlainStore ops.Append = Unit {0}
IsPlainStore ops.Prepend = Unit {0}
IsPlainStore ops.Get = ⊥
IsPlainStore ops.Gat = ⊥
IsPlainStore ops.Cas = ⊥
IsPlainStore ops.Delete = ⊥
IsPlainStore ops.Incr = ⊥
IsPlainStore ops.Decr = ⊥
IsPlainStore ops.Touch = ⊥

-- `incr` and `decr`
abbrev pub IsCount : Op → Type 0
IsCount ops.Incr = Unit {0}
IsCount ops.Decr = Unit {0}
IsCount ops.Get = ⊥
IsCount ops.Gat = ⊥
IsCount ops.Set = ⊥
IsCount ops.Add = ⊥
IsCount ops.Replace = ⊥
IsCount ops.Append = ⊥
IsCount ops.Prepend = ⊥
IsCount ops.Cas = ⊥
IsCount ops.Delete = ⊥
IsCount ops.Touch = ⊥

-- a command word means a store, or a count, of an operation that is one
abbrev pub FitsVerb : Verb → Type 0
FitsVerb (verbs.Store op) = IsPlainStore op
FitsVerb verbs.Cas = Unit {0}
FitsVerb (verbs.Retrieve touching with_cas) = Unit {0}
FitsVerb verbs.Delete = Unit {0}
FitsVerb verbs.Touch = Unit {0}
FitsVerb (verbs.Count op) = IsCount op
FitsVerb (verbs.Own own) = Unit {0}

abbrev pub AllFit : List WordEntry → Type 0
AllFit [] = Unit {0}
AllFit (e ∷ es) = FitsVerb e.1 × AllFit es

found_fits : (es : List WordEntry) (w : Word) → AllFit es → IfSome (found_in es w) FitsVerb
found_fits [] w h = tt
found_fits (e ∷ es) w h = elim (bytes_eq w e.0) as (λ b. IfSome (cond b (Some e.1) (found_in es w)) FitsVerb) [
  | true ↦ h.0
  | false ↦ found_fits es w h.1
]

verb_fits : (w : Word) → IfSome (verb_of w) FitsVerb
unfolding verb_of
verb_fits w = found_fits command_words w (tt, (tt, (tt, (tt, (tt, (tt, (tt, (tt, (tt, (tt, (tt, (tt, (tt, (tt, (tt, (tt, tt))))))))))))))))

-- the keys are keys, and each number is in its range
abbrev pub IsSound : Order → Type 0
IsSound (Retrieval exptime with_cas keys) = AllByRecursion IsKey keys × IfSome exptime IsExptime
IsSound (Storage op stored quiet) = IsSoundStoring stored × (stored.length ≤ data_limit) × IsPlainStore op
IsSound (Swapping stored cas quiet) = IsSoundStoring stored × (stored.length ≤ data_limit) × (cas < 2 ^ 64)
IsSound (Deletion key quiet) = IsKey key
IsSound (Touching key exptime quiet) = IsKey key × IsExptime exptime
IsSound (Counting op key delta quiet) = IsKey key × (delta < 2 ^ 64) × IsCount op
IsSound (OfItself own) = Unit {0}

keys_are : (ws : List Word) → list_all is_key ws ≡ true → AllByRecursion IsKey ws
keys_are [] e = tt
keys_are (w ∷ ws) e = let a = and_parts (is_key w) (list_all is_key ws) e in (key_is w a.0, keys_are ws a.1)

some_keys : (ws ks : List Word) → keys_of ws ≡ Ok ks → AllByRecursion IsKey ks
some_keys [] ks e = absurd cc
some_keys (w ∷ ws) ks e = elim (cases_Bool (list_all is_key (w ∷ ws))) [
  | inl same ↦ let f : ◌≡◌ {A = Result (List Word) RefusalReason} (Ok (w ∷ ws)) (Ok ks) = rw same at e in subst (AllByRecursion IsKey) (is_ok (w ∷ ws) ks f) (keys_are (w ∷ ws) same)
  | inr other ↦ let f : ◌≡◌ {A = Result (List Word) RefusalReason} (Err BadKey) (Ok ks) = rw other at e in absurd cc
]

storing : (k f e n : Word) (s : Storing) → storing_of k f e n ≡ Ok s → IsSoundStoring s
storing k f e n s h =
    let a = passed (key_of k) _ s h in
    let b = passed (u32_of f) _ s a.2 in
    let c = passed (exptime_of e) _ s b.2 in
    let d = passed (u32_of n) _ s c.2 in
    let r : Storing = record { key = a.0; flags = b.0; exptime = c.0; length = d.0 } in
    let same : r ≡ s = is_ok r s d.2 in
    subst IsSoundStoring same (record { key = a_key k a.0 a.1; flags = a_small f b.0 b.1; exptime = an_exptime e c.0 c.1 })

by_storage : (op : Op) → IsPlainStore op → (ws : List Word) (o : Order) → storage op ws ≡ Ok o → IsSound o
by_storage op is [] o h = absurd cc
by_storage op is (k ∷ []) o h = absurd cc
by_storage op is (k ∷ f ∷ []) o h = absurd cc
by_storage op is (k ∷ f ∷ e ∷ []) o h = absurd cc
by_storage op is (k ∷ f ∷ e ∷ n ∷ more) o h =
    let a = passed (noreply_of more) _ o h in
    let b = passed (storing_of k f e n) _ o a.2 in
    let c = fits b.0.length (Storage op b.0 a.0) o b.2 in
    subst IsSound c.1 (storing k f e n b.0 b.1, c.0, is)

by_swapping : (ws : List Word) (o : Order) → swapping ws ≡ Ok o → IsSound o
by_swapping [] o h = absurd cc
by_swapping (k ∷ []) o h = absurd cc
by_swapping (k ∷ f ∷ []) o h = absurd cc
by_swapping (k ∷ f ∷ e ∷ []) o h = absurd cc
by_swapping (k ∷ f ∷ e ∷ n ∷ []) o h = absurd cc
by_swapping (k ∷ f ∷ e ∷ n ∷ c ∷ more) o h =
    let a = passed (noreply_of more) _ o h in
    let b = passed (storing_of k f e n) _ o a.2 in
    let w = passed (u64_of c) _ o b.2 in
    let d = fits b.0.length (Swapping b.0 w.0 a.0) o w.2 in
    subst IsSound d.1 (storing k f e n b.0 b.1, d.0, a_wide c w.0 w.1)

by_deletion : (ws : List Word) (o : Order) → deletion ws ≡ Ok o → IsSound o
by_deletion [] o h = absurd cc
by_deletion (k ∷ more) o h =
    let a = passed (delete_tail_of more) _ o h in
    let b = passed (key_of k) _ o a.2 in
    subst IsSound (is_ok (Deletion b.0 a.0) o b.2) (a_key k b.0 b.1)

by_touching : (ws : List Word) (o : Order) → touching ws ≡ Ok o → IsSound o
by_touching [] o h = absurd cc
by_touching (k ∷ []) o h = absurd cc
by_touching (k ∷ e ∷ more) o h =
    let a = passed (noreply_of more) _ o h in
    let b = passed (key_of k) _ o a.2 in
    let c = passed (exptime_of e) _ o b.2 in
    subst IsSound (is_ok (Touching b.0 c.0 a.0) o c.2) (a_key k b.0 b.1, an_exptime e c.0 c.1)

by_counting : (op : Op) → IsCount op → (ws : List Word) (o : Order) → counting op ws ≡ Ok o → IsSound o
by_counting op is [] o h = absurd cc
by_counting op is (k ∷ []) o h = absurd cc
by_counting op is (k ∷ d ∷ more) o h =
    let a = passed (noreply_of more) _ o h in
    let b = passed (key_of k) _ o a.2 in
    let c = passed (u64_of d) _ o b.2 in
    subst IsSound (is_ok (Counting op b.0 c.0 a.0) o c.2) (a_key k b.0 b.1, a_wide d c.0 c.1, is)

by_getting : (with_cas : Bool) (ws : List Word) (o : Order) → getting with_cas ws ≡ Ok o → IsSound o
by_getting with_cas ws o h =
    let a = passed (keys_of ws) _ o h in
    subst IsSound (is_ok (Retrieval None with_cas a.0) o a.2) (some_keys ws a.0 a.1, tt)

by_getting_and_touching : (with_cas : Bool) (ws : List Word) (o : Order) → getting_and_touching with_cas ws ≡ Ok o → IsSound o
by_getting_and_touching with_cas [] o h = absurd cc
by_getting_and_touching with_cas (e ∷ ws) o h =
    let a = passed (keys_of ws) _ o h in
    let b = passed (exptime_of e) _ o a.2 in
    subst IsSound (is_ok (Retrieval (Some b.0) with_cas a.0) o b.2) (some_keys ws a.0 a.1, an_exptime e b.0 b.1)

by_retrieval : (touching with_cas : Bool) (ws : List Word) (o : Order) → retrieval touching with_cas ws ≡ Ok o → IsSound o
by_retrieval true with_cas ws o h = by_getting_and_touching with_cas ws o h
by_retrieval false with_cas ws o h = by_getting with_cas ws o h

by_itself : (own : ProxyCommand) (ws : List Word) (o : Order) → of_itself own ws ≡ Ok o → IsSound o
by_itself own [] o h = subst IsSound (is_ok (OfItself own) o h) tt
by_itself own (w ∷ ws) o h = absurd cc

by_verb : (v : Option Verb) → IfSome v FitsVerb → (ws : List Word) (o : Order) → ordered_by v ws ≡ Ok o → IsSound o
by_verb None fits ws o h = absurd cc
by_verb (Some (verbs.Store op)) fits ws o h = by_storage op fits ws o h
by_verb (Some verbs.Cas) fits ws o h = by_swapping ws o h
by_verb (Some (verbs.Retrieve touching with_cas)) fits ws o h = by_retrieval touching with_cas ws o h
by_verb (Some verbs.Delete) fits ws o h = by_deletion ws o h
by_verb (Some verbs.Touch) fits ws o h = by_touching ws o h
by_verb (Some (verbs.Count op)) fits ws o h = by_counting op fits ws o h
by_verb (Some (verbs.Own own)) fits ws o h = by_itself own ws o h

-- what a line asks is in its ranges
pub sound : (ws : List Word) (o : Order) → classic_order_of ws ≡ Ok o → IsSound o
sound [] o h = absurd cc
sound (w ∷ ws) o h = by_verb (verb_of w) (verb_fits w) ws o h
