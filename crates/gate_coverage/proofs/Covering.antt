-- What shows an item takes it, and where each tree covers the later ones, deletes clear what later commands take.
use Rattle.std.proofs.Common.{◌≡◌, ℕ, ◌+◌, Bool, true, false, cond, List, [], ◌∷◌, length, Some, None, not, ◌&&◌, ◌||◌, inl, inr, ⊎_elim, refl, sym, ap, ◌∙◌, subst, slice_get}
use Rattle.mc_types.specs.declared.ask.Op.{Op}
use Rattle.mc_types.specs.declared.ask.Op.TheVariants.{Get, Gat, Set, Add, Replace, Append, Prepend, Cas, Delete, Incr, Decr, Touch}
use Rattle.mc_types.specs.declared.ask.Dialect.{Dialect}
use Rattle.mc_types.specs.declared.ask.Dialect.TheVariants as dialects
use Rattle.mc_types.specs.declared.ask.Ask.{Ask}
use Rattle.mc_types.specs.declared.answer.Answer.{Answer}
use Rattle.mc_types.specs.declared.answer.Answer.TheVariants.{Stored, NotStored, Exists, NotFound, Deleted, Touched, Number, Hit, Miss, Meta, ClientError, Error, ServerError}
use Rattle.mc_types.specs.declared.answer.Code.{Code}
use Rattle.mc_types.specs.declared.answer.Code.TheVariants.{Hd, Va, En, Ns, Ex, Nf}
use Rattle.mc_types.specs.declared.answer.Fields.{Fields}
use Rattle.mc_types.specs.declared.token.Token.{Token}
use Rattle.mc_types.specs.declared.token.Token.TheVariants as tokens
use Rattle.mc_types.specs.declared.call.Origin.{Origin}
use Rattle.mc_types.specs.declared.call.Origin.TheVariants.{Client, CopyOf}
use Rattle.mc_types.specs.declared.call.Outcome.{Outcome}
use Rattle.mc_types.specs.declared.call.Outcome.TheVariants.{Answered, Failed}
use Rattle.mc_types.specs.Tokens.{LetterC, LetterF, LetterK, LetterS, LetterO, wants, are_served}
use Rattle.mc_types.specs.Asks.{IsAsk, of_store, HasShapeOf, meta_shape, shape_of}
use Rattle.mc_types.specs.Fits.{Fits, FitsIn, FitsClassic, FitsMeta, FitsMetaCode, FitsMetaStore, FitsMetaDelete, StandAs}
use Rattle.mc_types.specs.Shows.{shows, fields_show}
use Rattle.fresh_runs.specs.Calls.{Call}
use Rattle.fresh_runs.specs.Single.{FitsOutcome}
use Rattle.route_tree.specs.Each.{Each}
use Rattle.route_tree.specs.Operation.{same_op}
use Rattle.route_tree.specs.Plan.{Plan, Plans, PlanPolicies, Server, Null, Failing, AllSync, Failover, MissFailover, WarmUp, ByOperation, End, More, Otherwise, Policy}
use Rattle.route_tree.specs.Word.{Given, given_by, PlanWord, WordOfAll, WordOfFirst, WordOfHead, WordOfPolicy}
use Rattle.route_tree.proofs.Parts.{each_at, if_get, match_bool, worst_is}
use Rattle.route_tree.proofs.Words.{IsOwn, own_calls}
use Rattle.gate_coverage.specs.declared.deleting.Deleting.{Deleting}
use Rattle.gate_coverage.specs.declared.deleting.Deleting.TheVariants as kinds
use Rattle.gate_coverage.specs.Cover.{IsTaking, deleting_dialect}
use Rattle.gate_coverage.specs.Exact.{CoveringIsCovered}

taking_classic : (op : Op) (with_cas : Bool) (answer : Answer) → FitsClassic op with_cas answer → shows answer ≡ true → IsTaking op
taking_classic Get c a f h = tt
taking_classic Gat c a f h = tt
taking_classic Incr c a f h = tt
taking_classic Decr c a f h = tt
taking_classic op c Stored f h = absurd (cc)
taking_classic op c NotStored f h = absurd (cc)
taking_classic op c Exists f h = absurd (cc)
taking_classic op c NotFound f h = absurd (cc)
taking_classic op c Deleted f h = absurd (cc)
taking_classic op c Touched f h = absurd (cc)
taking_classic op c Miss f h = absurd (cc)
taking_classic op c Error f h = absurd (cc)
taking_classic op c (ClientError t) f h = absurd (cc)
taking_classic op c (ServerError t) f h = absurd (cc)
taking_classic op c (Number n) f h = absurd (cc)
taking_classic op c (Hit a b d) f h = absurd (cc)
taking_classic op c (Meta a b) f h = absurd (cc)

none_of_three : (a b c : Bool) → a ≡ false → b ≡ false → c ≡ false → (a || b || c) ≡ true → ⊥
none_of_three false false false p q r h = cc
none_of_three true b c p q r h = cc
none_of_three false true c p q r h = cc
none_of_three false false true p q r h = cc

nothing_shown : (ts : List Token) (fields : Fields) → wants ts LetterF ≡ false → wants ts LetterS ≡ false → StandAs ts false fields → fields_show fields ≡ true → ⊥
nothing_shown ts fields f s stands h = none_of_three _ _ _ stands.body_is (stands.flags ∙ f) (stands.size ∙ s) h

pub bare_shows_nothing : (fields : Fields) → StandAs [] false fields → fields_show fields ≡ true → ⊥
bare_shows_nothing fields stands h = nothing_shown [] fields refl refl stands h

store_shows_nothing : (ts : List Token) (code : Code) (fields : Fields) → wants ts LetterF ≡ false → wants ts LetterS ≡ false → FitsMetaStore ts code fields → fields_show fields ≡ true → ⊥
store_shows_nothing ts Hd fields f s fit h = nothing_shown ts fields f s fit h
store_shows_nothing ts Ns fields f s fit h = bare_shows_nothing fields fit h
store_shows_nothing ts Ex fields f s fit h = bare_shows_nothing fields fit h
store_shows_nothing ts Nf fields f s fit h = bare_shows_nothing fields fit h
store_shows_nothing ts Va fields f s fit h = fit
store_shows_nothing ts En fields f s fit h = fit

delete_shows_nothing : (code : Code) (fields : Fields) → FitsMetaDelete code fields → fields_show fields ≡ true → ⊥
delete_shows_nothing Hd fields fit h = bare_shows_nothing fields fit h
delete_shows_nothing Ex fields fit h = bare_shows_nothing fields fit h
delete_shows_nothing Nf fields fit h = bare_shows_nothing fields fit h
delete_shows_nothing Va fields fit h = fit
delete_shows_nothing En fields fit h = fit
delete_shows_nothing Ns fields fit h = fit

after_not : (a b : Bool) → (not a && b) ≡ true → b ≡ true
after_not true b h = absurd (cc)
after_not false b h = h

-- of a store neither flags nor the size can be asked for
not_wanted : (ts : List Token) → are_served of_store ts ≡ true → (wants ts LetterF ≡ false) × (wants ts LetterS ≡ false)
not_wanted [] h = (refl, refl)
not_wanted (tokens.Cas ∷ ts) h = not_wanted ts (after_not (wants ts LetterC) (are_served of_store ts) h)
not_wanted (tokens.Key ∷ ts) h = not_wanted ts (after_not (wants ts LetterK) (are_served of_store ts) h)
not_wanted (tokens.Opaque t ∷ ts) h = not_wanted ts (after_not (wants ts LetterO) (are_served of_store ts) h)
not_wanted (tokens.Flags ∷ ts) h = absurd (cc)
not_wanted (tokens.Size ∷ ts) h = absurd (cc)
not_wanted (tokens.Ttl ∷ ts) h = absurd (cc)
not_wanted (tokens.Value ∷ ts) h = absurd (cc)

taking_store : (ask : Ask) (code : Code) (fields : Fields) → are_served of_store ask.tokens ≡ true → FitsMetaStore ask.tokens code fields → fields_show fields ≡ true → ⊥
taking_store ask code fields served fit h = let n = not_wanted ask.tokens served in store_shows_nothing ask.tokens code fields n.0 n.1 fit h

taking_code : (op : Op) (ask : Ask) (code : Code) (fields : Fields) → HasShapeOf ask (meta_shape op) → FitsMetaCode op ask.tokens code fields → fields_show fields ≡ true → IsTaking op
taking_code Get ask c f s fit h = tt
taking_code Gat ask c f s fit h = tt
taking_code Incr ask c f s fit h = tt
taking_code Decr ask c f s fit h = tt
taking_code Delete ask c f s fit h = delete_shows_nothing c f fit h
taking_code Touch ask c f s fit h = fit
taking_code Set ask c f s fit h = taking_store ask c f s.tokens fit h
taking_code Add ask c f s fit h = taking_store ask c f s.tokens fit h
taking_code Replace ask c f s fit h = taking_store ask c f s.tokens fit h
taking_code Append ask c f s fit h = taking_store ask c f s.tokens fit h
taking_code Prepend ask c f s fit h = taking_store ask c f s.tokens fit h
taking_code Cas ask c f s fit h = taking_store ask c f s.tokens fit h

taking_meta : (op : Op) (ask : Ask) (answer : Answer) → HasShapeOf ask (meta_shape op) → FitsMeta op ask.tokens answer → shows answer ≡ true → IsTaking op
taking_meta op ask (Meta c f) s fit h = taking_code op ask c f s fit h
taking_meta op ask Stored s fit h = absurd (cc)
taking_meta op ask NotStored s fit h = absurd (cc)
taking_meta op ask Exists s fit h = absurd (cc)
taking_meta op ask NotFound s fit h = absurd (cc)
taking_meta op ask Deleted s fit h = absurd (cc)
taking_meta op ask Touched s fit h = absurd (cc)
taking_meta op ask Miss s fit h = absurd (cc)
taking_meta op ask Error s fit h = absurd (cc)
taking_meta op ask (ClientError t) s fit h = absurd (cc)
taking_meta op ask (ServerError t) s fit h = absurd (cc)
taking_meta op ask (Number n) s fit h = absurd (cc)
taking_meta op ask (Hit a b d) s fit h = absurd (cc)

-- an answer that shows an item is one to an operation that takes
taking_fits : (ask : Ask) (answer : Answer) → IsAsk ask → Fits ask answer → shows answer ≡ true → IsTaking ask.op
taking_fits ask answer is fits h = in_dialect ask.dialect is.shape fits.listed
  where
    in_dialect : (d : Dialect) → HasShapeOf ask (shape_of d ask.op) → FitsIn d ask answer → IsTaking ask.op
    in_dialect dialects.Classic s f = taking_classic ask.op ask.with_cas answer f h
    in_dialect dialects.Meta s f = taking_meta ask.op ask answer s f h

-- what shows an item takes
abbrev FromTakes : Ask → Given → Type 0
FromTakes ask given = (i : ℕ) → given.from ≡ Some i → IsTaking ask.op

from_outcome : (ask : Ask) (b : ℕ) (outcome : Outcome) → IsAsk ask → FitsOutcome ask outcome → FromTakes ask (given_by b outcome)
from_outcome ask b Failed is fit i e = absurd (cc)
from_outcome ask b (Answered answer) is fit i e =
    (elim (shows answer) as (λ s. shows answer ≡ s → cond s (Some b) None ≡ Some i → IsTaking ask.op) [
      | true ↦ λ h _. taking_fits ask answer is fit h
      | false ↦ λ _ n. absurd (cc)
    ]) refl e

pub taking_get : (op : Op) → op ≡ Get → IsTaking op
taking_get op e = subst IsTaking (sym e) tt

mutual
  pub from_takes : (p : Plan) (ask : Ask) (origin : Origin) (b : ℕ) (calls : List Call) (given : Given) → IsAsk ask → PlanWord p ask origin b calls given → FromTakes ask given
  from_takes (Server s) ask origin b calls given is w = subst (FromTakes ask) (sym w.3) (from_outcome ask b w.0 is w.1)
  from_takes Null ask origin b calls given is w = subst (FromTakes ask) (sym w.1) (λ i e. absurd (cc))
  from_takes Failing ask origin b calls given is w = subst (FromTakes ask) (sym w.1) (λ i e. absurd (cc))
  from_takes (AllSync ps) ask origin b calls given is w = worst_is (FromTakes ask) w.0 given (from_all ps ask origin b calls w.0 is w.1) w.2
  from_takes (Failover ps) ask origin b calls given is w = from_first ps 4 ask origin b calls given is w
  from_takes (MissFailover ps) ask origin b calls given is w =
      if_get ask.op _ _ (FromTakes ask given) w (λ e _ i _. taking_get ask.op e) (λ h. from_head ps ask origin b calls given is h)
  from_takes (WarmUp cold warm e) ask origin b calls given is w =
      if_get ask.op _ _ (FromTakes ask given) w (λ e _ i _. taking_get ask.op e) (λ h. from_takes cold ask origin b calls given is h)
  from_takes (ByOperation policies) ask origin b calls given is w = from_policy policies ask origin b calls given is w

  from_all : (ps : Plans) (ask : Ask) (origin : Origin) (b : ℕ) (calls : List Call) (all : List Given) → IsAsk ask → WordOfAll ps ask origin b calls all → Each (FromTakes ask) all
  from_all End ask origin b calls all is w = subst (Each (FromTakes ask)) (sym w.1) tt
  from_all (More p ps) ask origin b calls all is w =
      subst (Each (FromTakes ask)) (sym w.6) (from_takes p ask origin b w.0 w.3 is w.4, from_all ps ask origin (b + length w.0) w.1 w.5 is w.7)

  from_first : (ps : Plans) (limit : ℕ) (ask : Ask) (origin : Origin) (b : ℕ) (calls : List Call) (given : Given) → IsAsk ask → WordOfFirst ps limit ask origin b calls given → FromTakes ask given
  from_first End limit ask origin b calls given is w = absurd w
  from_first (More p ps) limit ask origin b calls given is (inl w) = from_takes p ask origin b calls given is w.0
  from_first (More p ps) limit ask origin b calls given is (inr w) = from_first ps limit ask origin (b + length w.0) w.1 given is w.6

  from_head : (ps : Plans) (ask : Ask) (origin : Origin) (b : ℕ) (calls : List Call) (given : Given) → IsAsk ask → WordOfHead ps ask origin b calls given → FromTakes ask given
  from_head End ask origin b calls given is w = absurd w
  from_head (More p ps) ask origin b calls given is w = from_takes p ask origin b calls given is w

  from_policy : (ps : PlanPolicies) (ask : Ask) (origin : Origin) (b : ℕ) (calls : List Call) (given : Given) → IsAsk ask → WordOfPolicy ps ask origin b calls given → FromTakes ask given
  from_policy (Otherwise p) ask origin b calls given is w = from_takes p ask origin b calls given is w
  from_policy (Policy op p rest) ask origin b calls given is w =
      match_bool (same_op op ask.op) _ _ (FromTakes ask given) w (λ h. from_takes p ask origin b calls given is h) (λ h. from_policy rest ask origin b calls given is h)

-- a call that copies what another was answered belongs to a get
pub copy_is_get : (p : Plan) (ask : Ask) (b : ℕ) (calls : List Call) (given : Given) → PlanWord p ask Client b calls given → (j k : ℕ) (copy : Call) → slice_get calls j ≡ Some copy → copy.origin ≡ CopyOf k → ask.op ≡ Get
copy_is_get p ask b calls given w j k copy at is =
    ⊎_elim (λ o. absurd (let e = o.1 in cc)) (λ e. e) (each_at (IsOwn ask Client) calls j copy (own_calls p ask Client b calls given w) at)

-- where each tree covers itself and the later ones, deletes clear what later commands take
pub covering_is_covered : CoveringIsCovered
covering_is_covered at sound = record {
  covered = λ n m delete ask lt op key calls reply from word server takes calls' reply' from' word' ack.
      let given : Given = record { reply = reply; from = from } in
      let w : PlanWord (at m delete.key) ask Client 0 calls given = subst (λ k. PlanWord (at m k) ask Client 0 calls given) key word.1 in
      let taking : IsTaking ask.op =
      ⊎_elim
      (λ f. from_takes (at m delete.key) ask Client 0 calls given word.0 w takes.0 f)
      (λ c. taking_get ask.op (copy_is_get (at m delete.key) ask 0 calls given w c.0 takes.0 c.1 c.2 c.3))
      takes.2 in
      sound n m delete.key lt ask.op taking server (ask, word.0, refl, calls, reply, from, w, takes) (kind_of delete.dialect) delete word'.0 op (kind_is delete.dialect) calls' reply' from' word'.1 ack;
  deletes = λ n delete op calls reply from word i call is.
      ⊎_elim (λ o. ap (λ (a : Ask). a.op) o.0 ∙ op) (λ e. absurd (cc)) (each_at (IsOwn delete Client) calls i call (own_calls (at n delete.key) delete Client 0 calls (record { reply = reply; from = from }) word.1) is);
}
  where
    kind_of : Dialect → Deleting
    kind_of dialects.Classic = kinds.Delete
    kind_of dialects.Meta = kinds.Md

    kind_is : (d : Dialect) → d ≡ deleting_dialect (kind_of d)
    kind_is dialects.Classic = refl
    kind_is dialects.Meta = refl
