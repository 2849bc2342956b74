-- What is computed of a delete is what its words say.
use Rattle.std.proofs.Common.{◌≡◌, ◌≢◌, ℕ, ◌+◌, ◌≤◌, Bool, true, false, not, ◌&&◌, List, [], ◌∷◌, ◌++◌, length, None, ◌⊎◌, inl, inr, ⊎_elim, refl, sym, ap, ◌∙◌, subst, arith, nat_eq}
use Rattle.std.proofs.lemmas.Bool.{eqb-true, eq-eqb}
use Rattle.mc_types.specs.declared.ask.Op.{Op}
use Rattle.mc_types.specs.declared.ask.Op.TheVariants.{Get, Delete}
use Rattle.mc_types.specs.declared.ask.Dialect.{Dialect}
use Rattle.mc_types.specs.declared.ask.Dialect.TheVariants as dialects
use Rattle.mc_types.specs.declared.ask.Ask.{Ask}
use Rattle.mc_types.specs.declared.answer.Answer.{Answer}
use Rattle.mc_types.specs.declared.answer.Answer.TheVariants.{Stored, NotStored, Exists, NotFound, Deleted, Touched, Number, Hit, Miss, Meta, ClientError, Error, ServerError}
use Rattle.mc_types.specs.declared.answer.Code.TheVariants.{Hd, Va, En, Ns, Ex, Nf}
use Rattle.mc_types.specs.declared.token.Token.{Token}
use Rattle.mc_types.specs.declared.call.Origin.TheVariants.{Client}
use Rattle.mc_types.specs.declared.call.Outcome.{Outcome}
use Rattle.mc_types.specs.declared.call.Outcome.TheVariants.{Answered, Failed}
use Rattle.mc_types.specs.Acknowledged.{says_gone}
use Rattle.mc_types.specs.Asks.{IsAsk}
use Rattle.mc_types.specs.Fits.{Fits, FitsIn, FitsClassic, FitsMeta, FitsDelete}
use Rattle.mc_types.specs.Rank.{rank_of, IsWorst, NoneAbove}
use Rattle.fresh_runs.specs.Calls.{Call}
use Rattle.fresh_runs.specs.Cover.{ClearsIn}
use Rattle.fresh_runs.specs.Single.{FitsOutcome}
use Rattle.route_tree.specs.Each.{Each}
use Rattle.route_tree.specs.Operation.{same_op}
use Rattle.route_tree.specs.Plan.{Plan, Plans, PlanPolicies, Server, Null, Failing, AllSync, Failover, MissFailover, WarmUp, ByOperation, End, More, Otherwise, Policy, IsGoodPlan, AreGoodPlans, AreGoodPlanPolicies}
use Rattle.route_tree.specs.Word.{Given, rank, given_by, null_reply, no_fields, answer_of_nothing, PlanWord, WordOfAll, WordOfFirst, WordOfHead, WordOfPolicy}
use Rattle.route_tree.proofs.Parts.{each_weaker, worst_is}
use Rattle.route_tree.proofs.Places.{each_append, each_left, each_right}
use Rattle.gate_coverage.specs.declared.deleting.Deleting.{Deleting}
use Rattle.gate_coverage.specs.declared.deleting.Deleting.TheVariants as kinds
use Rattle.gate_coverage.specs.Cover.{Clears, deleting_dialect}
use Rattle.gate_coverage.specs.Computed.{can_fail, kept, kept_each, kept_first, kept_head, kept_policy, cleared}
use Rattle.gate_coverage.specs.Exact.{ClearedIsExact}
use Rattle.gate_coverage.proofs.Choices.{both, both_split, either_left, either_right, either_split, bool_is, if_true, if_false, cond_true, cond_false, not_false, match_true, match_false, true_match, false_match, only_other}
use Rattle.gate_coverage.proofs.Failing.{word_fails}
use Rattle.gate_coverage.proofs.Low.{HasFailed, low, first_given}

-- the outcome clears its server
abbrev outcome_gone : Outcome → Bool
outcome_gone (Answered answer) = says_gone answer
outcome_gone Failed = false

-- the call doesn't clear the server
abbrev Leaves : ℕ → Call → Type 0
Leaves s call = nat_eq call.server s && outcome_gone call.outcome ≡ false

gone_answer : (outcome : Outcome) → outcome_gone outcome ≡ true → (answer : Answer) × (outcome ≡ Answered answer) × (says_gone answer ≡ true)
gone_answer (Answered answer) h = (answer, refl, h)
gone_answer Failed h = absurd (cc)

clears_or_leaves : (calls : List Call) (s : ℕ) → ClearsIn calls s ⊎ Each (Leaves s) calls
clears_or_leaves [] s = inr tt
clears_or_leaves (c ∷ calls) s =
    ⊎_elim
    (λ here. let h = both_split (nat_eq c.server s) (outcome_gone c.outcome) here in inl (inl (eqb-true c.server s h.0, gone_answer c.outcome h.1)))
    (λ not_here. ⊎_elim (λ there. inl (inr there)) (λ rest. inr (not_here, rest)) (clears_or_leaves calls s))
    (bool_is (nat_eq c.server s && outcome_gone c.outcome))

leaves_clears : (calls : List Call) (s : ℕ) → Each (Leaves s) calls → ClearsIn calls s → ⊥
leaves_clears [] s leaves h = h
leaves_clears (c ∷ calls) s leaves (inl h) =
    let a = h.1 in
    let here : (nat_eq c.server s && outcome_gone c.outcome) ≡ true = both (nat_eq c.server s) (outcome_gone c.outcome) (eq-eqb c.server s h.0) (ap outcome_gone a.1 ∙ a.2) in
    let none = leaves.0 in cc
leaves_clears (c ∷ calls) s leaves (inr h) = leaves_clears calls s leaves.1 h

-- where every call fails, no server is cleared
failed_leaves : (s : ℕ) (calls : List Call) → Each HasFailed calls → Each (Leaves s) calls
failed_leaves s calls h = each_weaker HasFailed (Leaves s) calls (λ c f. never (nat_eq c.server s) (outcome_gone c.outcome) (ap outcome_gone f)) h
  where
    never : (a g : Bool) → g ≡ false → (a && g) ≡ false
    never true g e = e
    never false g e = refl

-- an answer to a delete of a rank below 2 says that the key is gone
classic_gone : (answer : Answer) → FitsDelete answer → rank_of answer ≤ 1 → says_gone answer ≡ true
classic_gone Deleted f le = refl
classic_gone NotFound f le = refl
classic_gone Error f le = absurd (omega arith)
classic_gone (ClientError t) f le = absurd (omega arith)
classic_gone (ServerError t) f le = absurd (omega arith)
classic_gone Stored f le = absurd (cc)
classic_gone NotStored f le = absurd (cc)
classic_gone Exists f le = absurd (cc)
classic_gone Touched f le = absurd (cc)
classic_gone Miss f le = absurd (cc)
classic_gone (Number n) f le = absurd (cc)
classic_gone (Hit a b c) f le = absurd (cc)
classic_gone (Meta c fields) f le = absurd (cc)

meta_gone : (answer : Answer) (ts : List Token) → FitsMeta Delete ts answer → rank_of answer ≤ 1 → says_gone answer ≡ true
meta_gone (Meta Hd fields) t f le = refl
meta_gone (Meta Nf fields) t f le = refl
meta_gone (Meta Ex fields) t f le = absurd (omega arith)
meta_gone (Meta Va fields) t f le = absurd f
meta_gone (Meta En fields) t f le = absurd f
meta_gone (Meta Ns fields) t f le = absurd f
meta_gone Error t f le = absurd (omega arith)
meta_gone (ClientError x) t f le = absurd (omega arith)
meta_gone (ServerError x) t f le = absurd (omega arith)
meta_gone Deleted t f le = absurd (cc)
meta_gone NotFound t f le = absurd (cc)
meta_gone Stored t f le = absurd (cc)
meta_gone NotStored t f le = absurd (cc)
meta_gone Exists t f le = absurd (cc)
meta_gone Touched t f le = absurd (cc)
meta_gone Miss t f le = absurd (cc)
meta_gone (Number n) t f le = absurd (cc)
meta_gone (Hit a b c) t f le = absurd (cc)

low_gone : (ask : Ask) (answer : Answer) → ask.op ≡ Delete → Fits ask answer → rank_of answer ≤ 1 → says_gone answer ≡ true
low_gone ask answer op fits le = in_dialect ask.dialect fits.listed
  where
    in_dialect : (d : Dialect) → FitsIn d ask answer → says_gone answer ≡ true
    in_dialect dialects.Classic f = classic_gone answer (subst (λ o. FitsClassic o ask.with_cas answer) op f) le
    in_dialect dialects.Meta f = meta_gone answer ask.tokens (subst (λ o. FitsMeta o ask.tokens answer) op f) le

gone_rank : (answer : Answer) → says_gone answer ≡ true → rank_of answer ≤ 1
gone_rank Deleted h = omega arith
gone_rank NotFound h = omega arith
gone_rank (Meta Hd fields) h = omega arith
gone_rank (Meta Nf fields) h = omega arith
gone_rank (Meta Va fields) h = absurd (cc)
gone_rank (Meta En fields) h = absurd (cc)
gone_rank (Meta Ns fields) h = absurd (cc)
gone_rank (Meta Ex fields) h = absurd (cc)
gone_rank Stored h = absurd (cc)
gone_rank NotStored h = absurd (cc)
gone_rank Exists h = absurd (cc)
gone_rank Touched h = absurd (cc)
gone_rank Miss h = absurd (cc)
gone_rank Error h = absurd (cc)
gone_rank (Number n) h = absurd (cc)
gone_rank (Hit a b c) h = absurd (cc)
gone_rank (ClientError t) h = absurd (cc)
gone_rank (ServerError t) h = absurd (cc)

delete_is_other : (op : Op) → op ≡ Delete → op ≢ Get
delete_is_other op e f = cc

-- ---- a word that is acknowledged and leaves the server is computed

module _ (s : ℕ) (ask : Ask) (op : ask.op ≡ Delete) where
  abbrev Kept : Plan → List Call → Given → Type 0
  Kept p calls given = rank given ≤ 1 → Each (Leaves s) calls → kept Delete s p ≡ true

  away : (a g : Bool) → g ≡ true → (a && g) ≡ false → not a ≡ true
  away true g h f = absurd (cc)
  away false g h f = refl

  server_keeps : (t b : ℕ) (outcome : Outcome) → FitsOutcome ask outcome → rank (given_by b outcome) ≤ 1 → nat_eq t s && outcome_gone outcome ≡ false → not (nat_eq t s) ≡ true
  server_keeps t b Failed fits le leaves = absurd (omega arith)
  server_keeps t b (Answered answer) fits le leaves = away (nat_eq t s) (says_gone answer) (low_gone ask answer op fits le) leaves

  mutual
    word_keeps : (p : Plan) (b : ℕ) (calls : List Call) (given : Given) → PlanWord p ask Client b calls given → Kept p calls given
    word_keeps (Server t) b calls given w le leaves =
        let l = subst (Each (Leaves s)) w.2 leaves in
        server_keeps t b w.0 w.1 (let e = ap rank w.3 in omega arith) l.0
    word_keeps Null b calls given w le leaves = refl
    word_keeps Failing b calls given w le leaves = absurd (let e = ap rank w.1 in omega arith)
    word_keeps (AllSync ps) b calls given w le leaves = each_keeps ps b calls w.0 w.1 (below w.0 given w.2 le) leaves
      where
        weaker : (gs : List Given) (r q : ℕ) → r ≤ q → NoneAbove rank gs r → NoneAbove rank gs q
        weaker [] r q le h = tt
        weaker (g ∷ gs) r q le h = ((let k = h.0 in omega arith), weaker gs r q le h.1)

        below : (all : List Given) (worst : Given) → IsWorst rank all worst → rank worst ≤ 1 → NoneAbove rank all 1
        below [] worst is le = absurd is
        below (g ∷ gs) worst (inl h) le = ((let e = ap rank h.0 in omega arith), weaker gs (rank worst) 1 le h.1)
        below (g ∷ gs) worst (inr h) le = ((let e = h.0 in omega arith), below gs worst h.1 le)
    word_keeps (Failover ps) b calls given w le leaves = first_keeps ps b calls given w le leaves
    word_keeps (MissFailover ps) b calls given w le leaves = head_keeps ps b calls given (only_other ask.op _ _ (delete_is_other ask.op op) w) le leaves
    word_keeps (WarmUp cold warm e) b calls given w le leaves = word_keeps cold b calls given (only_other ask.op _ _ (delete_is_other ask.op op) w) le leaves
    word_keeps (ByOperation policies) b calls given w le leaves = policy_keeps policies b calls given w le leaves

    each_keeps : (ps : Plans) (b : ℕ) (calls : List Call) (all : List Given) → WordOfAll ps ask Client b calls all → NoneAbove rank all 1 → Each (Leaves s) calls → kept_each Delete s ps ≡ true
    each_keeps End b calls all w none leaves = refl
    each_keeps (More p ps) b calls all w none leaves =
        let h = subst (λ a. NoneAbove rank a 1) w.6 none in
        let l = subst (Each (Leaves s)) w.2 leaves in
        both (kept Delete s p) _ (word_keeps p b w.0 w.3 w.4 h.0 (each_left (Leaves s) w.0 w.1 l)) (each_keeps ps (b + length w.0) w.1 w.5 w.7 h.1 (each_right (Leaves s) w.0 w.1 l))

    first_keeps : (ps : Plans) (b : ℕ) (calls : List Call) (given : Given) → WordOfFirst ps 4 ask Client b calls given → rank given ≤ 1 → Each (Leaves s) calls → kept_first Delete s ps ≡ true
    first_keeps End b calls given w le leaves = absurd w
    first_keeps (More p ps) b calls given (inl w) le leaves = either_left (kept Delete s p) _ (word_keeps p b calls given w.0 le leaves)
    first_keeps (More p ps) b calls given (inr w) le leaves =
        let l = subst (Each (Leaves s)) w.2 leaves in
        either_right (kept Delete s p) _ (both (can_fail Delete p) _ (subst (λ o. can_fail o p ≡ true) op (word_fails p ask Client b w.0 w.3 w.4 w.5)) (first_keeps ps (b + length w.0) w.1 given w.6 le (each_right (Leaves s) w.0 w.1 l)))

    head_keeps : (ps : Plans) (b : ℕ) (calls : List Call) (given : Given) → WordOfHead ps ask Client b calls given → rank given ≤ 1 → Each (Leaves s) calls → kept_head Delete s ps ≡ true
    head_keeps End b calls given w le leaves = absurd w
    head_keeps (More p ps) b calls given w le leaves = word_keeps p b calls given w le leaves

    policy_keeps : (ps : PlanPolicies) (b : ℕ) (calls : List Call) (given : Given) → WordOfPolicy ps ask Client b calls given → rank given ≤ 1 → Each (Leaves s) calls → kept_policy Delete s ps ≡ true
    policy_keeps (Otherwise p) b calls given w le leaves = word_keeps p b calls given w le leaves
    policy_keeps (Policy o p rest) b calls given w le leaves =
        ⊎_elim
        (λ e. if_true (same_op o Delete) _ _ (ap (same_op o) (sym op) ∙ e) (word_keeps p b calls given (true_match _ _ _ e w) le leaves))
        (λ e. if_false (same_op o Delete) _ _ (ap (same_op o) (sym op) ∙ e) (policy_keeps rest b calls given (false_match _ _ _ e w) le leaves))
        (bool_is (same_op o ask.op))

-- ---- what is computed comes in a word

-- a delete of the kind
abbrev a_delete : Deleting → Ask
a_delete kind = record { key = 97 ∷ []; op = Delete; dialect = deleting_dialect kind; with_cas = false; flags = 0; exptime = None; body = []; cas = None; delta = 0; tokens = [] }

is_a_delete : (kind : Deleting) → IsAsk (a_delete kind)
is_a_delete kinds.Delete = record { key = record { some = omega arith; short = omega arith; bytes = refl }; ranges = record { flags = omega arith; exptime = tt; body = omega arith; cas = tt; delta = omega arith }; shape = record { with_cas = refl; flags = refl; exptime = refl; body = refl; cas = refl; delta = refl; tokens = refl } }
is_a_delete kinds.Md = record { key = record { some = omega arith; short = omega arith; bytes = refl }; ranges = record { flags = omega arith; exptime = tt; body = omega arith; cas = tt; delta = omega arith }; shape = record { with_cas = refl; flags = refl; exptime = refl; body = refl; cas = tt; delta = refl; tokens = refl } }

-- an answer that says that the key is gone
abbrev gone_for : Deleting → Answer
gone_for kinds.Delete = Deleted
gone_for kinds.Md = Meta Hd no_fields

gone_fits : (kind : Deleting) → Fits (a_delete kind) (gone_for kind)
gone_fits kinds.Delete = record { ranges = tt; listed = tt }
gone_fits kinds.Md = record { ranges = record { body = tt; cas = tt; flags = tt; size = tt; ttl = tt }; listed = record { body_is = refl; cas = refl; flags = refl; size = refl; ttl = refl } }

gone_says : (kind : Deleting) → says_gone (gone_for kind) ≡ true
gone_says kinds.Delete = refl
gone_says kinds.Md = refl

null_gone : (kind : Deleting) → says_gone (answer_of_nothing (deleting_dialect kind) Delete) ≡ true
null_gone kinds.Delete = refl
null_gone kinds.Md = refl

module _ (s : ℕ) (kind : Deleting) where
  abbrev IsGone : Given → Type 0
  IsGone given = says_gone given.reply ≡ true

  abbrev Found : Plan → ℕ → Type 0
  Found p b = (calls : List Call) × (given : Given) × PlanWord p (a_delete kind) Client b calls given × IsGone given × Each (Leaves s) calls

  elsewhere : (a g : Bool) → not a ≡ true → (a && g) ≡ false
  elsewhere true g h = absurd (cc)
  elsewhere false g h = refl

  mutual
    keeps_word : (p : Plan) → IsGoodPlan p → (b : ℕ) → kept Delete s p ≡ true → Found p b
    keeps_word (Server t) good b h =
        (record { server = t; ask = a_delete kind; origin = Client; outcome = Answered (gone_for kind) } ∷ [], given_by b (Answered (gone_for kind)), (Answered (gone_for kind), gone_fits kind, refl, refl), gone_says kind, (elsewhere (nat_eq t s) (says_gone (gone_for kind)) h, tt))
    keeps_word Null good b h = ([], null_reply (a_delete kind), (refl, refl), null_gone kind, tt)
    keeps_word Failing good b h = absurd (cc)
    keeps_word (AllSync ps) good b h =
        let w = keeps_each ps good.1 b h in
        let g = first_given ps good.0 (a_delete kind) Client b w.0 w.1 w.2 in
        (w.0, g.0, (w.1, w.2, g.1), worst_is IsGone w.1 g.0 w.3 g.1, w.4)
    keeps_word (Failover ps) good b h = keeps_first ps good.1 b h
    keeps_word (MissFailover ps) good b h = keeps_head ps good.1 b h
    keeps_word (WarmUp cold warm e) good b h = keeps_word cold good.0 b h
    keeps_word (ByOperation policies) good b h = keeps_policy policies good b h

    keeps_each : (ps : Plans) → AreGoodPlans ps → (b : ℕ) → kept_each Delete s ps ≡ true → (calls : List Call) × (all : List Given) × WordOfAll ps (a_delete kind) Client b calls all × Each IsGone all × Each (Leaves s) calls
    keeps_each End good b h = ([], [], (refl, refl), tt, tt)
    keeps_each (More p ps) good b h =
        let t = both_split (kept Delete s p) (kept_each Delete s ps) h in
        let f = keeps_word p good.0 b t.0 in
        let rest = keeps_each ps good.1 (b + length f.0) t.1 in
        (f.0 ++ rest.0, f.1 ∷ rest.1, (f.0, rest.0, refl, f.1, f.2, rest.1, refl, rest.2), (f.3, rest.3), each_append (Leaves s) f.0 rest.0 f.4 rest.4)

    keeps_first : (ps : Plans) → AreGoodPlans ps → (b : ℕ) → kept_first Delete s ps ≡ true → (calls : List Call) × (given : Given) × WordOfFirst ps 4 (a_delete kind) Client b calls given × IsGone given × Each (Leaves s) calls
    keeps_first End good b h = absurd (cc)
    keeps_first (More p ps) good b h =
        ⊎_elim
        (λ here. let f = keeps_word p good.0 b here in (f.0, f.1, inl (f.2, inl (let le = gone_rank f.1.reply f.3 in omega arith)), f.3, f.4))
        (λ there.
        let t = both_split (can_fail Delete p) (kept_first Delete s ps) there in
        let f = low p good.0 (a_delete kind) Client b in
        let rest = keeps_first ps good.1 (b + length f.0) t.1 in
        (f.0 ++ rest.0, rest.1, inr (f.0, rest.0, refl, f.1, f.2, f.3.worst t.0, rest.2), rest.3, each_append (Leaves s) f.0 rest.0 (failed_leaves s f.0 f.3.failed) rest.4))
        (either_split (kept Delete s p) (can_fail Delete p && kept_first Delete s ps) h)

    keeps_head : (ps : Plans) → AreGoodPlans ps → (b : ℕ) → kept_head Delete s ps ≡ true → (calls : List Call) × (given : Given) × WordOfHead ps (a_delete kind) Client b calls given × IsGone given × Each (Leaves s) calls
    keeps_head End good b h = absurd (cc)
    keeps_head (More p ps) good b h = keeps_word p good.0 b h

    keeps_policy : (ps : PlanPolicies) → AreGoodPlanPolicies ps → (b : ℕ) → kept_policy Delete s ps ≡ true → (calls : List Call) × (given : Given) × WordOfPolicy ps (a_delete kind) Client b calls given × IsGone given × Each (Leaves s) calls
    keeps_policy (Otherwise p) good b h = keeps_word p good b h
    keeps_policy (Policy o p rest) good b h =
        ⊎_elim
        (λ e. let f = keeps_word p good.0 b (cond_true (same_op o Delete) _ _ e h) in (f.0, f.1, match_true (same_op o Delete) _ _ e f.2, f.3, f.4))
        (λ e. let f = keeps_policy rest good.1 b (cond_false (same_op o Delete) _ _ e h) in (f.0, f.1, match_false (same_op o Delete) _ _ e f.2, f.3, f.4))
        (bool_is (same_op o Delete))

module _ (plain : Plan) (kind : Deleting) (s : ℕ) (good : IsGoodPlan plain) where
  cleared_clears : cleared plain s ≡ true → Clears plain kind s
  cleared_clears h ask is op dialect calls reply from w ack =
      ⊎_elim
      (λ clears. clears)
      (λ leaves. absurd (not_false (kept Delete s plain) h (word_keeps s ask op plain 0 calls (record { reply = reply; from = from }) w (gone_rank reply ack.1) leaves)))
      (clears_or_leaves calls s)

  clears_cleared : Clears plain kind s → cleared plain s ≡ true
  clears_cleared clears =
      ⊎_elim
      (λ is.
      let f = keeps_word s kind plain good 0 is in
      absurd (leaves_clears f.0 s f.4 (clears (a_delete kind) (is_a_delete kind) refl refl f.0 f.1.reply f.1.from f.2 (refl, f.3))))
      (λ is. ap not is)
      (bool_is (kept Delete s plain))

pub cleared_is_exact : ClearedIsExact
cleared_is_exact plain kind s good = (cleared_clears plain kind s good, clears_cleared plain kind s good)
