-- What a job asks of its own is what a client can write.
use Rattle.std.proofs.Common.{◌≡◌, ℕ, ◌≤◌, List, [], length, refl, sym, ap, ◌∙◌, subst, arith}
use Rattle.mc_types.specs.KeyText.{IsKey}
use Rattle.mc_types.specs.Asks.{AreInRange, HasShapeOf, shape_of, data_limit, IsAsk}
use Rattle.mc_types.specs.Fits.{IsAnswer}
use Rattle.mc_types.specs.declared.ask.Op.{Op}
use Rattle.mc_types.specs.declared.ask.Op.TheVariants.{Get, Gat, Set, Add, Replace, Append, Prepend, Cas, Delete, Incr, Decr, Touch}
use Rattle.mc_types.specs.declared.ask.Dialect.{Dialect}
use Rattle.mc_types.specs.declared.ask.Dialect.TheVariants as dialects
use Rattle.mc_types.specs.declared.ask.Ask.{Ask}
use Rattle.mc_types.specs.declared.answer.Answer.{Answer}
use Rattle.mc_types.specs.declared.answer.Answer.TheVariants.{Hit}
use Rattle.mc_types.specs.declared.call.Outcome.{Outcome}
use Rattle.mc_types.specs.declared.call.Outcome.TheVariants.{Answered, Failed}
use Rattle.fresh_runs.specs.Single.{FitsOutcome, reply_of}
use Rattle.route_tree.specs.Word.{plain_get, refill, answer_of_nothing}
use Rattle.route_job.specs.Parts.{hit_data}

-- ---- the data of a reply

answer_is_short : (answer : Answer) → IsAnswer answer → length (hit_data answer) ≤ data_limit
answer_is_short (Hit flags body cas) is = is.1
answer_is_short _ is = omega arith

pub outcome_is_short : (ask : Ask) (outcome : Outcome) → FitsOutcome ask outcome → length (hit_data (reply_of outcome)) ≤ data_limit
outcome_is_short ask (Answered answer) fits = answer_is_short answer fits.ranges
outcome_is_short ask Failed fits = omega arith

no_data : (dialect : Dialect) (op : Op) → hit_data (answer_of_nothing dialect op) ≡ []
no_data dialects.Classic Get = refl
no_data dialects.Classic Gat = refl
no_data dialects.Classic Set = refl
no_data dialects.Classic Add = refl
no_data dialects.Classic Replace = refl
no_data dialects.Classic Append = refl
no_data dialects.Classic Prepend = refl
no_data dialects.Classic Cas = refl
no_data dialects.Classic Delete = refl
no_data dialects.Classic Incr = refl
no_data dialects.Classic Decr = refl
no_data dialects.Classic Touch = refl
no_data dialects.Meta op = refl

pub nothing_is_short : (dialect : Dialect) (op : Op) (reply : Answer) → reply ≡ answer_of_nothing dialect op → length (hit_data reply) ≤ data_limit
nothing_is_short dialect op reply is = let none = ap (λ a. length (hit_data a)) is ∙ ap length (no_data dialect op) in omega (arith, none)

-- ---- asks of a warm-up

pub get_is_formed : (ask get shared : Ask) → get ≡ plain_get ask → shared ≡ get → IsKey get.key → IsAsk shared
get_is_formed ask get shared is same key =
    subst IsAsk (sym (same ∙ is))
    (record {
      key = subst (λ (a : Ask). IsKey a.key) is key;
      ranges = record { flags = omega arith; exptime = tt; body = omega arith; cas = tt; delta = omega arith };
      shape = record { with_cas = tt; flags = refl; exptime = refl; body = refl; cas = refl; delta = refl; tokens = refl };
    })

refill_data : (ask : Ask) (hit : Answer) (e : ℕ) → (refill ask hit e).body ≡ hit_data hit
refill_data ask (Hit flags body cas) e = refl
refill_data ask _ e = refl

pub refill_is_short : (ask add : Ask) (hit : Answer) (e : ℕ) → add ≡ refill ask hit e → length (hit_data hit) ≤ data_limit → length add.body ≤ data_limit
refill_is_short ask add hit e is short = let same = ap (λ (a : Ask). length a.body) is ∙ ap length (refill_data ask hit e) in omega (arith, same, short)

refill_shape : (ask : Ask) (hit : Answer) (e : ℕ) → HasShapeOf (refill ask hit e) (shape_of (refill ask hit e).dialect (refill ask hit e).op)
refill_shape ask (Hit flags body cas) e = record { with_cas = refl; flags = tt; exptime = refl; body = tt; cas = refl; delta = refl; tokens = refl }
refill_shape ask _ e = record { with_cas = refl; flags = tt; exptime = refl; body = tt; cas = refl; delta = refl; tokens = refl }

pub refill_is_formed : (ask add shared : Ask) (hit : Answer) (e : ℕ) → add ≡ refill ask hit e → shared ≡ add → IsKey add.key → AreInRange add → IsAsk shared
refill_is_formed ask add shared hit e is same key ranges =
    subst IsAsk (sym same)
    (record {
      key = key;
      ranges = ranges;
      shape = subst (λ (a : Ask). HasShapeOf a (shape_of a.dialect a.op)) (sym is) (refill_shape ask hit e);
    })
