-- A single server's deletes clear what its later commands take, and its replies show what they found.
use Rattle.std.proofs.Common.{◌≡◌, ℕ, Bool, true, false, cond, List, [], ◌∷◌, Some, None, MatchOption, refl, sym, ap, ◌∙◌, subst, slice_get, inl}
use Rattle.mc_types.specs.declared.ask.Ask.{Ask}
use Rattle.mc_types.specs.declared.answer.Answer.{Answer}
use Rattle.mc_types.specs.declared.call.Origin.TheVariants.{Client, CopyOf}
use Rattle.mc_types.specs.declared.call.Outcome.{Outcome}
use Rattle.mc_types.specs.declared.call.Outcome.TheVariants.{Answered, Failed}
use Rattle.mc_types.specs.Acknowledged.{says_gone}
use Rattle.mc_types.specs.Asks.{IsAsk}
use Rattle.mc_types.specs.Fits.{Fits}
use Rattle.mc_types.specs.Shows.{shows}
use Rattle.fresh_runs.specs.Calls.{Call}
use Rattle.fresh_runs.specs.Run.{CopiesBar}
use Rattle.fresh_runs.specs.Cover.{ClearsIn, IsCovered, IsAnswerOf, ShowsWhatItFound}
use Rattle.fresh_runs.specs.Single.{FitsOutcome, reply_of, from_of, server_call, server_words}
use Rattle.fresh_runs.specs.Freshness.{SingleServerLaws, nobody_bars}
use Rattle.fresh_runs.proofs.Lists.{only_one}
use Rattle.fresh_runs.proofs.Fresh.{fresh, runs_are_fresh}

module _ (server_of : List ℕ → ℕ) where
  clears : (delete : Ask) (outcome : Outcome) (server : ℕ) → server_of delete.key ≡ server → says_gone (reply_of outcome) ≡ true → ClearsIn (server_call server_of delete outcome ∷ []) server
  clears delete (Answered answer) server at gone = inl (at, (answer, refl, gone))
  clears delete Failed server at gone = absurd (cc)

  pub single_covered : IsCovered (server_words server_of)
  single_covered =
      record {
        covered = λ a b delete ask lt op at calls reply from word server takes calls' reply' from' word' ack.
            let is : server_call server_of ask word.1 ≡ takes.1.0 = only_one (server_call server_of ask word.1) takes.1.0 takes.0 (subst (λ l. slice_get l takes.0 ≡ Some takes.1.0) word.3 takes.1.1) in
            let place : server_of delete.key ≡ server = ap server_of (sym at) ∙ ap (λ (c : Call). c.server) is ∙ takes.1.2 in
            subst (λ l. ClearsIn l server) (sym word'.3) (clears delete word'.1 server place (ap says_gone (sym word'.4) ∙ ack.1));
        deletes = λ a delete op calls reply from word i call got.
            let is : server_call server_of delete word.1 ≡ call = only_one (server_call server_of delete word.1) call i (subst (λ l. slice_get l i ≡ Some call) word.3 got) in
            ap (λ (c : Call). c.ask.op) (sym is) ∙ op;
      }

  answer_shown : (ask : Ask) (answer : Answer) (b : Bool) → shows answer ≡ b → IsAsk ask → Fits ask answer → MatchOption (cond b (Some 0) None) (shows answer ≡ false) (λ i. IsAnswerOf (server_call server_of ask (Answered answer) ∷ []) i answer)
  answer_shown ask answer true e asked fits = record { call = server_call server_of ask (Answered answer); made = refl; answered = refl; asked = asked; fits = fits; showing = e }
  answer_shown ask answer false e asked fits = e

  outcome_shown : (ask : Ask) (outcome : Outcome) → IsAsk ask → FitsOutcome ask outcome → MatchOption (from_of outcome) (shows (reply_of outcome) ≡ false) (λ i. IsAnswerOf (server_call server_of ask outcome ∷ []) i (reply_of outcome))
  outcome_shown ask (Answered answer) asked fits = answer_shown ask answer (shows answer) refl asked fits
  outcome_shown ask Failed asked fits = refl

  pub single_shows : ShowsWhatItFound (server_words server_of)
  single_shows number ask calls reply from word =
      subst (λ f. MatchOption f (shows reply ≡ false) (λ i. IsAnswerOf calls i reply)) (sym word.5)
      (subst (λ r. MatchOption (from_of word.1) (shows r ≡ false) (λ i. IsAnswerOf calls i r)) (sym word.4)
      (subst (λ l. MatchOption (from_of word.1) (shows (reply_of word.1) ≡ false) (λ i. IsAnswerOf l i (reply_of word.1))) (sym word.3)
      (outcome_shown ask word.1 word.0 word.2)))

  client_is : (i : ℕ) → Client ≡ CopyOf i → ⊥
  client_is i e = cc

  -- it copies nothing
  single_copies : CopiesBar (server_words server_of) nobody_bars
  single_copies number ask calls reply from word j call i at o n delete op same =
      let is : server_call server_of ask word.1 ≡ call = only_one (server_call server_of ask word.1) call j (subst (λ l. slice_get l j ≡ Some call) word.3 at) in
      client_is i (ap (λ (c : Call). c.origin) is ∙ o)

  pub single_laws : SingleServerLaws server_of
  single_laws =
      record {
        covered = single_covered;
        shows = single_shows;
        fresh = runs_are_fresh (server_words server_of) single_covered;
        shares = fresh (server_words server_of) nobody_bars single_covered single_copies;
      }
