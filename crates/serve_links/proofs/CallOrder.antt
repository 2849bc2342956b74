-- What an answer that was read says of the core's call.
use Rattle.std.specs.Prelude.{slice_get}
use Rattle.std.specs.List.{Any}
use Rattle.std.proofs.Common.{◌≡◌, ℕ, zero, suc, arith, true, false, cond, List, [], ◌∷◌, Option, Some, None, refl, sym, ap, ◌∙◌, subst}
use mathlib.Core.HLevel.{is_prop→PathP}
use Rattle.mc_types.specs.Asks.{IsAsk}
use Rattle.mc_types.specs.Fits.{Fits}
use Rattle.mc_types.specs.declared.ask.Ask.{Ask}
use Rattle.mc_types.specs.declared.ask.Dialect.{Dialect}
use Rattle.mc_types.specs.declared.ask.Dialect.TheVariants.{Classic, Meta}
use Rattle.mc_types.specs.declared.answer.Answer.{Answer}
use Rattle.mc_types.specs.declared.call.Outcome.{Outcome}
use Rattle.mc_types.specs.declared.call.Outcome.TheVariants.{Answered}
use Rattle.wire_answers.specs.Laws.{SpelledAnswersFit}
use Rattle.wire_answers.specs.Reading.{ReadsAnswer}
use Rattle.wire_answers.specs.declared.reader.AnswerRead.{AnswerRead}
use Rattle.wire_answers.specs.declared.reader.AnswerRead.TheVariants as reads
use Rattle.wire_stream.specs.Form.{is_retrieval, meta_form}
use Rattle.wire_stream.specs.Reading.{ReadsInMeta}
use Rattle.route_job.specs.AtMostOne.{is_ask_prop}
use Rattle.route_job.specs.Rest.{ask_under}
use Rattle.core_commands.specs.declared.command.Command.{Command}
use Rattle.core_proxy.specs.declared.proxy.Core.{Core}
use Rattle.core_proxy.specs.CoreState.{has_call_out}
use Rattle.core_proxy.specs.Settles.{FitsCall, asked, asked_by}
use Rattle.core_accepted.specs.declared.served.ServedCore.{ServedCore}
use Rattle.core_accepted.specs.Results.{IsSettled}
use Rattle.serve_links.specs.Dialects.{asked_in, IsForeignIn}
use Rattle.serve_links.specs.declared.calls.calls.SentCall.{SentCall}
use Rattle.serve_links.specs.declared.calls.late_call.LateCall.{LateCall}
use Rattle.serve_links.specs.Lateness.{IsLate}
use Rattle.serve_links.specs.Calls.{IsReadFor, IsReadNext, first_asked, FitsFirst, SettlesFirst}

pub same_is_ask : (a b : Ask) → a ≡ b → IsAsk b → IsAsk a
same_is_ask a b same is = subst IsAsk (sym same) is

-- one of them is late
pub late_there : (most now : ℕ) (calls : List SentCall) (k : ℕ) (call : SentCall) → slice_get calls k ≡ Some call → IsLate most now call → Any (IsLate most now) calls
late_there most now [] k call e is = absurd (none_some e)
  where
    none_some : ◌≡◌ {A = Option SentCall} None (Some call) → ⊥
    none_some e = cc
late_there most now (x ∷ xs) zero call e is = (0, x, omega arith, refl, subst (IsLate most now) (sym (same_call e)) is)
  where
    same_call : ◌≡◌ {A = Option SentCall} (Some x) (Some call) → x ≡ call
    same_call e = cc
late_there most now (x ∷ xs) (suc k) call e is = let r = late_there most now xs k call e is in (suc r.0, r.1, omega (arith, r.2), r.3, r.4)

pub same_late : (a b : LateCall) → a.number ≡ b.number → a.dialect ≡ b.dialect → a.since ≡ b.since → a.ask ≡ b.ask → a ≡ b
same_late a b number dialect since ask = λ i. record {
  number = number i;
  dialect = dialect i;
  since = since i;
  ask = ask i;
  formed = is_prop→PathP (λ j. IsAsk (ask j)) (λ j. is_ask_prop (ask j)) a.formed b.formed i;
}

pub read_classic : SpelledAnswersFit → (ask : Ask) (bytes : List ℕ) (read : AnswerRead) → IsAsk ask → ReadsAnswer ask bytes read → IsReadFor Classic ask bytes read
read_classic fit ask bytes (reads.Answer answer used) is spells = (spells, fit ask bytes answer used is spells)
read_classic fit ask bytes reads.More is more = more.0
read_classic fit ask bytes reads.Foreign is bad = bad.1

pub read_meta : (ask : Ask) (bytes : List ℕ) (read : AnswerRead) → ReadsInMeta ask bytes read → IsReadFor Meta ask bytes read
read_meta ask bytes (reads.Answer answer used) spells = spells
read_meta ask bytes reads.More more = more.0
read_meta ask bytes reads.Foreign bad = λ more answer used spells. bad.1 more spells.told used spells.spells

same_ask : {x y : Ask} → ◌≡◌ {A = Option Ask} (Some x) (Some y) → x ≡ y
same_ask e = cc

out_ask : (a : Command) (ask : Ask) → asked_by (Some a) ≡ Some ask → has_call_out a ≡ true → ask ≡ ask_under a.job.frames.items a.job.ask
out_ask a ask e out = same_ask (sym e ∙ ap (λ b. cond b (Some (ask_under a.job.frames.items a.job.ask)) None) out)

fits_call : (core : Core) (number : ℕ) (ask : Ask) (answer : Answer) → asked core number ≡ Some ask → Fits ask answer → FitsCall core number (Answered answer)
fits_call core number ask answer e fits =
    λ a was out. subst (λ x. Fits x answer) (out_ask a ask (sym (ap asked_by was) ∙ e) out) fits

pub read_next : (dialect : Dialect) (core : Core) (number : ℕ) (bytes : List ℕ) (ask : Ask) (read : AnswerRead) → asked core number ≡ Some ask → IsReadFor dialect ask bytes read → IsReadNext dialect core number bytes read
read_next dialect core number bytes ask (reads.Answer answer used) e is = (ask, e, is.0, fits_call core number ask answer e is.1)
read_next dialect core number bytes ask reads.More e is = (ask, e, is)
read_next dialect core number bytes ask reads.Foreign e is = λ other asks. subst (λ x. IsForeignIn dialect x bytes) (same_ask (sym e ∙ asks)) is

-- where no call of it is out
pub read_nothing : (dialect : Dialect) (core : Core) (number : ℕ) (bytes : List ℕ) → asked core number ≡ None → IsReadNext dialect core number bytes reads.Foreign
read_nothing dialect core number bytes e = λ ask asks. absurd (none_some (sym e ∙ asks))
  where
    none_some : {x : Ask} → None ≡ Some x → ⊥
    none_some e = cc

pub fits_first : (sent : List SentCall) (core : Core) (number : ℕ) (dialect : Dialect) (outcome : Outcome) → first_asked sent ≡ Some (number, dialect) → FitsCall core number outcome → FitsFirst sent core outcome
fits_first [] core number dialect outcome e fits = tt
fits_first (call ∷ sent) core number dialect outcome e fits = subst (λ n. FitsCall core n outcome) (same_number (sym e)) fits
  where
    same_number : {m n : ℕ} {a b : Dialect} → ◌≡◌ {A = Option (ℕ × Dialect)} (Some (m, a)) (Some (n, b)) → m ≡ n
    same_number e = ap (λ (p : ℕ × Dialect). p.0) (same_pair e)
      where
        same_pair : {p q : ℕ × Dialect} → ◌≡◌ {A = Option (ℕ × Dialect)} (Some p) (Some q) → p ≡ q
        same_pair e = cc

pub popped : (old new : List SentCall) (call : SentCall) (core core' : ServedCore) (outcome : Outcome) → old ≡ call ∷ new → IsSettled core call.ticket.number outcome core' → SettlesFirst old core outcome (Some call.client) new core'
popped old new call core core' outcome e settled = subst (λ xs. SettlesFirst xs core outcome (Some call.client) new core') (sym e) (refl, refl, settled)

pub fits_popped : (old new : List SentCall) (call : SentCall) (core : Core) (outcome : Outcome) → old ≡ call ∷ new → FitsFirst old core outcome → FitsCall core call.ticket.number outcome
fits_popped old new call core outcome e fits = subst (λ xs. FitsFirst xs core outcome) e fits

-- what is no classic get is asked as it is
pub asked_else : (ask : Ask) → is_retrieval ask ≡ false → asked_in Meta ask ≡ ask
asked_else ask e = rw e refl

-- a classic get is asked in its meta form
pub asked_get : (ask : Ask) → is_retrieval ask ≡ true → asked_in Meta ask ≡ meta_form ask
asked_get ask e = rw e refl
