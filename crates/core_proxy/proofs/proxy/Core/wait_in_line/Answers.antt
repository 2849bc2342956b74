use Rattle.std.proofs.Common.{◌≡◌, ◌⊎◌, ℕ, true, false, List, refl, ap, sym, subst, ◌∙◌}
use Rattle.mc_types.specs.declared.ask.Ask.{Ask}
use Rattle.core_commands.specs.declared.claim.Claim.{Claim}
use Rattle.core_commands.specs.declared.key_lines.Standing.{Standing}
use Rattle.core_proxy.specs.declared.proxy.Core.{Core}
use Rattle.core_proxy.specs.declared.fault.CoreFault.TheVariants.{NoMemory}
use Rattle.core_proxy.specs.declared.note.Poll.TheVariants.{Busy, Queued}
use Rattle.core_commands.specs.Lines.{others, joined}
use Rattle.core_commands.proofs.Lines.{others_again}
use Rattle.core_proxy.specs.Polls.{IsNextAsk, Polls, ReadFault, StandsInLine, claim_of, bars, stands_before}
use Rattle.core_proxy.proofs.Polls.{same_goes, first_stops, line_polls, stood_polls}
use Rattle.core_proxy.proofs.proxy.Core.wait_in_line.Goals as goal

-- the client stands in the line of its key now
stands_now :
    (old : Core) (lines : List Standing) (client : ℕ) (ask : Ask) (claim : Claim) (key : List ℕ) → IsNextAsk old client ask false → claim ≡ claim_of old ask → key ≡ ask.key → (bars old ask ≡ true) ⊎ (stands_before old client ask ≡ true)
    → lines ≡ joined (record { claim = claim; client = client; key = key }) old.lines → StandsInLine old client (record old { lines = lines })
stands_now old lines client ask claim key next is same waits joins =
    record {
      ask = ask;
      next = next;
      waits = waits;
      core_is = ap (λ (l : List Standing). record old { lines = l }) (joins ∙ (λ i. joined (record { claim = is i; client = client; key = same i }) old.lines));
    }

pub returns-in-Ok-true-clause-ok : goal.returns-in-Ok-true-clause-ok
returns-in-Ok-true-clause-ok c =
    let old = c.args.self.now in
    let new : Core = record old { lines = c.join-joined.new.self } in
    subst (λ (core : Core). Polls old c.args.client Queued core) (sym c.give_back.ensures)
    (line_polls old new c.args.client (same_goes old new (λ n. refl) (λ n. refl) refl refl refl)
    (stands_now old c.join-joined.new.self c.args.client c.args.ask c.args.claim c.key.result.now c.requires.next c.requires.claim_is c.key.ensures c.requires.waits c.in-Ok-true.ensures.ok) c.requires.may c.requires.held)

pub returns-in-Ok-false-clause-ok : goal.returns-in-Ok-false-clause-ok
returns-in-Ok-false-clause-ok c =
    let old = c.args.self.now in
    let new : Core = record old { lines = c.join-joined.new.self } in
    subst (λ (core : Core). Polls old c.args.client Busy core) (sym c.give_back.ensures)
    (stood_polls old new c.args.client (ap (λ (l : List Standing). record old { lines = l }) (c.in-Ok-false.ensures.same c.in-Ok-false.field-0-test))
    (stands_now old c.join-joined.new.self c.args.client c.args.ask c.args.claim c.key.result.now c.requires.next c.requires.claim_is c.key.ensures c.requires.waits c.in-Ok-false.ensures.ok) c.requires.may c.requires.held)

pub returns-in-Err-clause-err : goal.returns-in-Err-clause-err
returns-in-Err-clause-err c =
    let old = c.args.self.now in
    let new : Core = record old { lines = c.join-joined.new.self } in
    subst (λ (core : Core). ReadFault old c.args.client NoMemory core) (sym c.give_back.ensures)
    (first_stops old new c.args.client NoMemory (same_goes old new (λ n. refl) (λ n. refl) refl refl refl, c.requires.held.0) (ap (others c.args.client) c.in-Err.ensures.err ∙ others_again c.args.client old.lines))
