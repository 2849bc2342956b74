use Rattle.std.proofs.Common.{refl, sym, ap, ◌∙◌, subst, length}
use Rattle.std.proofs.lemmas.Option.{slice_get_read}
use Rattle.std.specs.Prelude.{Bool, None, Some}
use Rattle.core_client.specs.declared.client.Pending.{Pending as PendingOf}
use Rattle.core_client.specs.Replying.{IsOnward}
use Rattle.mc_types.proofs.Options.{on_none}
use Rattle.core_client.proofs.Places.{there_at, none_there, some_pending}
use Rattle.core_client.proofs.client.Client.place_of.Goals as goal

pub returns-in_err-at-clause-none : goal.returns-in_err-at-clause-none
returns-in_err-at-clause-none c = on_none c.from_residual.result (λ pending has. none_there c.args.number c.args.self.now.queue.items pending c.in_err-at.ensures has.there)

pub returns-then-pending-clause-some : goal.returns-then-pending-clause-some
returns-then-pending-clause-some c =
    let x = c.args.self.now in
    let a = c.in_ok-pending.ensures.item in
    let b = c.in_ok-pending.ensures.lookup in
    record {
      pending = c.in_ok-pending.pending.now;
      first = sym c.place_in.ensures ∙ c.in_ok-at.was;
      is = slice_get_read x.queue.items (length x.queue.items) c.in_ok-at.at c.in_ok-pending.pending.now refl a.3.0 b;
      onward = subst (λ (l : Bool). IsOnward x l None) (sym c.if-pending.true) tt;
    }

pub returns-in_err-request-clause-none : goal.returns-in_err-request-clause-none
returns-in_err-request-clause-none c =
    let x = c.args.self.now in
    let a = c.in_ok-pending.ensures.item in
    let b = c.in_ok-pending.ensures.lookup in
    let p = c.in_ok-pending.pending.now in
    let is = slice_get_read x.queue.items (length x.queue.items) c.in_ok-at.at p refl a.3.0 b in
    on_none c.from_residual-in_err-request.result (λ pending has.
    let same = some_pending (sym has.there ∙ there_at c.args.number x.queue.items c.in_ok-at.at p (sym c.place_in.ensures ∙ c.in_ok-at.was) is) in
    c.in_err-request.ensures.none (has.front (ap (λ (q : PendingOf). q.last) same ∙ c.if-pending.false)))

pub returns-clause-some : goal.returns-clause-some
returns-clause-some c =
    let x = c.args.self.now in
    let a = c.in_ok-pending.ensures.item in
    let b = c.in_ok-pending.ensures.lookup in
    record {
      pending = c.in_ok-pending.pending.now;
      first = sym c.place_in.ensures ∙ c.in_ok-at.was;
      is = slice_get_read x.queue.items (length x.queue.items) c.in_ok-at.at c.in_ok-pending.pending.now refl a.3.0 b;
      onward = subst (λ (l : Bool). IsOnward x l (Some c.in_ok-request.request)) (sym c.if-pending.false) c.in_ok-request.ensures.some;
    }
