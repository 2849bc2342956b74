use Rattle.std.proofs.Common.{IfSome, sym, subst}
use Rattle.cache_server.specs.Sound.{IsEntry}
use Rattle.cache_server.specs.Table.{decided}
use Rattle.cache_server.proofs.TableLemmas.{decided_sound, settled_sound, lookup_entry_is}
use Rattle.cache_server.proofs.cache.Cache.serve.Goals as goal

pub answer-requires-clause-held : goal.answer-requires-clause-held
answer-requires-clause-held c =
    subst (λ o. IfSome o IsEntry) (sym c.peek-held.ensures) (lookup_entry_is c.args.ask.now.key c.self.inside.items.entries c.self.invariant.entries_are)

pub answer-requires-clause-change : goal.answer-requires-clause-change
answer-requires-clause-change c =
    let held = subst (λ o. IfSome o IsEntry) (sym c.peek-held.ensures) (lookup_entry_is c.args.ask.now.key c.self.inside.items.entries c.self.invariant.entries_are) in
    rw (c.settled-verdict.ensures, c.in_ok-decision.ensures)
    (settled_sound c.self.inside.counter (decided c.args.now c.args.stamp c.args.ask.now _) (decided_sound c.args.now c.args.stamp c.args.ask.now c.requires.now c.requires.ask _ held))

pub carry_out-requires : goal.carry_out-requires
carry_out-requires c =
    let held = subst (λ o. IfSome o IsEntry) (sym c.peek-held.ensures) (lookup_entry_is c.args.ask.now.key c.self.inside.items.entries c.self.invariant.entries_are) in
    rw (c.settled-verdict.ensures, c.in_ok-decision.ensures)
    (settled_sound c.self.inside.counter (decided c.args.now c.args.stamp c.args.ask.now _) (decided_sound c.args.now c.args.stamp c.args.ask.now c.requires.now c.requires.ask _ held))
