use Rattle.std.proofs.Common.{◌≡◌, ℕ, ◌+◌, ◌≤◌, eqb, [], ◌∷◌, ◌++◌, None, length, refl, sym, subst}
use Rattle.mc_types.specs.declared.ask.Ask.{Ask}
use Rattle.wire_stream.specs.Held.{bytes_at}
use Rattle.wire_stream.proofs.Fronts.{used_held}
use Rattle.core_client.proofs.Fronts.{begins_key}
use Rattle.core_client.proofs.client.Client.begin.Goals as goal

pub move_on-requires : goal.move_on-requires
move_on-requires c =
    let x = c.args.self.now in
    subst (λ (n : ℕ). n ≤ length (bytes_at x.stream)) (sym c.used.ensures) (used_held x.stream c.args.request.now (record { stands = c.requires.at.place; read = c.requires.at.read }))

pub returns-clause-ok : goal.returns-clause-ok
returns-clause-ok c =
    let x = c.args.self.now in
    begins_key x (record x { queue = c.put_last.new.queue }) c.move_on.new.self c.args.request.now c.args.ask c.args.number c.asks-count.result c.used.result c.quiet.result c.requires.at c.requires.ready
    (c.asks-count.ensures (bytes_at x.stream) c.requires.at.read) c.used.ensures (c.quiet.ensures (bytes_at x.stream) c.requires.at.read)
    refl refl refl refl
    (subst (λ (ask : Ask). c.put_last.new.queue.items ≡ x.queue.items ++ record { ask = ask; reply = None; number = c.args.number; quiet = c.quiet.result; last = eqb (x.index + 1) c.asks-count.result } ∷ []) c.new.ensures c.in_ok-put_last.ensures.ok) c.move_on.ensures
