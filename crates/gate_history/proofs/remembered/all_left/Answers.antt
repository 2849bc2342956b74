use Rattle.std.proofs.Common.{◌≡◌, ◌+◌, ◌∙◌, ◌++◌, ◌∷◌, [], length, ap, sym, subst, true, not, cond}
use Rattle.std.specs.Result.{is_ok}
use Rattle.std.proofs.lemmas.List.{length_push}
use Rattle.gate_history.specs.Remembering.{AreLeft, AllLeft}
use Rattle.gate_history.proofs.Pushes.{push_at}
use Rattle.gate_history.proofs.remembered.all_left.Goals as goal

pub loop-number-preserved : goal.loop-number-preserved
loop-number-preserved c =
    let gs = c.args.history.now in
    let servers = c.args.servers.now in
    let old = c.loop-number.all.items in
    let found = c.in_ok-found.found in
    let ok : is_ok c.push.result ≡ true = c.is_err.ensures.negation ∙ ap not c.if-is_err.false in
    let items : c.push.new.self.items ≡ old ++ found ∷ [] = c.push.ensures.items ∙ ap (λ b. cond b (old ++ found ∷ []) old) ok in
    let size : length old ≡ c.loop-number.number = c.loop-number.invariant.0 in
    let here : AreLeft gs servers (length old) found = subst (λ n. AreLeft gs servers n found) (c.new.ensures ∙ sym size) c.in_ok-found.ensures in
    let longer : length c.push.new.self.items ≡ length old + 1 = ap length items ∙ length_push old found in
    (longer ∙ ap (λ n. n + 1) size, subst (AllLeft gs servers) (sym items) (push_at (λ i y. AreLeft gs servers i y) old found c.loop-number.invariant.1 here))
