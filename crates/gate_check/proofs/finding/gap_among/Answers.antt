use Rattle.std.proofs.Common.{◌≡◌, ◌++◌, ◌+◌, [], ◌∷◌, take, sym, subst, ap, ◌∙◌}
use Rattle.std.proofs.lemmas.List.{take_more}
use Rattle.gate_coverage.specs.Seen.{plan_of}
use Rattle.gate_check.specs.Looking.{IfFound, lesser}
use Rattle.gate_check.proofs.Looks.{more_found}
use Rattle.gate_check.proofs.finding.gap_among.Goals as goal

pub loop-server-preserved : goal.loop-server-preserved
loop-server-preserved c =
    let e = plan_of c.args.earlier in
    let l = plan_of c.args.later in
    let xs = c.args.servers.now in
    let i = c.loop-server.server-index in
    let x = c.server-item.result in
    let h = more_found e l (take i xs) x c.loop-server.best c.gap_at_server-here.result c.loop-server.invariant c.gap_at_server-here.ensures in
    let all : take (i + 1) xs ≡ take i xs ++ x ∷ [] = take_more xs i x c.loop-server-test.true ∙ ap (λ y. take i xs ++ y ∷ []) (sym c.server-item.is) in
    subst (λ best. IfFound e l (take (i + 1) xs) best) (sym c.lesser-best.ensures)
    (subst (λ ys. IfFound e l ys (lesser c.loop-server.best c.gap_at_server-here.result)) (sym all) h)
