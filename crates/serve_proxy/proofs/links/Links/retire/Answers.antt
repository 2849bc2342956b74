use Rattle.std.proofs.Common.{◌≡◌, ◌<◌, false, true, sym, subst}
use Rattle.serve_proxy.proofs.Linking.{nowhere}
use Rattle.serve_proxy.proofs.Staying.{line_lent}
use Rattle.serve_proxy.proofs.Turns.{retires_set, retires_none}
use Rattle.serve_proxy.proofs.links.Links.retire.Goals as goal

false_true : false ≡ true → ⊥
false_true e = cc

pub returns-in-Some : goal.returns-in-Some
returns-in-Some c = record {
  retired = retires_set c.args.self.now.all.items c.args.at c.in-Some.link.now c.retire.new.self c.args.is_retired c.in-Some.ensures.value c.retire.ensures.retired;
  lines = line_lent c.args.self.now.all.items c.args.at c.in-Some.link.now c.retire.new.self c.in-Some.ensures.value c.retire.ensures.line;
}

pub returns-in_default-clause-retired : goal.returns-in_default-clause-retired
returns-in_default-clause-retired c =
    retires_none c.args.self.now.all.items c.args.at c.args.is_retired
    (nowhere c.args.self.now.all.items c.args.at (λ within. false_true (c.in_default.ensures.variant.1 (subst (λ n. c.args.at < n) (sym c.args.self.now.all.ok.0) within))))
