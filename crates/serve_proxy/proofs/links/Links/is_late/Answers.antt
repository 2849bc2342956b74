use Rattle.std.proofs.Common.{◌≡◌, [], Option, sym, subst}
use Rattle.std.specs.Prelude.{IfSome}
use Rattle.serve_links.specs.declared.link.Link.{Link}
use Rattle.serve_links.specs.Lateness.{AwaitsLate}
use Rattle.serve_proxy.proofs.Linking.{link_there}
use Rattle.serve_proxy.proofs.links.Links.is_late.Goals as goal

pub returns-in-Some : goal.returns-in-Some
returns-in-Some c =
    let there = sym (link_there c.args.self.now.all.items c.deref.result.now c.args.at c.in-Some.link.now c.deref.ensures.value c.in-Some.ensures.lookup.3.0 c.in-Some.ensures.lookup.1) in
    record {
      late = λ late. subst (λ (o : Option Link). IfSome o AwaitsLate) there (c.is_late.ensures.late late);
      none = λ none. subst (λ (o : Option Link). IfSome o (λ link. link.late.items ≡ [])) there (c.is_late.ensures.none none);
    }
