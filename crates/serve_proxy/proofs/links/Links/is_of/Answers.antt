use Rattle.std.proofs.Common.{◌≡◌, ◌≤◌, List, ℕ, Some, None, length, sym, ◌∙◌, subst}
use Rattle.serve_links.specs.declared.link.Link.{Link}
use Rattle.serve_proxy.proofs.LinkTexts.{of_server, server_of, texts_beyond}
use Rattle.serve_proxy.proofs.Linking.{link_there}
use Rattle.serve_proxy.proofs.links.Links.is_of.Goals as goal

none_some : {x : List ℕ} → None ≡ Some x → ⊥
none_some e = cc

pub returns-in-Some : goal.returns-in-Some
returns-in-Some c =
    let links = c.args.self.now.all.items in
    let link = c.in-Some.link.now in
    let there = link_there links c.deref.result.now c.args.at link c.deref.ensures.value c.in-Some.ensures.lookup.3.0 c.in-Some.ensures.lookup.1 in
    (λ is. of_server links c.args.servers.now c.args.at link there (c.is_to.ensures.0 is), λ have. c.is_to.ensures.1 (server_of links c.args.servers.now c.args.at link there have))

pub returns-in-None : goal.returns-in-None
returns-in-None c =
    let beyond = texts_beyond c.args.self.now.all.items c.args.at (subst (λ (l : List Link). length l ≤ c.args.at) c.deref.ensures.value c.in-None.ensures.lookup.3) in
    (λ is. absurd (let no = is in cc no), λ have. absurd (none_some (sym beyond ∙ have.1)))
