use Rattle.std.proofs.Common.{◌∷◌, Some, refl, sym, ap, ◌∙◌}
use Rattle.serve_links.specs.declared.link.Link.{Link}
use Rattle.serve_wire.specs.declared.conn.conn.Conn.{Conn}
use Rattle.serve_links.specs.declared.calls.calls.SentCall.{SentCall}
use Rattle.serve_links.proofs.Failing.{on_ok}
use Rattle.serve_proxy.proofs.Linking.{asked, line_same, waits_first}
use Rattle.serve_proxy.proofs.links.ask_over.Goals as goal

pub returns-in-Ok-clause-ok : goal.returns-in-Ok-clause-ok
returns-in-Ok-clause-ok c =
    let x = c.args.link.now in
    let k = c.in-Some.conn.now in
    let d : Conn = record k { unsent = c.begin.new.out } in
    let y : Link = record x { calls = c.begin.new.self; conn = Some d } in
    asked x y k d c.args.call (sym c.in-Some.ensures.value) c.requires.late c.requires.emptied refl refl c.in-Ok.ensures.ok

pub returns-in-Err-clause-ok : goal.returns-in-Err-clause-ok
returns-in-Err-clause-ok c =
    let x = c.args.link.now in
    let k = c.in-Some.conn.now in
    let d : Conn = record k { unsent = c.begin.new.out } in
    let m : Link = record x { calls = c.begin.new.self; conn = Some d } in
    on_ok c.wait_first.result _ _ (λ first. waits_first x m c.wait_first.new.link c.args.call (line_same x m k d (sym c.in-Some.ensures.value) refl refl refl c.in-Err.ensures.err.2 c.in-Err.ensures.err.1) c.wait_first.ensures.rest (first ∙ ap (λ (e : SentCall). e ∷ x.waiting) c.in-Err.ensures.err.0)) c.wait_first.ensures.ok
