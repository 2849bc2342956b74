use Rattle.std.proofs.Common.{List, ℕ, subst}
use Rattle.std.specs.Io.KnownBytes.{Appends}
use Rattle.route_tree.specs.Route.{Route}
use Rattle.gate_gaps.specs.Pools.{NamedPools}
use Rattle.mcgate_check.specs.Explaining.{IsInWords, words_text}
use Rattle.mcgate_check.proofs.explaining.print_told.Goals as goal

pub returns-clause-ok : goal.returns-clause-ok
returns-clause-ok g c =
    let config = c.args.config.now in
    let told = c.args.told.now in
    let checked = c.in_ok-status.ensures.ok in
    let old = g.W.Write.contents c.print_found.new.out in
    let new = g.W.Write.contents c.write_words.new.out in
    let pools = c.deref.ensures.value in
    let by_servers = subst (λ (s : List (List ℕ)). Appends old new (words_text s c.tree.result.now c.deref.result.now told.run told.words)) c.servers.ensures.servers c.in_ok-write_words.ensures in
    let by_tree = subst (λ (t : Route). Appends old new (words_text config.servers t c.deref.result.now told.run told.words)) c.tree.ensures.tree by_servers in
    let wrote = subst (λ (ps : NamedPools). Appends old new (words_text config.servers config.tree ps told.run told.words)) pools by_tree in
    let in_words = subst (λ (ps : NamedPools). IsInWords config ps told.run c.args.reason.now (words_text config.servers config.tree told.pools.items told.run told.words)) c.requires.told.pools (c.requires.told.words told.pools.items told.run) in
    (checked.0, record { between = _; found = told.run; checks = checked.1; lines = _; in_words = in_words; printed = wrote })
