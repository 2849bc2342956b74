use Rattle.std.proofs.Common.{◌≡◌, List, Some, slice_get, sym, subst}
use Rattle.route_json.specs.Configuration.{Configuration}
use Rattle.gate_check.proofs.Following.{config_at}
use Rattle.core_accepted.specs.Known.{IsBookOf}
use Rattle.core_accepted.proofs.Growing.{opened_book}
use Rattle.core_accepted.proofs.generations.opened_ledger.Goals as goal

pub returns-in-Ok-clause-opened : goal.returns-in-Ok-clause-opened
returns-in-Ok-clause-opened c = λ known are begun book.
    let first = c.index-configs-0.result in
    let at = subst (λ (xs : List Configuration). slice_get xs 0 ≡ Some first) (sym are) (config_at c.args.configs.now 0 first c.requires c.index-configs-0.is) in
    opened_book known first c.args.opened c.in-Ok.ledger at begun (subst (IsBookOf known) c.in-None.is book) c.in-Ok.ensures.first c.in-Ok.ensures.servers
