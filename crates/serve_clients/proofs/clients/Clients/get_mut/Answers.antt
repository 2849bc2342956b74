use Rattle.std.proofs.Common.{refl, sym, ap, ◌∙◌}
use Rattle.std.proofs.lemmas.Option.{slice_get-get_or}
use Rattle.std.specs.Option.{option_flatten}
use Rattle.serve_clients.proofs.Marked.{if_there, put_again}
use Rattle.serve_clients.proofs.clients.Clients.get_mut.Goals as goal

pub returns : goal.returns
returns c =
    let all = c.args.self.now.all.items in
    let place = c.in_ok-self.field-0.now in (
      (refl, (λ w. if_there c.as_mut.result _ refl), record { clients = put_again all c.args.id place c.in_ok-self.ensures.value; ready = refl; with_output = refl; busy = refl; short = refl }),
      record { writes_back = tt; value = c.as_mut.ensures.value ∙ c.in_ok-self.ensures.value ∙ sym (ap option_flatten (slice_get-get_or all c.args.id place c.in_ok-self.ensures.item.3.0)) },
    )
