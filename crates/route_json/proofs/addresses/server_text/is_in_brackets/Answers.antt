use Rattle.std.proofs.Common.{◌≡◌, ◌&&◌, ◌∙◌, sym, ap, codes, true, Bool, nat_eq}
use Rattle.std.specs.List.{starts_with, ends_with}
use Rattle.std.proofs.lemmas.Str.Pattern.{starts_text, ends_text}
use Rattle.route_json.proofs.addresses.server_text.is_in_brackets.Goals as goal

pub returns-then-starts_with : goal.returns-then-starts_with
returns-then-starts_with c =
    let starts : c.starts_with.result ≡ starts_with nat_eq c.args.host.now (codes "[") = starts_text c.starts_with.result (codes "[") c.args.host.now c.starts_with.ensures.cases in
    let ends : c.ends_with.result ≡ ends_with nat_eq c.args.host.now (codes "]") = ends_text c.ends_with.result (codes "]") c.args.host.now c.ends_with.ensures.cases in
    ends ∙ ap (λ (b : Bool). b && ends_with nat_eq c.args.host.now (codes "]")) (sym c.if-starts_with.true ∙ starts)
