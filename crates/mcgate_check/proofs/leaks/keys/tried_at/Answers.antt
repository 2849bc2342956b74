use Rattle.std.proofs.Common.{◌≡◌, ◌∙◌, ℕ, List, sym, subst}
use Rattle.mc_types.specs.Fault.{read_key}
use Rattle.wire_parts.proofs.KeyTexts.{is_read}
use Rattle.route_tree.specs.Place.{IsPlaceOf}
use Rattle.mcgate_check.specs.Tried.{tried_text}
use Rattle.mcgate_check.proofs.Placed.{one_place, ok_is}
use Rattle.mcgate_check.proofs.leaks.keys.tried_at.Goals as goal

pub returns-in_default : goal.returns-in_default
returns-in_default c h =
    let text : c.as_slice.result.now ≡ tried_text c.args.place.now.prefix c.args.number = c.as_slice.ensures.value ∙ c.in_ok-text.ensures in
    let read : c.read.result ≡ read_key (tried_text c.args.place.now.prefix c.args.number) = subst (λ (l : List ℕ). c.read.result ≡ read_key l) text c.read.ensures.read in
    let key = is_read (tried_text c.args.place.now.prefix c.args.number) h.key_is in
    let fault = c.in_default.is in
    cc

pub returns : goal.returns
returns c h =
    let wanted = tried_text c.args.place.now.prefix c.args.number in
    let text : c.as_slice.result.now ≡ wanted = c.as_slice.ensures.value ∙ c.in_ok-text.ensures in
    let read : c.read.result ≡ read_key wanted = subst (λ (l : List ℕ). c.read.result ≡ read_key l) text c.read.ensures.read in
    let key : c.in-Ok.key ≡ wanted = ok_is c.read.result c.in-Ok.key wanted c.in-Ok.is (read ∙ is_read wanted h.key_is) in
    let same = one_place c.args.tree.now c.in-Ok.key c.of.result c.args.place.now (c.of.ensures c.args.tree.now c.requires.is_table) (subst (λ (k : List ℕ). IsPlaceOf c.args.tree.now k c.args.place.now) (sym key) h.at) in
    let is = c.is_same_place.ensures.1 same in
    let no = c.if-is_same_place.false in
    cc
