use Rattle.std.proofs.Common.{◌≡◌, ◌⊎◌, true, false, inl, inr, refl, sym, ap, ◌∙◌, subst}
use Rattle.serve_links.specs.declared.link.Opening.{Opening}
use Rattle.serve_links.specs.declared.link.Opening.TheVariants as opening
use Rattle.serve_links.proofs.LateGoes.{line_still}
use Rattle.serve_proxy.proofs.Staying.{stay_links, not_some}
use Rattle.serve_proxy.proofs.Going.{line_goes, go_stay}
use Rattle.serve_proxy.proofs.Linking.{open_still, open_set, refused_set, link_there}
use Rattle.serve_links.specs.declared.refusal.Refusal.TheVariants as refusals
use Rattle.serve_wire.specs.Events.{time}
use Rattle.serve_links.specs.Unsent.{TakesCalls, IsRefused}
use Rattle.serve_proxy.proofs.links.Links.takes_call.Goals as goal

false_true : false ≡ true → ⊥
false_true e = cc

none_began : opening.NoAddress ≡ opening.Begun → ⊥
none_began e = cc

refused_began : opening.NoMemory ≡ opening.Begun → ⊥
refused_began e = cc

failed_began : opening.Failed ≡ opening.Begun → ⊥
failed_began e = cc

isnt_begun : (what : Opening) → what ≡ opening.Begun → (what ≡ opening.NoAddress) ⊎ (what ≡ opening.NoMemory) → ⊥
isnt_begun what begun (inl is) = none_began (sym is ∙ begun)
isnt_begun what begun (inr is) = refused_began (sym is ∙ begun)

failed_isnt : (what : Opening) → what ≡ opening.Begun → what ≡ opening.Failed → ⊥
failed_isnt what begun is = failed_began (sym is ∙ begun)

pub returns-in-Begun-clause-ends : goal.returns-in-Begun-clause-ends
returns-in-Begun-clause-ends g c = λ clients. go_stay (line_goes c.args.self.now.all.items c.args.at c.in-Some.link.now c.begin.new.link c.in-Some.ensures.item.3.0 c.in-Some.ensures.value c.begin.ensures.stands) (stay_links _ clients _ _ c.note_limit.ensures.lines)

pub returns-in-Begun-clause-there : goal.returns-in-Begun-clause-there
returns-in-Begun-clause-there g c = open_still c.args.at _ _ (ap (λ ls. ls.items) c.note_limit.ensures.all) (open_set c.args.self.now.all.items c.args.at c.begin.new.link c.in-Some.ensures.item.3.0 (c.in-Begun.ensures.conn refl))

pub returns-in-Begun-clause-free : goal.returns-in-Begun-clause-free
returns-in-Begun-clause-free g c = (c.in-Some.link.now, link_there c.args.self.now.all.items c.args.self.now.all.items c.args.at c.in-Some.link.now refl c.in-Some.ensures.item.3.0 c.in-Some.ensures.value, subst (λ n. TakesCalls n c.in-Some.link.now) c.last_millis-now.ensures (c.in_default-refusal.ensures.free refl))

pub returns-in-NoAddress-clause-ends : goal.returns-in-NoAddress-clause-ends
returns-in-NoAddress-clause-ends g c = λ clients. line_goes c.args.self.now.all.items c.args.at c.in-Some.link.now c.begin.new.link c.in-Some.ensures.item.3.0 c.in-Some.ensures.value c.begin.ensures.stands

pub returns-in-NoAddress-clause-refused : goal.returns-in-NoAddress-clause-refused
returns-in-NoAddress-clause-refused g c = λ since. refused_set refusals.NoConnection c.args.self.now.all.items c.args.at since (time (g.W.Wire.history c.begin.new.wire)) c.begin.new.link c.in-Some.ensures.item.3.0 (c.begin.ensures.none (λ begun. isnt_begun c.begin.result begun c.in-NoAddress.is))

pub returns-in-Failed-clause-ends : goal.returns-in-Failed-clause-ends
returns-in-Failed-clause-ends g c = λ clients. line_goes c.args.self.now.all.items c.args.at c.in-Some.link.now c.begin.new.link c.in-Some.ensures.item.3.0 c.in-Some.ensures.value c.begin.ensures.stands

pub returns-in-Failed-clause-refused : goal.returns-in-Failed-clause-refused
returns-in-Failed-clause-refused g c = λ since. refused_set refusals.NoConnection c.args.self.now.all.items c.args.at since (time (g.W.Wire.history c.begin.new.wire)) c.begin.new.link c.in-Some.ensures.item.3.0 (c.begin.ensures.none (λ begun. failed_isnt c.begin.result begun c.in-Failed.is))

pub returns-then-is_some-clause-ends : goal.returns-then-is_some-clause-ends
returns-then-is_some-clause-ends g c = λ clients. line_goes c.args.self.now.all.items c.args.at c.in-Some.link.now c.in-Some.link.now c.in-Some.ensures.item.3.0 c.in-Some.ensures.value (λ core. line_still c.in-Some.link.now)

pub returns-then-is_some-clause-there : goal.returns-then-is_some-clause-there
returns-then-is_some-clause-there g c = open_set c.args.self.now.all.items c.args.at c.in-Some.link.now c.in-Some.ensures.item.3.0 (sym c.is_some.ensures ∙ c.if-is_some.true)

pub returns-then-is_some-clause-free : goal.returns-then-is_some-clause-free
returns-then-is_some-clause-free g c = (c.in-Some.link.now, link_there c.args.self.now.all.items c.args.self.now.all.items c.args.at c.in-Some.link.now refl c.in-Some.ensures.item.3.0 c.in-Some.ensures.value, subst (λ n. TakesCalls n c.in-Some.link.now) c.last_millis-now.ensures (c.in_default-refusal.ensures.free refl))

pub begin-requires : goal.begin-requires
begin-requires g c = not_some c.in-Some.link.now.conn (sym c.is_some.ensures ∙ c.if-is_some.false)

pub returns-in-Some-refusal-clause-ends : goal.returns-in-Some-refusal-clause-ends
returns-in-Some-refusal-clause-ends g c = λ clients. line_goes c.args.self.now.all.items c.args.at c.in-Some.link.now c.in-Some.link.now c.in-Some.ensures.item.3.0 c.in-Some.ensures.value (λ core. line_still c.in-Some.link.now)

pub returns-in-Some-refusal-clause-refused : goal.returns-in-Some-refusal-clause-refused
returns-in-Some-refusal-clause-refused g c = λ since.
    refused_set c.in-Some-refusal.why c.args.self.now.all.items c.args.at since _ c.in-Some.link.now c.in-Some.ensures.item.3.0 (subst (λ n. IsRefused c.in-Some-refusal.why since n c.in-Some.link.now) c.last_millis-now.ensures (c.in-Some-refusal.ensures.refused since))
