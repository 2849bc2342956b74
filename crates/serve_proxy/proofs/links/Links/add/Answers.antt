use Rattle.std.proofs.Common.{ℕ, ◌++◌, drop, length, refl, ap, ◌∙◌}
use Rattle.serve_links.specs.Story.{texts_of}
use Rattle.serve_proxy.proofs.Growing.{adds_none, adds_twice}
use Rattle.serve_proxy.proofs.Emptied.{adds_no, adds_on}
use Rattle.serve_proxy.proofs.LinkTexts.{text_added, text_there}
use Rattle.serve_proxy.proofs.links.Links.add.Goals.{in-Some+in_ok-add_one, in_default}
use Rattle.serve_proxy.proofs.links.Links.add.Goals as goal

pub loop-at-init : goal.loop-at-init
loop-at-init c = record { texts = ap (λ (n : ℕ). texts_of c.args.self.now.all.items ++ drop n c.args.servers.now) (c.len-at.ensures ∙ c.args.self.now.all.ok.0); adds = adds_none _ _ refl; emptied = adds_no _ _ _ refl; set = refl }

pub loop-at-preserved : goal.loop-at-preserved
loop-at-preserved c =
    let servers = c.args.servers.now in
    let texts = texts_of c.loop-at.self.all.items in
    let all = texts_of c.args.self.now.all.items ++ drop (length c.args.self.now.all.items) servers in
    elim c.match-text_at.branch [
      | in-Some+in_ok-add_one w ↦
          rw w.self-is (record {
            texts = text_added servers texts (texts_of w.add_one.new.self.all.items) all c.loop-at.at w.in-Some.text.now w.in-Some.ensures.some w.in_ok-add_one.ensures.texts c.loop-at.invariant.texts;
            adds = adds_twice c.args.self.now.all.items c.loop-at.self.all.items w.add_one.new.self.all.items c.loop-at.invariant.adds w.add_one.ensures.adds;
            emptied = adds_on c.args.self.now.flushes_new c.loop-at.self.flushes_new c.args.self.now.all.items c.loop-at.self.all.items w.add_one.new.self.all.items c.loop-at.invariant.set c.loop-at.invariant.emptied w.add_one.ensures.emptied;
            set = w.add_one.ensures.set ∙ c.loop-at.invariant.set;
          })
      | in_default w ↦ absurd (text_there servers c.loop-at.at (rw c.len-at-end.ensures.len at c.loop-at-test.true) (w.in_default.ensures.none refl))
    ]

pub returns-in_err-add_one-clause-adds : goal.returns-in_err-add_one-clause-adds
returns-in_err-add_one-clause-adds c = adds_twice c.args.self.now.all.items c.loop-at.self.all.items c.add_one.new.self.all.items c.loop-at.invariant.adds c.add_one.ensures.adds

pub returns-in_err-add_one-clause-emptied : goal.returns-in_err-add_one-clause-emptied
returns-in_err-add_one-clause-emptied c =
    adds_on c.args.self.now.flushes_new c.loop-at.self.flushes_new c.args.self.now.all.items c.loop-at.self.all.items c.add_one.new.self.all.items c.loop-at.invariant.set c.loop-at.invariant.emptied c.add_one.ensures.emptied

pub returns-clause-emptied : goal.returns-clause-emptied
returns-clause-emptied c = c.loop-at.invariant.emptied

pub returns-clause-adds : goal.returns-clause-adds
returns-clause-adds c = c.loop-at.invariant.adds
