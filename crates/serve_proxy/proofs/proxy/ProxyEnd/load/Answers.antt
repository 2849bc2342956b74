use Rattle.std.proofs.Common.{◌≡◌, inl, inr, Result, Ok, Err, refl, sym, ◌∙◌, subst}
use Rattle.std.specs.Prelude.{IsErrAnd, IfErr}
use Rattle.core_accepted.specs.declared.loading.LoadFault.{LoadFault}
use Rattle.core_accepted.specs.declared.served.ServedCore.{ServedCore}
use Rattle.core_accepted.specs.Loading.{RefusesLoad}
use Rattle.serde_json.specs.View.{view}
use Rattle.serve_links.specs.Story.{texts_of}
use Rattle.serve_proxy.specs.Bringing.{RefusesBoth}
use Rattle.serve_proxy.specs.Limiting.{value_limits}
use Rattle.serve_proxy.proofs.Growing.{gone_back, all_load, load_kept, load_from, texts_limited_by}
use Rattle.serve_proxy.proofs.proxy.ProxyEnd.load.Goals as goal

-- a fault is passed on
passed : {T : Type 0} (r : Result T LoadFault) (fault : LoadFault) (P : LoadFault → Type 0) → IsErrAnd r (λ f. f ≡ fault) → P fault → IfErr r P
passed (Ok x) fault P is p = tt
passed (Err f) fault P is p = subst P (sym is) p

pub returns-in_err-bring-clause-ends : goal.returns-in_err-bring-clause-ends
returns-in_err-bring-clause-ends g c = load_kept c.args.self.now.sockets c.bring.new.self refl c.in_err-bring.ensures.kept

pub returns-in-Ok-clause-ends : goal.returns-in-Ok-clause-ends
returns-in-Ok-clause-ends g c = load_from c.deref_mut.ensures.value (all_load c.in-Ok.generation c.args.self.now.sockets c.bring.new.self c.limit.new.self c.in-Ok.ensures.loaded c.in_ok-bring.ensures.adds c.in_ok-bring.ensures.texts c.limit.ensures)

pub returns-in-Ok-clause-texts : goal.returns-in-Ok-clause-texts
returns-in-Ok-clause-texts g c = texts_limited_by (value_limits c.args.usual (view c.args.said.now)) c.bring.new.self.all.items c.limit.new.self.all.items c.limit.ensures ∙ c.in_ok-bring.ensures.texts

pub returns-in-Err-clause-ends : goal.returns-in-Err-clause-ends
returns-in-Err-clause-ends g c =
    let old = c.args.self.now.sockets.links.all.items in
    load_from c.deref_mut.ensures.value (load_kept c.args.self.now.sockets c.go_back.new.self c.in-Err.ensures.refused.1 (gone_back old c.bring.new.self.all.items c.go_back.new.self.all.items c.len-before.result c.in_ok-bring.ensures.adds (c.len-before.ensures ∙ c.args.self.now.sockets.links.all.ok.0) c.go_back.ensures))

pub returns-in_err-bring-clause-faults : goal.returns-in_err-bring-clause-faults
returns-in_err-bring-clause-faults g c =
    passed c.from_residual.result c.in_err-bring.field-0.0 (λ (fault : LoadFault). RefusesBoth (texts_of c.args.self.now.sockets.links.all.items) c.args.servers.now c.args.self.now.core.value c.args.config fault) c.from_residual.ensures.1
    (inl c.in_err-bring.ensures.faults)

pub returns-in-Err-clause-faults : goal.returns-in-Err-clause-faults
returns-in-Err-clause-faults g c = inr (c.in_ok-bring.ensures.begins, subst (λ (x : ServedCore). RefusesLoad x c.args.config c.in-Err.fault) c.deref_mut.ensures.value c.in-Err.ensures.refused.0)
