use Rattle.std.proofs.Common.{inl, inr, refl, ap, ◌∙◌}
use Rattle.serve_proxy.proofs.sockets.Sockets.insert_client.Goals as goal

pub returns-then-is_err-clause-may : goal.returns-then-is_err-clause-may
returns-then-is_err-clause-may g c = inr refl

pub returns-in-Ok-clause-admitted : goal.returns-in-Ok-clause-admitted
returns-in-Ok-clause-admitted g c = λ t. ap (λ s. g.W.Wire.history s.wire) c.insert_new.ensures.rest ∙ c.in-Ok.ensures.ok

pub returns-in-Ok-clause-may : goal.returns-in-Ok-clause-may
returns-in-Ok-clause-may g c = inl (ap (λ s. g.W.Wire.history s.wire) c.insert_new.ensures.rest ∙ c.in-Ok.ensures.ok)

pub returns-in-Ok-clause-links : goal.returns-in-Ok-clause-links
returns-in-Ok-clause-links g c = ap (λ s. s.links) c.insert_new.ensures.rest

pub returns-in-Err-clause-may : goal.returns-in-Err-clause-may
returns-in-Err-clause-may g c = inr c.in-Err.ensures.err
