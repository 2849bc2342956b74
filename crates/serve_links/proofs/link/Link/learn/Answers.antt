use Rattle.std.proofs.Common.{ℕ, List, Some, refl, sym, subst}
use Rattle.serve_links.specs.Dialects.{GreetsNone, ReadsGreeting}
use Rattle.wire_stream.specs.declared.meta_gets.dialect.DialectRead.TheVariants as reads
use Rattle.serve_links.proofs.Ends.{learns_told}
use Rattle.serve_links.proofs.Foreign.{greets_none}
use Rattle.serve_links.proofs.link.Link.learn.Goals as goal

pub returns-in-Told-clause-learns : goal.returns-in-Told-clause-learns
returns-in-Told-clause-learns c =
    let whole : ReadsGreeting c.in-Some.greeting c.as_slice.result.now (reads.Told c.in-Told.dialect c.in-Told.used) = subst (λ r. ReadsGreeting c.in-Some.greeting c.as_slice.result.now r) c.in-Told.is c.read_greeting.ensures in
    let tells : ReadsGreeting c.in-Some.greeting c.in-Some-as_mut.conn.now.held.items (reads.Told c.in-Told.dialect c.in-Told.used) = subst (λ (l : List ℕ). ReadsGreeting c.in-Some.greeting l (reads.Told c.in-Told.dialect c.in-Told.used)) c.as_slice.ensures whole in
    learns_told c.args.self.now _ c.in-Some-as_mut.conn.now c.use_up.new.self c.in-Some.greeting c.in-Told.used (sym c.in-Some-as_mut.ensures.value) refl c.in-Some.is tells.1 c.use_up.ensures.held c.use_up.ensures.rest refl refl refl

pub returns-in-Neither-clause-foreign : goal.returns-in-Neither-clause-foreign
returns-in-Neither-clause-foreign c = λ is.
    let whole : ReadsGreeting c.in-Some.greeting c.as_slice.result.now reads.Neither = subst (λ r. ReadsGreeting c.in-Some.greeting c.as_slice.result.now r) c.in-Neither.is c.read_greeting.ensures in
    greets_none (record c.args.self.now { conn = Some c.in-Some-as_mut.conn.now }) c.in-Some-as_mut.conn.now c.in-Some.greeting refl c.in-Some.is (subst (λ (l : List ℕ). GreetsNone c.in-Some.greeting l) c.as_slice.ensures whole)
