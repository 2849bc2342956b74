use Rattle.std.proofs.Common.{◌≡◌, refl, sym, subst, ◌∙◌}
use Rattle.wire_parts.specs.declared.skip.Skip.TheVariants.{Nothing}
use Rattle.wire_parts.specs.Stream.{Place, Stands}
use Rattle.wire_stream.specs.Message.{Reads}
use Rattle.wire_stream.specs.Held.{IsReadAt}
use Rattle.wire_stream.proofs.stream.TextStream.read.Goals as goal

pub returns-in-Nothing : goal.returns-in-Nothing
returns-in-Nothing c =
    let place : c.args.self.now ≡ Stands Nothing c.self.inside.held = sym c.self.view_is ∙ rw (c.if-self.false, c.in-Nothing.is) refl in
    let read : Reads c.self.inside.held c.read_request.result = rw c.as_slice.ensures at c.read_request.ensures in
    subst (λ (p : Place). IsReadAt p c.read_request.result) (sym place) read
