-- Ends of which nothing has changed but what they hold, one change after another.
use Rattle.std.proofs.Common.{◌≡◌, refl, sym, ap, ◌∙◌, subst}
use Rattle.serve_wire.specs.declared.conn.conn.Conn.{Conn}
use Rattle.serve_wire.specs.Ends.{HoldsAnew}

pub anew_none : (x : Conn) → HoldsAnew x x
anew_none x = refl

pub anew_held : (x y : Conn) → y ≡ record x { held = y.held } → HoldsAnew x y
anew_held x y e = subst (λ (z : Conn). z ≡ record x { held = z.held; other = z.other; is_cut = z.is_cut }) (sym e) refl

pub anew_twice : (x y z : Conn) → HoldsAnew x y → HoldsAnew y z → HoldsAnew x z
anew_twice x y z e f = f ∙ ap (λ (w : Conn). record w { held = z.held; other = z.other; is_cut = z.is_cut }) e
