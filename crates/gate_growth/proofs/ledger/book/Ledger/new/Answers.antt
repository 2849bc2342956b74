use Rattle.std.proofs.Common.{length, refl}
use Rattle.gate_growth.proofs.Booking.{no_sound, no_known, none_begun}
use Rattle.gate_growth.proofs.ledger.book.Ledger.new.Goals as goal

pub returns-clause-ledger : goal.returns-clause-ledger
returns-clause-ledger c = λ arbitrary. record {
  count = refl;
  trees_are = tt;
  sound = no_sound arbitrary;
  begun = none_begun arbitrary c.new-2.result.items c.new-2.ensures.items;
  known = no_known arbitrary (length c.new-2.result.items) c.push-2.new.self.items c.new-classes.result.items _ c.new-pages.result.items _ c.in_ok-push-2.ensures.items c.new-classes.ensures.items refl c.in_ok-push.ensures.items c.new-pages.ensures.items c.new.ensures.items refl;
}
