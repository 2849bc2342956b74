use Rattle.std.proofs.Common.{not, refl, sym, ap, ◌∙◌, subst}
use Rattle.serve_links.specs.Calls.{IsFirstLate}
use Rattle.serve_links.proofs.LinkGoes.{quiet, line_keeps}
use Rattle.serve_links.proofs.LateGoes.{line_still, late_kept, late_same, late_still, some_conn, line_turns, waits_still, waits_first}
use Rattle.serve_links.proofs.link.Link.fail_late.Goals as goal

pub returns-then-is_none : goal.returns-then-is_none
returns-then-is_none c = let x = c.args.self.now in record { goes = λ at h has. line_still x; late = λ now has. has; stores = waits_still x x refl refl }

pub returns-then-awaits_store : goal.returns-then-awaits_store
returns-then-awaits_store c = let x = c.args.self.now in record { goes = λ at h has. line_still x; late = λ now has. has; stores = waits_still x x refl refl }

pub returns-in_default : goal.returns-in_default
returns-in_default c = let x = c.args.self.now in record { goes = λ at h has. line_still x; late = λ now has. has; stores = waits_still x x refl refl }

pub returns-in_err-call : goal.returns-in_err-call
returns-in_err-call c = let x = c.args.self.now in record { goes = λ at h has. line_still x; late = λ now has. has; stores = waits_still x x refl refl }

pub returns-in_err-push_back : goal.returns-in_err-push_back
returns-in_err-push_back c =
    let x = c.args.self.now in
    let y = record x { late = c.push_back.new.self } in
    record { goes = λ at h has. line_keeps (quiet h) (late_kept x y refl c.in_err-push_back.ensures.items); late = λ now has. late_same now x y c.in_err-push_back.ensures.items has; stores = waits_still x y refl refl }

pub returns : goal.returns
returns c =
    let x = c.args.self.now in
    let y = record x { late = c.push_back.new.self; calls = c.fail_next.new.self } in
    let conn = some_conn x.conn (c.is_none.ensures ∙ ap not c.if-is_none.false) in
    let first = subst (λ o. IsFirstLate x.calls.sent.items o) c.in-Some.is c.in_ok-call.ensures in
    record {
      goes = λ at h has.
          line_turns x y conn.0 c.in-Some.call c.fail_next.result conn.1 refl refl refl refl refl refl first c.in_ok-push_back.ensures.items
          c.fail_next.ensures has;
      late = λ now has. late_still now x y c.in-Some.call c.args.core.now c.fail_next.new.core c.fail_next.result refl first c.in_ok-push_back.ensures.items c.fail_next.ensures has;
      stores = waits_first x y c.in-Some.call c.args.core.now c.fail_next.new.core c.fail_next.result (sym c.awaits_store.ensures ∙ c.if-awaits_store.false) refl first c.fail_next.ensures;
    }
