use Rattle.serve_links.specs.declared.calls.calls.LinkCalls.{LinkCalls}
use Rattle.std.proofs.Common.{◌≡◌, ◌≤◌, ◌+◌, Option, None, ap, subst}
use Rattle.std.specs.Prelude.{MatchOption}
use Rattle.serve_wire.specs.declared.conn.conn.Conn.{Conn}
use Rattle.serve_links.specs.declared.link.Opening.TheVariants as opening
use Rattle.serve_links.proofs.ByLimits.{same_server}
use Rattle.serve_proxy.proofs.Staying.{line_opens, line_opens_not, none_kept}
use Rattle.serve_proxy.proofs.Linking.{begun_open, begun_not}
use Rattle.serve_proxy.proofs.links.begin.Goals as goal

pub returns-in-Failed : goal.returns-in-Failed
returns-in-Failed g c = record {
  stands = let none = none_kept c.args.link.now.conn c.connect.new.self.conn c.requires c.in-Failed.ensures.opens.1.conn in line_opens_not c.args.at c.args.settings.now.server_dialect opening.Failed _ _ c.args.link.now c.connect.new.self c.close.new.self c.in-Failed.ensures.opens none c.close.ensures.conn (subst (λ (o : Option Conn). MatchOption o (c.close.new.self.draining ≡ c.connect.new.self.draining) (λ d. c.close.new.self.draining ≡ None)) none c.close.ensures.draining) (same_server c.connect.new.self c.close.new.self (ap (λ t. t.items) c.close.ensures.text) c.close.ensures.limits) c.close.ensures.waiting (ap (λ (k : LinkCalls). k.sent.items) c.close.ensures.calls) (subst (λ (o : Option Conn). MatchOption o (c.close.new.self.lost ≡ c.connect.new.self.lost) (λ d. c.close.new.self.lost ≤ c.connect.new.self.lost + 1)) none c.close.ensures.lost);
  conn = λ begun. absurd (let no = begun in cc no);
  none = λ isnt. c.close.ensures.conn;
}

pub returns-in_default : goal.returns-in_default
returns-in_default g c = record {
  stands = line_opens c.args.at c.args.settings.now.server_dialect c.connect.result _ _ c.args.link.now c.connect.new.self c.connect.ensures.opens;
  conn = begun_open c.args.at c.args.settings.now.server_dialect c.args.link.now c.connect.new.self _ _ c.connect.result c.connect.ensures.opens;
  none = begun_not c.args.at c.args.settings.now.server_dialect c.args.link.now c.connect.new.self _ _ c.connect.result c.connect.ensures.opens c.requires;
}
