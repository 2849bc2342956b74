use Rattle.route_tree.specs.RouteCode.{route_size, policies_route_size, prefixes_route_size}
use Rattle.route_tree.specs.Form.{policies_of, prefixes_of}
use Rattle.gate_gaps.proofs.sites.+site.Given as goal

abbrev pub decreases-write_site : goal.decreases-write_site
decreases-write_site g l = route_size l.tree.now

abbrev pub decreases-write_site_by : goal.decreases-write_site_by
decreases-write_site_by g l = policies_route_size (policies_of l.policies.now l.default.now)

abbrev pub decreases-write_site_begun : goal.decreases-write_site_begun
decreases-write_site_begun g l = prefixes_route_size (prefixes_of l.policies.now l.wildcard.now)
