use Rattle.std.proofs.Common.{◌≡◌, ◌<◌, ℕ, true, Some}
use Rattle.std.specs.Prelude.{slice_get}
use Rattle.serve_links.specs.declared.link.Link.{Link}
use Rattle.serve_links.specs.Epochs.{LinkIsQuiet}
use Rattle.serve_proxy.specs.Epochs.{share_address}
use Rattle.serve_proxy.proofs.links.Links.have_ended.Given as goal

abbrev pub invariant-loop-earlier : goal.invariant-loop-earlier
invariant-loop-earlier l = (e : ℕ) → e < l.earlier → share_address l.servers e l.at ≡ true → (link : Link) → slice_get l.self.all.items e ≡ Some link → LinkIsQuiet link
