use Rattle.std.proofs.Common.{◌≡◌, ◌<◌, ℕ}
use Rattle.serve_proxy.specs.Ends.{link_lines}
use Rattle.serve_proxy.specs.Epochs.{EpochIsInTurn}
use Rattle.serve_proxy.proofs.links.Links.keep_epochs.Given as goal

abbrev pub invariant-loop-at : goal.invariant-loop-at
invariant-loop-at l = record {
  turns : (at : ℕ) → at < l.at → EpochIsInTurn l.servers l.self.all.items at;
  lines : link_lines l.self.all.items ≡ link_lines l.fn.self.all.items;
}
