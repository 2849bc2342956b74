use Rattle.std.proofs.Common.{◌≡◌, ◌++◌, drop, length}
use Rattle.serve_proxy.specs.Ends.{AddsLines}
use Rattle.serve_proxy.specs.Emptying.{AddsEach}
use Rattle.serve_links.specs.Story.{texts_of}
use Rattle.serve_proxy.proofs.links.Links.add.Given as goal

abbrev pub invariant-loop-at : goal.invariant-loop-at
invariant-loop-at l = record {
  texts : texts_of l.self.all.items ++ drop l.at l.servers ≡ texts_of l.fn.self.all.items ++ drop (length l.fn.self.all.items) l.servers;
  adds : AddsLines l.fn.self.all.items l.self.all.items;
  emptied : AddsEach l.fn.self.flushes_new l.fn.self.all.items l.self.all.items;
  set : l.self.flushes_new ≡ l.fn.self.flushes_new;
}
