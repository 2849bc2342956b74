use Rattle.std.proofs.Common.{take}
use Rattle.std.specs.Io.KnownBytes.{Appends}
use Rattle.mcgate_lines.specs.Blocks.{servers_text}
use Rattle.mcgate_lines.proofs.key_places.writing.write_servers.Given as goal

abbrev pub invariant-loop-server : goal.invariant-loop-server
invariant-loop-server g l = Appends (g.W.Write.contents l.initial.out) (g.W.Write.contents l.out) (servers_text l.servers l.pools (take l.server-index l.list))
