-- Links that are in use no longer, or not yet. Source: mcgate's own.
use Rattle.std.specs.Prelude.{◌≡◌, Bool, [], None}
use Rattle.serve_links.specs.declared.link.Link.{Link}

-- no call goes out on it
abbrev pub is_retired : Link → Bool
is_retired link = link.is_retired

-- the link, retired or not
abbrev pub with_retired : Bool → Link → Link
with_retired is_retired link = record link { is_retired = is_retired }

-- no call is out on it or waits for it, none is late, and no end of a connection is awaited
pub record LinkIsQuiet (link : Link) : Type 0 where
  pub sent : link.calls.sent.items ≡ []
  pub waiting : link.waiting ≡ []
  pub late : link.late.items ≡ []
  pub draining : link.draining ≡ None
