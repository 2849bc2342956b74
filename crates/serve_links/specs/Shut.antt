-- Which connections stay open: those that ends of clients and links have, and no other. Source: mcgate's own.
use Rattle.std.specs.Prelude.{◌≡◌, ℕ, true, false, List, Option, Some, None, slice_get}
use Rattle.std.specs.Option.{option_map, option_flatten}
use Rattle.serve_wire.specs.Events.{WireEvent, role, is_open}
use Rattle.serve_wire.specs.declared.conn.conn.Conn.{Conn}
use Rattle.serve_clients.specs.declared.clients.Client.{Client}
use Rattle.serve_clients.specs.declared.clients.Clients.{Clients}
use Rattle.serve_clients.specs.Marks.{client_of}
use Rattle.serve_links.specs.declared.link.Link.{Link}

-- the connection of the client of this id, if there is one; of a link, if it has one: the one in use, or else the one whose end is awaited; and of the link at this place
abbrev pub client_conn : Clients → ℕ → Option ℕ
client_conn clients id = option_map (λ (x : Client). x.conn.number) (client_of clients id)

abbrev pub first_some : Option ℕ → Option ℕ → Option ℕ
first_some None other = other
first_some (Some c) other = Some c

abbrev pub drain_of : Link → Option ℕ
drain_of link = option_map (λ (x : Conn). x.number) link.draining

abbrev pub conn_of : Link → Option ℕ
conn_of link = first_some (option_map (λ (x : Conn). x.number) link.conn) (drain_of link)

abbrev pub link_conn : List Link → ℕ → Option ℕ
link_conn links at = option_flatten (option_map conn_of (slice_get links at))

-- of all connections of one client, or to one server, none is open but this one, if there is one
abbrev pub IsShutBut : ℕ × ℕ → Option ℕ → List WireEvent → Type 0
IsShutBut its kept h = (c : ℕ) → role c h ≡ Some its → is_open c h ≡ true → kept ≡ Some c

-- where nothing of this server is open but what its link has, it is so after
abbrev pub StaysShut : ℕ → List WireEvent → Link → List WireEvent → Link → Type 0
StaysShut at h link h' link' = IsShutBut (1, at) (conn_of link) h → IsShutBut (1, at) (conn_of link') h'

-- each connection is closed but those that clients' ends and links have
pub record AreShut (h : List WireEvent) (cs : Clients) (ls : List Link) : Type 0 where
  pub clients : (id : ℕ) → IsShutBut (0, id) (client_conn cs id) h
  pub links : (at : ℕ) → IsShutBut (1, at) (link_conn ls at) h
  pub nobodys : (c : ℕ) → role c h ≡ None → is_open c h ≡ false
