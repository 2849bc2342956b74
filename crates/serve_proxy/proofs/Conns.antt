-- The connections that links have, by their lines.
use Rattle.std.proofs.Common.{◌≡◌, ℕ, zero, suc, List, [], ◌∷◌, ◌++◌, Option, Some, None, refl, sym, ap, ◌∙◌}
use Rattle.std.specs.Prelude.{slice_get, map as each}
use Rattle.std.specs.Option.{option_map, option_flatten}
use Rattle.serve_wire.specs.declared.conn.conn.Conn.{Conn}
use Rattle.wire_parts.specs.Sending.{bytes_of}
use Rattle.serve_links.specs.declared.settings.LinkLimits.{LinkLimits}
use Rattle.serve_links.specs.declared.link.Link.{Link}
use Rattle.serve_links.specs.Shut.{first_some, drain_of, link_conn}
use Rattle.serve_links.specs.Story.{LineState}
use Rattle.serve_proxy.specs.Ends.{link_lines, down_line, AddsLines}

abbrev conn_by : LineState → Option ℕ
conn_by line = first_some (option_map (λ (e : ℕ × List ℕ × List ℕ). e.0) line.1) line.7

abbrev conn_in : List LineState → ℕ → Option ℕ
conn_in lines at = option_flatten (option_map conn_by (slice_get lines at))

one_conn : (o : Option Conn) → option_map (λ (e : ℕ × List ℕ × List ℕ). e.0) (option_map (λ (x : Conn). let e : ℕ × List ℕ × List ℕ = (x.number, x.held.items, bytes_of x.unsent) in e) o) ≡ option_map (λ (x : Conn). x.number) o
one_conn None = refl
one_conn (Some x) = refl

conn_line : (links : List Link) (at : ℕ) → conn_in (link_lines links) at ≡ link_conn links at
conn_line [] at = refl
conn_line (link ∷ links) zero = ap (λ o. first_some o (drain_of link)) (one_conn link.conn)
conn_line (link ∷ links) (suc at) = conn_line links at

-- links of the same lines have the same connections
pub conns_kept : (ls ls' : List Link) → link_lines ls' ≡ link_lines ls → (at : ℕ) → link_conn ls' at ≡ link_conn ls at
conns_kept ls ls' same at = sym (conn_line ls' at) ∙ ap (λ l. conn_in l at) same ∙ conn_line ls at

down_in : (lines : List LineState) (servers : List (List ℕ × LinkLimits)) (at : ℕ) → conn_in (lines ++ each down_line servers) at ≡ conn_in lines at
down_in [] [] at = refl
down_in [] (server ∷ servers) zero = refl
down_in [] (server ∷ servers) (suc at) = down_in [] servers at
down_in (line ∷ lines) servers zero = refl
down_in (line ∷ lines) servers (suc at) = down_in lines servers at

-- links that are added have none
pub conns_grow : (ls ls' : List Link) → AddsLines ls ls' → (at : ℕ) → link_conn ls' at ≡ link_conn ls at
conns_grow ls ls' adds at = sym (conn_line ls' at) ∙ ap (λ l. conn_in l at) adds.1 ∙ down_in (link_lines ls) adds.0 at ∙ conn_line ls at
