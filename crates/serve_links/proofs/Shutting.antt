-- Connections of which none is left open but what ends have.
use Rattle.std.proofs.Common.{◌≡◌, ◌≢◌, ℕ, Bool, true, false, if◌then◌else◌, List, Option, Some, None, inl, inr, refl, sym, ap, ◌∙◌, subst}
use Rattle.std.specs.Prelude.{nat_eq}
use Rattle.std.proofs.lemmas.Bool.{cases_Bool, eq-eqb, eqb-true}
use Rattle.serve_wire.specs.Events.{WireEvent, role, is_open}
use Rattle.serve_wire.specs.Agreement.{IsUntouched, TouchesOnly}
use Rattle.serve_wire.specs.Calls.{Closes}
use Rattle.serve_wire.proofs.Steps.{equal}
use Rattle.serve_clients.specs.declared.clients.Clients.{Clients}
use Rattle.serve_links.specs.declared.link.Link.{Link}
use Rattle.serve_wire.specs.declared.conn.conn.Conn.{Conn}
use Rattle.std.specs.Option.{option_map}
use Rattle.serve_links.specs.Shut.{client_conn, first_some, drain_of, conn_of, link_conn, IsShutBut, AreShut}
use Rattle.serve_links.specs.Story.{KeepsOthers}

same_pair : {p q : ℕ × ℕ} → Some p ≡ Some q → p ≡ q
same_pair e = cc

none_some : {A : Type 0} {x : A} → None ≡ Some x → ⊥
none_some e = cc

false_true : false ≡ true → ⊥
false_true e = cc

not_open : (b : Bool) → (b ≡ true → ⊥) → b ≡ false
not_open true never = absurd (never refl)
not_open false never = refl

clients_servers : {i j : ℕ} → ◌≡◌ {A = Option (ℕ × ℕ)} (Some (0, i)) (Some (1, j)) → ⊥
clients_servers e = numbers (ap (λ (p : ℕ × ℕ). p.0) (same_pair e))
  where
    numbers : ◌≡◌ {A = ℕ} 0 1 → ⊥
    numbers f = cc

same_number : {kind i j : ℕ} → ◌≡◌ {A = Option (ℕ × ℕ)} (Some (kind, i)) (Some (kind, j)) → i ≡ j
same_number e = ap (λ (p : ℕ × ℕ). p.1) (same_pair e)

-- what was closed isn't open
pub closed_shut : (c : ℕ) (h h' : List WireEvent) → Closes c h h' → is_open c h' ≡ false
closed_shut c h h' (inl closed) = ap (is_open c) closed ∙ ap (λ b. if b then false else is_open c h) (equal c)
closed_shut c h h' (inr same) = ap (is_open c) same.0 ∙ same.1

-- ---- one link

-- it has the connection in use, or else the one whose end is awaited
pub conn_is : (x : Link) (c : Conn) → x.conn ≡ Some c → conn_of x ≡ Some c.number
conn_is x c was = ap (λ o. first_some (option_map (λ (z : Conn). z.number) o) (drain_of x)) was

pub conn_drains : (x : Link) → x.conn ≡ None → conn_of x ≡ drain_of x
conn_drains x none = ap (λ o. first_some (option_map (λ (z : Conn). z.number) o) (drain_of x)) none

-- both are as they were
pub conns_same : (x y : Link) → y.conn ≡ x.conn → y.draining ≡ x.draining → conn_of y ≡ conn_of x
conns_same x y conn draining =
    ap (λ o. first_some (option_map (λ (z : Conn). z.number) o) (drain_of y)) conn ∙ ap (λ o. first_some (option_map (λ (z : Conn). z.number) x.conn) (option_map (λ (z : Conn). z.number) o)) draining

-- one connection was touched: if it is open it is the one that is kept now, and any other that was kept still is
pub shut_by :
    {its : ℕ × ℕ} {h h' : List WireEvent} {o o' : Option ℕ} (c : ℕ) → TouchesOnly c h h' → ((d : ℕ) → nat_eq c d ≡ false → o ≡ Some d → o' ≡ Some d) → (is_open c h' ≡ true → o' ≡ Some c)
    → IsShutBut its o h → IsShutBut its o' h'
shut_by {its} {h} {h'} {o} {o'} c only others own was d of_d on = elim (cases_Bool (nat_eq c d)) [ inl e ↦ mine (eqb-true c d e) | inr e ↦ other e (only d e) ]
  where
    mine : c ≡ d → o' ≡ Some d
    mine e = subst (λ k. o' ≡ Some k) e (own (ap (λ k. is_open k h') e ∙ on))

    other : nat_eq c d ≡ false → IsUntouched d h h' → o' ≡ Some d
    other e same = others d e (was d (sym same.same_role ∙ of_d) (sym same.same_open ∙ on))

-- it is kept, before and after
pub shut_used : {its : ℕ × ℕ} {h h' : List WireEvent} {o o' : Option ℕ} (c : ℕ) → TouchesOnly c h h' → o ≡ Some c → o' ≡ Some c → IsShutBut its o h → IsShutBut its o' h'
shut_used c only had has = shut_by c only (λ d other was. has ∙ sym had ∙ was) (λ on. has)

-- it was begun, where none was kept
pub shut_begun : {its : ℕ × ℕ} {h h' : List WireEvent} {o o' : Option ℕ} (c : ℕ) → TouchesOnly c h h' → o ≡ None → o' ≡ Some c → IsShutBut its o h → IsShutBut its o' h'
shut_begun c only none has = shut_by c only (λ d other was. absurd (none_some (sym none ∙ was))) (λ on. has)

-- it isn't open, and what was kept is
pub shut_in_vain : {its : ℕ × ℕ} {h h' : List WireEvent} {o o' : Option ℕ} (c : ℕ) → TouchesOnly c h h' → is_open c h' ≡ false → o' ≡ o → IsShutBut its o h → IsShutBut its o' h'
shut_in_vain c only shut same = shut_by c only (λ d other was. same ∙ was) (λ on. absurd (false_true (sym shut ∙ on)))

-- it was kept, and isn't open
pub shut_closed : {its : ℕ × ℕ} {h h' : List WireEvent} {o o' : Option ℕ} (c : ℕ) → TouchesOnly c h h' → is_open c h' ≡ false → o ≡ Some c → IsShutBut its o h → IsShutBut its o' h'
shut_closed c only shut had = shut_by c only (λ d other was. absurd (false_true (sym other ∙ eq-eqb c d (same (sym had ∙ was))))) (λ on. absurd (false_true (sym shut ∙ on)))
  where
    same : {m n : ℕ} → Some m ≡ Some n → m ≡ n
    same e = cc

-- no connection was touched
pub shut_still : {its : ℕ × ℕ} {h h' : List WireEvent} {o o' : Option ℕ} → ((d : ℕ) → IsUntouched d h h') → o' ≡ o → IsShutBut its o h → IsShutBut its o' h'
shut_still still same was d of_d on = same ∙ was d (sym (still d).same_role ∙ of_d) (sym (still d).same_open ∙ on)

-- ---- all ends

-- one link's connections were touched
pub shut_line :
    {h h' : List WireEvent} {cs cs' : Clients} {ls ls' : List Link} (at : ℕ) → KeepsOthers (1, at) h h' → (IsShutBut (1, at) (link_conn ls at) h → IsShutBut (1, at) (link_conn ls' at) h')
    → ((j : ℕ) → nat_eq at j ≡ false → link_conn ls' j ≡ link_conn ls j) → ((j : ℕ) → client_conn cs' j ≡ client_conn cs j) → AreShut h cs ls → AreShut h' cs' ls'
shut_line {h} {h'} {cs} {cs'} {ls} {ls'} at keeps own others clients_are was = record {
  clients = λ id c its on. let same = keeps.are c (λ e. clients_servers (sym its ∙ e)) in clients_are id ∙ was.clients id c (sym same.same_role ∙ its) (sym same.same_open ∙ on);
  links = λ j. elim (cases_Bool (nat_eq at j)) [ inl e ↦ mine j (eqb-true at j e) | inr e ↦ other j e ];
  nobodys = λ c none. let same = keeps.are c (λ e. none_some (sym none ∙ e)) in same.same_open ∙ was.nobodys c (sym same.same_role ∙ none);
}
  where
    mine : (j : ℕ) → at ≡ j → IsShutBut (1, j) (link_conn ls' j) h'
    mine j e = subst (λ k. IsShutBut (1, k) (link_conn ls' k) h') e (own (was.links at))

    other : (j : ℕ) → nat_eq at j ≡ false → IsShutBut (1, j) (link_conn ls' j) h'
    other j e c its on =
        let same = keeps.are c (λ is. false_true (sym e ∙ eq-eqb at j (same_number (sym is ∙ its)))) in
        others j e ∙ was.links j c (sym same.same_role ∙ its) (sym same.same_open ∙ on)

-- one client's was, which it has
pub shut_client :
    {h h' : List WireEvent} {cs cs' : Clients} {ls ls' : List Link} (id c : ℕ) → role c h' ≡ Some (0, id) → TouchesOnly c h h' → client_conn cs' id ≡ Some c
    → ((j : ℕ) → client_conn cs' j ≡ client_conn cs j) → ((j : ℕ) → link_conn ls' j ≡ link_conn ls j) → AreShut h cs ls → AreShut h' cs' ls'
shut_client {h} {h'} {cs} {cs'} {ls} {ls'} id c of_c only has clients_are links_are was = record {
  clients = λ j d its on. elim (cases_Bool (nat_eq c d)) [ inl e ↦ mine j d its (eqb-true c d e) | inr e ↦ (let same = only d e in clients_are j ∙ was.clients j d (sym same.same_role ∙ its) (sym same.same_open ∙ on)) ];
  links = λ at d its on. let same = other d (λ e. clients_servers (sym of_c ∙ ap (λ k. role k h') e ∙ its)) in links_are at ∙ was.links at d (sym same.same_role ∙ its) (sym same.same_open ∙ on);
  nobodys = λ d none. let same = other d (λ e. none_some (sym none ∙ ap (λ k. role k h') (sym e) ∙ of_c)) in same.same_open ∙ was.nobodys d (sym same.same_role ∙ none);
}
  where
    mine : (j d : ℕ) → role d h' ≡ Some (0, j) → c ≡ d → client_conn cs' j ≡ Some d
    mine j d its e = subst (λ k. client_conn cs' k ≡ Some d) (same_number (sym of_c ∙ ap (λ k. role k h') e ∙ its)) (has ∙ ap (λ (k : ℕ). Some k) e)

    other : (d : ℕ) → c ≢ d → IsUntouched d h h'
    other d apart = elim (cases_Bool (nat_eq c d)) [ inl e ↦ absurd (apart (eqb-true c d e)) | inr e ↦ only d e ]

-- none was
pub shut_quiet :
    {h h' : List WireEvent} {cs cs' : Clients} {ls ls' : List Link} → ((d : ℕ) → IsUntouched d h h') → ((j : ℕ) → client_conn cs' j ≡ client_conn cs j) → ((j : ℕ) → link_conn ls' j ≡ link_conn ls j)
    → AreShut h cs ls → AreShut h' cs' ls'
shut_quiet quiet clients_are links_are was = record {
  clients = λ j d its on. clients_are j ∙ was.clients j d (sym (quiet d).same_role ∙ its) (sym (quiet d).same_open ∙ on);
  links = λ j d its on. links_are j ∙ was.links j d (sym (quiet d).same_role ∙ its) (sym (quiet d).same_open ∙ on);
  nobodys = λ d none. (quiet d).same_open ∙ was.nobodys d (sym (quiet d).same_role ∙ none);
}

-- ---- clients that come and go

-- a client is gone, and its connection isn't open
pub shut_without :
    {h h' : List WireEvent} {cs cs' : Clients} {ls ls' : List Link} (id : ℕ) → ((d : ℕ) → role d h' ≡ role d h) → ((d : ℕ) → is_open d h' ≡ true → (is_open d h ≡ true) × (client_conn cs id ≢ Some d))
    → ((j : ℕ) → j ≢ id → client_conn cs' j ≡ client_conn cs j) → ((j : ℕ) → link_conn ls' j ≡ link_conn ls j) → AreShut h cs ls → AreShut h' cs' ls'
shut_without {h} {h'} {cs} {cs'} {ls} {ls'} id roles opens others links_are was = record {
  clients = λ j d its on. client j d (sym (roles d) ∙ its) (opens d on);
  links = λ j d its on. links_are j ∙ was.links j d (sym (roles d) ∙ its) (opens d on).0;
  nobodys = λ d none. not_open (is_open d h') (λ on. false_true (sym (was.nobodys d (sym (roles d) ∙ none)) ∙ (opens d on).0));
}
  where
    client : (j d : ℕ) → role d h ≡ Some (0, j) → (is_open d h ≡ true) × (client_conn cs id ≢ Some d) → client_conn cs' j ≡ Some d
    client j d its on = elim (cases_Bool (nat_eq id j)) [
      | inl e ↦ absurd (on.1 (ap (client_conn cs) (eqb-true id j e) ∙ was.clients j d its on.0))
      | inr e ↦ others j (λ same. false_true (sym e ∙ eq-eqb id j (sym same))) ∙ was.clients j d its on.0
    ]

-- and then a new one may have come in its place, by a connection that was nobody's
pub shut_opened :
    {h h' : List WireEvent} {cs cs' : Clients} {ls ls' : List Link} (id c : ℕ) → ((d : ℕ) → nat_eq c d ≡ false → role d h' ≡ role d h)
    → ((d : ℕ) → nat_eq c d ≡ false → is_open d h' ≡ true → (is_open d h ≡ true) × (client_conn cs id ≢ Some d)) → (is_open c h' ≡ true → (client_conn cs' id ≡ Some c) × (role c h' ≡ Some (0, id)))
    → ((j : ℕ) → j ≢ id → client_conn cs' j ≡ client_conn cs j) → ((j : ℕ) → link_conn ls' j ≡ link_conn ls j) → AreShut h cs ls → AreShut h' cs' ls'
shut_opened {h} {h'} {cs} {cs'} {ls} {ls'} id c roles opens own others links_are was = record {
  clients = λ j d its on. elim (cases_Bool (nat_eq c d)) [ inl e ↦ mine j d its (eqb-true c d e) on | inr e ↦ client j d (sym (roles d e) ∙ its) (opens d e on) ];
  links = λ j d its on. elim (cases_Bool (nat_eq c d)) [ inl e ↦ absurd (clients_servers (sym (mine_is d (eqb-true c d e) on).1 ∙ its)) | inr e ↦ links_are j ∙ was.links j d (sym (roles d e) ∙ its) (opens d e on).0 ];
  nobodys = λ d none. not_open (is_open d h') (λ on. elim (cases_Bool (nat_eq c d)) [ inl e ↦ none_some (sym none ∙ (mine_is d (eqb-true c d e) on).1) | inr e ↦ false_true (sym (was.nobodys d (sym (roles d e) ∙ none)) ∙ (opens d e on).0) ]);
}
  where
    mine_is : (d : ℕ) → c ≡ d → is_open d h' ≡ true → (client_conn cs' id ≡ Some d) × (role d h' ≡ Some (0, id))
    mine_is d e = subst (λ k. is_open k h' ≡ true → (client_conn cs' id ≡ Some k) × (role k h' ≡ Some (0, id))) e own

    mine : (j d : ℕ) → role d h' ≡ Some (0, j) → c ≡ d → is_open d h' ≡ true → client_conn cs' j ≡ Some d
    mine j d its e on = let is = mine_is d e on in ap (client_conn cs') (same_number (sym its ∙ is.1)) ∙ is.0

    client : (j d : ℕ) → role d h ≡ Some (0, j) → (is_open d h ≡ true) × (client_conn cs id ≢ Some d) → client_conn cs' j ≡ Some d
    client j d its on = elim (cases_Bool (nat_eq id j)) [
      | inl e ↦ absurd (on.1 (ap (client_conn cs) (eqb-true id j e) ∙ was.clients j d its on.0))
      | inr e ↦ others j (λ same. false_true (sym e ∙ eq-eqb id j (sym same))) ∙ was.clients j d its on.0
    ]

-- one connection was touched that was nobody's, and isn't open
pub shut_turned :
    {h h' : List WireEvent} {cs : Clients} {ls : List Link} (c : ℕ) → is_open c h' ≡ false → TouchesOnly c h h' → AreShut h cs ls → AreShut h' cs ls
shut_turned {h} {h'} {cs} {ls} c shut only was = record {
  clients = λ j d its on. let same = other d on in was.clients j d (sym same.same_role ∙ its) (sym same.same_open ∙ on);
  links = λ j d its on. let same = other d on in was.links j d (sym same.same_role ∙ its) (sym same.same_open ∙ on);
  nobodys = λ d none. not_open (is_open d h') (λ on. let same = other d on in false_true (sym (was.nobodys d (sym same.same_role ∙ none)) ∙ sym same.same_open ∙ on));
}
  where
    other : (d : ℕ) → is_open d h' ≡ true → IsUntouched d h h'
    other d on = elim (cases_Bool (nat_eq c d)) [ inl e ↦ absurd (false_true (sym shut ∙ ap (λ k. is_open k h') (eqb-true c d e) ∙ on)) | inr e ↦ only d e ]
