-- What each event does to what agrees: to the connection that it is of, and to all others.
use Rattle.std.proofs.Common.{◌≡◌, ◌≢◌, ℕ, suc, ◌==◌, true, false, if◌then◌else◌, Some, None, List, [], ◌∷◌, ◌++◌, take, drop, refl, sym, ap, ◌∙◌, append_assoc, append-nil, arith}
use Rattle.std.proofs.lemmas.Bool.{eq-eqb, eqb-true}
use Rattle.std.proofs.lemmas.List.{take-append-drop}
use Rattle.serve_wire.specs.Events.{WireEvent, admits, connects, delivers, takes, ends, fails, closes, accepts, looks_up, delivered, taken, role, begin_of, is_over, is_open, time, IsUntold}
use Rattle.serve_wire.specs.Agreement.{ClientAgrees, BeginAgrees, Extends, IsUntouched, TouchesOnly}

pub equal : (c : ℕ) → (c == c) ≡ true
equal c = eq-eqb c c refl

-- two numbers that are apart
pub unequal : (c d : ℕ) → c ≢ d → (c == d) ≡ false
unequal c d h = grind (arith, eqb-true)

-- ---- connections that are apart

-- connections with different roles
pub apart : (c d : ℕ) (h : List WireEvent) (p q : ℕ × ℕ) → role c h ≡ Some p → role d h ≡ Some q → p ≢ q → (c == d) ≡ false
apart c d h p q of_c of_d other = unequal c d (λ e. other (some_is (sym of_c ∙ ap (λ x. role x h) e ∙ of_d)))
  where
    some_is : Some p ≡ Some q → p ≡ q
    some_is e = cc

-- a new connection, and one with a role
pub new_apart : (c d : ℕ) (h : List WireEvent) (p : ℕ × ℕ) → role d h ≡ Some p → role c h ≡ None → (c == d) ≡ false
new_apart c d h p of_d none = unequal c d (λ e. none_some (sym none ∙ ap (λ x. role x h) e ∙ of_d))
  where
    none_some : None ≡ Some p → ⊥
    none_some e = cc

-- ---- all others

pub extends_twice : (h h' h'' : List WireEvent) → Extends h h' → Extends h' h'' → Extends h h''
extends_twice h h' h'' a b = (b.0 ++ a.0, b.1 ∙ ap (λ l. b.0 ++ l) a.1 ∙ sym (append_assoc b.0 a.0 h))

pub untouched : (d : ℕ) (h : List WireEvent) → IsUntouched d h h
untouched d h = record { same_role = refl; same_begin = refl; same_came = refl; same_went = refl; same_over = refl; same_open = refl; same_time = refl; after = ([], refl) }

pub untouched_twice : (d : ℕ) (h h' h'' : List WireEvent) → IsUntouched d h h' → IsUntouched d h' h'' → IsUntouched d h h''
untouched_twice d h h' h'' a b =
    record { same_role = b.same_role ∙ a.same_role; same_begin = b.same_begin ∙ a.same_begin; same_came = b.same_came ∙ a.same_came; same_went = b.same_went ∙ a.same_went; same_over = b.same_over ∙ a.same_over; same_open = b.same_open ∙ a.same_open; same_time = b.same_time ∙ a.same_time; after = extends_twice h h' h'' a.after b.after }

pub only_twice : (c : ℕ) (h h' h'' : List WireEvent) → TouchesOnly c h h' → TouchesOnly c h' h'' → TouchesOnly c h h''
only_twice c h h' h'' a b = λ d other. untouched_twice d h h' h'' (a d other) (b d other)

-- some connection is another one
pub only_after : (c : ℕ) (h h' : List WireEvent) → TouchesOnly c h h' → Extends h h'
only_after c h h' only = (only (suc c) (unequal c (suc c) (λ e. absurd (omega (arith, e))))).after

-- nor was the clock looked at
pub only_time : (c : ℕ) (h h' : List WireEvent) → TouchesOnly c h h' → time h' ≡ time h
only_time c h h' only = (only (suc c) (unequal c (suc c) (λ e. absurd (omega (arith, e))))).same_time

pub only_delivers : (c : ℕ) (bytes : List ℕ) (h : List WireEvent) → TouchesOnly c h (delivers c bytes ∷ h)
only_delivers c bytes h = λ d other. record { same_role = refl; same_begin = refl; same_came = ap (λ b. if b then delivered d h ++ bytes else delivered d h) other; same_went = refl; same_over = refl; same_open = refl; same_time = refl; after = (delivers c bytes ∷ [], refl) }

pub only_takes : (c : ℕ) (bytes : List ℕ) (h : List WireEvent) → TouchesOnly c h (takes c bytes ∷ h)
only_takes c bytes h = λ d other. record { same_role = refl; same_begin = refl; same_came = refl; same_went = ap (λ b. if b then taken d h ++ bytes else taken d h) other; same_over = refl; same_open = refl; same_time = refl; after = (takes c bytes ∷ [], refl) }

pub only_ends : (c : ℕ) (h : List WireEvent) → TouchesOnly c h (ends c ∷ h)
only_ends c h = λ d other. record { same_role = refl; same_begin = refl; same_came = refl; same_went = refl; same_over = ap (λ b. if b then true else is_over d h) other; same_open = refl; same_time = refl; after = (ends c ∷ [], refl) }

pub only_fails : (c : ℕ) (h : List WireEvent) → TouchesOnly c h (fails c ∷ h)
only_fails c h = λ d other. record { same_role = refl; same_begin = refl; same_came = refl; same_went = refl; same_over = ap (λ b. if b then true else is_over d h) other; same_open = refl; same_time = refl; after = (fails c ∷ [], refl) }

pub only_closes : (c : ℕ) (h : List WireEvent) → TouchesOnly c h (closes c ∷ h)
only_closes c h = λ d other. record { same_role = refl; same_begin = refl; same_came = refl; same_went = refl; same_over = ap (λ b. if b then true else is_over d h) other; same_open = ap (λ b. if b then false else is_open d h) other; same_time = refl; after = (closes c ∷ [], refl) }

pub only_admits : (c i : ℕ) (h : List WireEvent) → TouchesOnly c h (admits c i ∷ h)
only_admits c i h = λ d other. record { same_role = ap (λ b. if b then Some (0, i) else role d h) other; same_begin = refl; same_came = refl; same_went = refl; same_over = refl; same_open = refl; same_time = refl; after = (admits c i ∷ [], refl) }

pub only_connects : (c i : ℕ) (text : List ℕ) (h : List WireEvent) → TouchesOnly c h (connects c i text ∷ h)
only_connects c i text h = λ d other. record { same_role = ap (λ b. if b then Some (1, i) else role d h) other; same_begin = ap (λ b. if b then Some (text, time h) else begin_of d h) other; same_came = refl; same_went = refl; same_over = refl; same_open = ap (λ b. if b then true else is_open d h) other; same_time = refl; after = (connects c i text ∷ [], refl) }

pub only_accepts : (c : ℕ) (h : List WireEvent) → TouchesOnly c h (accepts c ∷ h)
only_accepts c h = λ d other. record { same_role = refl; same_begin = refl; same_came = refl; same_went = refl; same_over = refl; same_open = ap (λ b. if b then true else is_open d h) other; same_time = refl; after = (accepts c ∷ [], refl) }

-- by a look-up no connection is touched
pub none_looks_up : (text : List ℕ) (d : ℕ) (h : List WireEvent) → IsUntouched d h (looks_up text ∷ h)
none_looks_up text d h = record { same_role = refl; same_begin = refl; same_came = refl; same_went = refl; same_over = refl; same_open = refl; same_time = refl; after = (looks_up text ∷ [], refl) }

-- what agrees goes on to agree where nothing touched it
pub client_stays : (h h' : List WireEvent) (input output : ℕ → List ℕ) (i conn : ℕ) (held unsent : List ℕ) → IsUntouched conn h h' → ClientAgrees h input output i conn held unsent → ClientAgrees h' input output i conn held unsent
client_stays h h' input output i conn held unsent same was =
    record { is_its = same.same_role ∙ was.is_its; input_is = same.same_came ∙ was.input_is; output_is = was.output_is ∙ ap (λ l. l ++ unsent) (sym same.same_went) }

pub begin_stays : (h h' : List WireEvent) (begun : List ℕ × ℕ) (conn : ℕ) → IsUntouched conn h h' → BeginAgrees h begun conn → BeginAgrees h' begun conn
begin_stays h h' begun conn same was = same.same_begin ∙ was

-- ---- one client

-- it was admitted, before anything was read or written
pub client_begins : (h : List WireEvent) (input output : ℕ → List ℕ) (i conn : ℕ) → IsUntold conn h → input i ≡ [] → output i ≡ [] → ClientAgrees (admits conn i ∷ h) input output i conn [] []
client_begins h input output i conn new no_input no_output =
    record { is_its = ap (λ b. if b then Some (0, i) else role conn h) (equal conn); input_is = new.none_came ∙ sym no_input ∙ sym (append-nil (input i)); output_is = no_output ∙ sym new.none_went ∙ sym (append-nil (taken conn h)) }

-- what was accepted is as new as before
pub new_accepted : (c d : ℕ) (h : List WireEvent) → IsUntold c h → IsUntold c (accepts d ∷ h)
new_accepted c d h new = record { no_role = new.no_role; none_came = new.none_came; none_went = new.none_went; goes_on = new.goes_on }

-- bytes came
pub client_came : (h : List WireEvent) (input output : ℕ → List ℕ) (i conn : ℕ) (held unsent bytes : List ℕ) → ClientAgrees h input output i conn held unsent → ClientAgrees (delivers conn bytes ∷ h) input output i conn (held ++ bytes) unsent
client_came h input output i conn held unsent bytes was =
    record { is_its = was.is_its; input_is = ap (λ b. if b then delivered conn h ++ bytes else delivered conn h) (equal conn) ∙ ap (λ l. l ++ bytes) was.input_is ∙ append_assoc (input i) held bytes; output_is = was.output_is }

-- its first bytes went
pub client_went : (h : List WireEvent) (input output : ℕ → List ℕ) (i conn n : ℕ) (held unsent : List ℕ) → ClientAgrees h input output i conn held unsent → ClientAgrees (takes conn (take n unsent) ∷ h) input output i conn held (drop n unsent)
client_went h input output i conn n held unsent was =
    record { is_its = was.is_its; input_is = was.input_is; output_is = was.output_is ∙ went h conn n unsent }
  where
    went : (h : List WireEvent) (c n : ℕ) (unsent : List ℕ) → taken c h ++ unsent ≡ taken c (takes c (take n unsent) ∷ h) ++ drop n unsent
    went h c n unsent = ap (λ l. taken c h ++ l) (sym (take-append-drop n unsent)) ∙ sym (append_assoc (taken c h) (take n unsent) (drop n unsent)) ∙ ap (λ b. (if b then taken c h ++ take n unsent else taken c h) ++ drop n unsent) (sym (equal c))

-- the first of what is held was fed to the core
pub client_fed : (h : List WireEvent) (input input' output : ℕ → List ℕ) (i conn : ℕ) (bytes held unsent : List ℕ) → input' i ≡ input i ++ bytes → ClientAgrees h input output i conn (bytes ++ held) unsent → ClientAgrees h input' output i conn held unsent
client_fed h input input' output i conn bytes held unsent fed was =
    record { is_its = was.is_its; input_is = was.input_is ∙ sym (append_assoc (input i) bytes held) ∙ ap (λ l. l ++ held) (sym fed); output_is = was.output_is }

-- what the core has for it is to be sent
pub client_shown : (h : List WireEvent) (input output output' : ℕ → List ℕ) (i conn : ℕ) (held unsent bytes : List ℕ) → output' i ≡ output i ++ bytes → ClientAgrees h input output i conn held unsent → ClientAgrees h input output' i conn held (unsent ++ bytes)
client_shown h input output output' i conn held unsent bytes shown was =
    record { is_its = was.is_its; input_is = was.input_is; output_is = shown ∙ ap (λ l. l ++ bytes) was.output_is ∙ append_assoc (taken conn h) unsent bytes }

-- ---- one link

pub begin_begins : (h : List WireEvent) (text : List ℕ) (i conn : ℕ) → BeginAgrees (connects conn i text ∷ h) (text, time h) conn
begin_begins h text i conn = ap (λ b. if b then Some (text, time h) else begin_of conn h) (equal conn)
