-- Servers whose addresses were asked for, one after another.
use Rattle.std.proofs.Common.{◌≡◌, ℕ, ◌+◌, ◌≤◌, ◌<◌, length, List, [], ◌∷◌, ◌++◌, Some, None, Result, Ok, Err, inl, inr, refl, sym, ap, ◌∙◌, subst, append_assoc, arith}
use Rattle.std.proofs.lemmas.Bool.{cases_eq}
use Rattle.std.proofs.lemmas.Option.{slice_get_within}
use Rattle.std.specs.Prelude.{slice_get, IfOk}
use Rattle.serve_wire.specs.Events.{WireEvent, looks_up}
use Rattle.serve_wire.specs.Agreement.{Extends, IsUntouched}
use Rattle.serve_wire.proofs.Steps.{untouched, untouched_twice, none_looks_up}
use Rattle.serve_proxy.specs.Ends.{WireIsQuiet, HasNoConns}
use Rattle.serve_links.specs.Story.{HasHappened}
use Rattle.route_json.specs.Servers.{Addresses}
use Rattle.mcgate_serve.specs.LooksUp.{AreLookedUp}

-- from the server of this number on, each one's text was asked for, up to the one before another number
abbrev pub AreLookedUpTo : (from to : ℕ) → Addresses → List WireEvent → Type 0
AreLookedUpTo from to servers h = (at : ℕ) (text : List ℕ) → from ≤ at → at < to → slice_get servers at ≡ Some text → HasHappened (looks_up text) h

pub none_yet : (from : ℕ) (servers : Addresses) (h : List WireEvent) → AreLookedUpTo from from servers h
none_yet from servers h at text least less there = absurd (omega arith)

-- what has happened has happened however much did since
happened_still : (event : WireEvent) (h h' : List WireEvent) → Extends h h' → HasHappened event h → HasHappened event h'
happened_still event h h' more was = (more.0 ++ was.0, was.1, more.1 ∙ ap (λ (l : List WireEvent). more.0 ++ l) was.2 ∙ sym (append_assoc more.0 was.0 (event ∷ was.1)))

pub just_happened : (event : WireEvent) (h h' : List WireEvent) → h' ≡ event ∷ h → HasHappened event h'
just_happened event h h' is = ([], h, is)

pub one_more :
    (from to : ℕ) (servers : Addresses) (h h' : List WireEvent) → Extends h h' → ((text : List ℕ) → slice_get servers to ≡ Some text → HasHappened (looks_up text) h') → AreLookedUpTo from to servers h
    → AreLookedUpTo from (to + 1) servers h'
one_more from to servers h h' more now were at text least less there =
    elim (cases_eq at to) [ inl e ↦ now text (ap (slice_get servers) (sym e) ∙ there) | inr other ↦ happened_still (looks_up text) h h' more (were at text least (omega arith) there) ]

pub to_all : (from to : ℕ) (servers : Addresses) (h : List WireEvent) → length servers ≤ to → AreLookedUpTo from to servers h → AreLookedUp from servers h
to_all from to servers h all were at text least there = were at text least (let within = slice_get_within servers at text there in omega arith) there

same_some : {A : Type 0} {x y : A} → Some x ≡ Some y → x ≡ y
same_some e = cc

none_some : {A : Type 0} {x : A} → None ≡ Some x → ⊥
none_some e = cc

-- one that names no text
pub none_there : (servers : Addresses) (at : ℕ) (h : List WireEvent) → slice_get servers at ≡ None → (text : List ℕ) → slice_get servers at ≡ Some text → HasHappened (looks_up text) h
none_there servers at h none text there = absurd (none_some (sym none ∙ there))

pub same_text : (servers : Addresses) (at : ℕ) (text : List ℕ) (h h' : List WireEvent) → slice_get servers at ≡ Some text → h' ≡ looks_up text ∷ h → (other : List ℕ) → slice_get servers at ≡ Some other → HasHappened (looks_up other) h'
same_text servers at text h h' is now other there = subst (λ (t : List ℕ). HasHappened (looks_up t) h') (same_some (sym is ∙ there)) (just_happened (looks_up text) h h' now)

-- nothing happened on any connection
pub quiet_still : (h : List WireEvent) → WireIsQuiet h h
quiet_still h = λ d. untouched d h

pub quiet_twice : {h h' h'' : List WireEvent} → WireIsQuiet h h' → WireIsQuiet h' h'' → WireIsQuiet h h''
quiet_twice {h} {h'} {h''} one two = λ d. untouched_twice d h h' h'' (one d) (two d)

pub quiet_look_up : {h h' : List WireEvent} (text : List ℕ) → h' ≡ looks_up text ∷ h → WireIsQuiet h h'
quiet_look_up {h} text is = λ d. subst (IsUntouched d h) (sym is) (none_looks_up text d h)

pub still_none : {h h' : List WireEvent} → WireIsQuiet h h' → HasNoConns h → HasNoConns h'
still_none quiet none = (λ conn. ((quiet conn).same_role ∙ (none.0 conn).0, (quiet conn).same_open ∙ (none.0 conn).1), (quiet 0).same_time ∙ none.1)

-- on the same wire
pub looked_as : {W : Type 0} (history : W → List WireEvent) (from : ℕ) (servers : Addresses) (old new : W) → new ≡ old → AreLookedUp from servers (history old) → AreLookedUp from servers (history new)
looked_as {W} history from servers old new same looked = subst (λ (w : W). AreLookedUp from servers (history w)) (sym same) looked
