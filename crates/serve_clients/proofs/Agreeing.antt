-- Ends of clients that agree with the wire, and go on to.
use Rattle.std.proofs.Common.{◌≡◌, ◌≢◌, ◌⊎◌, inl, inr, ℕ, Bool, true, false, List, [], ◌++◌, Option, Some, None, Result, Ok, Err, refl, sym, ap, ◌∙◌, subst}
use Rattle.std.proofs.lemmas.Bool.{cases_eq}
use Rattle.std.specs.Prelude.{IfSome, OnOk, OnErr, slice_get}
use Rattle.std.specs.Option.{option_map, option_flatten}
use Rattle.wire_parts.specs.Sending.{bytes_of}
use Rattle.serve_wire.specs.Events.{WireEvent, role}
use Rattle.serve_wire.specs.Agreement.{ClientAgrees, ClientLost, IsUntouched, TouchesOnly}
use Rattle.serve_wire.specs.Flow.{ReadsOn, SendsOn}
use Rattle.serve_wire.specs.declared.outcomes.Ready.{Ready}
use Rattle.serve_wire.proofs.Steps.{apart, client_stays}
use Rattle.serve_wire.proofs.Flows.{client_reads, client_sends}
use Rattle.serve_clients.specs.declared.clients.Client.{Client}
use Rattle.serve_clients.specs.declared.clients.Clients.{Clients}
use Rattle.serve_clients.specs.Marks.{client_of, Changes, AreAlike, with_ready, with_unsent, with_busy, ready_if, unsent_if, with_told, one_settled, one_got, one_answered, one_waits, one_waited}
use Rattle.serve_clients.specs.Agrees.{end_said_of, StateAgrees, EndAgrees, AllAgree, KeepsEnds}
use Rattle.serve_clients.proofs.Marked.{changed, kept}

-- ---- one client

not_both : {A : Type 0} (b : Bool) → b ≡ false → b ≡ true → A
not_both true off on = absurd cc
not_both false off on = absurd cc

-- what agrees wholly agrees in what is left when its end is broken off
pub client_lost : (h : List WireEvent) (input output : ℕ → List ℕ) (i c : ℕ) (held unsent : List ℕ) → ClientAgrees h input output i c held unsent → ClientLost h input output i c
client_lost h input output i c held unsent was = record { is_its = was.is_its; unread = held; input_is = was.input_is; unsent = unsent; output_is = was.output_is }

pub lost_stays : (h h' : List WireEvent) (input output : ℕ → List ℕ) (i c : ℕ) → IsUntouched c h h' → ClientLost h input output i c → ClientLost h' input output i c
lost_stays h h' input output i c same was = record {
  is_its = same.same_role ∙ was.is_its;
  unread = was.unread;
  input_is = same.same_came ∙ was.input_is;
  unsent = was.unsent;
  output_is = was.output_is ∙ ap (λ l. l ++ was.unsent) (sym same.same_went);
}

-- whose its connection is
pub its : (h : List WireEvent) (input output : ℕ → List ℕ) (id : ℕ) (x : Client) → EndAgrees h input output id x → role x.conn.number h ≡ Some (0, id)
its h input output id x was = by x.is_broken refl
  where
    by : (b : Bool) → x.is_broken ≡ b → role x.conn.number h ≡ Some (0, id)
    by false e = (was.stands e).is_its
    by true e = (was.lost e).is_its

-- one that is as it was, over a connection of which all is as it was
pub state_stays :
    (h h' : List WireEvent) (input output : ℕ → List ℕ) (id c : ℕ) (held unsent : List ℕ) (b e : Bool) → IsUntouched c h h'
    → StateAgrees h input output id c held unsent b e → StateAgrees h' input output id c held unsent b e
state_stays h h' input output id c held unsent b e same was = record {
  stands = λ off. client_stays h h' input output id c held unsent same (was.stands off);
  lost = λ on. lost_stays h h' input output id c same (was.lost on);
  ended = was.ended;
}

-- what came is held, and the end isn't broken off
pub end_reads :
    (h h' : List WireEvent) (c c' : ℕ) (held held' unsent unsent' : List ℕ) (b b' e e' : Bool) → e ≡ false → ReadsOn c held held' h h' → c' ≡ c → unsent' ≡ unsent → b' ≡ b
    → (input output : ℕ → List ℕ) (id : ℕ) → StateAgrees h input output id c held unsent b e → StateAgrees h' input output id c' held' unsent' b' e'
end_reads h h' c c' held held' unsent unsent' b b' e e' goes r same_c same_u same_b input output id was =
    subst (λ k. StateAgrees h' input output id k held' unsent' b' e') (sym same_c) (subst (λ u. StateAgrees h' input output id c held' u b' e') (sym same_u) (subst (λ k. StateAgrees h' input output id c held' unsent k e') (sym same_b) now))
  where
    now : StateAgrees h' input output id c held' unsent b e'
    now = record {
      stands = λ off. client_reads h h' input output id c held held' unsent r (was.stands off);
      lost = λ on. not_both e goes (was.ended on).1;
      ended = λ on. not_both e goes (was.ended on).1;
    }

-- what came is lost, and so is what was to be sent
pub end_breaks :
    (h h' : List WireEvent) (c c' : ℕ) (held held' unsent : List ℕ) (b e : Bool) (held'' unsent'' : List ℕ) (b'' e'' : Bool) → e ≡ false → ReadsOn c held held' h h' → c' ≡ c → held'' ≡ [] → b'' ≡ true → e'' ≡ true
    → (input output : ℕ → List ℕ) (id : ℕ) → StateAgrees h input output id c held unsent b e → StateAgrees h' input output id c' held'' unsent'' b'' e''
end_breaks h h' c c' held held' unsent b e held'' unsent'' b'' e'' goes r same_c none broken ended input output id was =
    subst (λ k. StateAgrees h' input output id k held'' unsent'' b'' e'') (sym same_c) (by b refl)
  where
    by : (f : Bool) → b ≡ f → StateAgrees h' input output id c held'' unsent'' b'' e''
    by false off = record {
      stands = λ on. not_both b'' on broken;
      lost = λ on. client_lost h' input output id c held' unsent (client_reads h h' input output id c held held' unsent r (was.stands off));
      ended = λ on. (none, ended);
    }
    by true on = not_both e goes (was.ended on).1

-- the first of what is to be sent went
pub end_sends :
    (h h' : List WireEvent) (c c' : ℕ) (held held' unsent unsent' : List ℕ) (b b' e e' : Bool) → b ≡ false → SendsOn c unsent unsent' h h' → c' ≡ c → held' ≡ held → b' ≡ b
    → (input output : ℕ → List ℕ) (id : ℕ) → StateAgrees h input output id c held unsent b e → StateAgrees h' input output id c' held' unsent' b' e'
end_sends h h' c c' held held' unsent unsent' b b' e e' stood s same_c same_h same_b input output id was =
    subst (λ k. StateAgrees h' input output id k held' unsent' b' e') (sym same_c) (subst (λ u. StateAgrees h' input output id c u unsent' b' e') (sym same_h) (subst (λ k. StateAgrees h' input output id c held unsent' k e') (sym same_b) now))
  where
    now : StateAgrees h' input output id c held unsent' b e'
    now = record {
      stands = λ off. client_sends h h' input output id c held unsent unsent' s (was.stands off);
      lost = λ on. not_both b stood on;
      ended = λ on. not_both b stood on;
    }

-- the first of it went, and the rest is lost
pub end_fails :
    (h h' : List WireEvent) (c c' : ℕ) (held unsent unsent' : List ℕ) (b e : Bool) (held'' unsent'' : List ℕ) (b'' e'' : Bool) → b ≡ false → SendsOn c unsent unsent' h h' → c' ≡ c → held'' ≡ [] → b'' ≡ true → e'' ≡ true
    → (input output : ℕ → List ℕ) (id : ℕ) → StateAgrees h input output id c held unsent b e → StateAgrees h' input output id c' held'' unsent'' b'' e''
end_fails h h' c c' held unsent unsent' b e held'' unsent'' b'' e'' stood s same_c none broken ended input output id was =
    subst (λ k. StateAgrees h' input output id k held'' unsent'' b'' e'') (sym same_c) (record {
      stands = λ off. not_both b'' off broken;
      lost = λ on. client_lost h' input output id c held unsent' (client_sends h h' input output id c held unsent unsent' s (was.stands stood));
      ended = λ on. (none, ended);
    })

-- it is broken off, once more or now
pub state_breaks :
    (h : List WireEvent) (c c' : ℕ) (held unsent held'' unsent'' : List ℕ) (b b'' e e'' : Bool) → c' ≡ c → held'' ≡ [] → b'' ≡ true → e'' ≡ true
    → (input output : ℕ → List ℕ) (id : ℕ) → StateAgrees h input output id c held unsent b e → StateAgrees h input output id c' held'' unsent'' b'' e''
state_breaks h c c' held unsent held'' unsent'' b b'' e e'' same_c none broken ended input output id was =
    subst (λ k. StateAgrees h input output id k held'' unsent'' b'' e'') (sym same_c) (by b refl)
  where
    by : (f : Bool) → b ≡ f → StateAgrees h input output id c held'' unsent'' b'' e''
    by false off = record { stands = λ on. not_both b'' on broken; lost = λ on. client_lost h input output id c held unsent (was.stands off); ended = λ on. (none, ended) }
    by true on = record { stands = λ off. not_both b'' off broken; lost = λ again. was.lost on; ended = λ again. (none, ended) }

-- ---- all clients

-- a client agrees still where another's connection was read or written
pub other_stays :
    (h h' : List WireEvent) (input output : ℕ → List ℕ) (i j c : ℕ) (y : Client) → TouchesOnly c h h' → role c h ≡ Some (0, i) → i ≢ j → EndAgrees h input output j y → EndAgrees h' input output j y
other_stays h h' input output i j c y only of_c differ was =
    state_stays h h' input output j y.conn.number y.conn.held.items (bytes_of y.conn.unsent) y.is_broken y.is_ended (only y.conn.number (apart c y.conn.number h (0, i) (0, j) of_c (its h input output j y was) (λ e. differ (ap (λ (p : ℕ × ℕ). p.1) e)))) was

-- so it is where a server's connection was
pub by_server_stays :
    (h h' : List WireEvent) (input output : ℕ → List ℕ) (s j c : ℕ) (y : Client) → TouchesOnly c h h' → role c h ≡ Some (1, s) → EndAgrees h input output j y → EndAgrees h' input output j y
by_server_stays h h' input output s j c y only of_c was =
    state_stays h h' input output j y.conn.number y.conn.held.items (bytes_of y.conn.unsent) y.is_broken y.is_ended (only y.conn.number (apart c y.conn.number h (1, s) (0, j) of_c (its h input output j y was) (λ e. one_zero (ap (λ (p : ℕ × ℕ). p.0) e)))) was
  where
    one_zero : ◌≡◌ {A = ℕ} 1 0 → ⊥
    one_zero e = cc

-- ends that are as they were agree as they did
abbrev of_said : (h : List WireEvent) (input output : ℕ → List ℕ) (id : ℕ) → ℕ × List ℕ × List ℕ × Bool × Bool → Type 0
of_said h input output id s = StateAgrees h input output id s.0 s.1 s.2 s.3 s.4

same_some : {x y : ℕ × List ℕ × List ℕ × Bool × Bool} → ◌≡◌ {A = Option (ℕ × List ℕ × List ℕ × Bool × Bool)} (Some x) (Some y) → x ≡ y
same_some e = cc

pub agree_still : (h : List WireEvent) (input output : ℕ → List ℕ) (old new : Clients) → KeepsEnds old new → AllAgree h input output old → AllAgree h input output new
agree_still h input output old new keeps was id = by (client_of old id) (client_of new id) (keeps id) (was id)
  where
    by : (x y : Option Client) → option_map end_said_of y ≡ option_map end_said_of x → IfSome x (EndAgrees h input output id) → IfSome y (EndAgrees h input output id)
    by None None e p = tt
    by (Some x) None e p = tt
    by None (Some y) e p = absurd cc
    by (Some x) (Some y) e p = subst (of_said h input output id) (sym (same_some e)) p

-- ---- what is marked

pub keeps_none : (old : Clients) → KeepsEnds old old
keeps_none old = λ id. refl

pub keeps_twice : (old mid new : Clients) → KeepsEnds old mid → KeepsEnds mid new → KeepsEnds old new
keeps_twice old mid new a b = λ id. b id ∙ a id

pub keeps_alike : (old new : Clients) → AreAlike old new → KeepsEnds old new
keeps_alike old new alike = λ id. ap (λ xs. option_map end_said_of (client_of_all xs id)) alike.clients
  where
    client_of_all : List (Option Client) → ℕ → Option Client
    client_of_all xs id = option_flatten (slice_get xs id)

-- a change that leaves the end of a client as it is
pub keeps_by : (change : Client → Client) (at : ℕ) (old new : Clients) → ((x : Client) → end_said_of (change x) ≡ end_said_of x) → Changes change at old new → KeepsEnds old new
keeps_by change at old new same is id = by_place (cases_eq id at)
  where
    of_one : (o : Option Client) → option_map end_said_of (option_map change o) ≡ option_map end_said_of o
    of_one None = refl
    of_one (Some x) = ap (λ (s : ℕ × List ℕ × List ℕ × Bool × Bool). Some s) (same x)

    by_place : (id ≡ at) ⊎ (id ≢ at) → option_map end_said_of (client_of new id) ≡ option_map end_said_of (client_of old id)
    by_place (inl here) = subst (λ k. option_map end_said_of (client_of new k) ≡ option_map end_said_of (client_of old k)) (sym here) (ap (option_map end_said_of) (changed change old.all.items new.all.items at is) ∙ of_one (client_of old at))
    by_place (inr other) = ap (option_map end_said_of) (kept old.all.items new.all.items at id _ other is)

pub settled_keeps : (at : ℕ) (old new : Clients) → Changes (λ x. with_ready true (one_settled x)) at old new → KeepsEnds old new
settled_keeps at old new is = keeps_by (λ x. with_ready true (one_settled x)) at old new (λ x. refl) is

answered_said : (is_get : Bool) (len : ℕ) (x : Client) → end_said_of (one_answered is_get len x) ≡ end_said_of x
answered_said true len x = refl
answered_said false len x = refl

pub answered_keeps : (is_get : Bool) (at len : ℕ) (old new : Clients) → Changes (λ x. with_ready true (one_answered is_get len x)) at old new → KeepsEnds old new
answered_keeps is_get at len old new is = keeps_by (λ x. with_ready true (one_answered is_get len x)) at old new (λ x. answered_said is_get len x) is

pub waited_keeps : (at : ℕ) (old new : Clients) → Changes (λ x. with_ready true (one_waited x)) at old new → KeepsEnds old new
waited_keeps at old new is = keeps_by (λ x. with_ready true (one_waited x)) at old new (λ x. refl) is

pub ready_keeps : (at : ℕ) (old new : Clients) → Changes (with_ready true) at old new → KeepsEnds old new
ready_keeps at old new is = keeps_by (with_ready true) at old new (λ x. refl) is

pub output_keeps : (at : ℕ) (old new : Clients) → Changes (with_unsent true) at old new → KeepsEnds old new
output_keeps at old new is = keeps_by (with_unsent true) at old new (λ x. refl) is

pub busy_keeps : (at : ℕ) (old new : Clients) → Changes (with_busy true) at old new → KeepsEnds old new
busy_keeps at old new is = keeps_by (with_busy true) at old new (λ x. refl) is

-- the same clients are there
pub same_keeps : (old new : Clients) → new.all ≡ old.all → KeepsEnds old new
same_keeps old new is id = ap (λ all. option_map end_said_of (option_flatten (slice_get all.items id))) is

pub ready_said : (reads : Bool) (x : Client) → end_said_of (ready_if reads x) ≡ end_said_of x
ready_said true x = refl
ready_said false x = refl

pub unsent_said : (writes : Bool) (x : Client) → end_said_of (unsent_if writes x) ≡ end_said_of x
unsent_said true x = refl
unsent_said false x = refl

pub told_keeps : (told : Ready) (at : ℕ) (old new : Clients) → Changes (with_told told) at old new → KeepsEnds old new
told_keeps told at old new is = keeps_by (with_told told) at old new (λ x. refl) is

pub idle_keeps : (at : ℕ) (old new : Clients) → Changes (with_ready false) at old new → KeepsEnds old new
idle_keeps at old new is = keeps_by (with_ready false) at old new (λ x. refl) is

pub moved_keeps : {E : Type 0} (r : Result (Unit {0}) E) (at : ℕ) (old new : Clients) → OnOk r (Changes (with_busy false) at old new) → OnErr r (new ≡ old) → KeepsEnds old new
moved_keeps (Ok done) at old new ok err = keeps_by (with_busy false) at old new (λ x. refl) ok
moved_keeps (Err refused) at old new ok err = subst (λ n. KeepsEnds old n) (sym err) (λ id. refl)

pub free_keeps : (at : ℕ) (old new : Clients) → Changes (with_busy false) at old new → KeepsEnds old new
free_keeps at old new is = keeps_by (with_busy false) at old new (λ x. refl) is

pub waits_keeps : (at : ℕ) (old new : Clients) → Changes one_waits at old new → KeepsEnds old new
waits_keeps at old new is = keeps_by one_waits at old new (λ x. refl) is
