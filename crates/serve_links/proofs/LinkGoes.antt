-- What is done at one link, as steps of a walk with which it goes on to agree.
use Rattle.std.proofs.Common.{◌≡◌, ◌≢◌, ℕ, suc, ◌+◌, ◌≤◌, Bool, false, if◌then◌else◌, length, arith, List, [], ◌∷◌, ◌++◌, Option, Some, None, ◌⊎◌, inl, inr, refl, sym, ap, ◌∙◌, subst, append_assoc, append-nil}
use Rattle.std.specs.Prelude.{IfSome, MatchOption, nat_eq}
use Rattle.std.specs.Option.{option_map}
use Rattle.std.proofs.lemmas.Bool.{cases_Bool, eqb-true}
use Rattle.std.proofs.lemmas.List.{length-append}
use Rattle.mc_types.specs.declared.ask.Ask.{Ask}
use Rattle.mc_types.specs.declared.ask.Dialect.{Dialect}
use Rattle.wire_stream.specs.Spelling.{spelling_of}
use Rattle.wire_parts.specs.Sending.{bytes_of}
use Rattle.serve_wire.specs.Events.{WireEvent, connects, role, begin_of, delivered, taken, is_over, time, IsUntold}
use Rattle.serve_wire.specs.Flow.{ReadsOn, SendsOn, Stands}
use Rattle.serve_wire.specs.Calls.{Closes}
use Rattle.serve_wire.specs.Agreement.{Extends, IsUntouched, TouchesOnly}
use Rattle.serve_wire.specs.declared.conn.conn.Conn.{Conn}
use Rattle.serve_wire.proofs.Steps.{only_after, only_time, equal, new_apart, untouched, untouched_twice, only_twice, only_connects, begin_begins}
use Rattle.serve_wire.proofs.Touching.{only_closed}
use Rattle.core_accepted.specs.declared.served.ServedCore.{ServedCore}
use Rattle.serve_links.specs.declared.calls.calls.SentCall.{SentCall}
use Rattle.serve_links.specs.declared.settings.ServerDialect.{ServerDialect}
use Rattle.serve_links.specs.declared.settings.Greeting.{Greeting}
use Rattle.serve_links.specs.declared.link.Opening.{Opening}
use Rattle.serve_links.specs.declared.link.Opening.TheVariants as opening
use Rattle.serve_links.specs.declared.link.Link.{Link}
use Rattle.serve_links.specs.declared.news.Cause.{Cause}
use Rattle.serve_links.specs.CoreSteps.{Step, Opened, NotOpened, Fed, Polled, Stopped, Settled, Gave, Closed, LeftLine, Broke, Ticked, Loaded, Linked, Asked, Greeted, Spelled, Late, CameLate, Lost, Noted, StepsAreOf, IsOfTurn, IsFailure, IsGivingUp, IsSending}
use Rattle.serve_links.specs.Dialects.{asked_in, GreetsAwaited, awaits_flush}
use Rattle.serve_links.specs.Lines.{first_asked_of, awaits_first, first_dialect, greeting_of, SameLine, KeepsLines, IsNewEnd, HasNewEnd, OpensLink, TakesGreeting, HasLearnt, Learns}
use Rattle.serve_links.specs.Links.{FailsTo}
use Rattle.serve_links.specs.Settled.{SettlesSome}
use Rattle.serve_links.specs.Talks.{SaidAsk, Talk, Apart, InUse, Ending, standing_after, first_talk, with_ask, greeted, given_up, talk_in, failed_after, IsAmong, AreDue, AreCalled, AreGivenUp, IsOrderly, IsOfServer}
use Rattle.serve_links.specs.Called.{TellsCallsOut}
use Rattle.serve_links.proofs.Called.{walks_tell_calls}
use Rattle.serve_links.specs.Story.{said_asks, said_late, MayGo, MayAllGo, TalkAgrees, Unused, AllGivenUp, ConnAgrees, LineAgrees, LineLost, LineFails, ShowsWhy, WasShown, StepsAreShown, LineCalled, address_and_opened, address_and_limits, server_and_opened, LineState, line_of, KeepsOthers, LeavesCalls, LineGoesFrom, LineGoes}
use Rattle.serve_links.proofs.Talking.{calls_later, one_more, IsPlain, plain_talk, sent_out, waiting_out, all_given_later, given_parts, given_now, sent_fail, waiting_fail, FailsInOrder, fail_in_order}
use Rattle.serve_links.proofs.Due.{due_stays, called_stays, leaves_twice, due_behind, due_taken, SentGone, sent_gone, waiting_gone, AskedOne, asked_one}
use Rattle.serve_links.proofs.Walked.{walked, of_both}
use Rattle.serve_links.proofs.ByLimits.{unlost_late, same_server, same_text, same_place, place_server, same_opening, server_then}
use Rattle.serve_links.proofs.Showing.{plain_unlost, none_since, shown_since, shown_later}
use Rattle.serve_links.proofs.Answering.{failed_by, Answers, answers_some}
use Rattle.serve_links.specs.Shut.{first_some, drain_of, conn_of, IsShutBut, StaysShut}
use Rattle.serve_links.proofs.Shutting.{conn_is, conn_drains, conns_same, shut_used, shut_begun, shut_in_vain, shut_closed, shut_still, closed_shut}
use Rattle.serve_links.proofs.Story.{line_stays}

same_some : {A : Type 0} {x y : A} → Some x ≡ Some y → x ≡ y
same_some e = cc

none_some : {A : Type 0} {x : A} → None ≡ Some x → ⊥
none_some e = cc

-- ---- connections of others

-- nothing but this connection was touched, which was no other's, and is its now
pub keeps_by : (c : ℕ) (its : ℕ × ℕ) (h h' : List WireEvent) → ((p : ℕ × ℕ) → role c h ≡ Some p → p ≡ its) → role c h' ≡ Some its → TouchesOnly c h h' → KeepsOthers its h h'
keeps_by c its h h' was now only = record {
  were = λ d p of_d other. elim (cases_Bool (nat_eq c d)) [ inl e ↦ absurd (other (was p (ap (λ n. role n h) (eqb-true c d e) ∙ of_d))) | inr e ↦ only d e ];
  are = λ d other. elim (cases_Bool (nat_eq c d)) [ inl e ↦ absurd (other (ap (λ n. role n h') (sym (eqb-true c d e)) ∙ now)) | inr e ↦ only d e ];
  clock = only_time c h h' only;
}

pub keeps_others : (c : ℕ) (its : ℕ × ℕ) (h h' : List WireEvent) → role c h ≡ Some its → role c h' ≡ role c h → TouchesOnly c h h' → KeepsOthers its h h'
keeps_others c its h h' of_c same only = keeps_by c its h h' (λ p was. same_some (sym was ∙ of_c)) (same ∙ of_c) only

pub all_kept : (its : ℕ × ℕ) (h h' : List WireEvent) → ((d : ℕ) → IsUntouched d h h') → KeepsOthers its h h'
all_kept its h h' quiet = record { were = λ d p of_d other. quiet d; are = λ d other. quiet d; clock = (quiet 0).same_time }

pub quiet : (h : List WireEvent) (d : ℕ) → IsUntouched d h h
quiet h d = untouched d h

-- ---- what agrees, in equal words

pub talk_as :
    {h : List WireEvent} {at : ℕ} {begun begun' : List ℕ × ℕ} {t t' : Talk} {c c' : ℕ} {held held' unsent unsent' : List ℕ} {out out' : List SaidAsk} {awaits awaits' : Option Greeting} {dialect dialect' : Dialect} {late late' : List SaidAsk}
    → begun' ≡ begun → t' ≡ t → c' ≡ c → held' ≡ held → unsent' ≡ unsent → out' ≡ out → awaits' ≡ awaits → dialect' ≡ dialect → late' ≡ late
    → TalkAgrees h at begun t c held unsent out awaits dialect late → TalkAgrees h at begun' t' c' held' unsent' out' awaits' dialect' late'
talk_as {h} {at} {begun} {begun'} {t} {t'} {c} {c'} {held} {held'} {unsent} {unsent'} {out} {out'} {awaits} {awaits'} {dialect} {dialect'} {late} {late'} begun_same t_is c_is held_same unsent_same out_same awaits_same dialect_same late_same was = record {
  is_to = ap (λ n. role n h) c_is ∙ was.is_to;
  begun_is = ap (λ n. begin_of n h) c_is ∙ was.begun_is ∙ ap (λ (x : List ℕ × ℕ). Some x) (sym begun_same);
  sent_is = ap (λ (x : Talk). x.sent) t_is ∙ was.sent_is ∙ ap (λ n. taken n h ++ unsent) (sym c_is) ∙ ap (λ l. taken c' h ++ l) (sym unsent_same);
  told_is = ap (λ n. delivered n h) c_is ∙ was.told_is ∙ ap (λ (x : Talk). x.told ++ held) (sym t_is) ∙ ap (λ l. t'.told ++ l) (sym held_same);
  out_is = ap (λ (x : Talk). x.out) t_is ∙ was.out_is ∙ sym out_same;
  awaits_is = ap (λ (x : Talk). x.awaits) t_is ∙ was.awaits_is ∙ sym awaits_same;
  dialect_is = ap (λ (x : Talk). x.dialect) t_is ∙ was.dialect_is ∙ sym dialect_same;
  late_is = ap (λ (x : Talk). x.late) t_is ∙ was.late_is ∙ sym late_same;
}

-- what is as much as it was is still no more
pub as_tried : {l l' n n' : ℕ} → l' ≡ l → n' ≡ n → l ≤ n → l' ≤ n'
as_tried {l} {l'} {n} {n'} less more was = subst (λ k. k ≤ n') (sym less) (subst (λ k. l ≤ k) (sym more) was)

-- a link that has this connection
pub has_conn : (at : ℕ) (past : List Step) (h : List WireEvent) (y : Link) (d : Conn) → y.conn ≡ Some d → ConnAgrees at past h y d d.held.items → is_over d.number h ≡ false → MayAllGo past at y.waiting → AreDue past at (said_asks y.waiting) → AreCalled past at (said_asks y.calls.sent.items)
    → (talk_in past at).stands ≡ InUse → y.lost ≤ (talk_in past at).failed → LineAgrees at past h y
has_conn at past h y d is agrees goes_on waiting due called used tried = record { conn = λ conn there. subst (λ (z : Conn). ConnAgrees at past h y z z.held.items) (same_some (sym is ∙ there)) agrees; goes_on = λ conn there. subst (λ (z : Conn). is_over z.number h ≡ false) (same_some (sym is ∙ there)) goes_on; waiting = waiting; due = due; none_out = λ none. absurd (none_some (sym none ∙ is)); unused = λ none. absurd (none_some (sym none ∙ is)); called = called; used = λ conn there. used; tried = tried }

-- and one that has none
pub has_none : (at : ℕ) (past : List Step) (h : List WireEvent) (y : Link) → y.conn ≡ None → MayAllGo past at y.waiting → AreDue past at (said_asks y.waiting) → AllGivenUp past at (said_asks y.calls.sent.items) → Unused h at y.text.items (talk_in past at) (drain_of y) → AreCalled past at (said_asks y.calls.sent.items)
    → y.lost ≤ (talk_in past at).failed → LineAgrees at past h y
has_none at past h y is waiting due out unused called tried = record { conn = λ conn there. absurd (none_some (sym is ∙ there)); goes_on = λ conn there. absurd (none_some (sym is ∙ there)); waiting = waiting; due = due; none_out = λ none. out; unused = λ none. unused; called = called; used = λ conn there. absurd (none_some (sym is ∙ there)); tried = tried }

pub as_lost : (at : ℕ) (past : List Step) (h : List WireEvent) (x : Link) → LineAgrees at past h x → LineLost at past h x
as_lost at past h x a = record { conn = λ conn is. (conn.held.items, a.conn conn is); waiting = a.waiting; due = a.due; none_out = a.none_out; unused = a.unused; called = a.called; used = a.used; tried = a.tried }

-- one that agrees, whose connection shows why it is to be given up
pub as_failing : (why : Option Cause) (at : ℕ) (past : List Step) (h : List WireEvent) (x : Link) → ((conn : Conn) → x.conn ≡ Some conn → ShowsWhy why x.limits.connect_ms (talk_in past at) conn.number h) → LineAgrees at past h x → LineFails why at past h x
as_failing why at past h x shows a = record { lost = as_lost at past h x a; shows = shows }

-- nothing happened but at the connection, and no step is told of
pub line_moves :
    {Before After : ℕ → List Step → List WireEvent → Link → Type 0} {Is : Step → Type 0} {at : ℕ} {a b : ServedCore} {h h' : List WireEvent} {x y : Link} → b ≡ a → Extends h h' → StaysShut at h x h' y → address_and_limits y ≡ address_and_limits x
    → ((past : List Step) → Before at past h x → After at past h' y × KeepsOthers (1, at) h h') → LineGoesFrom Before After Is at a h x b h' y
line_moves {h = h} {h' = h'} same more shut server moves = record { steps = []; kinds = tt; own = tt; walks = same; agrees = λ past o tells was. let m = moves past was in (o, m.0, m.1, λ j other n ask is. (refl, refl, refl)); shown = λ past o tells was shown. shown_since past h h' more shown; shut = shut; server = record { same = server; late = tt } }

-- what is wanted before is there, and what is there after is more than is wanted
pub line_between :
    {P P' Q Q' : ℕ → List Step → List WireEvent → Link → Type 0} {Is : Step → Type 0} {at : ℕ} {a b : ServedCore} {h h' : List WireEvent} {x y : Link}
    → ((past : List Step) → P' at past h x → P at past h x) → ((past : List Step) → Q at past h' y → Q' at past h' y) → LineGoesFrom P Q Is at a h x b h' y → LineGoesFrom P' Q' Is at a h x b h' y
line_between before after g = record {
  steps = g.steps;
  kinds = g.kinds;
  own = g.own;
  walks = g.walks;
  agrees = λ past o tells was. let r = g.agrees past o tells (before past was) in (r.0, after (g.steps ++ past) r.1, r.2, r.3);
  shown = λ past o tells was shown. g.shown past o tells (before past was) shown;
  shut = g.shut;
  server = g.server;
}

-- what nobody but it may have touched, one after another
others_twice : (its : ℕ × ℕ) (h h' h'' : List WireEvent) → KeepsOthers its h h' → KeepsOthers its h' h'' → KeepsOthers its h h''
others_twice its h h' h'' first later = record {
  were = λ d p was other. let s = first.were d p was other in untouched_twice d h h' h'' s (later.were d p (s.same_role ∙ was) other);
  are = λ d other. let s = later.are d other in untouched_twice d h h' h'' (first.are d (λ is. other (s.same_role ∙ is))) s;
  clock = later.clock ∙ first.clock;
}

-- one after another
pub line_then :
    {P Q R : ℕ → List Step → List WireEvent → Link → Type 0} {Is : Step → Type 0} {at : ℕ} {a b c : ServedCore} {h h' h'' : List WireEvent} {x y z : Link} → LineGoesFrom P Q Is at a h x b h' y → LineGoesFrom Q R Is at b h' y c h'' z
    → LineGoesFrom P R Is at a h x c h'' z
line_then {P} {Q} {R} {Is} {at} {a} {b} {c} {h} {h'} {h''} {x} {y} {z} g k = record {
  steps = k.steps ++ g.steps;
  kinds = of_both Is k.steps g.steps k.kinds g.kinds;
  own = of_both (IsOfServer at) k.steps g.steps k.own g.own;
  walks = walked k.steps g.steps a b c g.walks k.walks;
  agrees = λ past o tells was.
      let first = g.agrees past o tells was in
      let later = k.agrees (g.steps ++ past) first.0 (told past tells) first.1 in
      let both = subst (λ l. IsOrderly l × R at l h'' z × LeavesCalls at past l) (sym (append_assoc k.steps g.steps past)) (later.0, later.1, leaves_twice at past (g.steps ++ past) (k.steps ++ (g.steps ++ past)) first.3 later.3) in
      (both.0, both.1, others_twice (1, at) h h' h'' first.2 later.2, both.2);
  shown = λ past o tells was shown.
      let first = g.agrees past o tells was in
      subst (λ l. StepsAreShown l h'') (sym (append_assoc k.steps g.steps past)) (k.shown (g.steps ++ past) first.0 (told past tells) first.1 (g.shown past o tells was shown));
  shut = λ was. k.shut (g.shut was);
  server = server_then g.steps k.steps x y z g.server k.server;
}
  where
    told : (past : List Step) → TellsCallsOut past a → TellsCallsOut (g.steps ++ past) b
    told past tells = (walks_tell_calls.goes_on g.steps past a b tells g.walks).0

-- ---- a link that has the same

abbrev OfConn : ℕ → List Step → List WireEvent → List ℕ × ℕ → List SaidAsk → Option Greeting → Dialect → List SaidAsk → Option ℕ → Option (ℕ × List ℕ × List ℕ) → Type 0
OfConn at past h begun out awaits dialect late drain None = AllGivenUp past at out × Unused h at begun.0 (talk_in past at) drain
OfConn at past h begun out awaits dialect late drain (Some e) = TalkAgrees h at begun (talk_in past at) e.0 e.1 e.2 out awaits dialect late × (is_over e.0 h ≡ false) × ((talk_in past at).stands ≡ InUse)

abbrev OfLine : ℕ → List Step → List WireEvent → LineState → Type 0
OfLine at past h s = OfConn at past h (s.0.0.0, s.0.1) s.2 s.4 s.5 s.6 s.7 s.1 × MayAllGo past at s.3 × AreDue past at (said_asks s.3) × AreCalled past at s.2 × (s.0.2 ≤ (talk_in past at).failed)

to_line : (at : ℕ) (past : List Step) (h : List WireEvent) (x : Link) → LineAgrees at past h x → OfLine at past h (line_of x)
to_line at past h x a = (by x.conn refl, a.waiting, a.due, a.called, a.tried)
  where
    by : (o : Option Conn) → x.conn ≡ o → OfConn at past h (address_and_opened x) (said_asks x.calls.sent.items) x.awaits_dialect x.dialect (said_late x.late.items) (drain_of x) (option_map (λ (c : Conn). (c.number, c.held.items, bytes_of c.unsent)) o)
    by None e = (a.none_out e, a.unused e)
    by (Some c) e = (a.conn c e, a.goes_on c e, a.used c e)

from_line : (at : ℕ) (past : List Step) (h : List WireEvent) (y : Link) → OfLine at past h (line_of y) → LineAgrees at past h y
from_line at past h y o = record { conn = λ conn is. (there conn is).0; goes_on = λ conn is. (there conn is).1; waiting = o.1; due = o.2; none_out = λ none. (there_none none).0; unused = λ none. (there_none none).1; called = o.3; used = λ conn is. (there conn is).2; tried = o.4 }
  where
    there : (conn : Conn) → y.conn ≡ Some conn → ConnAgrees at past h y conn conn.held.items × (is_over conn.number h ≡ false) × ((talk_in past at).stands ≡ InUse)
    there conn is = subst (λ (q : Option Conn). OfConn at past h (address_and_opened y) (said_asks y.calls.sent.items) y.awaits_dialect y.dialect (said_late y.late.items) (drain_of y) (option_map (λ (c : Conn). (c.number, c.held.items, bytes_of c.unsent)) q)) is o.0

    there_none : y.conn ≡ None → AllGivenUp past at (said_asks y.calls.sent.items) × Unused h at y.text.items (talk_in past at) (drain_of y)
    there_none none = subst (λ (q : Option Conn). OfConn at past h (address_and_opened y) (said_asks y.calls.sent.items) y.awaits_dialect y.dialect (said_late y.late.items) (drain_of y) (option_map (λ (c : Conn). (c.number, c.held.items, bytes_of c.unsent)) q)) none o.0

pub same_line : (at : ℕ) (past : List Step) (h : List WireEvent) (x y : Link) → line_of y ≡ line_of x → LineAgrees at past h x → LineAgrees at past h y
same_line at past h x y same a = from_line at past h y (subst (OfLine at past h) (sym same) (to_line at past h x a))

-- with the same connection
same_conn : (x y : Link) → line_of y ≡ line_of x → conn_of y ≡ conn_of x
same_conn x y same =
    sym (ap (λ o. first_some o (drain_of y)) (number_in y.conn)) ∙ ap (λ (s : LineState). first_some (option_map (λ (e : ℕ × List ℕ × List ℕ). e.0) s.1) s.7) same ∙ ap (λ o. first_some o (drain_of x)) (number_in x.conn)
  where
    number_in : (o : Option Conn) → option_map (λ (e : ℕ × List ℕ × List ℕ). e.0) (option_map (λ (c : Conn). let e : ℕ × List ℕ × List ℕ = (c.number, c.held.items, bytes_of c.unsent) in e) o) ≡ option_map (λ (c : Conn). c.number) o
    number_in None = refl
    number_in (Some c) = refl

-- where its connection is as it was
pub line_keeps :
    {Is : Step → Type 0} {at : ℕ} {core : ServedCore} {h h' : List WireEvent} {x y : Link} → ((d : ℕ) → IsUntouched d h h') → line_of y ≡ line_of x → LineGoes Is at core h x core h' y
line_keeps {at = at} {h = h} {h' = h'} {x = x} {y = y} still same =
    line_moves refl (still 0).after (shut_still still (same_conn x y same)) (ap (λ (s : LineState). s.0.0) same)
    (λ past a. (same_line at past h' x y same (line_stays h h' at [] past x (λ c of_c. still c) refl (λ n ask is. (refl, refl, refl)) a), all_kept (1, at) h h' still))

-- or it counts fewer connections in a row that were given up
pub line_lowers : {Is : Step → Type 0} {at : ℕ} {core : ServedCore} {h : List WireEvent} (x y : Link) → y.lost ≤ x.lost → line_of y ≡ line_of (record x { lost = y.lost }) → LineGoes Is at core h x core h y
line_lowers {at = at} {h = h} x y less same =
    line_moves refl (none_since h) (shut_still (quiet h) (same_conn (record x { lost = y.lost }) y same)) (ap (λ (s : LineState). s.0.0) same) (λ past a. (same_line at past h (record x { lost = y.lost }) y same (lowered past a), all_kept (1, at) h h (quiet h)))
  where
    lowered : (past : List Step) → LineAgrees at past h x → LineAgrees at past h (record x { lost = y.lost })
    lowered past a =
        let tried : x.lost ≤ (talk_in past at).failed = a.tried in
        record { conn = a.conn; goes_on = a.goes_on; waiting = a.waiting; due = a.due; none_out = a.none_out; unused = a.unused; called = a.called; used = a.used; tried = omega (arith, less, tried) }

pub line_forgets : {Is : Step → Type 0} {at : ℕ} {core : ServedCore} {h : List WireEvent} (x y : Link) → y.lost ≡ 0 → line_of y ≡ line_of (record x { lost = 0 }) → LineGoes Is at core h x core h y
line_forgets x y none same = line_lowers x y (as_tried none refl (omega arith)) (same ∙ ap (λ n. line_of (record x { lost = n })) (sym none))

-- of eight parts
pub of_eight :
    {A B C D E F G H : Type 0} {a a' : A} {b b' : B} {c c' : C} {d d' : D} {e e' : E} {f f' : F} {g g' : G} {h h' : H} → a' ≡ a → b' ≡ b → c' ≡ c → d' ≡ d → e' ≡ e → f' ≡ f → g' ≡ g → h' ≡ h
    → ◌≡◌ {A = A × B × C × D × E × F × G × H} (a', b', c', d', e', f', g', h') (a, b, c, d, e, f, g, h)
of_eight {a = a} {a' = a'} {b = b} {b' = b'} {c = c} {c' = c'} {d = d} {d' = d'} {e = e} {e' = e'} {f = f} {f' = f'} {g = g} {g' = g'} {h = h} {h' = h'} p q r s t u v w =
    ap (λ x. (x, b', c', d', e', f', g', h')) p ∙ ap (λ x. (a, x, c', d', e', f', g', h')) q ∙ ap (λ x. (a, b, x, d', e', f', g', h')) r ∙ ap (λ x. (a, b, c, x, e', f', g', h')) s
    ∙ ap (λ x. (a, b, c, d, x, f', g', h')) t ∙ ap (λ x. (a, b, c, d, e, x, g', h')) u ∙ ap (λ x. (a, b, c, d, e, f, x, h')) v ∙ ap (λ x. (a, b, c, d, e, f, g, x)) w

-- what a link's own functions leave as it was
pub keeps_line : (x y : Link) → KeepsLines x y → line_of y ≡ line_of x
keeps_line x y k =
    of_eight (same_place x y (ap (λ t. t.items) k.text) k.limits k.opened k.lost) (conns x.conn y.conn k.conn) (ap (λ c. said_asks c.sent.items) k.calls) k.waiting k.awaits k.dialect (ap (λ w. said_late w.items) k.late) k.draining
  where
    ends : (c d : Conn) → d.number ≡ c.number → d.held.items ≡ c.held.items → bytes_of d.unsent ≡ bytes_of c.unsent → ◌≡◌ {A = ℕ × List ℕ × List ℕ} (d.number, d.held.items, bytes_of d.unsent) (c.number, c.held.items, bytes_of c.unsent)
    ends c d n l u =
        ap (λ (m : ℕ). let e : ℕ × List ℕ × List ℕ = (m, d.held.items, bytes_of d.unsent) in e) n ∙ ap (λ (m : List ℕ). let e : ℕ × List ℕ × List ℕ = (c.number, m, bytes_of d.unsent) in e) l
        ∙ ap (λ (m : List ℕ). let e : ℕ × List ℕ × List ℕ = (c.number, c.held.items, m) in e) u

    conns :
        (o p : Option Conn) → SameLine o p
        → option_map {U = ℕ × List ℕ × List ℕ} (λ (c : Conn). (c.number, c.held.items, bytes_of c.unsent)) p ≡ option_map {U = ℕ × List ℕ × List ℕ} (λ (c : Conn). (c.number, c.held.items, bytes_of c.unsent)) o
    conns None p same = ap (option_map {U = ℕ × List ℕ × List ℕ} (λ (c : Conn). (c.number, c.held.items, bytes_of c.unsent))) same
    conns (Some c) None same = absurd same
    conns (Some c) (Some d) same = ap (λ (e : ℕ × List ℕ × List ℕ). Some e) (ends c d same.number same.held (ap bytes_of same.unsent))

-- ---- reads and writes

talk_reads :
    (h h' : List WireEvent) (at : ℕ) (begun : List ℕ × ℕ) (t : Talk) (c : ℕ) (held held' unsent : List ℕ) (out : List SaidAsk) (awaits : Option Greeting) (dialect : Dialect) {late : List SaidAsk} → ReadsOn c held held' h h' → TalkAgrees h at begun t c held unsent out awaits dialect late
    → TalkAgrees h' at begun t c held' unsent out awaits dialect late
talk_reads h h' at begun t c held held' unsent out awaits dialect r was = record {
  is_to = r.same_role ∙ was.is_to;
  begun_is = r.same_begin ∙ was.begun_is;
  sent_is = was.sent_is ∙ ap (λ l. l ++ unsent) (sym r.same_went);
  told_is = r.came ∙ ap (λ l. l ++ r.bytes) was.told_is ∙ append_assoc t.told held r.bytes ∙ ap (λ l. t.told ++ l) (sym r.held_is);
  out_is = was.out_is;
  awaits_is = was.awaits_is;
  dialect_is = was.dialect_is;
  late_is = was.late_is;
}

-- what agrees but for its connection is over, and shows why
pub over_so :
    (why : Option Cause) (at : ℕ) (past : List Step) (h : List WireEvent) (y : Link) (d : Conn) → y.conn ≡ Some d → ConnAgrees at past h y d d.held.items → ShowsWhy why y.limits.connect_ms (talk_in past at) d.number h → MayAllGo past at y.waiting
    → AreDue past at (said_asks y.waiting) → AreCalled past at (said_asks y.calls.sent.items) → (talk_in past at).stands ≡ InUse → y.lost ≤ (talk_in past at).failed → LineFails why at past h y
over_so why at past h y d is agrees shows waiting due called used tried = record {
  lost = record { conn = λ conn there. (conn.held.items, subst (λ (z : Conn). ConnAgrees at past h y z z.held.items) (same_some (sym is ∙ there)) agrees); waiting = waiting; due = due; none_out = λ none. absurd (none_some (sym none ∙ is)); unused = λ none. absurd (none_some (sym none ∙ is)); called = called; used = λ conn there. used; tried = tried };
  shows = λ conn there. subst (λ (z : Conn). ShowsWhy why y.limits.connect_ms (talk_in past at) z.number h) (same_some (sym is ∙ there)) shows;
}

-- what came is held, and this holds of the link then
line_reads_to :
    {After : ℕ → List Step → List WireEvent → Link → Type 0} {Is : Step → Type 0} {at : ℕ} {core : ServedCore} {h h' : List WireEvent} (x y : Link) (c d : Conn) → x.conn ≡ Some c → y ≡ record x { conn = Some d } → d.number ≡ c.number
    → bytes_of d.unsent ≡ bytes_of c.unsent → ReadsOn c.number c.held.items d.held.items h h'
    → ((past : List Step) → LineAgrees at past h x → ConnAgrees at past h' y d d.held.items → MayAllGo past at y.waiting → AreDue past at (said_asks y.waiting) → AreCalled past at (said_asks y.calls.sent.items) → (talk_in past at).stands ≡ InUse → y.lost ≤ (talk_in past at).failed → After at past h' y)
    → LineGoesFrom LineAgrees After Is at core h x core h' y
line_reads_to {After} {at = at} {h = h} {h' = h'} x y c d was is number unsent r after =
    line_moves refl (only_after c.number h h' r.elsewhere) (shut_used c.number r.elsewhere (conn_is x c was) (ap conn_of is ∙ ap (λ n. Some n) number)) (ap address_and_limits is) (λ past a. (agrees past a, keeps_others c.number (1, at) h h' (a.conn c was).is_to r.same_role r.elsewhere))
  where
    agrees : (past : List Step) → LineAgrees at past h x → After at past h' y
    agrees past a =
        let now = talk_reads h h' at (address_and_opened x) (talk_in past at) c.number c.held.items d.held.items (bytes_of c.unsent) (said_asks x.calls.sent.items) x.awaits_dialect x.dialect r (a.conn c was) in
        let conn = talk_as (ap address_and_opened is) refl number refl unsent (ap (λ (z : Link). said_asks z.calls.sent.items) is) (ap (λ (z : Link). z.awaits_dialect) is) (ap (λ (z : Link). z.dialect) is) (ap (λ (z : Link). said_late z.late.items) is) now in
        let waits = sym (ap (λ (z : Link). z.waiting) is) in
        after past a conn (subst (λ w. MayAllGo past at w) waits a.waiting) (subst (λ w. AreDue past at (said_asks w)) waits a.due) (subst (λ l. AreCalled past at l) (sym (ap (λ (z : Link). said_asks z.calls.sent.items) is)) a.called)
        (a.used c was) (as_tried (ap (λ (z : Link). z.lost) is) refl a.tried)

-- where the connection stands still
pub line_reads :
    {Is : Step → Type 0} {at : ℕ} {core : ServedCore} {h h' : List WireEvent} (x y : Link) (c d : Conn) → x.conn ≡ Some c → y ≡ record x { conn = Some d } → d.number ≡ c.number → bytes_of d.unsent ≡ bytes_of c.unsent
    → ReadsOn c.number c.held.items d.held.items h h' → Stands c.number h h' → LineGoes Is at core h x core h' y
line_reads {at = at} {h' = h'} x y c d was is number unsent r stands =
    line_reads_to x y c d was is number unsent r
    (λ past a agrees waiting due called used tried. has_conn at past h' y d (ap (λ (z : Link). z.conn) is) agrees (ap (λ n. is_over n h') number ∙ stands ∙ a.goes_on c was) waiting due called used tried)

-- or shows why it is to be given up
pub line_reads_over :
    {Is : Step → Type 0} {at : ℕ} {core : ServedCore} {h h' : List WireEvent} (why : Option Cause) (x y : Link) (c d : Conn) → x.conn ≡ Some c → y ≡ record x { conn = Some d } → d.number ≡ c.number
    → bytes_of d.unsent ≡ bytes_of c.unsent → ReadsOn c.number c.held.items d.held.items h h' → ((limit : ℕ) (t : Talk) → ShowsWhy why limit t c.number h') → LineGoesFrom LineAgrees (LineFails why) Is at core h x core h' y
line_reads_over {at = at} {h' = h'} why x y c d was is number unsent r shows =
    line_reads_to x y c d was is number unsent r
    (λ past a agrees waiting due called used tried. over_so why at past h' y d (ap (λ (z : Link). z.conn) is) agrees (subst (λ n. ShowsWhy why y.limits.connect_ms (talk_in past at) n h') (sym number) (shows y.limits.connect_ms (talk_in past at))) waiting due called used tried)

talk_sends :
    (h h' : List WireEvent) (at : ℕ) (begun : List ℕ × ℕ) (t : Talk) (c : ℕ) (held unsent unsent' : List ℕ) (out : List SaidAsk) (awaits : Option Greeting) (dialect : Dialect) {late : List SaidAsk} → SendsOn c unsent unsent' h h' → TalkAgrees h at begun t c held unsent out awaits dialect late
    → TalkAgrees h' at begun t c held unsent' out awaits dialect late
talk_sends h h' at begun t c held unsent unsent' out awaits dialect s was = record {
  is_to = s.same_role ∙ was.is_to;
  begun_is = s.same_begin ∙ was.begun_is;
  sent_is = was.sent_is ∙ s.went;
  told_is = s.same_came ∙ was.told_is;
  out_is = was.out_is;
  awaits_is = was.awaits_is;
  dialect_is = was.dialect_is;
  late_is = was.late_is;
}

-- what is to be sent goes out, as far as it is taken, and this holds of the link then
line_sends_to :
    {After : ℕ → List Step → List WireEvent → Link → Type 0} {Is : Step → Type 0} {at : ℕ} {core : ServedCore} {h h' : List WireEvent} (x y : Link) (c d : Conn) → x.conn ≡ Some c → y ≡ record x { conn = Some d } → d.number ≡ c.number
    → d.held.items ≡ c.held.items → SendsOn c.number (bytes_of c.unsent) (bytes_of d.unsent) h h'
    → ((past : List Step) → LineAgrees at past h x → ConnAgrees at past h' y d d.held.items → MayAllGo past at y.waiting → AreDue past at (said_asks y.waiting) → AreCalled past at (said_asks y.calls.sent.items) → (talk_in past at).stands ≡ InUse → y.lost ≤ (talk_in past at).failed → After at past h' y)
    → LineGoesFrom LineAgrees After Is at core h x core h' y
line_sends_to {After} {at = at} {h = h} {h' = h'} x y c d was is number held s after =
    line_moves refl (only_after c.number h h' s.elsewhere) (shut_used c.number s.elsewhere (conn_is x c was) (ap conn_of is ∙ ap (λ n. Some n) number)) (ap address_and_limits is) (λ past a. (agrees past a, keeps_others c.number (1, at) h h' (a.conn c was).is_to s.same_role s.elsewhere))
  where
    agrees : (past : List Step) → LineAgrees at past h x → After at past h' y
    agrees past a =
        let now = talk_sends h h' at (address_and_opened x) (talk_in past at) c.number c.held.items (bytes_of c.unsent) (bytes_of d.unsent) (said_asks x.calls.sent.items) x.awaits_dialect x.dialect s (a.conn c was) in
        let conn = talk_as (ap address_and_opened is) refl number held refl (ap (λ (z : Link). said_asks z.calls.sent.items) is) (ap (λ (z : Link). z.awaits_dialect) is) (ap (λ (z : Link). z.dialect) is) (ap (λ (z : Link). said_late z.late.items) is) now in
        let waits = sym (ap (λ (z : Link). z.waiting) is) in
        after past a conn (subst (λ w. MayAllGo past at w) waits a.waiting) (subst (λ w. AreDue past at (said_asks w)) waits a.due) (subst (λ l. AreCalled past at l) (sym (ap (λ (z : Link). said_asks z.calls.sent.items) is)) a.called)
        (a.used c was) (as_tried (ap (λ (z : Link). z.lost) is) refl a.tried)

-- where the connection stands still
pub line_sends :
    {Is : Step → Type 0} {at : ℕ} {core : ServedCore} {h h' : List WireEvent} (x y : Link) (c d : Conn) → x.conn ≡ Some c → y ≡ record x { conn = Some d } → d.number ≡ c.number → d.held.items ≡ c.held.items
    → SendsOn c.number (bytes_of c.unsent) (bytes_of d.unsent) h h' → Stands c.number h h' → LineGoes Is at core h x core h' y
line_sends {at = at} {h' = h'} x y c d was is number held s stands =
    line_sends_to x y c d was is number held s
    (λ past a agrees waiting due called used tried. has_conn at past h' y d (ap (λ (z : Link). z.conn) is) agrees (ap (λ n. is_over n h') number ∙ stands ∙ a.goes_on c was) waiting due called used tried)

-- or shows why it is to be given up
pub line_sends_over :
    {Is : Step → Type 0} {at : ℕ} {core : ServedCore} {h h' : List WireEvent} (why : Option Cause) (x y : Link) (c d : Conn) → x.conn ≡ Some c → y ≡ record x { conn = Some d } → d.number ≡ c.number → d.held.items ≡ c.held.items
    → SendsOn c.number (bytes_of c.unsent) (bytes_of d.unsent) h h' → ((limit : ℕ) (t : Talk) → ShowsWhy why limit t c.number h') → LineGoesFrom LineAgrees (LineFails why) Is at core h x core h' y
line_sends_over {at = at} {h' = h'} why x y c d was is number held s shows =
    line_sends_to x y c d was is number held s
    (λ past a agrees waiting due called used tried. over_so why at past h' y d (ap (λ (z : Link). z.conn) is) agrees (subst (λ n. ShowsWhy why y.limits.connect_ms (talk_in past at) n h') (sym number) (shows y.limits.connect_ms (talk_in past at))) waiting due called used tried)

-- ---- a new connection

first_agrees :
    (h : List WireEvent) (at number : ℕ) (text : List ℕ) (dialect : Greeting) (failed : ℕ) → IsUntold number h
    → TalkAgrees (connects number at text ∷ h) at (text, time h) (first_talk dialect failed) number [] (first_asked_of dialect) [] (awaits_first dialect) (first_dialect dialect.dialect) []
first_agrees h at number text dialect failed new = record {
  is_to = ap (λ b. if b then Some (1, at) else role number h) (equal number);
  begun_is = begin_begins h text at number;
  sent_is = ap (λ l. l ++ first_asked_of dialect) (sym new.none_went);
  told_is = new.none_came;
  out_is = refl;
  awaits_is = refl;
  dialect_is = refl;
  late_is = refl;
}

-- a new connection was nobody's
new_own : (number : ℕ) (its : ℕ × ℕ) (h : List WireEvent) → role number h ≡ None → (p : ℕ × ℕ) → role number h ≡ Some p → p ≡ its
new_own number its h none p was = absurd (none_some (sym none ∙ was))

closed_role : (c : ℕ) (h h' : List WireEvent) → Closes c h h' → role c h' ≡ role c h
closed_role c h h' (inl closed) = ap (role c) closed
closed_role c h h' (inr same) = ap (role c) same.0

begins :
    (at : ℕ) (core : ServedCore) (h h' : List WireEvent) (x y : Link) (dialect : Greeting) (number : ℕ) → IsUntold number h → h' ≡ connects number at x.text.items ∷ h → HasNewEnd number (time h) dialect x y
    → LineGoes IsSending at core h x core h' y
begins at core h h' x y dialect number new noted has = record {
  steps = Linked at dialect ∷ [];
  kinds = (tt, tt);
  own = (refl, tt);
  walks = (core, refl, refl);
  agrees = λ past o tells a. ((subst (λ (d : Option Conn). Unused h at x.text.items (talk_in past at) (option_map (λ (z : Conn). z.number) d)) has.none_draining (a.unused has.none_there), o), by past a y.conn refl has.conn, keeps_by number (1, at) h h' (new_own number (1, at) h new.no_role) (ap (role number) noted ∙ ap (λ b. if b then Some (1, at) else role number h) (equal number)) only, λ j other n ask is. (refl, refl, refl));
  shown = λ past o tells a shown. shown_later (Linked at dialect ∷ []) past h h' (tt, tt) (connects number at x.text.items ∷ [], noted) shown;
  shut = shut_begun number only (conn_drains x has.none_there ∙ ap (option_map (λ (z : Conn). z.number)) has.none_draining) (ap (λ o. first_some o (drain_of y)) (has_number y.conn has.conn));
  server = record { same = same_server x y (ap (λ t. t.items) has.text) has.limits; late = (tt, tt) };
}
  where
    only : TouchesOnly number h h'
    only = subst (TouchesOnly number h) (sym noted) (only_connects number at x.text.items h)

    begun : address_and_opened y ≡ (x.text.items, time h)
    begun = ap (λ (t : List ℕ). let o : List ℕ × ℕ = (t, y.opened) in o) (ap (λ t. t.items) has.text) ∙ ap (λ (t : ℕ). let o : List ℕ × ℕ = (x.text.items, t) in o) has.opened

    has_number : (o : Option Conn) → IsNewEnd number dialect o → option_map (λ (z : Conn). z.number) o ≡ Some number
    has_number None end = absurd end
    has_number (Some d) end = ap (λ n. Some n) end.0

    by : (past : List Step) → LineAgrees at past h x → (o : Option Conn) → y.conn ≡ o → IsNewEnd number dialect o → LineAgrees at (Linked at dialect ∷ past) h' y
    by past a None e end = absurd end
    by past a (Some d) e end =
        let talk = ap (λ b. if b then first_talk dialect (talk_in past at).failed else talk_in past at) (equal at) in
        let none : said_asks y.calls.sent.items ≡ [] = ap (λ c. said_asks c.sent.items) has.calls ∙ ap said_asks has.none_out in
        let first = subst (λ k. TalkAgrees k at (x.text.items, time h) (first_talk dialect (talk_in past at).failed) number [] (first_asked_of dialect) [] (awaits_first dialect) (first_dialect dialect.dialect) []) (sym noted) (first_agrees h at number x.text.items dialect (talk_in past at).failed new) in
        has_conn at (Linked at dialect ∷ past) h' y d e (talk_as begun talk end.0 end.1 end.2 none has.awaits has.speaks (ap said_late has.none_late) first)
        (ap (λ n. is_over n h') end.0 ∙ ap (is_over number) noted ∙ new.goes_on)
        (calls_later (Linked at dialect ∷ []) past at y.waiting (subst (λ w. MayAllGo past at w) (sym has.waiting) a.waiting))
        (due_stays past (Linked at dialect ∷ past) at (said_asks y.waiting) (λ n ask is. (refl, refl, refl)) (subst (λ w. AreDue past at (said_asks w)) (sym has.waiting) a.due))
        (subst (λ l. AreCalled (Linked at dialect ∷ past) at l) (sym none) tt) (ap (λ (t : Talk). t.stands) talk) (as_tried has.lost (ap (λ (t : Talk). t.failed) talk) a.tried)

-- one was begun, and closed
begins_in_vain :
    (at : ℕ) (core : ServedCore) (h h' : List WireEvent) (x y : Link) (number : ℕ) → IsUntold number h → Closes number (connects number at x.text.items ∷ h) h' → KeepsLines x y → LineGoes IsSending at core h x core h' y
begins_in_vain at core h h' x y number new closed keeps =
    let same = keeps_line x y keeps in
    let only = only_twice number h (connects number at x.text.items ∷ h) h' (only_connects number at x.text.items h) (only_closed number (connects number at x.text.items ∷ h) h' closed) in
    line_moves refl (only_after number h h' only) (shut_in_vain number only (closed_shut number (connects number at x.text.items ∷ h) h' closed) (same_conn x y same)) (ap (λ (s : LineState). s.0.0) same) (λ past a. (
      same_line at past h' x y same (line_stays h h' at [] past x (λ c of_c. only c (new_apart number c h (1, at) of_c new.no_role)) refl (λ n ask is. (refl, refl, refl)) a),
      keeps_by number (1, at) h h' (new_own number (1, at) h new.no_role) (closed_role number (connects number at x.text.items ∷ h) h' closed ∙ ap (λ b. if b then Some (1, at) else role number h) (equal number)) only,
    ))

at_same : {Is : Step → Type 0} (at : ℕ) (core : ServedCore) (h h' : List WireEvent) (x y : Link) → h' ≡ h → KeepsLines x y → LineGoes Is at core h x core h' y
at_same at core h h' x y same keeps = line_keeps (λ d. subst (IsUntouched d h) (sym same) (untouched d h)) (keeps_line x y keeps)

-- a connection was begun, or not
pub line_opens :
    {at : ℕ} {core : ServedCore} {h h' : List WireEvent} (x y : Link) (dialect : ServerDialect) (o : Opening) → OpensLink at dialect o x y h h' → LineGoes IsSending at core h x core h' y
line_opens {at} {core} {h} {h'} x y dialect opening.Begun opens = begins at core h h' x y (greeting_of x dialect) opens.0 opens.1 opens.2 opens.3
line_opens {at} {core} {h} {h'} x y dialect opening.NoAddress opens = at_same at core h h' x y opens.0 opens.1
line_opens {at} {core} {h} {h'} x y dialect opening.Failed opens = at_same at core h h' x y opens.0 opens.1
line_opens {at} {core} {h} {h'} x y dialect opening.NoMemory opens = begins_in_vain at core h h' x y opens.0 opens.1 opens.2 opens.3

-- ---- what the server tells of its dialects

talk_greets :
    (h : List WireEvent) (at : ℕ) (begun : List ℕ × ℕ) (t : Talk) (c : ℕ) (bytes held unsent : List ℕ) (out : List SaidAsk) (awaits : Option Greeting) (old dialect : Dialect) {late : List SaidAsk} → TalkAgrees h at begun t c (bytes ++ held) unsent out awaits old late
    → TalkAgrees h at begun (greeted dialect bytes t) c held unsent out None dialect late
talk_greets h at begun t c bytes held unsent out awaits old dialect was = record {
  is_to = was.is_to;
  begun_is = was.begun_is;
  sent_is = was.sent_is;
  told_is = was.told_is ∙ sym (append_assoc t.told bytes held);
  out_is = was.out_is;
  awaits_is = refl;
  dialect_is = refl;
  late_is = was.late_is;
}

-- it is taken from the front of what is held, where it is awaited
pub line_learns : {at : ℕ} {core : ServedCore} {h : List WireEvent} (x y : Link) (can : Bool) → Learns can x y → LineGoes IsOfTurn at core h x core h y
line_learns {at} {core} {h} x y can l = by l.told
  where
    learned : (c d : Conn) → x.conn ≡ Some c → y.conn ≡ Some d → TakesGreeting x.awaits_dialect y.dialect (Some c) (Some d) → HasLearnt x y → LineGoes IsOfTurn at core h x core h y
    learned c d was is takes learnt = record {
      steps = step ∷ [];
      kinds = (tt, tt);
      own = (refl, tt);
      walks = (core, refl, refl);
      agrees = λ past o tells a. ((subst (λ o. GreetsAwaited o y.dialect takes.0) (sym (a.conn c was).awaits_is) takes.2, o), agreed past a, all_kept (1, at) h h (quiet h), λ j other n ask is. (refl, refl, refl));
      shown = λ past o tells a shown. shown_later (step ∷ []) past h h (tt, tt) (none_since h) shown;
      shut = shut_still (quiet h) (conn_is y d is ∙ ap (λ (z : Conn). Some z.number) takes.3 ∙ sym (conn_is x c was));
      server = record { same = ap address_and_limits learnt.rest; late = (tt, tt) };
    }
      where
        step : Step
        step = Greeted at y.dialect takes.0

        agreed : (past : List Step) → LineAgrees at past h x → LineAgrees at (step ∷ past) h y
        agreed past a =
            let talk = ap (λ b. if b then greeted y.dialect takes.0 (talk_in past at) else talk_in past at) (equal at) in
            let before = talk_as refl refl refl (sym takes.1) refl refl refl refl refl (a.conn c was) in
            let now = talk_greets h at (address_and_opened x) (talk_in past at) c.number takes.0 d.held.items (bytes_of c.unsent) (said_asks x.calls.sent.items) x.awaits_dialect x.dialect y.dialect before in
            has_conn at (step ∷ past) h y d is
            (talk_as (ap address_and_opened learnt.rest) talk (ap (λ (z : Conn). z.number) takes.3) refl (ap (λ (z : Conn). bytes_of z.unsent) takes.3) (ap (λ (z : Link). said_asks z.calls.sent.items) learnt.rest) learnt.told refl (ap (λ (z : Link). said_late z.late.items) learnt.rest) now)
            (ap (λ (z : Conn). is_over z.number h) takes.3 ∙ a.goes_on c was)
            (calls_later (step ∷ []) past at y.waiting (subst (λ w. MayAllGo past at w) (sym (ap (λ (z : Link). z.waiting) learnt.rest)) a.waiting))
            (due_stays past (step ∷ past) at (said_asks y.waiting) (λ n ask is. (refl, refl, refl)) (subst (λ w. AreDue past at (said_asks w)) (sym (ap (λ (z : Link). z.waiting) learnt.rest)) a.due))
            (called_stays past (step ∷ past) at (said_asks y.calls.sent.items) (λ n ask is. (refl, refl, refl)) (subst (λ l. AreCalled past at l) (sym (ap (λ (z : Link). said_asks z.calls.sent.items) learnt.rest)) a.called))
            (ap (λ (t : Talk). t.stands) talk ∙ a.used c was) (as_tried (ap (λ (z : Link). z.lost) learnt.rest) (ap (λ (t : Talk). t.failed) talk) a.tried)

    by_conns : (o p : Option Conn) → x.conn ≡ o → y.conn ≡ p → TakesGreeting x.awaits_dialect y.dialect o p → HasLearnt x y → LineGoes IsOfTurn at core h x core h y
    by_conns None p was is takes learnt = absurd takes
    by_conns (Some c) None was is takes learnt = absurd takes
    by_conns (Some c) (Some d) was is takes learnt = learned c d was is takes learnt

    by : (y ≡ x) ⊎ HasLearnt x y → LineGoes IsOfTurn at core h x core h y
    by (inl same) = line_keeps (quiet h) (ap line_of same)
    by (inr learnt) = by_conns x.conn y.conn refl refl learnt.takes learnt

-- ---- calls

one_said : (calls : List SentCall) (call : SentCall) → said_asks (calls ++ call ∷ []) ≡ said_asks calls ++ (call.ticket.number, call.dialect, call.ticket.ask, call.since) ∷ []
one_said [] call = refl
one_said (first ∷ calls) call = ap (λ (l : List SaidAsk). (first.ticket.number, first.dialect, first.ticket.ask, first.since) ∷ l) (one_said calls call)

talk_asks :
    (h : List WireEvent) (at : ℕ) (begun : List ℕ × ℕ) (t : Talk) (c : ℕ) (held unsent : List ℕ) (out : List SaidAsk) (awaits : Option Greeting) (speaks : Dialect) (number : ℕ) (dialect : Dialect) (ask : Ask) (since : ℕ) {late : List SaidAsk}
    → TalkAgrees h at begun t c held unsent out awaits speaks late
    → TalkAgrees h at begun (with_ask number dialect ask since t) c held (unsent ++ spelling_of (asked_in dialect ask)) (out ++ (number, dialect, ask, since) ∷ []) awaits speaks late
talk_asks h at begun t c held unsent out awaits speaks number dialect ask since was = record {
  is_to = was.is_to;
  begun_is = was.begun_is;
  sent_is = ap (λ l. l ++ spelling_of (asked_in dialect ask)) was.sent_is ∙ append_assoc (taken c h) unsent (spelling_of (asked_in dialect ask));
  told_is = was.told_is;
  out_is = ap (λ (l : List SaidAsk). l ++ (number, dialect, ask, since) ∷ []) was.out_is;
  awaits_is = was.awaits_is;
  dialect_is = was.dialect_is;
  late_is = was.late_is;
}

-- a call that the core gave out for its server is asked
pub line_asks :
    {at : ℕ} {core : ServedCore} {h : List WireEvent} (x y : Link) (c d : Conn) (call : SentCall) → x.conn ≡ Some c → y ≡ record x { calls = y.calls; conn = Some d } → d ≡ record c { unsent = d.unsent }
    → x.late.items ≡ [] → awaits_flush x.awaits_dialect ≡ false → y.calls.sent.items ≡ x.calls.sent.items ++ call ∷ [] → bytes_of d.unsent ≡ bytes_of c.unsent ++ spelling_of (asked_in call.dialect call.ticket.ask)
    → LineGoesFrom (LineCalled call) LineAgrees IsSending at core h x core h y
line_asks {at} {core} {h} x y c d call was is same alone ready more unsent = record {
  steps = step ∷ [];
  kinds = (tt, tt);
  own = (refl, tt);
  walks = (core, refl, refl);
  agrees = λ past o tells a.
      let one = asked_one at past x.calls.sent.items call x.waiting a.0.called a.2 in
      (((a.1, a.2.0, (a.0.conn c was).late_is ∙ ap said_late alone, ap awaits_flush (a.0.conn c was).awaits_is ∙ ready, a.2.3, a.0.used c was), o), agreed past a.0 one, all_kept (1, at) h h (quiet h), one.others);
  shown = λ past o tells a shown. shown_later (step ∷ []) past h h (tt, tt) (none_since h) shown;
  shut = shut_still (quiet h) (ap conn_of is ∙ ap (λ (z : Conn). Some z.number) same ∙ sym (conn_is x c was));
  server = record { same = ap address_and_limits is; late = (tt, tt) };
}
  where
    step : Step
    step = Asked at call.ticket.number call.dialect call.ticket.ask call.since

    agreed : (past : List Step) → LineAgrees at past h x → AskedOne at past (step ∷ past) x.calls.sent.items call x.waiting → LineAgrees at (step ∷ past) h y
    agreed past a one =
        let talk = ap (λ b. if b then with_ask call.ticket.number call.dialect call.ticket.ask call.since (talk_in past at) else talk_in past at) (equal at) in
        let now = talk_asks h at (address_and_opened x) (talk_in past at) c.number c.held.items (bytes_of c.unsent) (said_asks x.calls.sent.items) x.awaits_dialect x.dialect call.ticket.number call.dialect call.ticket.ask call.since (a.conn c was) in
        has_conn at (step ∷ past) h y d (ap (λ (z : Link). z.conn) is)
        (talk_as (ap address_and_opened is) talk (ap (λ (z : Conn). z.number) same) (ap (λ (z : Conn). z.held.items) same) unsent (ap said_asks more ∙ one_said x.calls.sent.items call) (ap (λ (z : Link). z.awaits_dialect) is) (ap (λ (z : Link). z.dialect) is) (ap (λ (z : Link). said_late z.late.items) is) now)
        (ap (λ (z : Conn). is_over z.number h) same ∙ a.goes_on c was)
        (calls_later (step ∷ []) past at y.waiting (subst (λ w. MayAllGo past at w) (sym (ap (λ (z : Link). z.waiting) is)) a.waiting))
        (subst (λ w. AreDue (step ∷ past) at (said_asks w)) (sym (ap (λ (z : Link). z.waiting) is)) one.due)
        (subst (λ (l : List SentCall). AreCalled (step ∷ past) at (said_asks l)) (sym more) one.called) (ap (λ (t : Talk). t.stands) talk ∙ a.used c was) (as_tried (ap (λ (z : Link). z.lost) is) (ap (λ (t : Talk). t.failed) talk) a.tried)

-- a link that has another list of calls that wait
waits_with : (at : ℕ) (past : List Step) (h : List WireEvent) (x y : Link) → y ≡ record x { waiting = y.waiting } → LineAgrees at past h x → MayAllGo past at y.waiting → AreDue past at (said_asks y.waiting) → LineAgrees at past h y
waits_with at past h x y is a waiting due = record {
  conn = λ conn there.
      talk_as (ap address_and_opened is) refl refl refl refl (ap (λ (z : Link). said_asks z.calls.sent.items) is) (ap (λ (z : Link). z.awaits_dialect) is) (ap (λ (z : Link). z.dialect) is) (ap (λ (z : Link). said_late z.late.items) is)
      (a.conn conn (sym (ap (λ (z : Link). z.conn) is) ∙ there));
  goes_on = λ conn there. a.goes_on conn (sym (ap (λ (z : Link). z.conn) is) ∙ there);
  waiting = waiting;
  due = due;
  none_out = λ none. subst (λ l. AllGivenUp past at l) (sym (ap (λ (z : Link). said_asks z.calls.sent.items) is)) (a.none_out (sym (ap (λ (z : Link). z.conn) is) ∙ none));
  unused = λ none. subst (λ (z : Link). Unused h at z.text.items (talk_in past at) (drain_of z)) (sym is) (a.unused (sym (ap (λ (z : Link). z.conn) is) ∙ none));
  called = subst (λ l. AreCalled past at l) (sym (ap (λ (z : Link). said_asks z.calls.sent.items) is)) a.called;
  used = λ conn there. a.used conn (sym (ap (λ (z : Link). z.conn) is) ∙ there);
  tried = as_tried (ap (λ (z : Link). z.lost) is) refl a.tried;
}

-- it waits
pub line_waits :
    {Is : Step → Type 0} {at : ℕ} {core : ServedCore} {h : List WireEvent} (x y : Link) (call : SentCall) → y ≡ record x { waiting = y.waiting } → y.waiting ≡ x.waiting ++ call ∷ []
    → LineGoesFrom (LineCalled call) LineAgrees Is at core h x core h y
line_waits {at = at} {h = h} x y call is more =
    line_moves refl (none_since h) (shut_still (quiet h) (ap conn_of is)) (ap address_and_limits is)
    (λ past a. (
      waits_with at past h x y is a.0 (subst (λ w. MayAllGo past at w) (sym more) (one_more past at x.waiting call a.0.waiting a.1)) (subst (λ w. AreDue past at (said_asks w)) (sym more) (due_behind past at x.waiting call a.2)),
      all_kept (1, at) h h (quiet h),
    ))

-- or before all others, where nothing of its line has changed but that
pub line_waits_first :
    {Is : Step → Type 0} {at : ℕ} {core : ServedCore} {h : List WireEvent} (x m y : Link) (call : SentCall) → line_of m ≡ line_of x → y ≡ record m { waiting = y.waiting } → y.waiting ≡ call ∷ m.waiting
    → LineGoesFrom (LineCalled call) LineAgrees Is at core h x core h y
line_waits_first {at = at} {h = h} x m y call same is first =
    line_moves refl (none_since h) (shut_still (quiet h) (ap conn_of is ∙ same_conn x m same)) (ap address_and_limits is ∙ ap (λ (s : LineState). s.0.0) same)
    (λ past a.
    let waits : y.waiting ≡ call ∷ x.waiting = first ∙ ap (λ (l : List SentCall). call ∷ l) (ap (λ (s : LineState). s.3) same) in (
      waits_with at past h m y is (same_line at past h x m same a.0) (subst (λ w. MayAllGo past at w) (sym waits) (a.1, a.0.waiting)) (subst (λ w. AreDue past at (said_asks w)) (sym waits) a.2),
      all_kept (1, at) h h (quiet h),
    ))

called_between : (past : List Step) (at : ℕ) (before : List SentCall) (call : SentCall) (after : List SentCall) → MayAllGo past at (before ++ call ∷ after) → MayGo past at call × MayAllGo past at (before ++ after)
called_between past at [] call after are = are
called_between past at (first ∷ before) call after are = let rest = called_between past at before call after are.1 in (rest.0, (are.0, rest.1))

-- one of those that wait is taken
pub line_takes :
    {Is : Step → Type 0} {at : ℕ} {core : ServedCore} {h : List WireEvent} (x y : Link) (call : SentCall) (before after : List SentCall) → y ≡ record x { waiting = y.waiting } → x.waiting ≡ before ++ call ∷ after
    → y.waiting ≡ before ++ after → LineGoesFrom LineAgrees (LineCalled call) Is at core h x core h y
line_takes {at = at} {h = h} x y call before after is was now =
    line_moves refl (none_since h) (shut_still (quiet h) (ap conn_of is)) (ap address_and_limits is)
    (λ past a.
    let all = called_between past at before call after (subst (λ w. MayAllGo past at w) was a.waiting) in
    let due = due_taken past at before call after (subst (λ w. AreDue past at (said_asks w)) was a.due) in (
      (
        waits_with at past h x y is a (subst (λ w. MayAllGo past at w) (sym now) all.1) (subst (λ w. AreDue past at (said_asks w)) (sym now) due.2),
        all.0,
        subst (λ w. AreDue past at (said_asks (call ∷ w))) (sym now) due,
      ),
      all_kept (1, at) h h (quiet h),
    ))

-- ---- answers

talk_answers :
    (h : List WireEvent) (at : ℕ) (begun : List ℕ × ℕ) (t : Talk) (c : ℕ) (spelled held unsent : List ℕ) (out out' : List SaidAsk) (failed : ℕ) (awaits : Option Greeting) (dialect : Dialect) {late : List SaidAsk} → TalkAgrees h at begun t c (spelled ++ held) unsent out awaits dialect late
    → TalkAgrees h at begun (record t { told = t.told ++ spelled; out = out'; failed = failed }) c held unsent out' awaits dialect late
talk_answers h at begun t c spelled held unsent out out' failed awaits dialect was = record {
  is_to = was.is_to;
  begun_is = was.begun_is;
  sent_is = was.sent_is;
  told_is = was.told_is ∙ sym (append_assoc t.told spelled held);
  out_is = refl;
  awaits_is = was.awaits_is;
  dialect_is = was.dialect_is;
  late_is = was.late_is;
}

-- a link counts no connection that was given up any more, or no call of it was settled and it counts what it did
abbrev pub StillLost : Link → Link → Type 0
StillLost x y = (y.lost ≡ 0) ⊎ ((y.lost ≡ x.lost) × (length x.calls.sent.items ≤ length y.calls.sent.items))

-- where these calls were answered first, and others are left, a link that counts so counts no more than there are
settled_tried : (gone sent left : List SentCall) (old new failed : ℕ) → sent ≡ gone ++ left → (new ≡ 0) ⊎ ((new ≡ old) × (length sent ≤ length left)) → old ≤ failed → new ≤ failed_by gone failed
settled_tried gone sent left old new failed parts (inl none) was = subst (λ n. n ≤ failed_by gone failed) (sym none) (least (failed_by gone failed))
  where
    least : (n : ℕ) → 0 ≤ n
    least n = omega arith
settled_tried [] sent left old new failed parts (inr still) was = subst (λ n. n ≤ failed) (sym still.0) was
settled_tried (call ∷ gone) sent left old new failed parts (inr still) was = absurd (more (subst (λ l. length l ≤ length left) parts still.1))
  where
    more : length (call ∷ gone ++ left) ≤ length left → ⊥
    more less = let both : length (gone ++ left) ≡ length gone + length left = length-append gone left in omega (arith, less, both)

-- the answers in front of what is held settle calls, and this is left of it
settles_to :
    {After : ℕ → List Step → List WireEvent → Link → Type 0} {at : ℕ} {core core' : ServedCore} {h : List WireEvent} (x y : Link) (c d : Conn) (rest : List ℕ) → x.conn ≡ Some c → y.conn ≡ Some d → x.awaits_dialect ≡ None → x.late.items ≡ []
    → server_and_opened y ≡ server_and_opened (record x { lost = y.lost }) → StillLost x y → y.waiting ≡ x.waiting → y.awaits_dialect ≡ x.awaits_dialect → y.dialect ≡ x.dialect → y.late.items ≡ x.late.items → d.number ≡ c.number → bytes_of d.unsent ≡ bytes_of c.unsent
    → ((past : List Step) → ConnAgrees at past h y d rest → is_over d.number h ≡ false → MayAllGo past at y.waiting → AreDue past at (said_asks y.waiting) → AreCalled past at (said_asks y.calls.sent.items) → (talk_in past at).stands ≡ InUse → y.lost ≤ (talk_in past at).failed → After at past h y)
    → SettlesSome x.calls.sent.items c.held.items core y.calls.sent.items rest core' → LineGoesFrom LineAgrees After IsOfTurn at core h x core' h y
settles_to {After} {at} {core} {core'} {h} x y c d rest was is off alone place still waiting awaits speaks late number unsent after s = record {
  steps = g.steps;
  kinds = g.kinds;
  own = g.own;
  walks = g.walks;
  agrees = λ past o tells a. let t = a.conn c was in let r = g.orderly past o tells a.called t.out_is (t.awaits_is ∙ off) (t.late_is ∙ ap said_late alone) in (r.0, agreed past a r.1, all_kept (1, at) h h (quiet h), (left past a).others);
  shown = λ past o tells a shown. shown_later g.steps past h h g.unlost (none_since h) shown;
  shut = shut_still (quiet h) (conn_is y d is ∙ ap (λ n. Some n) number ∙ sym (conn_is x c was));
  server = record { same = place_server (record x { lost = y.lost }) y place; late = unlost_late (λ i. Some x.limits) g.steps g.unlost };
}
  where
    g : Answers at x.calls.sent.items c.held.items core y.calls.sent.items rest core'
    g = answers_some at x.calls.sent.items c.held.items core y.calls.sent.items rest core' s

    left : (past : List Step) → LineAgrees at past h x → SentGone at past (g.steps ++ past) y.calls.sent.items x.waiting
    left past a = sent_gone at past (g.steps ++ past) g.gone y.calls.sent.items x.waiting (g.keeps past) (subst (λ (l : List SentCall). AreCalled past at (said_asks l)) g.parts a.called) a.due

    agreed : (past : List Step) → LineAgrees at past h x → talk_in (g.steps ++ past) at ≡ record (talk_in past at) { told = (talk_in past at).told ++ g.spelled; out = said_asks y.calls.sent.items; failed = failed_by g.gone (talk_in past at).failed } → After at (g.steps ++ past) h y
    agreed past a talk =
        let before = talk_as refl refl refl (sym g.whole) refl refl refl refl refl (a.conn c was) in
        let now = talk_answers h at (address_and_opened x) (talk_in past at) c.number g.spelled rest (bytes_of c.unsent) (said_asks x.calls.sent.items) (said_asks y.calls.sent.items) (failed_by g.gone (talk_in past at).failed) x.awaits_dialect x.dialect before in
        after (g.steps ++ past) (talk_as (same_opening (record x { lost = y.lost }) y place) talk number refl unsent refl awaits speaks (ap said_late late) now) (ap (λ n. is_over n h) number ∙ a.goes_on c was) (calls_later g.steps past at y.waiting (subst (λ w. MayAllGo past at w) (sym waiting) a.waiting))
        (subst (λ w. AreDue (g.steps ++ past) at (said_asks w)) (sym waiting) (left past a).due) (left past a).called (ap (λ (t : Talk). t.stands) talk ∙ a.used c was)
        (as_tried refl (ap (λ (t : Talk). t.failed) talk) (settled_tried g.gone x.calls.sent.items y.calls.sent.items x.lost y.lost (talk_in past at).failed g.parts still a.tried))

-- what is left of it is held
pub line_settles :
    {at : ℕ} {core core' : ServedCore} {h : List WireEvent} (x y : Link) (c d : Conn) → x.conn ≡ Some c → y.conn ≡ Some d → x.awaits_dialect ≡ None → x.late.items ≡ [] → server_and_opened y ≡ server_and_opened (record x { lost = y.lost }) → StillLost x y → y.waiting ≡ x.waiting
    → y.awaits_dialect ≡ x.awaits_dialect → y.dialect ≡ x.dialect → y.late.items ≡ x.late.items → d.number ≡ c.number → bytes_of d.unsent ≡ bytes_of c.unsent → SettlesSome x.calls.sent.items c.held.items core y.calls.sent.items d.held.items core'
    → LineGoes IsOfTurn at core h x core' h y
line_settles {at} {core} {core'} {h} x y c d was is off alone place still waiting awaits speaks late number unsent s =
    settles_to x y c d d.held.items was is off alone place still waiting awaits speaks late number unsent (λ past agrees goes_on waits due called used tried. has_conn at past h y d is agrees goes_on waits due called used tried) s

-- ---- the end of a connection

-- it had no connection in use, and nothing happened
gives_none :
    {at : ℕ} {core : ServedCore} {h h' : List WireEvent} (why : Option Cause) (x y : Link) → x.conn ≡ None → h' ≡ h → y.conn ≡ None → y.draining ≡ x.draining → address_and_limits y ≡ address_and_limits x → y.waiting ≡ x.waiting
    → y.calls.sent.items ≡ x.calls.sent.items → y.lost ≡ x.lost → LineGoesFrom (LineFails why) LineAgrees (IsGivingUp why) at core h x core h' y
gives_none {at} {core} {h} {h'} why x y had same closed draining server waiting sent lost =
    line_moves refl ([], same) (shut_still still (conns_same x y (closed ∙ sym had) draining)) server (λ past a. (left past a, all_kept (1, at) h h' still))
  where
    still : (d : ℕ) → IsUntouched d h h'
    still d = subst (IsUntouched d h) (sym same) (untouched d h)

    left : (past : List Step) → LineFails why at past h x → LineAgrees at past h' y
    left past a =
        has_none at past h' y closed (subst (λ w. MayAllGo past at w) (sym waiting) a.lost.waiting) (subst (λ w. AreDue past at (said_asks w)) (sym waiting) a.lost.due) (subst (λ (l : List SentCall). AllGivenUp past at (said_asks l)) (sym sent) (a.lost.none_out had))
        (subst (λ k. Unused k at y.text.items (talk_in past at) (drain_of y)) (sym same) (subst (λ t. Unused h at t (talk_in past at) (drain_of y)) (sym (same_text x y server)) (subst (λ (o : Option Conn). Unused h at x.text.items (talk_in past at) (option_map (λ (z : Conn). z.number) o)) (sym draining) (a.lost.unused had))))
        (subst (λ (l : List SentCall). AreCalled past at (said_asks l)) (sym sent) a.lost.called) (as_tried lost refl a.lost.tried)

-- it was given up, for what its connection showed, whatever that held; and so the connections that it has stand now
gives_up :
    {at : ℕ} {core : ServedCore} {h h' : List WireEvent} (why : Option Cause) (x y : Link) (c : Conn) → x.conn ≡ Some c → TouchesOnly c.number h h' → role c.number h' ≡ role c.number h → y.conn ≡ None → address_and_limits y ≡ address_and_limits x
    → y.waiting ≡ x.waiting → y.calls.sent.items ≡ x.calls.sent.items → y.lost ≤ x.lost + 1 → StaysShut at h x h' y
    → ((past : List Step) → LineFails why at past h x → Unused h' at y.text.items (talk_in (Lost at why x.limits.connect_ms ∷ past) at) (drain_of y)) → LineGoesFrom (LineFails why) LineAgrees (IsGivingUp why) at core h x core h' y
gives_up {at} {core} {h} {h'} why x y c e only same_role closed server waiting sent lost shut unused = record {
  steps = Lost at why x.limits.connect_ms ∷ [];
  kinds = (refl, tt);
  own = (refl, tt);
  walks = (core, refl, refl);
  agrees = λ past o tells a. ((tt, o), left past a, keeps_others c.number (1, at) h h' (a.lost.conn c e).1.is_to same_role only, λ j other n ask is. (refl, refl, refl));
  shown = λ past o tells a shown. (was_shown past a, shown_since past h h' (only_after c.number h h' only) shown);
  shut = shut;
  server = record { same = server; late = (refl, tt) };
}
  where
    talk : (past : List Step) → talk_in (Lost at why x.limits.connect_ms ∷ past) at ≡ given_up why (talk_in past at)
    talk past = ap (λ b. if b then given_up why (talk_in past at) else talk_in past at) (equal at)

    tried : (past : List Step) → LineFails why at past h x → y.lost ≤ (talk_in (Lost at why x.limits.connect_ms ∷ past) at).failed
    tried past a =
        let was : x.lost ≤ (talk_in past at).failed = a.lost.tried in
        let now : (talk_in (Lost at why x.limits.connect_ms ∷ past) at).failed ≡ suc (talk_in past at).failed = ap (λ (t : Talk). t.failed) (talk past) ∙ ap (λ s. failed_after s (talk_in past at).failed) (a.lost.used c e) in
        omega (arith, was, now, lost)

    given : (past : List Step) → LineFails why at past h x → AreGivenUp (Lost at why x.limits.connect_ms ∷ past) (said_asks y.calls.sent.items)
    given past a =
        given_now past at why x.limits.connect_ms (said_asks y.calls.sent.items)
        (λ n among. subst (IsAmong n) (sym ((a.lost.conn c e).1.out_is ∙ ap said_asks (sym sent))) among)

    left : (past : List Step) → LineFails why at past h x → LineAgrees at (Lost at why x.limits.connect_ms ∷ past) h' y
    left past a =
        has_none at (Lost at why x.limits.connect_ms ∷ past) h' y closed (calls_later (Lost at why x.limits.connect_ms ∷ []) past at y.waiting (subst (λ w. MayAllGo past at w) (sym waiting) a.lost.waiting))
        (due_stays past (Lost at why x.limits.connect_ms ∷ past) at (said_asks y.waiting) (λ n ask is. (refl, refl, refl)) (subst (λ w. AreDue past at (said_asks w)) (sym waiting) a.lost.due)) (ap (λ (t : Talk). t.out) (talk past), given past a) (unused past a)
        (called_stays past (Lost at why x.limits.connect_ms ∷ past) at (said_asks y.calls.sent.items) (λ n ask is. (refl, refl, refl)) (subst (λ (l : List SentCall). AreCalled past at (said_asks l)) (sym sent) a.lost.called)) (tried past a)

    was_shown : (past : List Step) → LineFails why at past h x → WasShown why x.limits.connect_ms at past h'
    was_shown past a = let t = (a.lost.conn c e).1 in record {
      conn = c.number;
      before = h;
      since = only_after c.number h h' only;
      begun = address_and_opened x;
      held = (a.lost.conn c e).0;
      unsent = bytes_of c.unsent;
      agrees = record { is_to = t.is_to; begun_is = t.begun_is; sent_is = t.sent_is; told_is = t.told_is; out_is = refl; awaits_is = refl; dialect_is = refl; late_is = refl };
      shows = a.shows c e;
    }

-- its connection was closed, whatever it held, for what it showed
pub line_closes :
    {at : ℕ} {core : ServedCore} {h h' : List WireEvent} (why : Option Cause) → standing_after why ≡ Apart → (x y : Link) (r : Option ℕ) → r ≡ option_map (λ (z : Conn). z.number) x.conn → IfSome r (λ c. Closes c h h') → (r ≡ None → h' ≡ h) → y.conn ≡ None
    → MatchOption x.conn (y.draining ≡ x.draining) (λ c. y.draining ≡ None) → address_and_limits y ≡ address_and_limits x → y.waiting ≡ x.waiting → y.calls.sent.items ≡ x.calls.sent.items
    → MatchOption x.conn (y.lost ≡ x.lost) (λ c. y.lost ≤ x.lost + 1) → LineGoesFrom (LineFails why) LineAgrees (IsGivingUp why) at core h x core h' y
line_closes {at} {core} {h} {h'} why apart x y r r_is some none closed draining server waiting sent lost = by x.conn refl draining lost
  where
    by : (o : Option Conn) → x.conn ≡ o → MatchOption o (y.draining ≡ x.draining) (λ c. y.draining ≡ None) → MatchOption o (y.lost ≡ x.lost) (λ c. y.lost ≤ x.lost + 1) → LineGoesFrom (LineFails why) LineAgrees (IsGivingUp why) at core h x core h' y
    by None e same less = gives_none why x y e (none (r_is ∙ ap (option_map (λ (z : Conn). z.number)) e)) closed same server waiting sent less
    by (Some c) e undrained less =
        gives_up why x y c e only (closed_role c.number h h' closes_it) closed server waiting sent less (shut_closed c.number only (closed_shut c.number h h' closes_it) (conn_is x c e))
        (λ past a. subst (λ (o : Option Conn). Unused h' at y.text.items (talk_in (Lost at why x.limits.connect_ms ∷ past) at) (option_map (λ (z : Conn). z.number) o)) (sym undrained)
        (ap (λ b. (if b then given_up why (talk_in past at) else talk_in past at).stands) (equal at) ∙ apart))
      where
        closes_it : Closes c.number h h'
        closes_it = subst (λ o. IfSome o (λ n. Closes n h h')) (r_is ∙ ap (option_map (λ (z : Conn). z.number)) e) some

        only : TouchesOnly c.number h h'
        only = only_closed c.number h h' closes_it

-- or it can't be kept, and its end is awaited
pub line_drains :
    {at : ℕ} {core : ServedCore} {h h' : List WireEvent} (why : Option Cause) → standing_after why ≡ Ending → (x y : Link) → h' ≡ h → y.conn ≡ None → conn_of y ≡ conn_of x → (x.conn ≡ None → y.draining ≡ x.draining) → address_and_limits y ≡ address_and_limits x
    → y.waiting ≡ x.waiting → y.calls.sent.items ≡ x.calls.sent.items → MatchOption x.conn (y.lost ≡ x.lost) (λ c. y.lost ≤ x.lost + 1) → LineGoesFrom (LineFails why) LineAgrees (IsGivingUp why) at core h x core h' y
line_drains {at} {core} {h} {h'} why ending x y same closed conns draining server waiting sent lost = by x.conn refl lost
  where
    still : (d : ℕ) → IsUntouched d h h'
    still d = subst (IsUntouched d h) (sym same) (untouched d h)

    by : (o : Option Conn) → x.conn ≡ o → MatchOption o (y.lost ≡ x.lost) (λ c. y.lost ≤ x.lost + 1) → LineGoesFrom (LineFails why) LineAgrees (IsGivingUp why) at core h x core h' y
    by None e less = gives_none why x y e same closed (draining e) server waiting sent less
    by (Some c) e less =
        gives_up why x y c e (λ d other. still d) (still c.number).same_role closed server waiting sent less (shut_still still conns)
        (λ past a. subst (Unused h' at y.text.items (talk_in (Lost at why x.limits.connect_ms ∷ past) at)) (sym (sym (conn_drains y closed) ∙ conns ∙ conn_is x c e)) (awaited past a))
      where
        awaited : (past : List Step) → LineFails why at past h x → Unused h' at y.text.items (talk_in (Lost at why x.limits.connect_ms ∷ past) at) (Some c.number)
        awaited past a =
            let t = (a.lost.conn c e).1 in
            let talk : talk_in (Lost at why x.limits.connect_ms ∷ past) at ≡ given_up why (talk_in past at) = ap (λ b. if b then given_up why (talk_in past at) else talk_in past at) (equal at) in
            let now : TalkAgrees h at (address_and_opened x) (given_up why (talk_in past at)) c.number (a.lost.conn c e).0 (bytes_of c.unsent) [] None (talk_in past at).dialect [] =
            record { is_to = t.is_to; begun_is = t.begun_is; sent_is = t.sent_is; told_is = t.told_is; out_is = refl; awaits_is = refl; dialect_is = refl; late_is = refl } in
            subst (λ k. Unused k at y.text.items (talk_in (Lost at why x.limits.connect_ms ∷ past) at) (Some c.number)) (sym same)
            (subst (λ w. Unused h at w (talk_in (Lost at why x.limits.connect_ms ∷ past) at) (Some c.number)) (sym (same_text x y server))
            (subst (λ u. Unused h at x.text.items u (Some c.number)) (sym talk) (ending, (a.lost.conn c e).0, bytes_of c.unsent, x.opened, now)))

-- ---- the end of one that can't be kept

-- what came over it is thrown away
pub line_away :
    {Is : Step → Type 0} {at : ℕ} {core : ServedCore} {h h' : List WireEvent} (x y : Link) (c d : Conn) (bytes : List ℕ) → x.conn ≡ None → x.draining ≡ Some c → y ≡ record x { draining = Some d } → d.number ≡ c.number
    → ReadsOn c.number [] bytes h h' → LineGoes Is at core h x core h' y
line_away {at = at} {h = h} {h' = h'} x y c d bytes none was is number r =
    line_moves refl (only_after c.number h h' r.elsewhere) (shut_used c.number r.elsewhere (conn_drains x none ∙ ap (option_map (λ (z : Conn). z.number)) was) (conn_drains y (ap (λ (z : Link). z.conn) is ∙ none) ∙ drains)) (ap address_and_limits is)
    (λ past a. (agrees past a, keeps_others c.number (1, at) h h' (before past a).4.is_to r.same_role r.elsewhere))
  where
    drains : drain_of y ≡ Some c.number
    drains = ap drain_of is ∙ ap (λ n. Some n) number

    before : (past : List Step) → LineAgrees at past h x → Unused h at x.text.items (talk_in past at) (Some c.number)
    before past a = subst (λ (o : Option Conn). Unused h at x.text.items (talk_in past at) (option_map (λ (z : Conn). z.number) o)) was (a.unused none)

    now : (past : List Step) → LineAgrees at past h x → Unused h' at x.text.items (talk_in past at) (Some c.number)
    now past a =
        let u = before past a in let t = talk_in past at in (
          u.0,
          u.1 ++ bytes,
          u.2,
          u.3,
          record {
            is_to = r.same_role ∙ u.4.is_to;
            begun_is = r.same_begin ∙ u.4.begun_is;
            sent_is = u.4.sent_is ∙ ap (λ l. l ++ u.2) (sym r.same_went);
            told_is = r.came ∙ ap (λ l. l ++ r.bytes) u.4.told_is ∙ append_assoc t.told u.1 r.bytes ∙ ap (λ l. t.told ++ (u.1 ++ l)) (sym r.held_is);
            out_is = u.4.out_is;
            awaits_is = u.4.awaits_is;
            dialect_is = u.4.dialect_is;
            late_is = u.4.late_is;
          },
        )

    agrees : (past : List Step) → LineAgrees at past h x → LineAgrees at past h' y
    agrees past a =
        let waits = sym (ap (λ (z : Link). z.waiting) is) in
        has_none at past h' y (ap (λ (z : Link). z.conn) is ∙ none) (subst (λ w. MayAllGo past at w) waits a.waiting) (subst (λ w. AreDue past at (said_asks w)) waits a.due) (subst (λ l. AllGivenUp past at l) (sym (ap (λ (z : Link). said_asks z.calls.sent.items) is)) (a.none_out none))
        (subst (Unused h' at y.text.items (talk_in past at)) (sym drains) (subst (λ w. Unused h' at w (talk_in past at) (Some c.number)) (sym (ap (λ (z : Link). z.text.items) is)) (now past a)))
        (subst (λ l. AreCalled past at l) (sym (ap (λ (z : Link). said_asks z.calls.sent.items) is)) a.called) (as_tried (ap (λ (z : Link). z.lost) is) refl a.tried)

-- it has ended, or failed, or is awaited no longer, and was closed for that
pub line_ends :
    {Is : Step → Type 0} {at : ℕ} {core : ServedCore} {h k h' : List WireEvent} (why : Option Cause) → ((limit : ℕ) → Is (Lost at why limit)) → standing_after why ≡ Apart → (x y : Link) (c : Conn) → x.conn ≡ None → x.draining ≡ Some c → y ≡ record x { draining = None }
    → ReadsOn c.number [] [] h k → ((limit : ℕ) (t : Talk) → t.stands ≡ Ending → ShowsWhy why limit t c.number k) → Closes c.number k h' → LineGoes Is at core h x core h' y
line_ends {Is} {at} {core} {h} {k} {h'} why kind apart x y c none was is r shows closes_it = record {
  steps = Lost at why x.limits.connect_ms ∷ [];
  kinds = (kind x.limits.connect_ms, tt);
  own = (refl, tt);
  walks = (core, refl, refl);
  agrees = λ past o tells a. ((tt, o), left past a, keeps_others c.number (1, at) h h' (before past a).4.is_to (closed_role c.number k h' closes_it ∙ r.same_role) only, λ j other n ask is. (refl, refl, refl));
  shown = λ past o tells a shown. (was_shown past a, shown_since past h h' (only_after c.number h h' only) shown);
  shut = shut_closed c.number only (closed_shut c.number k h' closes_it) (conn_drains x none ∙ ap (option_map (λ (z : Conn). z.number)) was);
  server = record { same = ap address_and_limits is; late = (refl, tt) };
}
  where
    only : TouchesOnly c.number h h'
    only = only_twice c.number h k h' r.elsewhere (only_closed c.number k h' closes_it)

    before : (past : List Step) → LineAgrees at past h x → Unused h at x.text.items (talk_in past at) (Some c.number)
    before past a = subst (λ (o : Option Conn). Unused h at x.text.items (talk_in past at) (option_map (λ (z : Conn). z.number) o)) was (a.unused none)

    talk : (past : List Step) → talk_in (Lost at why x.limits.connect_ms ∷ past) at ≡ given_up why (talk_in past at)
    talk past = ap (λ b. if b then given_up why (talk_in past at) else talk_in past at) (equal at)

    left : (past : List Step) → LineAgrees at past h x → LineAgrees at (Lost at why x.limits.connect_ms ∷ past) h' y
    left past a =
        has_none at (Lost at why x.limits.connect_ms ∷ past) h' y (ap (λ (z : Link). z.conn) is ∙ none)
        (calls_later (Lost at why x.limits.connect_ms ∷ []) past at y.waiting (subst (λ w. MayAllGo past at w) (sym (ap (λ (z : Link). z.waiting) is)) a.waiting))
        (due_stays past (Lost at why x.limits.connect_ms ∷ past) at (said_asks y.waiting) (λ n ask is. (refl, refl, refl)) (subst (λ w. AreDue past at (said_asks w)) (sym (ap (λ (z : Link). z.waiting) is)) a.due)) (
          ap (λ (t : Talk). t.out) (talk past),
          subst (AreGivenUp (Lost at why x.limits.connect_ms ∷ past)) (sym (ap (λ (z : Link). said_asks z.calls.sent.items) is)) (all_given_later (Lost at why x.limits.connect_ms ∷ []) past (said_asks x.calls.sent.items) (a.none_out none).1),
        )
        (subst (Unused h' at y.text.items (talk_in (Lost at why x.limits.connect_ms ∷ past) at)) (sym (ap drain_of is)) (ap (λ (t : Talk). t.stands) (talk past) ∙ apart))
        (called_stays past (Lost at why x.limits.connect_ms ∷ past) at (said_asks y.calls.sent.items) (λ n ask is. (refl, refl, refl)) (subst (λ l. AreCalled past at l) (sym (ap (λ (z : Link). said_asks z.calls.sent.items) is)) a.called))
        (as_tried (ap (λ (z : Link). z.lost) is) (ap (λ (t : Talk). t.failed) (talk past) ∙ ap (λ s. failed_after s (talk_in past at).failed) (before past a).0) a.tried)

    was_shown : (past : List Step) → LineAgrees at past h x → WasShown why x.limits.connect_ms at past h'
    was_shown past a =
        let u = before past a in let t = talk_in past at in record {
          conn = c.number;
          before = k;
          since = only_after c.number k h' (only_closed c.number k h' closes_it);
          begun = (x.text.items, u.3);
          held = u.1;
          unsent = u.2;
          agrees = record {
            is_to = r.same_role ∙ u.4.is_to;
            begun_is = r.same_begin ∙ u.4.begun_is;
            sent_is = u.4.sent_is ∙ ap (λ l. l ++ u.2) (sym r.same_went);
            told_is = r.came ∙ ap (λ l. delivered c.number h ++ l) (sym r.held_is) ∙ append-nil (delivered c.number h) ∙ u.4.told_is;
            out_is = refl;
            awaits_is = refl;
            dialect_is = refl;
            late_is = refl;
          };
          shows = shows x.limits.connect_ms t u.0;
        }

-- it had none in use, and has none then
pub line_shuts :
    {Before : ℕ → List Step → List WireEvent → Link → Type 0} {Is : Step → Type 0} {at : ℕ} {a b : ServedCore} {h h' : List WireEvent} {x y z : Link} → LineGoesFrom Before LineAgrees Is at a h x b h' y → y.conn ≡ None → z.conn ≡ None
    → z.draining ≡ y.draining → address_and_limits z ≡ address_and_limits y → z.waiting ≡ y.waiting → z.calls.sent.items ≡ y.calls.sent.items → z.lost ≡ y.lost → LineGoesFrom Before LineAgrees Is at a h x b h' z
line_shuts {at = at} {h' = h'} {x = x} {y = y} {z = z} g none closed draining server waiting sent lost = record {
  steps = g.steps;
  kinds = g.kinds;
  own = g.own;
  walks = g.walks;
  agrees = λ past o tells was. let r = g.agrees past o tells was in (
    r.0,
    has_none at (g.steps ++ past) h' z closed (subst (λ w. MayAllGo (g.steps ++ past) at w) (sym waiting) r.1.waiting) (subst (λ w. AreDue (g.steps ++ past) at (said_asks w)) (sym waiting) r.1.due) (subst (λ (l : List SentCall). AllGivenUp (g.steps ++ past) at (said_asks l)) (sym sent) (r.1.none_out none))
        (subst (λ t. Unused h' at t (talk_in (g.steps ++ past) at) (drain_of z)) (sym (same_text y z server)) (subst (λ (o : Option Conn). Unused h' at y.text.items (talk_in (g.steps ++ past) at) (option_map (λ (c : Conn). c.number) o)) (sym draining) (r.1.unused none)))
        (subst (λ (l : List SentCall). AreCalled (g.steps ++ past) at (said_asks l)) (sym sent) r.1.called) (as_tried lost refl r.1.tried),
    r.2,
    r.3,
  );
  shown = g.shown;
  shut = λ was. subst (λ o. IsShutBut (1, at) o h') (sym (conns_same y z (closed ∙ sym none) draining)) (g.shut was);
  server = server_then g.steps [] x y z g.server (record { same = server; late = tt });
}

failed_own : (at : ℕ) (steps : List Step) → StepsAreOf IsFailure steps → StepsAreOf (IsOfServer at) steps × StepsAreOf IsPlain steps
failed_own at [] kinds = (tt, tt)
failed_own at (Settled number outcome ∷ steps) kinds = let rest = failed_own at steps kinds.1 in ((tt, rest.0), (kinds.0, rest.1))
failed_own at (Opened client ∷ steps) kinds = absurd kinds.0
failed_own at (NotOpened fault ∷ steps) kinds = absurd kinds.0
failed_own at (Fed client piece ∷ steps) kinds = absurd kinds.0
failed_own at (Polled client poll ∷ steps) kinds = absurd kinds.0
failed_own at (Stopped client fault ∷ steps) kinds = absurd kinds.0
failed_own at (Gave client bytes ∷ steps) kinds = absurd kinds.0
failed_own at (Closed client ∷ steps) kinds = absurd kinds.0
failed_own at (LeftLine client ∷ steps) kinds = absurd kinds.0
failed_own at (Ticked now ∷ steps) kinds = absurd kinds.0
failed_own at (Broke client ∷ steps) kinds = absurd kinds.0
failed_own at (Loaded configuration generation ∷ steps) kinds = absurd kinds.0
failed_own at (Linked a dialect ∷ steps) kinds = absurd kinds.0
failed_own at (Asked a number dialect ask since ∷ steps) kinds = absurd kinds.0
failed_own at (Greeted a dialect bytes ∷ steps) kinds = absurd kinds.0
failed_own at (Noted a obstacle ∷ steps) kinds = absurd kinds.0
failed_own at (Late a number limit now ∷ steps) kinds = absurd kinds.0
failed_own at (CameLate a number ask answer bytes ∷ steps) kinds = absurd kinds.0
failed_own at (Spelled a number ask answer bytes ∷ steps) kinds = absurd kinds.0
failed_own at (Lost a why limit ∷ steps) kinds = absurd kinds.0

-- calls that fail, as a connection is given up
failed_giving : (why : Option Cause) (steps : List Step) → StepsAreOf IsFailure steps → StepsAreOf (IsGivingUp why) steps
failed_giving why [] kinds = tt
failed_giving why (step ∷ steps) kinds = (gives step kinds.0, failed_giving why steps kinds.1)
  where
    gives : (s : Step) → IsFailure s → IsGivingUp why s
    gives (Settled number outcome) is = is
    gives (Opened client) is = absurd is
    gives (NotOpened fault) is = absurd is
    gives (Fed client piece) is = absurd is
    gives (Polled client poll) is = absurd is
    gives (Stopped client fault) is = absurd is
    gives (Gave client bytes) is = absurd is
    gives (Closed client) is = absurd is
    gives (LeftLine client) is = absurd is
    gives (Ticked now) is = absurd is
    gives (Broke client) is = absurd is
    gives (Loaded configuration generation) is = absurd is
    gives (Linked a dialect) is = absurd is
    gives (Asked a number dialect ask since) is = absurd is
    gives (Greeted a dialect bytes) is = absurd is
    gives (Noted a obstacle) is = absurd is
    gives (Late a number limit now) is = absurd is
    gives (CameLate a number ask answer bytes) is = absurd is
    gives (Spelled a number ask answer bytes) is = absurd is
    gives (Lost a cause limit) is = absurd is

last_called : (past : List Step) (at : ℕ) (first later : List SentCall) → MayAllGo past at (first ++ later) → MayAllGo past at later
last_called past at [] later are = are
last_called past at (call ∷ first) later are = last_called past at first later are.1

-- without a connection in use none is in use
pub unused_apart : (h : List WireEvent) (at : ℕ) (text : List ℕ) (talk : Talk) (o : Option ℕ) → Unused h at text talk o → talk.stands ≢ InUse
unused_apart h at text talk None is = λ e. apart_used (sym is ∙ e)
  where
    apart_used : Apart ≡ InUse → ⊥
    apart_used e = cc
unused_apart h at text talk (Some c) is = λ e. ending_used (sym is.0 ∙ e)
  where
    ending_used : Ending ≡ InUse → ⊥
    ending_used e = cc

-- calls of it fail, while it has no connection: of those that were sent, and of those that wait, the first do
pub line_fails :
    {why : Option Cause} {at : ℕ} {core core' : ServedCore} {h : List WireEvent} (x y : Link) (mid : ServedCore) → FailsTo x.calls.sent.items y.calls.sent.items core mid → FailsTo x.waiting y.waiting mid core'
    → x.conn ≡ None → y.conn ≡ None → y.draining ≡ x.draining → address_and_limits y ≡ address_and_limits x → y.lost ≡ x.lost → LineGoes (IsGivingUp why) at core h x core' h y
line_fails {why} {at} {core} {core'} {h} x y mid sent waiting had none draining server lost = record {
  steps = w.steps ++ f.steps;
  kinds = failed_giving why (w.steps ++ f.steps) kinds;
  own = own.0;
  walks = walked w.steps f.steps core mid core' f.walks w.walks;
  agrees = λ past o tells a. (
    subst IsOrderly (sym (append_assoc w.steps f.steps past))
        (w.orderly (f.steps ++ past) (waiting_out (f.steps ++ past) at waiting.0 y.waiting (after_sent past a).due) (waiting_fail (f.steps ++ past) at waiting.0 y.waiting (subst (λ (t : Talk). t.stands ≢ InUse) (sym (plain_talk f.steps (failed_own at f.steps f.kinds).1 past at)) (unused_apart h at x.text.items (talk_in past at) (drain_of x) (a.unused had))) (after_sent past a).due) (ap (λ (t : Talk). t.out) (plain_talk f.steps (failed_own at f.steps f.kinds).1 past at) ∙ (a.none_out had).0)
        (f.orderly past (sent_out past at sent.0 y.calls.sent.items (called past a)) (sent_fail past (said_asks sent.0) (given past a).0) (a.none_out had).0 o)),
    has_none at ((w.steps ++ f.steps) ++ past) h y none (calls_later (w.steps ++ f.steps) past at y.waiting (last_called past at waiting.0 y.waiting (subst (λ l. MayAllGo past at l) waiting.1 a.waiting)))
        (left past a).due
        (ap (λ (t : Talk). t.out) (plain_talk (w.steps ++ f.steps) own.1 past at) ∙ (a.none_out had).0, all_given_later (w.steps ++ f.steps) past (said_asks y.calls.sent.items) (given past a).1)
        (subst (λ t. Unused h at t (talk_in ((w.steps ++ f.steps) ++ past) at) (drain_of y)) (sym (same_text x y server))
        (subst (λ (o : Option Conn). Unused h at x.text.items (talk_in ((w.steps ++ f.steps) ++ past) at) (option_map (λ (z : Conn). z.number) o)) (sym draining)
        (subst (λ u. Unused h at x.text.items u (drain_of x)) (sym (plain_talk (w.steps ++ f.steps) own.1 past at)) (a.unused had))))
        (left past a).called (as_tried lost (ap (λ (t : Talk). t.failed) (plain_talk (w.steps ++ f.steps) own.1 past at)) a.tried),
    all_kept (1, at) h h (quiet h),
    (left past a).others,
  );
  shown = λ past o tells a shown. shown_later (w.steps ++ f.steps) past h h (plain_unlost (w.steps ++ f.steps) own.1) (none_since h) shown;
  shut = shut_still (quiet h) (conns_same x y (none ∙ sym had) draining);
  server = record { same = server; late = unlost_late (λ i. Some x.limits) (w.steps ++ f.steps) (plain_unlost (w.steps ++ f.steps) own.1) };
}
  where
    f : FailsInOrder at sent.0 core mid
    f = fail_in_order at sent.0 core mid sent.2

    w : FailsInOrder at waiting.0 mid core'
    w = fail_in_order at waiting.0 mid core' waiting.2

    kinds : StepsAreOf IsFailure (w.steps ++ f.steps)
    kinds = of_both IsFailure w.steps f.steps w.kinds f.kinds

    own : StepsAreOf (IsOfServer at) (w.steps ++ f.steps) × StepsAreOf IsPlain (w.steps ++ f.steps)
    own = failed_own at (w.steps ++ f.steps) kinds

    called : (past : List Step) → LineAgrees at past h x → AreCalled past at (said_asks (sent.0 ++ y.calls.sent.items))
    called past a = subst (λ (l : List SentCall). AreCalled past at (said_asks l)) sent.1 a.called

    given : (past : List Step) → LineAgrees at past h x → AreGivenUp past (said_asks sent.0) × AreGivenUp past (said_asks y.calls.sent.items)
    given past a = given_parts past sent.0 y.calls.sent.items (subst (λ (l : List SentCall). AreGivenUp past (said_asks l)) sent.1 (a.none_out had).1)

    -- once those that were sent have failed, and then those that wait
    after_sent : (past : List Step) → LineAgrees at past h x → SentGone at past (f.steps ++ past) y.calls.sent.items (waiting.0 ++ y.waiting)
    after_sent past a = sent_gone at past (f.steps ++ past) sent.0 y.calls.sent.items (waiting.0 ++ y.waiting) (f.keeps past) (called past a) (subst (λ (l : List SentCall). AreDue past at (said_asks l)) waiting.1 a.due)

    left : (past : List Step) → LineAgrees at past h x → SentGone at past ((w.steps ++ f.steps) ++ past) y.calls.sent.items y.waiting
    left past a =
        let first = after_sent past a in
        let later = waiting_gone at (f.steps ++ past) (w.steps ++ (f.steps ++ past)) waiting.0 y.waiting y.calls.sent.items (w.keeps (f.steps ++ past)) first.due first.called in
        let both : SentGone at past (w.steps ++ (f.steps ++ past)) y.calls.sent.items y.waiting =
        record { called = later.called; due = later.due; others = leaves_twice at past (f.steps ++ past) (w.steps ++ (f.steps ++ past)) first.others later.others } in
        subst (λ l. SentGone at past l y.calls.sent.items y.waiting) (sym (append_assoc w.steps f.steps past)) both
