-- A look at the clock, as a step of a walk.
use Rattle.std.proofs.Common.{◌≡◌, ℕ, List, [], ◌∷◌, Option, Some, None, refl, sym, subst}
use Rattle.std.specs.Prelude.{IfSome}
use Rattle.mc_types.specs.declared.ask.Dialect.{Dialect}
use Rattle.serve_wire.specs.Events.{WireEvent, ticks}
use Rattle.core_accepted.specs.declared.served.ServedCore.{ServedCore}
use Rattle.serve_clients.specs.declared.clients.Client.{Client}
use Rattle.serve_clients.specs.declared.clients.Clients.{Clients}
use Rattle.serve_clients.specs.Marks.{client_of}
use Rattle.serve_clients.specs.Agrees.{EndAgrees, AllAgree}
use Rattle.serve_links.specs.declared.settings.Greeting.{Greeting}
use Rattle.serve_links.specs.declared.link.Link.{Link}
use Rattle.serve_links.specs.CoreSteps.{Step, Ticked, IsOfTurn}
use Rattle.serve_links.specs.Talks.{SaidAsk, Talk, talk_in}
use Rattle.serve_links.specs.Shut.{drain_of}
use Rattle.serve_links.specs.Story.{fed_in, gave_in, said_asks, TalkAgrees, Unused, LineAgrees, AllGo}
use Rattle.serve_links.proofs.Called.{walks_tell_calls}
use Rattle.serve_links.proofs.Due.{due_stays, called_stays}
use Rattle.serve_links.proofs.Showing.{shown_since}
use Rattle.serve_links.proofs.Talking.{calls_later, all_given_later}
use Rattle.serve_links.proofs.Story.{had_stays}
use Rattle.serve_proxy.proofs.Going.{agree_told}

-- ---- no connection is touched by it

client_ticks : (t : ℕ) (h : List WireEvent) (input output : ℕ → List ℕ) (id : ℕ) (x : Client) → EndAgrees h input output id x → EndAgrees (ticks t ∷ h) input output id x
client_ticks t h input output id x was = record {
  stands = λ is. let w = was.stands is in record { is_its = w.is_its; input_is = w.input_is; output_is = w.output_is };
  lost = λ is. let w = was.lost is in record { is_its = w.is_its; unread = w.unread; input_is = w.input_is; unsent = w.unsent; output_is = w.output_is };
  ended = was.ended;
}

clients_tick : (t : ℕ) (h : List WireEvent) (input output : ℕ → List ℕ) (cs : Clients) → AllAgree h input output cs → AllAgree (ticks t ∷ h) input output cs
clients_tick t h input output cs was id = by (client_of cs id) (was id)
  where
    by : (o : Option Client) → IfSome o (EndAgrees h input output id) → IfSome o (EndAgrees (ticks t ∷ h) input output id)
    by None a = tt
    by (Some x) a = client_ticks t h input output id x a

talk_ticks :
    (t : ℕ) {h : List WireEvent} {at : ℕ} {begun : List ℕ × ℕ} {talk : Talk} {c : ℕ} {held unsent : List ℕ} {out : List SaidAsk} {awaits : Option Greeting} {dialect : Dialect} {late : List SaidAsk}
    → TalkAgrees h at begun talk c held unsent out awaits dialect late → TalkAgrees (ticks t ∷ h) at begun talk c held unsent out awaits dialect late
talk_ticks t was = record { is_to = was.is_to; begun_is = was.begun_is; sent_is = was.sent_is; told_is = was.told_is; out_is = was.out_is; awaits_is = was.awaits_is; dialect_is = was.dialect_is; late_is = was.late_is }

unused_ticks : (t : ℕ) (h : List WireEvent) (at : ℕ) (text : List ℕ) (talk : Talk) (o : Option ℕ) → Unused h at text talk o → Unused (ticks t ∷ h) at text talk o
unused_ticks t h at text talk None was = was
unused_ticks t h at text talk (Some c) was = (was.0, was.1, was.2, was.3, talk_ticks t was.4)

line_ticks : (t at : ℕ) (past : List Step) (h : List WireEvent) (link : Link) → LineAgrees at past h link → LineAgrees at (Ticked t ∷ past) (ticks t ∷ h) link
line_ticks t at past h link was = record {
  conn = λ conn is. talk_ticks t (was.conn conn is);
  goes_on = was.goes_on;
  waiting = calls_later (Ticked t ∷ []) past at link.waiting was.waiting;
  due = due_stays past (Ticked t ∷ past) at (said_asks link.waiting) (λ n ask is. (refl, refl, refl)) was.due;
  none_out = λ none. ((was.none_out none).0, all_given_later (Ticked t ∷ []) past (said_asks link.calls.sent.items) (was.none_out none).1);
  unused = λ none. unused_ticks t h at link.text.items (talk_in past at) (drain_of link) (was.unused none);
  called = called_stays past (Ticked t ∷ past) at (said_asks link.calls.sent.items) (λ n ask is. (refl, refl, refl)) was.called;
  used = was.used;
  tried = was.tried;
}

-- ---- all ends

-- the clock was looked at, and showed this
pub ticked :
    (t : ℕ) (h h' : List WireEvent) {cs : Clients} {ls : List Link} → h' ≡ ticks t ∷ h → (core : ServedCore)
    → AllGo IsOfTurn (record { core = core; history = h; clients = cs; links = ls }) (record { core = core; history = h'; clients = cs; links = ls })
ticked t h h' {cs} {ls} is core = subst (λ (k : List WireEvent). AllGo IsOfTurn (record { core = core; history = h; clients = cs; links = ls }) (record { core = core; history = k; clients = cs; links = ls })) (sym is) (record {
  steps = Ticked t ∷ [];
  kinds = (tt, tt);
  walks = (core, refl, refl);
  agree = λ past was. record {
    orderly = (tt, was.orderly);
    calls = (walks_tell_calls.goes_on (Ticked t ∷ []) past core core was.calls (core, refl, refl)).0;
    clients = agree_told (ticks t ∷ h) (fed_in past) (gave_in past) (fed_in (Ticked t ∷ past)) (gave_in (Ticked t ∷ past)) cs (λ j. (refl, refl)) (clients_tick t h (fed_in past) (gave_in past) cs was.clients);
    told = was.told;
    links = λ at link there. line_ticks t at past h link (was.links at link there);
    gone = λ conn id of_id. had_stays past (Ticked t ∷ []) h (ticks t ∷ h) cs cs id conn (refl, refl, refl) refl (was.gone conn id of_id);
    shown = (tt, shown_since past h (ticks t ∷ h) (ticks t ∷ [], refl) was.shown);
    unlinked = was.unlinked;
    shut = record { clients = was.shut.clients; links = was.shut.links; nobodys = was.shut.nobodys };
    clock = refl;
  };
  servers = record { same = refl; late = (tt, tt) };
})
