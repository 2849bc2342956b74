-- How the ends of a proxy go on, one after another.
use Rattle.std.proofs.Common.{◌≡◌, ◌≢◌, ℕ, ◌≤◌, Bool, true, false, List, [], ◌∷◌, ◌++◌, Option, Some, None, refl, sym, ap, ◌∙◌, subst, inl, inr, append_assoc, append-nil}
use Rattle.std.specs.Prelude.{IfSome, nat_eq, slice_get}
use Rattle.std.specs.Option.{option_map, option_flatten}
use Rattle.std.proofs.lemmas.Bool.{cases_Bool, eq-eqb, eqb-true}
use Rattle.mc_types.specs.declared.ask.Ask.{Ask}
use Rattle.mc_types.specs.declared.ask.Dialect.{Dialect}
use Rattle.wire_parts.specs.Sending.{bytes_of}
use Rattle.serve_wire.specs.Events.{WireEvent, role, delivered, taken}
use Rattle.serve_wire.specs.Agreement.{ClientLost, IsUntouched}
use Rattle.serve_wire.proofs.Steps.{apart, only_after, only_time}
use Rattle.core_proxy.specs.declared.note.Poll.TheVariants as polls
use Rattle.serve_clients.specs.declared.clients.Client.{Client}
use Rattle.serve_clients.specs.declared.clients.Clients.{Clients}
use Rattle.serve_clients.specs.Agrees.{EndAgrees, AllAgree}
use Rattle.serve_clients.proofs.Agreeing.{its, state_stays, client_lost}
use Rattle.serve_clients.specs.Marks.{client_of}
use Rattle.serve_links.specs.declared.settings.Greeting.{Greeting}
use Rattle.serve_links.specs.declared.link.Link.{Link}
use Rattle.serve_links.specs.CoreSteps.{Step, Polled, StepsAreOf, IsSending}
use Rattle.serve_links.specs.Talks.{SaidAsk, Talk, Apart, talk_in, AreDue, AreCalled}
use Rattle.serve_links.specs.Story.{address_and_opened, fed_in, gave_in, ClientAgreesWith, ClientIsTold, ClientsAreTold, TellsNone, TookAll, ClientEndsBy, IsGone, HasOrHad, TalkAgrees, Unused, said_asks, StayOut, LineAgrees, LinesAgree, servers_of, OneGoes, LineGoesFrom, LineGoes, AnEnd, Agrees, AgreesBut, AgreesCalled, AllGoFrom, AllGo, StoriesGoOn}
use Rattle.serve_links.specs.Called.{TellsCallsOut, GiveOnce}
use Rattle.serve_links.proofs.Called.{walks_tell_calls}
use Rattle.serve_links.proofs.Talking.{calls_later, all_given_later, IsPlain, clients_plain, plain_talk, clients_orderly, clients_clock, server_tells_none, server_clock, sending_clock, sending_given, talk_elsewhere}
use Rattle.serve_links.proofs.Due.{due_stays, called_stays, clients_stay}
use Rattle.serve_links.proofs.Showing.{plain_unlost, shown_later}
use Rattle.serve_links.proofs.ByLimits.{servers_same, servers_then, clients_servers, line_servers}
use Rattle.serve_links.specs.Shut.{drain_of, conn_of, link_conn, IsShutBut, AreShut}
use Rattle.serve_links.proofs.Shutting.{shut_line, shut_client}
use Rattle.serve_links.proofs.Walked.{walked, of_both}

-- ---- one end

-- what is told of a client is the same
told_same : (h : List WireEvent) (input output input' output' : ℕ → List ℕ) (id : ℕ) (x : Client) → input' id ≡ input id → output' id ≡ output id → EndAgrees h input output id x → EndAgrees h input' output' id x
told_same h input output input' output' id x fed gave a =
    record {
      stands = λ is. let was = a.stands is in record { is_its = was.is_its; input_is = was.input_is ∙ ap (λ l. l ++ x.conn.held.items) (sym fed); output_is = gave ∙ was.output_is };
      lost = λ is. let was = a.lost is in record { is_its = was.is_its; unread = was.unread; input_is = was.input_is ∙ ap (λ l. l ++ was.unread) (sym fed); unsent = was.unsent; output_is = gave ∙ was.output_is };
      ended = a.ended;
    }

-- an end that nothing touched, and of which nothing more was told
end_stays :
    (h h' : List WireEvent) (input output input' output' : ℕ → List ℕ) (id : ℕ) (x : Client) → IsUntouched x.conn.number h h' → input' id ≡ input id → output' id ≡ output id
    → EndAgrees h input output id x → EndAgrees h' input' output' id x
end_stays h h' input output input' output' id x same fed gave a =
    told_same h' input output input' output' id x fed gave (state_stays h h' input output id x.conn.number x.conn.held.items (bytes_of x.conn.unsent) x.is_broken x.is_ended same a)

at_client : (h : List WireEvent) (input output : ℕ → List ℕ) (clients : Clients) (id : ℕ) (x : Client) → client_of clients id ≡ Some x → AllAgree h input output clients → EndAgrees h input output id x
at_client h input output clients id x is all = subst (λ o. IfSome o (EndAgrees h input output id)) is (all id)

each_client : (h : List WireEvent) (input output : ℕ → List ℕ) (clients : Clients) → ((id : ℕ) (x : Client) → client_of clients id ≡ Some x → EndAgrees h input output id x) → AllAgree h input output clients
each_client h input output clients each id = by (client_of clients id) refl
  where
    by : (o : Option Client) → client_of clients id ≡ o → IfSome o (EndAgrees h input output id)
    by None e = tt
    by (Some x) e = each id x e

-- how an end stands is told still where nothing more was told of it
pub told_still : (past steps : List Step) (id : ℕ) (x y : Client) → TellsNone id past steps → y.is_broken ≡ x.is_broken → ClientIsTold past id x → ClientIsTold (steps ++ past) id y
told_still past steps id x y none same was = (none.2 ∙ was.0, none.3 ∙ was.1 ∙ sym same)

pub at_told : (past : List Step) (clients : Clients) (id : ℕ) (x : Client) → client_of clients id ≡ Some x → ClientsAreTold past clients → ClientIsTold past id x
at_told past clients id x is all = subst (λ o. IfSome o (ClientIsTold past id)) is (all id)

pub each_told : (past : List Step) (clients : Clients) → ((id : ℕ) (x : Client) → client_of clients id ≡ Some x → ClientIsTold past id x) → ClientsAreTold past clients
each_told past clients each id = by (client_of clients id) refl
  where
    by : (o : Option Client) → client_of clients id ≡ o → IfSome o (ClientIsTold past id)
    by None e = tt
    by (Some x) e = each id x e

-- of all, where nothing more was told of any
pub all_told : (past steps : List Step) (clients : Clients) → ((j : ℕ) → TellsNone j past steps) → ClientsAreTold past clients → ClientsAreTold (steps ++ past) clients
all_told past steps clients none was = each_told (steps ++ past) clients (λ j z there. told_still past steps j z z (none j) refl (at_told past clients j z there was))

-- a connection that nothing touched, and of which nothing more was told
pub talk_stays :
    (h h' : List WireEvent) (at : ℕ) (begun : List ℕ × ℕ) (t t' : Talk) (c : ℕ) (held unsent : List ℕ) (out : List SaidAsk) (awaits : Option Greeting) (dialect : Dialect) {late : List SaidAsk} → IsUntouched c h h' → t' ≡ t
    → TalkAgrees h at begun t c held unsent out awaits dialect late → TalkAgrees h' at begun t' c held unsent out awaits dialect late
talk_stays h h' at begun t t' c held unsent out awaits dialect same e was = record {
  is_to = same.same_role ∙ was.is_to;
  begun_is = same.same_begin ∙ was.begun_is;
  sent_is = ap (λ (x : Talk). x.sent) e ∙ was.sent_is ∙ ap (λ l. l ++ unsent) (sym same.same_went);
  told_is = same.same_came ∙ was.told_is ∙ ap (λ (x : Talk). x.told ++ held) (sym e);
  out_is = ap (λ (x : Talk). x.out) e ∙ was.out_is;
  awaits_is = ap (λ (x : Talk). x.awaits) e ∙ was.awaits_is;
  dialect_is = ap (λ (x : Talk). x.dialect) e ∙ was.dialect_is;
  late_is = ap (λ (x : Talk). x.late) e ∙ was.late_is;
}

-- the same of one that isn't in use
pub unused_stays : (h h' : List WireEvent) (at : ℕ) (text : List ℕ) (t t' : Talk) (o : Option ℕ) → ((c : ℕ) → role c h ≡ Some (1, at) → IsUntouched c h h') → t' ≡ t → Unused h at text t o → Unused h' at text t' o
unused_stays h h' at text t t' o same e was = subst (λ u. Unused h' at text u o) (sym e) (by o was)
  where
    by : (p : Option ℕ) → Unused h at text t p → Unused h' at text t p
    by None apart = apart
    by (Some c) ending = (ending.0, ending.1, ending.2, ending.3, talk_stays h h' at (text, ending.3) t t c ending.1 ending.2 t.out t.awaits t.dialect (same c ending.4.is_to) refl ending.4)

-- a link whose connections nothing touched, and of whose server nothing more was told, and whose calls are as they were
pub line_stays_by :
    (h h' : List WireEvent) (at : ℕ) (steps past : List Step) (link : Link) → ((c : ℕ) → role c h ≡ Some (1, at) → IsUntouched c h h') → talk_in (steps ++ past) at ≡ talk_in past at → AreDue (steps ++ past) at (said_asks link.waiting)
    → AreCalled (steps ++ past) at (said_asks link.calls.sent.items) → LineAgrees at past h link → LineAgrees at (steps ++ past) h' link
line_stays_by h h' at steps past link same told due called was = record {
  conn = λ conn is.
      talk_stays h h' at (address_and_opened link) (talk_in past at) (talk_in (steps ++ past) at) conn.number conn.held.items (bytes_of conn.unsent) (said_asks link.calls.sent.items) link.awaits_dialect link.dialect (same conn.number (was.conn conn is).is_to) told (was.conn conn is);
  goes_on = λ conn is. (same conn.number (was.conn conn is).is_to).same_over ∙ was.goes_on conn is;
  waiting = calls_later steps past at link.waiting was.waiting;
  due = due;
  none_out = λ none. (ap (λ (t : Talk). t.out) told ∙ (was.none_out none).0, all_given_later steps past (said_asks link.calls.sent.items) (was.none_out none).1);
  unused = λ none. unused_stays h h' at link.text.items (talk_in past at) (talk_in (steps ++ past) at) (drain_of link) same told (was.unused none);
  called = called;
  used = λ conn is. ap (λ (t : Talk). t.stands) told ∙ was.used conn is;
  tried = subst (λ n. link.lost ≤ n) (ap (λ (t : Talk). t.failed) (sym told)) was.tried;
}

-- so they are where they stay out
pub line_stays :
    (h h' : List WireEvent) (at : ℕ) (steps past : List Step) (link : Link) → ((c : ℕ) → role c h ≡ Some (1, at) → IsUntouched c h h') → talk_in (steps ++ past) at ≡ talk_in past at → StayOut at past (steps ++ past)
    → LineAgrees at past h link → LineAgrees at (steps ++ past) h' link
line_stays h h' at steps past link same told stay was =
    line_stays_by h h' at steps past link same told (due_stays past (steps ++ past) at (said_asks link.waiting) stay was.due) (called_stays past (steps ++ past) at (said_asks link.calls.sent.items) stay was.called) was

-- where no link is, and nothing more was told
pub unlinked_stays : {t t' : Talk} → t' ≡ t → (t.out ≡ []) × (t.stands ≡ Apart) → (t'.out ≡ []) × (t'.stands ≡ Apart)
unlinked_stays same was = (ap (λ (z : Talk). z.out) same ∙ was.0, ap (λ (z : Talk). z.stands) same ∙ was.1)

-- ---- connections of clients

-- whose a connection is, and what came over it and went, is the same
abbrev pub TellsSame : ℕ → List WireEvent → List WireEvent → Type 0
TellsSame d h h' = (role d h' ≡ role d h) × (delivered d h' ≡ delivered d h) × (taken d h' ≡ taken d h)

pub same_told : (d : ℕ) (h h' : List WireEvent) → IsUntouched d h h' → TellsSame d h h'
same_told d h h' same = (same.same_role, same.same_came, same.same_went)

lost_told : (h h' : List WireEvent) (input output : ℕ → List ℕ) (id conn : ℕ) → TellsSame conn h h' → ClientLost h input output id conn → ClientLost h' input output id conn
lost_told h h' input output id conn same was = record {
  is_its = same.0 ∙ was.is_its;
  unread = was.unread;
  input_is = same.1 ∙ was.input_is;
  unsent = was.unsent;
  output_is = was.output_is ∙ ap (λ l. l ++ was.unsent) (sym same.2);
}

-- all was taken still
took_told : (past : List Step) (h h' : List WireEvent) (id conn : ℕ) → TellsSame conn h h' → TookAll past h id conn → TookAll past h' id conn
took_told past h h' id conn same (inl all) = inl (all ∙ sym same.2)
took_told past h h' id conn same (inr broken) = inr broken

ends_told : (last : Step) (past : List Step) (h h' : List WireEvent) (id conn : ℕ) → TellsSame conn h h' → ClientEndsBy last past h id conn → ClientEndsBy last past h' id conn
ends_told last past h h' id conn same (inl closed) = inl (closed.0, closed.1, took_told past h h' id conn same closed.2)
ends_told last past h h' id conn same (inr opened) = inr opened

-- what is known of one that is gone stays known
pub gone_stays : (past steps : List Step) (h h' : List WireEvent) (id conn : ℕ) → TellsSame conn h h' → IsGone past h id conn → IsGone (steps ++ past) h' id conn
gone_stays past steps h h' id conn same gone = record {
  later = steps ++ gone.later;
  last = gone.last;
  earlier = gone.earlier;
  ends = ends_told gone.last gone.earlier h h' id conn same gone.ends;
  parts = ap (λ l. steps ++ l) gone.parts ∙ sym (append_assoc steps gone.later (gone.last ∷ gone.earlier));
  lost = lost_told h h' (fed_in gone.earlier) (gave_in gone.earlier) id conn same gone.lost;
}

-- what is left of an end that agrees
end_lost : (h : List WireEvent) (input output : ℕ → List ℕ) (id : ℕ) (x : Client) → EndAgrees h input output id x → ClientLost h input output id x.conn.number
end_lost h input output id x was = by x.is_broken refl
  where
    by : (b : Bool) → x.is_broken ≡ b → ClientLost h input output id x.conn.number
    by false e = client_lost h input output id x.conn.number x.conn.held.items (bytes_of x.conn.unsent) (was.stands e)
    by true e = was.lost e

-- where nothing is unsent, all was taken, or the end is broken off
pub took_all : (past : List Step) (h : List WireEvent) (id : ℕ) (x : Client) → ClientAgreesWith past h id x → ClientIsTold past id x → bytes_of x.conn.unsent ≡ [] → TookAll past h id x.conn.number
took_all past h id x was told none = by x.is_broken refl
  where
    by : (b : Bool) → x.is_broken ≡ b → TookAll past h id x.conn.number
    by false e = inl ((was.stands e).output_is ∙ ap (λ l. taken x.conn.number h ++ l) none ∙ append-nil (taken x.conn.number h))
    by true e = inr (told.1 ∙ e)

-- the client whose end this was is gone by this call
pub end_gone :
    (past steps : List Step) (last : Step) (h h' : List WireEvent) (id conn : ℕ) (x : Client) → ClientEndsBy last past h id conn → ClientAgreesWith past h id x → x.conn.number ≡ conn → TellsSame conn h h'
    → IsGone (steps ++ last ∷ past) h' id conn
end_gone past steps last h h' id conn x ends was is same = record {
  later = steps;
  last = last;
  earlier = past;
  ends = ends_told last past h h' id conn same ends;
  parts = refl;
  lost = lost_told h h' (fed_in past) (gave_in past) id conn same (subst (λ c. ClientLost h (fed_in past) (gave_in past) id c) is (end_lost h (fed_in past) (gave_in past) id x was));
}

-- and of one over which nothing came or went, where the client's end has the number that it had
pub had_stays :
    (past steps : List Step) (h h' : List WireEvent) (cs cs' : Clients) (id conn : ℕ) → TellsSame conn h h' → option_map (λ (x : Client). x.conn.number) (client_of cs' id) ≡ option_map (λ (x : Client). x.conn.number) (client_of cs id)
    → HasOrHad past h cs id conn → HasOrHad (steps ++ past) h' cs' id conn
had_stays past steps h h' cs cs' id conn same ends (inl now) = inl (ends ∙ now)
had_stays past steps h h' cs cs' id conn same ends (inr (inl unused)) = inr (inl (same.1 ∙ unused.0, same.2 ∙ unused.1))
had_stays past steps h h' cs cs' id conn same ends (inr (inr gone)) = inr (inr (gone_stays past steps h h' id conn same gone))

-- ---- whose connections are apart

client_apart : (i j : ℕ) → nat_eq i j ≡ false → ◌≢◌ {A = ℕ × ℕ} (0, j) (0, i)
client_apart i j other e = bools (sym other ∙ eq-eqb i j (sym (ap (λ (p : ℕ × ℕ). p.1) e)))
  where
    bools : false ≡ true → ⊥
    bools f = cc

kinds_apart : (i j : ℕ) → ◌≢◌ {A = ℕ × ℕ} (0, i) (1, j)
kinds_apart i j e = numbers (ap (λ (p : ℕ × ℕ). p.0) e)
  where
    numbers : ◌≡◌ {A = ℕ} 0 1 → ⊥
    numbers f = cc

links_apart : (i j : ℕ) → nat_eq i j ≡ false → ◌≢◌ {A = ℕ × ℕ} (1, j) (1, i)
links_apart i j other e = bools (sym other ∙ eq-eqb i j (sym (ap (λ (p : ℕ × ℕ). p.1) e)))
  where
    bools : false ≡ true → ⊥
    bools f = cc

same_some : {X : Type 0} (x y : X) → Some x ≡ Some y → x ≡ y
same_some x y e = cc

same_client : (i j : ℕ) → ◌≡◌ {A = Option (ℕ × ℕ)} (Some (0, i)) (Some (0, j)) → i ≡ j
same_client i j e = ap (λ (p : ℕ × ℕ). p.1) (same_some (0, i) (0, j) e)

-- ---- one end among all

-- one client's end goes on, and the others are as they were
pub one_agrees :
    {Is : Step → Type 0} (id : ℕ) (old new : AnEnd) (x y : Client) → client_of old.clients id ≡ Some x → client_of new.clients id ≡ Some y
    → ((j : ℕ) → nat_eq id j ≡ false → client_of new.clients j ≡ client_of old.clients j) → new.links ≡ old.links
    → (g : OneGoes Is id old.core old.history x new.core new.history y) (past : List Step) → Agrees past old → Agrees (g.steps ++ past) new
one_agrees {Is} id old new x y was is others links g = agree
  where
    h : List WireEvent
    h = old.history

    h' : List WireEvent
    h' = new.history

    was_of : (past : List Step) → Agrees past old → (j : ℕ) (z : Client) → client_of old.clients j ≡ Some z → ClientAgreesWith past h j z
    was_of past a j z there = at_client h (fed_in past) (gave_in past) old.clients j z there a.clients

    client : (past : List Step) → Agrees past old → (j : ℕ) (z : Client) → client_of new.clients j ≡ Some z → ClientAgreesWith (g.steps ++ past) h' j z
    client past a j z there = elim (cases_Bool (nat_eq id j)) [ inl e ↦ mine (eqb-true id j e) | inr e ↦ other e ]
      where
        mine : id ≡ j → ClientAgreesWith (g.steps ++ past) h' j z
        mine e =
            let z_is : y ≡ z = same_some y z (sym is ∙ ap (client_of new.clients) e ∙ there) in
            subst (λ k. ClientAgreesWith (g.steps ++ past) h' k z) e (subst (λ c. ClientAgreesWith (g.steps ++ past) h' id c) z_is (g.agrees past (was_of past a id x was)))

        other : nat_eq id j ≡ false → ClientAgreesWith (g.steps ++ past) h' j z
        other e =
            let mine_was = was_of past a id x was in let was_z = was_of past a j z (sym (others j e) ∙ there) in let told = g.others past j e in
            let apart_is = apart x.conn.number z.conn.number h (0, id) (0, j) (its h (fed_in past) (gave_in past) id x mine_was) (its h (fed_in past) (gave_in past) j z was_z) (λ same. client_apart id j e (sym same)) in
            end_stays h h' (fed_in past) (gave_in past) (fed_in (g.steps ++ past)) (gave_in (g.steps ++ past)) j z (g.only z.conn.number apart_is) told.0 told.1 was_z

    told : (past : List Step) → Agrees past old → (j : ℕ) (z : Client) → client_of new.clients j ≡ Some z → ClientIsTold (g.steps ++ past) j z
    told past a j z there = elim (cases_Bool (nat_eq id j)) [ inl e ↦ mine (eqb-true id j e) | inr e ↦ told_still past g.steps j z z (g.others past j e) refl (at_told past old.clients j z (sym (others j e) ∙ there) a.told) ]
      where
        mine : id ≡ j → ClientIsTold (g.steps ++ past) j z
        mine e =
            let z_is : y ≡ z = same_some y z (sym is ∙ ap (client_of new.clients) e ∙ there) in
            subst (λ k. ClientIsTold (g.steps ++ past) k z) e (subst (λ c. ClientIsTold (g.steps ++ past) id c) z_is (g.told past (at_told past old.clients id x was a.told)))

    plain : StepsAreOf IsPlain g.steps
    plain = clients_plain g.steps g.own

    tells : (past : List Step) → Agrees past old → TellsCallsOut (g.steps ++ past) new.core × GiveOnce g.steps past
    tells past a = walks_tell_calls.goes_on g.steps past old.core new.core a.calls g.walks

    lines : (past : List Step) → Agrees past old → LinesAgree (g.steps ++ past) h' new.links
    lines past a at link there =
        let was_there = ap (λ (ls : List Link). slice_get ls at) (sym links) ∙ there in let was_l = a.links at link was_there in
        line_stays h h' at g.steps past link (λ c of_c. g.only c (apart x.conn.number c h (0, id) (1, at) (its h (fed_in past) (gave_in past) id x (was_of past a id x was)) of_c (kinds_apart id at)))
        (plain_talk g.steps plain past at) (clients_stay at g.steps g.own past (tells past a).1) was_l

    numbers : (j : ℕ) → option_map (λ (z : Client). z.conn.number) (client_of new.clients j) ≡ option_map (λ (z : Client). z.conn.number) (client_of old.clients j)
    numbers j = elim (cases_Bool (nat_eq id j)) [ inl e ↦ mine (eqb-true id j e) | inr e ↦ ap (option_map (λ (z : Client). z.conn.number)) (others j e) ]
      where
        number_of : Option Client → Option ℕ
        number_of o = option_map (λ (z : Client). z.conn.number) o

        mine : id ≡ j → option_map (λ (z : Client). z.conn.number) (client_of new.clients j) ≡ option_map (λ (z : Client). z.conn.number) (client_of old.clients j)
        mine e = subst (λ k. option_map (λ (z : Client). z.conn.number) (client_of new.clients k) ≡ option_map (λ (z : Client). z.conn.number) (client_of old.clients k)) e (ap number_of is ∙ ap (λ n. Some n) g.number ∙ sym (ap number_of was))

    gone : (past : List Step) → Agrees past old → (conn j : ℕ) → role conn h' ≡ Some (0, j) → HasOrHad (g.steps ++ past) h' new.clients j conn
    gone past a conn j its_now = elim (cases_Bool (nat_eq x.conn.number conn)) [ inl e ↦ mine (eqb-true x.conn.number conn e) | inr e ↦ other e ]
      where
        mine : x.conn.number ≡ conn → HasOrHad (g.steps ++ past) h' new.clients j conn
        mine e =
            let its_y = its h' (fed_in (g.steps ++ past)) (gave_in (g.steps ++ past)) id y (g.agrees past (was_of past a id x was)) in
            let here : y.conn.number ≡ conn = g.number ∙ e in
            let same : id ≡ j = same_client id j (sym its_y ∙ ap (λ d. role d h') here ∙ its_now) in
            inl (ap (λ k. option_map (λ (z : Client). z.conn.number) (client_of new.clients k)) (sym same) ∙ ap (option_map (λ (z : Client). z.conn.number)) is ∙ ap (λ n. Some n) here)

        other : nat_eq x.conn.number conn ≡ false → HasOrHad (g.steps ++ past) h' new.clients j conn
        other e = let same = g.only conn e in had_stays past g.steps h h' old.clients new.clients j conn (same_told conn h h' same) (numbers j) (a.gone conn j (sym same.same_role ∙ its_now))

    shut : (past : List Step) → Agrees past old → AreShut h' new.clients new.links
    shut past a =
        let its_y = its h' (fed_in (g.steps ++ past)) (gave_in (g.steps ++ past)) id y (g.agrees past (was_of past a id x was)) in
        shut_client id x.conn.number (ap (λ n. role n h') (sym g.number) ∙ its_y) g.only (ap (option_map (λ (z : Client). z.conn.number)) is ∙ ap (λ n. Some n) g.number) numbers (λ j. ap (λ ls. link_conn ls j) links) a.shut

    agree : (past : List Step) → Agrees past old → Agrees (g.steps ++ past) new
    agree past a = record {
      orderly = clients_orderly g.steps g.own past (tells past a).1 a.orderly;
      calls = (tells past a).0;
      clients = each_client h' (fed_in (g.steps ++ past)) (gave_in (g.steps ++ past)) new.clients (client past a);
      told = each_told (g.steps ++ past) new.clients (told past a);
      links = lines past a;
      gone = gone past a;
      shown = shown_later g.steps past h h' (plain_unlost g.steps plain) (only_after x.conn.number h h' g.only) a.shown;
      unlinked = λ at none. unlinked_stays (plain_talk g.steps plain past at) (a.unlinked at (ap (λ (ls : List Link). slice_get ls at) (sym links) ∙ none));
      shut = shut past a;
      clock = clients_clock g.steps g.own past ∙ a.clock ∙ sym (only_time x.conn.number h h' g.only);
    }

pub one_of_all :
    {Is : Step → Type 0} (id : ℕ) (old new : AnEnd) (x y : Client) → client_of old.clients id ≡ Some x → client_of new.clients id ≡ Some y
    → ((j : ℕ) → nat_eq id j ≡ false → client_of new.clients j ≡ client_of old.clients j) → new.links ≡ old.links
    → OneGoes Is id old.core old.history x new.core new.history y → AllGo Is old new
one_of_all id old new x y was is others links g = record { steps = g.steps; kinds = g.kinds; walks = g.walks; agree = one_agrees id old new x y was is others links g; servers = clients_servers g.steps old.links new.links g.own (ap servers_of links) }

-- one link's end goes on, and the others are as they were
pub line_among :
    {Before After : ℕ → List Step → List WireEvent → Link → Type 0} {Is : Step → Type 0} (at : ℕ) (old new : AnEnd) (x y : Link) → slice_get old.links at ≡ Some x → slice_get new.links at ≡ Some y
    → ((j : ℕ) → nat_eq at j ≡ false → slice_get new.links j ≡ slice_get old.links j) → servers_of new.links ≡ servers_of old.links → ((j : ℕ) → client_of new.clients j ≡ client_of old.clients j)
    → LineGoesFrom Before After Is at old.core old.history x new.core new.history y → AllGoFrom (AgreesBut Before at) (AgreesBut After at) Is old new
line_among {Before} {After} {Is} at old new x y was is others servers clients_are g = record { steps = g.steps; kinds = g.kinds; walks = g.walks; agree = agree; servers = line_servers at g.steps old.links new.links x y was servers g.own g.server }
  where
    h : List WireEvent
    h = old.history

    h' : List WireEvent
    h' = new.history

    client : (past : List Step) → AgreesBut Before at past old → (j : ℕ) (z : Client) → client_of new.clients j ≡ Some z → ClientAgreesWith (g.steps ++ past) h' j z
    client past a j z there =
        let was_z = at_client h (fed_in past) (gave_in past) old.clients j z (sym (clients_are j) ∙ there) a.clients in let told = server_tells_none at g.steps g.own past j in
        let keeps = (g.agrees past a.orderly a.calls (a.this x was)).2 in
        end_stays h h' (fed_in past) (gave_in past) (fed_in (g.steps ++ past)) (gave_in (g.steps ++ past)) j z (keeps.were z.conn.number (0, j) (its h (fed_in past) (gave_in past) j z was_z) (kinds_apart j at)) told.0 told.1 was_z

    other : (past : List Step) → AgreesBut Before at past old → (j : ℕ) (z : Link) → nat_eq at j ≡ false → slice_get new.links j ≡ Some z → LineAgrees j (g.steps ++ past) h' z
    other past a j z e there =
        let was_z = a.links j z e (sym (others j e) ∙ there) in
        let goes = g.agrees past a.orderly a.calls (a.this x was) in
        line_stays h h' j g.steps past z (λ c of_c. goes.2.were c (1, j) of_c (links_apart at j e)) (talk_elsewhere at g.steps g.own past j e) (goes.3 j e) was_z

    gone : (past : List Step) → AgreesBut Before at past old → (conn j : ℕ) → role conn h' ≡ Some (0, j) → HasOrHad (g.steps ++ past) h' new.clients j conn
    gone past a conn j its_now =
        let same = (g.agrees past a.orderly a.calls (a.this x was)).2.are conn (λ e. kinds_apart j at (same_some (0, j) (1, at) (sym its_now ∙ e))) in
        had_stays past g.steps h h' old.clients new.clients j conn (same_told conn h h' same) (ap (option_map (λ (z : Client). z.conn.number)) (clients_are j)) (a.gone conn j (sym same.same_role ∙ its_now))

    at_conn : (ls : List Link) (z : Link) → slice_get ls at ≡ Some z → link_conn ls at ≡ conn_of z
    at_conn ls z there = ap (λ o. option_flatten (option_map conn_of o)) there

    unlinked : (past : List Step) → AgreesBut Before at past old → (j : ℕ) → slice_get new.links j ≡ None → ((talk_in (g.steps ++ past) j).out ≡ []) × ((talk_in (g.steps ++ past) j).stands ≡ Apart)
    unlinked past a j none = elim (cases_Bool (nat_eq at j)) [ inl e ↦ absurd (none_is_some (sym none ∙ ap (slice_get new.links) (sym (eqb-true at j e)) ∙ is)) | inr e ↦ unlinked_stays (talk_elsewhere at g.steps g.own past j e) (a.unlinked j (sym (others j e) ∙ none)) ]
      where
        none_is_some : {z : Link} → None ≡ Some z → ⊥
        none_is_some e = cc

    agree : (past : List Step) → AgreesBut Before at past old → AgreesBut After at (g.steps ++ past) new
    agree past a = let goes = g.agrees past a.orderly a.calls (a.this x was) in record {
      orderly = goes.0;
      calls = (walks_tell_calls.goes_on g.steps past old.core new.core a.calls g.walks).0;
      clients = each_client h' (fed_in (g.steps ++ past)) (gave_in (g.steps ++ past)) new.clients (client past a);
      told = each_told (g.steps ++ past) new.clients (λ j z there. told_still past g.steps j z z (server_tells_none at g.steps g.own past j) refl (at_told past old.clients j z (sym (clients_are j) ∙ there) a.told));
      links = other past a;
      this = λ link there. subst (After at (g.steps ++ past) h') (same_some y link (sym is ∙ there)) goes.1;
      gone = gone past a;
      shown = g.shown past a.orderly a.calls (a.this x was) a.shown;
      unlinked = unlinked past a;
      shut = shut_line at goes.2 (λ was_shut. subst (λ o. IsShutBut (1, at) o h') (sym (at_conn new.links y is)) (g.shut (subst (λ o. IsShutBut (1, at) o h) (at_conn old.links x was) was_shut)))
          (λ j e. ap (λ o. option_flatten (option_map conn_of o)) (others j e)) (λ j. ap (option_map (λ (z : Client). z.conn.number)) (clients_are j)) a.shut;
      clock = server_clock at g.steps g.own past ∙ a.clock ∙ sym goes.2.clock;
    }

-- where the link at one place agrees like the others, all agree
pub but_all : (at : ℕ) (past : List Step) (x : AnEnd) → AgreesBut LineAgrees at past x → Agrees past x
but_all at past x a = record { orderly = a.orderly; calls = a.calls; clients = a.clients; told = a.told; links = λ j link there. elim (cases_Bool (nat_eq at j)) [ inl e ↦ mine j link there (eqb-true at j e) | inr e ↦ a.links j link e there ]; gone = a.gone; shown = a.shown; unlinked = a.unlinked; shut = a.shut; clock = a.clock }
  where
    mine : (j : ℕ) (link : Link) → slice_get x.links j ≡ Some link → at ≡ j → LineAgrees j past x.history link
    mine j link there e = subst (λ k. LineAgrees k past x.history link) e (a.this link (ap (slice_get x.links) e ∙ there))

-- and where none is there
pub but_none : {This : ℕ → List Step → List WireEvent → Link → Type 0} (at : ℕ) (past : List Step) (x : AnEnd) → slice_get x.links at ≡ None → AgreesBut This at past x → Agrees past x
but_none at past x none a = record { orderly = a.orderly; calls = a.calls; clients = a.clients; told = a.told; links = λ j link there. elim (cases_Bool (nat_eq at j)) [ inl e ↦ absurd (nobody (sym none ∙ ap (slice_get x.links) (eqb-true at j e) ∙ there)) | inr e ↦ a.links j link e there ]; gone = a.gone; shown = a.shown; unlinked = a.unlinked; shut = a.shut; clock = a.clock }
  where
    nobody : {link : Link} → None ≡ Some link → ⊥
    nobody e = cc

pub all_but : (at : ℕ) (past : List Step) (x : AnEnd) → Agrees past x → AgreesBut LineAgrees at past x
all_but at past x a = record { orderly = a.orderly; calls = a.calls; clients = a.clients; told = a.told; links = λ j link e there. a.links j link there; this = λ link there. a.links at link there; gone = a.gone; shown = a.shown; unlinked = a.unlinked; shut = a.shut; clock = a.clock }

-- what is wanted before is there, and what is there after is more than is wanted
pub go_between :
    {P P' Q Q' : List Step → AnEnd → Type 0} {Is : Step → Type 0} {a b : AnEnd} → ((past : List Step) → P' past a → P past a) → ((past : List Step) → Q past b → Q' past b) → AllGoFrom P Q Is a b
    → AllGoFrom P' Q' Is a b
go_between before after g = record { steps = g.steps; kinds = g.kinds; walks = g.walks; agree = λ past was. after (g.steps ++ past) (g.agree past (before past was)); servers = g.servers }

pub line_of_all :
    {Is : Step → Type 0} (at : ℕ) (old new : AnEnd) (x y : Link) → slice_get old.links at ≡ Some x → slice_get new.links at ≡ Some y
    → ((j : ℕ) → nat_eq at j ≡ false → slice_get new.links j ≡ slice_get old.links j) → servers_of new.links ≡ servers_of old.links → ((j : ℕ) → client_of new.clients j ≡ client_of old.clients j)
    → LineGoes Is at old.core old.history x new.core new.history y → AllGo Is old new
line_of_all at old new x y was is others servers clients_are g = go_between (λ past a. all_but at past old a) (λ past a. but_all at past new a) (line_among at old new x y was is others servers clients_are g)

-- ---- one after another

-- nothing was done
pub all_still : {Is : Step → Type 0} (old new : AnEnd) → new ≡ old → AllGo Is old new
all_still {Is} old new same = subst (λ x. AllGo Is old x) (sym same) (record { steps = []; kinds = tt; walks = refl; agree = λ past a. a; servers = servers_same old.links old.links refl })

pub from_then : {P Q R : List Step → AnEnd → Type 0} {Is : Step → Type 0} (a b c : AnEnd) → AllGoFrom P Q Is a b → AllGoFrom Q R Is b c → AllGoFrom P R Is a c
from_then {P} {Q} {R} {Is} a b c g k =
    record {
      steps = k.steps ++ g.steps;
      kinds = of_both Is k.steps g.steps k.kinds g.kinds;
      walks = walked k.steps g.steps a.core b.core c.core g.walks k.walks;
      agree = λ past was. subst (λ l. R l c) (sym (append_assoc k.steps g.steps past)) (k.agree (g.steps ++ past) (g.agree past was));
      servers = servers_then g.steps k.steps a.links b.links c.links g.servers k.servers;
    }

pub all_then : {Is : Step → Type 0} (a b c : AnEnd) → AllGo Is a b → AllGo Is b c → AllGo Is a c
all_then a b c g k = from_then a b c g k

-- what the core gave out for a server stays so, and all would agree if it hadn't
pub still_called : {a b : AnEnd} (number at : ℕ) (ask : Ask) → AllGo IsSending a b → AllGoFrom (AgreesCalled number at ask) (AgreesCalled number at ask) IsSending a b
still_called {a = a} {b = b} number at ask g = record {
  steps = g.steps;
  kinds = g.kinds;
  walks = g.walks;
  agree = λ past was. let call = was.1 in (
    g.agree past was.0,
    record {
      client = call.client;
      ticket = call.ticket;
      number_is = call.number_is;
      server_is = call.server_is;
      ask_is = call.ask_is;
      later = g.steps ++ call.later;
      earlier = call.earlier;
      was = ap (λ l. g.steps ++ l) call.was ∙ sym (append_assoc g.steps call.later (Polled call.client (polls.Call call.ticket) ∷ call.earlier));
    },
    subst (λ l. Agrees l b) (sym (append_assoc g.steps call.later call.earlier)) (g.agree (call.later ++ call.earlier) was.2),
    sending_given g.steps g.kinds past number ∙ was.3 ∙ sym (sending_clock g.steps g.kinds past),
  );
  servers = g.servers;
}

-- the laws, by calls of any kind
pub stories_go_on : (Is : Step → Type 0) → StoriesGoOn Is
stories_go_on Is = record {
  still = λ x. all_still x x refl;
  both = λ a b c g k. all_then a b c g k;
  one = λ id old new x y was is others links g. one_of_all id old new x y was is others links g;
  line = λ at old new x y was is others servers clients g. line_of_all at old new x y was is others servers clients g;
}
