-- Clients' ends that begin and end, and what the core gave for one.
use Rattle.std.proofs.Common.{◌≡◌, ◌≢◌, ◌⊎◌, inl, inr, ℕ, zero, suc, Bool, true, false, if◌then◌else◌, List, [], ◌∷◌, ◌++◌, length, Option, Some, None, Result, Ok, Err, refl, sym, ap, ◌∙◌, subst, append_assoc, append-nil, arith}
use Rattle.std.proofs.lemmas.Bool.{cases_eq, cases_Bool, eq-eqb, eqb-true}
use Rattle.std.specs.Prelude.{◌==◌, ◌||◌, nat_eq, IfSome, IfErr, OnOk, slice_get, slice_set}
use Rattle.std.specs.Option.{option_map, option_flatten}
use Rattle.fresh_runs.specs.Overlap as log
use Rattle.wire_parts.specs.Sending.{bytes_of}
use Rattle.serve_wire.specs.Events.{WireEvent, admits, looks_up, accepts, role, delivered, taken, is_open, time, IsUntold}
use Rattle.serve_wire.specs.Agreement.{Extends, TouchesOnly, IsUntouched}
use Rattle.serve_wire.specs.Calls.{Closes}
use Rattle.serve_wire.proofs.Steps.{equal, unequal, apart, new_apart, untouched, untouched_twice, only_admits, only_accepts, only_after, extends_twice, only_time, none_looks_up}
use Rattle.serve_wire.proofs.Touching.{only_same, only_closed}
use Rattle.core_proxy.specs.declared.fault.CoreFault.{CoreFault}
use Rattle.core_proxy.specs.Faults.{OutputFault}
use Rattle.core_proxy.specs.CoreState.{GivesAll, client_at, output_by}
use Rattle.core_accepted.specs.Logs.{LogsGoBy}
use Rattle.core_accepted.specs.declared.served.ServedCore.{ServedCore}
use Rattle.serve_clients.specs.declared.clients.Client.{Client}
use Rattle.serve_clients.specs.declared.clients.Clients.{Clients}
use Rattle.serve_clients.specs.Marks.{client_of}
use Rattle.serve_clients.specs.Agrees.{end_said_of, Breaks, StateAgrees, EndAgrees, GoesOnAgreeing, AllAgree}
use Rattle.serve_clients.proofs.Agreeing.{its, keeps_none, state_stays, state_breaks}
use Rattle.serve_clients.proofs.Marked.{kept}
use Rattle.serve_links.specs.declared.link.Link.{Link}
use Rattle.serve_links.specs.CoreSteps.{Step, Opened, Gave, Closed, Does, StepsAreOf, GoesBy, IsOfTurn}
use Rattle.serve_links.specs.Story.{fed_in, gave_in, is_open_in, is_broken_in, ClientIsTold, ClientsAreTold, TookAll, IsJustGiven, IsGone, IsUnused, HasOrHad, StayOut, LinesAgree, OneGoes, Agrees, AgreesGiven, AllGoFrom, AllGo}
use Rattle.serve_links.specs.Shut.{client_conn}
use Rattle.serve_links.proofs.Shutting.{closed_shut, shut_without, shut_opened, shut_turned}
use Rattle.serve_links.proofs.ByLimits.{servers_same, clients_servers}
use Rattle.serve_links.proofs.Showing.{plain_unlost, shown_later}
use Rattle.serve_links.specs.Talks.{IsOfClients}
use Rattle.serve_links.specs.Called.{TellsCallsOut, GiveOnce}
use Rattle.serve_links.proofs.Called.{walks_tell_calls}
use Rattle.serve_links.proofs.Due.{clients_stay}
use Rattle.serve_links.proofs.Talking.{IsPlain, plain_talk, clients_orderly, clients_clock}
use Rattle.serve_links.proofs.Story.{at_told, all_told, took_all, TellsSame, same_told, gone_stays, end_gone, had_stays, line_stays, unlinked_stays}
use Rattle.serve_links.proofs.Walked.{walked, of_both}
use Rattle.serve_proxy.specs.Ends.{EndsStay, EndsGo, IsAllSent, IsAllSentTo, IsClosing, MayAdmit}
use Rattle.serve_proxy.proofs.Going.{IsSilent, tells_none, silent_turn, silent_plain, silent_clients, lines_told, agree_told, had_quiet, gave_one, gave_broken, gave_state, more_given, one_touched, one_breaks, same_agrees, same_client}

-- ---- what happened on no connection

pub stay_same : (h h' : List WireEvent) (cs : Clients) (ls : List Link) → h' ≡ h → EndsStay h h' cs cs ls ls
stay_same h h' cs ls same = record { quiet = λ d. subst (IsUntouched d h) (sym same) (untouched d h); clients = keeps_none cs; links = refl }

pub stay_looks_up : (text : List ℕ) (h h' : List WireEvent) (cs : Clients) (ls : List Link) → h' ≡ looks_up text ∷ h → EndsStay h h' cs cs ls ls
stay_looks_up text h h' cs ls is = record { quiet = λ d. subst (IsUntouched d h) (sym is) (none_looks_up text d h); clients = keeps_none cs; links = refl }

-- who was accepted is nobody's client yet
pub accepted_role : (c : ℕ) (h h' : List WireEvent) → IsUntold c h × (h' ≡ accepts c ∷ h) → role c h' ≡ None
accepted_role c h h' is = ap (role c) is.1 ∙ is.0.no_role

pub accepted_only : (c : ℕ) (h h' : List WireEvent) → h' ≡ accepts c ∷ h → TouchesOnly c h h'
accepted_only c h h' is = subst (TouchesOnly c h) (sym is) (only_accepts c h)

-- ---- clients among all

-- an end that nothing touched, and of which nothing more was told
end_moved :
    (h h' : List WireEvent) (input output input' output' : ℕ → List ℕ) (id : ℕ) (x : Client) → IsUntouched x.conn.number h h' → input' id ≡ input id → output' id ≡ output id
    → EndAgrees h input output id x → EndAgrees h' input' output' id x
end_moved h h' input output input' output' id x same fed gave was =
    let a = state_stays h h' input output id x.conn.number x.conn.held.items (bytes_of x.conn.unsent) x.is_broken x.is_ended same was in
    record {
      stands = λ is. let w = a.stands is in record { is_its = w.is_its; input_is = w.input_is ∙ ap (λ l. l ++ x.conn.held.items) (sym fed); output_is = gave ∙ w.output_is };
      lost = λ is. let w = a.lost is in record { is_its = w.is_its; unread = w.unread; input_is = w.input_is ∙ ap (λ l. l ++ w.unread) (sym fed); unsent = w.unsent; output_is = gave ∙ w.output_is };
      ended = a.ended;
    }

if_moved :
    (h h' : List WireEvent) (input output input' output' : ℕ → List ℕ) (id : ℕ) (o : Option Client) → ((c : ℕ) → role c h ≡ Some (0, id) → IsUntouched c h h') → input' id ≡ input id → output' id ≡ output id
    → IfSome o (EndAgrees h input output id) → IfSome o (EndAgrees h' input' output' id)
if_moved h h' input output input' output' id None same fed gave was = tt
if_moved h h' input output input' output' id (Some x) same fed gave was = end_moved h h' input output input' output' id x (same x.conn.number (its h input output id x was)) fed gave was

-- what touches no server's connection leaves all links as they were
lines_apart :
    (h h' : List WireEvent) (steps past : List Step) (ls : List Link) → ((d at : ℕ) → role d h ≡ Some (1, at) → IsUntouched d h h') → StepsAreOf IsPlain steps → ((at : ℕ) → StayOut at past (steps ++ past)) → LinesAgree past h ls → LinesAgree (steps ++ past) h' ls
lines_apart h h' steps past ls only plain stay was at link there =
    line_stays h h' at steps past link (λ c of_c. only c at of_c) (plain_talk steps plain past at) (stay at) (was at link there)

-- what touches a new connection alone, which isn't open then, leaves all clients as they were, too: one was turned away
pub new_touched : {h h' : List WireEvent} {cs : Clients} {ls : List Link} (c : ℕ) → role c h ≡ None → role c h' ≡ None → is_open c h' ≡ false → TouchesOnly c h h' → EndsGo h h' cs cs ls ls
new_touched {h} {h'} {cs} {ls} c none none_now shut only = λ core. record {
  steps = [];
  kinds = tt;
  walks = refl;
  agree = λ past was. record {
    clients = λ j. if_moved h h' (fed_in past) (gave_in past) (fed_in past) (gave_in past) j (client_of cs j) (λ d of_d. only d (new_apart c d h (0, j) of_d none)) refl refl (was.clients j);
    orderly = was.orderly;
    calls = was.calls;
    told = was.told;
    links = lines_apart h h' [] past ls (λ d at of_d. only d (new_apart c d h (1, at) of_d none)) tt (λ at n ask is. (refl, refl, refl)) was.links;
    gone = λ conn id is. had_quiet past [] h h' cs cs id conn (only conn (new_apart c conn h' (0, id) is none_now)) refl is was.gone;
    shown = shown_later [] past h h' tt (only_after c h h' only) was.shown;
    shut = shut_turned c shut only was.shut;
    unlinked = was.unlinked;
    clock = was.clock ∙ sym (only_time c h h' only);
  };
  servers = servers_same ls ls refl;
}

none_is : {n : ℕ} → ◌≡◌ {A = Option ℕ} None (Some n) → ⊥
none_is e = cc

number_is : {m n : ℕ} → ◌≡◌ {A = Option ℕ} (Some m) (Some n) → m ≡ n
number_is e = cc

-- what is told of a connection doesn't change when one is closed
closed_tells : (c d : ℕ) (h h' : List WireEvent) → Closes c h h' → TellsSame d h h'
closed_tells c d h h' (inl closed) = (ap (role d) closed, ap (delivered d) closed, ap (taken d) closed)
closed_tells c d h h' (inr same) = (ap (role d) same.0, ap (delivered d) same.0, ap (taken d) same.0)

tells_twice : (d : ℕ) (h h' h'' : List WireEvent) → TellsSame d h h' → TellsSame d h' h'' → TellsSame d h h''
tells_twice d h h' h'' a b = (b.0 ∙ a.0, b.1 ∙ a.1, b.2 ∙ a.2)

-- the connection of a client was closed, if there was one
pub record IsDropped (kept : Option ℕ) (h h' : List WireEvent) : Type 0 where
  pub some : IfSome kept (λ c. Closes c h h')
  pub none : kept ≡ None → h' ≡ h

pub dropped_tells : (kept : Option ℕ) (d : ℕ) (h h' : List WireEvent) → IsDropped kept h h' → TellsSame d h h'
dropped_tells None d h h' q = let same = q.none refl in (ap (role d) same, ap (delivered d) same, ap (taken d) same)
dropped_tells (Some c) d h h' q = closed_tells c d h h' q.some

dropped_after : (kept : Option ℕ) (h h' : List WireEvent) → IsDropped kept h h' → Extends h h'
dropped_after None h h' q = ([], q.none refl)
dropped_after (Some c) h h' q = only_after c h h' (only_closed c h h' q.some)

dropped_time : (kept : Option ℕ) (h h' : List WireEvent) → IsDropped kept h h' → time h' ≡ time h
dropped_time None h h' q = ap time (q.none refl)
dropped_time (Some c) h h' q = only_time c h h' (only_closed c h h' q.some)

-- a connection that is open still is another one
dropped_opens : (kept : Option ℕ) (d : ℕ) (h h' : List WireEvent) → IsDropped kept h h' → is_open d h' ≡ true → (is_open d h ≡ true) × (kept ≢ Some d)
dropped_opens None d h h' q on = (sym (ap (is_open d) (q.none refl)) ∙ on, λ e. none_is e)
dropped_opens (Some c) d h h' q on = elim (cases_Bool (nat_eq c d)) [ inl e ↦ absurd (false_true (sym (closed_shut c h h' q.some) ∙ ap (λ k. is_open k h') (eqb-true c d e) ∙ on)) | inr e ↦ (sym (only_closed c h h' q.some d e).same_open ∙ on, λ is. false_true (sym e ∙ eq-eqb c d (number_is is))) ]
  where
    false_true : false ≡ true → ⊥
    false_true f = cc

-- no connection of another was touched
dropped_only :
    (id : ℕ) (o : Option Client) (h h' : List WireEvent) → IsDropped (option_map (λ (x : Client). x.conn.number) o) h h' → IfSome o (λ x. role x.conn.number h ≡ Some (0, id))
    → (d : ℕ) (p : ℕ × ℕ) → role d h ≡ Some p → p ≢ (0, id) → IsUntouched d h h'
dropped_only id None h h' q is d p of_d other = subst (IsUntouched d h) (sym (q.none refl)) (untouched d h)
dropped_only id (Some x) h h' q is d p of_d other = only_closed x.conn.number h h' q.some d (apart x.conn.number d h (0, id) p is of_d (λ same. other (sym same)))

-- a client was opened under this id for a peer that was just accepted: the end of that id is gone, if there was one, and the new one has begun, or is not there
pub opened_go :
    {h h1 h2 h' : List WireEvent} {cs cs' : Clients} {ls : List Link} (id c : ℕ) (b last : ServedCore) → IsUntold c h → h1 ≡ accepts c ∷ h → IsDropped (client_conn cs id) h1 h2 → TouchesOnly c h2 h' → IsUnused c h'
    → (is_open c h' ≡ true → (client_conn cs' id ≡ Some c) × (role c h' ≡ Some (0, id))) → ((j : ℕ) → j ≢ id → client_of cs' j ≡ client_of cs j)
    → IfSome (client_of cs' id) (EndAgrees h' (λ j. []) (λ j. []) id) → IfSome (client_of cs' id) (λ x. x.is_broken ≡ false) → GoesBy IsSilent b last → (before : ServedCore) → Does (Opened id) before b
    → AllGo IsOfTurn (record { core = before; history = h; clients = cs; links = ls }) (record { core = last; history = h'; clients = cs'; links = ls })
opened_go {h} {h1} {h2} {h'} {cs} {cs'} {ls} id c b last new is dropped only unused own others begun stood q before does = record {
  steps = q.steps ++ Opened id ∷ [];
  kinds = of_both IsOfTurn q.steps (Opened id ∷ []) (silent_turn q.steps q.kinds) (tt, tt);
  walks = walked q.steps (Opened id ∷ []) before b last (before, refl, does) q.walks;
  agree = λ past was. subst (λ l. Agrees l (record { core = last; history = h'; clients = cs'; links = ls })) (sym (append_assoc q.steps (Opened id ∷ []) past)) (record {
    clients = agree_told h' (fed_in (Opened id ∷ past)) (gave_in (Opened id ∷ past)) (fed_in (q.steps ++ Opened id ∷ past)) (gave_in (q.steps ++ Opened id ∷ past)) cs' (λ j. let t = tells_none q.steps q.kinds (Opened id ∷ past) j in (t.0, t.1)) (mid past was.clients);
    told = all_told (Opened id ∷ past) q.steps cs' (tells_none q.steps q.kinds (Opened id ∷ past)) (told_mid past was.told);
    orderly = clients_orderly q.steps (silent_clients q.steps q.kinds) (Opened id ∷ past) (tells_calls past was).1 (tt, was.orderly);
    calls = (tells_calls past was).0;
    links = lines_told h' q.steps (Opened id ∷ past) ls (silent_plain q.steps q.kinds) (λ at. clients_stay at q.steps (silent_clients q.steps q.kinds) (Opened id ∷ past) (tells_calls past was).1) (lines_apart h h' (Opened id ∷ []) past ls (λ d at of_d. apart_of past was.clients d (1, at) of_d (λ e. one_zero (ap (λ (p : ℕ × ℕ). p.0) e))) (tt, tt) (λ at n ask is. (refl, refl, refl)) was.links);
    gone = gone past was;
    shown = shown_later q.steps (Opened id ∷ past) h' h' (plain_unlost q.steps (silent_plain q.steps q.kinds)) ([], refl) (shown_later (Opened id ∷ []) past h h' (tt, tt) after was.shown);
    shut = shut_opened id c (λ d e. (tells d e).0) opens own (λ j other. ap (option_map (λ (x : Client). x.conn.number)) (others j other)) (λ j. refl) was.shut;
    unlinked = λ at none. unlinked_stays (plain_talk q.steps (silent_plain q.steps q.kinds) (Opened id ∷ past) at) (was.unlinked at none);
    clock = clients_clock q.steps (silent_clients q.steps q.kinds) (Opened id ∷ past) ∙ was.clock ∙ sym same_time;
  });
  servers = clients_servers (q.steps ++ Opened id ∷ []) ls ls (of_both IsOfClients q.steps (Opened id ∷ []) (silent_clients q.steps q.kinds) (tt, tt)) refl;
}
  where
    -- the core has those calls out that are told to be
    had : (past : List Step) → Agrees past (record { core = before; history = h; clients = cs; links = ls }) → TellsCallsOut (Opened id ∷ past) b
    had past was = (walks_tell_calls.goes_on (Opened id ∷ []) past before b was.calls (before, refl, does)).0

    tells_calls : (past : List Step) → Agrees past (record { core = before; history = h; clients = cs; links = ls }) → TellsCallsOut (q.steps ++ Opened id ∷ past) last × GiveOnce q.steps (Opened id ∷ past)
    tells_calls past was = walks_tell_calls.goes_on q.steps (Opened id ∷ past) b last (had past was) q.walks

    one_zero : ◌≡◌ {A = ℕ} 1 0 → ⊥
    one_zero e = cc

    accepted : TouchesOnly c h h1
    accepted = accepted_only c h h1 is

    tells : (d : ℕ) → nat_eq c d ≡ false → TellsSame d h h'
    tells d e = tells_twice d h h1 h' (same_told d h h1 (accepted d e)) (tells_twice d h1 h2 h' (dropped_tells (client_conn cs id) d h1 h2 dropped) (same_told d h2 h' (only d e)))

    opens : (d : ℕ) → nat_eq c d ≡ false → is_open d h' ≡ true → (is_open d h ≡ true) × (client_conn cs id ≢ Some d)
    opens d e on = let o = dropped_opens (client_conn cs id) d h1 h2 dropped (sym (only d e).same_open ∙ on) in (sym (accepted d e).same_open ∙ o.0, o.1)

    same_time : time h' ≡ time h
    same_time = only_time c h2 h' only ∙ dropped_time (client_conn cs id) h1 h2 dropped ∙ only_time c h h1 accepted

    after : Extends h h'
    after = extends_twice h h1 h' (only_after c h h1 accepted) (extends_twice h1 h2 h' (dropped_after (client_conn cs id) h1 h2 dropped) (only_after c h2 h' only))

    apart_of : (past : List Step) → AllAgree h (fed_in past) (gave_in past) cs → (d : ℕ) (p : ℕ × ℕ) → role d h ≡ Some p → p ≢ (0, id) → IsUntouched d h h'
    apart_of past was d p of_d other =
        let e = new_apart c d h p of_d new.no_role in
        untouched_twice d h h1 h' (accepted d e) (untouched_twice d h1 h2 h' (dropped_only id (client_of cs id) h1 h2 dropped (by (client_of cs id) (was id)) d p ((accepted d e).same_role ∙ of_d) other) (only d e))
      where
        by : (o : Option Client) → IfSome o (EndAgrees h (fed_in past) (gave_in past) id) → IfSome o (λ x. role x.conn.number h1 ≡ Some (0, id))
        by None a = tt
        by (Some x) a = let its_it = its h (fed_in past) (gave_in past) id x a in (accepted x.conn.number (new_apart c x.conn.number h (0, id) its_it new.no_role)).same_role ∙ its_it

    gone : (past : List Step) → Agrees past (record { core = before; history = h; clients = cs; links = ls }) → (conn j : ℕ) → role conn h' ≡ Some (0, j) → HasOrHad (q.steps ++ Opened id ∷ past) h' cs' j conn
    gone past was conn j is = elim (cases_Bool (nat_eq c conn)) [ inl e ↦ subst (λ k. HasOrHad (q.steps ++ Opened id ∷ past) h' cs' j k) (eqb-true c conn e) (inr (inl unused)) | inr e ↦ old (tells conn e) ]
      where
        old : TellsSame conn h h' → HasOrHad (q.steps ++ Opened id ∷ past) h' cs' j conn
        old told = by (cases_eq j id)
          where
            was_known : HasOrHad past h cs j conn
            was_known = was.gone conn j (sym told.0 ∙ is)

            of_opened : (o : Option Client) → client_of cs j ≡ o → j ≡ id → HasOrHad past h cs j conn → HasOrHad (q.steps ++ Opened id ∷ past) h' cs' j conn
            of_opened None e here (inl now) = absurd (none_is (sym (ap (option_map (λ (x : Client). x.conn.number)) e) ∙ now))
            of_opened (Some x) e here (inl now) =
                inr (inr (end_gone past q.steps (Opened id) h h' j conn x (inr (ap (λ k. Opened k) (sym here), (subst (λ o. IfSome o (ClientIsTold past j)) e (was.told j)).0)) (subst (λ o. IfSome o (EndAgrees h (fed_in past) (gave_in past) j)) e (was.clients j)) (number_is (sym (ap (option_map (λ (x : Client). x.conn.number)) e) ∙ now)) told))
            of_opened o e here (inr (inl none)) = inr (inl (told.1 ∙ none.0, told.2 ∙ none.1))
            of_opened o e here (inr (inr more)) = inr (inr (subst (λ l. IsGone l h' j conn) (append_assoc q.steps (Opened id ∷ []) past) (gone_stays past (q.steps ++ Opened id ∷ []) h h' j conn told more)))

            by : (j ≡ id) ⊎ (j ≢ id) → HasOrHad (q.steps ++ Opened id ∷ past) h' cs' j conn
            by (inl here) = of_opened (client_of cs j) refl here was_known
            by (inr other) =
                subst (λ l. HasOrHad l h' cs' j conn) (append_assoc q.steps (Opened id ∷ []) past)
                (had_stays past (q.steps ++ Opened id ∷ []) h h' cs cs' j conn told (ap (option_map (λ (x : Client). x.conn.number)) (others j other)) was_known)

    told_mid : (past : List Step) → ClientsAreTold past cs → ClientsAreTold (Opened id ∷ past) cs'
    told_mid past was j = by (cases_eq j id)
      where
        of_new : (o : Option Client) → IfSome o (λ x. x.is_broken ≡ false) → IfSome o (ClientIsTold (Opened id ∷ past) id)
        of_new None is = tt
        of_new (Some x) is = (ap (λ (t : Bool). if t then true else is_open_in past id) (same_client id), ap (λ (t : Bool). if t then false else is_broken_in past id) (same_client id) ∙ sym is)

        of_other : nat_eq id j ≡ false → (o : Option Client) → IfSome o (ClientIsTold past j) → IfSome o (ClientIsTold (Opened id ∷ past) j)
        of_other e None told = tt
        of_other e (Some x) told = (ap (λ (t : Bool). if t then true else is_open_in past j) e ∙ told.0, ap (λ (t : Bool). if t then false else is_broken_in past j) e ∙ told.1)

        by : (j ≡ id) ⊎ (j ≢ id) → IfSome (client_of cs' j) (ClientIsTold (Opened id ∷ past) j)
        by (inl here) = subst (λ k. IfSome (client_of cs' k) (ClientIsTold (Opened id ∷ past) k)) (sym here) (of_new (client_of cs' id) stood)
        by (inr other) = subst (λ o. IfSome o (ClientIsTold (Opened id ∷ past) j)) (sym (others j other)) (of_other (unequal id j (λ e. other (sym e))) (client_of cs j) (was j))

    mid : (past : List Step) → AllAgree h (fed_in past) (gave_in past) cs → AllAgree h' (fed_in (Opened id ∷ past)) (gave_in (Opened id ∷ past)) cs'
    mid past was j = by (cases_eq j id)
      where
        of_new : (t : Bool) (l : List ℕ) → t ≡ true → (if t then [] else l) ≡ []
        of_new true l e = refl
        of_new false l e = absurd cc

        of_other : (t : Bool) (l : List ℕ) → t ≡ false → (if t then [] else l) ≡ l
        of_other false l e = refl
        of_other true l e = absurd cc

        by : (j ≡ id) ⊎ (j ≢ id) → IfSome (client_of cs' j) (EndAgrees h' (fed_in (Opened id ∷ past)) (gave_in (Opened id ∷ past)) j)
        by (inl here) =
            subst (λ k. IfSome (client_of cs' k) (EndAgrees h' (fed_in (Opened id ∷ past)) (gave_in (Opened id ∷ past)) k)) (sym here)
            (if_moved h' h' (λ k. []) (λ k. []) (fed_in (Opened id ∷ past)) (gave_in (Opened id ∷ past)) id (client_of cs' id) (λ d of_d. untouched d h') (of_new (nat_eq id id) (fed_in past id) (same_client id)) (of_new (nat_eq id id) (gave_in past id) (same_client id)) begun)
        by (inr other) =
            let apart_is = unequal id j (λ e. other (sym e)) in
            subst (λ o. IfSome o (EndAgrees h' (fed_in (Opened id ∷ past)) (gave_in (Opened id ∷ past)) j)) (sym (others j other))
            (if_moved h h' (fed_in past) (gave_in past) (fed_in (Opened id ∷ past)) (gave_in (Opened id ∷ past)) j (client_of cs j) (λ d of_d. apart_of past was d (0, j) of_d (λ e. other (ap (λ (p : ℕ × ℕ). p.1) e))) (of_other (nat_eq id j) (fed_in past j) apart_is) (of_other (nat_eq id j) (gave_in past j) apart_is) (was j))

-- what a new end has
pub new_said : (x : Client) (c : ℕ) → x.conn.number ≡ c → (x.conn.held.items ≡ []) × (bytes_of x.conn.unsent ≡ []) → (x.is_ended ≡ false) × (x.is_broken ≡ false) → end_said_of x ≡ (c, [], [], false, false)
new_said x c number none stands =
    ap (λ n. (n, x.conn.held.items, bytes_of x.conn.unsent, x.is_broken, x.is_ended)) number ∙ ap (λ l. (c, l, bytes_of x.conn.unsent, x.is_broken, x.is_ended)) none.0
    ∙ ap (λ l. (c, [], l, x.is_broken, x.is_ended)) none.1 ∙ ap (λ b. (c, [], [], b, x.is_ended)) stands.1 ∙ ap (λ b. (c, [], [], false, b)) stands.0

-- its end agrees with nothing fed and nothing given
pub begun_agrees :
    (h h' : List WireEvent) (id c : ℕ) (o : Option Client) → IsUnused c h → h' ≡ admits c id ∷ h → option_map end_said_of o ≡ Some (c, [], [], false, false) → IfSome o (EndAgrees h' (λ j. []) (λ j. []) id)
begun_agrees h h' id c None new is said = tt
begun_agrees h h' id c (Some x) new is said =
    subst (λ (s : ℕ × List ℕ × List ℕ × Bool × Bool). StateAgrees h' (λ j. []) (λ j. []) id s.0 s.1 s.2 s.3 s.4) (sym (same_some said))
    (subst (λ g. StateAgrees g (λ j. []) (λ j. []) id c [] [] false false) (sym is)
    (record { stands = λ off. record { is_its = ap (λ b. if b then Some (0, id) else role c h) (equal c); input_is = new.0; output_is = sym new.1 ∙ sym (append-nil (taken c h)) }; lost = λ on. absurd (false_true on); ended = λ on. absurd (false_true on) }))
  where
    same_some : {x y : ℕ × List ℕ × List ℕ × Bool × Bool} → ◌≡◌ {A = Option (ℕ × List ℕ × List ℕ × Bool × Bool)} (Some x) (Some y) → x ≡ y
    same_some e = cc

    false_true : false ≡ true → ⊥
    false_true e = cc

pub none_agrees : (h : List WireEvent) (id : ℕ) (o : Option Client) → o ≡ None → IfSome o (EndAgrees h (λ j. []) (λ j. []) id)
none_agrees h id o none = subst (λ p. IfSome p (EndAgrees h (λ j. []) (λ j. []) id)) (sym none) tt

-- a new end isn't broken off
pub begun_stands : (c : ℕ) (o : Option Client) → option_map end_said_of o ≡ Some (c, [], [], false, false) → IfSome o (λ x. x.is_broken ≡ false)
begun_stands c None said = tt
begun_stands c (Some x) said = ap (λ (s : ℕ × List ℕ × List ℕ × Bool × Bool). s.3) (same_some said)
  where
    same_some : {x y : ℕ × List ℕ × List ℕ × Bool × Bool} → ◌≡◌ {A = Option (ℕ × List ℕ × List ℕ × Bool × Bool)} (Some x) (Some y) → x ≡ y
    same_some e = cc

pub none_stands : (o : Option Client) → o ≡ None → IfSome o (λ x. x.is_broken ≡ false)
none_stands o none = subst (λ p. IfSome p (λ x. x.is_broken ≡ false)) (sym none) tt

pub only_may : (c id : ℕ) (h h' : List WireEvent) → MayAdmit c id h h' → TouchesOnly c h h'
only_may c id h h' (inl is) = subst (TouchesOnly c h) (sym is) (only_admits c id h)
only_may c id h h' (inr same) = only_same c h h' same

-- nothing came or went over it, before and after
pub unused_new : (c : ℕ) (kept : Option ℕ) (h h1 h2 : List WireEvent) → IsUntold c h → h1 ≡ accepts c ∷ h → IsDropped kept h1 h2 → IsUnused c h2
unused_new c kept h h1 h2 new is dropped = let same = dropped_tells kept c h1 h2 dropped in (same.1 ∙ ap (delivered c) is ∙ new.none_came, same.2 ∙ ap (taken c) is ∙ new.none_went)

pub unused_may : (c id : ℕ) (h h' : List WireEvent) → MayAdmit c id h h' → IsUnused c h → IsUnused c h'
unused_may c id h h' (inl is) was = (ap (delivered c) is ∙ was.0, ap (taken c) is ∙ was.1)
unused_may c id h h' (inr same) was = (ap (delivered c) same ∙ was.0, ap (taken c) same ∙ was.1)

pub unused_closed : (c : ℕ) (h h' : List WireEvent) → Closes c h h' → IsUnused c h → IsUnused c h'
unused_closed c h h' closes was = let same = closed_tells c c h h' closes in (same.1 ∙ was.0, same.2 ∙ was.1)

-- the connection that a new end has
pub begun_conn : (c : ℕ) (o : Option Client) → option_map end_said_of o ≡ Some (c, [], [], false, false) → option_map (λ (x : Client). x.conn.number) o ≡ Some c
begun_conn c None said = absurd (nobody said)
  where
    nobody : {s : ℕ × List ℕ × List ℕ × Bool × Bool} → ◌≡◌ {A = Option (ℕ × List ℕ × List ℕ × Bool × Bool)} None (Some s) → ⊥
    nobody e = cc
begun_conn c (Some x) said = ap (λ (o : Option (ℕ × List ℕ × List ℕ × Bool × Bool)). option_map (λ (s : ℕ × List ℕ × List ℕ × Bool × Bool). s.0) o) said

-- nobody stands at a place that was emptied
emptied : (xs : List (Option Client)) (id : ℕ) → option_flatten (slice_get (slice_set xs id None) id) ≡ None
emptied [] id = refl
emptied (x ∷ xs) zero = refl
emptied (x ∷ xs) (suc id) = emptied xs id

pub gone_here : (cs cs' : Clients) (id : ℕ) → cs'.all.items ≡ slice_set cs.all.items id None → client_of cs' id ≡ None
gone_here cs cs' id gone = ap (λ xs. option_flatten (slice_get xs id)) gone ∙ emptied cs.all.items id

pub gone_others : (cs cs' : Clients) (id : ℕ) → cs'.all.items ≡ slice_set cs.all.items id None → (j : ℕ) → j ≢ id → client_of cs' j ≡ client_of cs j
gone_others cs cs' id gone j other = kept cs.all.items cs'.all.items id j None other gone

-- one was closed by the core, and is gone, and its connection was closed
pub gone_go :
    {h h' : List WireEvent} {cs cs' : Clients} {ls : List Link} (id : ℕ) → cs'.all.items ≡ slice_set cs.all.items id None → IsDropped (client_conn cs id) h h' → (before core : ServedCore) → Does (Closed id) before core → IsAllSentTo id cs
    → AllGoFrom (AgreesGiven id) Agrees (IsClosing id) (record { core = before; history = h; clients = cs; links = ls }) (record { core = core; history = h'; clients = cs'; links = ls })
gone_go {h} {h'} {cs} {cs'} {ls} id gone dropped before core does sent = record {
  steps = Closed id ∷ [];
  kinds = (inr refl, tt);
  walks = (before, refl, does);
  agree = λ past given. let was = given.0 in record {
    clients = λ j. clients past was.clients j (cases_eq j id);
    told = λ j. still_told past was.told j (cases_eq j id);
    orderly = (tt, was.orderly);
    calls = (walks_tell_calls.goes_on (Closed id ∷ []) past before core was.calls (before, refl, does)).0;
    links = lines_apart h h' (Closed id ∷ []) past ls (λ d at of_d. touched past was.clients d (1, at) of_d (λ e. one_zero (ap (λ (p : ℕ × ℕ). p.0) e))) (tt, tt) (λ at n ask is. (refl, refl, refl)) was.links;
    gone = gone_of past was given.1;
    shown = shown_later (Closed id ∷ []) past h h' (tt, tt) (dropped_after (client_conn cs id) h h' dropped) was.shown;
    shut = shut_without id (λ d. (told d).0) (λ d on. dropped_opens (client_conn cs id) d h h' dropped on) (λ j other. ap (option_map (λ (x : Client). x.conn.number)) (gone_others cs cs' id gone j other)) (λ j. refl) was.shut;
    unlinked = was.unlinked;
    clock = was.clock ∙ sym (dropped_time (client_conn cs id) h h' dropped);
  };
  servers = record { same = refl; late = (tt, tt) };
}
  where
    one_zero : ◌≡◌ {A = ℕ} 1 0 → ⊥
    one_zero e = cc

    touched : (past : List Step) → AllAgree h (fed_in past) (gave_in past) cs → (d : ℕ) (p : ℕ × ℕ) → role d h ≡ Some p → p ≢ (0, id) → IsUntouched d h h'
    touched past was d p of_d other = dropped_only id (client_of cs id) h h' dropped (by (client_of cs id) (was id)) d p of_d other
      where
        by : (o : Option Client) → IfSome o (EndAgrees h (fed_in past) (gave_in past) id) → IfSome o (λ x. role x.conn.number h ≡ Some (0, id))
        by None a = tt
        by (Some x) a = its h (fed_in past) (gave_in past) id x a

    told : (d : ℕ) → TellsSame d h h'
    told d = dropped_tells (client_conn cs id) d h h' dropped

    took :
        (past : List Step) → Agrees past (record { core = before; history = h; clients = cs; links = ls }) → (j conn : ℕ) (x : Client) → client_of cs j ≡ Some x → j ≡ id → x.conn.number ≡ conn → TookAll past h j conn
    took past was j conn x e here is_conn = subst (λ c. TookAll past h j c) is_conn (by (subst (λ o. IfSome o IsAllSent) (ap (client_of cs) (sym here) ∙ e) sent))
      where
        by : IsAllSent x → TookAll past h j x.conn.number
        by (inl none) = took_all past h j x (subst (λ o. IfSome o (EndAgrees h (fed_in past) (gave_in past) j)) e (was.clients j)) (at_told past cs j x e was.told) none
        by (inr broken) = inr ((at_told past cs j x e was.told).1 ∙ broken)

    still_told : (past : List Step) → ClientsAreTold past cs → (j : ℕ) → (j ≡ id) ⊎ (j ≢ id) → IfSome (client_of cs' j) (ClientIsTold (Closed id ∷ past) j)
    still_told past was j (inl here) = subst (λ o. IfSome o (ClientIsTold (Closed id ∷ past) j)) (sym (ap (client_of cs') here ∙ gone_here cs cs' id gone)) tt
    still_told past was j (inr other) = subst (λ o. IfSome o (ClientIsTold (Closed id ∷ past) j)) (sym (gone_others cs cs' id gone j other)) (by (client_of cs j) (was j))
      where
        by : (o : Option Client) → IfSome o (ClientIsTold past j) → IfSome o (ClientIsTold (Closed id ∷ past) j)
        by None told = tt
        by (Some x) told = (ap (λ (t : Bool). if t then false else is_open_in past j) (unequal id j (λ e. other (sym e))) ∙ told.0, told.1)

    gone_of : (past : List Step) → Agrees past (record { core = before; history = h; clients = cs; links = ls }) → IsJustGiven id past → (conn j : ℕ) → role conn h' ≡ Some (0, j) → HasOrHad (Closed id ∷ past) h' cs' j conn
    gone_of past was given conn j now = by (cases_eq j id)
      where
        was_known : HasOrHad past h cs j conn
        was_known = was.gone conn j (sym (told conn).0 ∙ now)

        of_closed : (o : Option Client) → client_of cs j ≡ o → j ≡ id → HasOrHad past h cs j conn → HasOrHad (Closed id ∷ past) h' cs' j conn
        of_closed None e here (inl its_end) = absurd (none_is (sym (ap (option_map (λ (x : Client). x.conn.number)) e) ∙ its_end))
        of_closed (Some x) e here (inl its_end) =
            inr (inr (end_gone past [] (Closed id) h h' j conn x (inl (ap (λ k. Closed k) (sym here), subst (λ k. IsJustGiven k past) (sym here) given, took past was j conn x e here (number_is (sym (ap (option_map (λ (x : Client). x.conn.number)) e) ∙ its_end)))) (subst (λ o. IfSome o (EndAgrees h (fed_in past) (gave_in past) j)) e (was.clients j)) (number_is (sym (ap (option_map (λ (x : Client). x.conn.number)) e) ∙ its_end)) (told conn)))
        of_closed o e here (inr (inl unused)) = inr (inl ((told conn).1 ∙ unused.0, (told conn).2 ∙ unused.1))
        of_closed o e here (inr (inr more)) = inr (inr (gone_stays past (Closed id ∷ []) h h' j conn (told conn) more))

        by : (j ≡ id) ⊎ (j ≢ id) → HasOrHad (Closed id ∷ past) h' cs' j conn
        by (inl here) = of_closed (client_of cs j) refl here was_known
        by (inr other) = had_stays past (Closed id ∷ []) h h' cs cs' j conn (told conn) (ap (option_map (λ (x : Client). x.conn.number)) (gone_others cs cs' id gone j other)) was_known

    clients : (past : List Step) → AllAgree h (fed_in past) (gave_in past) cs → (j : ℕ) → (j ≡ id) ⊎ (j ≢ id) → IfSome (client_of cs' j) (EndAgrees h' (fed_in past) (gave_in past) j)
    clients past was j (inl here) = subst (λ o. IfSome o (EndAgrees h' (fed_in past) (gave_in past) j)) (sym (ap (client_of cs') here ∙ gone_here cs cs' id gone)) tt
    clients past was j (inr other) =
        subst (λ o. IfSome o (EndAgrees h' (fed_in past) (gave_in past) j)) (sym (gone_others cs cs' id gone j other))
        (if_moved h h' (fed_in past) (gave_in past) (fed_in past) (gave_in past) j (client_of cs j) (λ d of_d. touched past was d (0, j) of_d (λ e. other (ap (λ (p : ℕ × ℕ). p.1) e))) refl refl (was j))

-- ---- what the core gave

-- nothing more is read of it
pub ended_agrees : (h : List WireEvent) (x y : Client) → y ≡ record x { is_ended = true; leaves = y.leaves } → GoesOnAgreeing h h x y
ended_agrees h x y is = λ input output id was.
    subst (λ z. EndAgrees h input output id z) (sym is) (record { stands = was.stands; lost = was.lost; ended = λ on. ((was.ended on).0, refl) })

-- the core gave what it had, and the end was broken off
pub one_lost :
    {id : ℕ} {a b : ServedCore} {h : List WireEvent} (x y : Client) (r : Result (Unit {0}) CoreFault) → OnOk r (GivesAll a.core id (output_by (client_at a.core id)) b.core)
    → IfErr r (λ fault. OutputFault a.core id fault × (b ≡ a)) → OnOk r (LogsGoBy a (λ entries. entries ≡ log.Gives id (output_by (client_at a.core id)) ∷ []) b)
    → Breaks x y → OneGoes IsOfTurn id a h x b h y
one_lost {id} {a} {b} {h} x y (Ok done) ok err fresh breaks =
    let bytes = output_by (client_at a.core id) in
    gave_broken x y bytes (ok, fresh) (ap (λ (z : Client). z.conn.number) breaks.rest) (ap (λ (z : Client). z.is_broken) breaks.rest) (λ past was.
    state_breaks h x.conn.number y.conn.number x.conn.held.items (bytes_of x.conn.unsent ++ bytes) y.conn.held.items (bytes_of y.conn.unsent) x.is_broken y.is_broken x.is_ended y.is_ended
    (ap (λ (z : Client). z.conn.number) breaks.rest) breaks.none_held (ap (λ (z : Client). z.is_broken) breaks.rest) (ap (λ (z : Client). z.is_ended) breaks.rest)
    (fed_in past) (gave_in (Gave id bytes ∷ past)) id
    (gave_state h (fed_in past) (gave_in past) (gave_in (Gave id bytes ∷ past)) id x.conn.number x.conn.held.items (bytes_of x.conn.unsent) bytes x.is_broken x.is_ended (more_given past id bytes) was))
one_lost {id} {a} {b} {h} x y (Err fault) ok err fresh breaks = one_breaks x y err.1 breaks

-- the core gave nothing, as nothing stands where that would
pub one_empty :
    {id : ℕ} {a b : ServedCore} {h : List WireEvent} (x : Client) (r : Result (Unit {0}) CoreFault) (out out' : List ℕ) → OnOk r (GivesAll a.core id (output_by (client_at a.core id)) b.core)
    → IfErr r (λ fault. OutputFault a.core id fault × (b ≡ a)) → OnOk r (LogsGoBy a (λ entries. entries ≡ log.Gives id (output_by (client_at a.core id)) ∷ []) b)
    → OnOk r (out' ≡ out ++ output_by (client_at a.core id)) → out' ≡ [] → OneGoes IsOfTurn id a h x b h x
one_empty {id} {a} {b} {h} x (Ok done) out out' ok err fresh more none =
    let bytes = output_by (client_at a.core id) in
    let nothing : bytes ≡ [] = no_rest out bytes (sym more ∙ none) in
    gave_one x x bytes (ok, fresh) refl refl (λ past was.
    end_moved h h (fed_in past) (gave_in past) (fed_in (Gave id bytes ∷ past)) (gave_in (Gave id bytes ∷ past)) id x (untouched x.conn.number h) refl
    (more_given past id bytes ∙ ap (λ l. gave_in past id ++ l) nothing ∙ append-nil (gave_in past id)) was)
  where
    no_rest : (l m : List ℕ) → l ++ m ≡ [] → m ≡ []
    no_rest [] m e = e
    no_rest (n ∷ l) m e = absurd cc
one_empty {id} {a} {b} {h} x (Err fault) out out' ok err fresh more none = one_touched err.1 (same_agrees h x x refl) refl (λ d other. untouched d h) refl

pub no_length : (l : List ℕ) → length l ≡ 0 → l ≡ []
no_length [] e = refl
no_length (n ∷ l) e = absurd (omega arith)

-- all is sent, by a test
pub all_sent : (x : Client) (r : Bool) → r ≡ (x.is_broken || (length (bytes_of x.conn.unsent) == 0)) → r ≡ true → IsAllSent x
all_sent x r is all = by x.is_broken refl
  where
    by : (b : Bool) → x.is_broken ≡ b → IsAllSent x
    by true e = inr e
    by false e = inl (no_length (bytes_of x.conn.unsent) (eqb-true _ _ (ap (λ b. b || (length (bytes_of x.conn.unsent) == 0)) (sym e) ∙ sym is ∙ all)))
