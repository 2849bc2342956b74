-- Reading further lines one after another.
use Rattle.std.proofs.Common.{◌≡◌, ℕ, ◌+◌, List, [], ◌∷◌, ◌++◌, length, map, Some, None, refl, sym, ap, ◌∙◌, append_assoc, length-append}
use Rattle.std.proofs.lemmas.List.{append-nil}
use Rattle.route_json.specs.Servers.{Addresses}
use Rattle.script_events.specs.declared.script.Event.{Event}
use Rattle.script_events.specs.declared.script.Reload.{Reload}
use Rattle.script_events.specs.Scripted.{Scripted, scripted_of}
use Rattle.script_events.specs.declared.text.meaning.Reading.{Reading}
use Rattle.script_events.specs.Read.{ReadsLines}
use Rattle.script_events.specs.Told.{Meaning, Nothing, Unreadable, Says, Loads, line_means, used_after, events_after, Numbered, and_then, numbered, or_after, first_unreadable, load_then, loaded, servers_known}
use Rattle.script_events.proofs.Loads.{known_push}

abbrev event_in : Numbered → Scripted
event_in x = x.event

abbrev line_in : Numbered → ℕ
line_in x = x.line

push : {A : Type 0} (xs : List A) (x : A) (ys : List A) → xs ++ x ∷ ys ≡ (xs ++ x ∷ []) ++ ys
push xs x ys = sym (append_assoc xs (x ∷ []) ys)

map_push : {A B : Type 0} (f : A → B) (xs : List A) (x : A) (ys : List B) → map f xs ++ f x ∷ ys ≡ map f (xs ++ x ∷ []) ++ ys
map_push f [] x ys = refl
map_push f (a ∷ xs) x ys = ap (λ l. f a ∷ l) (map_push f xs x ys)

module _ (servers : Addresses) (first : ℕ) (all : List (List ℕ)) where
  -- these events, their lines and these reloads were read, up to the line of a number, and these lines are left
  pub record Further (events : List Event) (lines : List ℕ) (reloads : List Reload) (number : ℕ) (left : List (List ℕ)) : Type 0 where
    pub said : map event_in (numbered servers first all) ≡ map scripted_of events ++ map event_in (numbered (servers_known servers reloads) (number + 1) left)
    pub numbers : map line_in (numbered servers first all) ≡ lines ++ map line_in (numbered (servers_known servers reloads) (number + 1) left)
    pub loads : loaded servers 0 all ≡ reloads ++ loaded (servers_known servers reloads) (length events) left
    pub unreadable : first_unreadable servers first all ≡ first_unreadable (servers_known servers reloads) (number + 1) left

  pub starts : (events : List Event) (lines : List ℕ) (reloads : List Reload) (number : ℕ) → first ≡ number + 1 → events ≡ [] → lines ≡ [] → reloads ≡ [] → Further events lines reloads number all
  starts events lines reloads number first-is events-is lines-is reloads-is = record {
    said = rw (first-is, events-is, reloads-is) refl;
    numbers = rw (first-is, lines-is, reloads-is) refl;
    loads = rw (events-is, reloads-is) refl;
    unreadable = rw (first-is, reloads-is) refl;
  }

  module _ (events : List Event) (lines : List ℕ) (reloads : List Reload) (number : ℕ) (here : List (List ℕ)) (line : List ℕ) (left : List (List ℕ)) (h : Further events lines reloads number here) (at : here ≡ line ∷ left) where
    abbrev used : Addresses
    used = servers_known servers reloads

    module _ (m : Meaning) (means : m ≡ line_means used line) where
      said_by : numbered used (number + 1) here ≡ and_then m (number + 1) (numbered (used_after m used) (number + 1 + 1) left)
      said_by = ap (numbered used (number + 1)) at ∙ ap (λ (k : Meaning). and_then k (number + 1) (numbered (used_after k used) (number + 1 + 1) left)) (sym means)

      loads_by : loaded used (length events) here ≡ load_then m (length events) (loaded (used_after m used) (events_after m (length events)) left)
      loads_by = ap (loaded used (length events)) at ∙ ap (λ (k : Meaning). load_then k (length events) (loaded (used_after k used) (events_after k (length events)) left)) (sym means)

      unreadable_by : first_unreadable used (number + 1) here ≡ or_after m (number + 1) (first_unreadable (used_after m used) (number + 1 + 1) left)
      unreadable_by = ap (first_unreadable used (number + 1)) at ∙ ap (λ (k : Meaning). or_after k (number + 1) (first_unreadable (used_after k used) (number + 1 + 1) left)) (sym means)

    pub goes_by : Nothing ≡ line_means used line → Further events lines reloads (number + 1) left
    goes_by e = record {
      said = h.said ∙ ap (λ l. map scripted_of events ++ map event_in l) (said_by Nothing e);
      numbers = h.numbers ∙ ap (λ l. lines ++ map line_in l) (said_by Nothing e);
      loads = h.loads ∙ ap (λ l. reloads ++ l) (loads_by Nothing e);
      unreadable = h.unreadable ∙ unreadable_by Nothing e;
    }

    pub says : (event : Event) (events' : List Event) (lines' : List ℕ) → Says (scripted_of event) ≡ line_means used line → events' ≡ events ++ event ∷ [] → lines' ≡ lines ++ (number + 1) ∷ [] → Further events' lines' reloads (number + 1) left
    says event events' lines' e events-is lines-is =
        let m = Says (scripted_of event) in
        let many : length events + 1 ≡ length events' = sym (ap length events-is ∙ length-append events (event ∷ [])) in
        record {
          said = h.said ∙ ap (λ l. map scripted_of events ++ map event_in l) (said_by m e) ∙ map_push scripted_of events event _ ∙ ap (λ (l : List Event). map scripted_of l ++ map event_in (numbered used (number + 1 + 1) left)) (sym events-is);
          numbers = h.numbers ∙ ap (λ l. lines ++ map line_in l) (said_by m e) ∙ push lines (number + 1) _ ∙ ap (λ (l : List ℕ). l ++ map line_in (numbered used (number + 1 + 1) left)) (sym lines-is);
          loads = h.loads ∙ ap (λ l. reloads ++ l) (loads_by m e) ∙ ap (λ (n : ℕ). reloads ++ loaded used n left) many;
          unreadable = h.unreadable ∙ unreadable_by m e;
        }

    pub loads_one : (r : Reload) (reloads' : List Reload) → Loads r.config ≡ line_means used line → r.at ≡ length events → reloads' ≡ reloads ++ r ∷ [] → Further events lines reloads' (number + 1) left
    loads_one r reloads' e at-is reloads-is =
        let m = Loads r.config in
        let now : r.config.servers ≡ servers_known servers reloads' = sym (ap (servers_known servers) reloads-is ∙ known_push servers reloads r) in
        record {
          said = h.said ∙ ap (λ l. map scripted_of events ++ map event_in l) (said_by m e) ∙ ap (λ (u : Addresses). map scripted_of events ++ map event_in (numbered u (number + 1 + 1) left)) now;
          numbers = h.numbers ∙ ap (λ l. lines ++ map line_in l) (said_by m e) ∙ ap (λ (u : Addresses). lines ++ map line_in (numbered u (number + 1 + 1) left)) now;
          loads = h.loads ∙ ap (λ l. reloads ++ l) (loads_by m e)
              ∙ ap (λ (n : ℕ). reloads ++ record { at = n; config = r.config } ∷ loaded r.config.servers (length events) left) (sym at-is)
              ∙ push reloads r _
              ∙ ap (λ (l : List Reload). l ++ loaded r.config.servers (length events) left) (sym reloads-is)
              ∙ ap (λ (u : Addresses). reloads' ++ loaded u (length events) left) now;
          unreadable = h.unreadable ∙ unreadable_by m e ∙ ap (λ (u : Addresses). first_unreadable u (number + 1 + 1) left) now;
        }

    pub stops : Unreadable ≡ line_means used line → (r : Reading) → r.events.items ≡ events → r.lines.items ≡ lines → r.reloads.items ≡ reloads → r.unreadable ≡ Some (number + 1) → ReadsLines servers first all r
    stops e r events-is lines-is reloads-is unreadable-is = record {
      events = ap (map scripted_of) events-is ∙ sym (h.said ∙ ap (λ l. map scripted_of events ++ map event_in l) (said_by Unreadable e) ∙ append-nil (map scripted_of events));
      numbers = lines-is ∙ sym (h.numbers ∙ ap (λ l. lines ++ map line_in l) (said_by Unreadable e) ∙ append-nil lines);
      reloads = reloads-is ∙ sym (h.loads ∙ ap (λ l. reloads ++ l) (loads_by Unreadable e) ∙ append-nil reloads);
      unreadable = unreadable-is ∙ sym (h.unreadable ∙ unreadable_by Unreadable e);
    }

  pub ends : (events : List Event) (lines : List ℕ) (reloads : List Reload) (number : ℕ) → Further events lines reloads number [] → (r : Reading) → r.events.items ≡ events → r.lines.items ≡ lines → r.reloads.items ≡ reloads → r.unreadable ≡ None → ReadsLines servers first all r
  ends events lines reloads number h r events-is lines-is reloads-is unreadable-is = record {
    events = ap (map scripted_of) events-is ∙ sym (h.said ∙ append-nil (map scripted_of events));
    numbers = lines-is ∙ sym (h.numbers ∙ append-nil lines);
    reloads = reloads-is ∙ sym (h.loads ∙ append-nil reloads);
    unreadable = unreadable-is ∙ sym h.unreadable;
  }
