-- What reads and writes of one end come to, and what they do to what agrees.
use Rattle.std.proofs.Common.{◌≡◌, ◌⊎◌, inl, inr, ℕ, if◌then◌else◌, List, [], ◌++◌, take, drop, refl, sym, ap, ◌∙◌, subst, append_assoc, append-nil}
use Rattle.std.proofs.lemmas.List.{take-append-drop}
use Rattle.serve_wire.specs.Events.{WireEvent, role, begin_of, delivered, taken, is_over}
use Rattle.serve_wire.specs.Agreement.{ClientAgrees, TouchesOnly}
use Rattle.serve_wire.proofs.Steps.{equal, untouched, only_twice, only_takes, only_delivers, only_ends, only_fails}
use Rattle.serve_wire.specs.Ends.{ReadsConnection, Sends}
use Rattle.serve_wire.specs.Flow.{ReadsOn, SendsOn, Stands}
use Rattle.serve_wire.specs.declared.conn.conn.Got.{Got}
use Rattle.serve_wire.specs.declared.conn.conn.Got.TheVariants as got
use Rattle.serve_wire.specs.declared.conn.conn.Sent.{Sent}
use Rattle.serve_wire.specs.declared.conn.conn.Sent.TheVariants as sent

-- ---- reads

read_nothing : (c : ℕ) (held held' : List ℕ) (h h' : List WireEvent) → held' ≡ held → h' ≡ h → ReadsOn c held held' h h'
read_nothing c held held' h h' same still =
    record {
      bytes = [];
      held_is = same ∙ sym (append-nil held);
      came = ap (delivered c) still ∙ sym (append-nil (delivered c h));
      same_role = ap (role c) still;
      same_begin = ap (begin_of c) still;
      same_went = ap (taken c) still;
      elsewhere = subst (TouchesOnly c h) (sym still) (λ d other. untouched d h);
    }

pub reads_on : (c limit : ℕ) (held : List ℕ) (what : Got) (held' : List ℕ) (h h' : List WireEvent) → ReadsConnection c limit held what held' h h' → ReadsOn c held held' h h'
reads_on c limit held got.Bytes held' h h' r =
    record {
      bytes = r.1.bytes;
      held_is = r.1.held_is;
      came = ap (delivered c) r.1.noted ∙ ap (λ b. if b then delivered c h ++ r.1.bytes else delivered c h) (equal c);
      same_role = ap (role c) r.1.noted;
      same_begin = ap (begin_of c) r.1.noted;
      same_went = ap (taken c) r.1.noted;
      elsewhere = subst (TouchesOnly c h) (sym r.1.noted) (only_delivers c r.1.bytes h);
    }
reads_on c limit held got.Nothing held' h h' r = read_nothing c held held' h h' r.1 r.2
reads_on c limit held got.Full held' h h' r = read_nothing c held held' h h' r.1 r.2
reads_on c limit held got.Ended held' h h' r =
    record {
      bytes = [];
      held_is = r.1 ∙ sym (append-nil held);
      came = ap (delivered c) r.2 ∙ sym (append-nil (delivered c h));
      same_role = ap (role c) r.2;
      same_begin = ap (begin_of c) r.2;
      same_went = ap (taken c) r.2;
      elsewhere = subst (TouchesOnly c h) (sym r.2) (only_ends c h);
    }
reads_on c limit held got.Failed held' h h' r =
    record {
      bytes = [];
      held_is = r.1 ∙ sym (append-nil held);
      came = ap (delivered c) r.2 ∙ sym (append-nil (delivered c h));
      same_role = ap (role c) r.2;
      same_begin = ap (begin_of c) r.2;
      same_went = ap (taken c) r.2;
      elsewhere = subst (TouchesOnly c h) (sym r.2) (only_fails c h);
    }

-- ---- writes

send_nothing : (c : ℕ) (unsent unsent' : List ℕ) (h h' : List WireEvent) → unsent' ≡ unsent → h' ≡ h → SendsOn c unsent unsent' h h'
send_nothing c unsent unsent' h h' same still =
    record {
      went = ap (λ l. taken c h ++ l) (sym same) ∙ ap (λ x. taken c x ++ unsent') (sym still);
      same_role = ap (role c) still;
      same_begin = ap (begin_of c) still;
      same_came = ap (delivered c) still;
      elsewhere = subst (TouchesOnly c h) (sym still) (λ d other. untouched d h);
    }

pub sends_none : (c : ℕ) (unsent : List ℕ) (h : List WireEvent) → SendsOn c unsent unsent h h
sends_none c unsent h = send_nothing c unsent unsent h h refl refl

pub sends_on : (c : ℕ) (unsent : List ℕ) (what : Sent) (unsent' : List ℕ) (h h' : List WireEvent) → Sends c unsent what unsent' h h' → SendsOn c unsent unsent' h h'
sends_on c unsent sent.Bytes unsent' h h' s =
    let n = s.count in
    record {
      went =
          ap (λ l. taken c h ++ l) (sym (take-append-drop n unsent)) ∙ sym (append_assoc (taken c h) (take n unsent) (drop n unsent)) ∙ ap (λ b. (if b then taken c h ++ take n unsent else taken c h) ++ drop n unsent) (sym (equal c))
          ∙ ap (λ x. taken c x ++ drop n unsent) (sym s.noted) ∙ ap (λ l. taken c h' ++ l) (sym s.unsent_is);
      same_role = ap (role c) s.noted;
      same_begin = ap (begin_of c) s.noted;
      same_came = ap (delivered c) s.noted;
      elsewhere = subst (TouchesOnly c h) (sym s.noted) (only_takes c (take n unsent) h);
    }
sends_on c unsent sent.Nothing unsent' h h' s = send_nothing c unsent unsent' h h' s.0 s.1
sends_on c unsent sent.Failed unsent' h h' s =
    record {
      went = ap (λ l. taken c h ++ l) (sym s.0) ∙ ap (λ x. taken c x ++ unsent') (sym s.1);
      same_role = ap (role c) s.1;
      same_begin = ap (begin_of c) s.1;
      same_came = ap (delivered c) s.1;
      elsewhere = subst (TouchesOnly c h) (sym s.1) (only_fails c h);
    }

pub sends_twice : (c : ℕ) (unsent unsent' unsent'' : List ℕ) (h h' h'' : List WireEvent) → SendsOn c unsent unsent' h h' → SendsOn c unsent' unsent'' h' h'' → SendsOn c unsent unsent'' h h''
sends_twice c unsent unsent' unsent'' h h' h'' a b =
    record { went = a.went ∙ b.went; same_role = b.same_role ∙ a.same_role; same_begin = b.same_begin ∙ a.same_begin; same_came = b.same_came ∙ a.same_came; elsewhere = only_twice c h h' h'' a.elsewhere b.elsewhere }

-- bytes that went, and writes that took nothing, leave it standing
pub bytes_stand : (c : ℕ) (unsent unsent' : List ℕ) (h h' : List WireEvent) → Sends c unsent sent.Bytes unsent' h h' → Stands c h h'
bytes_stand c unsent unsent' h h' s = ap (is_over c) s.noted

pub nothing_stands : (c : ℕ) (unsent unsent' : List ℕ) (h h' : List WireEvent) → Sends c unsent sent.Nothing unsent' h h' → Stands c h h'
nothing_stands c unsent unsent' h h' s = ap (is_over c) s.1

-- the same, one write after others, in the words of a loop
pub sends_then :
    (c c' : ℕ) (unsent unsent' unsent'' : List ℕ) (h h' h'' : List WireEvent) (what : Sent) → c' ≡ c → SendsOn c unsent unsent' h h' → Sends c' unsent' what unsent'' h' h'' → SendsOn c unsent unsent'' h h''
sends_then c c' unsent unsent' unsent'' h h' h'' what same a s =
    sends_twice c unsent unsent' unsent'' h h' h'' a (subst (λ n. SendsOn n unsent' unsent'' h' h'') same (sends_on c' unsent' what unsent'' h' h'' s))

pub stands_then :
    (c c' : ℕ) (unsent' unsent'' : List ℕ) (h h' h'' : List WireEvent) (what : Sent) → c' ≡ c → (what ≡ sent.Bytes) ⊎ (what ≡ sent.Nothing) → Stands c h h' → Sends c' unsent' what unsent'' h' h'' → Stands c h h''
stands_then c c' unsent' unsent'' h h' h'' what same is a s = subst (λ n. Stands n h' h'') same (by is) ∙ a
  where
    by : (what ≡ sent.Bytes) ⊎ (what ≡ sent.Nothing) → Stands c' h' h''
    by (inl e) = bytes_stand c' unsent' unsent'' h' h'' (subst (λ w. Sends c' unsent' w unsent'' h' h'') e s)
    by (inr e) = nothing_stands c' unsent' unsent'' h' h'' (subst (λ w. Sends c' unsent' w unsent'' h' h'') e s)

-- ---- what agrees

pub client_reads : (h h' : List WireEvent) (input output : ℕ → List ℕ) (i c : ℕ) (held held' unsent : List ℕ) → ReadsOn c held held' h h' → ClientAgrees h input output i c held unsent → ClientAgrees h' input output i c held' unsent
client_reads h h' input output i c held held' unsent r was =
    record { is_its = r.same_role ∙ was.is_its; input_is = r.came ∙ ap (λ l. l ++ r.bytes) was.input_is ∙ append_assoc (input i) held r.bytes ∙ ap (λ l. input i ++ l) (sym r.held_is); output_is = was.output_is ∙ ap (λ l. l ++ unsent) (sym r.same_went) }

pub client_sends : (h h' : List WireEvent) (input output : ℕ → List ℕ) (i c : ℕ) (held unsent unsent' : List ℕ) → SendsOn c unsent unsent' h h' → ClientAgrees h input output i c held unsent → ClientAgrees h' input output i c held unsent'
client_sends h h' input output i c held unsent unsent' s was =
    record { is_its = s.same_role ∙ was.is_its; input_is = s.same_came ∙ was.input_is; output_is = was.output_is ∙ s.went }
