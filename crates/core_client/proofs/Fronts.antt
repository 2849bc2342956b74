-- A message at a client's front that was passed, or a key of it that began.
use Rattle.std.proofs.Common.{◌≡◌, ℕ, ◌+◌, Bool, true, false, List, [], ◌∷◌, ◌++◌, length, drop, None, refl, sym, ap, ◌∙◌, subst, nat_eq, if◌then◌else◌}
use Rattle.wire_parts.specs.Sending.{bytes_of}
use Rattle.wire_parts.proofs.Growing.{text_grew}
use Rattle.mc_types.specs.declared.ask.Ask.{Ask}
use Rattle.fresh_runs.specs.Log.{Part}
use Rattle.fresh_runs.specs.Overlap.{Front}
use Rattle.wire_parts.specs.declared.skip.Skip.TheVariants.{Nothing}
use Rattle.wire_parts.specs.Stream.{Place, Stands}
use Rattle.wire_stream.specs.declared.requests.request.Request.{Request}
use Rattle.wire_stream.specs.Message.{AnyMessage, message_in, used_of}
use Rattle.wire_stream.specs.Asks.{asks_of, quiet_of}
use Rattle.wire_stream.specs.Stream.{after_any}
use Rattle.wire_stream.specs.Held.{bytes_at}
use Rattle.wire_stream.specs.TextProtocol.{passed_text, Whole}
use Rattle.wire_stream.specs.declared.connection.front.Passed.{Passed}
use Rattle.wire_stream.specs.Fronts.{PassesMessage}
use Rattle.wire_stream.proofs.Fronts.{reads_front}
use Rattle.wire_stream.proofs.ConnectionRequests.{request_after}
use Rattle.core_client.specs.declared.client.Client.{Client}
use Rattle.core_client.specs.ClientState.{dialect}
use Rattle.core_client.specs.Fronts.{PassesFront, IsAskAt, MovesOn, BeginsKey}

-- a message that asks no server
pub passes_front : (version : List ℕ) (x y : Client) (passed : Passed) → x.dropped ≡ false → x.queue.items ≡ [] → PassesMessage version x.stream x.output.text.items passed y.stream y.output.text.items
    → y.output.pieces.items ≡ x.output.pieces.items → y.index ≡ 0 → y.waits ≡ false → y.queue ≡ x.queue → y.dropped ≡ x.dropped → PassesFront version x passed y
passes_front version x y passed served none p pieces index waits queue dropped =
    record {
      message = p.message;
      next = p.next;
      passes = record {
        reads = p.reads;
        asks = p.asks;
        served = served;
        none = none;
        queue = ap (λ q. q.items) queue ∙ none;
        stream = p.place_is;
        index = index;
        waits = waits;
        output = text_grew x.output y.output (passed_text version p.message) pieces p.output_is;
        dropped = dropped;
      };
      told = p.told;
    }

-- the next key of the message at the front began, and the client moved on
pub begins_key : (x z y : Client) (request : Request) (ask : Ask) (number count used : ℕ) (quiet : Bool) → IsAskAt x request ask → x.waits ≡ false
    → count ≡ length (asks_of (message_in (bytes_at x.stream) request)) → used ≡ used_of request → quiet ≡ quiet_of (message_in (bytes_at x.stream) request)
    → z.stream ≡ x.stream → z.index ≡ x.index → bytes_of z.output ≡ bytes_of x.output → z.dropped ≡ x.dropped
    → z.queue.items ≡ x.queue.items ++ record { ask = ask; reply = None; number = number; quiet = quiet; last = nat_eq (x.index + 1) count } ∷ []
    → ((held : List ℕ) → z.stream ≡ Stands Nothing held → MovesOn (nat_eq (x.index + 1) count) z (drop used held) y)
    → BeginsKey x ask number y
begins_key x z y request ask number count used quiet at ready count_is used_is quiet_is stream index output dropped queue moves =
    let held = bytes_at x.stream in
    let m : AnyMessage = message_in held request in
    let rest : List ℕ = drop (used_of request) held in
    let last : Bool = nat_eq (x.index + 1) (length (asks_of m)) in
    let last_is : nat_eq (x.index + 1) count ≡ last = ap (λ n. nat_eq (x.index + 1) n) count_is in
    let goes : MovesOn last z rest y = subst (λ b. MovesOn b z rest y) last_is (subst (λ n. MovesOn (nat_eq (x.index + 1) count) z (drop n held) y) used_is (moves held (stream ∙ at.place))) in
    let after_is : Stands Nothing rest ≡ after_any m rest = sym (request_after held request rest x.index ask at.at) in
    let part : Part dialect = record { message = Whole m; next = after_any m rest; index = x.index; ask = ask } in
    record {
      part = part;
      pending = record { ask = ask; reply = None; number = number; quiet = quiet; last = nat_eq (x.index + 1) count };
      ask_is = refl;
      number_is = refl;
      next = record {
        reads = reads_front x.stream request (record { stands = at.place; read = at.read });
        index = refl;
        asks = at.at;
        ready = ready;
      };
      front = goes.front ∙ moved last (Stands Nothing rest) (after_any m rest) z.stream x.stream z.index x.index after_is stream index;
      queue = goes.queue ∙ queue;
      output = goes.output ∙ output;
      dropped = goes.dropped ∙ dropped;
      slot = record { number = refl; ask = refl; reply = refl; quiet = sym quiet_is; last = sym last_is; asks = at.at };
    }
  where
    moved : (b : Bool) (p q s t : Place) (i j : ℕ) → p ≡ q → s ≡ t → i ≡ j
        → ◌≡◌ {A = Front dialect} (if b then record { place = p; index = 0; waits = false } else record { place = s; index = i; waits = true }) (if b then record { place = q; index = 0; waits = false } else record { place = t; index = j; waits = true })
    moved true p q s t i j e f g = λ k. record { place = e k; index = 0; waits = false }
    moved false p q s t i j e f g = λ k. record { place = f k; index = g k; waits = true }
