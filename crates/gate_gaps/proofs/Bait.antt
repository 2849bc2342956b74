-- The commands of the script are asks, and a gap has a script that leaks.
use Rattle.std.proofs.Common.{◌≡◌, ℕ, true, List, Option, Some, None, IsSome, refl, arith}
use Rattle.std.proofs.lemmas.Int.{ints}
use Rattle.mc_types.specs.declared.ask.Op.{Op}
use Rattle.mc_types.specs.declared.ask.Op.TheVariants.{Get, Gat, Set, Add, Replace, Append, Prepend, Cas, Delete, Incr, Decr, Touch}
use Rattle.mc_types.specs.declared.ask.Ask.{Ask}
use Rattle.mc_types.specs.KeyText.{IsKey}
use Rattle.mc_types.specs.Agree.{AnswerAgrees}
use Rattle.mc_types.specs.Asks.{IsAsk}
use Rattle.mc_types.specs.Fits.{Fits}
use Rattle.mc_types.specs.Items.{Item}
use Rattle.mc_types.specs.Rank.{rank_of}
use Rattle.mc_types.specs.Shows.{shows}
use Rattle.route_tree.specs.Word.{answer_of_nothing}
use Rattle.gate_coverage.specs.declared.deleting.Deleting.{Deleting}
use Rattle.gate_coverage.specs.declared.deleting.Deleting.TheVariants as kinds
use Rattle.gate_coverage.specs.Cover.{IsTaking, deleting_dialect}
use Rattle.gate_gaps.specs.Turns.{acks, calls_before_found}
use Rattle.gate_gaps.specs.Leaking.{IsBait}
use Rattle.gate_gaps.specs.Bait.{delete_of, read_of, bait, bait_answer, IsBaited, NumbersLeak, GapsHaveLeaks, BaitIsTaken}
use Rattle.gate_gaps.proofs.Beside.{gaps_have_words}
use Rattle.gate_gaps.proofs.Leaking.{gaps_leak}

-- what is known of a read
pub record IsRead (op : Op) (key : List ℕ) : Type 0 where
  pub is : IsAsk (read_of op key)
  pub fits : Fits (read_of op key) (bait_answer op)
  pub showing : shows (bait_answer op) ≡ true
  pub done : rank_of (bait_answer op) ≡ 0
  pub agrees : AnswerAgrees (read_of op key) (bait_answer op) (Some bait)

pub read_is : (op : Op) (key : List ℕ) → IsTaking op → IsKey key → IsRead op key
read_is Get key h k = record { is = record { key = k; ranges = record { flags = omega arith; exptime = tt; body = omega arith; cas = tt; delta = omega arith }; shape = record { with_cas = tt; flags = refl; exptime = refl; body = refl; cas = refl; delta = refl; tokens = refl } }; fits = record { ranges = (omega arith, omega arith, tt); listed = refl }; showing = refl; done = refl; agrees = (bait, refl, refl, refl) }
read_is Gat key h k = record { is = record { key = k; ranges = record { flags = omega arith; exptime = (omega (arith, ints), omega (arith, ints)); body = omega arith; cas = tt; delta = omega arith }; shape = record { with_cas = tt; flags = refl; exptime = refl; body = refl; cas = refl; delta = refl; tokens = refl } }; fits = record { ranges = (omega arith, omega arith, tt); listed = refl }; showing = refl; done = refl; agrees = (bait, refl, refl, refl) }
read_is Incr key h k = record { is = record { key = k; ranges = record { flags = omega arith; exptime = tt; body = omega arith; cas = tt; delta = omega arith }; shape = record { with_cas = refl; flags = refl; exptime = refl; body = refl; cas = refl; delta = tt; tokens = refl } }; fits = record { ranges = omega arith; listed = tt }; showing = refl; done = refl; agrees = (bait, refl, refl) }
read_is Decr key h k = record { is = record { key = k; ranges = record { flags = omega arith; exptime = tt; body = omega arith; cas = tt; delta = omega arith }; shape = record { with_cas = refl; flags = refl; exptime = refl; body = refl; cas = refl; delta = tt; tokens = refl } }; fits = record { ranges = omega arith; listed = tt }; showing = refl; done = refl; agrees = (bait, refl, refl) }
read_is Set key h k = absurd h
read_is Add key h k = absurd h
read_is Replace key h k = absurd h
read_is Append key h k = absurd h
read_is Prepend key h k = absurd h
read_is Cas key h k = absurd h
read_is Delete key h k = absurd h
read_is Touch key h k = absurd h

pub delete_is : (kind : Deleting) (key : List ℕ) → IsKey key → IsAsk (delete_of kind key)
delete_is kinds.Delete key k = record { key = k; ranges = record { flags = omega arith; exptime = tt; body = omega arith; cas = tt; delta = omega arith }; shape = record { with_cas = refl; flags = refl; exptime = refl; body = refl; cas = refl; delta = refl; tokens = refl } }
delete_is kinds.Md key k = record { key = k; ranges = record { flags = omega arith; exptime = tt; body = omega arith; cas = tt; delta = omega arith }; shape = record { with_cas = refl; flags = refl; exptime = refl; body = refl; cas = tt; delta = refl; tokens = refl } }

nothing_fits : (kind : Deleting) (key : List ℕ) → Fits (delete_of kind key) (answer_of_nothing (deleting_dialect kind) Delete)
nothing_fits kinds.Delete key = record { ranges = tt; listed = tt }
nothing_fits kinds.Md key = record { ranges = record { body = tt; cas = tt; flags = tt; size = tt; ttl = tt }; listed = record { body_is = refl; cas = refl; flags = refl; size = refl; ttl = refl } }

is_bait : (opening : ℕ → List ℕ → Option Item) (key : List ℕ) (op : Op) (kind : Deleting) (s : ℕ) → IsKey key → IsTaking op → IsBaited opening s key → IsBait opening (delete_of kind key) (read_of op key) s (bait_answer op)
is_bait opening key op kind s k h baited =
    let r = read_is op key h k in
    record {
      item = bait;
      old = refl;
      deletes = refl;
      delete_is = delete_is kind key k;
      read_is = r.is;
      same_key = refl;
      held = baited.0;
      alone = baited.1;
      gone_fits = nothing_fits kind key;
      fits = r.fits;
      showing = r.showing;
      done = r.done;
      agrees = r.agrees;
    }

some_number : (o : Option ℕ) → IsSome o → (n : ℕ) × (o ≡ Some n)
some_number (Some n) h = (n, refl)
some_number None h = absurd (cc)

numbers_leak : (Bars : ℕ → Ask → ℕ → Ask → Type 0) → NumbersLeak Bars
numbers_leak Bars at opening key op kind s i j k h good1 good2 baited e f =
    gaps_leak Bars at opening (delete_of kind key) (read_of op key) s i j (bait_answer op) good1 good2 (is_bait opening key op kind s k h baited) e f

gaps_have_leaks : (Bars : ℕ → Ask → ℕ → Ask → Type 0) → GapsHaveLeaks Bars
gaps_have_leaks Bars at opening key op kind s k h good1 good2 baited direct1 direct2 takes leaves =
    let i = some_number (acks s (at 1 key)) (gaps_have_words.kept (at 1 key) s kind good1 direct1 leaves) in
    let j = some_number (calls_before_found op s (at 2 key)) (gaps_have_words.taken (at 2 key) op s good2 direct2 takes) in
    (i.0, j.0, i.1, j.1, numbers_leak Bars at opening key op kind s i.0 j.0 k h good1 good2 baited i.1 j.1)

pub bait_is_taken : (Bars : ℕ → Ask → ℕ → Ask → Type 0) → BaitIsTaken Bars
bait_is_taken Bars = record { numbers = numbers_leak Bars; gaps = gaps_have_leaks Bars }
