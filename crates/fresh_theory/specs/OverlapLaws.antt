-- The laws of a log of overlapping commands, for every protocol, all words and all opening items. Source: mcgate's own.
use Rattle.std.specs.Prelude.{◌≡◌, ℕ, map, List, [], ◌++◌, Option, Some, None, false, ◌+◌, slice_get}
use Rattle.mc_types.specs.declared.ask.Ask.{Ask}
use Rattle.mc_types.specs.Items.{Item}
use Rattle.fresh_runs.specs.Calls.{Words}
use Rattle.fresh_runs.specs.Run.{LosesOnly, Run, CopiesBar, AreAlone, IsFresh, IsFreshByNumber}
use Rattle.fresh_runs.specs.Cover.{IsCovered}
use Rattle.fresh_runs.specs.Stale.{stale_in, tally_of}
use Rattle.fresh_runs.specs.Protocol.{Protocol, silence, IsReader, Goes}
use Rattle.fresh_runs.specs.Overlap.{Slot, Owner, Entry, start_front, run_of, front_of, queue_of, is_dropped, owner_of, Follows, NothingIsLeft}
use Rattle.fresh_runs.specs.OverlapStream.{EndsWithLast, stream_of, messages_of, done_of, replies_of, begun_by, shown_slots, all_replies, AreReplies}
use Rattle.fresh_runs.specs.OverlapLaws.{WordsAreKept, AreKeptBars, WritesSoFar, WritesAll}
use Rattle.fresh_runs.specs.OverlapState.{OverlapState, WalksTo, LeadsTo}

module _ (P : Protocol) (words : Words) (Bars : ℕ → Ask → ℕ → Ask → Type 0) (opening : ℕ → List ℕ → Option Item) where
  -- a log that follows has a run
  abbrev pub OverlapHasRun : Type 0
  OverlapHasRun = (version : List ℕ) (log : List (Entry P)) → Follows words Bars opening version log → Run words Bars opening (run_of log)

  -- the messages of a client that ask nothing more are those of all its bytes joined, in whatever pieces, and lead to where its reader stands
  abbrev pub OverlapReadsStreams : Type 0
  OverlapReadsStreams = IsReader P → (version : List ℕ) (log : List (Entry P)) → Follows words Bars opening version log → (c : ℕ) → Goes P (P.fed P.start (stream_of log c)) (messages_of log c) (front_of log c).place

  -- at any time a client was written what its messages that were done and their replies show
  abbrev pub OverlapWritesSoFar : Type 0
  OverlapWritesSoFar = IsReader P → EndsWithLast P → (version : List ℕ) (log : List (Entry P)) → Follows words Bars opening version log → (c : ℕ) → WritesSoFar P words Bars opening version log c

  -- where nothing is left to do, it was given what its messages and the replies of their commands show
  abbrev pub OverlapWritesAll : Type 0
  OverlapWritesAll = IsReader P → EndsWithLast P → (version : List ℕ) (log : List (Entry P)) → Follows words Bars opening version log → NothingIsLeft version log → (c : ℕ) → WritesAll P words Bars opening version log c

  -- the replies that a client was shown are those of its commands in the run, in the order in which it asked them
  pub record RepliesInOrder (log : List (Entry P)) (c : ℕ) : Type 0 where
    pub replies : AreReplies (run_of log) (shown_slots log c) (all_replies (done_of log c) ++ replies_of log c)
    pub order : map (λ (s : Slot P). s.number) (shown_slots log c ++ queue_of log c) ≡ begun_by log c

  abbrev pub OverlapRepliesInOrder : Type 0
  OverlapRepliesInOrder = (version : List ℕ) (log : List (Entry P)) → Follows words Bars opening version log → (c : ℕ) → RepliesInOrder log c

  -- where deletes clear what later commands take, what copies bars deletes of its key, and nobody else writes the servers, its run is fresh, however commands overlap
  abbrev pub OverlapIsFresh : Type 0
  OverlapIsFresh = IsCovered words → CopiesBar words Bars → (version : List ℕ) (log : List (Entry P)) → LosesOnly (run_of log) → Follows words Bars opening version log → IsFresh opening (run_of log)

  -- where each command has its key alone too, its run is fresh by numbers: later is a greater number
  abbrev pub OverlapIsFreshByNumber : Type 0
  OverlapIsFreshByNumber = IsCovered words → AreAlone Bars → (version : List ℕ) (log : List (Entry P)) → LosesOnly (run_of log) → Follows words Bars opening version log → IsFreshByNumber opening (run_of log)

  -- where each command has its key alone, stale replies are counted by the last acknowledged delete of a key; there are none where deletes clear what later commands take and nobody else writes the servers
  abbrev pub OverlapCountsStale : Type 0
  OverlapCountsStale =
      AreAlone Bars → (version : List ℕ) (log : List (Entry P)) → Follows words Bars opening version log
      → (stale_in opening (run_of log) ≡ tally_of opening (run_of log)) × (IsCovered words → LosesOnly (run_of log) → stale_in opening (run_of log) ≡ 0)

  -- a command of a client that isn't dropped is under way until it has its reply: once begun it waits for no other command
  abbrev pub OverlapKeepsOn : Type 0
  OverlapKeepsOn =
      (version : List ℕ) (log : List (Entry P)) → Follows words Bars opening version log → (c : ℕ) → is_dropped log c ≡ false
      → (i : ℕ) (slot : Slot P) → slice_get (queue_of log c) i ≡ Some slot → slot.reply ≡ None
      → owner_of log slot.number ≡ Some (record { client = c; ask = slot.ask })

  -- a client has one command on a key under way at a time
  abbrev pub OverlapKeepsOrder : Type 0
  OverlapKeepsOrder =
      (version : List ℕ) (log : List (Entry P)) → Follows words Bars opening version log → (a b : ℕ) (x y : Owner) → owner_of log a ≡ Some x → owner_of log b ≡ Some y → x.client ≡ y.client → x.ask.key ≡ y.ask.key → a ≡ b

-- a protocol, words, opening items, and two moments
pub record Course : Type 1 where
  pub protocol : Protocol
  pub words : Words
  pub Bars : ℕ → Ask → ℕ → Ask → Type 0
  pub opening : ℕ → List ℕ → Option Item
  pub old : OverlapState protocol
  pub new : OverlapState protocol

-- entries that may come one after another and lead to the new moment are more of each log that led to the old one
abbrev pub OverlapGoesOn : Course → Type 0
OverlapGoesOn x =
    (entries log : List (Entry x.protocol)) → LeadsTo x.words x.Bars x.opening log x.old → WalksTo x.words x.Bars x.old entries x.new → LeadsTo x.words x.Bars x.opening (entries ++ log) x.new

-- a protocol, words, opening items, a moment, and other words from the next number on
pub record Change : Type 1 where
  pub protocol : Protocol
  pub words : Words
  pub Bars : ℕ → Ask → ℕ → Ask → Type 0
  pub new : Words
  pub NewBars : ℕ → Ask → ℕ → Ask → Type 0
  pub opening : ℕ → List ℕ → Option Item
  pub now : OverlapState protocol
  pub kept : WordsAreKept (now.number + 1) words new
  pub kept_bars : AreKeptBars (now.number + 1) Bars NewBars

-- by the new words each log leads where it led
abbrev pub OverlapReloads : Change → Type 0
OverlapReloads x = (log : List (Entry x.protocol)) → LeadsTo x.words x.Bars x.opening log x.now → LeadsTo x.new x.NewBars x.opening log x.now

-- nothing moves
abbrev pub no_standing : (P : Protocol) → OverlapState P
no_standing P =
    record {
      front = λ c. start_front;
      queue = λ c. [];
      output = λ c. [];
      dropped = λ c. false;
      number = 0;
      owner = λ n. None;
      to_come = λ n calls reply from. ⊥;
      out = λ s. [];
      holds = λ s k. None;
      found = λ n. [];
      turn = 0;
      version = [];
    }

abbrev pub no_course : Course
no_course = record { protocol = silence; words = λ number ask calls reply from. ⊥; Bars = λ number ask other client. ⊥; opening = λ server key. None; old = no_standing silence; new = no_standing silence }

abbrev pub no_change : Change
no_change = record { protocol = silence; words = λ number ask calls reply from. ⊥; Bars = λ number ask other client. ⊥; new = λ number ask calls reply from. ⊥; NewBars = λ number ask other client. ⊥; opening = λ server key. None; now = no_standing silence; kept = λ number ask calls reply from below word. word; kept_bars = λ number other ask client low lower bars. bars }
