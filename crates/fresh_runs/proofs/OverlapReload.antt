-- A log of overlapping commands under other words from the next number on, and the state before the first entry.
use Rattle.std.proofs.Common.{◌≡◌, ℕ, ◌+◌, ◌<◌, List, [], ◌∷◌, ◌++◌, Option, Some, None, false, sym, ◌∙◌, arith}
use Rattle.mc_types.specs.declared.ask.Ask.{Ask}
use Rattle.mc_types.specs.Items.{Item}
use Rattle.fresh_runs.specs.Calls.{Words, Call}
use Rattle.fresh_runs.specs.Run.{Event, Begins, Calls, Replies, Breaks, Turns, Restarts, IsNewNumber, IsFront, IsApart}
use Rattle.fresh_runs.specs.Protocol.{Protocol}
use Rattle.fresh_runs.specs.Overlap.{Owner, Entry, Feeds, Starts, Sends, Happens, Ends, Shows, Passes, Gives, Drops, Frees, Resets, start_front, run_of, Follows}
use Rattle.fresh_runs.specs.OverlapState.{OverlapState, LeadsTo}
use Rattle.fresh_runs.specs.OverlapLaws.{WordsAreKept, AreKeptBars}
use Rattle.fresh_runs.proofs.Runs.{way_below}
use Rattle.fresh_runs.proofs.OverlapSteps.{owner_way}

module _ (words new : Words) (below : ℕ) (kept : WordsAreKept below words new) where
  kept_front : (n : ℕ) (a : Ask) (calls : List Call) → n < below → IsFront words n a calls → IsFront new n a calls
  kept_front n a calls lt f = (f.0, f.1, f.2, kept n a (calls ++ f.0) f.1 f.2 lt f.3)

kept_apart : (below : ℕ) (Bars NewBars : ℕ → Ask → ℕ → Ask → Type 0) → AreKeptBars below Bars NewBars → (past : List Event) (number : ℕ) (ask : Ask) → IsNewNumber below past → number < below → IsApart Bars past number ask → IsApart NewBars past number ask
kept_apart below Bars NewBars kept past number ask new lt apart other client way same =
    let two = apart other client way same in
    let low = way_below below past other client new way in
    ((λ bars. two.0 (kept number other ask client lt low bars)), (λ bars. two.1 (kept other number client ask low lt bars)))

module _ {P : Protocol} (words new : Words) (Bars NewBars : ℕ → Ask → ℕ → Ask → Type 0) (opening : ℕ → List ℕ → Option Item) (version : List ℕ) (below : ℕ) (kept : WordsAreKept below words new) (kept_bars : AreKeptBars below Bars NewBars) where
  pub follows_kept : (log : List (Entry P)) → IsNewNumber below (run_of log) → Follows words Bars opening version log → Follows new NewBars opening version log
  follows_kept [] n f = tt
  follows_kept (Feeds c b ∷ log) n f = (f.0, follows_kept log n f.1)
  follows_kept (Starts c m part ∷ log) n f = (((f.0.0.0, kept_apart below Bars NewBars kept_bars (run_of log) m part.ask n.1 n.0 f.0.0.1), f.0.1, f.0.2, f.0.3, f.0.4), follows_kept log n.1 f.1)
  follows_kept (Sends m s a o ∷ log) n f = (f.0, follows_kept log n f.1)
  follows_kept (Happens (Calls m s a o e) ∷ log) n f = (((f.0.0.0, f.0.0.1, f.0.0.2, kept_front words new below kept m f.0.0.0 _ n.0 f.0.0.3, f.0.0.4), f.0.1), follows_kept log n.1 f.1)
  follows_kept (Happens (Turns s k turned) ∷ log) n f = (tt, follows_kept log n f.1)
  follows_kept (Happens (Restarts s) ∷ log) n f = (tt, follows_kept log n f.1)
  follows_kept (Happens (Begins m a) ∷ log) n f = absurd f.0
  follows_kept (Happens (Replies m k r x) ∷ log) n f = absurd f.0
  follows_kept (Happens (Breaks m) ∷ log) n f = absurd f.0
  follows_kept (Ends c m part r from ∷ log) n f = (((f.0.0.0, f.0.0.1, f.0.0.2, kept m f.0.0.0 _ r from n.0 f.0.0.3), f.0.1, f.0.2, f.0.3, f.0.4, f.0.5), follows_kept log n.1 f.1)
  follows_kept (Shows c slot r ∷ log) n f = (f.0, follows_kept log n f.1)
  follows_kept (Passes c m next ∷ log) n f = (f.0, follows_kept log n f.1)
  follows_kept (Gives c b ∷ log) n f = (f.0, follows_kept log n f.1)
  follows_kept (Drops c ∷ log) n f = (f.0, follows_kept log n f.1)
  follows_kept (Frees m ∷ log) n f = (f.0, follows_kept log n.1 f.1)
  follows_kept (Resets c ∷ log) n f = (f.0, follows_kept log n f.1)

module _ {P : Protocol} (words : Words) (Bars : ℕ → Ask → ℕ → Ask → Type 0) (opening : ℕ → List ℕ → Option Item) where
  -- a reload
  pub reloads : (new : Words) (NewBars : ℕ → Ask → ℕ → Ask → Type 0) (log : List (Entry P)) (now : OverlapState P) → LeadsTo words Bars opening log now → WordsAreKept (now.number + 1) words new → AreKeptBars (now.number + 1) Bars NewBars → LeadsTo new NewBars opening log now
  reloads new NewBars log now h kept kept_bars =
      record {
        follows = follows_kept words new Bars NewBars opening now.version (now.number + 1) kept kept_bars log h.new h.follows;
        front = h.front;
        queue = h.queue;
        output = h.output;
        dropped = h.dropped;
        new = h.new;
        count = h.count;
        owner = h.owner;
        to_come = λ n x e calls reply from may.
            kept n x.ask _ reply from (way_below (now.number + 1) (run_of log) n x.ask h.new (owner_way words Bars opening now.version log h.follows n x (sym (h.owner n) ∙ e))) (h.to_come n x e calls reply from may);
        out = h.out;
        holds = h.holds;
        counted = h.counted;
        found = h.found;
        turn = h.turn;
      }

  -- nobody said anything, no command has begun, and no call is out
  pub begins : (now : OverlapState P) → ((c : ℕ) → now.front c ≡ start_front) → ((c : ℕ) → now.queue c ≡ []) → ((c : ℕ) → now.output c ≡ []) → ((c : ℕ) → now.dropped c ≡ false) → now.number ≡ 0 → ((n : ℕ) → now.owner n ≡ None) → ((s : ℕ) → now.out s ≡ []) → ((s : ℕ) (k : List ℕ) → now.holds s k ≡ opening s k) → now.turn ≡ 0 → LeadsTo words Bars opening [] now
  begins now front queue output dropped number owner out holds turn =
      record {
        follows = tt;
        front = front;
        queue = queue;
        output = output;
        dropped = dropped;
        new = omega arith;
        count = number;
        owner = owner;
        to_come = λ k x e. none_is x (sym (owner k) ∙ e);
        out = out;
        holds = holds;
        counted = λ k x e. none_is x (sym (owner k) ∙ e);
        found = λ k x e. none_is x (sym (owner k) ∙ e);
        turn = turn;
      }
    where
      none_is : {A : Type 0} (a : Owner) → ◌≡◌ {A = Option Owner} None (Some a) → A
      none_is a e = absurd cc
