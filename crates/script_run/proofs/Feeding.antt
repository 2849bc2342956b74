-- A piece of a client's bytes is the next entry of the log.
use Rattle.std.proofs.Common.{Bool, List, [], ◌∷◌, ◌++◌, refl, sym, ap, ◌∙◌, subst, arith}
use Rattle.fresh_runs.specs.Run.{calls_so_far}
use Rattle.fresh_runs.specs.Overlap.{Entry, Feeds, run_of}
use Rattle.fresh_runs.specs.OverlapState.{LeadsTo}
use Rattle.script_events.specs.Found.{AreFound}
use Rattle.script_events.specs.Caches.{cache_held}
use Rattle.route_tree.specs.Word.{tree_words}
use Rattle.core_proxy.specs.CoreState.{dialect, bars_of, state_of, FeedsOpen, GoesByOne}
use Rattle.script_run.specs.Standing.{log_calls_at}
use Rattle.script_run.specs.Laws.{FeedsGoOn}
use Rattle.script_run.proofs.PollsEntries.{same_words}

pub feeds_go_on : FeedsGoOn
feeds_go_on opening tree log client bytes old new stands step rest =
    let entry : Entry dialect = Feeds client bytes in
    let served = stands.leads.dropped client ∙ stands.served client in
    let goes : GoesByOne old.core entry new.core = subst (λ (b : Bool). FeedsOpen b old.core client bytes new.core) served step in
    let g = goes stands.beside stands.fits in
    let same = g.3 in
    let leads = subst (λ (es : List (Entry dialect)). LeadsTo (tree_words stands.beside.at) (bars_of old.core stands.beside) opening (es ++ log) (state_of new.core g.0)) g.4 (g.5 opening log stands.leads) in
    let was = stands.leads.count in
    let now = leads.count in (
      record {
        more = entry ∷ [];
        stands = record {
          beside = g.0;
          plain = same.at ∙ stands.plain;
          fits = g.2;
          leads = same_words stands.beside.at g.0.at old.core.limits new.core.limits opening (entry ∷ log) new.core g.0 same.at g.6 leads;
          limits = g.6 ∙ stands.limits;
          served = stands.served;
          unbroken = stands.unbroken;
          loses = stands.loses;
          holds = λ s key. ap (λ h. h s key) same.holds ∙ stands.holds s key ∙ sym (ap (λ c. cache_held c s key) rest.servers.caches);
          turn = same.turn ∙ stands.turn ∙ sym rest.servers.turn;
          out = λ s. stands.out s ∙ ap (log_calls_at s) (sym rest.out);
          known = λ n o e.
              subst (λ f. AreFound (calls_so_far (run_of log) n) (f n) (new.stamps n)) (sym same.found)
              (subst (λ st. AreFound (calls_so_far (run_of log) n) (stands.beside.found n) st) (sym (rest.found n)) (stands.known n o e));
          unknown = λ n high. rest.found n ∙ stands.unknown n (omega (arith, was, now, high));
          commands = rest.counts.commands ∙ stands.commands;
          stale = rest.counts.stale ∙ stands.stale;
          last = λ key. rest.counts.last key ∙ stands.last key;
        };
        streams = λ c. refl;
        given = λ c. refl;
      },
      refl,
    )
