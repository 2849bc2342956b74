-- Output that a client is given goes on with the log: it was all that there was for it, and nothing else is done.
use Rattle.std.proofs.Common.{cond, List, [], ◌∷◌, ◌++◌, refl, sym, ap, ◌∙◌, subst, arith}
use Rattle.std.proofs.lemmas.Bool.{eq-eqb}
use Rattle.fresh_runs.specs.Run.{calls_so_far}
use Rattle.fresh_runs.specs.Overlap.{Entry, Gives, run_of, output_of, given_of}
use Rattle.fresh_runs.specs.OverlapState.{LeadsTo}
use Rattle.script_events.specs.Found.{AreFound}
use Rattle.script_events.specs.Caches.{cache_held}
use Rattle.route_tree.specs.Word.{tree_words}
use Rattle.core_proxy.specs.CoreState.{dialect, bars_of, state_of, version_by}
use Rattle.core_proxy.specs.declared.limits.CoreLimits.{CoreLimits}
use Rattle.script_run.specs.Standing.{log_calls_at}
use Rattle.script_run.specs.Laws.{GivesGoOn}
use Rattle.script_run.proofs.PollsEntries.{same_words}

pub gives_go_on : GivesGoOn
gives_go_on opening tree log client bytes old new stands step rest =
    let g = step.1 stands.beside stands.fits in
    let same = g.3 in
    let entry : Entry dialect = Gives client bytes in
    let leads = subst (λ (es : List (Entry dialect)). LeadsTo (tree_words stands.beside.at) (bars_of old.core stands.beside) opening (es ++ log) (state_of new.core g.0)) g.4 (g.5 opening log stands.leads) in
    let was = stands.leads.count in
    let now = leads.count in
    record {
      more = entry ∷ [];
      stands = record {
        beside = g.0;
        plain = same.at ∙ stands.plain;
        fits = g.2;
        leads = same_words stands.beside.at g.0.at old.core.limits new.core.limits opening (entry ∷ log) new.core g.0 same.at g.6 leads;
        limits = g.6 ∙ stands.limits;
        served = stands.served;
        unbroken = stands.unbroken;
        loses = stands.loses;
        holds = λ s key. ap (λ h. h s key) same.holds ∙ stands.holds s key ∙ sym (ap (λ c. cache_held c s key) rest.servers.caches);
        turn = same.turn ∙ stands.turn ∙ sym rest.servers.turn;
        out = λ s. stands.out s ∙ ap (log_calls_at s) (sym rest.out);
        known = λ n o e.
            subst (λ f. AreFound (calls_so_far (run_of log) n) (f n) (new.stamps n)) (sym same.found)
            (subst (λ st. AreFound (calls_so_far (run_of log) n) (stands.beside.found n) st) (sym (rest.found n)) (stands.known n o e));
        unknown = λ n high. rest.found n ∙ stands.unknown n (omega (arith, was, now, high));
        commands = rest.counts.commands ∙ stands.commands;
        stale = rest.counts.stale ∙ stands.stale;
        last = λ key. rest.counts.last key ∙ stands.last key;
      };
      streams = λ c. refl;
      given = λ c. refl;
      all = ap (λ b. cond b (given_of log client ++ bytes) (given_of log client)) (eq-eqb client client refl) ∙ leads.follows.0 ∙ ap (λ (l : CoreLimits). output_of (version_by l) log client) (g.6 ∙ stands.limits);
      story = refl;
      left = record { front = λ c. refl; queue = λ c. refl; output = λ c. refl; owner = λ n. refl };
    }
