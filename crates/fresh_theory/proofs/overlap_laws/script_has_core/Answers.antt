use Rattle.fresh_theory.proofs.ScriptRuns.{script_follows, script_streams, script_turns, script_loses}
use Rattle.fresh_theory.proofs.overlap_laws.script_has_core.Goals as goal

pub returns : goal.returns
returns g c log script =
    let x = g.S.HasStage.stage in
    record {
      follows = script_follows x.first x.words_of x.Bars x.opening x.version x.depth x.window x.text_of x.MaySpill log script;
      streams = script_streams x.first x.words_of x.Bars x.opening x.version x.depth x.window x.text_of x.MaySpill log script;
      turns = script_turns x.first x.words_of x.Bars x.opening x.version x.depth x.window x.text_of x.MaySpill log script;
      loses = script_loses x.first x.words_of x.Bars x.opening x.version x.depth x.window x.text_of x.MaySpill log script;
    }
