use Rattle.run_laws.proofs.world_logs.Horizons.{horizons_reached}
use Rattle.run_laws.proofs.world_logs.Texts.{texts_of}
use Rattle.run_laws.proofs.world_logs.Laws.{Below, cleaners_log_stands, logs_stand, managers_logs_stand, runs_have_lines, runs_list_their_logs}
use Rattle.run_laws.specs.world_logs.Lines.{RunsHaveLines}
use Rattle.run_laws.proofs.world_logs.runs_keep_logs.Goals as goal
use Rattle.run_laws.specs.world_logs.Horizons.{RunsReachHorizons}

pub returns : goal.returns
returns c =
    let below : Below = record { nodes = c.logs_are_seen.ensures; groups = c.groups_stay_as_made.ensures; setting = c.settings_exist.ensures } in
    let horizons : RunsReachHorizons = horizons_reached below.nodes.tokens c.nodes_tell_what_is_filed.ensures in
    let lines : RunsHaveLines = runs_have_lines below.nodes below.groups horizons in
    record {
      horizons = horizons;
      lines = lines;
      lists = runs_list_their_logs below horizons;
      texts = λ base e ok all. texts_of below.nodes.logs.one_text below.nodes.logs.own base e ok all;
      keeps = λ e ok run. logs_stand below e ok run (lines below.setting.0 e ok run);
      cleaners = λ e ok run. cleaners_log_stands below e ok run (lines below.setting.0 e ok run);
      managers = λ e ok run. managers_logs_stand below e ok run (lines below.setting.0 e ok run);
    }
