use Rattle.std.proofs.Common.{◌||◌, ap, sym, ◌∙◌}
use Rattle.run_chart.specs.Marks.{is_coming}
use Rattle.run_chart.specs.Moments.{is_there}
use Rattle.run_chart.proofs.Moments.{or_none}
use Rattle.run_chart.proofs.moment.Comings.note_event.Goals as goal

pub returns-in-Begin : goal.returns-in-Begin
returns-in-Begin c packet =
    let had = is_there c.args.self.now packet in
    sym (or_none had) ∙ ap (λ event. had || is_coming packet event) (sym c.in-Begin.is)

pub returns-in-Tick : goal.returns-in-Tick
returns-in-Tick c packet =
    let had = is_there c.args.self.now packet in
    sym (or_none had) ∙ ap (λ event. had || is_coming packet event) (sym c.in-Tick.is)
