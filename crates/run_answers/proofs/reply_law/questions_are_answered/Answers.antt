use Rattle.world_base.specs.Events.{what_of}
use Rattle.run_answers.proofs.reply_law.Runs.{each_answered}
use Rattle.run_answers.proofs.reply_law.questions_are_answered.Goals as goal

pub returns : goal.returns
returns c =
    let each = each_answered c.server_events_change_a_shelf_by_one_call.ensures in
    record { events = each; runs = λ e count event happens before was. each before (what_of event) }
