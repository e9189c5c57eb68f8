use Rattle.run_answers.proofs.own_law.Clients.{each_acts}
use Rattle.run_answers.proofs.own_law.clients_act_for_their_items.Goals as goal
use Rattle.run_answers.proofs.own_law.Others.{others_act}
use Rattle.run_answers.proofs.own_law.Runs.{runs_act}
use Rattle.run_answers.proofs.own_law.Answered.{each_answered}
use Rattle.run_answers.proofs.own_law.Since.{each_has_run}

pub returns : goal.returns
returns c = record { events = each_acts; others = others_act; runs = runs_act; calls = each_has_run; answered = each_answered }
