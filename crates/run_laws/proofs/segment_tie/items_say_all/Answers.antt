use Rattle.run_laws.proofs.segment_tie.Contents.{telling_setting}
use Rattle.run_laws.proofs.segment_tie.Items.{alike, nothing_is}
use Rattle.run_laws.proofs.segment_tie.items_say_all.Goals as goal

pub returns : goal.returns
returns c = record { nothing = nothing_is; alike = alike; setting = telling_setting }
