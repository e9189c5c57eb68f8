-- What the cleaner writes after an event is the text of its name.
use Rattle.std.proofs.Common.{ℕ, suc}
use Rattle.cleaner_node.specs.CleanerEvents.{takes}
use Rattle.cleaner_node.specs.declared.cleaner.Cleaner.{Cleaner as CleanerNode}
use Rattle.index_tie.specs.Net.{Net}
use Rattle.node_slots.specs.owner_index_tie.CleanerEvents.{WritesTexts}
use Rattle.wire_msg.specs.declared.packet.Do.{Do}
use Rattle.run_laws.specs.world_lines.Flights.{CleanerWritesTexts}
use Rattle.headline.specs.Logs.Role.{OfCleaner}
use Rattle.run_laws.specs.world_reads.LoggedRuns.{LoggedRun}
use Rattle.run_laws.proofs.world_reads.CleanerMoment.{Steps, its_moment, its_scene, its_setting, owns}

pub writes_texts : CleanerWritesTexts → (logged : LoggedRun) (part count : ℕ) (node : CleanerNode) (what : Do) → Steps logged part count node what →
    (n : Net)
    → WritesTexts part logged.texts.text n (takes node.peers node.phase what).state
writes_texts law logged part count node what steps n =
    law logged.texts.text (its_setting logged part) (its_scene logged part (suc count))
    (takes node.peers node.phase what).state part n (its_moment logged part (suc count)) (logged.texts.flown OfCleaner tt (suc count))
    (owns logged part (suc count) _ steps.after).agrees
