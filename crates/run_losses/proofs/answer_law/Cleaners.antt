-- Each event of the cleaner: where it answers that a segment is lost, it has said so before, and the item had begun; and it says so only while it scans its
-- log.
use Rattle.std.proofs.Common.{None}
use Rattle.cleaner_node.specs.CleanerEvents.{Went_to, lasting_of, takes}
use Rattle.cleaner_node.specs.declared.cleaner.Cleaner.{Cleaner}
use Rattle.cleaner_node.specs.declared.cleaner.Phase.{Phase}
use Rattle.node_base.specs.declared.items.Items.{Items}
use Rattle.version_model.specs.declared.answer.Answer.TheVariants as answer
use Rattle.wire_msg.specs.declared.packet.Do.{Do}
use Rattle.xfs_base.specs.declared.node.NodeId.TheVariants as nodes
use Rattle.node_base.specs.declared.effects.Effect.TheVariants.{Lose}
use Rattle.token_protocol.specs.Basics.{In}
use Rattle.version_model.specs.declared.answer.Answer.{Answer}
use Rattle.xfs_base.specs.declared.segment.SegName.{SegName}
use Rattle.serving_moves.proofs.item_moves.Cleaners as moving
use Rattle.serving_moves.proofs.item_moves.Reading.{event_tells}
use Rattle.serving_moves.specs.item_moves.Events.{cleaner_losses}
use Rattle.serving_moves.specs.item_moves.Moves.{IsCleaners, IsPrompt, MayTell}
use Rattle.run_losses.proofs.answer_law.Events.{event_told}
use Rattle.run_losses.proofs.answer_law.Items.{Goes, event_goes}
use Rattle.run_losses.proofs.answer_law.Telling.{Told, items_so, losses_said}
use Rattle.run_losses.specs.answer_law.Answers.{IsBegunBy}
use Rattle.run_losses.specs.answer_law.Calls.{NotLost}
use Rattle.run_losses.specs.answer_law.Runs.{TheCleanerSays}

abbrev pub items_in : Phase → Items
items_in p = (lasting_of p).items

-- the items are those before, of which one more may have begun, and what it answers to be lost it has said to be lost, of an item that had begun
pub record Turned (p : Phase) (what : Do) (w : Went_to) : Type 0 where
  pub items : Goes (items_in p) (items_in w.state) what
  pub told : Told (IsBegunBy (items_in p) what) None w.outs
  pub tells : (name : SegName) → In (Lose name) w.outs → MayTell (cleaner_losses p)

cleaners_not_lost : (a : Answer) → IsCleaners a → NotLost a
cleaners_not_lost (answer.Lost name) so = so
cleaners_not_lost _ so = tt

pub cleaner_turned : (c : Cleaner) (what : Do) → Turned c.phase what (takes c.peers c.phase what)
cleaner_turned c what =
    let w : Went_to = takes c.peers c.phase what in
    let t = moving.cleaner_turned c what in
    record {
      items = event_goes (cleaner_losses c.phase) IsCleaners IsPrompt (items_in c.phase) what (items_in w.state) w.outs t.event;
      told = event_told (cleaner_losses c.phase) IsCleaners cleaners_not_lost (items_in c.phase) what (items_in w.state) w.outs t.event;
      tells = λ name among.
          event_tells (cleaner_losses c.phase) IsCleaners IsPrompt name (items_in c.phase) (items_in w.state) what w.outs t.event among;
    }

pub the_cleaner_says : TheCleanerSays
the_cleaner_says c what =
    let t : Turned c.phase what (takes c.peers c.phase what) = cleaner_turned c what in
    record {
      said = losses_said (IsBegunBy (items_in c.phase) what) nodes.Cleaner (takes c.peers c.phase what).outs t.told;
      begun = items_so (IsBegunBy (items_in c.phase) what) nodes.Cleaner (takes c.peers c.phase what).outs t.told;
    }
