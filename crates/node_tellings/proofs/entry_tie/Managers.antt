-- Whatever happens to a manager, what it holds of where blocks lie is told, and so is what it tells of it.
use Rattle.std.proofs.Common.{ℕ, ◌==◌, List, inr, refl}
use Rattle.std.specs.Prelude.{Option, Some, None, IfSome}
use Rattle.std.specs.List.{AllByRecursion}
use Rattle.checkpoint.specs.WriterState.{WorkState}
use Rattle.log_flight.specs.Flights.{FlightState}
use Rattle.manager_map.specs.Slots.{manager_map_start, entry_at}
use Rattle.manager_node.specs.declared.manager.Manager.{Manager}
use Rattle.manager_node.specs.declared.phase.Phase.{Phase}
use Rattle.manager_node.specs.declared.phase.Phase.TheVariants.{Down, Waiting, Serving as Serves}
use Rattle.manager_node.specs.Events.{manager_start, manager_step, happens}
use Rattle.manager_node.specs.Phases.{lasting_of}
use Rattle.manager_slots.specs.declared.slot_phase.SlotPhase.{SlotPhase}
use Rattle.manager_slots.specs.declared.slot_phase.SlotPhase.TheVariants as phase
use Rattle.manager_slots.specs.Slots.{first_active}
use Rattle.manager_slots.specs.SlotTable.{first_phase}
use Rattle.segment_format.specs.declared.segment.Item.{Item}
use Rattle.segment_format.specs.declared.segment.Item.TheVariants.{Block, Delta, Part}
use Rattle.version_model.specs.declared.work.Work.{Work}
use Rattle.wire_msg.specs.declared.packet.Do.{Do}
use Rattle.xfs_base.proofs.Booleans.{by_test}
use Rattle.xfs_base.specs.Blocks.{slot_of}
use Rattle.xfs_base.specs.declared.block.BlockId.{BlockId}
use Rattle.xfs_base.specs.declared.entry.Entry.{Entry}
use Rattle.xfs_base.specs.declared.node.NodeId.TheVariants.{Manager as AManager}
use Rattle.xfs_base.specs.declared.setup.Setup.{Setup}
use Rattle.xfs_base.proofs.Alls.{all_weaker}
use Rattle.node_tellings.specs.entry_tie.ManagerTells.{SlotHolds, WorkHolds, PartTold, FlightHolds, PhaseHolds, ManagerHolds, DoOwed, ManagerStartsTold, ManagerHoldsRise, ManagersTellTold}
use Rattle.node_tellings.specs.entry_tie.Told.{Told, RowsTold, PacketTold, DoTold, told_by_rows, TellsTold}
use Rattle.node_tellings.proofs.entry_tie.Told.{AllowsNothing}
use Rattle.node_tellings.proofs.entry_tie.Rising.{told_more, rows_rise}
use Rattle.node_tellings.proofs.entry_tie.ManagerWalk as walked
use Rattle.node_moves.proofs.manager_walk.Events.{manager_goes, packets_so}

-- ---- the start

module _ (told : Told) where
  -- the index of a slot that is managed from the start on is empty
  pub first_holds : (number : ℕ) (setup : Setup) (works : List Work) → ManagerHolds told (manager_start number setup works)
  first_holds number setup works = record {
    slots = (one 0, (one 1, (one 2, (one 3, (one 4, (one 5, (one 6, (one 7, tt))))))));
    pages = tt;
    log = record { clear = refl; flight = tt };
  }
    where
      one : (slot : ℕ) → SlotHolds told (first_phase number (manager_map_start setup.managers) slot)
      one slot =
          by_test (SlotHolds told) ((entry_at (manager_map_start setup.managers) (slot_of slot)).manager == number) first_active (phase.Away 1)
          (λ _. tt) (λ _. tt)

-- ---- the law

-- of any entries that are told
pub any_manager_tells : (told : Told) → AllowsNothing told → (m : Manager) (what : Do) → ManagerHolds told m → DoTold told what → DoOwed told m.phase what
    → TellsTold (ManagerHolds told) told (manager_step m what)
any_manager_tells told nothing m what h fact owed =
    let its = walked.walk told nothing in
    let d = manager_goes its m what (walked.stands told nothing m.phase h) (walked.flies told nothing m.phase) (walked.known told nothing m.phase what fact owed)
    in
    record {
      node = walked.holds told nothing (happens m what).state d.state;
      packets = packets_so its (PacketTold told) (AManager (lasting_of m.phase).number) (λ to b tells. tells) (happens m what).outs d.outs;
    }

pub managers_tell : ManagersTellTold
managers_tell rows m what h fact owed = any_manager_tells (told_by_rows rows) (λ block. inr refl) m what h fact owed

pub manager_starts : ManagerStartsTold
manager_starts rows number setup works = first_holds (told_by_rows rows) number setup works

module _ (told later : Told) (more : (block : BlockId) (entry : Entry) → told block entry → later block entry) where
  all_rise : (all : List (List (BlockId × Entry))) → AllByRecursion (RowsTold told) all → AllByRecursion (RowsTold later) all
  all_rise all h = all_weaker (RowsTold told) (RowsTold later) (rows_rise told later more) all h

  slot_rises : (p : SlotPhase) → SlotHolds told p → SlotHolds later p
  slot_rises (phase.Active a) h = rows_rise told later more a.slot.index.rows h
  slot_rises (phase.Taking t) h = record { index = rows_rise told later more t.take.index h.index; chain = all_rise t.take.chain h.chain }
  slot_rises (phase.Away epoch) h = tt
  slot_rises (phase.Broken epoch seg) h = tt

  part_rises : (item : Item) → PartTold told item → PartTold later item
  part_rises (Block block value) fact = absurd fact
  part_rises (Delta block ver hop item) fact = absurd fact
  part_rises (Part slot rows) fact = rows_rise told later more rows fact

  flight_rises : (o : Option FlightState) → IfSome o (FlightHolds told) → IfSome o (FlightHolds later)
  flight_rises None h = tt
  flight_rises (Some f) h = all_weaker (PartTold told) (PartTold later) part_rises f.segment.items h

  work_rises : (o : Option WorkState) → IfSome o (WorkHolds told) → IfSome o (WorkHolds later)
  work_rises None h = tt
  work_rises (Some w) h = all_rise w.left h

  pub phase_rises : (p : Phase) → PhaseHolds told p → PhaseHolds later p
  phase_rises (Down kept) h = tt
  phase_rises (Waiting kept hello) h = tt
  phase_rises (Serves s) h =
      let log = h.log in
      record {
        slots = all_weaker (SlotHolds told) (SlotHolds later) slot_rises s.slots h.slots;
        pages = work_rises s.writer.work h.pages;
        log = record { clear = log.clear; flight = flight_rises s.log.flight log.flight };
      }

pub manager_rises : ManagerHoldsRise
manager_rises rows later m more h = phase_rises (told_by_rows rows) (told_by_rows later) (told_more rows later more) m.phase h
