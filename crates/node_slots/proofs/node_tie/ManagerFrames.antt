-- How a manager is seen depends on the slots that it holds and on what was sent alone: what others do leaves it as it was.
use Rattle.std.proofs.Common.{◌≡◌, ◌≤◌, ℕ, List, refl, ◌∙◌, arith}
use Rattle.xfs_base.specs.declared.block.BlockId.{BlockId}
use Rattle.xfs_base.specs.declared.node.NodeId.{NodeId}
use Rattle.xfs_base.specs.declared.node.NodeId.TheVariants.{Client, Cleaner}
use Rattle.xfs_base.specs.declared.segment.End.{End}
use Rattle.xfs_base.specs.declared.token.Mode.{Mode}
use Rattle.token_law.specs.Net.{Net}
use Rattle.manager_node.specs.declared.phase.Phase.{Phase}
use Rattle.manager_node.specs.declared.phase.Phase.TheVariants.{Down, Waiting, Serving as Serves}
use Rattle.manager_slots.specs.declared.slot_phase.SlotPhase.{SlotPhase}
use Rattle.manager_slots.specs.declared.slot_phase.SlotPhase.TheVariants as phase
use Rattle.node_slots.specs.node_tie.ManagerEvents.{HeldAt, ReportKnown, PhaseAgrees, ManagerAgrees}
use Rattle.headline.specs.Managers.{slot_in}
use Rattle.node_slots.proofs.node_tie.ManagerMoves.{Grows}

up_to : (a b c : ℕ) → a ≤ b → b ≤ c → a ≤ c
up_to a b c h g = omega arith

module _ (members part : ℕ) (n m : Net) (grows : Grows n m) (promises : n.promised ≤ m.promised) where
  report_on : (epoch : ℕ) (node : NodeId) (held : List (BlockId × Mode)) (end : End) → ReportKnown members part n epoch node held end
      → ReportKnown members part m epoch node held end
  report_on epoch (Client c) held end known = (known.0, known.1, grows _ known.2)
  report_on epoch Cleaner held end known = up_to epoch n.promised m.promised known promises
  report_on epoch _ held end known = tt

  phase_on : (p : SlotPhase) → ((e : ℕ) → HeldAt p e → m.slots e ≡ n.slots e) → PhaseAgrees members part n p → PhaseAgrees members part m p
  phase_on (phase.Taking t) same agrees = record {
    free = same t.epoch refl ∙ agrees.free;
    slot = agrees.slot;
    epoch = agrees.epoch;
    clients = agrees.clients;
    reported = λ r fact. report_on t.epoch r.from r.held r.end (agrees.reported r fact);
    once = agrees.once;
    ready = agrees.ready;
  }
  phase_on (phase.Active a) same agrees = record {
    slot = agrees.slot;
    there = same a.slot.epoch refl ∙ agrees.there;
    same = agrees.same;
    nine = agrees.nine;
  }
  phase_on (phase.Away epoch) same agrees = tt
  phase_on (phase.Broken epoch seg) same agrees = tt

  -- what others do: the slots that this manager holds stay, and what was sent stays sent
  pub manager_on : (j : ℕ) (p : Phase) → ((e : ℕ) → HeldAt (slot_in part p) e → m.slots e ≡ n.slots e) → ManagerAgrees members part n j p
      → ManagerAgrees members part m j p
  manager_on j (Serves s) same agrees = record {
    number = agrees.number;
    table = record { eight = agrees.table.eight; here = phase_on (slot_in part (Serves s)) same agrees.table.here; there = agrees.table.there };
  }
  manager_on j (Down kept) same agrees = agrees
  manager_on j (Waiting kept hello) same agrees = agrees
