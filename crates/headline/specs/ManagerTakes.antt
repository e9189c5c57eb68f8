-- What a manager that serves does in the event in which a client wants a block of a slot that it manages, or has given one up, or in which a log tells where blocks of
-- the slot lie.
use Rattle.std.specs.List.{AllByRecursion, list_any}
use Rattle.std.specs.Prelude.{◌≡◌, ◌⊎◌, ◌+◌, ℕ, Bool, true, false, not, List, [], ◌∷◌, Option, Some, None, length, map, slice_get}
use Rattle.core_world.specs.declared.any_node.AnyNode.{AnyNode}
use Rattle.manager_node.specs.declared.manager.Manager.{Manager}
use Rattle.manager_node.specs.declared.phase.Phase.TheVariants.{Serving as Serves}
use Rattle.manager_serving.specs.declared.serving.Serving.{Serving}
use Rattle.manager_serving.specs.Serving.{client_in, fed_log}
use Rattle.manager_slots.specs.declared.slot_phase.SlotPhase.TheVariants as phase
use Rattle.manager_slots.specs.declared.slot_phase.SlotPhase.{SlotPhase}
use Rattle.node_base.specs.Known.{names_known_groups}
use Rattle.slot_beliefs.specs.Beliefs.{others}
use Rattle.slot_beliefs.specs.declared.job.Awaited.{Awaited}
use Rattle.slot_beliefs.specs.declared.job.Job.{Job}
use Rattle.slot_beliefs.specs.declared.job.Wanted.{Wanted}
use Rattle.slot_beliefs.specs.Recalls.{answers, applied_of, applied_upto, is_followed, is_ready, job_at, noted}
use Rattle.token_manager.specs.SlotState.{SlotState}
use Rattle.token_manager.specs.Transition.{can_apply, entry_at, given, has_turns, is_dropped, joins_on, passers, want_of}
use Rattle.token_protocol.specs.Basics.{In}
use Rattle.wire_msg.specs.declared.body.Body.{Body}
use Rattle.wire_msg.specs.declared.body.Body.TheVariants as body
use Rattle.wire_msg.specs.declared.deltas.Deltas.{Deltas}
use Rattle.wire_msg.specs.declared.packet.Packet.{Packet}
use Rattle.wire_msg.specs.declared.tokens.Gave.{Gave}
use Rattle.wire_msg.specs.declared.tokens.Want.{Want}
use Rattle.wire_msg.specs.NodeStep.{NodeStep}
use Rattle.xfs_base.specs.Blocks.{slot_of}
use Rattle.xfs_base.specs.declared.segment.LogId.{LogId}
use Rattle.xfs_base.specs.declared.node.NodeId.{NodeId}
use Rattle.xfs_base.specs.declared.node.NodeId.TheVariants as nodes
use Rattle.xfs_base.specs.declared.token.Stamp.{Stamp}
use Rattle.xfs_base.specs.Logs.{block_writer}
use Rattle.xfs_base.specs.Modes.{is_own}
use Rattle.headline.specs.Managers.{active_of}

-- of a manager that serves, and of its step
module _ (s : Serving) (step : NodeStep AnyNode) where
  -- what it says to a node
  abbrev pub said_to : NodeId → Body → Packet
  said_to to said = record { from = nodes.Manager s.lasting.number; to = to; clock = 0; body = said }

  -- A want is met in a slot that stands so: under a new stamp the block is granted, with what the index holds of it; or a client that is believed to hold a copy is to
  -- pass that on.
  pub record IsMet (w : Wanted) (slot : SlotState) : Type 0 where
    pub stamp : Stamp
    pub of_epoch : stamp.epoch ≡ slot.epoch
    pub of_turn : stamp.turn ≡ slot.turn + 1
    pub says : (step.packets
        ≡ said_to (nodes.Client w.client)
        (body.Grant (record { block = w.block; stamp = stamp; inc = w.inc; req = w.req; mode = w.mode; entry = entry_at slot w.block }))
        ∷ [])
        ⊎ ((holder : ℕ)
        × (In holder (passers slot w)
        × (step.packets
        ≡ said_to (nodes.Client holder)
        (body.Forward (record { block = w.block; stamp = stamp; to = w.client; inc = w.inc; req = w.req; ver = (entry_at slot w.block).ver }))
        ∷ [])))

  -- of a slot that it manages, of which a client wants a block
  module _ (client : ℕ) (want : Want) (slot : SlotState) where
    abbrev pub wanted : Wanted
    wanted = want_of client want.block want.inc want.req want.again want.mode

    -- the others that must give the block up: whoever is believed to hold it, where it is to be written; where it is to be read, whoever is believed to own it
    abbrev pub barring : List ℕ
    barring = others slot.beliefs want.block client (not (is_own want.mode))

    -- each of those that bar it is asked to give the block up, and the want waits for all of them
    pub record IsBarred : Type 0 where
      pub now : SlotState
      pub behind : active_of (slot_of want.block.ino.0) (Some step.node) ≡ Some now
      pub job : Job
      pub waits : job_at now.jobs want.block ≡ Some job
      pub wants : job.want ≡ wanted
      pub from : map (λ (a : Awaited). a.client) job.awaited ≡ barring
      pub unanswered : AllByRecursion (λ (a : Awaited). a.end ≡ None) job.awaited
      pub says : step.packets
          ≡ map (λ (a : Awaited). said_to (nodes.Client a.client) (body.Recall (record { block = want.block; stamp = a.stamp; keep = a.keep })))
          job.awaited

    pub record TakesWant : Type 0 where
      -- nothing is said where it wants nothing, another want of the block waits, or the asker's log isn't applied up to the end that it names
      pub dropped : is_dropped slot wanted want.end ≡ true → step.packets ≡ []
      -- else it is met, where nobody bars it
      pub met : is_dropped slot wanted want.end ≡ false → barring ≡ [] → IsMet wanted slot
      -- and where some do, while so many turns are left, it waits for these
      pub barred : is_dropped slot wanted want.end ≡ false → (barring ≡ [] → ⊥) → has_turns slot.turn (length barring) ≡ true → IsBarred

  -- of a slot that it manages, of which a client has given a block up for a want that waits
  module _ (client : ℕ) (gave : Gave) (slot : SlotState) (job : Job) where
    -- it answers a recall that is out
    abbrev pub answers_one : Bool
    answers_one = list_any (answers client gave.stamp) job.awaited

    abbrev pub with_answer : List Awaited
    with_answer = noted job.awaited client gave.stamp gave.end

    -- the want waits on, with the answer noted
    pub record IsNoted : Type 0 where
      pub now : SlotState
      pub behind : active_of (slot_of gave.block.ino.0) (Some step.node) ≡ Some now
      pub waits : job_at now.jobs gave.block ≡ Some (record { want = job.want; awaited = with_answer })
      pub says : step.packets ≡ []

    pub record TakesGave : Type 0 where
      -- nothing is said where it answers none
      pub other : answers_one ≡ false → step.packets ≡ []
      -- where with it all have answered, and what each named of its log is applied, the want is met; the client has given way
      pub last : answers_one ≡ true → is_ready slot.applied with_answer ≡ true → IsMet job.want (given slot job.want client gave.block)
      pub more : answers_one ≡ true → is_ready slot.applied with_answer ≡ false → IsNoted

  abbrev pub GaveFor : ℕ → Gave → SlotState → Option Job → Type 0
  GaveFor client gave slot None = step.packets ≡ []
  GaveFor client gave slot (Some job) = TakesGave client gave slot job

  -- of a slot that it manages, of whose blocks a log tells
  module _ (log : LogId) (deltas : Deltas) (slot : SlotState) where
    -- the log's owner is told how much of it is applied
    abbrev pub acknowledged : ℕ → Packet
    acknowledged applied = said_to (block_writer log.0) (body.DeltaAck (record { slot = deltas.slot; epoch = slot.epoch; applied = applied }))

    -- so much more of the log is applied, which is told first
    pub record AreApplied : Type 0 where
      pub now : SlotState
      pub behind : active_of deltas.slot (Some step.node) ≡ Some now
      pub applied : now.applied ≡ applied_upto slot.applied log deltas.upto
      pub more : List Packet
      pub says : step.packets ≡ acknowledged deltas.upto ∷ more

    pub record TakesDeltas : Type 0 where
      -- what doesn't join on to what is applied, or leads no further, changes nothing
      pub known : joins_on (applied_of slot.applied log.0) deltas.first deltas.upto ≡ false
          → step.packets ≡ acknowledged (applied_of slot.applied log.0) ∷ []
      -- what does is applied, while turns are left for the wants that wait for it, and counts of live blocks can rise by it
      pub next : joins_on (applied_of slot.applied log.0) deltas.first deltas.upto ≡ true → can_apply slot log deltas.upto deltas.rows ≡ true → AreApplied

  abbrev pub WantIsTaken : Want → Option ℕ → Option SlotPhase → Type 0
  WantIsTaken want (Some client) (Some (phase.Active active)) = TakesWant client want active.slot
  WantIsTaken want _ _ = Unit {0}

  abbrev pub GaveIsTaken : Gave → Option ℕ → Option SlotPhase → Type 0
  GaveIsTaken gave (Some client) (Some (phase.Active active)) = GaveFor client gave active.slot (job_at active.slot.jobs gave.block)
  GaveIsTaken gave _ _ = Unit {0}

  abbrev pub DeltasAreTaken : Deltas → Option LogId → Option SlotPhase → Type 0
  DeltasAreTaken deltas (Some log) (Some (phase.Active active)) = is_followed log ≡ true → TakesDeltas log deltas active.slot
  DeltasAreTaken deltas _ _ = Unit {0}

  abbrev pub TakesBody : NodeId → Body → Type 0
  TakesBody asker (body.Want want) = WantIsTaken want (client_in asker) (slice_get s.slots (slot_of want.block.ino.0))
  TakesBody asker (body.Gave gave) = GaveIsTaken gave (client_in asker) (slice_get s.slots (slot_of gave.block.ino.0))
  TakesBody asker (body.Deltas deltas) = DeltasAreTaken deltas (fed_log asker) (slice_get s.slots deltas.slot)
  TakesBody asker _ = Unit {0}

-- So it is where it serves, and a packet comes that names no group that it doesn't know.
abbrev pub ManagerTakes : Manager → Packet → NodeStep AnyNode → Type 0
ManagerTakes m packet step =
    (s : Serving) → m.phase ≡ Serves s → names_known_groups s.maps packet.body ≡ true → TakesBody s step packet.from packet.body
