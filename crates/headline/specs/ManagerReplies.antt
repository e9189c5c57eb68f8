-- What a manager that serves does in the event in which the cleaner asks it, or a client wants a block of a slot that it cannot serve.
use Rattle.std.specs.Prelude.{◌≡◌, ℕ, Bool, true, false, List, [], ◌∷◌, Option, Some, slice_get}
use Rattle.manager_node.specs.declared.manager.Manager.{Manager}
use Rattle.manager_node.specs.declared.phase.Phase.TheVariants.{Serving as Serves}
use Rattle.manager_serving.specs.declared.serving.Serving.{Serving}
use Rattle.manager_serving.specs.Serving.{client_in}
use Rattle.manager_slots.specs.declared.slot_phase.Active.{Active}
use Rattle.manager_slots.specs.declared.slot_phase.SlotPhase.{SlotPhase}
use Rattle.manager_slots.specs.declared.slot_phase.SlotPhase.TheVariants as phase
use Rattle.node_base.specs.Known.{names_known_groups}
use Rattle.token_manager.specs.Transition.{entry_at, is_place}
use Rattle.wire_msg.specs.declared.body.Body.{Body}
use Rattle.wire_msg.specs.declared.body.Body.TheVariants as body
use Rattle.wire_msg.specs.declared.cleaning.Check.{Check}
use Rattle.wire_msg.specs.declared.cleaning.UsageAsk.{UsageAsk}
use Rattle.wire_msg.specs.declared.packet.Packet.{Packet}
use Rattle.wire_msg.specs.declared.tokens.Want.{Want}
use Rattle.xfs_base.specs.Blocks.{slot_of}
use Rattle.xfs_base.specs.declared.node.NodeId.{NodeId}
use Rattle.xfs_base.specs.declared.node.NodeId.TheVariants as nodes

-- of a manager that serves, and of what it sends
module _ (s : Serving) (packets : List Packet) where
  -- one packet goes out, to this node, which says this
  abbrev pub Says : NodeId → Body → Type 0
  Says to said = packets ≡ record { from = nodes.Manager s.lasting.number; to = to; clock = 0; body = said } ∷ []

  -- asked whether a block lies at a place, of a slot that it manages: that it does, with its entry, or that it doesn't
  abbrev pub IsFound : Check → Active → Bool → Type 0
  IsFound check active true =
      Says nodes.Cleaner
      (body.Live (record { block = check.block; ask = check.ask; epoch = active.slot.epoch; entry = entry_at active.slot check.block }))
  IsFound check active false = Says nodes.Cleaner (body.Dead (record { block = check.block; ask = check.ask; epoch = active.slot.epoch }))

  -- of another slot it says nothing
  abbrev pub IsChecked : Check → Option SlotPhase → Type 0
  IsChecked check (Some (phase.Active active)) = IsFound check active (is_place (entry_at active.slot check.block).place check.place)
  IsChecked check _ = packets ≡ []

  -- asked for the counts of a slot that it manages: those of its index; of another it says nothing
  abbrev pub IsCounted : UsageAsk → Option SlotPhase → Type 0
  IsCounted asked (Some (phase.Active active)) =
      Says nodes.Cleaner (body.Usage (record { slot = asked.slot; ask = asked.ask; epoch = active.slot.epoch; counts = active.slot.index.usage }))
  IsCounted asked _ = packets ≡ []

  -- a client wants a block of a slot whose index needs a segment that is lost: that it is gone
  abbrev pub IsRefused : Want → Option ℕ → Option SlotPhase → Type 0
  IsRefused want (Some client) (Some (phase.Broken epoch seg)) =
      Says (nodes.Client client) (body.Gone (record { block = want.block; epoch = epoch; inc = want.inc; req = want.req; seg = seg }))
  IsRefused want _ _ = Unit {0}

  abbrev pub TellsAsker : NodeId → Body → Type 0
  TellsAsker asker (body.Check check) = IsChecked check (slice_get s.slots (slot_of check.block.ino.0))
  TellsAsker asker (body.UsageAsk asked) = IsCounted asked (slice_get s.slots asked.slot)
  TellsAsker asker (body.Want want) = IsRefused want (client_in asker) (slice_get s.slots (slot_of want.block.ino.0))
  TellsAsker asker _ = Unit {0}

-- So it is where it serves, and a packet comes that names no group that it doesn't know.
abbrev pub ManagerReplies : Manager → Packet → List Packet → Type 0
ManagerReplies m packet packets = (s : Serving) → m.phase ≡ Serves s → names_known_groups s.maps packet.body ≡ true → TellsAsker s packets packet.from packet.body
