use Rattle.std.proofs.Common.{◌≡◌, ◌-◌}
use Rattle.std.specs.List.{list_all, range_with_len}
use Rattle.node_base.specs.Room.{has_room}
use Rattle.token_client.specs.State.{epoch_of}
use Rattle.xfs_base.specs.Limits.{slot_count}
use Rattle.client_node.proofs.room.epochs_have_room.Given as goal

-- those so far have room, so all depends on those to come
abbrev pub invariant-loop-slot : goal.invariant-loop-slot
invariant-loop-slot l =
    list_all (λ slot. has_room (epoch_of l.tokens.epochs slot)) (range_with_len l.slot (slot_count - l.slot)) ≡ list_all
    (λ slot. has_room (epoch_of l.tokens.epochs slot)) (range_with_len 0 slot_count)
