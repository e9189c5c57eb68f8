-- The scene before the first event: no client has begun an item or knows of a block, all logs, slots and shelves are empty.
use Rattle.std.specs.Prelude.{[], None, replicate}
use Rattle.client_node.specs.Serving.{empty_end}
use Rattle.token_manager.specs.SlotState.{SlotState}
use Rattle.token_manager.specs.Transition.{slot_start}
use Rattle.quiet_nodes.specs.Scene.{ClientPart, Scene}

abbrev pub first_part : ClientPart
first_part = record {
  asked = 0;
  begun = 0;
  item = None;
  req = 0;
  blocks = [];
  end = empty_end;
  dirty = [];
  flight = None;
  filed = [];
  fed = 0;
  acked = replicate 8 0;
  cached = [];
  call = None;
}

abbrev pub first_slot : SlotState
first_slot = slot_start 1 [] [] (replicate 9 0)

abbrev pub start_scene : Scene
start_scene = record { client = λ c. first_part; slot = λ i. first_slot; held = λ v. [] }
