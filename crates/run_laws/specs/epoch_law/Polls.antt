-- A Poll that the owner of a log answers is of an epoch whose horizon is the registry's: nobody is active at a later epoch, so no checkpoint of one was kept.
use Rattle.std.specs.Prelude.{◌≡◌, ◌<◌, ◌≤◌, ℕ, suc, Bool, List, None}
use Rattle.checkpoint.specs.WriterState.{Rows}
use Rattle.cleaner_serving.specs.declared.emptying.Emptying.{Emptying}
use Rattle.cleaner_node.specs.declared.cleaner.Phase.TheVariants as cleaning
use Rattle.client_node.specs.declared.phase.Phase.TheVariants as clients
use Rattle.client_serving.specs.declared.serving.Serving.{Serving}
use Rattle.core_world.specs.declared.any_node.AnyNode.{AnyNode}
use Rattle.index_tie.specs.Net.{Net, Runs, opening}
use Rattle.headline.specs.Indexes.{of_log}
use Rattle.log_scan.specs.Transition.{least_horizon}
use Rattle.headline.specs.Filed.{Texts}
use Rattle.registry.specs.Board.{board_slots}
use Rattle.segment_format.specs.declared.segment.Segment.{Segment}
use Rattle.token_client.specs.State.{epoch_of}
use Rattle.token_protocol.specs.Basics.{In}
use Rattle.version_model.specs.declared.act.Act.{Act}
use Rattle.wire_msg.specs.declared.body.Body.TheVariants as body
use Rattle.wire_msg.specs.declared.deltas.Poll.{Poll}
use Rattle.wire_msg.specs.declared.packet.Packet.{Packet}
use Rattle.world_base.specs.declared.cluster.Cluster.{Cluster}
use Rattle.run_laws.specs.world_index.Standing as places
use Rattle.run_laws.specs.world_law.Standing as owners
use Rattle.xfs_base.specs.declared.segment.SegRef.{SegRef}
use Rattle.xfs_base.specs.Limits.{slot_count, block_logs}
use Rattle.run_laws.specs.epoch_law.Slots.{BothStand}

-- In each run of the small world of the index an epoch's horizon is the next one's, while nobody is active at that.
abbrev pub HorizonsStay : Type 0
HorizonsStay =
    (part : ℕ) (holds : SegRef → Rows) (first : ℕ → ℕ → Segment) (n : Net) → part < slot_count → Runs part holds (opening first) n → (e : ℕ) → e < n.epoch
    → n.slots (suc e) ≡ None → n.horizon (suc e) ≡ n.horizon e

-- a Poll of the slot was sent
pub record PollSent (part : ℕ) (sent : List Packet) (m : Poll) : Type 0 where
  pub packet : Packet
  pub among : In packet sent
  pub bears : packet.body ≡ body.Poll m
  pub of : m.slot ≡ part

-- the horizon of a log at an epoch is at or above the least one of the log that the registry keeps
abbrev pub IsLow : places.Scene → ℕ → ℕ → Type 0
IsLow i e l = least_horizon l (board_slots i.registry.board) ≤ of_log (i.net.horizon e) l

-- So it is of each log at an epoch that is polled, where a client that serves has promised no later one.
abbrev pub ClientPollsAreLow : Type 0
ClientPollsAreLow =
    (logs : Bool) (k : Cluster) (part : ℕ) (texts : Texts) (first : ℕ → ℕ → Segment) (nodes : List AnyNode) (sent : List Packet) (acts : List Act)
    (t : owners.Scene)
    (i : places.Scene) (c : ℕ) (s : Serving) (m : Poll) → part < slot_count → BothStand logs k part texts first nodes sent acts t i → 0 < c → c < owners.members k part
    → (t.client c).phase ≡ clients.Serving s → PollSent part sent m
    → epoch_of s.tokens.epochs part ≤ m.epoch → (l : ℕ) → 0 < l → l ≤ block_logs → IsLow i m.epoch l

-- And so it is where the cleaner serves, and has promised no later one.
abbrev pub CleanerPollsAreLow : Type 0
CleanerPollsAreLow =
    (logs : Bool) (k : Cluster) (part : ℕ) (texts : Texts) (first : ℕ → ℕ → Segment) (nodes : List AnyNode) (sent : List Packet) (acts : List Act)
    (t : owners.Scene)
    (i : places.Scene) (e : Emptying) (m : Poll) → part < slot_count → BothStand logs k part texts first nodes sent acts t i → t.cleaner.phase ≡ cleaning.Serving e
    → PollSent part sent m
    → epoch_of e.promised.epochs part ≤ m.epoch → (l : ℕ) → 0 < l → l ≤ block_logs → IsLow i m.epoch l
