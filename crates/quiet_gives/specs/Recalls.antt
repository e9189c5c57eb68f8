-- The packets by which a block is taken back: a recall to each of its holders, and the word of each that it gave the block up. And what of clients and of the
-- block's slot they change, where the holders are clean.
use Rattle.std.specs.Prelude.{◌+◌, ℕ, Bool, List, [], ◌∷◌, if◌then◌else◌}
use Rattle.coop_cache.specs.Transition.{without}
use Rattle.slot_beliefs.specs.Beliefs.{give_way, holder}
use Rattle.slot_beliefs.specs.declared.job.Awaited.{Awaited}
use Rattle.slot_beliefs.specs.declared.job.Holder.{Holder}
use Rattle.slot_beliefs.specs.declared.job.Wanted.{Wanted}
use Rattle.slot_beliefs.specs.Recalls.{stamp}
use Rattle.token_client.specs.Held.{give_up as given_held}
use Rattle.token_client.specs.declared.held.Held.{Held}
use Rattle.token_client.specs.State.{held_of, put_held}
use Rattle.token_manager.specs.SlotState.{SlotState}
use Rattle.version_model.specs.declared.work.Work.{Work}
use Rattle.wire_msg.specs.declared.body.Body.TheVariants as body
use Rattle.wire_msg.specs.declared.packet.Packet.{Packet}
use Rattle.xfs_base.specs.Blocks.{slot_of}
use Rattle.xfs_base.specs.declared.block.BlockId.{BlockId}
use Rattle.xfs_base.specs.declared.node.NodeId.{NodeId}
use Rattle.xfs_base.specs.declared.node.NodeId.TheVariants.{Client, Manager}
use Rattle.xfs_base.specs.declared.setup.Setup.{Setup}
use Rattle.xfs_base.specs.Modes.{is_nothing}
use Rattle.quiet_nodes.specs.Scene.{ClientPart, Scene, manager_of_slot, put_number}

module _ (setup : Setup) (works : NodeId → List Work) (b : BlockId) (keep : Bool) where
  -- the manager of the block's slot
  abbrev pub its_manager : ℕ
  its_manager = manager_of_slot setup works (slot_of b.ino.0)

  -- ---- packets

  -- a client is to give the block up, under a turn of the first epoch
  abbrev pub recall_to : ℕ → ℕ → Packet
  recall_to turn d = record {
    from = Manager its_manager;
    to = Client d;
    clock = 0;
    body = body.Recall (record { block = b; stamp = stamp 1 turn; keep = keep });
  }

  -- each of these is, under the turns after this one
  abbrev pub recalls_to : ℕ → List ℕ → List Packet
  recalls_to turn [] = []
  recalls_to turn (d ∷ ds) = recall_to (turn + 1) d ∷ recalls_to (turn + 1) ds

  -- it gave it up; what it wrote lies in its log up to this end
  abbrev pub gave_by : ℕ → ℕ → ℕ → Packet
  gave_by turn d end = record {
    from = Client d;
    to = Manager its_manager;
    clock = 0;
    body = body.Gave (record { block = b; stamp = stamp 1 turn; end = end });
  }

  -- each of these did, and its log ends there
  abbrev pub gaves_by : (ℕ → ℕ) → ℕ → List ℕ → List Packet
  gaves_by ends turn [] = []
  gaves_by ends turn (d ∷ ds) = gave_by (turn + 1) d (ends d) ∷ gaves_by ends (turn + 1) ds

  -- ---- clients

  -- what a client knows of the block then
  abbrev pub gives_held : ℕ → Held → Held
  gives_held turn h = given_held h (stamp 1 turn) keep

  -- a client that gave the block up; where it isn't held any more, it isn't cached
  abbrev pub gives_part : ℕ → ClientPart → ClientPart
  gives_part turn p = record p {
    blocks = put_held p.blocks b (gives_held turn (held_of p.blocks b));
    cached = if is_nothing (gives_held turn (held_of p.blocks b)).mode then without b p.cached else p.cached;
  }

  -- the clients once each of these did, and the scene then
  abbrev pub clients_gave : (ℕ → ClientPart) → ℕ → List ℕ → ℕ → ClientPart
  clients_gave clients turn [] = clients
  clients_gave clients turn (d ∷ ds) = clients_gave (put_number clients d (gives_part (turn + 1) (clients d))) (turn + 1) ds

  abbrev pub all_gave : Scene → ℕ → List ℕ → Scene
  all_gave s turn ds = record s { client = clients_gave s.client turn ds }

-- ---- the slot

-- who is believed to hold blocks once each of these gave this one up
abbrev pub all_given_up : BlockId → Bool → List (Holder × Bool) → List ℕ → List (Holder × Bool)
all_given_up b keep beliefs [] = beliefs
all_given_up b keep beliefs (d ∷ ds) = all_given_up b keep (give_way beliefs (holder b d) keep) ds

-- a want waits alone for its block, with these recalls; this is believed meanwhile
abbrev pub waiting_slot : SlotState → Wanted → List Awaited → List (Holder × Bool) → SlotState
waiting_slot z want awaited beliefs =
    record z { beliefs = beliefs; jobs = (want.block, record { want = want; awaited = awaited }) ∷ [] }
