-- A get asks the block's manager, where nobody owns the block, and the client reads a copy by what comes of that: the get is answered, and the state is drained again.
use Rattle.std.proofs.Common.{◌≡◌, ℕ, ◌+◌, ◌<◌, ◌≤◌, true, cond, List, [], ◌∷◌, None, refl, ap, subst, arith}
use Rattle.core_world.specs.declared.any_node.AnyNode.{AnyNode}
use Rattle.quiet_flow.specs.Flow.{Stage}
use Rattle.quiet_gets.proofs.CopyDrained.{copy_drained, copy_named}
use Rattle.quiet_gets.proofs.CopyReading.{ReadsCopy}
use Rattle.quiet_gets.proofs.GetAsking as asking
use Rattle.quiet_gets.specs.Laws.{owners}
use Rattle.quiet_law.proofs.Beginning.{ends_by}
use Rattle.quiet_law.proofs.Waiting.{other_held}
use Rattle.quiet_law.specs.Drained.{Drained, most_steps}
use Rattle.quiet_law.specs.Lines.{Ends, IsNext, Stands}
use Rattle.quiet_nodes.proofs.Tests.{other_test, same_test}
use Rattle.quiet_nodes.specs.Moves.{Empties}
use Rattle.quiet_nodes.specs.Scene.{ClientPart, Scene, with_client, with_slot}
use Rattle.quiet_reads.proofs.Evicting.{OrGone}
use Rattle.slot_beliefs.specs.Recalls.{stamp}
use Rattle.token_client.specs.State.{held_of}
use Rattle.token_manager.specs.SlotState.{SlotState}
use Rattle.version_model.specs.declared.act.Act.{Act}
use Rattle.version_model.specs.declared.act.Act.TheVariants as acts
use Rattle.version_model.specs.declared.answer.Answer.TheVariants.{Got}
use Rattle.version_model.specs.declared.work.Work.{Work}
use Rattle.version_model.specs.declared.work.Work.TheVariants as work
use Rattle.wire_msg.specs.declared.packet.Packet.{Packet}
use Rattle.xfs_base.specs.Blocks.{slot_of}
use Rattle.xfs_base.specs.declared.block.BlockId.{BlockId}
use Rattle.xfs_base.specs.declared.entry.Entry.{Entry}
use Rattle.xfs_base.specs.declared.node.NodeId.{NodeId}
use Rattle.xfs_base.specs.declared.node.NodeId.TheVariants.{Client}
use Rattle.xfs_base.specs.declared.setup.Setup.{Setup}
use Rattle.xfs_base.specs.Modes.{is_nothing}

module _ (setup : Setup) (works : NodeId → List Work) (k : ℕ) (s : Scene) (c : ℕ) (d : Drained setup works k s) (few : k < most_steps) (b : BlockId)
    (next : IsNext setup works s c (work.Bget c b)) (asks : is_nothing (held_of (s.client c).blocks b).mode ≡ true) where
  abbrev p : ClientPart
  p = s.client c

  abbrev i : ℕ
  i = slot_of b.ino.0

  abbrev z_first : SlotState
  z_first = asking.z_first setup works k s c d few b next asks

  abbrev asked : ClientPart
  asked = asking.asked setup works k s c d few b next asks

  abbrev entry : Entry
  entry = asking.entry setup works k s c d few b next asks

  -- what the client reads its copy in
  abbrev pub base : Scene
  base = with_slot s i z_first

  module _ (packet : Packet) (most : ℕ) (r : ReadsCopy setup works base c asked b (p.begun + 1) entry.ver (stamp 1 ((s.slot i).turn + 1)) packet most) where
    abbrev last : ClientPart
    last = record asked { asked = r.asked; item = None; blocks = r.blocks; cached = r.cached; call = None }

    abbrev pub scene_read : Scene
    scene_read = with_client base c last

    abbrev pub acts_read : List Act
    acts_read = acts.Read c b entry.ver r.value ∷ acts.Answered (Client c) (p.begun + 1) (Got entry.ver r.value) ∷ []

    others_now : (x : BlockId) → (x ≡ b → ⊥) → OrGone (held_of p.blocks x) (held_of r.blocks x)
    others_now x differs =
        subst (λ g. OrGone g (held_of r.blocks x)) (other_held b (asking.first_held setup works k s c d few b next asks) p.blocks x differs) (r.others_as x differs)

    clients_now : (e : ℕ) → (e ≡ c → ⊥) → scene_read.client e ≡ s.client e
    clients_now e differs = ap (λ test. cond test last (s.client e)) (other_test e c differs)

    client_now : scene_read.client c ≡ last
    client_now = ap (λ test. cond test last (s.client c)) (same_test c)

    slots_now : (m : ℕ) → (m ≡ i → ⊥) → scene_read.slot m ≡ s.slot m
    slots_now m differs = ap (λ test. cond test z_first (s.slot m)) (other_test m i differs)

    slot_now : scene_read.slot i ≡ z_first
    slot_now = ap (λ test. cond test z_first (s.slot i)) (same_test i)

    pub ends_read : (t : Stage AnyNode) (stands : Stands setup works s t) → owners setup works s c b ≡ [] → (n count : ℕ) → n ≤ count
        → Empties setup works n (asking.s1 setup works k s c d few b next asks) (asking.want_packet setup works k s c d few b next asks ∷ []) acts_read scene_read
        → Ends setup works k count s t c (p.begun + 1)
    ends_read t stands unowned n count few_more empties =
        ends_by setup works k s scene_read t c (p.begun + 1) n count asked (asking.want_packet setup works k s c d few b next asks ∷ []) [] acts_read stands
        next.client.0 next.client.1 (asking.asks_so setup works k s c d few b next asks) empties few_more
        (copy_drained setup works k s c d next.client.0 next.client.1 b asks unowned ((s.slot i).turn + 1) (omega arith) (omega arith) r.asked r.asks_few r.blocks r.cached r.copy
        r.last_is others_now r.is_copy scene_read clients_now client_now slots_now slot_now (λ v. refl))
        (ap (λ (x : ClientPart). x.begun) client_now) (λ e differs. ap (λ (x : ClientPart). x.begun) (clients_now e differs))
        (record { answer = Got entry.ver r.value; of_call = tt; before = acts.Read c b entry.ver r.value ∷ []; after = []; are = refl; none_before = refl; none_after = refl })
        (copy_named setup works k s c d next.client.0 next.client.1 b asks unowned ((s.slot i).turn + 1) (omega arith) (omega arith) r.asked r.asks_few r.blocks r.cached r.copy
        r.last_is others_now r.is_copy scene_read clients_now client_now slots_now slot_now (λ v. refl) next.next)
