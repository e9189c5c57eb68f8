-- The moment after an event of a run stands to both small worlds of each slot and to those of all logs, if the event gets what it is owed of each slot.
use Rattle.std.proofs.Common.{◌≡◌, ℕ, suc, ◌<◌, List, [], ◌∷◌, inl, inr, refl, subst}
use Rattle.std.specs.List.{AllByRecursion}
use Rattle.core_world.specs.AnyNode.{any_start, any_step}
use Rattle.node_slots.specs.node_index_tie.Sight.{held_in}
use Rattle.run_laws.specs.reopening_law.Reopens.{TellsApart}
use Rattle.run_laws.specs.segment_tie.Cleaners.{TellsVersion}
use Rattle.run_laws.specs.segment_tie.Runs.{PacketTellsVersion}
use Rattle.token_protocol.specs.Basics.{In}
use Rattle.wire_msg.specs.declared.body.Body.{Body}
use Rattle.wire_msg.specs.declared.body.Body.TheVariants as body
use Rattle.wire_msg.specs.declared.cleaning.Live.{Live}
use Rattle.wire_msg.specs.declared.packet.Packet.{Packet}
use Rattle.world_base.specs.Runs.{IsRun}
use Rattle.run_laws.proofs.world_index.Senders.{IsSentBy, kinds_of_tokens}
use Rattle.run_laws.specs.world_index.Standing.{SentBy}
use Rattle.run_laws.proofs.world_law.RegistryTurns.{slot_below}
use Rattle.headline.specs.Moments.{moment}
use Rattle.run_laws.proofs.world_reads.TurnBoth.{Both}
use Rattle.run_laws.proofs.world_reads.TurnLives.{lives_lie}
use Rattle.run_laws.proofs.world_reads.TurnNext.{Grows}
use Rattle.run_laws.proofs.world_reads.TurnRun.{Step, both_then, joint_then}
use Rattle.run_laws.specs.world_reads.Joint.{Joint, k}
use Rattle.run_laws.proofs.world_reads.Joint.{IsSureUpto}
use Rattle.xfs_base.specs.Blocks.{slot_of}
use Rattle.xfs_base.specs.declared.node.NodeId.{NodeId}
use Rattle.xfs_base.specs.declared.node.NodeId.TheVariants.{Client, Manager, Server, Cleaner, Registry}
use Rattle.xfs_base.specs.Limits.{slot_count}
use Rattle.run_laws.proofs.world_reads.Below.{Below}
use Rattle.run_laws.specs.world_reads.LoggedRuns.{LoggedRun}

all_from : {X : Type 0} (P : X → Type 0) (xs : List X) → ((x : X) → In x xs → P x) → AllByRecursion P xs
all_from P [] each = tt
all_from P (x ∷ xs) each = (each x (inl refl), all_from P xs (λ y among. each y (inr among)))

module _ (laws : Below) (logged : LoggedRun) where
  open logged use {base, estate as e, texts, first}

  -- ---- what managers told of blocks that live

  module _ (count : ℕ) (both : (part : ℕ) → part < slot_count → Both logged part count) where
    live_tells : (part : ℕ) (b : Both logged part count) (m : Live) → slot_of m.block.ino.0 ≡ part → (from : NodeId)
        → IsSentBy from (body.Live m)
        → SentBy part b.idx.net b.idx.asked from (body.Live m) → 0 < m.entry.ver
    live_tells part b m inside (Manager j) kind told =
        lives_lie laws.index.each_index_is_the_join part (held_in part texts.text) first b.idx.net b.index_stands.runs m.block m.entry inside (told inside)
    live_tells part b m inside (Client c) kind told = absurd kind
    live_tells part b m inside (Server v) kind told = absurd kind
    live_tells part b m inside Cleaner kind told = absurd kind
    live_tells part b m inside Registry kind told = absurd kind

    body_tells : (p : Packet) → In p (moment e count).sent → (m : Body) → p.body ≡ m → TellsVersion m
    body_tells p among (body.Live m) fact =
        let part = slot_of m.block.ino.0 in
        let b = both part (slot_below m.block.ino.0) in
        live_tells part b m refl p.from
        (subst (IsSentBy p.from) fact (kinds_of_tokens (k logged part) part b.tok p (b.tokens_stand.facts p among)))
        (subst (SentBy part b.idx.net b.idx.asked p.from) fact (b.index_stands.facts p among))
    body_tells p among _ fact = tt

    lives_tell : AllByRecursion PacketTellsVersion (moment e count).sent
    lives_tell = all_from PacketTellsVersion (moment e count).sent (λ p among. body_tells p among p.body refl)

  -- ---- all slots

  -- no restart that ended was doubtful up to this count; this is said of no slot
  abbrev pub IsSure : ℕ → Type 0
  IsSure count = IsSureUpto logged 0 count

  abbrev pub Joints : ℕ → Type 0
  Joints count = (part : ℕ) → part < slot_count → Joint logged part count

  module _ (apart : TellsApart base) (run : IsRun any_step any_start e.script e.events e.world) where
    -- what is owed of the event at this count, of each slot
    abbrev pub Steps : (count : ℕ) → Joints count → IsSure (suc count) → Type 0
    Steps count joints sure = (part : ℕ) (of_eight : part < slot_count)
        → Step laws logged part of_eight apart run count (joints part of_eight) sure

    -- so the moment after it stands, too
    pub next_all : (count : ℕ) (joints : Joints count) (sure : IsSure (suc count)) → Steps count joints sure → (part : ℕ) (of_eight : part < slot_count)
        → Grows logged part count (joints part of_eight)
    next_all count joints sure steps part of_eight =
        joint_then laws logged part of_eight apart run count (joints part of_eight) sure (steps part of_eight)
        (lives_tell (suc count) (λ part of_eight.
        both_then laws logged part of_eight apart run count (joints part of_eight) sure (steps part of_eight)))
