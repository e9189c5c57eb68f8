-- What a client that serves does in the event in which a manager takes a block back from it, has it pass a copy on, or asks what it holds.
use Rattle.std.specs.List.{filter}
use Rattle.std.specs.Prelude.{◌≡◌, ◌⊎◌, ◌<◌, ◌≤◌, ℕ, Bool, true, false, List, [], ◌∷◌, Option, Some, None, is_some, if◌then◌else◌}
use Rattle.client_node.specs.declared.client.Client.{Client}
use Rattle.client_node.specs.declared.phase.Phase.TheVariants.{Serving as Serves}
use Rattle.client_running.specs.Blocks.{is_settled}
use Rattle.client_serving.specs.declared.serving.Serving.{Serving}
use Rattle.client_serving.specs.Flights.{held_at}
use Rattle.client_serving.specs.Sends.{asked_of}
use Rattle.core_world.specs.declared.any_node.AnyNode.{AnyNode}
use Rattle.core_world.specs.declared.any_node.AnyNode.TheVariants as any
use Rattle.log_owner.specs.Promised.{manager_of, managers_set}
use Rattle.token_client.specs.declared.held.Giving.{Giving}
use Rattle.token_client.specs.declared.held.Held.{Held}
use Rattle.token_client.specs.Held.{is_dirty}
use Rattle.token_client.specs.State.{epoch_of}
use Rattle.token_client.specs.Transition.{is_promised, serves}
use Rattle.token_protocol.specs.Basics.{In}
use Rattle.wire_msg.specs.declared.body.Body.{Body}
use Rattle.wire_msg.specs.declared.body.Body.TheVariants as body
use Rattle.wire_msg.specs.declared.deltas.Poll.{Poll}
use Rattle.wire_msg.specs.declared.packet.Packet.{Packet}
use Rattle.wire_msg.specs.declared.tokens.Forward.{Forward}
use Rattle.wire_msg.specs.declared.tokens.Recall.{Recall}
use Rattle.wire_msg.specs.NodeStep.{NodeStep}
use Rattle.xfs_base.specs.Blocks.{slot_of}
use Rattle.xfs_base.specs.declared.block.BlockId.{BlockId}
use Rattle.xfs_base.specs.declared.node.NodeId.{NodeId}
use Rattle.xfs_base.specs.declared.node.NodeId.TheVariants as nodes
use Rattle.xfs_base.specs.declared.token.Mode.{Mode}
use Rattle.xfs_base.specs.Modes.{is_held, is_own}
use Rattle.xfs_base.specs.Stamps.{is_later}

-- whether it answers who asks a client: that a block is given up, a copy that is passed on, or what is held
abbrev pub is_reply : Body → Bool
is_reply (body.Gave gave) = true
is_reply (body.Supply supply) = true
is_reply (body.Report report) = true
is_reply _ = false

-- of a client that serves, as it is before the event and behind it, and of what it sends
module _ (s now : Serving) (packets : List Packet) where
  -- what it says to a node
  abbrev pub said_to : NodeId → Body → Packet
  said_to to said = record { from = nodes.Client s.lasting.number; to = to; clock = 0; body = said }

  -- of all that it sends in the event just these are answers
  abbrev pub RepliesWith : List Packet → Type 0
  RepliesWith replies = filter (λ p. is_reply p.body) packets ≡ replies

  -- the slot's manager takes a block back
  module _ (recall : Recall) where
    abbrev pub was : Held
    was = held_at s recall.block

    -- that manager is told that the block is given up, and up to where the log tells of it
    abbrev pub given_up : Packet
    given_up = said_to (asked_of s recall.block) (body.Gave (record { block = recall.block; stamp = recall.stamp; end = s.log.end.seq }))

    -- It gives the block up at once: it says so, and has at most a copy then, and that only where it may keep one and held the block.
    pub record GivesUp : Type 0 where
      pub replies : RepliesWith (given_up ∷ [])
      pub stamped : (held_at now recall.block).stamp ≡ recall.stamp
      pub unowned : is_own (held_at now recall.block).mode ≡ false
      pub kept : is_held (held_at now recall.block).mode ≡ true → (recall.keep ≡ true) × (is_held was.mode ≡ true)

    -- It can't yet, as the newest version isn't settled: the block is to be given up under this recall's stamp, or is so already under that of a later recall.
    -- Where something waits for its log, a segment is in flight then.
    pub record PutsOff : Type 0 where
      pub replies : RepliesWith []
      pub giving : Giving
      pub stands : (held_at now recall.block).giving ≡ Some giving
      pub whose : (giving ≡ record { stamp = recall.stamp; keep = recall.keep }) ⊎ ((was.giving ≡ Some giving) × (is_later giving.stamp recall.stamp ≡ true))
      pub flies : is_settled s ≡ false → is_some now.log.flight ≡ true

    pub record TakesRecall : Type 0 where
      -- one of another epoch than that to which the slot is promised, or earlier than the last that was answered, is not answered
      pub other : (is_promised s.tokens recall.block recall.stamp ≡ false) ⊎ (is_later was.stamp recall.stamp ≡ true) → RepliesWith []
      -- that last one is answered again, but while a later one waits
      pub again : is_promised s.tokens recall.block recall.stamp ≡ true → was.stamp ≡ recall.stamp → was.giving ≡ None → RepliesWith (given_up ∷ [])
      pub waits : was.stamp ≡ recall.stamp → is_some was.giving ≡ true → RepliesWith []
      -- a later one is answered at once, where the newest version is settled, and else put off until it is
      pub settled : is_promised s.tokens recall.block recall.stamp ≡ true → is_later recall.stamp was.stamp ≡ true → is_dirty was ≡ false → GivesUp
      pub dirty : is_promised s.tokens recall.block recall.stamp ≡ true → is_later recall.stamp was.stamp ≡ true → is_dirty was ≡ true → PutsOff

  -- what it has to pass on: the value of its copy, where that is of the version that is named, and the slot is promised to that epoch
  abbrev pub passed_on : Forward → Option (Option (List ℕ))
  passed_on f = if serves s.tokens f.block f.stamp f.ver then (held_at s f.block).value else None

  -- it is to pass a copy on to a client: that is told the version and its value; else nobody is told anything
  abbrev pub PassesOn : Forward → Option (Option (List ℕ)) → Type 0
  PassesOn f (Some value) =
      RepliesWith
      (said_to (nodes.Client f.to)
      (body.Supply (record { block = f.block; stamp = f.stamp; inc = f.inc; req = f.req; ver = f.ver; value = value }))
      ∷ [])
  PassesOn f None = RepliesWith []

  -- A manager asks what it holds of a slot: it tells that one, as the slot's manager, each block of the slot that it holds, with its mode, no other, and the
  -- end of its log.
  pub record Reports (manager : ℕ) (poll : Poll) : Type 0 where
    pub held : List (BlockId × Mode)
    pub all : (block : BlockId) → slot_of block.ino.0 ≡ poll.slot → is_held (held_at s block).mode ≡ true → In (block, (held_at s block).mode) held
    pub only : (block : BlockId) (mode : Mode) → In (block, mode) held
        → (slot_of block.ino.0 ≡ poll.slot) × ((is_held mode ≡ true) × ((h : Held) × (In (block, h) s.tokens.blocks × (h.mode ≡ mode))))
    pub replies : RepliesWith
        (said_to (manager_of (managers_set s.managers poll.slot manager) poll.slot)
        (body.Report (record { slot = poll.slot; epoch = poll.epoch; held = held; end = s.log.end }))
        ∷ [])

  -- but under an epoch below that to which the slot is promised it tells nothing
  pub record TakesPoll (manager : ℕ) (poll : Poll) : Type 0 where
    pub older : poll.epoch < epoch_of s.tokens.epochs poll.slot → RepliesWith []
    pub newer : epoch_of s.tokens.epochs poll.slot ≤ poll.epoch → Reports manager poll

  abbrev pub PollIsTaken : NodeId → Poll → Type 0
  PollIsTaken (nodes.Manager manager) poll = TakesPoll manager poll
  PollIsTaken _ poll = RepliesWith []

  abbrev pub AnswersBody : NodeId → Body → Type 0
  AnswersBody asker (body.Recall recall) = TakesRecall recall
  AnswersBody asker (body.Forward forward) = PassesOn forward (passed_on forward)
  AnswersBody asker (body.Poll poll) = PollIsTaken asker poll
  AnswersBody asker _ = Unit {0}

-- the node is a client that serves so
abbrev pub ServesSo : AnyNode → Serving → Type 0
ServesSo (any.Client c) t = c.phase ≡ Serves t
ServesSo _ t = ⊥

-- So it is where it serves, and it serves on.
abbrev pub ClientReplies : Client → Packet → NodeStep AnyNode → Type 0
ClientReplies c packet step =
    (s : Serving) → c.phase ≡ Serves s → (now : Serving) × (ServesSo step.node now × AnswersBody s now step.packets packet.from packet.body)
