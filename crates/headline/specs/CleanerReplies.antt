-- What a cleaner that serves does in the event in which a manager asks what it holds: it holds no block, and tells where its log ends. Nothing else is asked of it.
use Rattle.std.specs.List.{filter}
use Rattle.std.specs.Prelude.{◌≡◌, ◌<◌, ◌≤◌, ℕ, List, [], ◌∷◌}
use Rattle.cleaner_node.specs.declared.cleaner.Cleaner.{Cleaner}
use Rattle.cleaner_node.specs.declared.cleaner.Phase.TheVariants.{Serving}
use Rattle.cleaner_serving.specs.declared.emptying.Emptying.{Emptying}
use Rattle.core_world.specs.declared.any_node.AnyNode.{AnyNode}
use Rattle.core_world.specs.declared.any_node.AnyNode.TheVariants as any
use Rattle.log_owner.specs.Promised.{epoch_of, promise_to}
use Rattle.wire_msg.specs.declared.body.Body.{Body}
use Rattle.wire_msg.specs.declared.body.Body.TheVariants as body
use Rattle.wire_msg.specs.declared.deltas.Poll.{Poll}
use Rattle.wire_msg.specs.declared.packet.Packet.{Packet}
use Rattle.wire_msg.specs.NodeStep.{NodeStep}
use Rattle.xfs_base.specs.declared.node.NodeId.{NodeId}
use Rattle.xfs_base.specs.declared.node.NodeId.TheVariants as nodes
use Rattle.headline.specs.ClientReplies.{is_reply}

-- of a cleaner that serves, as it is before the event and behind it, and of what it sends
module _ (e now : Emptying) (packets : List Packet) where
  -- of all that it sends in the event just these are answers, as clients answer who asks them
  abbrev pub ReportsJust : List Packet → Type 0
  ReportsJust told = filter (λ p. is_reply p.body) packets ≡ told

  -- the manager that asks is told that no block of the slot is held, and where the log ended as the question came
  abbrev pub ended_at : ℕ → Poll → Packet
  ended_at manager poll = record {
    from = nodes.Cleaner;
    to = nodes.Manager manager;
    clock = 0;
    body = body.Report (record { slot = poll.slot; epoch = poll.epoch; held = []; end = e.log.end });
  }

  -- It tells that one so, and it is to that one, in that epoch, that the slot is promised from now on.
  pub record Reports (manager : ℕ) (poll : Poll) : Type 0 where
    pub replies : ReportsJust (ended_at manager poll ∷ [])
    pub promised : now.promised ≡ promise_to e.promised poll.slot poll.epoch manager

  -- but under an epoch below that to which the slot is promised it tells nothing, and promises nothing
  pub record TakesPoll (manager : ℕ) (poll : Poll) : Type 0 where
    pub older : poll.epoch < epoch_of e.promised poll.slot → ReportsJust [] × (now.promised ≡ e.promised)
    pub newer : epoch_of e.promised poll.slot ≤ poll.epoch → Reports manager poll

  abbrev pub PollIsTaken : NodeId → Poll → Type 0
  PollIsTaken (nodes.Manager manager) poll = TakesPoll manager poll
  PollIsTaken _ poll = ReportsJust [] × (now.promised ≡ e.promised)

  -- and whatever else comes, it reports to nobody
  abbrev pub TakesBody : NodeId → Body → Type 0
  TakesBody asker (body.Poll poll) = PollIsTaken asker poll
  TakesBody asker _ = ReportsJust []

-- the node is a cleaner that serves so
abbrev pub EmptiesSo : AnyNode → Emptying → Type 0
EmptiesSo (any.Cleaner c) f = c.phase ≡ Serving f
EmptiesSo _ f = ⊥

-- So it is where it serves, and it serves on.
abbrev pub CleanerReplies : Cleaner → Packet → NodeStep AnyNode → Type 0
CleanerReplies c packet step =
    (e : Emptying) → c.phase ≡ Serving e → (now : Emptying) × (EmptiesSo step.node now × TakesBody e now step.packets packet.from packet.body)
