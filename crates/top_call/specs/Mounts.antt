-- What a call of the program answers of the calls and the replies of applications.
use Rattle.std.specs.Prelude.{◌≡◌, ℕ, List, Option, Some, None}
use Rattle.mounts.specs.declared.reply.Reply.{Reply}
use Rattle.mounts.specs.Mounted.{IsMounted}
use Rattle.version_model.specs.declared.work.Work.{Work}
use Rattle.wire_msg.specs.declared.packet.Do.{Do}
use Rattle.wire_msg.specs.NodeStep.{NodeStep}
use Rattle.world_base.specs.declared.estate.Estate.{Estate}
use Rattle.xfs_base.specs.declared.node.NodeId.{NodeId}
use Rattle.xfs_base.specs.declared.setup.Setup.{Setup}
use Rattle.top_call.specs.Claim.{is_full}
use Rattle.top_call.specs.declared.command.Command.{Command}
use Rattle.top_call.specs.declared.command.Command.TheVariants.{Mount}

-- none were called or replied
abbrev pub NoReplies : Option (List (List ℕ)) → Option (List (List Reply)) → Type 0
NoReplies calls replies = (calls ≡ None) × (replies ≡ None)

module _ {N : Type 0} (step : N → Do → NodeStep N) (first : NodeId → Setup → List Work → N) where
  -- for each client what was called are its first items, in their order, each once, all of them where no item of the run is open, and what was replied is what it answered, in that order, each once
  pub record LeavesMounts (e : Estate N) (called : Option (List (List ℕ))) (replied : Option (List (List Reply))) : Type 0 where
    pub calls : List (List ℕ)
    pub replies : List (List Reply)
    pub calls_are : called ≡ Some calls
    pub replies_are : replied ≡ Some replies
    pub mounted : IsMounted step first (is_full e) e calls replies

  -- where there is no run, there are none
  abbrev pub MountsIn : Option (Estate N) → Option (List (List ℕ)) → Option (List (List Reply)) → Type 0
  MountsIn None calls replies = NoReplies calls replies
  MountsIn (Some e) calls replies = LeavesMounts e calls replies

  -- calls and replies are there exactly where the words are `mount W` and there is a run
  abbrev pub MountsOf : Option Command → Option (Estate N) → Option (List (List ℕ)) → Option (List (List Reply)) → Type 0
  MountsOf (Some (Mount workers)) o calls replies = MountsIn o calls replies
  MountsOf command o calls replies = NoReplies calls replies
