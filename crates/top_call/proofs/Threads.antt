-- Of words that start threads, and of those that start none.
use Rattle.std.proofs.Common.{◌≡◌, ℕ, true, false, List, Option, Some, None, refl}
use Rattle.mounts.specs.declared.reply.Reply.{Reply}
use Rattle.version_model.specs.declared.work.Work.{Work}
use Rattle.wire_msg.specs.declared.packet.Do.{Do}
use Rattle.wire_msg.specs.NodeStep.{NodeStep}
use Rattle.world_base.specs.declared.estate.Estate.{Estate}
use Rattle.xfs_base.specs.declared.node.NodeId.{NodeId}
use Rattle.xfs_base.specs.declared.setup.Setup.{Setup}
use Rattle.top_call.specs.declared.command.Command.{Command}
use Rattle.top_call.specs.declared.command.Command.TheVariants.{Audit, Big, Boards, Disks, Gen, Live, Mount, Run}
use Rattle.top_call.specs.Commands.{is_live, reads}
use Rattle.top_call.specs.Mounts.{MountsOf, NoReplies}

-- words that start threads read an input
pub threads_read : (command : Command) → is_live (Some command) ≡ true → reads (Some command) ≡ true
threads_read Run live = absurd (cc)
threads_read (Live workers) live = refl
threads_read (Mount workers) live = refl
threads_read (Gen drawn) live = absurd (cc)
threads_read (Big drawn) live = absurd (cc)
threads_read Audit live = absurd (cc)
threads_read Boards live = absurd (cc)
threads_read Disks live = absurd (cc)

-- words that start none have no applications
module _ {N : Type 0} (step : N → Do → NodeStep N) (first : NodeId → Setup → List Work → N) where
  pub no_mounts : (command : Option Command) → is_live command ≡ false → (o : Option (Estate N)) (calls : Option (List (List ℕ))) (replies : Option (List (List Reply)))
      → NoReplies calls replies → MountsOf step first command o calls replies
  no_mounts None none o calls replies n = n
  no_mounts (Some Run) none o calls replies n = n
  no_mounts (Some (Live workers)) none o calls replies n = n
  no_mounts (Some (Mount workers)) none o calls replies n = absurd (cc)
  no_mounts (Some (Gen drawn)) none o calls replies n = n
  no_mounts (Some (Big drawn)) none o calls replies n = n
  no_mounts (Some Audit) none o calls replies n = n
  no_mounts (Some Boards) none o calls replies n = n
  no_mounts (Some Disks) none o calls replies n = n
