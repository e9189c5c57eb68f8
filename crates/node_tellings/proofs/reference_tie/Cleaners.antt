-- Whatever happens to the cleaner, whichever Report it sends bears the end that its log had before.
use Rattle.std.proofs.Common.{◌≡◌, ap, ◌∙◌}
use Rattle.cleaner_job.specs.declared.lasting.Lasting.{Lasting}
use Rattle.cleaner_node.specs.CleanerEvents.{takes}
use Rattle.cleaner_node.specs.declared.cleaner.Cleaner.{Cleaner}
use Rattle.cleaner_node.specs.declared.cleaner.Phase.TheVariants.{Serving}
use Rattle.cleaner_serving.specs.declared.emptying.Emptying.{Emptying}
use Rattle.client_log.specs.LogState.{LogState}
use Rattle.log_owner.proofs.Behaving as behaving
use Rattle.log_owner.specs.declared.opening.Opening as openings
use Rattle.log_owner.specs.Opening.{Went}
use Rattle.node_base.specs.declared.effects.Effect.{Effect}
use Rattle.wire_msg.specs.declared.packet.Do.{Do}
use Rattle.xfs_base.specs.declared.node.NodeId.TheVariants.{Cleaner as TheCleaner}
use Rattle.xfs_base.specs.declared.segment.End.{End}
use Rattle.node_moves.proofs.cleaner_moves.Events.{promises_log}
use Rattle.node_moves.proofs.cleaner_moves.Keeping.{EffectKeeps, Gives, any_state, event_leaves}
use Rattle.node_moves.proofs.cleaner_moves.Keeping.Gives.{EndReported}
use Rattle.node_moves.specs.cleaner_moves.Moves.{OpenedBy}
use Rattle.node_moves.specs.cleaner_moves.Moves.OpenedBy.{PacketCame, TimeWent}
use Rattle.node_tellings.proofs.reference_tie.Feeding.{push_all_say}
use Rattle.node_tellings.proofs.reference_tie.Reporting as frames
use Rattle.node_tellings.specs.reference_tie.Owners.{CleanerReportsItsEnd}

module _ (told : End) (first : Cleaner) (what : Do) (fact : (e : Emptying) → first.phase ≡ Serving e → e.log.end ≡ told) where
  -- it reports the end of its log, to a Poll alone
  gives_so : (e : Emptying) (effect : Effect) → Gives first what (λ o. Unit {0}) e effect → frames.Says told effect
  gives_so e effect (EndReported {before = before} packet manager m same came from low) =
      ap (λ (l : LogState). l.end) (promises_log before m.slot m.epoch manager) ∙ fact before same
  gives_so e effect _ = tt

  opens_so : (l : Lasting) (o : openings.Opening) (x : Went) → OpenedBy what l o x → frames.AllSay told x.effects
  opens_so l o x (PacketCame packet event) = frames.may_do told o.known.owner x.effects (behaving.packet_so o l.questions packet).does
  opens_so l o x (TimeWent event) = frames.may_do told o.known.owner x.effects (behaving.tick_so o l.questions).does

  keeps : EffectKeeps first what (λ p. Unit {0}) (λ o. Unit {0}) (frames.Says told)
  keeps = record {
    gives = λ e effect given h. gives_so e effect given;
    sends = λ f m. tt;
    files = λ name. tt;
    pushes = λ e h. push_all_say told e.promised.managers e.feed;
    answers = λ number a due. tt;
    greets = λ inc ask. tt;
    opens = λ l o x same by. opens_so l o x by;
  }

-- ---- the law

pub cleaner_reports : CleanerReportsItsEnd
cleaner_reports end cleaner what fact =
    frames.packets_say end TheCleaner (takes cleaner.peers cleaner.phase what).outs
    (event_leaves cleaner what (λ p. Unit {0}) (λ o. Unit {0}) (frames.Says end) (any_state cleaner what) (keeps end cleaner what fact) tt).1
