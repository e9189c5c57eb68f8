-- At each count of every run the cleaner has asked servers for fragments by numbers of questions that it drew.
use Rattle.std.proofs.Common.{◌≡◌, ℕ, Option, Some, None}
use Rattle.xfs_base.specs.declared.node.NodeId.TheVariants as names
use Rattle.node_logs.specs.cleaner_log_tie.Owner.{CleanerAgrees, its_number}
use Rattle.cleaner_node.specs.CleanerEvents.{lasting_of, takes}
use Rattle.cleaner_node.specs.declared.cleaner.Phase.{Phase}
use Rattle.cleaner_node.specs.declared.cleaner.Phase.TheVariants.{Down, Opening, Serving as Serves}
use Rattle.node_logs.specs.client_log_tie.Owner.{Scene, SeesStage}
use Rattle.core_world.specs.declared.any_node.AnyNode.{AnyNode}
use Rattle.core_world.specs.declared.any_node.AnyNode.TheVariants as any
use Rattle.log_owner.specs.declared.known.Known.{Known}
use Rattle.log_owner.specs.declared.opening.Stage.{Stage}
use Rattle.log_owner.specs.declared.opening.Stage.TheVariants as stage
use Rattle.log_tie.specs.Setting.{Setting}
use Rattle.node_slots.proofs.node_tie.StoreFrames.{packets_do}
use Rattle.wire_msg.specs.declared.packet.Do.{Do}
use Rattle.wire_msg.specs.declared.packet.Packet.{Packet}
use Rattle.world_base.specs.declared.estate.Estate.{Estate}
use Rattle.run_laws.specs.world_logs.Lines.{HasLines, setting}
use Rattle.headline.specs.Logs.{IsThere}
use Rattle.headline.specs.Logs.Role.{OfCleaner}
use Rattle.run_laws.specs.world_logs.Standing.{CleanerThere}
use Rattle.run_losses.proofs.torn_law.CleanerDraws.{Draws, PhaseUp, ServesUp, cleaner_draws}
use Rattle.run_losses.proofs.torn_law.ClientFetches.{BodyUpTo, UpTo}
use Rattle.run_losses.proofs.torn_law.OpeningNumbers.{StageUp}
use Rattle.run_losses.proofs.torn_law.Drawn.{FetchesDrawn}
use Rattle.run_losses.proofs.torn_law.Course.{Here}
use Rattle.run_losses.proofs.torn_law.Drawing.{Drew, drawn}

-- one that serves reads by a number that was drawn
abbrev NodeUp : Option AnyNode → Type 0
NodeUp None = Unit {0}
NodeUp (Some (any.Client node)) = Unit {0}
NodeUp (Some (any.Manager node)) = Unit {0}
NodeUp (Some (any.Server node)) = Unit {0}
NodeUp (Some (any.Cleaner node)) = ServesUp node.phase
NodeUp (Some (any.Registry node)) = Unit {0}

module _ (g : Setting) (w : Scene) where
  stage_up : (k : Known) (last : ℕ) (at : Stage) → SeesStage g its_number w k last at → StageUp last at
  stage_up k last (stage.Scanning s) sees = sees.number
  stage_up k last (stage.Settling s) sees = tt

  phase_up : (p : Phase) → CleanerAgrees g w p → ServesUp p → PhaseUp p
  phase_up (Down l) agrees h = tt
  phase_up (Opening l o) agrees h = stage_up o.known l.questions.last o.stage agrees.sees
  phase_up (Serves s) agrees h = h

  drew : (x : AnyNode) (what : Do) → CleanerThere g OfCleaner w x → NodeUp (Some x) → Drew NodeUp x what
  drew (any.Cleaner node) what h serves =
      let d : Draws (lasting_of node.phase).questions.last (takes node.peers node.phase what) =
      cleaner_draws node what (phase_up node.phase h.agrees serves) in
      record {
        up = d.up;
        serves = d.serves;
        does = packets_do (λ (p : Packet). BodyUpTo (lasting_of (takes node.peers node.phase what).state).questions.last p.body)
            (UpTo (lasting_of (takes node.peers node.phase what).state).questions.last) names.Cleaner (λ to said so. so)
            (takes node.peers node.phase what).outs d.does;
      }
  drew (any.Client node) what h serves = absurd h
  drew (any.Manager node) what h serves = absurd h
  drew (any.Server node) what h serves = absurd h
  drew (any.Registry node) what h serves = absurd h

module _ (base : Setting) (e : Estate AnyNode) (lines : HasLines base e)
    (is_there : IsThere e.script.setup.clients e.script.setup.managers OfCleaner) where
  drew_at : (count : ℕ) (x : AnyNode) (what : Do) → Here e names.Cleaner count ≡ Some x → NodeUp (Some x) → Drew NodeUp x what
  drew_at count x what at serves =
      drew (setting base e OfCleaner) ((lines OfCleaner is_there).scene count) x what
      (((lines OfCleaner is_there).stands count).seen names.Cleaner x at) serves

  pub cleaner_drawn : (count : ℕ) → FetchesDrawn e OfCleaner count
  cleaner_drawn = drawn e OfCleaner NodeUp base lines tt tt drew_at
