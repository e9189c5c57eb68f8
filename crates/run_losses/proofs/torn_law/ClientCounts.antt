-- At each count of every run a client has asked servers for fragments by numbers of questions that it drew.
use Rattle.std.proofs.Common.{◌≡◌, ℕ, suc, ◌≤◌, Option, Some, None, refl}
use Rattle.xfs_base.specs.declared.node.NodeId.TheVariants as names
use Rattle.node_logs.specs.client_log_tie.Owner.{Scene, ClientAgrees, SeesStage}
use Rattle.client_node.specs.declared.phase.Phase.{Phase}
use Rattle.client_node.specs.declared.phase.Phase.TheVariants.{Down, Opening, Serving as Serves}
use Rattle.client_node.specs.Phases.{lasting_of, takes}
use Rattle.core_world.specs.declared.any_node.AnyNode.{AnyNode}
use Rattle.core_world.specs.declared.any_node.AnyNode.TheVariants as any
use Rattle.log_owner.specs.declared.known.Known.{Known}
use Rattle.log_owner.specs.declared.opening.Stage.{Stage}
use Rattle.log_owner.specs.declared.opening.Stage.TheVariants as stage
use Rattle.log_tie.specs.Setting.{Setting}
use Rattle.node_slots.proofs.node_tie.StoreFrames.{packets_do}
use Rattle.wire_msg.specs.declared.packet.Do.{Do}
use Rattle.wire_msg.specs.declared.packet.Packet.{Packet}
use Rattle.world_base.specs.declared.estate.Estate.{Estate}
use Rattle.headline.specs.Moments.{moment, node_named}
use Rattle.run_laws.specs.world_logs.Lines.{HasLines, setting}
use Rattle.headline.specs.Logs.{IsThere}
use Rattle.headline.specs.Logs.Role.{OfClient}
use Rattle.run_laws.specs.world_logs.Standing.{ClientThere}
use Rattle.run_losses.proofs.torn_law.ClientDraws.{Draws, PhaseUp, ServesUp, client_draws}
use Rattle.run_losses.proofs.torn_law.ClientFetches.{BodyUpTo, UpTo}
use Rattle.run_losses.proofs.torn_law.OpeningNumbers.{StageUp}
use Rattle.run_losses.proofs.torn_law.Drawn.{FetchesDrawn, last_of}
use Rattle.run_losses.proofs.torn_law.Course.{Here}
use Rattle.run_losses.proofs.torn_law.Drawing.{Drew, drawn, rises}

-- one that serves reads by a number that was drawn
abbrev NodeUp : Option AnyNode → Type 0
NodeUp None = Unit {0}
NodeUp (Some (any.Client node)) = ServesUp node.phase
NodeUp (Some (any.Manager node)) = Unit {0}
NodeUp (Some (any.Server node)) = Unit {0}
NodeUp (Some (any.Cleaner node)) = Unit {0}
NodeUp (Some (any.Registry node)) = Unit {0}

module _ (g : Setting) (w : Scene) (c : ℕ) where
  stage_up : (k : Known) (last : ℕ) (at : Stage) → SeesStage g c w k last at → StageUp last at
  stage_up k last (stage.Scanning s) sees = sees.number
  stage_up k last (stage.Settling s) sees = tt

  phase_up : (p : Phase) → ClientAgrees g c w p → ServesUp p → PhaseUp p
  phase_up (Down l) agrees h = tt
  phase_up (Opening l o) agrees h = stage_up o.known l.questions.last o.stage agrees.1
  phase_up (Serves s) agrees h = h

  drew : (x : AnyNode) (what : Do) → ClientThere g (OfClient c) w c x → NodeUp (Some x) → Drew NodeUp x what
  drew (any.Client node) what h serves =
      let d : Draws (lasting_of node.phase).questions.last (takes node what) =
      client_draws node what (phase_up node.phase (h refl).agrees serves) in
      record {
        up = d.up;
        serves = d.serves;
        does = packets_do (λ (p : Packet). BodyUpTo (lasting_of (takes node what).state).questions.last p.body)
            (UpTo (lasting_of (takes node what).state).questions.last) (names.Client (lasting_of node.phase).number) (λ to said so. so)
            (takes node what).outs d.does;
      }
  drew (any.Manager node) what h serves = absurd h
  drew (any.Server node) what h serves = absurd h
  drew (any.Cleaner node) what h serves = absurd h
  drew (any.Registry node) what h serves = absurd h

module _ (base : Setting) (e : Estate AnyNode) (lines : HasLines base e) (c : ℕ)
    (is_there : IsThere e.script.setup.clients e.script.setup.managers (OfClient c)) where
  drew_at : (count : ℕ) (x : AnyNode) (what : Do) → Here e (names.Client c) count ≡ Some x → NodeUp (Some x) → Drew NodeUp x what
  drew_at count x what at serves =
      drew (setting base e (OfClient c)) ((lines (OfClient c) is_there).scene count) c x what
      (((lines (OfClient c) is_there).stands count).seen (names.Client c) x at) serves

  pub fetches_drawn : (count : ℕ) → FetchesDrawn e (OfClient c) count
  fetches_drawn = drawn e (OfClient c) NodeUp base lines tt tt drew_at

  pub last_rises : (count : ℕ) → last_of (node_named (moment e count) (names.Client c)) ≤ last_of (node_named (moment e (suc count)) (names.Client c))
  last_rises = rises e (OfClient c) NodeUp base lines tt tt drew_at
