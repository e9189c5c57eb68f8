-- What events of nodes are owed, and what of them is read off: whose log a packet is of, and what an opening is told.
use Rattle.std.proofs.Common.{◌≡◌, ℕ, Bool, true, false, List, [], ◌∷◌, if◌then◌else◌, refl, ap, ◌∙◌}
use Rattle.std.specs.List.{AllByRecursion}
use Rattle.std.specs.Prelude.{All}
use Rattle.node_logs.specs.cleaner_log_tie.Owner.{its_number}
use Rattle.node_logs.specs.cleaner_log_tie.OwnerEvents.{OpeningOwed}
use Rattle.cleaner_node.specs.declared.cleaner.Phase.{Phase as CleanerPhase}
use Rattle.cleaner_node.specs.declared.cleaner.Phase.TheVariants as cleaners
use Rattle.node_logs.specs.client_log_tie.ClientEvents.{OfItsLog, PhaseOwed, StageTells}
use Rattle.node_logs.specs.client_log_tie.Owner.{Scene, ClientAgrees, SeesStage}
use Rattle.node_logs.specs.client_log_tie.Texts.{MapFits}
use Rattle.client_node.specs.declared.phase.Phase.{Phase}
use Rattle.client_node.specs.declared.phase.Phase.TheVariants as clients
use Rattle.client_node.specs.Phases.{lasting_of}
use Rattle.group_map.specs.GroupMapState.{GroupMapState}
use Rattle.log_law.specs.Laws.{Moment}
use Rattle.log_law.specs.Net.Packet.{MapSent}
use Rattle.log_law.specs.Openings.{OpeningsGoOn}
use Rattle.log_law.specs.ReadBack.{OpeningsReadDown}
use Rattle.log_owner.specs.declared.opening.Stage as stages
use Rattle.log_owner.specs.declared.opening.Stage.TheVariants as stage
use Rattle.log_owner.specs.declared.known.Known.{Known}
use Rattle.log_protocol.specs.Tables as tables
use Rattle.log_tie.specs.Setting.{Setting}
use Rattle.node_base.specs.declared.effects.Effect.{Effect}
use Rattle.node_base.specs.Effects.{packets_of}
use Rattle.node_logs.proofs.node_log_tie.Lists.{packets_all}
use Rattle.token_protocol.specs.Basics.{In}
use Rattle.version_model.specs.declared.act.Act.{Act}
use Rattle.wire_msg.specs.declared.body.Body.{Body}
use Rattle.wire_msg.specs.declared.body.Body.TheVariants as body
use Rattle.wire_msg.specs.declared.packet.Packet.{Packet}
use Rattle.run_laws.proofs.world_logs.Room.{scan_has_room}
use Rattle.run_laws.proofs.world_logs.Says.{OfLog}
use Rattle.run_laws.specs.world_logs.Standing.{CleanerOwns, IsRoomy, OwnerSeen}
use Rattle.xfs_base.specs.declared.node.NodeId.{NodeId}
use Rattle.xfs_base.specs.declared.segment.LogId.{LogId}

-- ---- packets

-- what a node sends is from it
pub sent_from : (node : NodeId) (outs : List Effect) → All (λ (p : Packet). p.from ≡ node) (packets_of node outs)
sent_from node outs = packets_all (λ (p : Packet). p.from ≡ node) (λ (e : Effect). Unit {0}) node (λ to said t. refl) outs (any outs)
  where
    any : (outs : List Effect) → AllByRecursion (λ (e : Effect). Unit {0}) outs
    any [] = tt
    any (e ∷ outs) = (tt, any outs)

pub in_those : (t : Bool) (acts : List Act) (a : Act) → In a (if t then acts else []) → In a acts
in_those true acts a h = h
in_those false acts a h = absurd h

-- what is of a log bears its number
pub of_log : (h : Setting) (d : ℕ) → h.log ≡ record { 0 = d } → (m : Body) → OfItsLog h m → OfLog d m
of_log h d its (body.Store m) own = ap (λ (l : LogId). l.0) (own ∙ its)
of_log h d its (body.Fence m) own = ap (λ (l : LogId). l.0) (own ∙ its)
of_log h d its _ own = tt

-- what an opening is told: the ids of the groups of maps fit, behind the end of a chain the log goes on, and a chain goes down to the horizon
module _ (g : Setting) (c : ℕ) (w : Scene) (at : Moment g w.net) (maps : (m : GroupMapState) → tables.In (MapSent m) w.net.sent → MapFits m)
    (law : OpeningsGoOn) (down : OpeningsReadDown) where
  stage_told : (k : Known) (last : ℕ) (x : stages.Stage) → SeesStage g c w k last x → IsRoomy w.net → StageTells g w.net x
  stage_told k last (stage.Scanning s) sees room =
      record { maps = maps; end = law g w.net at (scan_has_room w.net s.scan sees.owner room) s.scan sees.owner; reads = down g w.net at s.scan sees.owner }
  stage_told k last (stage.Settling s) sees room = tt

  pub phase_owed : (p : Phase) → OwnerSeen g w c p → PhaseOwed g w.net p
  phase_owed (clients.Down l) h = tt
  phase_owed (clients.Opening l o) h = stage_told o.known l.questions.last o.stage h.agrees.1 h.room
  phase_owed (clients.Serving s) h = tt

pub opening_owed : (g : Setting) (w : Scene) → Moment g w.net → ((m : GroupMapState) → tables.In (MapSent m) w.net.sent → MapFits m) → OpeningsGoOn
    → OpeningsReadDown
    → (p : CleanerPhase)
    → CleanerOwns g w p → OpeningOwed g w p
opening_owed g w at maps law down (cleaners.Down l) h = tt
opening_owed g w at maps law down (cleaners.Opening l o) h = stage_told g its_number w at maps law down o.known l.questions.last o.stage h.agrees.sees h.room
opening_owed g w at maps law down (cleaners.Serving e) h = tt

-- the number of a client that is seen
pub number_is : (g : Setting) (c : ℕ) (w : Scene) (p : Phase) → ClientAgrees g c w p → (lasting_of p).number ≡ c
number_is g c w (clients.Down l) h = h.0.number
number_is g c w (clients.Opening l o) h = h.0.number
number_is g c w (clients.Serving s) h = h.0.number
