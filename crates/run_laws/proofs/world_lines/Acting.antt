-- An event of an owner, whole: whether it serves before the event or not, what it acts to be filed flew before.
use Rattle.std.proofs.Common.{◌≡◌, ℕ, false, List, refl, ap, subst}
use Rattle.node_logs.specs.cleaner_log_tie.Owner as cleaner_log
use Rattle.cleaner_node.specs.CleanerEvents as cleaners
use Rattle.cleaner_node.specs.declared.cleaner.Phase as cleaner_phases
use Rattle.cleaner_node.specs.declared.cleaner.Phase.TheVariants as cleaning
use Rattle.node_logs.specs.client_log_tie.Owner.{Scene, ClientAgrees, SeesStage}
use Rattle.client_node.specs.Phases as clients
use Rattle.client_node.specs.declared.phase.Phase.{Phase}
use Rattle.client_node.specs.declared.phase.Phase.TheVariants as client
use Rattle.log_law.specs.Restarts.{is_serving}
use Rattle.log_owner.specs.declared.known.Known.{Known}
use Rattle.log_owner.specs.declared.opening.Stage.{Stage}
use Rattle.log_owner.specs.declared.opening.Stage.TheVariants as stage
use Rattle.log_protocol.specs.Tables.{In}
use Rattle.log_tie.specs.Setting.{Setting}
use Rattle.node_base.specs.declared.effects.Effect.{Effect}
use Rattle.node_slots.proofs.owner_index_tie.Acting.{all_then}
use Rattle.run_laws.specs.world_lines.Filing.{CleanerFilesItsFlights, CleanersActsFile, ClientsActsFile, ClientsFileTheirFlights, RestartsFileWhatFlew}
use Rattle.run_laws.specs.world_lines.Owners.{CleanerFilesShort, ClientsFileShort, HasFlown}
use Rattle.run_laws.specs.world_lines.Turns.{ActsFile}

stage_rests : (g : Setting) (c : ℕ) (w : Scene) (k : Known) (last : ℕ) (at : Stage) → SeesStage g c w k last at → is_serving w.net.owner ≡ false
stage_rests g c w k last (stage.Scanning s) sees = ap is_serving sees.owner
stage_rests g c w k last (stage.Settling s) sees = ap is_serving sees.owner

pub clients_acts_file : RestartsFileWhatFlew → ClientsFileShort → ClientsFileTheirFlights → ClientsActsFile
clients_acts_file restarts short flights part texts g c w v n node what some below sure room says sees agrees gets runs straight filed = by node.phase refl
  where
    outs : List Effect
    outs = (clients.takes node what).outs

    rests : is_serving w.net.owner ≡ false → ActsFile v.net outs
    rests none = record {
      filed = filed;
      short = short g c w node what sees room
          (all_then (λ name. In name v.net.filed) (HasFlown w.net)
          (λ name fact. restarts g w.net v.net sure.trusted sure.moment runs straight none name fact) outs filed);
    }

    seen : (p : Phase) → node.phase ≡ p → ClientAgrees g c w p
    seen p fact = subst (ClientAgrees g c w) fact sees

    by : (p : Phase) → node.phase ≡ p → ActsFile v.net outs
    by (client.Down l) fact = rests (ap is_serving (seen (client.Down l) fact).1)
    by (client.Opening l o) fact = rests (stage_rests g c w o.known l.questions.last o.stage (seen (client.Opening l o) fact).1)
    by (client.Serving s) fact =
        record { filed = filed; short = (flights part texts g c w n node what s some below sure room (says s fact) sees fact agrees gets).short }

pub cleaners_acts_file : RestartsFileWhatFlew → CleanerFilesShort → CleanerFilesItsFlights → CleanersActsFile
cleaners_acts_file restarts short flights part texts g w v n node what small sure room says sees agrees gets asks runs straight filed = by node.phase refl
  where
    outs : List Effect
    outs = (cleaners.takes node.peers node.phase what).outs

    rests : is_serving w.net.owner ≡ false → ActsFile v.net outs
    rests none = record {
      filed = filed;
      short = short g w node what sees room
          (all_then (λ name. In name v.net.filed) (HasFlown w.net)
          (λ name fact. restarts g w.net v.net sure.trusted sure.moment runs straight none name fact) outs filed);
    }

    seen : (p : cleaner_phases.Phase) → node.phase ≡ p → cleaner_log.CleanerAgrees g w p
    seen p fact = subst (cleaner_log.CleanerAgrees g w) fact sees

    by : (p : cleaner_phases.Phase) → node.phase ≡ p → ActsFile v.net outs
    by (cleaning.Down l) fact = rests (ap is_serving (seen (cleaning.Down l) fact).1)
    by (cleaning.Opening l o) fact = rests (stage_rests g cleaner_log.its_number w o.known l.questions.last o.stage (seen (cleaning.Opening l o) fact).sees)
    by (cleaning.Serving e) fact =
        record { filed = filed; short = (flights part texts g w n node what e small sure room (says e fact) sees fact agrees gets asks).short }
