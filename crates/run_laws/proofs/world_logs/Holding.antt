-- What the owner of a log has in flight, and what it read back, tells entries whose numbers are in the ranges of their types.
use Rattle.std.proofs.Common.{◌≡◌, ℕ, List, [], ◌∷◌, Option, inl, inr, refl, subst}
use Rattle.std.specs.List.{AllByRecursion}
use Rattle.std.specs.Prelude.{IfSome}
use Rattle.client_serving.specs.Lasting.{log_of}
use Rattle.node_logs.specs.cleaner_log_tie.Owner.{CleanerAgrees, its_number}
use Rattle.cleaner_node.specs.declared.cleaner.Phase.{Phase as CleanerPhase}
use Rattle.cleaner_node.specs.declared.cleaner.Phase.TheVariants as cleaners
use Rattle.cleaner_job.specs.Starting.{cleaner_log}
use Rattle.client_log.specs.LogState.{LogState}
use Rattle.node_logs.specs.client_log_tie.Owner.{ClientAgrees, Scene, SeesStage}
use Rattle.client_node.specs.declared.phase.Phase.TheVariants as clients
use Rattle.client_node.specs.declared.phase.Phase.{Phase}
use Rattle.node_tellings.specs.entry_tie.CleanerTells as cleaner_tells
use Rattle.node_tellings.specs.entry_tie.ClientTells as client_tells
use Rattle.node_tellings.specs.entry_tie.ClientTells.{FlightOwed, SegmentOwed, StageOwed}
use Rattle.log_flight.specs.Flights.{FlightState}
use Rattle.log_law.specs.Held.{OwnerFlew}
use Rattle.log_law.specs.Net.{Net}
use Rattle.log_law.specs.Net.Owner.{Serving, Writing}
use Rattle.log_owner.specs.declared.known.Known.{Known}
use Rattle.log_owner.specs.declared.opening.Stage as stages
use Rattle.log_owner.specs.declared.opening.Stage.TheVariants as stage
use Rattle.log_protocol.specs.Tables as tables
use Rattle.log_tie.specs.Setting.{Setting}
use Rattle.node_logs.specs.manager_log_tie.Told.{IsToldInRange}
use Rattle.segment_format.specs.declared.segment.Segment.{Segment}
use Rattle.version_model.specs.declared.act.Act.{Act}
use Rattle.run_laws.proofs.world_logs.Fits.{in_range, segment_tells}
use Rattle.xfs_base.specs.declared.segment.LogId.{LogId}

module _ (n : Net) (flew : OwnerFlew n.flown n.owner) (told : IsToldInRange n) (acts : List Act) where
  flight_owed : (log : LogId) (s : LogState) → n.owner ≡ Serving s → FlightOwed in_range acts log s
  flight_owed log s fact flight flies filed =
      segment_tells flight.segment
      (told.written flight.segment
      (subst (λ (o : Option FlightState). IfSome o (λ (f : FlightState). tables.In f.segment n.flown)) flies (subst (OwnerFlew n.flown) fact flew))).fits

  each_owed : (chain : List Segment) → ((t : Segment) → tables.In t chain → tables.In t n.flown) → AllByRecursion (SegmentOwed in_range acts) chain
  each_owed [] read = tt
  each_owed (t ∷ chain) read = (λ filed. segment_tells t (told.written t (read t (inl refl))).fits, each_owed chain (λ s fact. read s (inr fact)))

  chain_owed : (chain : List Segment) (s : LogState) → n.owner ≡ Writing chain s → AllByRecursion (SegmentOwed in_range acts) chain
  chain_owed chain s fact = (let f = subst (OwnerFlew n.flown) fact flew in each_owed chain f.read)

module _ (g : Setting) (c : ℕ) (w : Scene) (flew : OwnerFlew w.net.flown w.net.owner) (told : IsToldInRange w.net) (acts : List Act) where
  stage_owed : (k : Known) (last : ℕ) (at : stages.Stage) → SeesStage g c w k last at → StageOwed in_range acts at
  stage_owed k last (stage.Scanning s) sees = tt
  stage_owed k last (stage.Settling s) sees = chain_owed w.net flew told acts s.chain s.log sees.owner

  pub client_owed : (p : Phase) → ClientAgrees g c w p → client_tells.PhaseOwed in_range acts p
  client_owed (clients.Down l) h = tt
  client_owed (clients.Opening l o) h = stage_owed o.known l.questions.last o.stage h.1
  client_owed (clients.Serving s) h = flight_owed w.net flew told acts (log_of s.lasting) s.log h.1.owner

pub cleaner_owed : (g : Setting) (w : Scene) → OwnerFlew w.net.flown w.net.owner → IsToldInRange w.net → (acts : List Act) (p : CleanerPhase)
    → CleanerAgrees g w p → cleaner_tells.PhaseOwed in_range acts p
cleaner_owed g w flew told acts (cleaners.Down l) h = tt
cleaner_owed g w flew told acts (cleaners.Opening l o) h = stage_owed g its_number w flew told acts o.known l.questions.last o.stage h.sees
cleaner_owed g w flew told acts (cleaners.Serving e) h = flight_owed w.net flew told acts cleaner_log e.log h.log.owner
