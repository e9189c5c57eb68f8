-- Names of segments that were in flight in the log of an owner: they are of that log, and count from 1. So is what was filed, what a client in its fall had in
-- flight, and the chain by which it is back.
use Rattle.std.proofs.Common.{ℕ, List, [], ◌∷◌, Option, Some, None, inl, inr, refl, subst}
use Rattle.std.specs.Prelude.{IfSome}
use Rattle.std.specs.List.{AllByRecursion}
use Rattle.client_node.specs.Crash.{flight_of}
use Rattle.core_world.specs.AnyNode.{any_start, any_step}
use Rattle.core_world.specs.declared.any_node.AnyNode.{AnyNode}
use Rattle.headline.specs.Logs.{IsThere, Role, did, log_by}
use Rattle.headline.specs.Moments.{moment}
use Rattle.headline.specs.Torn.{WasFiled}
use Rattle.log_flight.specs.Flights.{FlightState}
use Rattle.log_law.specs.LogLaws.{LogLaws}
use Rattle.log_law.specs.Net.{Net}
use Rattle.log_law.specs.Written.{IsOfLog}
use Rattle.log_owner.specs.Opened.{names_in}
use Rattle.log_protocol.specs.Tables as tables
use Rattle.log_tie.specs.Setting.{Setting}
use Rattle.node_base.specs.Setups.{IsSetup}
use Rattle.node_slots.specs.owner_index_tie.ServerEvents.{ServerEventGoes}
use Rattle.run_laws.proofs.world_law.Laws as tokens
use Rattle.run_laws.proofs.world_reads.OwnActs.{told_by_owner}
use Rattle.run_laws.specs.world_logs.Lines.{HasLines, setting}
use Rattle.segment_format.specs.declared.segment.Segment.{Segment}
use Rattle.token_protocol.specs.Basics.{In}
use Rattle.version_model.specs.declared.act.Act.TheVariants as act
use Rattle.world_base.specs.declared.estate.Estate.{Estate}
use Rattle.world_base.specs.Runs.{IsRun}
use Rattle.xfs_base.specs.declared.segment.SegName.{SegName}
use Rattle.run_audits.proofs.Attempts.{attempts_count}
use Rattle.run_audits.specs.Names.{CountsFlight, IsCounted}

module _ (logs : LogLaws) (base : Setting) (e : Estate AnyNode) (lines : HasLines base e) where
  module _ (r : Role) (there : IsThere e.script.setup.clients e.script.setup.managers r) (count : ℕ) where
    abbrev net : Net
    net = ((lines r there).scene count).net

    -- what was in flight
    pub flown_counts : (s : Segment) → tables.In s net.flown → IsCounted s.name
    flown_counts s flew =
        let m = ((lines r there).stands count).moment in
        let of : IsOfLog (setting base e r) s = logs.written (setting base e r) net m s flew in
        record { log = of.written.text.limits.log; seq = of.seq; inc = of.boot; att = attempts_count (setting base e r) net m s flew }

    -- what its owner told to be filed
    told_counts : (name : SegName) → In (act.Filed name) (did e (log_by r) count) → IsCounted name
    told_counts name fact =
        let m = ((lines r there).stands count).moment in
        let f = (logs.whole (setting base e r) net m).flown name (((lines r there).stands count).filed name fact) in
        subst IsCounted f.2 (flown_counts f.0 f.1)

    -- what is in flight
    pub flight_counts : (o : Option FlightState) → IfSome o (λ (f : FlightState). tables.In f.segment net.flown) → CountsFlight (flight_of o)
    flight_counts None flew = tt
    flight_counts (Some f) flew = (let c = flown_counts f.segment flew in (c.seq, c.inc))

    -- a chain of such
    pub chain_counts : (chain : List Segment) → ((t : Segment) → tables.In t chain → tables.In t net.flown) → AllByRecursion IsCounted (names_in chain)
    chain_counts [] flew = tt
    chain_counts (t ∷ chain) flew = (flown_counts t (flew t (inl refl)), chain_counts chain (λ u fact. flew u (inr fact)))

  pub was_filed_counts : (count : ℕ) (name : SegName) → WasFiled e count name → IsCounted name
  was_filed_counts count name f = told_counts f.owner f.there count name f.acted

  pub filed_counts : tokens.NodeLaws → ServerEventGoes → IsSetup e.script.setup → IsRun any_step any_start e.script e.events e.world → (count : ℕ) (name : SegName)
      → In (act.Filed name) (moment e count).acts → IsCounted name
  filed_counts laws servers setup run count name fact =
      let t = told_by_owner laws servers e setup run name count fact in
      told_counts t.role t.there count name t.among
