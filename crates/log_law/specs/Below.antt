-- The laws of the crates below on which the small world stands.
use Rattle.log_protocol.specs.StepLaws.{HurtEarned, NamesNew}
use Rattle.std.proofs.Common.{◌≡◌, ℕ, List}
use Rattle.std.specs.List.{AllByRecursion}
use Rattle.xfs_base.specs.declared.segment.End.{End}
use Rattle.xfs_base.specs.declared.segment.LogId.{LogId}
use Rattle.group_map.specs.GroupMapState.{GroupMapState}
use Rattle.client_log.specs.declared.input.In.{In}
use Rattle.client_log.specs.History.{state_after, IsInLine, EndRisesByOne, TellsWhatIsDue}
use Rattle.client_log.specs.LogState.{LogState, log_start}
use Rattle.client_log.specs.Transition.{transition}
use Rattle.log_protocol.specs.GrowthLaws.{PastStays, LacksBetween}
use Rattle.log_protocol.specs.LogLaws as laws
use Rattle.log_protocol.specs.LogLaws.{Reached}
use Rattle.log_protocol.specs.State.{State}
use Rattle.log_protocol.specs.StateLaws.{BookInOrder, ShelvesInOrder, OwnerInOrder, HorizonsInOrder, EndIsHead}
use Rattle.log_protocol.specs.Step.{Steps, Step}
use Rattle.log_tie.specs.Inputs.{TakesInputs}
use Rattle.log_tie.specs.Openings.{OpensByStep, OpeningTakes}
use Rattle.log_tie.specs.Scans.{ScanStays, ScanTakes}
use Rattle.log_tie.specs.Shelves.{TakesDeeds}

-- of the machines, as steps of the log protocol
pub record Machines : Type 0 where
  pub inputs : TakesInputs
  pub opens : OpensByStep
  pub opening : OpeningTakes
  pub scans : ScanTakes
  pub stays : ScanStays
  pub deeds : TakesDeeds

-- of a log's own machine
pub record Logs : Type 0 where
  pub next : (log : LogId) (inc : ℕ) (end : End) (groups : GroupMapState) (history : List In) → IsInLine (state_after (log_start log inc end groups) history)
  pub rises : (log : LogId) (inc : ℕ) (end : End) (groups : GroupMapState) (history : List In) (input : In)
      → EndRisesByOne (state_after (log_start log inc end groups) history) (transition (state_after (log_start log inc end groups) history) input)
  pub due : (s : LogState) (input : In) → AllByRecursion (TellsWhatIsDue s input) (transition s input).outs

-- of the log protocol
pub record Protocol : Type 0 where
  pub book : (w : State) → Reached w → BookInOrder w
  pub shelves : (w : State) → Reached w → ShelvesInOrder w
  pub owner : (w : State) → Reached w → OwnerInOrder w
  pub horizons : (w : State) → Reached w → HorizonsInOrder w
  pub head : (w : State) → Reached w → w.clean ≡ 1 → EndIsHead w
  pub whole : (w : State) → Reached w → laws.LogsWhole w
  pub goes_on : (w u : State) → Reached w → Steps w u → Reached u
  pub line : (w : State) → Reached w → w.clean ≡ 1 → laws.OneLine w
  pub adopts : (w : State) → Reached w → w.clean ≡ 1 → laws.AdoptsOne w
  pub new : (w : State) → Reached w → NamesNew w
  pub earned : (w u : State) → Reached w → Step w u → w.clean ≡ 1 → HurtEarned w u
  pub lacks : (w m u : State) → Reached w → Steps w m → Steps m u → LacksBetween w m u
  pub past : (w u : State) → Reached w → Steps w u → PastStays w u

pub record Below : Type 0 where
  pub machines : Machines
  pub logs : Logs
  pub protocol : Protocol
