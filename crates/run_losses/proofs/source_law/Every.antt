-- What a takeover reads had been filed, and is stored, at each moment of every run up to which no restart was doubtful; so what it says is lost had been filed.
use Rattle.std.proofs.Common.{ℕ, ◌<◌, arith}
use Rattle.core_world.specs.AnyNode.{any_start, any_step}
use Rattle.core_world.specs.declared.any_node.AnyNode.{AnyNode}
use Rattle.log_tie.specs.Setting.{Setting}
use Rattle.node_base.specs.Setups.{IsSetup}
use Rattle.run_laws.specs.reading_law.Readings.{RunsReadWhatCame}
use Rattle.headline.specs.Restarts.{NoDoubtfulRestart}
use Rattle.run_losses.proofs.source_law.Lying.{Laws, reads_filed, reads_stored, slot_of_map}
use Rattle.headline.specs.Torn.{IsStoredAs, WasFiled}
use Rattle.run_losses.specs.source_law.Sources.{TakeoversLoseWhatWasFiled, TakeoversReadWhatIsStored, TakeoversReadWhatWasFiled}
use Rattle.run_losses.specs.taking_law.Takings.{TakeoversLoseWhatIsTorn}
use Rattle.headline.specs.Takeovers.{Reads, WasTornOrDeleted, slot_at}
use Rattle.world_base.specs.declared.estate.Estate.{Estate}
use Rattle.world_base.specs.Runs.{IsRun}
use Rattle.headline.specs.Moments.{moment}
use Rattle.run_laws.specs.world_logs.Lines.{HasLines, Texts}
use Rattle.headline.specs.Segments.{NotDeleted}
use Rattle.headline.specs.Logs.{IsThere}
use Rattle.headline.specs.Logs.Role.{OfManager}
use Rattle.run_laws.specs.world_reads.LoggedRuns.{LoggedRun, logged_run}
use Rattle.run_laws.specs.world_reads.Moments.{EveryRunStands, MomentStands}
use Rattle.xfs_base.specs.declared.segment.SegRef.{SegRef}
use Rattle.xfs_base.specs.Limits.{slot_count}

pub record Below : Type 0 where
  pub runs : EveryRunStands
  pub came : RunsReadWhatCame
  pub laws : Laws

module _ (below : Below) (e : Estate AnyNode) (ok : IsSetup e.script.setup) (run : IsRun any_step any_start e.script e.events e.world) (count : ℕ)
    (none : NoDoubtfulRestart e count) (j : ℕ) (there : IsThere e.script.setup.clients e.script.setup.managers (OfManager j)) (slot epoch : ℕ) (ref : SegRef)
    (r : Reads (slot_at e j slot count) epoch ref) where
  abbrev base : Setting
  base = below.runs.setting.0

  abbrev lines : HasLines base e
  lines = below.runs.lines base e ok run

  abbrev texts : Texts base e lines
  texts = below.runs.texts base e ok lines

  abbrev logged : LoggedRun
  logged = logged_run base e lines texts

  moment_stands : MomentStands base e lines texts count
  moment_stands = below.runs.moments base below.runs.setting.1 e ok run lines texts count none

  less : slot < slot_count
  less =
      slot_of_map logged 0 count (moment_stands.joints 0 (omega arith)) j there slot r.taking r.takes

  was_filed : WasFiled e count ref.name
  was_filed =
      reads_filed below.laws logged run slot count (moment_stands.joints slot less)
      (moment_stands.references slot less)
      (below.came e ok run count) (moment_stands.named slot less) j there epoch ref r

  is_stored : NotDeleted (moment e count) ref.name → IsStoredAs e count ref
  is_stored =
      reads_stored below.laws logged run slot count (moment_stands.joints slot less)
      (moment_stands.references slot less)
      (below.came e ok run count) (moment_stands.named slot less) j there epoch ref r

pub takeovers_read_what_was_filed : Below → TakeoversReadWhatWasFiled
takeovers_read_what_was_filed below e ok run count none j there slot epoch ref r = was_filed below e ok run count none j there slot epoch ref r

pub takeovers_read_what_is_stored : Below → TakeoversReadWhatIsStored
takeovers_read_what_is_stored below e ok run count none j there slot epoch ref r kept = is_stored below e ok run count none j there slot epoch ref r kept

-- it read the segment at the moment at which that was torn
pub takeovers_lose_what_was_filed : TakeoversReadWhatWasFiled → TakeoversReadWhatIsStored → TakeoversLoseWhatIsTorn → TakeoversLoseWhatWasFiled
takeovers_lose_what_was_filed filed stored losses e ok run count none event fact j there own name among =
    let l : WasTornOrDeleted e j count name = losses e ok run j there count event fact own name among in
    let before = l.before in
    let undoubted : NoDoubtfulRestart e l.when = λ r n less. none r n (omega arith) in
    let reads : Reads (slot_at e j l.slot l.when) l.epoch l.segment = l.reads l.when (omega arith) before in
    record {
      lost = l;
      filed = filed e ok run l.when undoubted j there l.slot l.epoch l.segment reads;
      stored = λ kept. stored e ok run l.when undoubted j there l.slot l.epoch l.segment reads kept;
    }
