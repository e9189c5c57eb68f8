-- What a client's open call reads had been filed, and is stored, at each moment of every run up to which no restart was doubtful.
use Rattle.std.proofs.Common.{◌<◌, subst, arith}
use Rattle.run_losses.proofs.fetched_law.Lying.{is_stored, was_filed}
use Rattle.run_losses.specs.fetched_law.Reads.{CallsReadWhatIsStored, CallsReadWhatWasFiled}
use Rattle.run_losses.specs.fetching_law.Fetchings.{CallsReadBlocks}
use Rattle.run_losses.proofs.missing_law.Servers.{StoredLaws}
use Rattle.headline.specs.Torn.{IsStoredAs, WasFiled}
use Rattle.headline.specs.Moments.{moment}
use Rattle.headline.specs.Segments.{NotDeleted}
use Rattle.run_laws.specs.world_reads.LoggedRuns.{logged_run}
use Rattle.run_laws.specs.world_reads.Moments.{EveryRunStands}
use Rattle.xfs_base.specs.declared.segment.SegRef.{SegRef}
use Rattle.xfs_base.specs.Limits.{slot_count}

pub record Below : Type 0 where
  pub runs : EveryRunStands
  pub blocks : CallsReadBlocks
  pub stored : StoredLaws

some_slot : 0 < slot_count
some_slot = omega arith

pub calls_read_what_was_filed : Below → CallsReadWhatWasFiled
calls_read_what_was_filed below e ok run count none c some limit item segment x =
    let base = below.runs.setting.0 in
    let lines = below.runs.lines base e ok run in
    let texts = below.runs.texts base e ok lines in
    let stands = below.runs.moments base below.runs.setting.1 e ok run lines texts count none in
    let block = below.blocks e ok run c some limit count x.reading x.reads in
    subst (λ (ref : SegRef). WasFiled e count ref.name) x.of
    (was_filed (logged_run base e lines texts) run count (stands.joints 0 some_slot) c x.reading x.reads block.0 block.1)

pub calls_read_what_is_stored : Below → CallsReadWhatIsStored
calls_read_what_is_stored below e ok run count none c some limit item segment x kept =
    let base = below.runs.setting.0 in
    let lines = below.runs.lines base e ok run in
    let texts = below.runs.texts base e ok lines in
    let stands = below.runs.moments base below.runs.setting.1 e ok run lines texts count none in
    let block = below.blocks e ok run c some limit count x.reading x.reads in
    subst (λ (ref : SegRef). NotDeleted (moment e count) ref.name → IsStoredAs e count ref) x.of
    (is_stored (logged_run base e lines texts) run count (stands.joints 0 some_slot) c x.reading x.reads block.0 block.1 below.stored) kept
