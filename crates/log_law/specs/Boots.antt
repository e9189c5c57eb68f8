-- Boots: where an owner comes to serve, at most one segment of its boot is filed.
use Rattle.std.specs.Prelude.{◌≡◌, true, false}
use Rattle.log_law.specs.Events.{Happens}
use Rattle.log_law.specs.Laws.{Moment}
use Rattle.log_law.specs.Net.{Net}
use Rattle.log_law.specs.Restarts.{is_serving}
use Rattle.log_protocol.specs.Tables.{In}
use Rattle.log_tie.specs.Setting.{Setting}
use Rattle.xfs_base.specs.declared.segment.SegName.{SegName}

-- Where an owner comes to serve, no two segments of its boot are filed: what was filed before, and what was read back, is of earlier ones. So it is after doubtful
-- restarts, too.
abbrev pub ARestartFilesOneOfItsBoot : Type 0
ARestartFilesOneOfItsBoot =
    (g : Setting) (n o : Net) → Moment g n → Happens g n o → is_serving n.owner ≡ false → is_serving o.owner ≡ true → (a b : SegName) → In a o.filed
    → In b o.filed → a.pass.inc ≡ o.inc → b.pass.inc ≡ o.inc → a ≡ b
