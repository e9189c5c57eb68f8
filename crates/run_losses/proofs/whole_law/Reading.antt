-- What an owner reads while it opens its log, its small world reads too: there it is whole but for disks, and so it is on the shelves.
use Rattle.std.proofs.Common.{◌≡◌, ℕ, false, sym, subst}
use Rattle.core_world.specs.AnyNode.{any_start, any_step}
use Rattle.core_world.specs.declared.any_node.AnyNode.{AnyNode}
use Rattle.log_law.specs.BeingRead.{IsWhole, WhatIsReadIsWhole}
use Rattle.log_law.specs.Net.{Net}
use Rattle.log_tie.specs.Setting.{Setting}
use Rattle.segment_format.specs.References.{ref_of}
use Rattle.loss_law.proofs.Disks.{read_whole}
use Rattle.run_losses.proofs.missing_law.Servers.{StoredLaws, on_shelves, undropped}
use Rattle.headline.specs.Torn.{IsStoredAs, IsTornAt}
use Rattle.run_losses.proofs.torn_law.Events.{node_at}
use Rattle.run_losses.specs.torn_law.Torn.{OpeningLosesWhatIsTorn, ReopeningsLoseWhatIsTorn}
use Rattle.headline.specs.Openings.{IsReadAt}
use Rattle.world_base.specs.declared.estate.Estate.{Estate}
use Rattle.world_base.specs.Runs.{IsRun}
use Rattle.headline.specs.Moments.{moment}
use Rattle.run_laws.specs.world_logs.Lines.{HasLines, RunsHaveLines, setting}
use Rattle.headline.specs.Segments.{NotDeleted}
use Rattle.headline.specs.Logs.{IsThere, Role, renews}
use Rattle.xfs_base.specs.declared.segment.SegRef.{SegRef}
use Rattle.run_losses.specs.whole_law.Whole.{LosesWhatWasWhole, ReadsWhatIsWhole, ReopeningsLoseWhatWasWhole, WhatReopeningsReadIsWhole}

pub record Below : Type 0 where
  pub setting : Setting
  pub lines : RunsHaveLines
  pub logs : StoredLaws
  pub read : WhatIsReadIsWhole

module _ (below : Below) (e : Estate AnyNode) (run : IsRun any_step any_start e.script e.events e.world) (lines : HasLines below.setting e) (r : Role)
    (is_there : IsThere e.script.setup.clients e.script.setup.managers r) (keeps : renews r ≡ false) where
  abbrev g : Setting
  g = setting below.setting e r

  abbrev net : ℕ → Net
  net count = ((lines r is_there).scene count).net

  module _ (count : ℕ) (segment : SegRef) (read : IsReadAt e r count segment) (kept : NotDeleted (moment e count) segment.name) where
    there : IsWhole g (net count) segment
    there =
        read_whole below.read g (net count) ((lines r is_there).stands count).moment segment
        (read.scan.scan, (node_at below.setting e lines r is_there keeps count read.scan read.scans).scans.sees.owner, read.is_read)
        (undropped e run below.setting lines r is_there count segment.name kept)

    same : ref_of there.text ≡ segment
    same = λ i. record { name = there.named i; group = there.grouped i }

    read_so : IsStoredAs e count segment
    read_so = subst (IsStoredAs e count) same (on_shelves e run below.setting lines r is_there count there.text below.logs there.flown there.whole)

  reads_whole : ReadsWhatIsWhole e r
  reads_whole count segment read kept = read_so count segment read kept

  -- what was torn while it was read was whole but for disks then
  loses_whole : OpeningLosesWhatIsTorn e r → LosesWhatWasWhole e r
  loses_whole torn count event fact own opens name among =
      let t = torn count event fact own opens name among in
      let w = reads_whole t.when t.segment t.read t.torn.kept in
      record { lost = t; whole = w; disks = w.stored.disks (subst (IsTornAt e t.when) (sym w.over) t.torn) }

pub what_reopenings_read : Below → WhatReopeningsReadIsWhole
what_reopenings_read below e ok run r is_there keeps = reads_whole below e run (below.lines below.setting e ok run) r is_there keeps

pub what_reopenings_lose : Below → ReopeningsLoseWhatIsTorn → ReopeningsLoseWhatWasWhole
what_reopenings_lose below torn e ok run r is_there keeps =
    loses_whole below e run (below.lines below.setting e ok run) r is_there keeps (torn e ok run r is_there keeps)
