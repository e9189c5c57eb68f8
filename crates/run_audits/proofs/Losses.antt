-- What an act says is lost counts from 1, up to the first doubtful restart, and its node owns a log.
use Rattle.std.proofs.Common.{◌≡◌, ◌⊎◌, ℕ, false, inl, inr, sym, subst, arith}
use Rattle.client_serving.specs.declared.serving.Serving.{Serving}
use Rattle.core_world.specs.AnyNode.{any_start, any_step}
use Rattle.core_world.specs.declared.any_node.AnyNode.{AnyNode}
use Rattle.headline.specs.Logs.{IsThere, Role, owner_by, renews}
use Rattle.headline.specs.Logs.Role.{OfClient, OfCleaner, OfManager}
use Rattle.headline.specs.Losses.{EachLostActIsEarned, IsEarned}
use Rattle.headline.specs.Losses.IsEarned.{ToRead, ToTakeover, WhileItOpened}
use Rattle.headline.specs.Moments.{moment}
use Rattle.headline.specs.Openings.{IsReadAt}
use Rattle.headline.specs.Reads.{ToldTorn, WasTornInRead}
use Rattle.headline.specs.Restarts.{NoDoubtfulRestart}
use Rattle.headline.specs.Segments.{NotDeleted}
use Rattle.log_law.specs.BeingRead.{IsWhole}
use Rattle.log_law.specs.LogLaws.{LogLaws}
use Rattle.log_tie.specs.Setting.{Setting}
use Rattle.loss_law.proofs.Disks.{read_whole}
use Rattle.node_base.specs.Setups.{IsSetup}
use Rattle.run_laws.specs.world_logs.Lines.{HasLines, setting}
use Rattle.run_losses.proofs.missing_law.Servers.{undropped}
use Rattle.run_losses.proofs.torn_law.Events.{node_at}
use Rattle.version_model.specs.declared.act.Act.TheVariants as act
use Rattle.wire_msg.specs.declared.packet.Do.{Do}
use Rattle.world_base.specs.declared.estate.Estate.{Estate}
use Rattle.world_base.specs.Events.{what_of}
use Rattle.world_base.specs.Runs.{IsRun}
use Rattle.xfs_base.specs.declared.node.NodeId.{NodeId}
use Rattle.xfs_base.specs.declared.segment.SegName.{SegName}
use Rattle.xfs_base.specs.declared.segment.SegRef.{SegRef}
use Rattle.xfs_base.specs.Logs.{WritesLog}
use Rattle.run_audits.proofs.Acted.{Acted, among}
use Rattle.run_audits.proofs.Flown.{flown_counts, was_filed_counts}
use Rattle.run_audits.specs.Names.{IsCounted}

module _ (logs : LogLaws) (base : Setting) (e : Estate AnyNode) (setup : IsSetup e.script.setup)
    (run : IsRun any_step any_start e.script e.events e.world) (lines : HasLines base e) where
  -- the owner of a log of the run
  pub owner_writes : (r : Role) → IsThere e.script.setup.clients e.script.setup.managers r → WritesLog (owner_by r)
  owner_writes (OfClient c) there = (let few = setup.clients.1 in let some = there.0 in let within = there.1 in (omega (arith, some), omega (arith, few, within)))
  owner_writes OfCleaner there = tt
  owner_writes (OfManager j) there =
      (let few = setup.managers.1 in let some = there.0 in let within = there.1 in (omega (arith, some), omega (arith, few, within)))

  -- what an owner reads while it opens its log
  module _ (r : Role) (there : IsThere e.script.setup.clients e.script.setup.managers r) (keeps : renews r ≡ false) (count : ℕ) (segment : SegRef)
      (read : IsReadAt e r count segment) (kept : NotDeleted (moment e count) segment.name) where
    whole : IsWhole (setting base e r) ((lines r there).scene count).net segment
    whole =
        read_whole logs.read (setting base e r) ((lines r there).scene count).net ((lines r there).stands count).moment segment
        (read.scan.scan, (node_at base e lines r there keeps count read.scan read.scans).scans.sees.owner, read.is_read)
        (undropped e run base lines r there count segment.name kept)

    read_counts : IsCounted segment.name
    read_counts = subst IsCounted whole.named (flown_counts logs base e lines r there count whole.text whole.flown)

  torn_counts : (c count : ℕ) (s : Serving) (what : Do) (name : SegName) → ToldTorn e c s count what name ⊎ WasTornInRead e c count name → IsCounted name
  torn_counts c count s what name (inl t) =
      subst IsCounted (sym t.told.said.was.named) (was_filed_counts logs base e lines t.told.said.was.when t.told.said.was.segment.name t.filed)
  torn_counts c count s what name (inr t) = subst IsCounted (sym t.named) (was_filed_counts logs base e lines t.when t.segment.name t.filed)

  earned_counts : (count : ℕ) → NoDoubtfulRestart e count → (what : Do) (name : SegName) (node : NodeId) → IsEarned e count what name node
      → WritesLog node × IsCounted name
  earned_counts count sure what name node (WhileItOpened r there keeps opens was) = (
    owner_writes r there,
    subst IsCounted (sym was.lost.named) (read_counts r there keeps was.lost.when was.lost.segment was.lost.read was.lost.torn.kept),
  )
  earned_counts count sure what name node (ToTakeover j there torn filed) =
      let f = filed sure in
      (owner_writes (OfManager j) there, subst IsCounted (sym f.lost.named) (was_filed_counts logs base e lines f.lost.when f.lost.segment.name f.filed))
  earned_counts count sure what name node (ToRead c there s serves item waits torn) =
      (owner_writes (OfClient c) there, torn_counts c count s what name (torn sure))

  pub lost_counts : EachLostActIsEarned e → (count : ℕ) → NoDoubtfulRestart e count → (node : NodeId) (name : SegName)
      → Acted e (act.Lost node name) count → WritesLog node × IsCounted name
  lost_counts earned count sure node name t =
      let before = t.before in
      earned_counts t.at (λ r n below. sure r n (omega (arith, before, below))) (what_of t.event) name node
      (earned t.at t.event t.happens node name (among e (act.Lost node name) count t)).1
