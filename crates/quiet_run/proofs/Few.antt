-- The numbers that counts of deliveries are made of are small, since a group has eight members at most; and what ends by fewer deliveries ends by so many.
use Rattle.std.proofs.Common.{◌≡◌, ◌≤◌, ◌+◌, ◌*◌, ℕ, Bool, true, false, List, length, Option, Some, None, if◌then◌else◌, nat_lt, refl, arith}
use Rattle.core_world.specs.declared.any_node.AnyNode.{AnyNode}
use Rattle.delta_index.specs.Index.{entry_of}
use Rattle.group_map.specs.declared.group.Group.{Group}
use Rattle.group_map.specs.Groups.{group_of}
use Rattle.node_base.specs.Setups.{IsSetup}
use Rattle.quiet_flow.specs.Flow.{Stage}
use Rattle.quiet_gets.proofs.Striped.{is_cut}
use Rattle.quiet_law.proofs.Stripes.{striped}
use Rattle.quiet_law.specs.Lines.{EndsAfterRound, fetching, members_at, members_of, sealing, tail}
use Rattle.quiet_nodes.specs.Scene.{Scene, its_groups}
use Rattle.version_model.specs.declared.work.Work.{Work}
use Rattle.xfs_base.specs.Blocks.{slot_of}
use Rattle.xfs_base.specs.declared.block.BlockId.{BlockId}
use Rattle.xfs_base.specs.declared.entry.Place.{Place}
use Rattle.xfs_base.specs.declared.node.NodeId.{NodeId}
use Rattle.xfs_base.specs.declared.setup.Setup.{Setup}

module _ (setup : Setup) (its : NodeId → List Work) (ok : IsSetup setup) (s : Scene) where
  pub sealing_few : (o : ℕ) → sealing setup its s o ≤ 8
  sealing_few o = (striped setup its ok o ((s.client o).end.seq + 1)).few

  pub tail_few : (c : ℕ) → tail setup its s c ≤ 32
  tail_few c = by_test (nat_lt (length (s.client c).dirty) 23)
    where
      by_test : (t : Bool) → (if t then 0 else 2 * sealing setup its s c + 16) ≤ 32
      by_test true = omega arith
      by_test false = let least = sealing_few c in omega arith

  members_few : (o : Option Place) → members_at setup its o ≤ 8
  members_few None = omega arith
  members_few (Some place) = by_group (group_of (its_groups setup its) place.seg.group) refl
    where
      by_group : (g : Option Group) → group_of (its_groups setup its) place.seg.group ≡ g → members_of setup its g ≤ 8
      by_group None is = omega arith
      by_group (Some group) is = (is_cut setup its ok place.seg.group group is).limit

  pub fetching_few : (b : BlockId) → fetching setup its s b ≤ 16
  fetching_few b = let most = members_few (entry_of (s.slot (slot_of b.ino.0)).index.rows b).place in omega arith

-- fewer deliveries are no more than so many
pub ends_later_more : (setup : Setup) (its : NodeId → List Work) (k a b most more : ℕ) (s : Scene) (t : Stage AnyNode) (c item : ℕ) → a ≤ most → b ≤ more
    → EndsAfterRound setup its k a b s t c item → EndsAfterRound setup its k most more s t c item
ends_later_more setup its k a b most more s t c item less fewer e = record {
  mid = e.mid;
  first = e.first;
  first_few = (let few = e.first_few in omega arith);
  first_drains = e.first_drains;
  waits = e.waits;
  scene = e.scene;
  end = e.end;
  second = e.second;
  second_few = (let few = e.second_few in omega arith);
  second_drains = e.second_drains;
  answered = e.answered;
}
