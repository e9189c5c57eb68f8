-- Where each member of a segment's group holds its fragment or has lost its disk, and the segment is torn, more have lost their disk than the parity makes
-- good.
use Rattle.std.proofs.Common.{◌≡◌, ℕ, ◌<◌, Bool, true, Option, Some, None, is_none, length, sym, subst, ◌∙◌, inl, inr, arith}
use Rattle.std.specs.List.{count_by}
use Rattle.std.specs.Prelude.{slice_index_or}
use Rattle.std.proofs.lemmas.Bool.{lt-ltb}
use Rattle.core_world.specs.declared.any_node.AnyNode.{AnyNode}
use Rattle.fragment_store.specs.ShelfState.{ShelfState, held_at}
use Rattle.group_map.specs.declared.group.Group.{Group}
use Rattle.group_map.specs.declared.group.Member.{Member}
use Rattle.log_flight.specs.Flights.{no_member}
use Rattle.loss_law.proofs.Counting.{counted_places}
use Rattle.segment_format.specs.References.{ref_of}
use Rattle.segment_format.specs.declared.segment.Segment.{Segment}
use Rattle.headline.specs.Torn.{IsTornAt, disks_lost, has_lost_disk, lacks}
use Rattle.world_base.specs.declared.estate.Estate.{Estate}
use Rattle.headline.specs.Moments.{moment}
use Rattle.headline.specs.Servers.{HoldsOrLost, IsKept, group_at, piece, shelf_at}
use Rattle.xfs_base.proofs.Booleans.{contrary}
use Rattle.xfs_base.specs.declared.fragment.Fragment.{Fragment}

lacks_none : (o : Option Fragment) (f : Fragment) → o ≡ Some f → is_none o ≡ true → ⊥
lacks_none None f fact none = absurd cc
lacks_none (Some h) f fact none = contrary none

same_group : (a b : Group) → Some a ≡ Some b → a ≡ b
same_group a b e = cc

module _ (e : Estate AnyNode) (count : ℕ) (s : Segment) (group : Group) (kept : IsKept (moment e count) s group) where
  abbrev at : ℕ → Member
  at place = slice_index_or group.members place no_member

  abbrev lack : Member → Bool
  lack m = lacks (shelf_at (moment e count) m.server) s.name

  abbrev lost : Member → Bool
  lost m = has_lost_disk m (shelf_at (moment e count) m.server)

  each_lost : (place : ℕ) → place < length group.members → lack (at place) ≡ true → lost (at place) ≡ true
  each_lost place within = by (shelf_at (moment e count) (at place).server) (kept place within)
    where
      by : (o : Option ShelfState) → HoldsOrLost s group place o → lacks o s.name ≡ true → has_lost_disk (at place) o ≡ true
      by None h none = absurd h
      by (Some shelf) (inl holds) none = absurd (lacks_none (held_at shelf.held s.name) (piece s group place) holds none)
      by (Some shelf) (inr less) none = lt-ltb (at place).generation shelf.generation less

  -- where the segment is torn, more members have lost their disk than the parity makes good
  pub disks_of : group_at e.world s.group ≡ Some group → IsTornAt e count (ref_of s) → group.parity < disks_lost (moment e count) group
  disks_of striped t =
      let same : t.group ≡ group = same_group t.group group (sym t.striped ∙ striped) in
      let torn : group.parity < count_by lack group.members = subst (λ (h : Group). h.parity < count_by lack h.members) same t.torn in
      let more = counted_places lack lost group.members each_lost in
      omega arith
