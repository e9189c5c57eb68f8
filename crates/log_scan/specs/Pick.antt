-- Where the log goes on: behind the newest segment that the servers list, or behind the one before it where that was not settled.
use Rattle.std.specs.Prelude.{ℕ, ◌-◌, Bool, ◌==◌, ◌&&◌, not, nat_le, if◌then◌else◌, List, Option, Some, None, filter}
use Rattle.std.specs.List.{list_any, find, flat_map}
use Rattle.std.specs.Option.{option_map}
use Rattle.std.specs.Ordering.{nat_cmp, ordering_then, is_gt}
use Rattle.std.specs.declared.cmp.Ordering.{Ordering}
use Rattle.group_map.specs.declared.group.Group.{Group}
use Rattle.group_map.specs.declared.group.Member.{Member}
use Rattle.group_map.specs.GroupMapState.{GroupMapState}
pub use Rattle.group_map.specs.Groups.{known_group}
use Rattle.xfs_base.specs.Segments.{same_name}
use Rattle.xfs_base.specs.declared.fragment.FragMeta.{FragMeta}
use Rattle.xfs_base.specs.declared.segment.End.{End}
use Rattle.xfs_base.specs.declared.segment.SegName.{SegName}
use Rattle.log_scan.specs.declared.listing.Listing.{Listing}

-- ---- the newest segment

-- what counts of a list: all that is not below the horizon
abbrev pub above : ℕ → List FragMeta → List FragMeta
above low metas = filter (λ m. nat_le low m.name.seq) metas

-- what counts of all lists
abbrev pub counting : ℕ → List Listing → List FragMeta
counting low lists = flat_map (λ l. above low l.held) lists

-- by incarnation, then by number, then by attempt
abbrev pub age_cmp : FragMeta → FragMeta → Ordering
age_cmp a b = ordering_then (nat_cmp a.name.pass.inc b.name.pass.inc) (ordering_then (nat_cmp a.name.seq b.name.seq) (nat_cmp a.name.pass.att b.name.pass.att))

abbrev pub is_newer : FragMeta → FragMeta → Bool
is_newer a b = is_gt (age_cmp a b)

-- the first of these than which none is newer
abbrev pub newest : List FragMeta → Option FragMeta
newest metas = find (λ m. not (list_any (λ other. is_newer other m) metas)) metas

-- ---- whether it was settled

abbrev pub has_name : SegName → List FragMeta → Bool
has_name name metas = list_any (λ m. same_name m.name name) metas

-- this is the list of the member's server, sent at the member's generation, and it lacks the segment
abbrev pub lacks : SegName → Member → Listing → Bool
lacks name member l = (l.server == member.server) && ((l.generation == member.generation) && not (has_name name l.held))

-- a member lost nothing since the segment's group was made, and lacks it: it was not settled
abbrev pub is_torn : List Listing → SegName → List Member → Bool
is_torn lists name members = list_any (λ member. list_any (lacks name member) lists) members

-- ---- where the log goes on

-- behind this segment
abbrev pub end_at : FragMeta → End
end_at m = record { seq = m.name.seq; pass = m.name.pass; group = m.group }

-- behind the segment before it
abbrev pub end_before : FragMeta → End
end_before m = record { seq = m.name.seq - 1; pass = m.prior.pass; group = m.prior.group }

-- behind this number, with no segment to name
abbrev pub end_of_none : ℕ → End
end_of_none seq = record { seq = seq; pass = record { inc = 0; att = 0 }; group = 0 }

abbrev pub start_in : List Listing → FragMeta → Group → End
start_in lists m group = if is_torn lists m.name group.members then end_before m else end_at m

abbrev pub start_from : Option GroupMapState → List Listing → ℕ → Option FragMeta → Option End
start_from groups lists low None = Some (end_of_none (low - 1))
start_from groups lists low (Some m) = option_map (start_in lists m) (known_group groups m.group)

-- The newest segment that counts is kept, or torn and passed over; where none counts the log goes on at the horizon. It is
-- open where the group of the newest is not known.
abbrev pub start_of : Option GroupMapState → List Listing → ℕ → Option End
start_of groups lists low = start_from groups lists low (newest (counting low lists))

-- ---- whose lists are in

abbrev pub has_list : ℕ → List Listing → Bool
has_list server lists = list_any (λ l. l.server == server) lists
