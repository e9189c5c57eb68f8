-- The segments of which the rebuilt server should hold a fragment, and that fragment.
use Rattle.std.specs.Prelude.{ℕ, ◌<◌, ◌==◌, not, List, [], Option, Some, None, map, filter, length, position, slice_get, unwrap_or}
use Rattle.std.specs.List.{filter_map}
use Rattle.group_map.specs.declared.group.Group.{Group}
use Rattle.group_map.specs.declared.group.Member.{Member}
use Rattle.group_map.specs.GroupMapState.{GroupMapState}
use Rattle.group_map.specs.Groups.{group_of}
use Rattle.stripe_code.specs.Stripe.{IsCut, stripe_of}
use Rattle.xfs_base.specs.declared.fragment.FragMeta.{FragMeta}
use Rattle.xfs_base.specs.declared.fragment.Fragment.{Fragment}
use Rattle.group_rebuild.specs.declared.wanted.Wanted.{Wanted}

-- a segment may be cut for so many members, and one of its fragments is the server's
pub record IsWanted (w : Wanted) : Type 0 where
  pub cut : IsCut w.n w.parity
  pub within : w.place < w.n

-- the other members' servers, in order
abbrev pub others_of : ℕ → List Member → List ℕ
others_of server members = map (λ m. m.server) (filter (λ m. not (m.server == server)) members)

-- a segment of a group that has the server at this place
abbrev pub in_group : ℕ → Group → FragMeta → Option ℕ → Option Wanted
in_group server g meta None = None
in_group server g meta (Some place) = Some (record { meta = meta; n = length g.members; parity = g.parity; place = place; others = others_of server g.members })

abbrev pub of_group : ℕ → FragMeta → Option Group → Option Wanted
of_group server meta None = None
of_group server meta (Some g) = in_group server g meta (position (λ m. m.server == server) g.members)

-- what is wanted of a segment, where its group has the server
abbrev pub wanted_of : ℕ → GroupMapState → FragMeta → Option Wanted
wanted_of server groups meta = of_group server meta (group_of groups meta.group)

abbrev pub wanted_in : ℕ → GroupMapState → List FragMeta → List Wanted
wanted_in server groups metas = filter_map (wanted_of server groups) metas

-- the server's fragment of a segment with this text, as it was cut
unfoldable pub refilled : Wanted → List ℕ → Fragment
refilled w text = record { meta = record w.meta { index = w.place }; bytes = unwrap_or (slice_get (stripe_of text w.n w.parity) w.place) [] }
