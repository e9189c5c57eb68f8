-- The groups that a packet names.
use Rattle.std.specs.Prelude.{Bool, true, ◌==◌, ◌&&◌, ◌||◌, Option, Some, None}
use Rattle.std.specs.List.{list_all}
use Rattle.wire_msg.specs.declared.body.Body.{Body}
use Rattle.wire_msg.specs.declared.body.Body.TheVariants as body
use Rattle.xfs_base.specs.declared.entry.Place.{Place}
use Rattle.xfs_base.specs.declared.fragment.FragMeta.{FragMeta}
use Rattle.xfs_base.specs.declared.segment.End.{End}
use Rattle.node_base.specs.declared.maps.Maps.{Maps}
use Rattle.node_base.specs.Maps.{knows, knows_prior}

abbrev pub knows_entry : Maps → Option Place → Bool
knows_entry maps None = true
knows_entry maps (Some place) = knows maps place.seg.group

abbrev pub knows_meta : Maps → FragMeta → Bool
knows_meta maps meta = knows maps meta.group && knows_prior maps meta.prior

abbrev pub knows_end : Maps → End → Bool
knows_end maps end = (end.seq == 0) || knows maps end.group

-- each group that a packet names is known; maps are looked at by themselves
abbrev pub names_known_groups : Maps → Body → Bool
names_known_groups maps (body.Grant grant) = knows_entry maps grant.entry.place
names_known_groups maps (body.Live live) = knows_entry maps live.entry.place
names_known_groups maps (body.Check check) = knows maps check.place.seg.group
names_known_groups maps (body.Deltas deltas) = list_all (λ row. knows_entry maps row.1.place) deltas.rows
names_known_groups maps (body.Report report) = knows_end maps report.end
names_known_groups maps (body.Store store) = knows_meta maps store.fragment.meta
names_known_groups maps (body.Fragment found) = knows_meta maps found.fragment.meta
names_known_groups maps (body.Fenced fenced) = list_all (knows_meta maps) fenced.held
names_known_groups maps (body.Listed listed) = list_all (knows_meta maps) listed.held
names_known_groups maps (body.CkptDone done) = list_all (λ part. knows maps part.group) done.parts
names_known_groups maps _ = true
