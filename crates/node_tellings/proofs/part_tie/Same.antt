-- What a takeover reads, and the maps that it is told, leave its news and the reports that it has heard as they were.
use Rattle.std.proofs.Common.{◌≡◌, ℕ, ◌+◌, List, [], ◌∷◌, Option, None, Some, refl}
use Rattle.group_map.specs.declared.group.Group.{Group}
use Rattle.group_map.specs.GroupMapState.{GroupMapState}
use Rattle.group_map.specs.Groups.{group_of}
use Rattle.segment_format.specs.declared.segment.Segment.{Segment}
use Rattle.segment_reading.specs.declared.reading.Next.{Next}
use Rattle.segment_reading.specs.declared.reading.Next.TheVariants as next
use Rattle.segment_reading.specs.Reading.{ReadingState, reading_take, on_confirmed}
use Rattle.stripe_code.specs.declared.round.Told.{Told}
use Rattle.takeover.specs.declared.source.Present.{Present}
use Rattle.takeover.specs.declared.source.Source.{Source}
use Rattle.takeover.specs.Rows.{told_of}
use Rattle.takeover.specs.Sources.{back_from}
use Rattle.takeover.specs.TakeState.{TakeState}
use Rattle.takeover.specs.Transition.{Done, again, can_ask, confirmed_as, go_on, go_on_from, has_read, take_follow, next_of, on_maps, on_told, seek, sought_again, sought_over, told_at, take_judge, waiting, present_waiting, join_chain}
use Rattle.xfs_base.proofs.Booleans.{by_test}
use Rattle.xfs_base.specs.Steps.{still}

abbrev pub Same : TakeState → Done → Type 0
Same s d = (d.state.news ≡ s.news) × (d.state.reports ≡ s.reports)

sought_same : (s : TakeState) (source : Source) → Same s (seek s source)
unfolding seek
sought_same s source = by (group_of s.groups source.seg.group)
  where
    by : (group : Option Group) → Same s (sought_over s source group)
    by None = (refl, refl)
    by (Some group) = (refl, refl)

pub go_on_same : (s : TakeState) → Same s (go_on s)
unfolding go_on
go_on_same s = by s.sources
  where
    by : (sources : List Source) → Same s (next_of sources s)
    by [] = (refl, refl)
    by (source ∷ rest) = sought_same (record s { sources = rest }) source

has_read_same : (s : TakeState) (source : Source) (segment : Segment) → Same s (has_read s source segment)
unfolding has_read
has_read_same s source segment = by (back_from source segment)
  where
    more : TakeState
    more = record s { chain = told_of s.news.slot segment ∷ s.chain }

    by : (left : Option Source) → Same s (go_on_from (record s { chain = told_of s.news.slot segment ∷ s.chain }) left)
    by None = go_on_same (join_chain (record s { chain = told_of s.news.slot segment ∷ s.chain }))
    by (Some left) = sought_same (record s { chain = told_of s.news.slot segment ∷ s.chain }) left

again_same : (s : TakeState) (source : Source) (r : ReadingState) → Same s (again s source r)
unfolding again
again_same s source r = by (on_confirmed r (s.ask + 1)).state (on_confirmed r (s.ask + 1)).next
  where
    by : (q : ReadingState) (n : Next) → Same s (confirmed_as s source q n)
    by q next.Ask = (refl, refl)
    by q next.Lost = (refl, refl)
    by q next.Wait = (refl, refl)
    by q next.Again = (refl, refl)
    by q (next.Read segment) = (refl, refl)

judged_same : (s : TakeState) (source : Source) (q : ReadingState) (n : Next) → Same s (take_follow s source q n)
judged_same s source q next.Again = again_same s source q
judged_same s source q (next.Read segment) = has_read_same s source segment
judged_same s source q _ = (refl, refl)

pub told_same : (s : TakeState) (ask server : ℕ) (t : Told) → Same s (on_told s ask server t)
unfolding on_told
told_same s ask server t =
    by_test (Same s) (can_ask s) (told_at (record s { present = None }) s.present ask server t) (still s) (λ _. by s.present) (λ _. (refl, refl))
  where
    by_reading : (source : Source) (r : Option ReadingState) → Same s (take_judge (record s { present = None }) source r ask server t)
    by_reading source None = (refl, refl)
    by_reading source (Some r) =
        judged_same (record s { present = None }) source (reading_take r s.groups ask server t).state (reading_take r s.groups ask server t).next

    by : (o : Option Present) → Same s (told_at (record s { present = None }) o ask server t)
    by None = (refl, refl)
    by (Some p) = by_reading p.source p.reading

pub maps_same : (s : TakeState) (groups : GroupMapState) → Same s (on_maps s groups)
unfolding on_maps
maps_same s groups = by s.present
  where
    by_reading : (source : Source) (r : Option ReadingState) → Same s (sought_again (record s { groups = groups }) (present_waiting source r))
    by_reading source None =
        by_test (Same s) (can_ask s) (seek (record s { groups = groups }) source) (still (record s { groups = groups }))
        (λ _. sought_same (record s { groups = groups }) source) (λ _. (refl, refl))
    by_reading source (Some r) = (refl, refl)

    by : (o : Option Present) → Same s (sought_again (record s { groups = groups }) (waiting o))
    by None = (refl, refl)
    by (Some p) = by_reading p.source p.reading
