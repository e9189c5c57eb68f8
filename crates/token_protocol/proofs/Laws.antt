-- Each law is read off the invariant.
use Rattle.std.proofs.Common.{◌≡◌, ◌<◌, ap, ◌∙◌, arith}
use Rattle.std.proofs.lemmas.Bool.Decides.{nat_tests}
use Rattle.token_protocol.specs.World.{World}
use Rattle.token_protocol.specs.Laws.{SingleOwner, EpochPromised, BeliefsCover, AcceptableBelieved, HoldersNewest, ReadsLegal, JoinIsJoin, JoinNewest, DirtyLeads, NoHolderAfterFall, FallsLegal, ReturnsLegal, OffersJoined, AcceptableJoins, PlacesFiled, IndexBounded, FlightsNew, FallsSettled, OwnersSettled, RowsKnown, CleanerIdle, CleanerEmpty}
use Rattle.token_protocol.proofs.Invariant.{Owned, Invariant}

-- Of tokens alone.

pub single_owner : (w : World) → Owned w → SingleOwner w
single_owner w i c d owns holds = grind (arith, i.tokens.believing.covers c, i.tokens.believing.covers d, i.tokens.believing.single c d)

pub epoch_promised : (w : World) → Owned w → EpochPromised w
epoch_promised w i = i.book.promising.promise

pub beliefs_cover : (w : World) → Owned w → BeliefsCover w
beliefs_cover w i = record {
  held = i.tokens.believing.covers;
  fetched = i.tokens.believing.covers_fetch;
  single = λ c d own some. grind (arith, i.tokens.believing.single c d);
}

pub acceptable_believed : (w : World) → Owned w → AcceptableBelieved w
acceptable_believed w i = i.tokens.believing.pending

pub no_holder_after_fall : (w : World) → Owned w → NoHolderAfterFall w
no_holder_after_fall w i c d fell = grind (
  arith,
  i.crash.fallen.fallen_believed c fell,
  i.crash.fallen.fallen_down c fell,
  i.book.serving.down_mode c,
  i.tokens.believing.single c d,
  i.tokens.believing.covers d,
)

pub cleaner_idle : (w : World) → Owned w → CleanerIdle w
cleaner_idle w i =
    let c = i.idle in
    record {
      wants = c.want_client;
      offers = c.offer_client;
      reports = c.report_nothing;
      held = c.nothing_held;
      wanted = c.nothing_wanted;
      fetched = c.nothing_fetched;
      clean = c.nothing_dirty;
      fallen = c.never_fallen;
      believed = c.nothing_believed;
    }

-- Of the whole.

pub holders_newest : (w : World) → Invariant w → HoldersNewest w
holders_newest w i c holds = record { version = i.content.versions.held_version c holds; value = i.content.values.held_value c holds }

pub reads_legal : (w : World) → Invariant w → ReadsLegal w
reads_legal w i c may = holders_newest w i c may.holds

pub join_is_join : (w : World) → Invariant w → JoinIsJoin w
join_is_join w i = record { upper = i.filing.joined.rows_join; attained = λ some. let row = i.filing.joined.join_row some in (row.0, row.1) }

pub join_newest : (w : World) → Invariant w → JoinNewest w
join_newest w i clean none =
    let same : w.join_version ≡ w.newest =
    grind (arith, clean w.last_writer, none w.last_writer, i.content.versions.last_dirty, i.content.versions.join_newest) in
    record {
      version = same;
      value = λ some.
          let row = i.filing.joined.join_row (omega arith) in
          i.content.values.rows_value w.join_log w.join_segment (let r = row.0 in omega arith) ∙ ap w.value_at (row.0 ∙ same);
    }

-- Who is dirty or fell wrote all versions above the join: it is the last writer.
pub dirty_leads : (w : World) → Invariant w → DirtyLeads w
dirty_leads w i c dirty =
    let own = i.book.asking.dirty_owned c dirty in
    let settled = i.content.versions.own_settled c own in
    let version = i.content.versions.held_version c (omega arith) in
    record {
      owned = own;
      settled = settled;
      ahead = omega arith;
      mine = λ v above below. i.content.writers.above_writer v above below
          ∙ grind (arith, i.content.writers.above_writer w.newest, i.content.writers.own_writer c own);
    }

pub falls_legal : (w : World) → Invariant w → FallsLegal w
falls_legal w i c may =
    let own = i.book.asking.dirty_owned c may.dirty in
    let settled = i.content.versions.own_settled c own in
    record {
      newest_mine = i.content.writers.own_writer c own;
      cut = record {
        pinned = grind (arith, i.content.writers.pinned_join);
        ordered = grind arith;
        known = grind (arith, i.content.versions.rows_newest c, i.content.versions.join_newest);
        mine = λ v above below. (dirty_leads w i c may.dirty).mine v (grind arith) below;
      };
    }

pub returns_legal : (w : World) → Invariant w → ReturnsLegal w
returns_legal w i c fell =
    let low = i.content.versions.fallen_low c fell in
    let high = i.content.versions.fallen_high c fell in
    record {
      pinned = grind (arith, i.content.writers.pinned_join);
      ordered = grind arith;
      known = high.1;
      mine = λ v above below. i.content.writers.above_writer v (omega arith) below ∙ grind (
        arith,
        i.content.versions.last_dirty,
        i.book.asking.dirty_owned w.last_writer,
        i.tokens.believing.covers w.last_writer,
        i.tokens.believing.single c w.last_writer,
        i.crash.fallen.fallen_believed c fell,
        i.crash.fallen.fallen_believed w.last_writer,
      );
    }

-- Of offers, the index and logs.

pub offers_joined : (w : World) → Invariant w → OffersJoined w
offers_joined w i = i.filing.index.offer_join

-- What may still be taken is the newest version, and what is offered is filed.
pub acceptable_joins : (w : World) → Invariant w → AcceptableJoins w
acceptable_joins w i g sent live =
    let newest = i.content.versions.offer_newest g sent live in
    let joined = i.filing.index.offer_join g sent in
    let above = i.content.versions.join_newest in
    omega arith

pub places_filed : (w : World) → Invariant w → PlacesFiled w
places_filed w i = record { indexed = i.filing.index.index_row; offered = i.filing.index.offer_row; fetched = i.filing.index.fetch_row }

pub index_bounded : (w : World) → Invariant w → IndexBounded w
index_bounded w i = record { rows = i.filing.index.index_rows; join = i.filing.index.index_join; applied = i.logs.rows.applied_end }

-- What is in flight is above the settled version of an owner, or above what its client had settled when it fell; both are the join.
pub flights_new : (w : World) → Invariant w → FlightsNew w
flights_new w i c member = record {
  above = λ some. grind (
    arith,
    i.logs.flight.flight_row c member some,
    i.book.asking.dirty_owned c,
    i.content.versions.own_settled c,
    i.content.versions.fallen_low c,
  );
  held = λ serves. grind (arith, nat_tests, i.logs.flight.flight_row c member, i.crash.fallen.fallen_down c);
}

pub falls_settled : (w : World) → Invariant w → FallsSettled w
falls_settled w i c fell = record { low = i.content.versions.fallen_low c fell; high = (i.content.versions.fallen_high c fell).0 }

pub owners_settled : (w : World) → Invariant w → OwnersSettled w
owners_settled w i = i.content.versions.own_settled

pub rows_known : (w : World) → Invariant w → RowsKnown w
rows_known w i = record { known = i.content.versions.rows_newest; value = i.content.values.rows_value; beyond = i.logs.rows.rows_end }

pub cleaner_empty : (w : World) → 0 < w.members → Invariant w → CleanerEmpty w
cleaner_empty w some i =
    let filed = i.cleaner.empty.nothing_filed some in
    let applied = i.logs.rows.applied_end 0 in
    record {
      end = filed;
      flight = i.cleaner.empty.nothing_flying some;
      rows = λ q. i.cleaner.empty.no_rows q some;
      applied = omega arith;
      written = i.cleaner.written.written;
    }
