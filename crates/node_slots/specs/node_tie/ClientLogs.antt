-- How the log of a client is seen in the small world, and beside the tokens: what waits to be written, and what is in flight.
use Rattle.std.specs.Prelude.{◌≡◌, ◌⊎◌, ◌<◌, ◌≤◌, ℕ, suc, ◌+◌, true, List, [], Option, Some, None}
use Rattle.std.specs.List.{AllByRecursion}
use Rattle.client_log.specs.LogState.{LogState}
use Rattle.client_call.specs.Reads.{block_read, hear_reading, reading_in, value_at}
use Rattle.client_serving.specs.declared.serving.Serving.{Serving}
use Rattle.log_flight.specs.Flights.{FlightState}
use Rattle.log_owner.specs.declared.opened.Opened.{Opened}
use Rattle.log_owner.specs.declared.opened.Progress.{Progress}
use Rattle.log_owner.specs.declared.opened.Progress.TheVariants as progress
use Rattle.segment_reading.specs.declared.reading.Next.{Next}
use Rattle.segment_reading.specs.declared.reading.Next.TheVariants as next
use Rattle.segment_reading.specs.declared.target.BlockAt.{BlockAt}
use Rattle.stripe_code.specs.declared.round.Told.{Told}
use Rattle.token_client.specs.declared.held.Held.{Held}
use Rattle.token_client.specs.Held.{is_dirty}
use Rattle.token_client.specs.State.{TokensState, held_of}
use Rattle.token_law.specs.Books.{Row, Books, AreOnce, row_in, nothing_said, reopened, with_empty}
use Rattle.token_law.specs.Owed.{IsNewest, ReadsThere, adopts}
use Rattle.version_model.specs.declared.act.Act.{Act}
use Rattle.xfs_base.specs.declared.block.BlockId.{BlockId}
use Rattle.xfs_base.specs.declared.node.NodeId.{NodeId}
use Rattle.xfs_base.specs.declared.node.NodeId.TheVariants as node
use Rattle.node_slots.specs.node_tie.LogRows.{LogSeen, rows_flown, rows_waiting}

-- beyond the segment that may be in flight nothing is said
abbrev pub NothingBeyond : Books → ℕ → Type 0
NothingBeyond k c = (q : ℕ) → suc (k.end c) < q → k.rows c q ≡ []

-- What waits to be written of a block is its newest version, with its value, above what is in flight; what is in flight is above the settled version, and at
-- most the newest; and of a dirty block the newest version waits, or is in flight.
pub record IsUnsettled (h : Held) (waits flies : Row) : Type 0 where
  pub newest : IsNewest h waits
  pub unflown : (waits ≡ nothing_said) ⊎ (flies.version < waits.version)
  pub flown : (flies.version ≡ 0) ⊎ ((h.settled < flies.version) × (flies.version ≤ h.ver))
  pub all : is_dirty h ≡ true → (0 < waits.version) ⊎ (flies.version ≡ h.ver)

-- each row is of a version
abbrev pub AreVersions : List (BlockId × Row) → Type 0
AreVersions rows = AllByRecursion (λ (r : BlockId × Row). 0 < r.1.version) rows

-- so it is of each block; none waits twice, or is twice in flight, and what does is of a version
pub record WritesUnsettled (t : TokensState) (l : LogState) : Type 0 where
  pub waits_once : AreOnce (rows_waiting l)
  pub flies_once : AreOnce (rows_flown l.flight)
  pub waits_some : AreVersions (rows_waiting l)
  pub flies_some : AreVersions (rows_flown l.flight)
  pub each : (b : BlockId) → IsUnsettled (held_of t.blocks b) (row_in (rows_waiting l) b) (row_in (rows_flown l.flight) b)

-- the log of client c, whose tokens these are
pub record LogAgrees (k : Books) (c : ℕ) (t : TokensState) (l : LogState) : Type 0 where
  pub seen : LogSeen k c l
  -- where nothing is in flight, nothing is said beyond the end
  pub said : k.rows c (suc (k.end c)) ≡ rows_flown l.flight
  pub beyond : NothingBeyond k c
  pub unsettled : WritesUnsettled t l

-- the end that a log may have after an event: the next one, where that was in flight
abbrev pub end_upto : ℕ → Option FlightState → ℕ
end_upto end None = end
end_upto end (Some f) = end + 1

-- What is filed of a log in an event was in flight before it: the end doesn't fall, and rises to that at most; and no segment up to it says anything else than
-- before.
pub record FiledStay (k m : Books) (l : ℕ) (flight : Option FlightState) : Type 0 where
  pub rises : k.end l ≤ m.end l
  pub upto : m.end l ≤ end_upto (k.end l) flight
  pub rows : (q : ℕ) → q ≤ m.end l → m.rows l q ≡ k.rows l q

-- ---- what the world owes

-- What is read of the place of a fetch, where an answer ends the reading, is what the segment there says.
module _ (k : Books) (s : Serving) where
  abbrev pub BringsRead : Option BlockAt → Next → Type 0
  BringsRead None x = Unit {0}
  BringsRead (Some wanted) (next.Read segment) = ReadsThere k s.tokens wanted.block (value_at segment wanted.item)
  BringsRead (Some wanted) next.Again = Unit {0}
  BringsRead (Some wanted) next.Wait = Unit {0}
  BringsRead (Some wanted) next.Ask = Unit {0}
  BringsRead (Some wanted) next.Lost = Unit {0}

  -- a server tells this in answer to a fetch
  abbrev pub Tells : NodeId → ℕ → Told → Type 0
  Tells (node.Server server) ask t = BringsRead (block_read (reading_in s.call)) (hear_reading (reading_in s.call) s.maps.groups ask server t).next
  Tells _ ask t = Unit {0}

-- Where the opening of a log ends, its end is that of the books, reopened by the chain that was found, with so many segments that say nothing; what the chain
-- adopts was in flight; and nothing waits to be written, or is in flight.
pub record ReopensSo (k : Books) (acts : List Act) (c : ℕ) (o : Opened) : Type 0 where
  pub count : ℕ
  pub end : o.log.end.seq ≡ (with_empty count (reopened k c (adopts acts c o.chain)) c).end c
  pub adopted : adopts acts c o.chain ≡ true → k.flying c ≡ true
  pub nothing_waits : o.log.dirty ≡ []
  pub nothing_flies : o.log.flight ≡ None

-- so it is where an opening ends
abbrev pub EndsSo : Books → List Act → ℕ → Progress → Type 0
EndsSo k acts c (progress.Opened o) = ReopensSo k acts c o
EndsSo k acts c (progress.Opening o) = Unit {0}
EndsSo k acts c (progress.Lost seg) = Unit {0}
