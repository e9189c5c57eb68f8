-- The event that ends a restart, in the small world of the log: what of it the small worlds of tokens and of the index are owed.
use Rattle.std.specs.Prelude.{◌≡◌, ◌<◌, ◌≤◌, ℕ, Bool, false, List, [], Some, None}
use Rattle.client_log.specs.LogState.{LogState}
use Rattle.client_node.specs.Crash.{flight_of}
use Rattle.headline.specs.Filed.{Filed, Texts}
use Rattle.log_flight.specs.Flights.{FlightState}
use Rattle.log_law.specs.Events.{Happens}
use Rattle.log_law.specs.Events.Runs.{On}
use Rattle.log_law.specs.Laws.{Moment}
use Rattle.log_law.specs.Net.{Net}
use Rattle.log_law.specs.Net.Owner.{Serving, Writing}
use Rattle.log_law.specs.ReadBack.{ReadsDown}
use Rattle.log_law.specs.Restarts.{IsSureRun, last_flight}
use Rattle.log_owner.specs.declared.opened.Opened.{Opened}
use Rattle.log_owner.specs.Opened.{names_in}
use Rattle.log_protocol.specs.Tables.{In}
use Rattle.log_tie.specs.Setting.{Setting}
use Rattle.node_slots.specs.node_index_tie.Sight.{RowsFit}
use Rattle.node_slots.specs.node_tie.CleanerLogs.{ReopensAt, its_log}
use Rattle.node_slots.specs.node_tie.ClientLogs.{ReopensSo}
use Rattle.node_slots.specs.node_tie.LogRows.{rows_told}
use Rattle.node_slots.specs.owner_index_tie.Owners.{ReadBack}
use Rattle.segment_format.specs.declared.segment.Item.{Item}
use Rattle.segment_format.specs.declared.segment.Segment.{Segment}
use Rattle.segment_format.specs.Rows.{rows_of}
use Rattle.token_law.specs.Books.{Books, reopened, with_empty}
use Rattle.version_model.specs.declared.act.Act.{Act}
use Rattle.version_model.specs.Effects.{holds_flight}
use Rattle.xfs_base.specs.declared.segment.SegName.{SegName}
use Rattle.run_laws.specs.reopening_law.Falls.{FellWith}
use Rattle.run_laws.specs.reopening_law.Flights.{LastFlew}

-- ---- the event

-- The contents of segments that say different things are different numbers.
abbrev pub TellsApart : Setting → Type 0
TellsApart g = (a b : List Item) → g.content a ≡ g.content b → a ≡ b

-- An owner whose opening segment is in flight, behind a chain that it read back, serves after this event; no restart that ended so far was doubtful.
pub record Reopens (g : Setting) (n o : Net) (chain : List Segment) (s r : LogState) : Type 0 where
  pub sure : g.doubts ≡ false
  pub apart : TellsApart g
  pub moment : Moment g n
  pub happens : Happens g n o
  pub calm : IsSureRun (On moment.run happens)
  pub writes : n.owner ≡ Writing chain s
  pub serves : o.owner ≡ Serving r
  -- the opening segment is of the log, and says nothing
  pub own : (f : FlightState) → s.flight ≡ Some f → f.segment.name.log ≡ g.log
  pub empty : (f : FlightState) → s.flight ≡ Some f → f.segment.items ≡ []

-- What is filed of the log l there: a segment of each number up to its head, each of which was in flight, and no other.
pub record FiledOf (l : ℕ) (f : Filed) (n : Net) : Type 0 where
  pub flew : (q : ℕ) → 0 < q → q ≤ f.head l → In (f.segment l q) n.flown
  pub filed : (q : ℕ) → 0 < q → q ≤ f.head l → In (f.segment l q).name n.filed
  pub seq : (q : ℕ) → 0 < q → q ≤ f.head l → (f.segment l q).name.seq ≡ q
  pub all : (name : SegName) → In name n.filed → (0 < name.seq) × (name.seq ≤ f.head l)

-- ---- what the index is owed

-- what was in flight is the text of its name, and the numbers of blocks that it tells of are within their type
pub record AreTextsThere (texts : Texts) (n : Net) : Type 0 where
  pub texts_are : (t : Segment) → In t n.flown → texts t.name ≡ t
  pub fit : (t : Segment) → In t n.flown → RowsFit (rows_of t)

-- What was read back is then what was filed, and what is adopted behind that.
abbrev pub ReopeningsReadBack : Type 0
ReopeningsReadBack =
    (g : Setting) (n o : Net) (chain : List Segment) (s r : LogState) → Reopens g n o chain s r → (texts : Texts) (l : ℕ) (f : Filed) (low : ℕ)
    → AreTextsThere texts n → FiledOf l f n → ReadsDown n low (record { segments = chain; end = s.end }) → ReadBack texts l f low s.end.seq chain

-- ---- what tokens are owed

-- Of this log the books have what is filed.
pub record BooksOf (k : Books) (l : ℕ) (f : Filed) : Type 0 where
  pub end : k.end l ≡ f.head l
  pub rows : (q : ℕ) → 0 < q → q ≤ f.head l → k.rows l q ≡ rows_told (f.segment l q).items

-- The books of the log before the event, with what its owner had in flight when it served last.
pub record BooksThen {g : Setting} {n o : Net} {chain : List Segment} {s r : LogState} (e : Reopens g n o chain s r) (k : Books) (l : ℕ) (f : Filed)
    : Type 0 where
  pub filed : FiledOf l f n
  pub books : BooksOf k l f
  pub flew : LastFlew k l (last_flight e.moment.run)

-- the log is open so: with this chain, and nothing waits in it, or is in flight
pub record IsOpened (chain : List Segment) (r : LogState) (opened : Opened) : Type 0 where
  pub log : opened.log ≡ r
  pub chain_is : opened.chain ≡ names_in chain
  pub nothing_waits : r.dirty ≡ []
  pub nothing_flies : r.flight ≡ None

-- So a client's log is opened again as the books are.
abbrev pub ClientsReopenSo : Type 0
ClientsReopenSo =
    (g : Setting) (n o : Net) (chain : List Segment) (s r : LogState) (e : Reopens g n o chain s r) (k : Books) (c : ℕ) (f : Filed) → BooksThen e k c f
    → (opened : Opened) → IsOpened chain r opened → (acts : List Act) → FellWith acts c (last_flight e.moment.run) → ReopensSo k acts c opened

-- whether the chain has what was in flight
abbrev pub has_flight : {g : Setting} {n o : Net} {chain : List Segment} {s r : LogState} → Reopens g n o chain s r → Bool
has_flight {chain = chain} e = holds_flight (names_in chain) (flight_of (last_flight e.moment.run))

-- And so is the cleaner's, with what was in flight just where its chain has that.
abbrev pub TheCleanerReopensSo : Type 0
TheCleanerReopensSo =
    (g : Setting) (n o : Net) (chain : List Segment) (s r : LogState) (e : Reopens g n o chain s r) (k : Books) (f : Filed) → BooksThen e k its_log f
    → (opened : Opened) → IsOpened chain r opened → ReopensAt k (has_flight e) opened

-- The books that are opened again have what is filed then, and nothing is in flight.
pub record BooksAfter (k : Books) (l : ℕ) (f : Filed) : Type 0 where
  pub books : BooksOf k l f
  pub flying : k.flying l ≡ false

abbrev pub BooksFollow : Type 0
BooksFollow =
    (g : Setting) (n o : Net) (chain : List Segment) (s r : LogState) (e : Reopens g n o chain s r) (k : Books) (l : ℕ) (f : Filed) → BooksThen e k l f
    → (later : Filed) → FiledOf l later o → (count : ℕ) → (with_empty count (reopened k l (has_flight e)) l).end l ≡ r.end.seq
    → BooksAfter (with_empty count (reopened k l (has_flight e)) l) l later
