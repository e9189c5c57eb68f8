-- How a moment of a run stands to the small worlds of tokens and of the index of one slot, and to those of all logs, while no restart that ended was doubtful.
use Rattle.std.specs.Prelude.{◌≡◌, ℕ, ◌≤◌, ◌<◌, Option, None, IfSome, true, false}
use Rattle.std.specs.List.{AllByRecursion}
use Rattle.run_laws.specs.index_reads.Ties.{BooksAre}
use Rattle.headline.specs.Filed.{Filed, rows_at}
use Rattle.log_flight.specs.Flights.{FlightState}
use Rattle.log_law.specs.Net.{Net as LogNet}
use Rattle.log_law.specs.Restarts.{last_flight}
use Rattle.node_slots.specs.node_tie.RegistryEvents.{RegistrySound}
use Rattle.node_slots.specs.owner_index_tie.CleanerMoves.{ItemMoves}
use Rattle.run_laws.specs.reopening_law.Falls.{FallKnown}
use Rattle.run_laws.specs.reopening_law.Flights.{LastFlew}
use Rattle.segment_format.specs.declared.segment.Segment.{Segment}
use Rattle.run_laws.specs.segment_tie.Cleaners.{CleanerWrites}
use Rattle.run_laws.specs.segment_tie.Clients.{ClientWrites}
use Rattle.run_laws.specs.segment_tie.Segments.{IsCopies, IsOriginal, TellsOnce}
use Rattle.token_protocol.specs.Basics.{In}
use Rattle.version_model.specs.declared.act.Act.TheVariants as act
use Rattle.world_base.specs.declared.cluster.Cluster.{Cluster}
use Rattle.run_laws.specs.world_index.Growth.{Entered}
use Rattle.run_laws.specs.world_index.Standing as index
use Rattle.run_laws.specs.world_law.Standing as tokens
use Rattle.headline.specs.Moments.{moment}
use Rattle.run_laws.specs.world_lines.Lines.{IsLine}
use Rattle.run_laws.specs.world_lines.Polls.{ClientLinked, CleanerLinked}
use Rattle.headline.specs.Logs.{IsThere, Role, did, log_by, renews}
use Rattle.run_laws.specs.world_logs.Lines.{cluster}
use Rattle.headline.specs.Logs.Role.{OfClient, OfCleaner, OfManager}
use Rattle.run_laws.specs.world_reads.Entries.{EntriesStand}
use Rattle.run_laws.specs.world_reads.LoggedRuns.{LoggedRun}

-- what an owner of a log writes is of its kind; of managers' logs nothing is said here
abbrev pub WritesKind : Role → Segment → Type 0
WritesKind (OfClient c) s = IsOriginal s
WritesKind OfCleaner s = IsCopies s
WritesKind (OfManager j) s = Unit {0}

module _ (logged : LoggedRun) (part : ℕ) where
  open logged use {base, estate as e, lines, texts, first}

  abbrev pub k : Cluster
  k = cluster base e

  -- which logs a run has
  abbrev pub There : Role → Type 0
  There r = IsThere e.script.setup.clients e.script.setup.managers r

  -- the small world of a log at a count of the events
  abbrev pub log_at : (r : Role) → There r → ℕ → LogNet
  log_at r there count = ((lines r there).scene count).net

  -- what its owner had in flight when it served last
  abbrev pub flew_at : (r : Role) → There r → ℕ → Option FlightState
  flew_at r there count = last_flight ((lines r there).stands count).moment.run

  -- each segment of the line of a log was acted to be filed by the log's owner, a client or the cleaner, up to this count
  abbrev pub LinesActed : ℕ → Filed → Type 0
  LinesActed count f =
      (r : Role) → There r → renews r ≡ false → (q : ℕ) → 0 < q → q ≤ f.head (log_by r)
      → In (act.Filed (f.segment (log_by r) q).name) (did e (log_by r) count)

  pub record Joint (count : ℕ) : Type 0 where
    -- the small world of tokens
    pub tok : tokens.Scene
    pub tokens_stand : tokens.Stands true k part (moment e count).nodes (moment e count).sent (moment e count).acts RegistrySound tok
    -- that of the index, whose texts are those of the run
    pub idx : index.Scene
    pub index_stands : index.Stands k part texts.text first (moment e count).nodes (moment e count).sent RegistrySound idx
    -- an epoch that has a slot here has one there
    pub slots : (epoch : ℕ) → tok.net.slots epoch ≡ None → idx.net.slots epoch ≡ None
    -- which was then given to its manager
    pub entered : Entered k part tok idx.net
    -- both know the same of logs
    pub books : BooksAre tok.net.books idx.net.filed
    pub lined : (r : Role) (there : There r) → renews r ≡ false → IsLine (log_by r) (log_at r there count) idx.net.filed
    pub alone : (l : ℕ) → ((r : Role) → There r → renews r ≡ false → log_by r ≡ l → ⊥) → idx.net.filed.head l ≡ 0
    pub tells : (l q : ℕ) → 0 < q → q ≤ idx.net.filed.head l → TellsOnce (idx.net.filed.segment l q)
    pub acted : LinesActed count idx.net.filed
    -- what owners had in flight when they served last
    pub flew : (r : Role) (there : There r) → renews r ≡ false → LastFlew tok.net.books (log_by r) (flew_at r there count)
    pub kind : (r : Role) (there : There r) → renews r ≡ false → IfSome (flew_at r there count) (λ f. WritesKind r f.segment)
    pub fell : (c : ℕ) (there : There (OfClient c)) → FallKnown (moment e count).acts c (flew_at (OfClient c) there count) (tok.client c).phase
    -- what they write
    pub clients_write : (c : ℕ) → 0 < c → c ≤ e.script.setup.clients → ClientWrites (tok.client c).phase
    pub cleaner_writes : CleanerWrites tok.cleaner.phase
    -- the cleaner's last flight moves what was said; it promised no epoch here that it didn't promise there
    pub moved : IfSome (flew_at OfCleaner tt count) (λ f. AllByRecursion (ItemMoves part idx.net.sent) f.segment.items)
    pub promised : idx.net.promised ≤ tok.net.promised
    -- the log of an owner that serves is linked from the epoch of its tokens on, or from the one on that it promised
    pub clients_linked : (c : ℕ) (there : There (OfClient c)) → ClientLinked part idx.net c (tok.client c).phase
    pub cleaner_linked : CleanerLinked part idx.net tok.cleaner.phase
    -- and what is told of where blocks lie
    pub entries : EntriesStand (rows_at idx.net.filed) (moment e count).nodes (moment e count).sent
