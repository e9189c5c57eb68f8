-- What logs file, seen as steps of the index, and what stays seen while they file more.
use Rattle.std.specs.Prelude.{◌≡◌, ℕ, suc, ◌<◌, ◌≤◌, ◌==◌, List, if◌then◌else◌}
use Rattle.xfs_base.specs.declared.block.BlockId.{BlockId}
use Rattle.xfs_base.specs.declared.entry.Entry.{Entry}
use Rattle.xfs_base.specs.Logs.{cleaners_number}
use Rattle.segment_format.specs.declared.segment.Segment.{Segment}
use Rattle.segment_format.specs.Rows.{rows_of}
use Rattle.delta_index.specs.Join.{join}
use Rattle.token_manager.specs.SlotState.{SlotState}
use Rattle.log_protocol.specs.Tables.{put}
use Rattle.log_protocol.specs.IndexState.{IndexState}
use Rattle.log_protocol.specs.IndexLaws.{IndexReached}
use Rattle.log_protocol.specs.IndexSteps.{IndexSteps}
use Rattle.index_tie.specs.Filed.{IsFiled, Tells}
use Rattle.headline.specs.Filed.{Filed, IsSegment, row_at}
use Rattle.index_tie.specs.Slots.{Manages, DeltasTell}
use Rattle.index_tie.specs.Takeovers.{Covers}

-- a log files one more segment
abbrev pub with_segment : Filed → ℕ → Segment → Filed
with_segment f l s = record {
  head = put f.head l (suc (f.head l));
  segment = λ m q. if m == l then (if q == suc (f.head l) then s else f.segment m q) else f.segment m q;
}

-- what the segment says of the block
abbrev pub said_of : Segment → BlockId → Entry
said_of s b = join (rows_of s) b

-- A client's log files versions above all that were filed, and no copies.
pub record SaysNewer (w : IndexState) (l : ℕ) (said : Entry) : Type 0 where
  pub client : l < cleaners_number
  pub new : 0 < said.ver → w.joined.version < said.ver
  pub first_hand : 0 < said.ver → said.hop ≡ 0

-- The cleaner's log files copies of filed rows, each at its version and one hop further.
pub record IsCopy (b : BlockId) (f : Filed) (said : Entry) : Type 0 where
  pub log : ℕ
  pub seq : ℕ
  pub version : said.ver ≡ (row_at f b log seq).ver
  pub hop : said.hop ≡ suc (row_at f b log seq).hop

-- the index, but for what logs file
abbrev pub unfiled : IndexState → IndexState
unfiled w = record w {
  version = λ l q. 0;
  hop = λ l q. 0;
  head = λ l. 0;
  joined = record { version = 0; hop = 0; log = 0; seq = 0 };
  version_log = λ v. 0;
  version_seq = λ v. 0;
}

-- by steps of logs the index becomes one that tells what is filed now
pub record Files (b : BlockId) (f : Filed) (w : IndexState) : Type 0 where
  pub state : IndexState
  pub steps : IndexSteps w state
  pub frame : unfiled state ≡ unfiled w
  pub filed : IsFiled f
  pub tells : Tells b f state

-- A segment that a client settles is filed at each block: it is news of those that it names, and says nothing of the others.
abbrev pub ClientsFile : Type 0
ClientsFile =
    (b : BlockId) (f : Filed) (w : IndexState) (l : ℕ) (s : Segment) → IndexReached w → IsFiled f → Tells b f w → 0 < l → IsSegment l (suc (f.head l)) s
    → SaysNewer w l (said_of s b) → Files b (with_segment f l s) w

-- A segment that the cleaner settles is filed at each block: it has copies of those that it names.
abbrev pub CleanerFiles : Type 0
CleanerFiles =
    (b : BlockId) (f : Filed) (w : IndexState) (s : Segment) → IndexReached w → IsFiled f → Tells b f w → IsSegment cleaners_number (suc (f.head cleaners_number)) s
    → (0 < (said_of s b).ver → IsCopy b f (said_of s b)) → Files b (with_segment f cleaners_number s) w

-- more is filed, and what was filed is as it was
pub record IsMore (f g : Filed) : Type 0 where
  pub head : (l : ℕ) → f.head l ≤ g.head l
  pub segment : (l q : ℕ) → 0 < q → q ≤ f.head l → g.segment l q ≡ f.segment l q

-- what is known of the manager of an epoch is as it was
pub record IsKept (e : ℕ) (w v : IndexState) : Type 0 where
  pub active : v.active e ≡ w.active e
  pub applied : (l : ℕ) → v.applied e l ≡ w.applied e l
  pub index : v.index e ≡ w.index e

-- A slot of whose manager nothing is changed is seen as before, parts cover what they did, and Deltas tell what they did.
abbrev pub SlotsStay : Type 0
SlotsStay = (b : BlockId) (f g : Filed) (w v : IndexState) (s : SlotState) → IsMore f g → IsKept s.epoch w v → Manages b f w s → Manages b g v s

abbrev pub PartsStay : Type 0
PartsStay = (b : BlockId) (f g : Filed) (w v : IndexState) (horizon : List ℕ) (rows : List (BlockId × Entry)) → IsMore f g → Tells b f w → Tells b g v
    → Covers b f w horizon rows → Covers b g v horizon rows

abbrev pub DeltasStay : Type 0
DeltasStay = (b : BlockId) (f g : Filed) (l first upto : ℕ) (rows : List (BlockId × Entry)) → IsMore f g → DeltasTell b f l first upto rows
    → DeltasTell b g l first upto rows

abbrev pub MoreIsFiled : Type 0
MoreIsFiled = (f : Filed) (l : ℕ) (s : Segment) → IsMore f (with_segment f l s)
