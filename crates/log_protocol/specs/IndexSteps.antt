-- What happens to the index of one block: for each step its guard and, below it, its effect, and the runs.
-- A guard's lines name the transition that makes them true.
use Rattle.std.specs.Prelude.{◌≡◌, ℕ, suc, ◌<◌, ◌≤◌, ◌==◌, nat_lt, if◌then◌else◌}
use Rattle.log_protocol.specs.Tables.{put, put_at}
use Rattle.log_protocol.specs.IndexState.{Entry, IndexState, Joins}

-- File: a client's log files a segment with a new version of the block.
pub record CanFile (w : IndexState) (l version : ℕ) : Type 0 where
  -- the log is a client's
  pub named : 0 < l
  pub client : l < w.cleaner
  -- only an owner writes, and it writes above what was settled: the token law
  pub new : w.joined.version < version

abbrev pub files : IndexState → ℕ → ℕ → IndexState
files w l version =
    record w {
      version = put_at w.version l (suc (w.head l)) version;
      hop = put_at w.hop l (suc (w.head l)) 0;
      head = put w.head l (suc (w.head l));
      joined = record { version = version; hop = 0; log = l; seq = suc (w.head l) };
      version_log = put w.version_log version l;
      version_seq = put w.version_seq version (suc (w.head l));
    }

-- File none: a log files a segment that says nothing of the block.
pub record CanFileNone (w : IndexState) (l : ℕ) : Type 0 where
  -- the log is somebody's
  pub named : 0 < l

abbrev pub files_none : IndexState → ℕ → IndexState
files_none w l = record w { version = put_at w.version l (suc (w.head l)) 0; hop = put_at w.hop l (suc (w.head l)) 0; head = put w.head l (suc (w.head l)) }

-- Copy: the cleaner's log files a copy of a live row, one hop further.
pub record CanCopy (w : IndexState) (l q : ℕ) : Type 0 where
  -- the cleaner's candidates are filed
  pub filed : q ≤ w.head l
  -- and the row is of the block
  pub some : 0 < w.version l q

abbrev pub copies : IndexState → ℕ → ℕ → IndexState
copies w l q =
    let newer = nat_lt (w.version l q) w.joined.version in
    let further = nat_lt (w.hop l q) w.joined.hop in
    record w {
      version = put_at w.version w.cleaner (suc (w.head w.cleaner)) (w.version l q);
      hop = put_at w.hop w.cleaner (suc (w.head w.cleaner)) (suc (w.hop l q));
      head = put w.head w.cleaner (suc (w.head w.cleaner));
      joined = if newer then w.joined else if further then w.joined else record {
        version = w.version l q;
        hop = suc (w.hop l q);
        log = w.cleaner;
        seq = suc (w.head w.cleaner);
      };
    }

-- the manager of an epoch is active, with this much applied and this index
abbrev pub indexes : IndexState → ℕ → (ℕ → ℕ) → Entry → IndexState
indexes w e applied entry = record w { active = put w.active e 1; applied = λ d l. if d == e then applied l else w.applied d l; index = put w.index e entry }

-- Merge: an active manager applies Deltas.
pub record CanMerge (w : IndexState) (e : ℕ) (applied : ℕ → ℕ) (entry : Entry) : Type 0 where
  -- only an active manager takes Deltas
  pub on : w.active e ≡ 1
  -- it never applies less
  pub rises : (l : ℕ) → w.applied e l ≤ applied l
  -- an owner's Deltas are those of its feed, so of filed segments
  pub filed : (l : ℕ) → applied l ≤ w.head l
  -- merging row by row gives the join (IndexMerge.antt)
  pub joins : Joins w.version w.hop applied entry

-- Activate: a manager has taken its slot over, from checkpoints, reports and logs.
pub record CanActivate (w : IndexState) (e : ℕ) (applied : ℕ → ℕ) (entry : Entry) : Type 0 where
  -- it was told the epoch by the registry
  pub begun : e ≤ w.epoch
  -- one stay of one manager has each epoch, and it becomes active once
  pub fresh : w.active e ≡ 0
  -- the cleaner has reported to it, so it has promised the epoch,
  pub heard : e ≤ w.promised
  -- and named the end of its log, which is no shorter than when it first promised that
  pub reported : w.polled e ≤ applied w.cleaner
  -- it applies at least what the horizon of the map that named it covers
  pub covered : (l : ℕ) → w.floor e l ≤ suc (applied l)
  -- a reported end is filed
  pub filed : (l : ℕ) → applied l ≤ w.head l
  -- the join of the parts' rows and of the logs read from the horizon
  pub joins : Joins w.version w.hop applied entry

abbrev pub activates : IndexState → ℕ → (ℕ → ℕ) → Entry → IndexState
activates w e applied entry = record (indexes w e applied entry) { reigning = if nat_lt w.reigning e then e else w.reigning }

-- Keep a horizon: the registry takes a checkpoint of the slot's present manager.
pub record CanKeep (w : IndexState) (horizon : ℕ → ℕ) : Type 0 where
  -- the registry refuses a horizon below the kept one
  pub rises : (l : ℕ) → w.floor w.epoch l ≤ horizon l
  -- and takes it at the kept epoch alone: the checkpoint covers what that epoch's manager had applied
  pub applied : (l : ℕ) → horizon l ≤ suc (w.applied w.epoch l)

abbrev pub keeps_horizon : IndexState → (ℕ → ℕ) → IndexState
keeps_horizon w horizon = record w { floor = λ e l. if nat_lt e w.epoch then w.floor e l else horizon l }

-- Move: the registry gives the slot to another stay of a manager.
abbrev pub moves : IndexState → IndexState
moves w = record w { epoch = suc w.epoch }

-- Promise: the cleaner promises an epoch, from a Poll or a map.
pub record CanPromise (w : IndexState) (e : ℕ) : Type 0 where
  -- it promises no lower one than before
  pub rises : w.promised ≤ e

abbrev pub promises : IndexState → ℕ → IndexState
promises w e = record w { promised = e; polled = λ d. if nat_lt w.promised d then (if nat_lt e d then w.polled d else w.head w.cleaner) else w.polled d }

-- Dead: a manager answers the cleaner's Check of a row that its index names another one.
pub record CanBeat (w : IndexState) (d e l q : ℕ) : Type 0 where
  -- only an active manager answers a Check
  pub on : w.active e ≡ 1
  -- the row is below a horizon that was kept by an epoch d, no later than the manager's
  pub kept_by : d ≤ e
  pub below : q < w.floor d l
  -- it is a row of the block: an item without a place is not asked about
  pub some : 0 < w.version l q
  -- the manager's entry is elsewhere
  pub elsewhere : (w.index e).log ≡ l → (w.index e).seq ≡ q → ⊥

abbrev pub beats : IndexState → ℕ → ℕ → ℕ → IndexState
beats w e l q = record w { told = λ c m r. if c == e then put_at (w.told e) l q 1 m r else w.told c m r; beaten = put_at w.beaten l q 1 }

-- Count: the cleaner counts a Dead.
pub record CanCount (w : IndexState) (e l q : ℕ) : Type 0 where
  -- only what was answered is delivered
  pub told : w.told e l q ≡ 1
  -- a Dead counts where it is of the epoch that is promised
  pub latest : e ≡ w.promised

abbrev pub counts : IndexState → ℕ → ℕ → ℕ → IndexState
counts w e l q = record w { dead_at = put_at w.dead_at l q e; beater = put_at w.beater l q (w.index e).seq }

-- Drop: the cleaner drops the segment once a Dead of each of its placed rows was counted.
pub record CanDropRow (w : IndexState) (l q : ℕ) : Type 0 where
  -- a Dead of this row was
  pub counted : 0 < w.dead_at l q

abbrev pub drops_row : IndexState → ℕ → ℕ → IndexState
drops_row w l q = record w { dropped = put_at w.dropped l q 1 }

pub data IndexStep : IndexState → IndexState → Type 0 where
  -- a client's log files a new version of the block
  Files : {w : IndexState} (l version : ℕ) → CanFile w l version → IndexStep w (files w l version)
  -- a log files a segment without the block
  Files_none : {w : IndexState} (l : ℕ) → CanFileNone w l → IndexStep w (files_none w l)
  -- the cleaner files a copy of a row
  Copies : {w : IndexState} (l q : ℕ) → CanCopy w l q → IndexStep w (copies w l q)
  -- an active manager applies Deltas
  Merges : {w : IndexState} (e : ℕ) (applied : ℕ → ℕ) (entry : Entry) → CanMerge w e applied entry → IndexStep w (indexes w e applied entry)
  -- a manager that took the slot over becomes active
  Activates : {w : IndexState} (e : ℕ) (applied : ℕ → ℕ) (entry : Entry) → CanActivate w e applied entry → IndexStep w (activates w e applied entry)
  -- the registry keeps the horizon of a checkpoint
  Keeps : {w : IndexState} (horizon : ℕ → ℕ) → CanKeep w horizon → IndexStep w (keeps_horizon w horizon)
  -- the slot moves to its next epoch
  Moves : {w : IndexState} → IndexStep w (moves w)
  -- the cleaner promises an epoch
  Promises : {w : IndexState} (e : ℕ) → CanPromise w e → IndexStep w (promises w e)
  -- a manager answers that a row is dead
  Beats : {w : IndexState} (d e l q : ℕ) → CanBeat w d e l q → IndexStep w (beats w e l q)
  -- the cleaner counts a Dead
  Counts : {w : IndexState} (e l q : ℕ) → CanCount w e l q → IndexStep w (counts w e l q)
  -- the cleaner drops a dead row
  Drops_row : {w : IndexState} (l q : ℕ) → CanDropRow w l q → IndexStep w (drops_row w l q)

-- the runs from one state to another, step by step
pub data IndexSteps : IndexState → IndexState → Type 0 where
  Done : {w : IndexState} → IndexSteps w w
  More : {w v u : IndexState} → IndexSteps w v → IndexStep v u → IndexSteps w u
