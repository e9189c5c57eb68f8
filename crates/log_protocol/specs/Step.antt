-- The steps of one log, and its runs. Any step may come at any moment at which its guard holds: nothing is said of order, clocks or fairness.
use Rattle.std.specs.Prelude.{ℕ}
use Rattle.log_protocol.specs.Packets.{StorePacket, StoredPacket, FragmentPacket, FencedPacket}
use Rattle.log_protocol.specs.State.{State}
use Rattle.log_protocol.specs.ServerSteps.{loses, CanHear, hears, CanLearn, learns, CanSend, sends, CanAccept, accepts, CanAcceptAgain, accepts_again, CanTell, tells, CanFill, fills, CanDrop, drops, CanDelete, deletes, CanRaise, raises, CanFence, fences}
use Rattle.log_protocol.specs.OwnerSteps.{CanSeal, seals, CanRestripe, restripes, CanNote, notes, CanSettle, settles, crashes, CanRestart, restarts}
use Rattle.log_protocol.specs.OpeningSteps.{CanBegin, begins, CanPickNone, picks_none, CanPickKept, picks_kept, CanPickPrior, picks_prior, CanCut, cuts, CanOpen, opens, CanServe, serves}

pub data Step : State → State → Type 0 where
  -- a server loses its disk and goes on in its next generation
  Loses : {w : State} (v : ℕ) → Step w (loses w v)
  -- the registry hears of a server's generation
  Hears : {w : State} (v g : ℕ) → CanHear w v g → Step w (hears w v g)
  -- the owner learns a newer map
  Learns : {w : State} (map : ℕ → ℕ) → CanLearn w map → Step w (learns w map)
  -- a Store of a booked segment is sent, for the first time or again
  Sends : {w : State} (x i : ℕ) → CanSend w x i → Step w (sends w x i)
  -- a server keeps what a Store brings and answers Stored
  Accepts : {w : State} (p : StorePacket) → CanAccept w p → Step w (accepts w p)
  -- a server that holds the fragment answers Stored
  Accepts_again : {w : State} (p : StorePacket) → CanAcceptAgain w p → Step w (accepts_again w p)
  -- a server sends a fragment that it holds
  Tells : {w : State} (v x : ℕ) → CanTell w v x → Step w (tells w v x)
  -- a server that rebuilds fills in its fragment of a segment
  Fills : {w : State} (v i : ℕ) (p : FragmentPacket) → CanFill w v i p → Step w (fills w v i p)
  -- the cleaner drops a segment below the least horizon
  Drops : {w : State} (x : ℕ) → CanDrop w x → Step w (drops w x)
  -- a server deletes its fragment of a dropped segment
  Deletes : {w : State} (v x : ℕ) → CanDelete w x → Step w (deletes w v x)
  -- the least horizon rises
  Raises : {w : State} (low : ℕ) → CanRaise w low → Step w (raises w low)
  -- a server answers a Fence with what it holds
  Fences : {w : State} (v c : ℕ) → CanFence w c → Step w (fences w v c)
  -- the owner writes the next segment
  Seals : {w : State} (x text count : ℕ) (server : ℕ → ℕ) (content : ℕ) → CanSeal w x count server → Step w (seals w x text count server content)
  -- the owner writes its flight again, under a new name to a new group
  Restripes : {w : State} (x text count : ℕ) (server : ℕ → ℕ) → CanRestripe w x count server → Step w (restripes w x text count server)
  -- the owner notes that a member of its flight holds its fragment
  Notes : {w : State} (p : StoredPacket) → CanNote w p → Step w (notes w p)
  -- the flight of a serving owner is filed
  Settles : {w : State} → CanSettle w → Step w (settles w)
  -- the owner falls
  Crashes : {w : State} → Step w (crashes w)
  -- a manager's log goes on with a chain of its own
  Restarts : {w : State} → CanRestart w → Step w (restarts w)
  -- an owner restarts and begins to open its log
  Begins : {w : State} → CanBegin w → Step w (begins w)
  -- the lists name nothing at or above the horizon
  Picks_none : {w : State} (list_of : ℕ → FencedPacket) (low : ℕ) → CanPickNone w list_of low → Step w (picks_none w low)
  -- the picked segment is kept, as the opening's base
  Picks_kept : {w : State} (list_of : ℕ → FencedPacket) (low x : ℕ) → CanPickKept w list_of low x → Step w (picks_kept w low x)
  -- the picked segment is discarded, and its prior is the opening's base
  Picks_prior : {w : State} (list_of : ℕ → FencedPacket) (low x i : ℕ) → CanPickPrior w list_of low x i → Step w (picks_prior w low x)
  -- reading back is cut at a later horizon
  Cuts : {w : State} (low : ℕ) → CanCut w low → Step w (cuts w low)
  -- the opening segment is written
  Opens : {w : State} (x text count : ℕ) (server : ℕ → ℕ) → CanOpen w x count server → Step w (opens w x text count server)
  -- the opening segment has settled, and the owner serves
  Serves : {w : State} (path : ℕ → ℕ) (lowest sure : ℕ) → CanServe w path lowest sure → Step w (serves w path lowest sure)

-- the runs from one state to another, step by step
pub data Steps : State → State → Type 0 where
  Done : {w : State} → Steps w w
  More : {w v u : State} → Steps w v → Step v u → Steps w u
