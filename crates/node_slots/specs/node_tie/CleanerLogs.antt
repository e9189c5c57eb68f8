-- How the cleaner's log is seen in the small world: what waits to be written to it, and what the cleaner's job is to move, are copies of what filed
-- segments say.
use Rattle.std.specs.Prelude.{◌≡◌, ◌≤◌, ◌++◌, ℕ, suc, Bool, true, List, [], None, IfSome}
use Rattle.std.specs.List.{AllByRecursion}
use Rattle.cleaner_serving.specs.declared.emptying.Emptying.{Emptying}
use Rattle.cleaner_node.specs.declared.cleaner.Phase.{Phase}
use Rattle.cleaner_node.specs.declared.cleaner.Phase.TheVariants.{Down, Opening, Serving as Serves}
use Rattle.cleaner_job.specs.Jobs.{check_of, hand_of, is_out}
use Rattle.cleaner_job.specs.Starting.{cleaner_log}
use Rattle.log_owner.specs.declared.opened.Opened.{Opened}
use Rattle.log_owner.specs.declared.opened.Progress.{Progress}
use Rattle.log_owner.specs.declared.opened.Progress.TheVariants as progress
use Rattle.log_owner.specs.Opening as opens
use Rattle.node_base.specs.declared.effects.Effect.{Effect}
use Rattle.node_base.specs.Effects.{acts_of}
use Rattle.stripe_cleaner.specs.declared.checks.Check.{Check}
use Rattle.stripe_cleaner.specs.declared.checks.Fate.{Fate}
use Rattle.stripe_cleaner.specs.declared.checks.Fate.TheVariants as fate
use Rattle.stripe_cleaner.specs.declared.phase.Phase as jobs
use Rattle.stripe_cleaner.specs.declared.phase.Phase.TheVariants.{Checking}
use Rattle.token_law.specs.Books.{Books, Row, said, reopened, with_empty}
use Rattle.token_law.specs.Net.{Net, Runs}
use Rattle.token_protocol.specs.Premises.{Premise}
use Rattle.wire_msg.specs.declared.body.Body.{Body}
use Rattle.wire_msg.specs.declared.body.Body.TheVariants as body
use Rattle.wire_msg.specs.declared.cleaning.Live.{Live}
use Rattle.wire_msg.specs.declared.packet.Do.{Do}
use Rattle.wire_msg.specs.declared.packet.Do.TheVariants.{Begin, Deliver, Tick}
use Rattle.wire_msg.specs.declared.packet.Packet as packets
use Rattle.xfs_base.specs.Blocks.{same_block}
use Rattle.xfs_base.specs.declared.block.BlockId.{BlockId}
use Rattle.xfs_base.specs.declared.entry.Entry.{Entry}
use Rattle.xfs_base.specs.declared.node.NodeId.TheVariants.{Cleaner}
use Rattle.node_slots.specs.node_tie.LogRows.{LogSeen, rows_waiting}
use Rattle.node_slots.specs.node_tie.Sight.{SameLog}

-- the number of its log
abbrev pub its_log : ℕ
its_log = cleaner_log.0

-- ---- copies

-- the row is what a filed segment says of the block
pub record IsCopy (k : Books) (b : BlockId) (row : Row) : Type 0 where
  pub log : ℕ
  pub segment : ℕ
  pub filed : segment ≤ k.end log
  pub row_said : row ≡ said k log segment b

abbrev pub AreCopies : Books → List (BlockId × Row) → Type 0
AreCopies k rows = AllByRecursion (λ (r : BlockId × Row). IsCopy k r.0 r.1) rows

module _ (k : Books) where
  -- what a job is to move of a block
  abbrev pub FateCopies : BlockId → Fate → Type 0
  FateCopies block (fate.Live entry value) = IsCopy k block (record { version = entry.ver; value = value })
  FateCopies block _ = Unit {0}

  abbrev pub PhaseCopies : jobs.Phase → Type 0
  PhaseCopies (Checking j seg checks) = AllByRecursion (λ (c : Check). FateCopies c.block c.fate) checks
  PhaseCopies _ = Unit {0}

  -- one that serves
  pub record ServesCopies (e : Emptying) : Type 0 where
    pub seen : LogSeen k its_log e.log
    pub waits : AreCopies k (rows_waiting e.log)
    pub job : IfSome e.job (λ job. PhaseCopies job.cleaning.phase)

  abbrev pub CleanerCopies : Phase → Type 0
  CleanerCopies (Down l) = Unit {0}
  CleanerCopies (Opening l o) = Unit {0}
  CleanerCopies (Serves e) = ServesCopies e

  -- ---- what the world owes it

  -- what was read of a block that is asked for, with the version that a Live tells, is what a filed segment says
  abbrev pub FateTold : BlockId → Entry → Fate → Type 0
  FateTold block entry (fate.Asked value) = IsCopy k block (record { version = entry.ver; value = value })
  FateTold block entry _ = Unit {0}

  abbrev pub PhaseTold : BlockId → Entry → jobs.Phase → Type 0
  PhaseTold block entry (Checking j seg checks) = AllByRecursion (λ (c : Check). same_block c.block block ≡ true → FateTold block entry c.fate) checks
  PhaseTold block entry _ = Unit {0}

  -- a Live that answers the question for its block
  abbrev pub LiveTold : Emptying → Live → Type 0
  LiveTold e m = is_out (check_of (hand_of e.job) m.block) m.ask ≡ true → IfSome e.job (λ job. PhaseTold m.block m.entry job.cleaning.phase)

  -- Where the opening of its log ends, its end is that of the books, reopened with what was in flight or without, as is said, with so many segments that say
  -- nothing; what it adopted was in flight; and nothing waits to be written, or is in flight.
  pub record ReopensAt (adopted : Bool) (o : Opened) : Type 0 where
    pub count : ℕ
    pub end : o.log.end.seq ≡ (with_empty count (reopened k its_log adopted) its_log).end its_log
    pub flies : adopted ≡ true → k.flying its_log ≡ true
    pub nothing_waits : o.log.dirty ≡ []
    pub nothing_flies : o.log.flight ≡ None

  abbrev pub EndsAt : Bool → Progress → Type 0
  EndsAt adopted (progress.Opened o) = ReopensAt adopted o
  EndsAt adopted (progress.Opening o) = Unit {0}
  EndsAt adopted (progress.Lost seg) = Unit {0}

  abbrev pub ServingTold : Emptying → Body → Type 0
  ServingTold e (body.Live m) = LiveTold e m
  ServingTold e _ = Unit {0}

  abbrev pub PacketTold : Bool → Phase → packets.Packet → Type 0
  PacketTold adopted (Down l) packet = Unit {0}
  PacketTold adopted (Opening l o) packet = EndsAt adopted (opens.opening_take o l.questions packet).progress
  PacketTold adopted (Serves e) packet = ServingTold e packet.body

  abbrev pub InTime : Bool → Phase → Type 0
  InTime adopted (Down l) = Unit {0}
  InTime adopted (Opening l o) = EndsAt adopted (opens.on_tick o l.questions).progress
  InTime adopted (Serves e) = Unit {0}

  abbrev pub CleanerTold : Bool → Phase → Do → Type 0
  CleanerTold adopted p Begin = Unit {0}
  CleanerTold adopted p (Deliver packet) = PacketTold adopted p packet
  CleanerTold adopted p Tick = InTime adopted p

-- ---- what an event makes of it

-- the small world with these books, and with what the cleaner acted
abbrev pub after_cleaner : Net → Books → List Effect → Net
after_cleaner n books outs = record n { books = books; acts = n.acts ++ acts_of Cleaner outs }

-- While the cleaner serves, what the filed segments of its log say stays, and so does what is said by the one in flight, also once that is filed.
pub record OwnGrows (k m : Books) : Type 0 where
  pub rises : k.end its_log ≤ m.end its_log
  pub filed : (q : ℕ) → q ≤ k.end its_log → m.rows its_log q ≡ k.rows its_log q
  pub flown : k.flying its_log ≡ true → m.rows its_log (suc (k.end its_log)) ≡ k.rows its_log (suc (k.end its_log))

-- One that begins to serve has its log opened again, with what was in flight or without, as was said; one that doesn't serve then leaves it as it was.
abbrev pub OwnGoes : Books → Books → Bool → Phase → Phase → Type 0
OwnGoes k m adopted (Serves e) (Serves f) = OwnGrows k m
OwnGoes k m adopted (Opening l o) (Serves f) = (count : ℕ) × (m ≡ with_empty count (reopened k its_log adopted) its_log)
OwnGoes k m adopted (Down l) (Serves f) = ⊥
OwnGoes k m adopted p (Down l) = m ≡ k
OwnGoes k m adopted p (Opening l o) = m ≡ k

-- The small world runs on: of logs the cleaner's own alone changes, goes on so, and is seen so then; and its acts are done.
pub record CleanerRuns (logs : Bool) (members part : ℕ) (n : Net) (adopted : Bool) (p p' : Phase) (outs : List Effect) : Type 0 where
  pub books : Books
  pub runs : Runs logs members part n (after_cleaner n books outs)
  pub others : (l : ℕ) → (l ≡ its_log → ⊥) → SameLog n.books books l
  pub own : Premise logs (OwnGoes n.books books adopted p p')
  pub copies : Premise logs (CleanerCopies books p')
