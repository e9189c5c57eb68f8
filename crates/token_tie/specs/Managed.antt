-- How what a slot knows of one block is seen as the reigning manager of the abstract protocol.
use Rattle.std.specs.Prelude.{◌≡◌, ℕ, ◌≤◌, ◌<◌, ◌⊎◌, Bool, false, not, List, [], ◌∷◌, Option, Some, None}
use Rattle.xfs_base.specs.declared.block.BlockId.{BlockId}
use Rattle.xfs_base.specs.declared.entry.Entry.{Entry}
use Rattle.xfs_base.specs.declared.token.Mode.TheVariants.{Copy}
use Rattle.slot_beliefs.specs.declared.job.Wanted.{Wanted}
use Rattle.slot_beliefs.specs.declared.job.Awaited.{Awaited}
use Rattle.slot_beliefs.specs.declared.job.Job.{Job}
use Rattle.slot_beliefs.specs.Beliefs.{share_of}
use Rattle.slot_beliefs.specs.Recalls.{applied_of, stamp, job_at}
use Rattle.token_manager.specs.declared.output.Out.{Out}
use Rattle.token_manager.specs.declared.output.Out.TheVariants.{Grant, Forward, Recall, Applied, Live, Dead}
use Rattle.token_manager.specs.Laws.{Awaits}
use Rattle.token_manager.specs.SlotState.{SlotState}
use Rattle.token_manager.specs.Transition.{Done, entry_at}
use Rattle.token_protocol.specs.Basics.{In}
use Rattle.token_protocol.specs.Entry.{no_entry}
use Rattle.token_protocol.specs.Packets as packets
use Rattle.token_protocol.specs.Step.{Steps}
use Rattle.token_protocol.specs.Told.{told as acts_told}
use Rattle.token_protocol.specs.World.{World}
use Rattle.token_tie.specs.Seen.{kept, entry_seen, SentOffer, SentRecall}
use Rattle.xfs_base.specs.Modes.{is_nothing, is_own, mode_number}

-- a want with the end that it named
abbrev pub want_seen : Wanted → ℕ → packets.Want
want_seen ask end = record { client = ask.client; incarnation = ask.inc; request = ask.req; mode = mode_number ask.mode; end = end }

-- what an unanswered recall is there
pub record AwaitedShown (leave : Bool) (epoch : ℕ) (awaited keep : ℕ → ℕ) (recalls : List packets.Recall) (a : Awaited) : Type 0 where
  pub stamp : a.stamp ≡ stamp epoch (awaited a.client)
  pub some : 0 < awaited a.client
  pub keeps : keep a.client ≡ kept leave
  pub sent : In (record { client = a.client; stamp = awaited a.client; keep = kept a.keep }) recalls

abbrev pub AllAwaited : Bool → ℕ → (ℕ → ℕ) → (ℕ → ℕ) → List packets.Recall → List Awaited → Type 0
AllAwaited keeps epoch awaited keep recalls [] = Unit {0}
AllAwaited keeps epoch awaited keep recalls (a ∷ more) =
    (a.end ≡ None → AwaitedShown keeps epoch awaited keep recalls a) × AllAwaited keeps epoch awaited keep recalls more

-- some answer of this client named an end at or above this
abbrev pub Named : List Awaited → ℕ → ℕ → Type 0
Named [] client owed = ⊥
Named (a ∷ more) client owed = ((a.client ≡ client) × ((end : ℕ) × (a.end ≡ Some end) × (owed ≤ end))) ⊎ Named more client owed

-- where no want waits for the block, nothing is awaited and nothing owed
pub record Idle (awaited owed applied : ℕ → ℕ) : Type 0 where
  pub nothing : (d : ℕ) → awaited d ≡ 0
  pub paid : (d : ℕ) → owed d ≤ applied d

-- where one waits, just its recalls are awaited, and what is owed was named to it
pub record Waits (job : Job) (epoch : ℕ) (awaited keep owed applied : ℕ → ℕ) (wants : List packets.Want) (recalls : List packets.Recall) : Type 0 where
  pub end : ℕ
  pub asked : In (want_seen job.want end) wants
  pub asker : end ≤ applied job.want.client
  pub something : is_nothing job.want.mode ≡ false
  pub only : (d : ℕ) → 0 < awaited d → Awaits job.awaited d
  pub each : AllAwaited (not (is_own job.want.mode)) epoch awaited keep recalls job.awaited
  pub paid : (d : ℕ) → (owed d ≤ applied d) ⊎ ((0 < d) × Named job.awaited d (owed d))

abbrev pub JobShown : Option Job → ℕ → (ℕ → ℕ) → (ℕ → ℕ) → (ℕ → ℕ) → (ℕ → ℕ) → List packets.Want → List packets.Recall → Type 0
JobShown None epoch awaited keep owed applied wants recalls = Idle awaited owed applied
JobShown (Some job) epoch awaited keep owed applied wants recalls = Waits job epoch awaited keep owed applied wants recalls

-- The slot is seen as the reigning manager, at this block.
pub record Manages (b : BlockId) (s : SlotState) (w : World) : Type 0 where
  pub epoch : s.epoch ≡ w.epoch
  pub turn : s.turn ≡ w.turn
  pub belief : (d : ℕ) → w.belief d ≤ share_of s.beliefs b d
  pub applied : (d : ℕ) → 0 < d → w.applied d ≡ applied_of s.applied d
  pub index : w.index ≡ entry_seen (entry_at s b)
  pub job : JobShown (job_at s.jobs b) s.epoch w.awaited w.keep w.owed w.applied w.wants w.recalls

-- the world, but for what a manager's steps change
abbrev pub rest : World → World
rest w = record w { belief = λ c. 0; awaited = λ c. 0; keep = λ c. 0; owed = λ c. 0; applied = λ c. 0; index = no_entry; turn = 0; offers = []; recalls = [] }

-- Only the manager stepped, and packets stay sent.
pub record ByManager (w v : World) : Type 0 where
  pub others : rest v ≡ rest w
  pub offers : (p : packets.Offer) → In p w.offers → In p v.offers
  pub recalls : (r : packets.Recall) → In r w.recalls → In r v.recalls

-- what is said of the block was sent there
abbrev pub Told : BlockId → World → Out → Type 0
Told b w (Grant client block stamp inc req mode entry) = block ≡ b → SentOffer client w stamp inc req mode (entry_seen entry)
Told b w (Forward passer block stamp client inc req ver) = block ≡ b
    → (entry : Entry) × (entry.ver ≡ ver) × SentOffer client w stamp inc req Copy (entry_seen entry)
Told b w (Recall client block stamp keep) = block ≡ b → SentRecall client w stamp keep
Told b w (Applied log upto) = Unit {0}
Told b w (Live entry) = Unit {0}
Told b w Dead = Unit {0}

abbrev pub AllTold : BlockId → World → List Out → Type 0
AllTold b w [] = Unit {0}
AllTold b w (o ∷ os) = Told b w o × AllTold b w os

-- By steps of the manager alone, which tell no act, the world becomes one in which the slot and what it says are shown.
pub record Runs (logs : Bool) (b : BlockId) (w : World) (d : Done) : Type 0 where
  pub world : World
  pub steps : Steps logs w world
  pub quiet : acts_told w world steps ≡ []
  pub frame : ByManager w world
  pub shows : Manages b d.state world
  pub told : AllTold b world d.outs
