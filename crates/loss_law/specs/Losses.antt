-- What a reopening says of a lost segment, and what was so at a moment before.
use Rattle.std.specs.Prelude.{◌≡◌, ℕ, ◌<◌, ◌⊎◌, Bool, true, false, nat_le, nat_lt, is_none, Some, None}
use Rattle.std.specs.List.{count_by}
use Rattle.xfs_base.specs.declared.segment.SegName.{SegName}
use Rattle.xfs_base.specs.declared.segment.SegRef.{SegRef}
use Rattle.segment_format.specs.declared.segment.Segment.{Segment}
use Rattle.fragment_store.specs.ShelfState.{held_at, is_held}
use Rattle.segment_reading.specs.Reading.{ReadingState}
use Rattle.log_scan.specs.declared.input.In.{In as Input}
use Rattle.log_scan.specs.declared.input.In.TheVariants.{Missing}
use Rattle.log_scan.specs.declared.output.Out.TheVariants.{Lost}
use Rattle.log_scan.specs.declared.stage.Backward.{Backward}
use Rattle.log_scan.specs.declared.stage.Stage.TheVariants.{Reads}
use Rattle.log_scan.specs.ScanState.{IsRead, ScanState}
use Rattle.log_scan.specs.Transition.{transition}
use Rattle.log_protocol.specs.Tables.{In}
use Rattle.log_tie.specs.Setting.{Setting}
use Rattle.log_law.specs.Net.{Net, Owner}
use Rattle.log_law.specs.Net.Owner.{Down, Opening, Writing, Serving}
use Rattle.log_law.specs.Events.{Happens, Runs}
use Rattle.log_law.specs.Events.Happens.{Opens}
use Rattle.log_law.specs.Events.Runs.{Begun, On}
use Rattle.log_law.specs.BeingRead.{IsWhole}
use Rattle.log_law.specs.Laws.{Moment}
use Rattle.segment_format.specs.References.{ref_of}

-- ---- moments

-- at some moment of the run it was so, and from that moment on the owner keeps to this
abbrev pub Once : {g : Setting} {n m : Net} → (Owner → Bool) → (Net → Type 0) → Runs g n m → Type 0
Once keeps P (Begun {n = n}) = (keeps n.owner ≡ true) × P n
Once keeps P (On {o = o} run happens) = (keeps o.owner ≡ true) × (P o ⊎ Once keeps P run)

-- It opens its log. Moments through which it does are of one opening, for between two there is a fall.
abbrev pub is_opening : Owner → Bool
is_opening Down = false
is_opening (Opening s) = true
is_opening (Writing chain s) = false
is_opening (Serving s) = false

-- it opens its log, and has drawn this question
abbrev pub has_drawn : ℕ → Owner → Bool
has_drawn ask Down = false
has_drawn ask (Opening s) = nat_le ask s.opening.ask
has_drawn ask (Writing chain s) = false
has_drawn ask (Serving s) = false

-- ---- what comes to an opening

-- the event by which an opening takes an input
abbrev pub Takes : {g : Setting} {n o : Net} → Happens g n o → ScanState → Input → Type 0
Takes (Opens s i fact came can) t j = (s ≡ t) × (i ≡ j)
Takes other t j = ⊥

-- a server is of this generation and holds no fragment of the name
pub record LacksIn (name : SegName) (v generation : ℕ) (n : Net) : Type 0 where
  pub in_generation : (n.shelves v).generation ≡ generation
  pub nothing : held_at (n.shelves v).held name ≡ None

-- What comes is true: where it is a Missing in answer to the question of the round that is on, the server was as it says at some moment since the question
-- was drawn.
abbrev pub IsTrue : {g : Setting} {n m : Net} → Runs g n m → ScanState → Input → Type 0
IsTrue run s i =
    (b : Backward) (r : ReadingState) (v generation : ℕ) → s.stage ≡ Reads b (Some r) → i ≡ Missing r.ask v generation
    → Once (has_drawn r.ask) (LacksIn r.target.seg.name v generation) run

-- so was each Missing that an opening took
abbrev pub MissingsTrue : {g : Setting} {n m : Net} → Runs g n m → Type 0
MissingsTrue Begun = Unit {0}
MissingsTrue (On run happens) = MissingsTrue run × ((s : ScanState) (i : Input) → Takes happens s i → IsTrue run s i)

-- ---- what is lost

-- how many members of a segment's group lack their fragment
abbrev pub lacking : Setting → Net → SegRef → ℕ
lacking g n segment = count_by (λ m. is_none (held_at (n.shelves m.server).held segment.name)) (g.stripe segment.group).members

-- More members lack their fragment than the group's parity makes good, and no Delete of the segment was sent.
pub record IsTorn (g : Setting) (segment : SegRef) (n : Net) : Type 0 where
  pub torn : (g.stripe segment.group).parity < lacking g n segment
  pub kept : In segment.name n.dropped → ⊥

-- how many members of a segment's group have lost their disk since the group was made
abbrev pub disks_lost : Setting → Net → SegRef → ℕ
disks_lost g n segment = count_by (λ m. nat_lt m.generation (n.shelves m.server).generation) (g.stripe segment.group).members

-- It was lost then: it is torn, and it is whole but for disks, whether it was filed or not; so more members have lost their disk than the parity makes good.
pub record IsLost (g : Setting) (segment : SegRef) (n : Net) : Type 0 where
  pub torn : IsTorn g segment n
  pub whole : IsWhole g n segment
  pub disks : (g.stripe segment.group).parity < disks_lost g n segment

-- ---- when an opening says so

-- The name is that of the segment that is read, over the group that its successor names or the pick told, and at some moment of this opening it was lost.
pub record IsEarned (g : Setting) {n m : Net} (run : Runs g n m) (s : ScanState) (name : SegName) : Type 0 where
  pub segment : SegRef
  pub named : name ≡ segment.name
  pub is_read : IsRead s.stage segment
  pub once : Once is_opening (IsLost g segment) run

-- A reopening loses what is torn: where each Missing was true, and an opening takes an input by which it says that a segment is lost, that is earned.
abbrev pub AReopeningLosesWhatIsTorn : Type 0
AReopeningLosesWhatIsTorn =
    (g : Setting) (n o : Net) (m : Moment g n) (happens : Happens g n o) → MissingsTrue (On m.run happens) → (s : ScanState) (i : Input) → Takes happens s i
    → (name : SegName) → In (Lost name) (transition s i).outs → IsEarned g m.run s name

-- A torn segment lost disks: at every moment of every run, of a filed segment that is torn over its group more members have lost their disk than the parity
-- makes good.
abbrev pub ATornSegmentLostDisks : Type 0
ATornSegmentLostDisks =
    (g : Setting) (n : Net) → Moment g n → (s : Segment) → In s n.flown → In s.name n.filed → IsTorn g (ref_of s) n
    → (g.stripe s.group).parity < disks_lost g n (ref_of s)

-- A fragment goes only with its disk: a server that held a fragment of the log and holds none of that name later, while no Delete of it was sent, has lost its
-- disk in between.
abbrev pub FragmentsGoWithDisks : Type 0
FragmentsGoWithDisks =
    (g : Setting) (n o : Net) → Moment g n → Runs g n o → (v : ℕ) (name : SegName) → name.log ≡ g.log → is_held (n.shelves v) name ≡ true
    → held_at (o.shelves v).held name ≡ None → (In name o.dropped → ⊥) → (n.shelves v).generation < (o.shelves v).generation
