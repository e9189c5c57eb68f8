-- How a server's shelf is seen in the abstract state of one log, and what is done to it.
use Rattle.std.specs.Prelude.{◌≡◌, ℕ, ◌<◌, ◌≤◌, Bool, true, ◌==◌, if◌then◌else◌, List, [], ◌∷◌, Option, Some, None, is_none}
use Rattle.xfs_base.specs.declared.fragment.Fragment.{Fragment}
use Rattle.xfs_base.specs.declared.segment.SegName.{SegName}
use Rattle.xfs_base.specs.Limits.{u32_end}
use Rattle.segment_format.specs.declared.segment.Segment.{Segment}
use Rattle.fragment_store.specs.ShelfState.{ShelfState, held_at, is_held, is_marked}
use Rattle.fragment_store.specs.Calls.{refusal, shelf_store, on_fence, on_delete, on_fill, on_lose}
use Rattle.log_protocol.specs.Packets.{StoredPacket, FragmentPacket, FencedPacket}
use Rattle.log_protocol.specs.LogLaws.{Reached}
use Rattle.log_protocol.specs.State.{State}
use Rattle.log_protocol.specs.Step.{Steps}
use Rattle.log_protocol.specs.Tables.{In}
use Rattle.log_tie.specs.Setting.{Setting, name_of, fragment_of}
use Rattle.log_tie.specs.Seen.{Book, StoreSeen}

abbrev pub flag : Bool → ℕ
flag t = if t then 1 else 0

-- what a server holds of a name is the fragment of the booked segment at the kept index
abbrev pub Kept : Setting → Segment → Option Fragment → ℕ → ℕ → ℕ → Type 0
Kept g s None booked holds index = holds ≡ 0
Kept g s (Some f) booked holds index = (holds ≡ 1) × (booked ≡ 1) × (f ≡ fragment_of g s index)

abbrev pub is_of_log : Setting → SegName → Bool
is_of_log g name = name.log.0 == g.log.0

-- a fragment of a booked segment
abbrev pub IsPiece : Setting → (ℕ → Segment) → (ℕ → ℕ) → Fragment → Type 0
IsPiece g book booked f = (x : ℕ) × (i : ℕ) × (booked x ≡ 1) × (f ≡ fragment_of g (book x) i)

-- each fragment of the log is one of a booked segment
abbrev pub AllPieces : Setting → (ℕ → Segment) → (ℕ → ℕ) → List Fragment → Type 0
AllPieces g book booked [] = Unit {0}
AllPieces g book booked (f ∷ fs) = (is_of_log g f.meta.name ≡ true → IsPiece g book booked f) × AllPieces g book booked fs

-- A shelf, of its server's generation, with what it holds and has marked. Its fences aren't seen: no guard asks for them.
pub record Shelved (g : Setting) (book : ℕ → Segment) (booked : ℕ → ℕ) (generation : ℕ) (holds index marked : ℕ → ℕ) (s : ShelfState) : Type 0 where
  pub of : generation ≡ s.generation
  pub keeps : (x : ℕ) → Kept g (book x) (held_at s.held (name_of g x)) (booked x) (holds x) (index x)
  pub each : AllPieces g book booked s.held
  pub marks : (x : ℕ) → marked x ≡ flag (is_marked s.marks (name_of g x))

-- the shelf of this server
abbrev pub ShelfShown : Setting → State → (ℕ → Segment) → ℕ → ShelfState → Type 0
ShelfShown g w book v s = Shelved g book w.booked (w.generation v) (w.holds v) (w.kept_index v) (w.marked v) s

-- what is done to a shelf; a Fence is one of the log, for an incarnation of its owner
pub data Deed : Type 0 where
  Stores : Fragment → ℕ → Deed
  Fetches : SegName → Deed
  Fences : ℕ → Deed
  Deletes : SegName → Deed
  Fills : Fragment → Deed
  Loses : Deed

abbrev pub is_stored : ShelfState → Fragment → ℕ → Bool
is_stored s f generation = is_none (refusal s f.meta.name generation)

-- the shelf after it
abbrev pub shelf_after : Setting → ShelfState → Deed → ShelfState
shelf_after g s (Stores f generation) = if is_stored s f generation then shelf_store s f else s
shelf_after g s (Fetches name) = s
shelf_after g s (Fences inc) = on_fence s g.log (record { inc = inc; att = 0 })
shelf_after g s (Deletes name) = on_delete s name
shelf_after g s (Fills f) = on_fill s f
shelf_after g s Loses = on_lose s

-- what a rebuild fills in: this server's fragment of a booked segment whose text some Fragment brought
pub record FillSeen (g : Setting) (w : State) (book : ℕ → Segment) (v : ℕ) (f : Fragment) : Type 0 where
  pub name : ℕ
  pub index : ℕ
  pub known : w.booked name ≡ 1
  pub named : f.meta.name ≡ name_of g name
  pub fragment : f ≡ fragment_of g (book name) index
  pub sent : In (record { name = name; text = w.text_of name }) w.fragments
  pub member : index < w.member_count name
  pub own : w.member_server name index ≡ v

-- what was dropped
pub record DropSeen (g : Setting) (w : State) (name : SegName) : Type 0 where
  pub number : ℕ
  pub named : name ≡ name_of g number
  pub dropped : w.dropped number ≡ 1

-- What the world owes each: that a Store, and what is filled in, was sent, and that what is deleted was dropped, where it is of the log; that a Fence is of a
-- boot that began; that generations don't end.
abbrev pub Owes : Setting → State → (ℕ → Segment) → ℕ → ShelfState → Deed → Type 0
Owes g w book v s (Stores f generation) = is_of_log g f.meta.name ≡ true → StoreSeen g w.booked book w.stores v f generation
Owes g w book v s (Fetches name) = Unit {0}
Owes g w book v s (Fences inc) = inc ≤ w.incarnation
Owes g w book v s (Deletes name) = is_of_log g name ≡ true → DropSeen g w name
Owes g w book v s (Fills f) = is_of_log g f.meta.name ≡ true → FillSeen g w book v f
Owes g w book v s Loses = s.generation < u32_end

-- what it answers is told there: a Stored, a Fragment, a Fenced with what is held
abbrev pub Tells : Setting → State → (ℕ → Segment) → ℕ → ShelfState → Deed → Type 0
Tells g u book v s (Stores f generation) =
    is_of_log g f.meta.name ≡ true → is_stored s f generation ≡ true
    → (x : ℕ) × (f.meta.name ≡ name_of g x) × In (record { name = x; index = f.meta.index; generation = generation }) u.storeds
Tells g u book v s (Fetches name) =
    (f : Fragment) → is_of_log g name ≡ true → held_at s.held name ≡ Some f
    → (x : ℕ) × (i : ℕ) × (u.booked x ≡ 1) × (name ≡ name_of g x) × (f ≡ fragment_of g (book x) i) × In (record { name = x; text = u.text_of x }) u.fragments
Tells g u book v s (Fences inc) =
    (packet : FencedPacket) × In packet u.fenceds × (packet.from ≡ v) × (packet.incarnation ≡ inc) × (packet.generation ≡ s.generation)
    × ((x : ℕ) → packet.listed x ≡ flag (is_held s (name_of g x)))
Tells g u book v s (Deletes name) = Unit {0}
Tells g u book v s (Fills f) = Unit {0}
Tells g u book v s Loses = Unit {0}

-- the state, but for what a server's steps change
abbrev pub rest : State → State
rest w =
    record w {
      generation = λ v. 0;
      holds = λ v x. 0;
      kept_text = λ v x. 0;
      kept_index = λ v x. 0;
      marked = λ v x. 0;
      secured = λ x i. 0;
      storeds = [];
      fragments = [];
      fenceds = [];
      hurt = λ i. 0;
    }

-- Only this server stepped: the book, the owner and the other shelves are as they were, and packets stay sent.
pub record ByServer (v : ℕ) (w u : State) : Type 0 where
  pub others : rest u ≡ rest w
  pub generation : (k : ℕ) → (k ≡ v → ⊥) → u.generation k ≡ w.generation k
  pub holds : (k x : ℕ) → (k ≡ v → ⊥) → u.holds k x ≡ w.holds k x
  pub index : (k x : ℕ) → (k ≡ v → ⊥) → u.kept_index k x ≡ w.kept_index k x
  pub marked : (k x : ℕ) → (k ≡ v → ⊥) → u.marked k x ≡ w.marked k x
  pub storeds : (p : StoredPacket) → In p w.storeds → In p u.storeds
  pub fragments : (p : FragmentPacket) → In p w.fragments → In p u.fragments
  pub fenceds : (p : FencedPacket) → In p w.fenceds → In p u.fenceds

-- By steps of this server alone the state becomes one in which the shelf after the deed is seen, and what it answers is told.
pub record Did (g : Setting) (w : State) (book : ℕ → Segment) (v : ℕ) (s : ShelfState) (deed : Deed) : Type 0 where
  pub world : State
  pub steps : Steps w world
  pub frame : ByServer v w world
  pub shows : ShelfShown g world book v (shelf_after g s deed)
  pub tells : Tells g world book v s deed

-- Whatever is done to a shelf is done by steps of its server.
abbrev pub TakesDeeds : Type 0
TakesDeeds =
    (g : Setting) (w : State) (book : ℕ → Segment) (v : ℕ) (s : ShelfState) (deed : Deed) → Reached w → Book g w book → ShelfShown g w book v s
    → Owes g w book v s deed → Did g w book v s deed
