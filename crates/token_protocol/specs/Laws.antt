-- What is true of a block at every moment: each law is a property of one world.
use Rattle.std.specs.Prelude.{◌≡◌, ℕ, ◌+◌, ◌<◌, ◌≤◌, max}
use Rattle.token_protocol.specs.Basics.{In}
use Rattle.token_protocol.specs.Packets.{Want, Offer, Report}
use Rattle.token_protocol.specs.World.{World, Dirty, Clean, Live, Placed, flying_row}
use Rattle.token_protocol.specs.Using.{MayRead}
use Rattle.token_protocol.specs.Crashing.{MayCrashDirty, crashes_dirty}

-- The client may read the block.
abbrev pub Holds : World → ℕ → Type 0
Holds w c = 0 < (w.client c).mode

-- The client may write it.
abbrev pub Owns : World → ℕ → Type 0
Owns w c = (w.client c).mode ≡ 2

-- Where a client owns the block, no other holds it: no two owners, and no copy beside an owner.
abbrev pub SingleOwner : World → Type 0
SingleOwner w = (c d : ℕ) → Owns w c → Holds w d → c ≡ d

-- Every client has promised at least the reigning epoch, so it takes nothing from a manager below it.
abbrev pub EpochPromised : World → Type 0
EpochPromised w = (c : ℕ) → c < w.members → w.epoch ≤ (w.client c).promised

-- The reigning manager believes of each client at least what it holds, and a copy at least where it fetches;
-- where it believes that one owns, it believes that no other holds anything.
pub record BeliefsCover (w : World) : Type 0 where
  pub held : (c : ℕ) → (w.client c).mode ≤ w.belief c
  pub fetched : (c : ℕ) → (w.client c).fetching ≡ 1 → 1 ≤ w.belief c
  pub single : (c d : ℕ) → w.belief c ≡ 2 → 0 < w.belief d → c ≡ d

-- What a client could still accept is believed of it.
abbrev pub AcceptableBelieved : World → Type 0
AcceptableBelieved w = (g : Offer) → In g w.offers → Live w g → g.mode ≤ w.belief g.client

-- Who holds the block has its newest version and that version's value.
pub record HasNewest (w : World) (c : ℕ) : Type 0 where
  pub version : (w.client c).version ≡ w.newest
  pub value : (w.client c).value ≡ w.value_at w.newest

abbrev pub HoldersNewest : World → Type 0
HoldersNewest w = (c : ℕ) → Holds w c → HasNewest w c

-- Each read is of the newest version and its value.
abbrev pub ReadsLegal : World → Type 0
ReadsLegal w = (c : ℕ) → MayRead w c → HasNewest w c

-- The join is the join: no filed row is above it, and where it is above 0 a filed row has its version.
pub record JoinIsJoin (w : World) : Type 0 where
  pub upper : (c q : ℕ) → q ≤ w.end c → (w.rows c q).version ≤ w.join_version
  pub attained : 0 < w.join_version → ((w.rows w.join_log w.join_segment).version ≡ w.join_version) × (w.join_segment ≤ w.end w.join_log)

-- Where nobody has the block dirty and nobody fell with it, the join over all that is settled is the newest version, with its value.
pub record IsNewest (w : World) : Type 0 where
  pub version : w.join_version ≡ w.newest
  pub value : 0 < w.newest → (w.rows w.join_log w.join_segment).value ≡ w.value_at w.newest

abbrev pub JoinNewest : World → Type 0
JoinNewest w = ((c : ℕ) → Clean w c) → ((c : ℕ) → w.fallen c ≡ 0) → IsNewest w

-- Who has the block dirty owns it, has settled the join, and wrote every version above the join, the newest among them.
pub record Leads (w : World) (c : ℕ) : Type 0 where
  pub owned : Owns w c
  pub settled : (w.client c).settled ≡ w.join_version
  pub ahead : w.join_version < w.newest
  pub mine : (v : ℕ) → w.join_version < v → v ≤ w.newest → w.writer v ≡ c

abbrev pub DirtyLeads : World → Type 0
DirtyLeads w = (c : ℕ) → Dirty w c → Leads w c

-- Between a fall with the block dirty and the return, nobody holds the block.
abbrev pub NoHolderAfterFall : World → Type 0
NoHolderAfterFall w = (c d : ℕ) → w.fallen c ≡ 1 → (w.client d).mode ≡ 0

-- A fall or a return is legal between two versions: at or above what was read elsewhere or synced, in order, and cutting only what the client wrote itself.
pub record LegalCut (w : World) (c : ℕ) (low : ℕ) (high : ℕ) : Type 0 where
  pub pinned : w.pinned ≤ low
  pub ordered : low ≤ high
  pub known : high ≤ w.newest
  pub mine : (v : ℕ) → low < v → v ≤ w.newest → w.writer v ≡ c

-- Each fall is legal: the newest version is the falling client's, and what the Fell names is a legal cut.
pub record LegalFall (w : World) (c : ℕ) : Type 0 where
  pub newest_mine : w.writer w.newest ≡ c
  pub cut : LegalCut w c ((crashes_dirty w c).cut_low c) ((crashes_dirty w c).cut_high c)

abbrev pub FallsLegal : World → Type 0
FallsLegal w = (c : ℕ) → MayCrashDirty w c → LegalFall w c

-- It stays so until the return: whichever of the two versions the return cuts to, nothing pinned and nobody else's version is lost.
abbrev pub ReturnsLegal : World → Type 0
ReturnsLegal w = (c : ℕ) → w.fallen c ≡ 1 → LegalCut w c (w.cut_low c) (w.cut_high c)

-- Every offer of the reigning manager is of a version that is filed, so of one whose value never changes again.
abbrev pub OffersJoined : World → Type 0
OffersJoined w = (g : Offer) → In g w.offers → g.entry.version ≤ w.join_version

-- What a client may still take is of the join's version.
abbrev pub AcceptableJoins : World → Type 0
AcceptableJoins w = (g : Offer) → In g w.offers → Live w g → g.entry.version ≡ w.join_version

-- A place that the index has, that was offered, or that a client reads is a row of a filed segment, of the entry's version.
pub record PlacesFiled (w : World) : Type 0 where
  pub indexed : 0 < w.index.placed → Placed w w.index
  pub offered : (g : Offer) → In g w.offers → 0 < g.entry.placed → Placed w g.entry
  pub fetched : (c : ℕ) → (w.client c).fetching ≡ 1 → Placed w (w.client c).fetch

-- The index is at least every row that is applied, and at most the join; and only what is filed is applied.
pub record IndexBounded (w : World) : Type 0 where
  pub rows : (c q : ℕ) → q ≤ w.applied c → (w.rows c q).version ≤ w.index.version
  pub join : w.index.version ≤ w.join_version
  pub applied : (c : ℕ) → w.applied c ≤ w.end c

-- A row that a member has in flight is above all that is filed. While the member serves it is no newer than what it holds.
pub record FlightNew (w : World) (c : ℕ) : Type 0 where
  pub above : 0 < (flying_row w c).version → w.join_version < (flying_row w c).version
  pub held : (w.client c).serving ≡ 1 → (flying_row w c).version ≤ (w.client c).version

abbrev pub FlightsNew : World → Type 0
FlightsNew w = (c : ℕ) → c < w.members → FlightNew w c

-- Who fell with the block dirty had settled the join, and its return cuts to that, or to what it had in flight.
pub record FellAt (w : World) (c : ℕ) : Type 0 where
  pub low : w.cut_low c ≡ w.join_version
  pub high : w.cut_high c ≡ max (w.cut_low c) (flying_row w c).version

abbrev pub FallsSettled : World → Type 0
FallsSettled w = (c : ℕ) → w.fallen c ≡ 1 → FellAt w c

-- Who owns the block has settled the join.
abbrev pub OwnersSettled : World → Type 0
OwnersSettled w = (c : ℕ) → Owns w c → (w.client c).settled ≡ w.join_version

-- Rows of logs are versions of the history, with their values; and beyond what is filed and in flight a log has no row.
pub record RowsKnown (w : World) : Type 0 where
  pub known : (c q : ℕ) → (w.rows c q).version ≤ w.newest
  pub value : (c q : ℕ) → 0 < (w.rows c q).version → (w.rows c q).value ≡ w.value_at (w.rows c q).version
  pub beyond : (c q : ℕ) → w.end c + w.flight c < q → (w.rows c q).version ≡ 0

-- The cleaner, which is member 0, holds, wants and fetches nothing, and nothing is believed of it: it only promises and reports.
pub record CleanerIdle (w : World) : Type 0 where
  pub wants : (p : Want) → In p w.wants → 0 < p.client
  pub offers : (g : Offer) → In g w.offers → 0 < g.client
  pub reports : (y : Report) → In y w.reports → y.client ≡ 0 → y.mode ≡ 0
  pub held : (w.client 0).mode ≡ 0
  pub wanted : (w.client 0).want ≡ 0
  pub fetched : (w.client 0).fetching ≡ 0
  pub clean : Clean w 0
  pub fallen : w.fallen 0 ≡ 0
  pub believed : w.belief 0 ≡ 0

-- Its log is empty: its copies stand in another one. And it wrote no version.
pub record CleanerEmpty (w : World) : Type 0 where
  pub end : w.end 0 ≡ 0
  pub flight : w.flight 0 ≡ 0
  pub rows : (q : ℕ) → (w.rows 0 q).version ≡ 0
  pub applied : w.applied 0 ≡ 0
  pub written : (v : ℕ) → 0 < v → v ≤ w.newest → 0 < w.writer v
