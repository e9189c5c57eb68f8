-- What holds of the small world in every run, whichever managers follow each other: each law speaks of a block of the slot and of the clients' tokens.
use Rattle.std.specs.Prelude.{◌≡◌, ℕ, suc, ◌<◌, ◌≤◌, Bool, true, false, List, Some, length, slice_get}
use Rattle.xfs_base.specs.declared.block.BlockId.{BlockId}
use Rattle.xfs_base.specs.declared.entry.Entry.{Entry}
use Rattle.xfs_base.specs.declared.token.Mode.{Mode}
use Rattle.xfs_base.specs.declared.token.Stamp.{Stamp}
use Rattle.xfs_base.specs.Modes.{is_held, is_own, mode_number}
use Rattle.slot_beliefs.specs.Beliefs.{share_of}
use Rattle.token_client.specs.Held.{is_dirty}
use Rattle.token_client.specs.State.{held_of, epoch_of, is_in_slot}
use Rattle.token_client.specs.Transition.{accepts}
use Rattle.token_manager.specs.SlotState.{SlotState}
use Rattle.token_protocol.specs.Basics.{In}
use Rattle.act_tie.specs.BlockActs.{acts_of}
use Rattle.version_model.specs.Falls.{FallsApart}
use Rattle.token_protocol.specs.Acts.{LegalActs}
use Rattle.version_model.specs.declared.history.Version.{Version}
use Rattle.version_model.specs.Effects.{history_after}
use Rattle.version_model.specs.History.{nothing_yet}
use Rattle.token_law.specs.Books.{said}
use Rattle.token_law.specs.Net.{Net, Runs, opening}
use Rattle.token_law.specs.Net.Packet.{GrantSent}

-- a moment of a run, and a block of the slot
pub record Moment (logs : Bool) (members part : ℕ) (n : Net) (b : BlockId) : Type 0 where
  pub run : Runs logs members part opening n
  pub inside : is_in_slot part b ≡ true

-- one of the clients
pub record IsClient (members c : ℕ) : Type 0 where
  pub some : 0 < c
  pub within : c < members

-- the manager that reigns is the slot of the greatest epoch
pub record Reigns (n : Net) (e : ℕ) (s : SlotState) : Type 0 where
  pub active : n.slots e ≡ Some s
  pub latest : (k : ℕ) (z : SlotState) → n.slots k ≡ Some z → k ≤ e

-- Where one client's tokens own a block, no other client's tokens hold it.
abbrev pub OneOwner : Type 0
OneOwner =
    (logs : Bool) (members part : ℕ) (n : Net) (b : BlockId) → Moment logs members part n b → (c d : ℕ) → IsClient members c → IsClient members d
    → n.up c ≡ true → n.up d ≡ true
    → is_own (held_of (n.tokens c).blocks b).mode ≡ true → is_held (held_of (n.tokens d).blocks b).mode ≡ true → c ≡ d

-- A manager is active only at an epoch that every client has promised, also one that is down.
abbrev pub ActiveEpochsPromised : Type 0
ActiveEpochsPromised =
    (logs : Bool) (members part : ℕ) (n : Net) (b : BlockId) → Moment logs members part n b → (e : ℕ) (s : SlotState) → n.slots e ≡ Some s → (c : ℕ)
    → IsClient members c
    → e ≤ epoch_of (n.tokens c).epochs part

-- The manager that reigns believes of each client at least what it holds.
abbrev pub HoldingsBelieved : Type 0
HoldingsBelieved =
    (logs : Bool) (members part : ℕ) (n : Net) (b : BlockId) → Moment logs members part n b → (e : ℕ) (s : SlotState) → Reigns n e s → (c : ℕ)
    → IsClient members c → n.up c ≡ true
    → mode_number (held_of (n.tokens c).blocks b).mode ≤ share_of s.beliefs b c

-- It believes of each client what any sent Grant would give that the client would still accept.
abbrev pub GrantsBelieved : Type 0
GrantsBelieved =
    (logs : Bool) (members part : ℕ) (n : Net) (b : BlockId) → Moment logs members part n b → (e : ℕ) (s : SlotState) → Reigns n e s → (c : ℕ)
    → IsClient members c → n.up c ≡ true
    → (stamp : Stamp) (inc req : ℕ) (mode : Mode) (entry : Entry) → In (GrantSent c b stamp inc req mode entry) n.sent
    → accepts (n.tokens c) b stamp inc req mode ≡ true → mode_number mode ≤ share_of s.beliefs b c

-- Between the fall of a client with the block dirty and its return, nobody holds the block.
abbrev pub NobodyHoldsAfterFall : Type 0
NobodyHoldsAfterFall =
    (logs : Bool) (members part : ℕ) (n : Net) (b : BlockId) → Moment logs members part n b → (c d : ℕ) → IsClient members c → IsClient members d
    → n.up c ≡ false
    → is_dirty (held_of (n.tokens c).blocks b) ≡ true → n.up d ≡ true
    → is_held (held_of (n.tokens d).blocks b).mode ≡ false

-- Where logs keep their word, the acts of each block of the slot are legal: each read is of the newest version, with its value, and each fall and return
-- goes to versions at or above what was synced or read elsewhere.
abbrev pub ActsAreLegal : Type 0
ActsAreLegal = (members part : ℕ) (n : Net) (b : BlockId) → Moment true members part n b → LegalActs (acts_of b n.acts)

-- No client falls again before it is back, and no fall names a block twice.
abbrev pub FallsAreApart : Type 0
FallsAreApart = (logs : Bool) (members part : ℕ) (n : Net) → Runs logs members part opening n → FallsApart n.acts

-- Where logs keep their word: what a client has in flight of a block of the slot, or had when it fell, is above all that any log has filed of the block.
abbrev pub FlightsAreNewer : Type 0
FlightsAreNewer =
    (members part : ℕ) (n : Net) (b : BlockId) → Moment true members part n b → (c : ℕ) → IsClient members c
    → 0 < (said n.books c (suc (n.books.end c)) b).version → (l q : ℕ) → q ≤ n.books.end l
    → (said n.books l q b).version < (said n.books c (suc (n.books.end c)) b).version

-- Where logs keep their word: what a sent Grant that the client would still accept tells of a block of the slot is at or above all that any log has filed
-- of the block.
abbrev pub GrantsAreOfTheNewest : Type 0
GrantsAreOfTheNewest =
    (members part : ℕ) (n : Net) (b : BlockId) → Moment true members part n b → (c : ℕ) → IsClient members c → n.up c ≡ true
    → (stamp : Stamp) (inc req : ℕ) (mode : Mode) (entry : Entry) → In (GrantSent c b stamp inc req mode entry) n.sent
    → accepts (n.tokens c) b stamp inc req mode ≡ true → (l q : ℕ) → q ≤ n.books.end l → (said n.books l q b).version ≤ entry.ver

-- the versions of a block that the acts made
abbrev pub versions_of : Net → BlockId → List Version
versions_of n b = ((history_after n.acts nothing_yet).of_block b).versions

-- No version of the block that a log has filed is above this one; and where it is above 0, a log has filed it.
pub record IsGreatestFiled (n : Net) (b : BlockId) (version : ℕ) : Type 0 where
  pub upper : (l q : ℕ) → q ≤ n.books.end l → (said n.books l q b).version ≤ version
  pub log : ℕ
  pub seq : ℕ
  pub filed : 0 < version → seq ≤ n.books.end log
  pub attained : 0 < version → (said n.books log seq b).version ≡ version

-- of a block that a client has dirty the greatest filed version is the one that the client knows as settled, its own is the newest, and all between are its
pub record Leads (n : Net) (b : BlockId) (c : ℕ) : Type 0 where
  pub settled : IsGreatestFiled n b (held_of (n.tokens c).blocks b).settled
  pub newest : (held_of (n.tokens c).blocks b).ver ≡ length (versions_of n b)
  pub own : (place : ℕ) (v : Version) → slice_get (versions_of n b) place ≡ Some v → (held_of (n.tokens c).blocks b).settled ≤ place → v.writer ≡ c

-- Where logs keep their word: so it is of each block of the slot that a client has dirty.
abbrev pub DirtyBlocksLead : Type 0
DirtyBlocksLead =
    (members part : ℕ) (n : Net) (b : BlockId) → Moment true members part n b → (c : ℕ) → IsClient members c → n.up c ≡ true
    → is_dirty (held_of (n.tokens c).blocks b) ≡ true → Leads n b c
