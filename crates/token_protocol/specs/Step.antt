-- What can happen to a block. Each step names its guard (a record of the file that its effect stands in), its premise on logs if it has one, and its effect.
-- Whatever is lost, repeated or reordered: a step may take any packet that was ever sent, and no step has to come.
use Rattle.std.specs.Prelude.{◌≡◌, ℕ, Bool, false}
use Rattle.token_protocol.specs.Entry.{Entry}
use Rattle.token_protocol.specs.Packets.{Want, Offer, Recall, Gave, Report}
use Rattle.token_protocol.specs.World.{World}
use Rattle.token_protocol.specs.Premises.{Premise, SettledEnd, SegmentFlying, IsSupplied, PlaceRead, TailAdopted, EndsApplied, IndexCovers, IndexGathered, OriginalFiled}
use Rattle.token_protocol.specs.Asking.{MayAsk, MayAskAgain, asks, asks_again, drops_want, drops_fetch}
use Rattle.token_protocol.specs.Managing.{MayOffer, MayRecall, MayNote, MayApply, offers, recalls, notes, applies, turns}
use Rattle.token_protocol.specs.Taking.{MayTake, IsAbsent, IsPlaced, MayFinish, writes_first, declines, takes_value, takes_place, fetches}
use Rattle.token_protocol.specs.Using.{MayWrite, MayRead, MaySync, MayEvict, writes, reads, syncs, evicts}
use Rattle.token_protocol.specs.Giving.{MayGive, MayGiveAgain, gives, gives_again}
use Rattle.token_protocol.specs.Logging.{MaySealWith, MaySeal, MaySettle, seals_with, seals, settles}
use Rattle.token_protocol.specs.Crashing.{MayCrashDirty, MayCrashClean, MayRestart, crashes_dirty, crashes_clean, restarts_adopting, restarts_discarding, loses}
use Rattle.token_protocol.specs.Takeover.{MayPromise, MayReport, MayActivate, promises, reports, activates}
use Rattle.token_protocol.specs.Cleaning.{MaySealCopy, MaySettleCopy, MayDiscardCopy, seals_copy, seals_other, settles_copy, discards_copy}

-- `logs` is true in a run whose logs keep their word, and false in one whose logs may lose what they held.
pub data Step (logs : Bool) : World → World → Type 0 where
  -- A client asks for a mode.
  Asks : {w : World} (c mode request end : ℕ) → MayAsk w c mode request → Premise logs (SettledEnd w c end) → Step logs w (asks w c mode request end)
  -- A client asks again.
  AsksAgain : {w : World} (c end : ℕ) → MayAskAgain w c → Premise logs (SettledEnd w c end) → Step logs w (asks_again w c end)
  -- A client lets its want go.
  DropsWant : {w : World} (c : ℕ) → Step logs w (drops_want w c)
  -- A client lets its fetch go.
  DropsFetch : {w : World} (c : ℕ) → Step logs w (drops_fetch w c)
  -- The manager offers what a want asked.
  Offers : {w : World} (p : Want) → MayOffer w p → Premise logs (EndsApplied w p) → Step logs w (offers w p)
  -- The manager recalls the block from a client.
  Recalls : {w : World} (c keep : ℕ) → MayRecall keep → Step logs w (recalls w c keep)
  -- A client that is offered to own writes.
  WritesFirst : {w : World} (g : Offer) (value : ℕ) → MayTake w g 2 → Step logs w (writes_first w g value)
  -- A client that is offered to own declines.
  Declines : {w : World} (g : Offer) → MayTake w g 2 → Step logs w (declines w g)
  -- A client takes a copy of an absent block.
  TakesAbsent : {w : World} (g : Offer) → MayTake w g 1 → IsAbsent g → Step logs w (takes_value w g 0)
  -- A client takes a copy that another client supplied.
  TakesSupply : {w : World} (g : Offer) (value : ℕ) → MayTake w g 1 → Premise logs (IsSupplied w g value) → Step logs w (takes_value w g value)
  -- A client takes a place, and begins to read it.
  TakesPlace : {w : World} (g : Offer) → MayTake w g 1 → IsPlaced g → Step logs w (takes_place w g)
  -- A read of the place ends.
  Fetches : {w : World} (c value : ℕ) → MayFinish w c → Premise logs (PlaceRead w c value) → Step logs w (fetches w c value)
  -- An owner writes.
  Writes : {w : World} (c value : ℕ) → MayWrite w c → Step logs w (writes w c value)
  -- A holder reads.
  Reads : {w : World} (c : ℕ) → MayRead w c → Step logs w (reads w c)
  -- A sync answers.
  Syncs : {w : World} (c version : ℕ) → MaySync w c version → Step logs w (syncs w version)
  -- The cache evicts the block.
  Evicts : {w : World} (c : ℕ) → MayEvict w c → Step logs w (evicts w c)
  -- A client gives the block up.
  Gives : {w : World} (r : Recall) (end : ℕ) → MayGive w r → Premise logs (SettledEnd w r.client end) → Step logs w (gives w r end)
  -- A client says again that it gave the block up.
  GivesAgain : {w : World} (r : Recall) (end : ℕ) → MayGiveAgain w r → Premise logs (SettledEnd w r.client end) → Step logs w (gives_again w r end)
  -- The manager notes that a client gave the block up.
  Notes : {w : World} (x : Gave) → MayNote w x → Step logs w (notes w x)
  -- The manager applies a log.
  Applies : {w : World} (c upto : ℕ) (e : Entry) → MayApply w c upto → Premise logs (IndexCovers w c upto e) → Step logs w (applies w c upto e)
  -- A turn passes.
  Turns : {w : World} → Step logs w (turns w)
  -- A client seals a segment with the block.
  SealsWith : {w : World} (c : ℕ) → MaySealWith w c → Step logs w (seals_with w c)
  -- A client seals a segment without the block.
  Seals : {w : World} (c : ℕ) → MaySeal w c → Step logs w (seals w c)
  -- A client's segment is filed.
  Settles : {w : World} (c : ℕ) → MaySettle w c → Premise logs (SegmentFlying w c) → Step logs w (settles w c)
  -- A client falls with the block dirty.
  CrashesDirty : {w : World} (c : ℕ) → MayCrashDirty w c → Step logs w (crashes_dirty w c)
  -- A client falls with the block clean.
  CrashesClean : {w : World} (c : ℕ) → MayCrashClean w c → Step logs w (crashes_clean w c)
  -- A client returns, and its tail is adopted.
  RestartsAdopting : {w : World} (c incarnation promised : ℕ) → MayRestart w c incarnation promised → Premise logs (TailAdopted w c)
      → Step logs w (restarts_adopting w c incarnation promised)
  -- A client returns, and its tail is discarded.
  RestartsDiscarding : {w : World} (c incarnation promised : ℕ) → MayRestart w c incarnation promised
      → Step logs w (restarts_discarding w c incarnation promised)
  -- A client promises a later epoch.
  Promises : {w : World} (c epoch : ℕ) → MayPromise w c epoch → Step logs w (promises w c epoch)
  -- A client reports what it holds.
  Reports : {w : World} (c end : ℕ) → MayReport w c → Premise logs (SettledEnd w c end) → Step logs w (reports w c end)
  -- A later manager becomes active.
  Activates : {w : World} (epoch : ℕ) (report : ℕ → Report) (applied : ℕ → ℕ) (e : Entry) → MayActivate w epoch report
      → Premise logs (IndexGathered w report applied e)
      → Step logs w (activates w epoch report applied e)
  -- A cleaner seals a copy of a row.
  SealsCopy : {w : World} (c log segment : ℕ) → MaySealCopy w c → Premise logs (OriginalFiled w log segment) → Step logs w (seals_copy w c log segment)
  -- A cleaner seals a segment without the block.
  SealsOther : {w : World} (c : ℕ) → MaySealCopy w c → Step logs w (seals_other w c)
  -- A cleaner's segment is filed.
  SettlesCopy : {w : World} (c : ℕ) → MaySettleCopy w c → Step logs w (settles_copy w c)
  -- A cleaner reopens its log without the tail.
  DiscardsCopy : {w : World} (c : ℕ) → MayDiscardCopy w c → Step logs w (discards_copy w c)
  -- Logs lose what they held.
  Loses : {w : World} (x : World) → logs ≡ false → Step logs w (loses w x)

-- Any list of steps, oldest first.
pub data Steps (logs : Bool) : World → World → Type 0 where
  Done : {w : World} → Steps logs w w
  More : {w v u : World} → Steps logs w v → Step logs v u → Steps logs w u
