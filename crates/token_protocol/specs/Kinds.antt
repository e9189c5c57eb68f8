-- Which kinds of steps a run takes.
use Rattle.std.specs.Prelude.{Bool, List, [], ◌∷◌}
use Rattle.token_protocol.specs.World.{World}
use Rattle.token_protocol.specs.Kind.{Kind}
use Rattle.token_protocol.specs.Step.{Step, Steps}
use Rattle.token_protocol.specs.Step.Step.{Asks, AsksAgain, DropsWant, DropsFetch, Offers, Recalls, WritesFirst, Declines, TakesAbsent, TakesSupply, TakesPlace, Fetches, Writes, Reads, Syncs, Evicts, Gives, GivesAgain, Notes, Applies, Turns, SealsWith, Seals, Settles, CrashesDirty, CrashesClean, RestartsAdopting, RestartsDiscarding, Promises, Reports, Activates, SealsCopy, SealsOther, SettlesCopy, DiscardsCopy, Loses}
use Rattle.token_protocol.specs.Step.Steps.{Done, More}

abbrev pub kind_of : {logs : Bool} {w v : World} → Step logs w v → Kind
kind_of (Asks c mode request end may settled) = Kind.Asks
kind_of (AsksAgain c end may settled) = Kind.AsksAgain
kind_of (DropsWant c) = Kind.DropsWant
kind_of (DropsFetch c) = Kind.DropsFetch
kind_of (Offers p may applied) = Kind.Offers
kind_of (Recalls c keep may) = Kind.Recalls
kind_of (WritesFirst g value may) = Kind.WritesFirst
kind_of (Declines g may) = Kind.Declines
kind_of (TakesAbsent g may absent) = Kind.TakesAbsent
kind_of (TakesSupply g value may supplied) = Kind.TakesSupply
kind_of (TakesPlace g may placed) = Kind.TakesPlace
kind_of (Fetches c value may read) = Kind.Fetches
kind_of (Writes c value may) = Kind.Writes
kind_of (Reads c may) = Kind.Reads
kind_of (Syncs c version may) = Kind.Syncs
kind_of (Evicts c may) = Kind.Evicts
kind_of (Gives r end may settled) = Kind.Gives
kind_of (GivesAgain r end may settled) = Kind.GivesAgain
kind_of (Notes x may) = Kind.Notes
kind_of (Applies c upto e may covers) = Kind.Applies
kind_of Turns = Kind.Turns
kind_of (SealsWith c may) = Kind.SealsWith
kind_of (Seals c may) = Kind.Seals
kind_of (Settles c may flying) = Kind.Settles
kind_of (CrashesDirty c may) = Kind.CrashesDirty
kind_of (CrashesClean c may) = Kind.CrashesClean
kind_of (RestartsAdopting c incarnation promised may adopted) = Kind.RestartsAdopting
kind_of (RestartsDiscarding c incarnation promised may) = Kind.RestartsDiscarding
kind_of (Promises c epoch may) = Kind.Promises
kind_of (Reports c end may settled) = Kind.Reports
kind_of (Activates epoch report applied e may gathered) = Kind.Activates
kind_of (SealsCopy c log segment may filed) = Kind.SealsCopy
kind_of (SealsOther c may) = Kind.SealsOther
kind_of (SettlesCopy c may) = Kind.SettlesCopy
kind_of (DiscardsCopy c may) = Kind.DiscardsCopy
kind_of (Loses x untrusted) = Kind.Loses

-- The kinds of a run's steps, oldest first, and then the rest.
abbrev pub kinds_then : {logs : Bool} {w v : World} → Steps logs w v → List Kind → List Kind
kinds_then Done rest = rest
kinds_then (More steps step) rest = kinds_then steps (kind_of step ∷ rest)

abbrev pub kinds : {logs : Bool} {w v : World} → Steps logs w v → List Kind
kinds steps = kinds_then steps []
