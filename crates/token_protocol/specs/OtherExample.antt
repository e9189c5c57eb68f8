-- A second run of two clients (1 and 2) and the cleaner (member 0, whose copies stand in log 3), which takes the steps that the first does not:
-- repetitions, an absent block, a refused write, a Supply, a sync, an eviction, what is let go, a clean fall, segments without the block.
use Rattle.std.specs.Prelude.{List, [], ◌∷◌}
use Rattle.token_protocol.specs.Entry.{Entry, no_entry}
use Rattle.token_protocol.specs.Packets.{Want, Offer, Recall, Gave}
use Rattle.token_protocol.specs.World.{World, start}
use Rattle.token_protocol.specs.Asking.{asks, asks_again, drops_want, drops_fetch}
use Rattle.token_protocol.specs.Managing.{offers, recalls, notes, applies, turns}
use Rattle.token_protocol.specs.Taking.{writes_first, declines, takes_value}
use Rattle.token_protocol.specs.Using.{writes, reads, syncs, evicts}
use Rattle.token_protocol.specs.Giving.{gives, gives_again}
use Rattle.token_protocol.specs.Logging.{seals_with, seals, settles}
use Rattle.token_protocol.specs.Crashing.{crashes_clean}
use Rattle.token_protocol.specs.Cleaning.{seals_other, settles_copy, discards_copy}
use Rattle.token_protocol.specs.Kind.{Kind}
use Rattle.token_protocol.specs.Acts.{Act}
use Rattle.token_protocol.specs.Acts.Act.{Wrote, Read, Synced}

-- Client 2 asks for a copy, twice, and holds the absent block; it reads it and evicts it.
abbrev pub absent_want : Want
absent_want = record { client = 2; incarnation = 1; request = 1; mode = 1; end = 0 }

abbrev pub absent_offer : Offer
absent_offer = record { client = 2; stamp = 1; incarnation = 1; request = 1; mode = 1; entry = no_entry }

abbrev pub other_moment1 : World
other_moment1 = asks (start 3) 2 1 1 0

abbrev pub other_moment2 : World
other_moment2 = asks_again other_moment1 2 0

abbrev pub other_moment3 : World
other_moment3 = offers other_moment2 absent_want

abbrev pub other_moment4 : World
other_moment4 = takes_value other_moment3 absent_offer 0

abbrev pub other_moment5 : World
other_moment5 = reads other_moment4 2

abbrev pub other_moment6 : World
other_moment6 = evicts other_moment5 2

-- Client 1 asks to own: client 2 gives what it has evicted, and says so again; client 1 declines what it is offered.
abbrev pub early_recall : Recall
early_recall = record { client = 2; stamp = 2; keep = 0 }

abbrev pub early_gave : Gave
early_gave = record { client = 2; stamp = 2; end = 0 }

abbrev pub declined_want : Want
declined_want = record { client = 1; incarnation = 1; request = 1; mode = 2; end = 0 }

abbrev pub declined_offer : Offer
declined_offer = record { client = 1; stamp = 4; incarnation = 1; request = 1; mode = 2; entry = no_entry }

abbrev pub other_moment7 : World
other_moment7 = asks other_moment6 1 2 1 0

abbrev pub other_moment8 : World
other_moment8 = recalls other_moment7 2 0

abbrev pub other_moment9 : World
other_moment9 = gives other_moment8 early_recall 0

abbrev pub other_moment10 : World
other_moment10 = gives_again other_moment9 early_recall 0

abbrev pub other_moment11 : World
other_moment11 = notes other_moment10 early_gave

abbrev pub other_moment12 : World
other_moment12 = turns other_moment11

abbrev pub other_moment13 : World
other_moment13 = offers other_moment12 declined_want

abbrev pub other_moment14 : World
other_moment14 = declines other_moment13 declined_offer

-- It asks again, writes 5 and 6, seals, settles and syncs.
abbrev pub later_want : Want
later_want = record { client = 1; incarnation = 1; request = 2; mode = 2; end = 0 }

abbrev pub later_offer : Offer
later_offer = record { client = 1; stamp = 5; incarnation = 1; request = 2; mode = 2; entry = no_entry }

abbrev pub other_moment15 : World
other_moment15 = asks other_moment14 1 2 2 0

abbrev pub other_moment16 : World
other_moment16 = offers other_moment15 later_want

abbrev pub other_moment17 : World
other_moment17 = writes_first other_moment16 later_offer 5

abbrev pub other_moment18 : World
other_moment18 = writes other_moment17 1 6

abbrev pub other_moment19 : World
other_moment19 = seals_with other_moment18 1

abbrev pub other_moment20 : World
other_moment20 = settles other_moment19 1

abbrev pub other_moment21 : World
other_moment21 = syncs other_moment20 2

-- Client 2 asks for a copy and is supplied with 6.
abbrev pub later_recall : Recall
later_recall = record { client = 1; stamp = 6; keep = 1 }

abbrev pub later_gave : Gave
later_gave = record { client = 1; stamp = 6; end = 1 }

abbrev pub later_entry : Entry
later_entry = record { version = 2; hop = 0; placed = 1; log = 1; segment = 1 }

abbrev pub supplied_want : Want
supplied_want = record { client = 2; incarnation = 1; request = 2; mode = 1; end = 0 }

abbrev pub supplied_offer : Offer
supplied_offer = record { client = 2; stamp = 7; incarnation = 1; request = 2; mode = 1; entry = later_entry }

abbrev pub other_moment22 : World
other_moment22 = asks other_moment21 2 1 2 0

abbrev pub other_moment23 : World
other_moment23 = recalls other_moment22 1 1

abbrev pub other_moment24 : World
other_moment24 = gives other_moment23 later_recall 1

abbrev pub other_moment25 : World
other_moment25 = notes other_moment24 later_gave

abbrev pub other_moment26 : World
other_moment26 = applies other_moment25 1 1 later_entry

abbrev pub other_moment27 : World
other_moment27 = offers other_moment26 supplied_want

abbrev pub other_moment28 : World
other_moment28 = takes_value other_moment27 supplied_offer 6

-- It asks to own and lets that go, and falls with the block clean. Client 1 and the cleaner seal segments without the block; the cleaner reopens.
abbrev pub other_moment29 : World
other_moment29 = asks other_moment28 2 2 3 0

abbrev pub other_moment30 : World
other_moment30 = drops_want other_moment29 2

abbrev pub other_moment31 : World
other_moment31 = drops_fetch other_moment30 2

abbrev pub other_moment32 : World
other_moment32 = crashes_clean other_moment31 2

abbrev pub other_moment33 : World
other_moment33 = seals other_moment32 1

abbrev pub other_moment34 : World
other_moment34 = seals_other other_moment33 3

abbrev pub other_moment35 : World
other_moment35 = settles_copy other_moment34 3

abbrev pub other_moment36 : World
other_moment36 = discards_copy other_moment35 3

-- What the run tells, oldest act first.
abbrev pub other_acts : List Act
other_acts = Read 2 0 0 ∷ Wrote 1 5 ∷ Wrote 1 6 ∷ Synced 1 2 ∷ []

-- The kinds of its steps, oldest first.
abbrev pub other_kinds : List Kind
other_kinds =
    Kind.Asks ∷ Kind.AsksAgain ∷ Kind.Offers ∷ Kind.TakesAbsent ∷ Kind.Reads ∷ Kind.Evicts ∷ Kind.Asks ∷ Kind.Recalls ∷ Kind.Gives ∷ Kind.GivesAgain
    ∷ Kind.Notes ∷ Kind.Turns ∷ Kind.Offers ∷ Kind.Declines ∷ Kind.Asks ∷ Kind.Offers ∷ Kind.WritesFirst ∷ Kind.Writes ∷ Kind.SealsWith ∷ Kind.Settles
    ∷ Kind.Syncs ∷ Kind.Asks ∷ Kind.Recalls ∷ Kind.Gives ∷ Kind.Notes ∷ Kind.Applies ∷ Kind.Offers ∷ Kind.TakesSupply ∷ Kind.Asks ∷ Kind.DropsWant
    ∷ Kind.DropsFetch ∷ Kind.CrashesClean ∷ Kind.Seals ∷ Kind.SealsOther ∷ Kind.SettlesCopy ∷ Kind.DiscardsCopy ∷ []
