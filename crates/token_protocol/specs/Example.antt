-- One run of two clients (1 and 2) and the cleaner (member 0, whose copies stand in log 3), moment by moment: a write, a Recall, a read of a place, a
-- crash with the tail in flight, a takeover, a return that adopts the tail, the cleaner's copy, a crash with nothing in flight, a return that
-- discards.
use Rattle.std.specs.Prelude.{ℕ, ◌==◌, true, false, if◌then◌else◌, List, [], ◌∷◌}
use Rattle.token_protocol.specs.Entry.{Entry, no_entry}
use Rattle.token_protocol.specs.Packets.{Want, Offer, Recall, Gave, Report}
use Rattle.token_protocol.specs.World.{World, start}
use Rattle.token_protocol.specs.Asking.{asks}
use Rattle.token_protocol.specs.Managing.{offers, recalls, notes, applies}
use Rattle.token_protocol.specs.Taking.{writes_first, takes_place, fetches}
use Rattle.token_protocol.specs.Using.{reads}
use Rattle.token_protocol.specs.Giving.{gives}
use Rattle.token_protocol.specs.Logging.{seals_with, settles}
use Rattle.token_protocol.specs.Crashing.{crashes_dirty, restarts_adopting, restarts_discarding}
use Rattle.token_protocol.specs.Takeover.{promises, reports, activates}
use Rattle.token_protocol.specs.Cleaning.{seals_copy, settles_copy}
use Rattle.token_protocol.specs.Kind.{Kind}
use Rattle.token_protocol.specs.Acts.{Act}
use Rattle.token_protocol.specs.Acts.Act.{Wrote, Read, Fell, Back}

-- Client 1 asks to own, is offered it, and writes 7.
abbrev pub first_want : Want
first_want = record { client = 1; incarnation = 1; request = 1; mode = 2; end = 0 }

abbrev pub first_offer : Offer
first_offer = record { client = 1; stamp = 1; incarnation = 1; request = 1; mode = 2; entry = no_entry }

abbrev pub moment1 : World
moment1 = asks (start 3) 1 2 1 0

abbrev pub moment2 : World
moment2 = offers moment1 first_want

abbrev pub moment3 : World
moment3 = writes_first moment2 first_offer 7

-- Client 2 asks for a copy: the manager recalls, client 1 seals, settles and gives, and its log is applied.
abbrev pub copy_want : Want
copy_want = record { client = 2; incarnation = 1; request = 1; mode = 1; end = 0 }

abbrev pub first_recall : Recall
first_recall = record { client = 1; stamp = 2; keep = 1 }

abbrev pub first_gave : Gave
first_gave = record { client = 1; stamp = 2; end = 1 }

abbrev pub first_entry : Entry
first_entry = record { version = 1; hop = 0; placed = 1; log = 1; segment = 1 }

abbrev pub moment4 : World
moment4 = asks moment3 2 1 1 0

abbrev pub moment5 : World
moment5 = recalls moment4 1 1

abbrev pub moment6 : World
moment6 = seals_with moment5 1

abbrev pub moment7 : World
moment7 = settles moment6 1

abbrev pub moment8 : World
moment8 = gives moment7 first_recall 1

abbrev pub moment9 : World
moment9 = notes moment8 first_gave

abbrev pub moment10 : World
moment10 = applies moment9 1 1 first_entry

-- Client 2 is offered the place, reads it, and reads 7.
abbrev pub copy_offer : Offer
copy_offer = record { client = 2; stamp = 3; incarnation = 1; request = 1; mode = 1; entry = first_entry }

abbrev pub moment11 : World
moment11 = offers moment10 copy_want

abbrev pub moment12 : World
moment12 = takes_place moment11 copy_offer

abbrev pub moment13 : World
moment13 = fetches moment12 2 7

abbrev pub moment14 : World
moment14 = reads moment13 2

-- Client 1 asks to own again: client 2 gives its copy up, and client 1 writes 8.
abbrev pub second_want : Want
second_want = record { client = 1; incarnation = 1; request = 2; mode = 2; end = 1 }

abbrev pub second_recall : Recall
second_recall = record { client = 2; stamp = 4; keep = 0 }

abbrev pub second_gave : Gave
second_gave = record { client = 2; stamp = 4; end = 0 }

abbrev pub second_offer : Offer
second_offer = record { client = 1; stamp = 5; incarnation = 1; request = 2; mode = 2; entry = first_entry }

abbrev pub moment15 : World
moment15 = asks moment14 1 2 2 1

abbrev pub moment16 : World
moment16 = recalls moment15 2 0

abbrev pub moment17 : World
moment17 = gives moment16 second_recall 0

abbrev pub moment18 : World
moment18 = notes moment17 second_gave

abbrev pub moment19 : World
moment19 = offers moment18 second_want

abbrev pub moment20 : World
moment20 = writes_first moment19 second_offer 8

-- Client 1 falls with 8 in flight, and returns with its tail adopted.
abbrev pub moment21 : World
moment21 = seals_with moment20 1

abbrev pub moment22 : World
moment22 = crashes_dirty moment21 1

abbrev pub moment23 : World
moment23 = restarts_adopting moment22 1 2 1

-- Both clients promise epoch 2 and report, and a manager becomes active at it.
abbrev pub moment24 : World
moment24 = promises moment23 1 2

abbrev pub moment25 : World
moment25 = reports moment24 1 2

abbrev pub moment26 : World
moment26 = promises moment25 2 2

abbrev pub moment27 : World
moment27 = reports moment26 2 0

abbrev pub second_entry : Entry
second_entry = record { version = 2; hop = 0; placed = 1; log = 1; segment = 2 }

abbrev pub moment28 : World
moment28 = promises moment27 0 2

abbrev pub moment29 : World
moment29 = reports moment28 0 0

abbrev pub report_of : ℕ → Report
report_of c = record { client = c; epoch = 2; mode = 0; end = if c == 1 then 2 else 0 }

abbrev pub applied_to : ℕ → ℕ
applied_to c = if c == 1 then 2 else 0

abbrev pub moment30 : World
moment30 = activates moment29 2 report_of applied_to second_entry

-- The cleaner copies the row of 8 into its own log.
abbrev pub moment31 : World
moment31 = seals_copy moment30 3 1 2

abbrev pub moment32 : World
moment32 = settles_copy moment31 3

-- Client 1 owns again, writes 9, falls with nothing in flight, and returns: its 9 is lost, and 8 is the newest version.
abbrev pub third_want : Want
third_want = record { client = 1; incarnation = 2; request = 1; mode = 2; end = 2 }

abbrev pub third_offer : Offer
third_offer = record { client = 1; stamp = 1; incarnation = 2; request = 1; mode = 2; entry = second_entry }

abbrev pub moment33 : World
moment33 = asks moment32 1 2 1 2

abbrev pub moment34 : World
moment34 = offers moment33 third_want

abbrev pub moment35 : World
moment35 = writes_first moment34 third_offer 9

abbrev pub moment36 : World
moment36 = crashes_dirty moment35 1

abbrev pub moment37 : World
moment37 = restarts_discarding moment36 1 3 2

-- What the run tells, oldest act first.
abbrev pub example_acts : List Act
example_acts = Wrote 1 7 ∷ Read 2 1 7 ∷ Wrote 1 8 ∷ Fell 1 1 2 ∷ Back 1 true ∷ Wrote 1 9 ∷ Fell 1 2 2 ∷ Back 1 false ∷ []

-- The kinds of its steps, oldest first.
abbrev pub example_kinds : List Kind
example_kinds =
    Kind.Asks ∷ Kind.Offers ∷ Kind.WritesFirst ∷ Kind.Asks ∷ Kind.Recalls ∷ Kind.SealsWith ∷ Kind.Settles ∷ Kind.Gives ∷ Kind.Notes ∷ Kind.Applies
    ∷ Kind.Offers ∷ Kind.TakesPlace ∷ Kind.Fetches ∷ Kind.Reads ∷ Kind.Asks ∷ Kind.Recalls ∷ Kind.Gives ∷ Kind.Notes ∷ Kind.Offers ∷ Kind.WritesFirst
    ∷ Kind.SealsWith ∷ Kind.CrashesDirty ∷ Kind.RestartsAdopting ∷ Kind.Promises ∷ Kind.Reports ∷ Kind.Promises ∷ Kind.Reports ∷ Kind.Promises
    ∷ Kind.Reports ∷ Kind.Activates ∷ Kind.SealsCopy ∷ Kind.SettlesCopy ∷ Kind.Asks ∷ Kind.Offers ∷ Kind.WritesFirst ∷ Kind.CrashesDirty
    ∷ Kind.RestartsDiscarding ∷ []
