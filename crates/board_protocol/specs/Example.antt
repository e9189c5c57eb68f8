-- One run of the three boards, moment by moment: each kind of step is taken. Ballots go in turns: 1 is of board 0, 2 of board 1, 3 of board 2, 4 of board 0.
use Rattle.std.specs.Prelude.{ℕ, ◌-◌, ◌%◌, [], ◌∷◌}
use Rattle.board_protocol.specs.Packets.{Prepare, Promised, Install, Append, Accepted}
use Rattle.board_protocol.specs.World.{World, start}
use Rattle.board_protocol.specs.Leading.{offers, extends, sends_install, sends_append, prepares, leads_with, leads_again, hears, stops, starts}
use Rattle.board_protocol.specs.Following.{promises, installs, installs_again, appends, appends_again}

abbrev pub turns : ℕ → ℕ
turns b = (b - 1) % 3

abbrev pub first_append : Append ℕ
first_append = record { ballot = 1; place = 0; command = 7 }

abbrev pub first_accepted : Accepted
first_accepted = record { from = 1; ballot = 1; length = 1 }

abbrev pub first_prepare : Prepare
first_prepare = record { ballot = 2 }

abbrev pub first_promised : Promised ℕ
first_promised = record { from = 2; ballot = 2; last = 1; list = [] }

abbrev pub first_install : Install ℕ
first_install = record { ballot = 2; list = 7 ∷ [] }

abbrev pub second_prepare : Prepare
second_prepare = record { ballot = 4 }

abbrev pub second_promised : Promised ℕ
second_promised = record { from = 2; ballot = 4; last = 2; list = 7 ∷ [] }

-- Board 0 leads ballot 1: it is offered 7, appends it, and board 1 accepts it, so it is chosen and applied. A tick, 9, follows.
abbrev pub moment1 : World ℕ
moment1 = offers (start turns) 0 7

abbrev pub moment2 : World ℕ
moment2 = extends moment1 0 7

abbrev pub moment3 : World ℕ
moment3 = appends moment2 1 7

abbrev pub moment4 : World ℕ
moment4 = appends_again moment3 1

abbrev pub moment5 : World ℕ
moment5 = hears moment4 0 first_accepted []

abbrev pub moment6 : World ℕ
moment6 = extends moment5 0 9

abbrev pub moment7 : World ℕ
moment7 = sends_append moment6 0 0 7

-- Board 1 is offered 8, prepares ballot 2, and leads it with its own list after the answer of board 2, which installs it.
abbrev pub moment8 : World ℕ
moment8 = offers moment7 1 8

abbrev pub moment9 : World ℕ
moment9 = prepares moment8 1 2

abbrev pub moment10 : World ℕ
moment10 = promises moment9 2 2

abbrev pub moment11 : World ℕ
moment11 = leads_with moment10 1 2 (moment10.board 1).list

abbrev pub moment12 : World ℕ
moment12 = sends_install moment11 1

abbrev pub moment13 : World ℕ
moment13 = installs moment12 2 first_install

abbrev pub moment14 : World ℕ
moment14 = installs_again moment13 2 first_install

-- Board 1 stops and starts, and leads its ballot again by the same answer.
abbrev pub moment15 : World ℕ
moment15 = stops moment14 1

abbrev pub moment16 : World ℕ
moment16 = starts moment15 1

abbrev pub moment17 : World ℕ
moment17 = leads_again moment16 1

-- Board 0 stops and starts, prepares ballot 4, and leads it with the list of board 2, which is shorter than its own: what was chosen is in it, the tick is not.
abbrev pub moment18 : World ℕ
moment18 = stops moment17 0

abbrev pub moment19 : World ℕ
moment19 = starts moment18 0

abbrev pub moment20 : World ℕ
moment20 = offers moment19 0 5

abbrev pub moment21 : World ℕ
moment21 = prepares moment20 0 4

abbrev pub moment22 : World ℕ
moment22 = promises moment21 2 4

abbrev pub moment23 : World ℕ
moment23 = leads_with moment22 0 4 second_promised.list
