-- The example run, step by step: every guard of these steps can be met.
use Rattle.std.proofs.Common.{ℕ, zero, suc, List, [], ◌∷◌, drop, inl, inr, refl, arith}
use Rattle.board_protocol.specs.Basics.{In, Without}
use Rattle.board_protocol.specs.Basics.Without.{Ends, Goes}
use Rattle.board_protocol.specs.Leading.{done_then}
use Rattle.board_protocol.specs.Leading.Wants.{Waits}
use Rattle.board_protocol.specs.World.{start}
use Rattle.board_protocol.specs.Kind.{Kind}
use Rattle.board_protocol.specs.Kinds.{kinds, TakesEach}
use Rattle.board_protocol.specs.Step.{Step, Steps}
use Rattle.board_protocol.specs.Step.Step.{Offers, Extends, Ticks, SendsInstall, SendsAppend, Prepares, Promises, LeadsWithOwn, LeadsWithTheirs, LeadsAgain, Installs, InstallsAgain, Appends, AppendsAgain, Hears, Stops, Starts}
use Rattle.board_protocol.specs.Step.Steps.{Done, More}
use Rattle.board_protocol.specs.Example.{turns, first_append, first_accepted, first_prepare, first_promised, first_install, second_prepare, second_promised, moment1, moment2, moment3, moment4, moment5, moment6, moment7, moment8, moment9, moment10, moment11, moment12, moment13, moment14, moment15, moment16, moment17, moment18, moment19, moment20, moment21, moment22, moment23}

pub eight_not_seven : In {X = ℕ} 8 (7 ∷ []) → ⊥
eight_not_seven (inl e) = absurd (omega arith)
eight_not_seven (inr k) = k

pub five_not_there : In {X = ℕ} 5 (7 ∷ 9 ∷ []) → ⊥
five_not_there (inl e) = absurd (omega arith)
five_not_there (inr (inl e)) = absurd (omega arith)
five_not_there (inr (inr k)) = k

abbrev pub step1 : Step (start turns) moment1
step1 = Offers 0 7 refl

abbrev pub step2 : Step moment1 moment2
step2 = Extends 0 7 (record { extend = record { up = refl; leads = refl; whole = refl }; waiting = inl refl; new = λ k. k })

abbrev pub step3 : Step moment2 moment3
step3 = Appends 1 first_append (record { take = record { sent = inl refl; up = refl; promised = refl; ballot = refl }; next = refl })

abbrev pub step4 : Step moment3 moment4
step4 = AppendsAgain 1 first_append (record { take = record { sent = inl refl; up = refl; promised = refl; ballot = refl }; had = grind arith })

-- The chosen command leaves waiting.
pub leaves : Without (done_then (moment4.board 0) first_accepted) (moment4.board 0).waiting []
leaves = Goes {x = 7} (inl refl) Ends

abbrev pub step5 : Step moment4 moment5
step5 = Hears 0 first_accepted [] (record { sent = inl refl; up = refl; leads = refl; ballot = refl; other = grind arith; another = λ e. absurd (omega arith) }) leaves

abbrev pub step6 : Step moment5 moment6
step6 = Ticks 0 9 (record { up = refl; leads = refl; whole = refl })

abbrev pub step7 : Step moment6 moment7
step7 = SendsAppend 0 2 0 7 (record { up = refl; leads = refl; known = refl; behind = grind arith; command = refl })

abbrev pub step8 : Step moment7 moment8
step8 = Offers 1 8 refl

abbrev pub step9 : Step moment8 moment9
step9 = Prepares 1 2 (record { up = refl; follows = refl; reason = Waits 8 (inl refl) (λ k. eight_not_seven k); own = refl; higher = grind arith })

abbrev pub step10 : Step moment9 moment10
step10 = Promises 2 first_prepare (record { sent = inl refl; up = refl; least = grind arith })

abbrev pub step11 : Step moment10 moment11
step11 = LeadsWithOwn 1 first_promised (record { lead = record { sent = inl refl; up = refl; follows = refl; own = refl; promised = refl; board = grind arith; other = grind arith; apart = λ e. absurd (omega arith) }; below = grind arith; least = inr (refl, grind arith) })

abbrev pub step12 : Step moment11 moment12
step12 = SendsInstall 1 0 (record { up = refl; leads = refl; none = refl })

abbrev pub step13 : Step moment12 moment13
step13 = Installs 2 first_install (record { take = record { sent = inl refl; up = refl; kept = grind arith }; above = grind arith })

abbrev pub step14 : Step moment13 moment14
step14 = InstallsAgain 2 first_install (record { take = record { sent = inl refl; up = refl; kept = grind arith }; same = refl })

abbrev pub step15 : Step moment14 moment15
step15 = Stops 1

abbrev pub step16 : Step moment15 moment16
step16 = Starts 1

abbrev pub step17 : Step moment16 moment17
step17 = LeadsAgain 1 first_promised (record { lead = record { sent = inl refl; up = refl; follows = refl; own = refl; promised = refl; board = grind arith; other = grind arith; apart = λ e. absurd (omega arith) }; same = refl })

abbrev pub step18 : Step moment17 moment18
step18 = Stops 0

abbrev pub step19 : Step moment18 moment19
step19 = Starts 0

abbrev pub step20 : Step moment19 moment20
step20 = Offers 0 5 refl

abbrev pub step21 : Step moment20 moment21
step21 = Prepares 0 4 (record { up = refl; follows = refl; reason = Waits 5 (inl refl) (λ k. five_not_there k); own = refl; higher = grind arith })

abbrev pub step22 : Step moment21 moment22
step22 = Promises 2 second_prepare (record { sent = inl refl; up = refl; least = grind arith })

abbrev pub step23 : Step moment22 moment23
step23 = LeadsWithTheirs 0 second_promised (record { lead = record { sent = inl refl; up = refl; follows = refl; own = refl; promised = refl; board = grind arith; other = grind arith; apart = λ e. absurd (omega arith) }; greater = inl (grind arith) })

abbrev pub early : Steps (start turns) moment12
early = More (More (More (More (More (More (More (More (More (More (More (More Done step1) step2) step3) step4) step5) step6) step7) step8) step9) step10) step11) step12

abbrev pub run : Steps (start turns) moment23
run = More (More (More (More (More (More (More (More (More (More (More early step13) step14) step15) step16) step17) step18) step19) step20) step21) step22) step23

-- A thing at this place of a list is in it.
listed : {X : Type 0} (n : ℕ) (x : X) (xs : List X) → In x (drop n xs) → In x xs
listed zero x xs l = l
listed (suc n) x [] l = absurd l
listed (suc n) x (y ∷ ys) l = inr (listed n x ys l)

-- Each kind stands in the run, at the place that is named here.
pub takes_each : TakesEach run
takes_each Kind.Offers = listed 0 Kind.Offers (kinds run) (inl refl)
takes_each Kind.Extends = listed 1 Kind.Extends (kinds run) (inl refl)
takes_each Kind.Ticks = listed 5 Kind.Ticks (kinds run) (inl refl)
takes_each Kind.SendsInstall = listed 11 Kind.SendsInstall (kinds run) (inl refl)
takes_each Kind.SendsAppend = listed 6 Kind.SendsAppend (kinds run) (inl refl)
takes_each Kind.Prepares = listed 8 Kind.Prepares (kinds run) (inl refl)
takes_each Kind.Promises = listed 9 Kind.Promises (kinds run) (inl refl)
takes_each Kind.LeadsWithOwn = listed 10 Kind.LeadsWithOwn (kinds run) (inl refl)
takes_each Kind.LeadsWithTheirs = listed 22 Kind.LeadsWithTheirs (kinds run) (inl refl)
takes_each Kind.LeadsAgain = listed 16 Kind.LeadsAgain (kinds run) (inl refl)
takes_each Kind.Installs = listed 12 Kind.Installs (kinds run) (inl refl)
takes_each Kind.InstallsAgain = listed 13 Kind.InstallsAgain (kinds run) (inl refl)
takes_each Kind.Appends = listed 2 Kind.Appends (kinds run) (inl refl)
takes_each Kind.AppendsAgain = listed 3 Kind.AppendsAgain (kinds run) (inl refl)
takes_each Kind.Hears = listed 4 Kind.Hears (kinds run) (inl refl)
takes_each Kind.Stops = listed 14 Kind.Stops (kinds run) (inl refl)
takes_each Kind.Starts = listed 15 Kind.Starts (kinds run) (inl refl)
