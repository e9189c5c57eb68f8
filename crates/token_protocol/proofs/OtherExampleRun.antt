-- The second example run, step by step.
use Rattle.std.proofs.Common.{◌≡◌, inl, inr, refl, true, arith}
use Rattle.std.proofs.lemmas.Bool.Decides.{nat_tests}
use Rattle.token_protocol.specs.World.{start}
use Rattle.token_protocol.proofs.AcceptedOffers.{accepts}
use Rattle.token_protocol.specs.Told.{told}
use Rattle.token_protocol.specs.Kinds.{kinds}
use Rattle.token_protocol.specs.Step.{Step, Steps}
use Rattle.token_protocol.specs.Step.Step.{Applies, Asks, AsksAgain, CrashesClean, Declines, DiscardsCopy, DropsFetch, DropsWant, Evicts, Gives, GivesAgain, Notes, Offers, Reads, Recalls, Seals, SealsOther, SealsWith, Settles, SettlesCopy, Syncs, TakesAbsent, TakesSupply, Turns, Writes, WritesFirst}
use Rattle.token_protocol.specs.Step.Steps.{Done, More}
use Rattle.token_protocol.specs.OtherExample.{absent_want, absent_offer, early_recall, early_gave, declined_want, declined_offer, later_want, later_offer, later_recall, later_gave, later_entry, supplied_want, supplied_offer, other_acts, other_kinds, other_moment1, other_moment2, other_moment3, other_moment4, other_moment5, other_moment6, other_moment7, other_moment8, other_moment9, other_moment10, other_moment11, other_moment12, other_moment13, other_moment14, other_moment15, other_moment16, other_moment17, other_moment18, other_moment19, other_moment20, other_moment21, other_moment22, other_moment23, other_moment24, other_moment25, other_moment26, other_moment27, other_moment28, other_moment29, other_moment30, other_moment31, other_moment32, other_moment33, other_moment34, other_moment35, other_moment36}

abbrev pub other_step1 : Step true (start 3) other_moment1
other_step1 =
    Asks 2 1 1 0 (record { client = grind arith; serving = refl; some = grind arith; upto_own = grind arith; less = grind arith; unused = grind arith })
    (record { last_filed = refl })

abbrev pub other_step2 : Step true other_moment1 other_moment2
other_step2 = AsksAgain 2 0 (record { open_want = grind arith }) (record { last_filed = refl })

abbrev pub other_step3 : Step true other_moment2 other_moment3
other_step3 = Offers absent_want (record { sent = inl refl; settled = refl; fits = λ d k. grind (arith, nat_tests) }) (record {
  asker = grind arith;
  givers = λ d. grind (arith, nat_tests);
})

abbrev pub other_step4 : Step true other_moment3 other_moment4
other_step4 = TakesAbsent absent_offer (accepts other_moment3 absent_offer 1 (inl refl) refl (grind arith) refl refl refl (grind arith) refl) (record { unplaced = refl })

abbrev pub other_step5 : Step true other_moment4 other_moment5
other_step5 = Reads 2 (record { holds = grind arith })

abbrev pub other_step6 : Step true other_moment5 other_moment6
other_step6 = Evicts 2 (record { victim = grind arith })

abbrev pub other_step7 : Step true other_moment6 other_moment7
other_step7 =
    Asks 1 2 1 0 (record { client = grind arith; serving = refl; some = grind arith; upto_own = grind arith; less = grind arith; unused = grind arith })
    (record { last_filed = refl })

abbrev pub other_step8 : Step true other_moment7 other_moment8
other_step8 = Recalls 2 0 (record { less = grind arith })

abbrev pub other_step9 : Step true other_moment8 other_moment9
other_step9 =
    Gives early_recall 0 (record { sent = inl refl; serving = refl; heard = refl; newer = grind arith; clean = grind arith }) (record { last_filed = refl })

abbrev pub other_step10 : Step true other_moment9 other_moment10
other_step10 = GivesAgain early_recall 0 (record { sent = inl refl; serving = refl; heard = refl; equal = refl }) (record { last_filed = refl })

abbrev pub other_step11 : Step true other_moment10 other_moment11
other_step11 = Notes early_gave (record { sent = inl refl; answers = refl })

abbrev pub other_step12 : Step true other_moment11 other_moment12
other_step12 = Turns

abbrev pub other_step13 : Step true other_moment12 other_moment13
other_step13 = Offers declined_want (record { sent = inl refl; settled = refl; fits = λ d k. grind (arith, nat_tests) }) (record {
  asker = grind arith;
  givers = λ d. grind (arith, nat_tests);
})

abbrev pub other_step14 : Step true other_moment13 other_moment14
other_step14 = Declines declined_offer (accepts other_moment13 declined_offer 2 (inl refl) refl (grind arith) refl refl refl (grind arith) refl)

abbrev pub other_step15 : Step true other_moment14 other_moment15
other_step15 =
    Asks 1 2 2 0 (record { client = grind arith; serving = refl; some = grind arith; upto_own = grind arith; less = grind arith; unused = grind arith })
    (record { last_filed = refl })

abbrev pub other_step16 : Step true other_moment15 other_moment16
other_step16 = Offers later_want (record { sent = inl refl; settled = refl; fits = λ d k. grind (arith, nat_tests) }) (record {
  asker = grind arith;
  givers = λ d. grind (arith, nat_tests);
})

abbrev pub other_step17 : Step true other_moment16 other_moment17
other_step17 = WritesFirst later_offer 5 (accepts other_moment16 later_offer 2 (inl refl) refl (grind arith) refl refl refl (grind arith) refl)

abbrev pub other_step18 : Step true other_moment17 other_moment18
other_step18 = Writes 1 6 (record { owns = refl })

abbrev pub other_step19 : Step true other_moment18 other_moment19
other_step19 = SealsWith 1 (record { dirty = grind arith })

abbrev pub other_step20 : Step true other_moment19 other_moment20
other_step20 = Settles 1 (record { serving = refl }) (record { in_flight = refl })

abbrev pub other_step21 : Step true other_moment20 other_moment21
other_step21 = Syncs 1 2 (record { serving = refl; clean = grind arith; known = grind arith; mine = refl })

abbrev pub other_step22 : Step true other_moment21 other_moment22
other_step22 =
    Asks 2 1 2 0 (record { client = grind arith; serving = refl; some = grind arith; upto_own = grind arith; less = grind arith; unused = grind arith })
    (record { last_filed = refl })

abbrev pub other_step23 : Step true other_moment22 other_moment23
other_step23 = Recalls 1 1 (record { less = grind arith })

abbrev pub other_step24 : Step true other_moment23 other_moment24
other_step24 =
    Gives later_recall 1 (record { sent = inl refl; serving = refl; heard = refl; newer = grind arith; clean = grind arith }) (record { last_filed = refl })

abbrev pub other_step25 : Step true other_moment24 other_moment25
other_step25 = Notes later_gave (record { sent = inl refl; answers = refl })

abbrev pub other_step26 : Step true other_moment25 other_moment26
other_step26 = Applies 1 1 later_entry (record { forward = grind arith }) (record {
  filed_end = grind arith;
  old = grind arith;
  rows = λ q k. grind (arith, nat_tests);
  source = inr (inr (1, 1, record { filed = grind arith; some = grind arith; row = refl; absent = λ k. absurd (omega arith); place = λ k. (refl, refl) }));
})

abbrev pub other_step27 : Step true other_moment26 other_moment27
other_step27 = Offers supplied_want (record { sent = inl refl; settled = refl; fits = λ d k. grind (arith, nat_tests) }) (record {
  asker = grind arith;
  givers = λ d. grind (arith, nat_tests);
})

abbrev pub other_step28 : Step true other_moment27 other_moment28
other_step28 = TakesSupply supplied_offer 6 (accepts other_moment27 supplied_offer 1 (inl refl) refl (grind arith) refl refl refl (grind arith) refl) (record { content = refl })

abbrev pub other_step29 : Step true other_moment28 other_moment29
other_step29 =
    Asks 2 2 3 0 (record { client = grind arith; serving = refl; some = grind arith; upto_own = grind arith; less = grind arith; unused = grind arith })
    (record { last_filed = refl })

abbrev pub other_step30 : Step true other_moment29 other_moment30
other_step30 = DropsWant 2

abbrev pub other_step31 : Step true other_moment30 other_moment31
other_step31 = DropsFetch 2

abbrev pub other_step32 : Step true other_moment31 other_moment32
other_step32 = CrashesClean 2 (record { clean = grind arith })

abbrev pub other_step33 : Step true other_moment32 other_moment33
other_step33 = Seals 1 (record { client = grind arith; serving = refl; none = refl })

abbrev pub other_step34 : Step true other_moment33 other_moment34
other_step34 = SealsOther 3 (record { outsider = grind arith; none = refl })

abbrev pub other_step35 : Step true other_moment34 other_moment35
other_step35 = SettlesCopy 3 (record { outsider = grind arith; flying = refl })

abbrev pub other_step36 : Step true other_moment35 other_moment36
other_step36 = DiscardsCopy 3 (record { outsider = grind arith })

abbrev pub other_absent : Steps true (start 3) other_moment6
other_absent = More (More (More (More (More (More Done other_step1) other_step2) other_step3) other_step4) other_step5) other_step6

abbrev pub other_declined : Steps true (start 3) other_moment14
other_declined = More (More (More (More (More (More (More
    (More other_absent other_step7) other_step8) other_step9) other_step10) other_step11) other_step12) other_step13) other_step14

abbrev pub other_synced : Steps true (start 3) other_moment21
other_synced =
    More (More (More (More (More (More (More other_declined other_step15) other_step16) other_step17) other_step18) other_step19) other_step20) other_step21

abbrev pub other_supplied : Steps true (start 3) other_moment28
other_supplied =
    More (More (More (More (More (More (More other_synced other_step22) other_step23) other_step24) other_step25) other_step26) other_step27) other_step28

abbrev pub other_run : Steps true (start 3) other_moment36
other_run = More (More (More (More (More (More (More
    (More other_supplied other_step29) other_step30) other_step31) other_step32) other_step33) other_step34) other_step35) other_step36

-- It tells the acts of the example.
pub other_tells_acts : told (start 3) other_moment36 other_run ≡ other_acts
other_tells_acts = refl

-- It takes these kinds of steps.
pub other_takes_kinds : kinds other_run ≡ other_kinds
other_takes_kinds = refl
