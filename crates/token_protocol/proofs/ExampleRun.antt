-- The example run, step by step: every premise of these steps can be met.
use Rattle.std.proofs.Common.{◌≡◌, ℕ, zero, suc, ◌<◌, inl, inr, refl, true, arith}
use Rattle.std.proofs.lemmas.Bool.Decides.{nat_tests}
use Rattle.token_protocol.specs.Basics.{In}
use Rattle.token_protocol.specs.World.{start}
use Rattle.token_protocol.proofs.AcceptedOffers.{accepts}
use Rattle.token_protocol.specs.Step.{Step, Steps}
use Rattle.token_protocol.specs.Step.Step.{Asks, Offers, Recalls, WritesFirst, TakesPlace, Fetches, Reads, Gives, Notes, Applies, SealsWith, Settles, CrashesDirty, RestartsAdopting, RestartsDiscarding, Promises, Reports, Activates, SealsCopy, SettlesCopy}
use Rattle.token_protocol.specs.Step.Steps.{Done, More}
use Rattle.token_protocol.specs.Example.{first_want, first_offer, copy_want, first_recall, first_gave, first_entry, copy_offer, second_want, second_recall, second_gave, second_offer, second_entry, report_of, applied_to, third_want, third_offer, example_acts, example_kinds, moment1, moment2, moment3, moment4, moment5, moment6, moment7, moment8, moment9, moment10, moment11, moment12, moment13, moment14, moment15, moment16, moment17, moment18, moment19, moment20, moment21, moment22, moment23, moment24, moment25, moment26, moment27, moment28, moment29, moment30, moment31, moment32, moment33, moment34, moment35, moment36, moment37}
use Rattle.token_protocol.specs.Told.{told}
use Rattle.token_protocol.specs.Kinds.{kinds}

-- All reports of epoch 2 were sent.
pub reported : (c : ℕ) → c < 3 → In (report_of c) moment29.reports
reported zero k = inl refl
reported (suc zero) k = inr (inr (inl refl))
reported (suc (suc zero)) k = inr (inl refl)
reported (suc (suc (suc c))) k = absurd (omega arith)

abbrev pub step1 : Step true (start 3) moment1
step1 = Asks 1 2 1 0 (record { client = grind arith; serving = refl; some = grind arith; upto_own = grind arith; less = grind arith; unused = grind arith })
    (record { last_filed = refl })

abbrev pub step2 : Step true moment1 moment2
step2 = Offers first_want (record { sent = inl refl; settled = refl; fits = λ d k. grind (arith, nat_tests) }) (record {
  asker = grind arith;
  givers = λ d. grind (
    arith,
    nat_tests,
  );
})

abbrev pub step3 : Step true moment2 moment3
step3 = WritesFirst first_offer 7 (accepts moment2 first_offer 2 (inl refl) refl (grind arith) refl refl refl (grind arith) refl)

abbrev pub step4 : Step true moment3 moment4
step4 = Asks 2 1 1 0 (record { client = grind arith; serving = refl; some = grind arith; upto_own = grind arith; less = grind arith; unused = grind arith })
    (record { last_filed = refl })

abbrev pub step5 : Step true moment4 moment5
step5 = Recalls 1 1 (record { less = grind arith })

abbrev pub step6 : Step true moment5 moment6
step6 = SealsWith 1 (record { dirty = grind arith })

abbrev pub step7 : Step true moment6 moment7
step7 = Settles 1 (record { serving = refl }) (record { in_flight = refl })

abbrev pub step8 : Step true moment7 moment8
step8 = Gives first_recall 1 (record { sent = inl refl; serving = refl; heard = refl; newer = grind arith; clean = grind arith }) (record { last_filed = refl })

abbrev pub step9 : Step true moment8 moment9
step9 = Notes first_gave (record { sent = inl refl; answers = refl })

abbrev pub step10 : Step true moment9 moment10
step10 = Applies 1 1 first_entry (record { forward = grind arith }) (record {
  filed_end = grind arith;
  old = grind arith;
  rows = λ q k. grind (arith, nat_tests);
  source = inr (inr (1, 1, record { filed = grind arith; some = grind arith; row = refl; absent = λ k. absurd (omega arith); place = λ k. (refl, refl) }));
})

abbrev pub step11 : Step true moment10 moment11
step11 = Offers copy_want (record { sent = inl refl; settled = refl; fits = λ d k. grind (arith, nat_tests) }) (record {
  asker = grind arith;
  givers = λ d. grind (
    arith,
    nat_tests,
  );
})

abbrev pub step12 : Step true moment11 moment12
step12 = TakesPlace copy_offer (accepts moment11 copy_offer 1 (inl refl) refl (grind arith) refl refl refl (grind arith) refl) (record { placed = grind arith })

abbrev pub step13 : Step true moment12 moment13
step13 = Fetches 2 7 (record { fetching = refl }) (record { content = refl })

abbrev pub step14 : Step true moment13 moment14
step14 = Reads 2 (record { holds = grind arith })

abbrev pub step15 : Step true moment14 moment15
step15 = Asks 1 2 2 1 (record { client = grind arith; serving = refl; some = grind arith; upto_own = grind arith; less = grind arith; unused = grind arith })
    (record { last_filed = refl })

abbrev pub step16 : Step true moment15 moment16
step16 = Recalls 2 0 (record { less = grind arith })

abbrev pub step17 : Step true moment16 moment17
step17 = Gives second_recall 0 (record { sent = inl refl; serving = refl; heard = refl; newer = grind arith; clean = grind arith })
    (record { last_filed = refl })

abbrev pub step18 : Step true moment17 moment18
step18 = Notes second_gave (record { sent = inl refl; answers = refl })

abbrev pub step19 : Step true moment18 moment19
step19 = Offers second_want (record { sent = inl refl; settled = refl; fits = λ d k. grind (arith, nat_tests) }) (record {
  asker = grind arith;
  givers = λ d. grind (arith, nat_tests);
})

abbrev pub step20 : Step true moment19 moment20
step20 = WritesFirst second_offer 8 (accepts moment19 second_offer 2 (inl refl) refl (grind arith) refl refl refl (grind arith) refl)

abbrev pub step21 : Step true moment20 moment21
step21 = SealsWith 1 (record { dirty = grind arith })

abbrev pub step22 : Step true moment21 moment22
step22 = CrashesDirty 1 (record { dirty = grind arith })

abbrev pub step23 : Step true moment22 moment23
step23 = RestartsAdopting 1 2 1 (record { member = grind arith; down = refl; later = grind arith; promise = grind arith }) (record { in_flight = refl })

abbrev pub step24 : Step true moment23 moment24
step24 = Promises 1 2 (record { serving = refl; higher = grind arith })

abbrev pub step25 : Step true moment24 moment25
step25 = Reports 1 2 (record { serving = refl }) (record { last_filed = refl })

abbrev pub step26 : Step true moment25 moment26
step26 = Promises 2 2 (record { serving = refl; higher = grind arith })

abbrev pub step27 : Step true moment26 moment27
step27 = Reports 2 0 (record { serving = refl }) (record { last_filed = refl })

abbrev pub step28 : Step true moment27 moment28
step28 = Promises 0 2 (record { serving = refl; higher = grind arith })

abbrev pub step29 : Step true moment28 moment29
step29 = Reports 0 0 (record { serving = refl }) (record { last_filed = refl })

abbrev pub step30 : Step true moment29 moment30
step30 = Activates 2 report_of applied_to second_entry (record {
  later = grind arith;
  sent = λ c k. grind (arith, reported c);
  sender = λ c k. refl;
  asked = λ c k. refl;
}) (record {
  reported = λ c k. grind (arith, nat_tests);
  filed_end = λ c. grind (arith, nat_tests);
  source = inr (
    1,
    2,
    record { filed = grind arith; some = grind arith; row = refl; absent = λ k. absurd (omega arith); place = λ k. (refl, refl) },
  );
  rows = λ c q k. grind (
    arith,
    nat_tests,
  );
})

abbrev pub step31 : Step true moment30 moment31
step31 = SealsCopy 3 1 2 (record { outsider = grind arith; none = refl }) (record { filed = grind arith })

abbrev pub step32 : Step true moment31 moment32
step32 = SettlesCopy 3 (record { outsider = grind arith; flying = refl })

abbrev pub step33 : Step true moment32 moment33
step33 = Asks 1 2 1 2 (record { client = grind arith; serving = refl; some = grind arith; upto_own = grind arith; less = grind arith; unused = grind arith })
    (record { last_filed = refl })

abbrev pub step34 : Step true moment33 moment34
step34 = Offers third_want (record { sent = inl refl; settled = refl; fits = λ d k. grind (arith, nat_tests) }) (record {
  asker = grind arith;
  givers = λ d. grind (arith, nat_tests);
})

abbrev pub step35 : Step true moment34 moment35
step35 = WritesFirst third_offer 9 (accepts moment34 third_offer 2 (inl refl) refl (grind arith) refl refl refl (grind arith) refl)

abbrev pub step36 : Step true moment35 moment36
step36 = CrashesDirty 1 (record { dirty = grind arith })

abbrev pub step37 : Step true moment36 moment37
step37 = RestartsDiscarding 1 3 2 (record { member = grind arith; down = refl; later = grind arith; promise = grind arith })

abbrev pub first_write : Steps true (start 3) moment3
first_write = More (More (More Done step1) step2) step3

abbrev pub first_read : Steps true (start 3) moment14
first_read = More
    (More (More (More (More (More (More (More (More (More (More first_write step4) step5) step6) step7) step8) step9) step10) step11) step12) step13) step14

abbrev pub second_write : Steps true (start 3) moment20
second_write = More (More (More (More (More (More first_read step15) step16) step17) step18) step19) step20

abbrev pub adopted : Steps true (start 3) moment23
adopted = More (More (More second_write step21) step22) step23

abbrev pub taken_over : Steps true (start 3) moment30
taken_over = More (More (More (More (More (More (More adopted step24) step25) step26) step27) step28) step29) step30

abbrev pub copied : Steps true (start 3) moment32
copied = More (More taken_over step31) step32

abbrev pub run : Steps true (start 3) moment37
run = More (More (More (More (More copied step33) step34) step35) step36) step37

-- It tells the acts of the example.
pub tells_acts : told (start 3) moment37 run ≡ example_acts
tells_acts = refl

-- It takes these kinds of steps.
pub takes_kinds : kinds run ≡ example_kinds
takes_kinds = refl
