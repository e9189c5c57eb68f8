-- A run of the index of a block, as a term: two versions, an activation, a merge, a horizon, a Dead, its counting, a drop, a move, a promise, a
-- second activation, a copy.
-- Log 1 is a client's, log 2 the cleaner's; the manager of epoch 1 is followed by that of epoch 2.
use Rattle.std.proofs.Common.{◌≡◌, ℕ, suc, ◌≤◌, refl, arith}
use Rattle.std.proofs.lemmas.Bool.Decides.{nat_tests}
use Rattle.log_protocol.specs.IndexState.{Entry, IndexState, new_block, Joins}
use Rattle.log_protocol.specs.IndexSteps.{files, files_none, copies, indexes, activates, keeps_horizon, moves, promises, beats, counts, drops_row, IndexSteps}
use Rattle.log_protocol.specs.IndexSteps.IndexStep.{Files, Files_none, Copies, Merges, Activates, Keeps, Moves, Promises, Beats, Counts, Drops_row}
use Rattle.log_protocol.specs.IndexSteps.IndexSteps.{Done, More}
use Rattle.log_protocol.specs.IndexStepKinds.{index_kinds}
use Rattle.log_protocol.specs.IndexRuns.{moved_steps, IndexMoved}
use Rattle.log_protocol.proofs.RunParts.{le11, le12, le22, lt01, lt05, lt06, lt12, lt13, lt56}

abbrev first : Entry
first = record { version = 5; hop = 0; log = 1; seq = 1 }

abbrev second : Entry
second = record { version = 6; hop = 0; log = 1; seq = 2 }

zero_le : (x : ℕ) → 0 ≤ x
zero_le x = omega arith

one_le : (f : ℕ → ℕ) (l : ℕ) → 1 ≤ suc (f l)
one_le f l = omega arith

same : (f : ℕ → ℕ) (l : ℕ) → f l ≤ f l
same f l = omega arith

abbrev u0 : IndexState
u0 = new_block 2

-- version 5 is filed, and the manager of epoch 1 takes the slot
abbrev u1 : IndexState
u1 = files u0 1 5

s1 : IndexSteps u0 u1
s1 = More Done (Files 1 5 (record { named = lt01; client = lt12; new = lt05 }))

first_joins : Joins u1.version u1.hop u1.head first
first_joins = grind (arith, nat_tests)

abbrev u2 : IndexState
u2 = activates u1 1 u1.head first

s2 : IndexSteps u0 u2
s2 = More s1 (Activates 1 u1.head first
    (record {
      begun = le11;
      fresh = refl;
      heard = le11;
      reported = zero_le (u1.head 2);
      covered = λ l. one_le u1.head l;
      filed = λ l. same u1.head l;
      joins = first_joins;
    }))

-- version 6 is filed and applied; a checkpoint's horizon is kept
abbrev u3 : IndexState
u3 = files u2 1 6

s3 : IndexSteps u0 u3
s3 = More s2 (Files 1 6 (record { named = lt01; client = lt12; new = lt56 }))

second_joins : Joins u3.version u3.hop u3.head second
second_joins = grind (arith, nat_tests)

up : (l : ℕ) → u3.applied 1 l ≤ u3.head l
up l = grind (arith, nat_tests)

abbrev u4 : IndexState
u4 = indexes u3 1 u3.head second

s4 : IndexSteps u0 u4
s4 = More s3 (Merges 1 u3.head second (record { on = refl; rises = λ l. up l; filed = λ l. same u3.head l; joins = second_joins }))

abbrev u5 : IndexState
u5 = keeps_horizon u4 (λ l. suc (u4.applied 1 l))

s5 : IndexSteps u0 u5
s5 = More s4 (Keeps (λ l. suc (u4.applied 1 l)) (record { rises = λ l. one_le (u4.applied 1) l; applied = λ l. same (λ m. suc (u4.applied 1 m)) l }))

other : u5.joined.seq ≡ 1 → ⊥
other e = omega arith

-- version 5 is answered Dead, which is counted, and is dropped
abbrev u6 : IndexState
u6 = beats u5 1 1 1

s6 : IndexSteps u0 u6
s6 = More s5 (Beats 1 1 1 1 (record { on = refl; kept_by = le11; below = lt13; some = lt05; elsewhere = λ a b. other b }))

abbrev u7 : IndexState
u7 = counts u6 1 1 1

s7 : IndexSteps u0 u7
s7 = More s6 (Counts 1 1 1 (record { told = refl; latest = refl }))

abbrev u8 : IndexState
u8 = drops_row u7 1 1

s8 : IndexSteps u0 u8
s8 = More s7 (Drops_row 1 1 (record { counted = lt01 }))

-- the slot moves, the cleaner promises the next epoch, and its manager takes the slot
abbrev u9 : IndexState
u9 = moves u8

s9 : IndexSteps u0 u9
s9 = More s8 Moves

abbrev u10 : IndexState
u10 = promises u9 2

s10 : IndexSteps u0 u10
s10 = More s9 (Promises 2 (record { rises = le12 }))

abbrev u11 : IndexState
u11 = activates u10 2 u10.head second

s11 : IndexSteps u0 u11
s11 = More s10
    (Activates 2 u10.head second
    (record {
      begun = le22;
      fresh = refl;
      heard = le22;
      reported = same u10.head 2;
      covered = λ l. same (λ m. suc (u10.head m)) l;
      filed = λ l. same u10.head l;
      joins = second_joins;
    }))

-- the cleaner copies version 6, and the client files a segment that says nothing of the block
abbrev u12 : IndexState
u12 = copies u11 1 2

s12 : IndexSteps u0 u12
s12 = More s11 (Copies 1 2 (record { filed = le22; some = lt06 }))

abbrev u13 : IndexState
u13 = files_none u12 1

s13 : IndexSteps u0 u13
s13 = More s12 (Files_none 1 (record { named = lt01 }))

steps : index_kinds s13 ≡ moved_steps
unfolding s1 s2 s3 s4 s5 s6 s7 s8 s9 s10 s11 s12 s13
steps = refl

pub index_moved : IndexMoved
index_moved =
    record { state = u13; reached = s13; steps = steps; both_active = (refl, refl); horizon = refl; dropped = refl; older = refl; newest = refl; copied = refl }
