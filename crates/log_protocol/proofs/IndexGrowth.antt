-- What never changes again in the index of a block: step by step, and over runs.
use Rattle.std.proofs.Common.{◌≡◌, ℕ, zero, suc, ◌≤◌, refl, arith}
use Rattle.std.proofs.lemmas.Bool.Decides.{nat_tests}
use Rattle.log_protocol.specs.IndexState.{Entry, IndexState}
use Rattle.log_protocol.specs.IndexSteps.{CanFile, files, CanFileNone, files_none, CanCopy, copies, indexes, CanMerge, CanActivate, activates, CanKeep, keeps_horizon, moves, CanPromise, promises, CanBeat, beats, CanCount, counts, CanDropRow, drops_row, IndexStep, IndexSteps}
use Rattle.log_protocol.specs.IndexSteps.IndexStep.{Files, Files_none, Copies, Merges, Activates, Keeps, Moves, Promises, Beats, Counts, Drops_row}
use Rattle.log_protocol.specs.IndexSteps.IndexSteps.{Done, More}
use Rattle.log_protocol.specs.IndexLaws.{IndexReached}
use Rattle.log_protocol.specs.IndexBoundLaws.{IndexPastStays}
use Rattle.log_protocol.proofs.IndexInduction.{IndexInvariant, index_step_keeps, index_always}

files_stays : (w : IndexState) (l version : ℕ) → CanFile w l version → IndexPastStays w (files w l version)
files_stays w l version can = grind (arith, nat_tests)

files_none_stays : (w : IndexState) (l : ℕ) → CanFileNone w l → IndexPastStays w (files_none w l)
files_none_stays w l can = grind (arith, nat_tests)

copies_stays : (w : IndexState) (l q : ℕ) → CanCopy w l q → IndexPastStays w (copies w l q)
copies_stays w l q can = grind (arith, nat_tests)

merges_stays : (w : IndexState) (e : ℕ) (applied : ℕ → ℕ) (entry : Entry) → CanMerge w e applied entry → IndexPastStays w (indexes w e applied entry)
merges_stays w e applied entry can = grind (arith, nat_tests)

activates_stays : (w : IndexState) (e : ℕ) (applied : ℕ → ℕ) (entry : Entry) → CanActivate w e applied entry → ((l : ℕ) → w.applied e l ≡ 0)
    → IndexPastStays w (activates w e applied entry)
activates_stays w e applied entry can idle = grind (arith, nat_tests)

keeps_stays : (w : IndexState) (horizon : ℕ → ℕ) → CanKeep w horizon → ((e l : ℕ) → w.floor e l ≤ horizon l) → IndexPastStays w (keeps_horizon w horizon)
keeps_stays w horizon can past = grind (arith, nat_tests)

moves_stays : (w : IndexState) → IndexPastStays w (moves w)
moves_stays w = grind (arith, nat_tests)

promises_stays : (w : IndexState) (e : ℕ) → CanPromise w e → IndexPastStays w (promises w e)
promises_stays w e can = grind (arith, nat_tests)

beats_stays : (w : IndexState) (d e l q : ℕ) → CanBeat w d e l q → IndexPastStays w (beats w e l q)
beats_stays w d e l q can = grind (arith, nat_tests)

counts_stays : (w : IndexState) (e l q : ℕ) → CanCount w e l q → (w.dead_at l q ≤ w.promised) → IndexPastStays w (counts w e l q)
counts_stays w e l q can before = grind (arith, nat_tests)

drops_row_stays : (w : IndexState) (l q : ℕ) → CanDropRow w l q → IndexPastStays w (drops_row w l q)
drops_row_stays w l q can = grind (arith, nat_tests)

-- no horizon is above one that the registry keeps
kept_past : (w : IndexState) (horizon : ℕ → ℕ) (e l : ℕ) → CanKeep w horizon → IndexInvariant w → w.floor e l ≤ horizon l
kept_past w horizon e l can i =
    let r = can.rises l in
    let a = i.bounds.floor_rises e w.epoch l in
    let b = i.bounds.floor_ahead e l in
    grind (arith)

-- a Dead that was counted is of an epoch that was promised
counted_promised : (w : IndexState) (l q : ℕ) → IndexInvariant w → w.dead_at l q ≤ w.promised
counted_promised w l q i = go (w.dead_at l q) refl
  where
    go : (d : ℕ) → w.dead_at l q ≡ d → w.dead_at l q ≤ w.promised
    go zero e = omega arith
    go (suc d) e = i.dead.active_promised (w.dead_at l q) (i.dead.told_active (w.dead_at l q) l q (i.dead.dead_told l q (omega arith)))

step_past_stays : (w u : IndexState) → IndexStep w u → IndexInvariant w → IndexPastStays w u
step_past_stays w u (Files l version can) i = files_stays w l version can
step_past_stays w u (Files_none l can) i = files_none_stays w l can
step_past_stays w u (Copies l q can) i = copies_stays w l q can
step_past_stays w u (Merges e applied entry can) i = merges_stays w e applied entry can
step_past_stays w u (Activates e applied entry can) i = activates_stays w e applied entry can (λ l. i.bounds.idle e l can.fresh)
step_past_stays w u (Keeps horizon can) i = keeps_stays w horizon can (λ e l. kept_past w horizon e l can i)
step_past_stays w u Moves i = moves_stays w
step_past_stays w u (Promises e can) i = promises_stays w e can
step_past_stays w u (Beats d e l q can) i = beats_stays w d e l q can
step_past_stays w u (Counts e l q can) i = counts_stays w e l q can (counted_promised w l q i)
step_past_stays w u (Drops_row l q can) i = drops_row_stays w l q can

past_stays_on : (w v u : IndexState) → IndexPastStays w v → IndexPastStays v u → IndexPastStays w u
past_stays_on w v u a b = record {
  cleaner = let p = a.cleaner in let q = b.cleaner in omega arith;
  head = grind (arith, a.head, b.head);
  version = grind (arith, a.version, b.version, a.head);
  hop = grind (arith, a.hop, b.hop, a.head);
  joined = grind (arith, a.joined, b.joined);
  epoch = grind (arith, a.epoch, b.epoch);
  reigning = grind (arith, a.reigning, b.reigning);
  promised = grind (arith, a.promised, b.promised);
  active = grind (arith, a.active, b.active);
  applied = grind (arith, a.applied, b.applied);
  floor = grind (arith, a.floor, b.floor);
  floor_ended = grind (arith, a.floor_ended, b.floor_ended, a.epoch);
  told = grind (arith, a.told, b.told);
  counted = grind (arith, a.counted, b.counted);
  dropped = grind (arith, a.dropped, b.dropped);
}

run_past_stays : (w u : IndexState) → IndexSteps w u → IndexInvariant w → (IndexInvariant u) × IndexPastStays w u
run_past_stays w u Done i = (i, same w)
  where
    same : (u : IndexState) → IndexPastStays u u
    same u = grind (arith)
run_past_stays w u (More {v = v} run step) i = let a =
    run_past_stays w v run i in (index_step_keeps v u step a.0, past_stays_on w v u a.1 (step_past_stays v u step a.0))

pub index_past_stays_always : (w u : IndexState) → IndexReached w → IndexSteps w u → IndexPastStays w u
index_past_stays_always w u reached run = (run_past_stays w u run (index_always w reached)).1
