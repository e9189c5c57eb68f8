-- Every kind of step is taken by one of the runs.
use Rattle.std.proofs.Common.{ℕ, zero, suc, List, [], ◌∷◌, drop, inl, inr, refl}
use Rattle.log_protocol.specs.Tables.{In}
use Rattle.log_protocol.specs.StepKinds.Kind.{Lose, Hear, Learn, Send, Accept, Accept_again, Tell, Fill, Drop, Delete, Raise, Fence, Seal, Restripe, Note, Settle, Crash, Restart, Begin, Pick_none, Pick_kept, Pick_prior, Cut, Open, Serve}
use Rattle.log_protocol.specs.IndexStepKinds.IndexKind.{File, File_none, Copy, Merge, Activate, Keep, Move, Promise, Answer_dead, Count, Drop_row}
use Rattle.log_protocol.specs.LogRuns.{EveryStepTaken, all_steps}
use Rattle.log_protocol.specs.IndexRuns.{EveryIndexStepTaken, moved_steps}

-- what stands after the first n of a list stands in it
listed : {X : Type 0} (n : ℕ) (k : X) (ks : List X) → In k (drop n ks) → In k ks
listed zero k ks fact = fact
listed (suc n) k [] fact = absurd fact
listed (suc n) k (first ∷ ks) fact = inr (listed n k ks fact)

pub every_step_taken : EveryStepTaken
every_step_taken Lose = listed 24 Lose all_steps (inl refl)
every_step_taken Hear = listed 25 Hear all_steps (inl refl)
every_step_taken Learn = listed 26 Learn all_steps (inl refl)
every_step_taken Send = listed 1 Send all_steps (inl refl)
every_step_taken Accept = listed 2 Accept all_steps (inl refl)
every_step_taken Accept_again = listed 9 Accept_again all_steps (inl refl)
every_step_taken Tell = listed 23 Tell all_steps (inl refl)
every_step_taken Fill = listed 27 Fill all_steps (inl refl)
every_step_taken Drop = listed 21 Drop all_steps (inl refl)
every_step_taken Delete = listed 22 Delete all_steps (inl refl)
every_step_taken Raise = listed 14 Raise all_steps (inl refl)
every_step_taken Fence = listed 12 Fence all_steps (inl refl)
every_step_taken Seal = listed 0 Seal all_steps (inl refl)
every_step_taken Restripe = listed 6 Restripe all_steps (inl refl)
every_step_taken Note = listed 3 Note all_steps (inl refl)
every_step_taken Settle = listed 4 Settle all_steps (inl refl)
every_step_taken Crash = listed 10 Crash all_steps (inl refl)
every_step_taken Restart = listed 47 Restart all_steps (inl refl)
every_step_taken Begin = listed 11 Begin all_steps (inl refl)
every_step_taken Pick_none = listed 51 Pick_none all_steps (inl refl)
every_step_taken Pick_kept = listed 13 Pick_kept all_steps (inl refl)
every_step_taken Pick_prior = listed 40 Pick_prior all_steps (inl refl)
every_step_taken Cut = listed 15 Cut all_steps (inl refl)
every_step_taken Open = listed 16 Open all_steps (inl refl)
every_step_taken Serve = listed 20 Serve all_steps (inl refl)

pub every_index_step_taken : EveryIndexStepTaken
every_index_step_taken File = listed 0 File moved_steps (inl refl)
every_index_step_taken File_none = listed 12 File_none moved_steps (inl refl)
every_index_step_taken Copy = listed 11 Copy moved_steps (inl refl)
every_index_step_taken Merge = listed 3 Merge moved_steps (inl refl)
every_index_step_taken Activate = listed 1 Activate moved_steps (inl refl)
every_index_step_taken Keep = listed 4 Keep moved_steps (inl refl)
every_index_step_taken Move = listed 8 Move moved_steps (inl refl)
every_index_step_taken Promise = listed 9 Promise moved_steps (inl refl)
every_index_step_taken Answer_dead = listed 5 Answer_dead moved_steps (inl refl)
every_index_step_taken Count = listed 6 Count moved_steps (inl refl)
every_index_step_taken Drop_row = listed 7 Drop_row moved_steps (inl refl)
