-- In each run of the small world of the index an epoch's horizon is the next one's, while nobody is active at that: a checkpoint is kept only at an epoch at
-- which somebody is.
use Rattle.std.proofs.Common.{◌≡◌, ◌⊎◌, inl, inr, ⊎_elim, ℕ, suc, ◌<◌, ◌≤◌, true, false, nat_lt, cond, List, None, Some, refl, sym, subst, ◌∙◌, mod-eq_of_lt, arith}
use Rattle.std.proofs.lemmas.Bool.Decides.{nat_tests}
use Rattle.std.proofs.lemmas.Bool.{lt-ltb}
use Rattle.checkpoint.specs.WriterState.{Rows}
use Rattle.index_tie.proofs.Tables.{first_of, put_each}
use Rattle.index_tie.specs.Net.{Net, Happens, Runs, opening}
use Rattle.index_tie.specs.Net.Happens.{ClientFiles, CleanerFiles, GetsDeltas, GetsOther, Answers, Plans, Cleans, Checkpoints, Keeps, Moves, Activates, Promises, JobPromises, JobWelcomed, Reports, JobBegins, JobReads, Asks, JobHearsDead, JobTakes}
use Rattle.index_tie.specs.Net.Packet.{CheckpointDone}
use Rattle.index_tie.specs.Net.Runs.{Begun, On}
use Rattle.index_tie.specs.NetLaws.{CheckpointsHaveManagers}
use Rattle.log_protocol.specs.Tables.{In, put}
use Rattle.node_slots.proofs.node_index_tie.Moves.{some_none}
use Rattle.segment_format.specs.declared.segment.Segment.{Segment}
use Rattle.token_manager.specs.SlotState.{SlotState}
use Rattle.run_laws.proofs.world_index.Horizons.{Steady, steady_always}
use Rattle.xfs_base.specs.declared.block.BlockId.{BlockId}
use Rattle.xfs_base.specs.declared.segment.SegRef.{SegRef}
use Rattle.xfs_base.specs.Limits.{slot_count}
use Rattle.run_laws.specs.epoch_law.Polls.{HorizonsStay}

-- an epoch's horizon is the next one's, while nobody is active at that
abbrev Holds : Net → Type 0
Holds n = (e : ℕ) → e < n.epoch → n.slots (suc e) ≡ None → n.horizon (suc e) ≡ n.horizon e

-- where a slot is put, nobody is active at an epoch only where nobody was
none_put : (n : Net) (e : ℕ) (s : SlotState) (d : ℕ) → put n.slots e (Some s) d ≡ None → n.slots d ≡ None
none_put n e s = put_each (λ d o. o ≡ None → n.slots d ≡ None) n.slots e (Some s) (λ absent. absurd (some_none s absent)) (λ d other absent. absent)

holds_put : (n : Net) (e : ℕ) (s : SlotState) → Holds n → (d : ℕ) → d < n.epoch → put n.slots e (Some s) (suc d) ≡ None
    → n.horizon (suc d) ≡ n.horizon d
holds_put n e s h d less absent = h d less (none_put n e s (suc d) absent)

-- the registry's next epoch
holds_moves : (n : Net) → Steady n → Holds n → (e : ℕ) → e < suc n.epoch → n.slots (suc e) ≡ None → n.horizon (suc e) ≡ n.horizon e
holds_moves n steady h e less absent = ⊎_elim (λ below. h e below absent)
    (λ same. steady.later (suc e) (omega arith) ∙ sym (steady.later e (omega arith))) (either e n.epoch less)
  where
    either : (a b : ℕ) → a < suc b → (a < b) ⊎ (b ≤ a)
    either a b less = elim (nat_lt a b) as (λ x. nat_lt a b ≡ x → (a < b) ⊎ (b ≤ a)) [
      | true ↦ λ low. inl (grind (arith, nat_tests))
      | false ↦ λ past. inr (grind (arith, nat_tests))
    ] refl

-- a checkpoint of the registry's epoch, at which somebody is active
holds_keeps : (n : Net) (horizon : List ℕ) → (n.slots n.epoch ≡ None → ⊥) → Holds n → (e : ℕ) → e < n.epoch → n.slots (suc e) ≡ None
    → cond (nat_lt (suc e) n.epoch) (n.horizon (suc e)) horizon ≡ cond (nat_lt e n.epoch) (n.horizon e) horizon
holds_keeps n horizon managed h e less absent =
    elim (nat_lt (suc e) n.epoch) as
    (λ x. nat_lt (suc e) n.epoch ≡ x → cond x (n.horizon (suc e)) horizon ≡ cond (nat_lt e n.epoch) (n.horizon e) horizon) [
      | true ↦ λ low. h e less absent ∙ sym (first_of (nat_lt e n.epoch) (n.horizon e) horizon (lt-ltb e n.epoch less))
      | false ↦ λ past. absurd (managed (subst (λ x. n.slots x ≡ None) (last e n.epoch less past) absent))
    ] refl
  where
    last : (a b : ℕ) → a < b → nat_lt (suc a) b ≡ false → suc a ≡ b
    last a b less past = grind (arith, nat_tests)

module _ (part : ℕ) (holds : SegRef → Rows) where
  happens_holds : (n m : Net) → Happens part holds n m → Steady n
      → ((horizon : List ℕ) (parts : List SegRef) → In (CheckpointDone n.epoch horizon parts) n.sent → n.slots n.epoch ≡ None → ⊥) → Holds n → Holds m
  happens_holds n m (ClientFiles l s some less fact newer) k managed h = h
  happens_holds n m (CleanerFiles s fact copies) k managed h = h
  happens_holds n m (GetsDeltas e s log first upto rows at known tell) k managed h = holds_put n e _ h
  happens_holds n m (GetsOther e s i at of) k managed h = holds_put n e _ h
  happens_holds n m (Answers e s number b place d at asked) k managed h = h
  happens_holds n m (Plans e s events horizon at pages all next) k managed h = h
  happens_holds n m (Cleans e s at) k managed h = holds_put n e _ h
  happens_holds n m (Checkpoints e events horizon segments planned laid) k managed h = h
  happens_holds n m (Keeps horizon parts done rises) k managed h = holds_keeps n horizon (managed horizon parts done) h
  happens_holds n m Moves k managed h = holds_moves n k h
  happens_holds n m (Activates e news groups clients inputs input rows beliefs applied none some begun hands has) k managed h = holds_put n e _ h
  happens_holds n m (Promises e rises none) k managed h = h
  happens_holds n m (JobPromises e rises) k managed h = h
  happens_holds n m (JobWelcomed slots groups rises) k managed h = h
  happens_holds n m Reports k managed h = h
  happens_holds n m (JobBegins count) k managed h = h
  happens_holds n m (JobReads read owes) k managed h = h
  happens_holds n m (Asks b place d promised within below_ lies) k managed h = h
  happens_holds n m (JobHearsDead number b epoch name d answered hand) k managed h = h
  happens_holds n m (JobTakes i other) k managed h = h

  module _ (managed : CheckpointsHaveManagers) (first : ℕ → ℕ → Segment) (of_eight : part < slot_count) where
    -- a block of the slot
    abbrev one : BlockId
    one = record { ino = record { 0 = part }; blk = 0 }

    runs_hold : (n : Net) → Runs part holds (opening first) n → Holds n
    runs_hold n Begun = λ e less absent. refl
    runs_hold n (On {m = x} run last) =
        happens_holds x n last (steady_always part holds first x run)
        (λ horizon parts done. managed part holds x one x.epoch horizon parts (record { any = first; run = run; inside = mod-eq_of_lt of_eight }) done)
        (runs_hold x run)

pub horizons_stay : CheckpointsHaveManagers → HorizonsStay
horizons_stay managed part holds first n of_eight run = runs_hold part holds managed first of_eight n run
