-- Wants and Gaves of a slot.
use Rattle.std.proofs.Common.{◌≡◌, ℕ, ◌+◌, ◌<◌, Bool, true, false, cond, ◌||◌, not, length, List, [], ◌∷◌, Option, Some, None, is_some, refl, sym, subst, ◌∙◌, arith, nat_lt}
use Rattle.std.specs.Ordering.{eq_by_cmp}
use Rattle.std.specs.BTreeMap.{insert_entry}
use Rattle.std.proofs.lemmas.Bool.{false≢true, ltb-false}
use Rattle.std.proofs.lemmas.Map.Views.{tells_apart}
use Rattle.xfs_base.specs.declared.block.BlockId.{BlockId}
use Rattle.xfs_base.specs.declared.token.Mode.{Mode}
use Rattle.xfs_base.specs.Blocks.{block_cmp}
use Rattle.xfs_base.proofs.BlockOrder.{block_cmp_total, block_cmp_exact, lookup-insert_entry}
use Rattle.xfs_base.proofs.StepLoops.{steps_keep}
use Rattle.slot_beliefs.specs.declared.job.Wanted.{Wanted}
use Rattle.slot_beliefs.specs.declared.job.Job.{Job}
use Rattle.slot_beliefs.specs.Beliefs.{holder}
use Rattle.slot_beliefs.specs.Recalls.{recalls, applied_of, job_at}
use Rattle.slot_beliefs.proofs.Shares.{found_by}
use Rattle.token_manager.specs.Recalls.{send_recalls}
use Rattle.token_manager.specs.SlotState.{SlotState}
use Rattle.token_manager.specs.Transition.{want_of, slot_start, passers, answer, slot_finish, recalled, on_want, transition}
use Rattle.token_manager.proofs.Cases.{recalled_from, by_want}
use Rattle.token_manager.proofs.Guarded.{Sound, sound-start, sound-transition, no_first, not_more}
use Rattle.token_manager.proofs.AwaitsJust.{more_elsewhere, others_once}
use Rattle.token_manager.proofs.JobsBarGrants.{block_laws}
use Rattle.token_protocol.specs.Basics.{In}
use Rattle.token_protocol.specs.World.{World}
use Rattle.token_tie.specs.Managed.{want_seen, Manages, AllTold, Runs}
use Rattle.token_tie.specs.SlotInputs.{Reached}
use Rattle.token_tie.proofs.Managing.{runs_nowhere, turns-runs, slot_finish-runs, recalled-runs}
use Rattle.xfs_base.specs.Modes.{is_nothing, is_own}
use Rattle.xfs_base.proofs.Booleans.{contrary}

-- by which block an input is of
pub by_block : (b : BlockId) (P : BlockId → Type 0) → P b → ((block : BlockId) → (block ≡ b → ⊥) → P block) → (block : BlockId) → P block
by_block b P here there block =
    elim (eq_by_cmp block_cmp b block) as (λ t. eq_by_cmp block_cmp b block ≡ t → P block) [
      | true ↦ λ same. subst P (tells_apart block_cmp_exact b block same) here
      | false ↦ λ differs. there block (λ fact. false≢true (sym differs ∙ subst (λ k. eq_by_cmp block_cmp b k ≡ true) (sym fact) (block_laws.refl b)))
    ] refl

-- what is reached is sound
pub reached_sound : (s : SlotState) → Reached s → Sound s
reached_sound s r =
    subst Sound (sym r.reached)
    (steps_keep transition Sound sound-transition (slot_start r.epoch r.index r.beliefs r.applied) r.taken
    (sound-start r.epoch r.index r.beliefs r.applied r.alone))

-- what isn't dropped wants something, finds no want that waits, and names an end that is applied
pub kept_all : (a b c : Bool) → (a || b || c) ≡ false → (a ≡ false) × (b ≡ false) × (c ≡ false)
kept_all true b c h = contrary (sym h)
kept_all false true c h = contrary (sym h)
kept_all false false c h = (refl, refl, h)

pub none_is : {A : Type 0} (o : Option A) → is_some o ≡ false → o ≡ None
none_is None h = refl
none_is (Some x) h = contrary (sym h)

module _ (logs : Bool) where
  pub answer_quiet : (b : BlockId) (v : World) (s : SlotState) (ask : Wanted) (from : List ℕ) → (ask.block ≡ b → ⊥) → AllTold b v (answer s ask from ∷ [])
  answer_quiet b v s ask [] other = (λ same. absurd (other same), tt)
  answer_quiet b v s ask (c ∷ cs) other = (λ same. absurd (other same), tt)

  sent_quiet : (b : BlockId) (v : World) (block : BlockId) (epoch turn : ℕ) (keep : Bool) (cs : List ℕ) → (block ≡ b → ⊥)
      → AllTold b v (send_recalls block (recalls epoch turn keep cs))
  sent_quiet b v block epoch turn keep [] other = tt
  sent_quiet b v block epoch turn keep (c ∷ cs) other = (λ same. absurd (other same), sent_quiet b v block epoch (turn + 1) keep cs other)

  -- other jobs don't matter
  pub other_put : (s : SlotState) (b block : BlockId) (job : Job) → (block ≡ b → ⊥) → job_at (insert_entry block_cmp s.jobs block job) b ≡ job_at s.jobs b
  other_put s b block job other =
      lookup-insert_entry block_cmp_total b block job s.jobs
      ∙ elim (eq_by_cmp block_cmp b block) as (λ t. eq_by_cmp block_cmp b block ≡ t → cond t (Some job) (job_at s.jobs b) ≡ job_at s.jobs b) [
        | true ↦ λ same. absurd (other (sym (tells_apart block_cmp_exact b block same)))
        | false ↦ λ _. refl
      ] refl

  -- a want of another block
  want-there : (b : BlockId) (w : World) (s : SlotState) (ask : Wanted) (end : ℕ) → Manages b s w → (ask.block ≡ b → ⊥) → Runs logs b w (on_want s ask end)
  want-there b w s ask end m other =
      by_want (Runs logs b w) s ask end (runs_nowhere logs b w s m)
      (λ _ _. turns-runs logs b w s (slot_finish s ask) 1 m refl refl (λ c. more_elsewhere s.beliefs ask (holder b c) (λ same. other (sym same))) refl refl refl
      (λ v. answer_quiet b v s ask (passers s ask) other))
      (λ _. turns-runs logs b w s (recalled s ask (recalled_from s ask)) (length (recalled_from s ask)) m refl refl (λ c. omega arith) refl refl
      (other_put s b ask.block _ other) (λ v. sent_quiet b v ask.block s.epoch s.turn (not (is_own ask.mode)) (recalled_from s ask) other))

  -- a want of this block
  want-here : (w : World) (s : SlotState) (ask : Wanted) (end : ℕ) → Sound s → Manages ask.block s w → 0 < ask.client → In (want_seen ask end) w.wants
      → Runs logs ask.block w (on_want s ask end)
  want-here w s ask end sound m some asked =
      by_want (Runs logs ask.block w) s ask end (runs_nowhere logs ask.block w s m)
      (λ going none. let k = kept_all (is_nothing ask.mode) (is_some (job_at s.jobs ask.block)) (nat_lt (applied_of s.applied ask.client) end) going in
      let a = ltb-false (applied_of s.applied ask.client) end k.2 in let q = m.applied ask.client some in
      slot_finish-runs logs w s ask end m (none_is (job_at s.jobs ask.block) k.1) k.0
      (λ c apart. not_more _ (λ more. no_first (recalled_from s ask) c none (found_by s.beliefs ask c apart more))) asked (omega arith))
      (λ going. let k = kept_all (is_nothing ask.mode) (is_some (job_at s.jobs ask.block)) (nat_lt (applied_of s.applied ask.client) end) going in
      let a = ltb-false (applied_of s.applied ask.client) end k.2 in let q = m.applied ask.client some in
      recalled-runs logs w s ask end (recalled_from s ask) m (none_is (job_at s.jobs ask.block) k.1) k.0
      (others_once s.beliefs ask.block ask.client (not (is_own ask.mode)) sound.sorted) asked (omega arith))

pub takes_want : (logs : Bool) (b : BlockId) (w : World) (s : SlotState) (client inc req again : ℕ) (block : BlockId) (mode : Mode) (end : ℕ) → Sound s
    → Manages b s w → 0 < client
    → (block ≡ b → In (want_seen (want_of client block inc req again mode) end) w.wants)
    → Runs logs b w (on_want s (want_of client block inc req again mode) end)
takes_want logs b w s client inc req again block mode end sound m some asked =
    let ask = λ (k : BlockId). want_of client k inc req again mode in
    by_block b (λ k. (k ≡ b → In (want_seen (ask k) end) w.wants) → Runs logs b w (on_want s (ask k) end))
    (λ a. want-here logs w s (ask b) end sound m some (a refl)) (λ k other _. want-there logs b w s (ask k) end m other) block asked
