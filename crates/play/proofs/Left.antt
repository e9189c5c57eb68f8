-- How much may still happen for a line falls by one with what the schedule says comes next.
use Rattle.std.proofs.Common.{true≢false, ◌≡◌, refl, sym, ℕ, suc, ◌-◌, true, false, cond, ◌||◌, ◌==◌, length, Option, Some, None, arith}
use Rattle.std.proofs.lemmas.Bool.Decides.{nat_tests}
use Rattle.world_base.specs.declared.schedule.Next.TheVariants.{Round}
use Rattle.world_base.specs.Schedule.{Going, ScheduleState, delivers, done, schedule_next, is_done, left, schedule_pass}

abbrev pub Falls : ScheduleState → Going → Type 0
Falls s going = (is_done going.next ≡ false → suc (left going.state) ≡ left s) × (is_done going.next ≡ true → going.state ≡ s)

done_falls : (s : ScheduleState) → Falls s (done s)
done_falls s = ((λ more. absurd (true≢false more)), (λ over. refl))

passes_falls : (unanswered : ℕ) (s : ScheduleState) → Falls s (schedule_pass unanswered s)
passes_falls unanswered s =
    elim ((unanswered == 0) || (s.rounds == 0)) as (λ t. ((unanswered == 0) || (s.rounds == 0)) ≡ t
    → Falls s (cond t (done s) (record { next = Round; state = record s { rounds = s.rounds - 1 } }))) [
      | true ↦ λ e. done_falls s
      | false ↦ λ e. ((λ more. grind (arith, nat_tests)), (λ over. absurd (true≢false (sym over))))
    ] refl

delivers_falls : (mixer : Option ℕ) (s : ScheduleState) → (s.deliveries == 0) ≡ false → Falls s (delivers mixer s)
delivers_falls None s some = ((λ more. grind (arith, nat_tests)), (λ over. absurd (true≢false (sym over))))
delivers_falls (Some x) s some = ((λ more. grind (arith, nat_tests)), (λ over. absurd (true≢false (sym over))))

pub goes_falls : (unanswered : ℕ) (s : ScheduleState) → Falls s (schedule_next unanswered s)
unfolding schedule_next
goes_falls unanswered s =
    elim (length s.queue == 0) as (λ t. Falls s (cond t (schedule_pass unanswered s) (cond (s.deliveries == 0) (done s) (delivers s.mixer s)))) [
      | true ↦ passes_falls unanswered s
      | false ↦ elim (s.deliveries == 0) as (λ t. (s.deliveries == 0) ≡ t → Falls s (cond t (done s) (delivers s.mixer s))) [
        | true ↦ λ e. done_falls s
        | false ↦ λ e. delivers_falls s.mixer s e
      ] refl
    ]
