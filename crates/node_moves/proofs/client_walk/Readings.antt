-- The reading of the open call, and what is known of it as it goes on; a reading is of one place all the while.
use Rattle.std.proofs.Common.{ℕ, Option, Some, None}
use Rattle.std.specs.Prelude.{IfSome}
use Rattle.client_call.specs.Calls.{going_by, plan_answered, may_make, file_call, call_of}
use Rattle.client_call.specs.declared.call.Call.{Call}
use Rattle.client_call.specs.declared.call.Going.TheVariants.{On, Ends}
use Rattle.client_call.specs.declared.call.Going.{Going}
use Rattle.client_call.specs.declared.call.Plan.TheVariants.{One, File}
use Rattle.client_call.specs.declared.call.Plan.{Plan}
use Rattle.client_call.specs.Reads.{hear_reading, reading_in, set_reading, is_fetched, kept_while}
use Rattle.file_plan.specs.declared.block_call.BlockAnswer.{BlockAnswer}
use Rattle.file_plan.specs.declared.block_call.Next.{Next as Planned}
use Rattle.file_plan.specs.declared.block_call.Next.TheVariants.{Step as Steps, Reply}
use Rattle.file_plan.specs.declared.state.PlanState.{PlanState}
use Rattle.file_plan.specs.Plan as plans
use Rattle.group_map.specs.GroupMapState.{GroupMapState}
use Rattle.segment_format.specs.declared.segment.Segment.{Segment}
use Rattle.segment_reading.specs.declared.reading.Next.TheVariants as next
use Rattle.segment_reading.specs.declared.reading.Stage.{Stage}
use Rattle.segment_reading.specs.declared.reading.Stage.TheVariants.{Asking, Between, Doubted, Over}
use Rattle.segment_reading.specs.declared.target.Target.{Target}
use Rattle.segment_reading.specs.Reading.{ReadingState, Step, counts, reading_reads, reading_judge, reading_take, goes_on, on_confirmed}
use Rattle.stripe_code.specs.declared.round.RoundState.{RoundState}
use Rattle.stripe_code.specs.declared.round.RoundState.TheVariants as rounds
use Rattle.stripe_code.specs.declared.round.Told.{Told}
use Rattle.stripe_code.specs.Round.{round_take, state_of}
use Rattle.token_client.specs.State.{TokensState}
use Rattle.version_model.specs.declared.file_call.FileCall.{FileCall}
use Rattle.version_model.specs.declared.work.Work.{Work}
use Rattle.version_model.specs.declared.work.Work.TheVariants as work
use Rattle.xfs_base.proofs.Booleans.{by_test}
use Rattle.node_moves.proofs.client_walk.Laws.{all_read}

-- ---- a reading is of one place

module _ (lies : Target → Type 0) where
  abbrev Lies : ReadingState → Type 0
  Lies r = lies r.target

  reading_reads_so : (r : ReadingState) (found : Option Segment) → Lies r → Lies (reading_reads r found).state
  reading_reads_so r None fact = fact
  reading_reads_so r (Some s) fact = fact

  reading_judge_so : (r : ReadingState) (groups : GroupMapState) (now : RoundState) → Lies r → Lies (reading_judge r groups now).state
  reading_judge_so r groups (rounds.Read bytes) fact = reading_reads_so r _ fact
  reading_judge_so r groups (rounds.Short pairs) fact = fact
  reading_judge_so r groups rounds.Waiting fact = fact

  pub answered_so : (r : ReadingState) (groups : GroupMapState) (ask server : ℕ) (t : Told) → Lies r → Lies (reading_take r groups ask server t).state
  unfolding reading_take
  answered_so r groups ask server t fact =
      by_test (λ (x : Step). Lies x.state) (counts r ask server t)
      (reading_judge (record r { round = round_take r.round server t }) groups (state_of (round_take r.round server t))) (record { state = r; next = next.Wait })
      (λ _. reading_judge_so (record r { round = round_take r.round server t }) groups (state_of (round_take r.round server t)) fact) (λ _. fact)

  goes_on_so : (r : ReadingState) (ask : ℕ) (stage : Stage) → Lies r → Lies (goes_on r ask stage).state
  goes_on_so r ask Asking fact = fact
  goes_on_so r ask Between fact = fact
  goes_on_so r ask Doubted fact = fact
  goes_on_so r ask Over fact = fact

  pub confirmed_so : (r : ReadingState) (ask : ℕ) → Lies r → Lies (on_confirmed r ask).state
  unfolding on_confirmed
  confirmed_so r ask fact = goes_on_so r ask r.stage fact

-- ---- the reading of the open call

module _ (reading : ReadingState → Type 0) where
  pub call_so : (call : Option Call) (r : Option ReadingState) → IfSome r reading → IfSome (reading_in (set_reading call r)) reading
  call_so None r fact = tt
  call_so (Some call) r fact = fact

  pub kept_so : (tokens : TokensState) (r : Option ReadingState) → IfSome r reading → IfSome (kept_while tokens r) reading
  kept_so tokens None fact = tt
  kept_so tokens (Some r) fact = by_test (λ o. IfSome o reading) (is_fetched tokens r.target.block) (Some r) None (λ _. fact) (λ _. tt)

  pub hear_reading_so : (r : Option ReadingState) (groups : Option GroupMapState) (ask server : ℕ) (t : Told)
      → ((r : ReadingState) (groups : GroupMapState) → reading r → reading (reading_take r groups ask server t).state) → IfSome r reading
      → IfSome (hear_reading r groups ask server t).reading reading
  hear_reading_so None groups ask server t answered fact = tt
  hear_reading_so (Some r) None ask server t answered fact = fact
  hear_reading_so (Some r) (Some groups) ask server t answered fact = answered r groups fact

  -- a call that goes on, and what it reads
  abbrev pub GoingSo : Going → Type 0
  GoingSo (On call) = IfSome call.reading reading
  GoingSo (Ends answer) = Unit {0}

  abbrev pub CallSo : Option Going → Type 0
  CallSo None = Unit {0}
  CallSo (Some g) = GoingSo g

  pub going_any : ((r : ReadingState) → reading r) → (going : Going) → GoingSo going
  going_any each (On call) = all_read reading each call.reading
  going_any each (Ends answer) = tt

  going_so : (p : PlanState) (n : Planned) → GoingSo (going_by p n)
  going_so p (Steps step) = tt
  going_so p (Reply answer) = tt

  pub next_so : (plan : Plan) (a : BlockAnswer) → GoingSo (plan_answered plan a)
  next_so One a = tt
  next_so (File p) a = going_so (plans.file_plan_answered p a) (plans.file_plan_next (plans.file_plan_answered p a))

  file_so : (call : FileCall) (number self : ℕ) → CallSo (file_call call number self)
  file_so call number self =
      by_test CallSo (may_make number self) _ None (λ _. going_so _ (plans.file_plan_next (plans.start call (plans.made_by number self)))) (λ _. tt)

  -- one that begins reads nothing yet
  pub begun_so : (w : Work) (number self : ℕ) → CallSo (call_of w number self)
  begun_so (work.Bput client block value) number self = tt
  begun_so (work.Bget client block) number self = tt
  begun_so (work.Sync client) number self = tt
  begun_so (work.File client call) number self = file_so call number self
  begun_so _ number self = tt
