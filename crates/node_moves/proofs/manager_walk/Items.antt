-- What a manager makes of its items, where what stands of it asks nothing while it doesn't serve, and its answers and its Hello may be said.
use Rattle.std.proofs.Common.{ℕ, [], ◌∷◌, Option, Some, None}
use Rattle.std.specs.List.{AllByRecursion}
use Rattle.manager_node.specs.declared.phase.Phase.{Phase}
use Rattle.manager_node.specs.declared.phase.Phase.TheVariants.{Down, Waiting, Serving as Serves}
use Rattle.manager_node.specs.Phases.{Went_to, serves, crash, restart, wish_at, down_wish, waiting_wish, serving_wish, with_begun, down_item, waiting_item, serving_item, begin_down, begin_waiting, begin_serving}
use Rattle.manager_slots.specs.declared.lasting.Lasting.{Lasting as Life}
use Rattle.manager_serving.specs.Checkpoints.{on_checkpoint}
use Rattle.manager_serving.specs.declared.serving.Serving.{Serving}
use Rattle.node_base.specs.Beginning.{next_item, work_at, answers_unanswered}
use Rattle.node_base.specs.declared.effects.Effect.{Effect}
use Rattle.node_base.specs.declared.effects.Effect.TheVariants.{Answer as Answers}
use Rattle.version_model.specs.declared.answer.Answer.{Answer}
use Rattle.version_model.specs.declared.answer.Answer.TheVariants as answer
use Rattle.version_model.specs.declared.work.Work.{Work}
use Rattle.version_model.specs.declared.work.Work.TheVariants as work
use Rattle.xfs_base.proofs.Alls.{all_append}
use Rattle.xfs_base.proofs.Leaving.{Leaves}

module _ (PhaseSo : Phase → Type 0) (Says : Effect → Type 0) (down : (life : Life) → PhaseSo (Down life))
    (waiting : (life : Life) (hello : ℕ) → PhaseSo (Waiting life hello)) (answers : (number : ℕ) (a : Answer) → Says (Answers number a))
    (greets : (life : Life) (number : ℕ) → AllByRecursion Says (restart life number).outs) where
  abbrev Goes : Went_to → Type 0
  Goes d = Leaves PhaseSo Says d

  one_said : (number : ℕ) (a : Answer) → AllByRecursion Says (Answers number a ∷ [])
  one_said number a = (answers number a, tt)

  unanswered_said : (item : Option ℕ) (a : Answer) → AllByRecursion Says (answers_unanswered item a)
  unanswered_said None a = tt
  unanswered_said (Some number) a = one_said number a

  crashes_on : (life : Life) (number : ℕ) → Goes (crash life number)
  unfolding crash
  crashes_on life number = record {
    state = down _;
    outs = all_append Says (answers_unanswered life.items.unanswered answer.Cut) (Answers number answer.Done ∷ [])
        (unanswered_said life.items.unanswered answer.Cut) (one_said number answer.Done);
  }

  restarts_on : (life : Life) (number : ℕ) → Goes (restart life number)
  unfolding restart
  restarts_on life number = record { state = waiting _ _; outs = greets life number }

  pub down_on : (life : Life) → Goes (begin_down life)
  unfolding begin_down
  down_on life = by (next_item life.items)
    where
      by_wish : (number : ℕ) (asked : Option Work) → Goes (down_wish (with_begun life) number (wish_at asked))
      by_wish number None = record { state = down _; outs = one_said number _ }
      by_wish number (Some (work.Restart node)) = restarts_on (with_begun life) number
      by_wish number (Some _) = record { state = down _; outs = one_said number _ }

      by : (item : Option ℕ) → Goes (down_item (with_begun life) item)
      by None = record { state = down _; outs = tt }
      by (Some number) = by_wish number (work_at (with_begun life).items number)

  pub waiting_on : (life : Life) (hello : ℕ) → Goes (begin_waiting life hello)
  unfolding begin_waiting
  waiting_on life hello = by (next_item life.items)
    where
      by_wish : (number : ℕ) (asked : Option Work) → Goes (waiting_wish (with_begun life) hello number (wish_at asked))
      by_wish number None = record { state = waiting _ _; outs = one_said number _ }
      by_wish number (Some (work.Crash node)) = crashes_on (with_begun life) number
      by_wish number (Some _) = record { state = waiting _ _; outs = one_said number _ }

      by : (item : Option ℕ) → Goes (waiting_item (with_begun life) hello item)
      by None = record { state = waiting _ _; outs = tt }
      by (Some number) = by_wish number (work_at (with_begun life).items number)

  -- one that serves has another item, and goes on so with its checkpoints
  pub serving_on : (s : Serving) → PhaseSo (Serves (record s { lasting = with_begun s.lasting }))
      → ((number : ℕ) → Goes (serves (on_checkpoint (record s { lasting = with_begun s.lasting }) number))) → Goes (begin_serving s)
  unfolding begin_serving
  serving_on s kept checkpoint = by (next_item s.lasting.items)
    where
      by_wish : (number : ℕ) (asked : Option Work) → Goes (serving_wish (record s { lasting = with_begun s.lasting }) number (wish_at asked))
      by_wish number None = checkpoint number
      by_wish number (Some (work.Crash node)) = crashes_on (with_begun s.lasting) number
      by_wish number (Some (work.Restart node)) = record { state = kept; outs = one_said number _ }
      by_wish number (Some _) = checkpoint number

      by : (item : Option ℕ) → Goes (serving_item (record s { lasting = with_begun s.lasting }) item)
      by None = record { state = kept; outs = tt }
      by (Some number) = by_wish number (work_at (with_begun s.lasting).items number)
