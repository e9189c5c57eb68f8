-- Where a manager stands, and what its next item makes of it.
use Rattle.std.specs.Prelude.{ℕ, Bool, true, false, [], ◌∷◌, ◌++◌, Option, Some, None}
use Rattle.log_owner.specs.Sending.{hello}
use Rattle.manager_slots.specs.declared.lasting.Lasting.{Lasting as Kept}
use Rattle.manager_slots.specs.Lasting.{lasting_has_room, lasting_answer}
use Rattle.manager_slots.specs.Numbers.{risen}
use Rattle.manager_serving.specs.Checkpoints.{Done, on_checkpoint}
use Rattle.manager_serving.specs.declared.serving.Serving.{Serving}
use Rattle.manager_serving.specs.Serving.{serving_has_room}
use Rattle.node_base.specs.Asking.{next_ask, draw}
use Rattle.node_base.specs.Beginning.{next_item, items_begin, items_start, work_at, answers_unanswered}
use Rattle.node_base.specs.declared.effects.Effect.{Effect}
use Rattle.node_base.specs.declared.effects.Effect.TheVariants.{Answer as Answers}
use Rattle.version_model.specs.declared.answer.Answer.{Answer}
use Rattle.version_model.specs.declared.answer.Answer.TheVariants as answer
use Rattle.version_model.specs.declared.work.Work.{Work}
use Rattle.version_model.specs.declared.work.Work.TheVariants as work
use Rattle.xfs_base.specs.Steps.{Stepped, still}
use Rattle.manager_node.specs.declared.beginning.Wish.{Wish}
use Rattle.manager_node.specs.declared.beginning.Wish.TheVariants.{Crash, Restart, Checkpoint}
use Rattle.manager_node.specs.declared.phase.Phase.{Phase}
use Rattle.manager_node.specs.declared.phase.Phase.TheVariants.{Down, Waiting, Serving as Serves}

-- the phase of a manager after an event, and what the event has it do
abbrev pub Went_to : Type 0
Went_to = Stepped Phase Effect

-- whether a manager serves: it neither is down nor awaits its Welcome
abbrev pub is_serving : Phase → Bool
is_serving (Down kept) = false
is_serving (Waiting kept hello) = false
is_serving (Serves s) = true

-- a manager that is down and has nothing to do
abbrev pub idle : Phase
idle = Down (record { number = 1; inc = 1; questions = record { last = 0 }; items = items_start [] })

-- what outlives a crash
abbrev pub lasting_of : Phase → Kept
lasting_of (Down kept) = kept
lasting_of (Waiting kept hello) = kept
lasting_of (Serves s) = s.lasting

-- what a manager has that awaits its Welcome
abbrev pub waiting_of : Phase → Option (Kept × ℕ)
waiting_of (Down kept) = None
waiting_of (Waiting kept hello) = Some (kept, hello)
waiting_of (Serves s) = None

-- each counter is at least 65,536 below its end
abbrev pub phase_has_room : Phase → Bool
phase_has_room (Down kept) = lasting_has_room kept
phase_has_room (Waiting kept hello) = lasting_has_room kept
phase_has_room (Serves s) = serving_has_room s

-- it serves, and this is what was done
abbrev pub serves : Done → Went_to
serves d = record { state = Serves d.state; outs = d.outs }

-- ---- crash and restart

-- all is lost but what outlives a crash; the item that is open is cut
unfoldable pub crash : Kept → ℕ → Went_to
crash kept number = record {
  state = Down (lasting_answer kept);
  outs = answers_unanswered kept.items.unanswered answer.Cut ++ Answers number answer.Done ∷ [];
}

abbrev pub next_life : Kept → Kept
next_life kept = record kept { inc = risen kept.inc; questions = draw kept.questions }

-- the next incarnation begins: it asks for the maps
unfoldable pub restart : Kept → ℕ → Went_to
restart kept number = record {
  state = Waiting (next_life kept) (next_ask kept.questions);
  outs = Answers number answer.Done ∷ hello (risen kept.inc) (next_ask kept.questions) ∷ [];
}

-- ---- the next item

abbrev pub wish_in : Work → Wish
wish_in (work.Crash node) = Crash
wish_in (work.Restart node) = Restart
wish_in _ = Checkpoint

abbrev pub wish_at : Option Work → Wish
wish_at None = Checkpoint
wish_at (Some asked) = wish_in asked

-- what the item of this number asks for
abbrev pub wish_of : Kept → ℕ → Wish
wish_of kept number = wish_at (work_at kept.items number)

abbrev pub manager_answer : Phase → ℕ → Answer → Went_to
manager_answer p number a = record { state = p; outs = Answers number a ∷ [] }

-- while it is down, all but a restart is refused
abbrev pub down_wish : Kept → ℕ → Wish → Went_to
down_wish kept number Restart = restart kept number
down_wish kept number Crash = manager_answer (Down kept) number answer.Down
down_wish kept number Checkpoint = manager_answer (Down kept) number answer.Down

-- while it awaits its Welcome it manages no slot
abbrev pub waiting_wish : Kept → ℕ → ℕ → Wish → Went_to
waiting_wish kept hello number Crash = crash kept number
waiting_wish kept hello number Restart = manager_answer (Waiting kept hello) number answer.Up
waiting_wish kept hello number Checkpoint = manager_answer (Waiting kept hello) number (answer.Count 0)

abbrev pub serving_wish : Serving → ℕ → Wish → Went_to
serving_wish s number Crash = crash s.lasting number
serving_wish s number Restart = manager_answer (Serves s) number answer.Up
serving_wish s number Checkpoint = serves (on_checkpoint s number)

abbrev pub with_begun : Kept → Kept
with_begun kept = record kept { items = items_begin kept.items }

abbrev pub down_item : Kept → Option ℕ → Went_to
down_item kept None = still (Down kept)
down_item kept (Some number) = down_wish kept number (wish_of kept number)

abbrev pub waiting_item : Kept → ℕ → Option ℕ → Went_to
waiting_item kept hello None = still (Waiting kept hello)
waiting_item kept hello (Some number) = waiting_wish kept hello number (wish_of kept number)

abbrev pub serving_item : Serving → Option ℕ → Went_to
serving_item s None = still (Serves s)
serving_item s (Some number) = serving_wish s number (wish_of s.lasting number)

unfoldable pub begin_down : Kept → Went_to
begin_down kept = down_item (with_begun kept) (next_item kept.items)

unfoldable pub begin_waiting : Kept → ℕ → Went_to
begin_waiting kept hello = waiting_item (with_begun kept) hello (next_item kept.items)

unfoldable pub begin_serving : Serving → Went_to
begin_serving s = serving_item (record s { lasting = with_begun s.lasting }) (next_item s.lasting.items)

-- Begin
abbrev pub on_begin : Phase → Went_to
on_begin (Down kept) = begin_down kept
on_begin (Waiting kept hello) = begin_waiting kept hello
on_begin (Serves s) = begin_serving s
