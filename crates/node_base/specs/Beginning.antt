-- The items of a node: what is begun, and what is answered.
use Rattle.std.specs.Prelude.{ℕ, ◌+◌, ◌-◌, Bool, ◌&&◌, nat_lt, if◌then◌else◌, List, [], ◌∷◌, Option, Some, None, length, slice_get}
use Rattle.xfs_base.specs.Limits.{u32_end}
use Rattle.version_model.specs.declared.answer.Answer.{Answer}
use Rattle.version_model.specs.declared.work.Work.{Work}
use Rattle.node_base.specs.declared.effects.Effect.{Effect}
use Rattle.node_base.specs.declared.effects.Effect.TheVariants as effect
use Rattle.node_base.specs.declared.items.Items.{Items}

abbrev pub items_start : List Work → Items
items_start works = record { works = works; begun = 0; unanswered = None }

abbrev pub is_left : Items → Bool
is_left items = nat_lt items.begun (length items.works) && nat_lt items.begun u32_end

-- the number of the next item
abbrev pub next_item : Items → Option ℕ
next_item items = if is_left items then Some (items.begun + 1) else None

abbrev pub items_begin : Items → Items
items_begin items = if is_left items then record items { begun = items.begun + 1 } else items

-- what the item of this number asks for
abbrev pub work_at : Items → ℕ → Option Work
work_at items number = if nat_lt 0 number then slice_get items.works (number - 1) else None

-- the item of this number is not answered at its begin
abbrev pub items_wait : Items → ℕ → Items
items_wait items number = record items { unanswered = Some number }

abbrev pub items_answer : Items → Items
items_answer items = record items { unanswered = None }

-- the open item is answered, where there is one
abbrev pub answers_unanswered : Option ℕ → Answer → List Effect
answers_unanswered None answer = []
answers_unanswered (Some number) answer = effect.Answer number answer ∷ []
