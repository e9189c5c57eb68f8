-- The numbers of questions.
use Rattle.std.specs.Prelude.{ℕ, ◌+◌, ◌==◌, ◌&&◌, not, nat_lt, if◌then◌else◌, Option, Some, None}
use Rattle.xfs_base.specs.Limits.{u32_end}
use Rattle.node_base.specs.declared.questions.Questions.{Questions}
use Rattle.node_base.specs.declared.questions.Asked.{Asked}

-- the number of a new question
abbrev pub next_ask : Questions → ℕ
next_ask q = if nat_lt q.last u32_end then q.last + 1 else q.last

abbrev pub draw : Questions → Questions
draw q = record { last = next_ask q }

-- the machine's question is out under this number: the same one, or a new one
abbrev pub number_for : Asked → Questions → ℕ → ℕ
number_for asked q own = if own == asked.own then asked.ask else next_ask q

abbrev pub asked_as : Asked → Questions → ℕ → Asked
asked_as asked q own = record { own = own; ask = number_for asked q own }

abbrev pub drawn_for : Asked → Questions → ℕ → Questions
drawn_for asked q own = if own == asked.own then q else draw q

-- the machine's number of the question that is answered
abbrev pub own_of : Asked → ℕ → Option ℕ
own_of asked ask = if not (asked.own == 0) && (ask == asked.ask) then Some asked.own else None
