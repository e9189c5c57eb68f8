-- The parts that will be named, the rows that were given out last and the pages that are left hold what the
-- checkpoint has to hold, after any inputs.
use Rattle.std.proofs.Common.{◌≡◌, ℕ, ◌+◌, true, false, cond, not, List, [], ◌∷◌, ◌++◌, Option, Some, None, is_some, length, take, drop, refl, sym, ap, ◌∙◌, subst, append_assoc, arith}
use Rattle.std.specs.Prelude.{◌==◌, ◌||◌, nat_lt}
use Rattle.std.proofs.lemmas.Bool.Decides.{nat_tests}
use Rattle.std.proofs.lemmas.List.{append-nil, take-append-drop}
use Rattle.xfs_base.specs.Steps.{Stepped, still}
use Rattle.xfs_base.specs.declared.segment.End.{End}
use Rattle.xfs_base.specs.declared.segment.LogId.{LogId}
use Rattle.xfs_base.specs.declared.segment.SegRef.{SegRef}
use Rattle.checkpoint.specs.declared.input.In.{In}
use Rattle.checkpoint.specs.declared.input.In.TheVariants.{Begin, Settled, Ack}
use Rattle.checkpoint.specs.declared.output.Out.{Out}
use Rattle.checkpoint.specs.declared.output.Out.TheVariants.{Kept, Stale}
use Rattle.checkpoint.specs.WriterState.{Rows, WorkState, WriterState, items_of}
use Rattle.checkpoint.specs.Transition.{part_at, is_idle, writer_finish, gives, go_on, settled, acked, answer, transition}
use Rattle.checkpoint.specs.Laws.{Asked, Run, rows_of, rows_in, rows_of_items, fresh, given_after, asked_after, after_input, after_inputs, run_of, SettlesAsGiven, AllSettleAsGiven, DoneAsAsked}

-- the checkpoint in hand will name what was asked for, once this much more is settled
record Owes (holds : SegRef → Rows) (w : WorkState) (given : Rows) (a : Asked) : Type 0 where
  slot : w.slot ≡ a.slot
  epoch : w.epoch ≡ a.epoch
  horizon : w.horizon ≡ a.horizon
  rows : rows_in holds w.parts ++ (given ++ rows_of w.left) ≡ a.rows

abbrev Holds : (SegRef → Rows) → Option WorkState → Rows → Asked → Type 0
Holds holds None given a = Unit {0}
Holds holds (Some w) given a = Owes holds w given a

rows_of-append : (ps qs : List Rows) → rows_of (ps ++ qs) ≡ rows_of ps ++ rows_of qs
rows_of-append [] qs = refl
rows_of-append (p ∷ ps) qs = ap (λ r. p ++ r) (rows_of-append ps qs) ∙ sym (append_assoc p (rows_of ps) (rows_of qs))

pub rows_in-append : (holds : SegRef → Rows) (ps qs : List SegRef) → rows_in holds (ps ++ qs) ≡ rows_in holds ps ++ rows_in holds qs
rows_in-append holds [] qs = refl
rows_in-append holds (p ∷ ps) qs = ap (λ r. holds p ++ r) (rows_in-append holds ps qs) ∙ sym (append_assoc (holds p) (rows_in holds ps) (rows_in holds qs))

items_rows : (slot : ℕ) (pages : List Rows) → rows_of_items (items_of slot pages) ≡ rows_of pages
items_rows slot [] = refl
items_rows slot (p ∷ ps) = ap (λ r. p ++ r) (items_rows slot ps)

-- what is given out, and what is left then
split : (slot : ℕ) (left : List Rows) → rows_of_items (items_of slot (take 24 left)) ++ rows_of (drop 24 left) ≡ rows_of left
split slot left =
    ap (λ r. r ++ rows_of (drop 24 left)) (items_rows slot (take 24 left)) ∙ sym (rows_of-append (take 24 left) (drop 24 left))
    ∙ ap rows_of (take-append-drop 24 left)

-- a step that names only what was asked for, and after which what was asked for is owed
abbrev Good : (SegRef → Rows) → Asked → Rows → Stepped WriterState Out → Type 0
Good holds a given d = DoneAsAsked holds a d.outs × Holds holds d.state.work (given_after given d.outs) a

module _ (holds : SegRef → Rows) (a : Asked) where
  -- a checkpoint goes on with nothing in flight
  goes : (s : WriterState) (slot epoch : ℕ) (left : List Rows) (parts : List SegRef) (horizon : List ℕ) (given : Rows)
      → Owes holds (record { slot = slot; epoch = epoch; left = left; parts = parts; horizon = horizon }) [] a
      → Good holds a given (go_on s (record { slot = slot; epoch = epoch; left = left; parts = parts; horizon = horizon }))
  goes s slot epoch [] parts horizon given o = ((o.slot, o.epoch, o.horizon, sym (append-nil (rows_in holds parts)) ∙ o.rows, tt), tt)
  goes s slot epoch (page ∷ left) parts horizon given o =
      let w : WorkState = record { slot = slot; epoch = epoch; left = page ∷ left; parts = parts; horizon = horizon } in
      let some : (length (page ∷ left) == 0) ≡ false = grind (arith, nat_tests) in
      subst (λ t. Good holds a given (cond t (writer_finish s w) (gives s w))) (sym some)
      (tt, record { slot = o.slot; epoch = o.epoch; horizon = o.horizon; rows = ap (λ r. rows_in holds parts ++ r) (split slot (page ∷ left)) ∙ o.rows })

  goes_on : (s : WriterState) (w : WorkState) (given : Rows) → Owes holds w [] a → Good holds a given (go_on s w)
  goes_on s w given o = goes s w.slot w.epoch w.left w.parts w.horizon given o

  -- a segment settles that holds what was given out for it
  settles : (s : WriterState) (work : Option WorkState) (given : Rows) (end : End) → (is_some work ≡ true → holds (part_at s.log end) ≡ given) → work ≡ s.work
      → Holds holds work given a
      → Good holds a given (settled s work end)
  settles s None given end fact here h = (tt, subst (λ o. Holds holds o given a) here h)
  settles s (Some w) given end fact here o =
      goes_on s (record w { parts = w.parts ++ part_at s.log end ∷ [] }) given (record {
        slot = o.slot;
        epoch = o.epoch;
        horizon = o.horizon;
        rows = ap (λ r. r ++ rows_of w.left)
            (rows_in-append holds w.parts (part_at s.log end ∷ []) ∙ ap (λ r. rows_in holds w.parts ++ r) (append-nil (holds (part_at s.log end)) ∙ fact refl))
            ∙ append_assoc (rows_in holds w.parts) given (rows_of w.left) ∙ o.rows;
      })

  -- an answer changes nothing of what is written
  answers : (s : WriterState) (own : Option ℕ) (epoch number : ℕ) (given : Rows) → Holds holds s.work given a → Good holds a given (acked s own epoch number)
  answers s None epoch number given h = (tt, h)
  answers s (Some own) epoch number given h =
      elim (not (number == s.number) || nat_lt epoch own) as
      (λ t. Good holds a given (cond t (still s) (record { state = record s { asked = None }; outs = answer own epoch ∷ [] }))) [
        | true ↦ (tt, h)
        | false ↦ elim (epoch == own) as
            (λ u. DoneAsAsked holds a (cond u Kept (Stale epoch) ∷ []) × Holds holds s.work (given_after given (cond u Kept (Stale epoch) ∷ [])) a)
            [ true ↦ (tt, h) | false ↦ (tt, h) ]
      ]

kept_one : (holds : SegRef → Rows) (r : Run) (input : In) → SettlesAsGiven holds r input → Holds holds r.state.work r.given r.asked
    → Good holds (asked_after holds r input) r.given (transition r.state input)
kept_one holds r (Begin slot epoch pages parts horizon) fact h =
    let asked : Asked = record { slot = slot; epoch = epoch; horizon = horizon; rows = rows_in holds parts ++ rows_of pages } in
    let work : WorkState = record { slot = slot; epoch = epoch; left = pages; parts = parts; horizon = horizon } in
    let next : WriterState = record r.state { number = r.state.number + 1 } in
    elim (is_idle r.state) as (λ t. Good holds (cond t asked r.asked) r.given (cond t (go_on next work) (still r.state))) [
      | true ↦ goes_on holds asked next work r.given (record { slot = refl; epoch = refl; horizon = refl; rows = refl })
      | false ↦ (tt, h)
    ]
kept_one holds r (Settled end) fact h = settles holds r.asked r.state r.state.work r.given end fact refl h
kept_one holds r (Ack epoch number) fact h = answers holds r.asked r.state r.state.asked epoch number r.given h

all_kept : (holds : SegRef → Rows) (r : Run) (inputs : List In) → AllSettleAsGiven holds r inputs → Holds holds r.state.work r.given r.asked
    → Holds holds (after_inputs holds r inputs).state.work (after_inputs holds r inputs).given (after_inputs holds r inputs).asked
all_kept holds r [] all h = h
all_kept holds r (input ∷ inputs) all h = all_kept holds (after_input holds r input) inputs all.1 (kept_one holds r input all.0 h).1

pub done_as_asked : (holds : SegRef → Rows) (log : LogId) (inputs : List In) (input : In) → AllSettleAsGiven holds (fresh log) inputs
    → SettlesAsGiven holds (run_of holds log inputs) input
    → DoneAsAsked holds (after_input holds (run_of holds log inputs) input).asked (transition (run_of holds log inputs).state input).outs
done_as_asked holds log inputs input all fact = (kept_one holds (run_of holds log inputs) input fact (all_kept holds (fresh log) inputs all tt)).0
