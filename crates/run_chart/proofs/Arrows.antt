-- Where a packet comes at a row that is drawn there is just one arrow, and nothing else is an arrow.
use Rattle.std.proofs.Common.{◌≡◌, ℕ, ◌+◌, Bool, true, false, cond, List, [], ◌∷◌, ◌++◌, filter, slice_get, Option, Some, None, refl, ap, ◌∙◌, append-nil}
use Rattle.std.specs.List.{flat_map}
use Rattle.core_world.specs.declared.any_node.AnyNode.{AnyNode}
use Rattle.version_model.specs.declared.act.Act.{Act}
use Rattle.wire_msg.specs.declared.packet.Packet.{Packet}
use Rattle.world_base.specs.declared.estate.Estate.{Estate}
use Rattle.world_base.specs.declared.event.Event.{Event}
use Rattle.world_base.specs.declared.event.Event.TheVariants.{Begin, Deliver, Tick}
use Rattle.xfs_base.proofs.Booleans.{by_test}
use Rattle.run_chart.specs.declared.mark.Mark.{Mark}
use Rattle.run_chart.specs.declared.mark.Mark.TheVariants as mark
use Rattle.run_chart.specs.declared.row.Row.{Row}
use Rattle.run_chart.specs.Marks.{ArrowsOnce, acts_from, arrow_at, comes, drawn_at, drawn_by, is_answer, is_arrow, labels_of, lost_from, marks_of, out_from, row_sent}
use Rattle.run_chart.specs.Stretches.{within}

abbrev arrows : List Mark → List Mark
arrows marks = filter is_arrow marks

arrows_append : (xs ys : List Mark) → arrows (xs ++ ys) ≡ arrows xs ++ arrows ys
arrows_append [] ys = refl
arrows_append (x ∷ xs) ys =
    elim (is_arrow x) as (λ t. cond t (x ∷ arrows (xs ++ ys)) (arrows (xs ++ ys)) ≡ cond t (x ∷ arrows xs) (arrows xs) ++ arrows ys) [
      | true ↦ ap (λ zs. x ∷ zs) (arrows_append xs ys)
      | false ↦ arrows_append xs ys
    ]

-- ---- no other mark is an arrow

none_out : (row column : ℕ) (serving : List Bool) → arrows (out_from row column serving) ≡ []
none_out row column [] = refl
none_out row column (true ∷ rest) = none_out row (column + 1) rest
none_out row column (false ∷ rest) = none_out row (column + 1) rest

none_lost : (coming : Packet → Bool) (row nth : ℕ) (packets : List Packet) → arrows (lost_from coming row nth packets) ≡ []
none_lost coming row nth [] = refl
none_lost coming row nth (packet ∷ packets) =
    by_test (λ (marks : List Mark). arrows (marks ++ lost_from coming row (nth + 1) packets) ≡ []) (coming packet) [] (mark.Lost row nth ∷ [])
    (λ _. none_lost coming row (nth + 1) packets) (λ _. none_lost coming row (nth + 1) packets)

none_done : (row nth : ℕ) (acts : List Act) → arrows (acts_from row nth acts) ≡ []
none_done row nth [] = refl
none_done row nth (act ∷ acts) =
    by_test (λ (marks : List Mark). arrows (marks ++ acts_from row (nth + 1) acts) ≡ []) (is_answer act) [] (mark.Done row nth ∷ [])
    (λ _. none_done row (nth + 1) acts) (λ _. none_done row (nth + 1) acts)

none_written : (rows : List Row) → arrows (labels_of rows) ≡ []
none_written [] = refl
none_written (row ∷ rows) = none_written rows

-- ---- an arrow is one

all_arrow : (sent : Packet → Option ℕ) (row : ℕ) (event : Option Event) → arrows (arrow_at sent row event) ≡ arrow_at sent row event
all_arrow sent row None = refl
all_arrow sent row (Some (Begin node)) = refl
all_arrow sent row (Some (Deliver packet)) = refl
all_arrow sent row (Some (Tick node)) = refl

module _ (e : Estate AnyNode) (rows : List Row) where
  abbrev its : Row → List Mark
  its row = arrow_at (row_sent rows) row.number (slice_get e.events row.event)

  at_row : (row : Row) → arrows (drawn_at e rows row) ≡ its row
  unfolding drawn_by
  at_row row =
      let out = out_from row.number 0 row.serving in
      let lost = lost_from (comes e.events) row.number 0 (within row.sent e.world.sent) in
      let done = acts_from row.number 0 (within row.acts e.world.acts) in
      arrows_append out (its row ++ (lost ++ done))
      ∙ ap (λ xs. xs ++ arrows (its row ++ (lost ++ done))) (none_out row.number 0 row.serving)
      ∙ arrows_append (its row) (lost ++ done)
      ∙ ap (λ xs. xs ++ arrows (lost ++ done)) (all_arrow (row_sent rows) row.number (slice_get e.events row.event))
      ∙ ap (λ xs. its row ++ xs)
      (arrows_append lost done
      ∙ ap (λ xs. xs ++ arrows done) (none_lost (comes e.events) row.number 0 (within row.sent e.world.sent))
      ∙ none_done row.number 0 (within row.acts e.world.acts))
      ∙ append-nil (its row)

  at_rows : (some : List Row) → arrows (flat_map (drawn_at e rows) some) ≡ flat_map its some
  at_rows [] = refl
  at_rows (row ∷ some) =
      arrows_append (drawn_at e rows row) (flat_map (drawn_at e rows) some)
      ∙ ap (λ xs. xs ++ arrows (flat_map (drawn_at e rows) some)) (at_row row)
      ∙ ap (λ xs. its row ++ xs) (at_rows some)

  pub arrows_once : ArrowsOnce e rows
  unfolding marks_of
  arrows_once =
      arrows_append (flat_map (drawn_at e rows) rows) (labels_of rows)
      ∙ ap (λ xs. xs ++ arrows (labels_of rows)) (at_rows rows)
      ∙ ap (λ xs. flat_map its rows ++ xs) (none_written rows)
      ∙ append-nil (flat_map its rows)
