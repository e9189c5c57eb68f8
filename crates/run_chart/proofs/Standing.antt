-- Each mark stands at a row of its picture.
use Rattle.std.proofs.Common.{◌≡◌, ◌<◌, ◌≤◌, ℕ, ◌+◌, Bool, true, false, List, [], ◌∷◌, ◌++◌, length, slice_get, Option, Some, None, arith}
use Rattle.std.specs.List.{AllByRecursion, flat_map}
use Rattle.core_world.specs.declared.any_node.AnyNode.{AnyNode}
use Rattle.version_model.specs.declared.act.Act.{Act}
use Rattle.wire_msg.specs.declared.packet.Packet.{Packet}
use Rattle.world_base.specs.declared.estate.Estate.{Estate}
use Rattle.world_base.specs.declared.event.Event.{Event}
use Rattle.world_base.specs.declared.event.Event.TheVariants.{Begin, Deliver, Tick}
use Rattle.xfs_base.proofs.Alls.{all_append}
use Rattle.xfs_base.proofs.Booleans.{by_test}
use Rattle.run_chart.specs.declared.mark.Mark.{Mark}
use Rattle.run_chart.specs.declared.mark.Mark.TheVariants as mark
use Rattle.run_chart.specs.declared.row.Row.{Row}
use Rattle.run_chart.specs.Marks.{MarksStandAtRows, acts_from, arrow_at, comes, drawn_at, drawn_by, is_answer, labels_of, lost_from, marks_of, out_from, row_of, row_sent}
use Rattle.run_chart.specs.Rows.{NumberedFrom}
use Rattle.run_chart.specs.Stretches.{within}

module _ (limit : ℕ) where
  abbrev Stands : Mark → Type 0
  Stands m = row_of m < limit

  abbrev All : List Mark → Type 0
  All marks = AllByRecursion Stands marks

  module _ (row : ℕ) (low : row < limit) where
    outs : (column : ℕ) (serving : List Bool) → All (out_from row column serving)
    outs column [] = tt
    outs column (true ∷ rest) = outs (column + 1) rest
    outs column (false ∷ rest) = (low, outs (column + 1) rest)

    losts : (coming : Packet → Bool) (nth : ℕ) (packets : List Packet) → All (lost_from coming row nth packets)
    losts coming nth [] = tt
    losts coming nth (packet ∷ packets) =
        by_test (λ (marks : List Mark). All (marks ++ lost_from coming row (nth + 1) packets)) (coming packet) [] (mark.Lost row nth ∷ [])
        (λ _. losts coming (nth + 1) packets) (λ _. (low, losts coming (nth + 1) packets))

    dones : (nth : ℕ) (acts : List Act) → All (acts_from row nth acts)
    dones nth [] = tt
    dones nth (act ∷ acts) =
        by_test (λ (marks : List Mark). All (marks ++ acts_from row (nth + 1) acts)) (is_answer act) [] (mark.Done row nth ∷ [])
        (λ _. dones (nth + 1) acts) (λ _. (low, dones (nth + 1) acts))

    arrows : (sent : Packet → Option ℕ) (event : Option Event) → All (arrow_at sent row event)
    arrows sent None = tt
    arrows sent (Some (Begin node)) = tt
    arrows sent (Some (Deliver packet)) = (low, tt)
    arrows sent (Some (Tick node)) = tt

module _ (e : Estate AnyNode) (rows : List Row) where
  abbrev total : ℕ
  total = length rows

  at_row : (row : Row) → row.number < total → All total (drawn_at e rows row)
  unfolding drawn_by
  at_row row low =
      let arrow = arrow_at (row_sent rows) row.number (slice_get e.events row.event) in
      let lost = lost_from (comes e.events) row.number 0 (within row.sent e.world.sent) in
      let done = acts_from row.number 0 (within row.acts e.world.acts) in
      all_append (Stands total) (out_from row.number 0 row.serving) (arrow ++ (lost ++ done)) (outs total row.number low 0 row.serving)
      (all_append (Stands total) arrow (lost ++ done) (arrows total row.number low (row_sent rows) (slice_get e.events row.event))
      (all_append (Stands total) lost done (losts total row.number low (comes e.events) 0 (within row.sent e.world.sent))
      (dones total row.number low 0 (within row.acts e.world.acts))))

  at_rows : (n : ℕ) (some : List Row) → NumberedFrom n some → n + length some ≤ total → All total (flat_map (drawn_at e rows) some)
  at_rows n [] t le = tt
  at_rows n (row ∷ some) t le =
      let here : row.number ≡ n = t.0 in
      let low : row.number < total = omega arith in
      all_append (Stands total) (drawn_at e rows row) (flat_map (drawn_at e rows) some) (at_row row low) (at_rows (n + 1) some t.1 (omega arith))

  labels : (n : ℕ) (some : List Row) → NumberedFrom n some → n + length some ≤ total → All total (labels_of some)
  labels n [] t le = tt
  labels n (row ∷ some) t le =
      let here : row.number ≡ n = t.0 in
      (omega arith, labels (n + 1) some t.1 (omega arith))

pub stand_at_rows : MarksStandAtRows
unfolding marks_of
stand_at_rows e rows numbered =
    all_append (Stands (length rows)) (flat_map (drawn_at e rows) rows) (labels_of rows) (at_rows e rows 0 rows numbered (omega arith))
    (labels e rows 0 rows numbered (omega arith))
