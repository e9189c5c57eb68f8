-- What becomes of a client's log keeps what the client asks for as it is needed.
use Rattle.std.proofs.Common.{Bool, ◌&&◌, not, List, Option, Some, None, refl}
use Rattle.std.specs.List.{fold, list_any}
use Rattle.client_log.specs.declared.input.In as log_in
use Rattle.client_log.specs.declared.output.Out as log_out
use Rattle.client_log.specs.declared.output.Out.TheVariants.{Send, Settled}
use Rattle.client_log.specs.Transition as log
use Rattle.log_owner.specs.Sealing.{is_settling}
use Rattle.xfs_base.specs.declared.block.BlockId.{BlockId}
use Rattle.xfs_base.specs.declared.entry.Entry.{Entry}
use Rattle.xfs_base.specs.declared.segment.End.{End}
use Rattle.xfs_base.specs.Modes.{is_held}
use Rattle.xfs_base.specs.Steps.{steps, still}
use Rattle.xfs_base.proofs.Booleans.{by_test}
use Rattle.token_client.specs.declared.held.Giving.{Giving}
use Rattle.token_client.specs.declared.input.In.TheVariants as input
use Rattle.token_client.specs.Held.{is_dirty}
use Rattle.token_client.specs.Settling.{is_giving}
use Rattle.token_client.specs.State.{dirty_in}
use Rattle.client_serving.specs.declared.serving.Serving.{Serving}
use Rattle.client_serving.specs.Flights.{feeds, give_if_clean, gives_up, held_at, keep_row, notes_settled, seals_again, settle_rows, serving_settle, serving_write, write_one}
use Rattle.client_serving.specs.Follow.{note_clean, serving_seal}
use Rattle.client_serving.specs.Sends.{Done}
use Rattle.node_slots.proofs.node_tie.AsksBlock.{Need}
use Rattle.node_slots.proofs.node_tie.AsksFrames.{Keeps, keeps_same, keeps_through, steps_keep, fold_keeps, takes-keeps}
use Rattle.node_slots.proofs.node_tie.AsksFollow.{note_clean-keeps, serving_seal-keeps, take_back-keeps}

module _ (n : Need) where
  notes_settled-keeps : (s : Serving) (row : BlockId × Entry) → Keeps n s (notes_settled s row)
  unfolding notes_settled
  notes_settled-keeps s row = takes-keeps n s (input.Settled row.0 row.1.ver) tt

  keep_row-keeps : (s : Serving) (row : BlockId × Entry) → Keeps n s (keep_row s row)
  unfolding keep_row
  keep_row-keeps s row =
      by_test (Keeps n s) (not (is_dirty (held_at s row.0)) && is_held (held_at s row.0).mode) (note_clean s row.0) s (λ t. note_clean-keeps n s row.0)
      (λ t. keeps_same n s)

  gives_up-keeps : (s : Serving) (block : BlockId) (g : Option Giving) → Keeps n s (gives_up s block g).state
  gives_up-keeps s block None = keeps_same n s
  gives_up-keeps s block (Some g) = take_back-keeps n s block g.stamp g.keep

  give_if_clean-keeps : (s : Serving) (block : BlockId) → Keeps n s (give_if_clean s block).state
  unfolding give_if_clean
  give_if_clean-keeps s block =
      by_test (λ (d : Done). Keeps n s d.state) (is_dirty (held_at s block)) (still s) (gives_up s block (held_at s block).giving) (λ t. keeps_same n s)
      (λ t. gives_up-keeps s block (held_at s block).giving)

  settle_rows-keeps : (s : Serving) (rows : List (BlockId × Entry)) → Keeps n s (settle_rows s rows)
  settle_rows-keeps s rows =
      let t : Serving = fold notes_settled s rows in
      keeps_through n s t (fold keep_row t rows) (fold_keeps n notes_settled notes_settled-keeps s rows) (fold_keeps n keep_row keep_row-keeps t rows)

  serving_settle-keeps : (s : Serving) (end : End) (rows : List (BlockId × Entry)) → Keeps n s (serving_settle s end rows).state
  unfolding serving_settle
  serving_settle-keeps s end rows =
      let t : Serving = settle_rows s rows in
      let fed : Serving = feeds t end rows in
      keeps_through n s fed (steps give_if_clean fed (dirty_in s.tokens.blocks)).state
      (keeps_through n s t fed (settle_rows-keeps s rows) (λ a. record { asks = a; call = refl; item = refl }))
      (steps_keep n give_if_clean give_if_clean-keeps fed (dirty_in s.tokens.blocks))

  write_one-keeps : (s : Serving) (o : log_out.Out) → Keeps n s (write_one s o).state
  unfolding write_one
  write_one-keeps s (Send fragment member) = keeps_same n s
  write_one-keeps s (Settled end rows) = serving_settle-keeps s end rows

  seals_again-keeps : (s : Serving) (settling : Bool) → Keeps n s (seals_again s settling).state
  seals_again-keeps s settling =
      by_test (λ (d : Done). Keeps n s d.state) (settling && is_giving s.tokens) (serving_seal s) (still s) (λ t. serving_seal-keeps n s) (λ t. keeps_same n s)

  -- the log takes an input, and what it says is done
  pub serving_write-keeps : (s : Serving) (i : log_in.In) → Keeps n s (serving_write s i).state
  unfolding serving_write
  serving_write-keeps s i =
      let t : Serving = record s { log = (log.transition s.log i).state } in
      let outs : List log_out.Out = (log.transition s.log i).outs in
      let u : Serving = (steps write_one t outs).state in
      keeps_through n s u (seals_again u (list_any is_settling outs)).state
      (keeps_through n s t u (λ a. record { asks = a; call = refl; item = refl }) (steps_keep n write_one write_one-keeps t outs))
      (seals_again-keeps u (list_any is_settling outs))
