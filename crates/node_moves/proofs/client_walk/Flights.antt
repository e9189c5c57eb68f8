-- What a client that serves does once its log takes an input: where the segment that was in flight is settled it is acted to be filed.
use Rattle.std.proofs.Common.{◌≡◌, ⊎_elim, ◌&&◌, not, Bool, List, [], ◌∷◌, Option, Some, None, sym, subst}
use Rattle.std.specs.Prelude.{fold}
use Rattle.std.specs.List.{AllByRecursion, list_any}
use Rattle.client_log.specs.declared.input.In.{In as Input}
use Rattle.client_log.specs.declared.output.Out.{Out}
use Rattle.client_log.specs.declared.output.Out.TheVariants.{Send, Settled}
use Rattle.client_log.specs.LogState.{LogState}
use Rattle.client_log.specs.Transition.{end_of}
use Rattle.client_log.specs.Transition as log
use Rattle.client_serving.specs.declared.serving.Serving.{Serving}
use Rattle.client_serving.specs.Flights.{held_at, notes_settled, keep_row, gives_up, give_if_clean, feeds, settle_rows, serving_settle, write_one, seals_again, serving_write}
use Rattle.client_serving.specs.Follow.{note_clean, serving_seal}
use Rattle.client_serving.specs.Lasting.{log_of}
use Rattle.client_serving.specs.Sends.{Done, gives}
use Rattle.log_flight.specs.Flights.{FlightState}
use Rattle.log_owner.specs.Sealing.{is_settling}
use Rattle.log_owner.specs.Sending.{store, name_of, push_all}
use Rattle.node_base.specs.declared.effects.Effect.TheVariants.{Does}
use Rattle.segment_format.specs.Rows.{rows_of}
use Rattle.token_client.specs.declared.input.In.TheVariants as input
use Rattle.token_client.specs.declared.held.Giving.{Giving}
use Rattle.token_client.specs.Held.{is_dirty}
use Rattle.token_client.specs.Settling.{is_giving}
use Rattle.token_client.specs.State.{dirty_in}
use Rattle.version_model.specs.declared.act.Act.TheVariants.{Filed}
use Rattle.xfs_base.proofs.Booleans.{by_test}
use Rattle.xfs_base.specs.declared.block.BlockId.{BlockId}
use Rattle.xfs_base.specs.declared.entry.Entry.{Entry}
use Rattle.xfs_base.specs.declared.segment.End.{End}
use Rattle.xfs_base.specs.Modes.{is_held}
use Rattle.xfs_base.specs.Steps.{still, saying, steps}
use Rattle.node_moves.proofs.client_walk.Frames as frames
use Rattle.node_moves.proofs.client_walk.LogTurns.{IsSend, Rests, Lands, Turns, log_turns}
use Rattle.node_moves.proofs.client_walk.Laws.{Walk}
use Rattle.node_moves.proofs.client_walk.Tokens as serving

module _ (w : Walk) where
  abbrev At : Serving → Type 0
  At s = w.Stands s

  abbrev Goes : Done → Type 0
  Goes d = serving.Goes w d

  -- ---- a segment is settled

  notes_settled_so : (s : Serving) (row : BlockId × Entry) → At s → At (notes_settled s row)
  unfolding notes_settled
  notes_settled_so s row h = w.tokens s (input.Settled row.0 row.1.ver) tt h

  keep_row_so : (s : Serving) (row : BlockId × Entry) → At s → At (keep_row s row)
  unfolding keep_row
  keep_row_so s row h =
      by_test (λ (t : Serving). At t) (not (is_dirty (held_at s row.0)) && is_held (held_at s row.0).mode) (note_clean s row.0) s
      (λ t. serving.note_clean_so w s row.0 h) (λ t. h)

  gives_up_so : (s : Serving) (block : BlockId) (giving : Option Giving) → At s → Goes (gives_up s block giving)
  gives_up_so s block None h = serving.still_so w s h
  gives_up_so s block (Some giving) h = serving.take_back_so w s block giving.stamp giving.keep h

  pub give_if_clean_so : (s : Serving) (block : BlockId) → At s → Goes (give_if_clean s block)
  unfolding give_if_clean
  give_if_clean_so s block h =
      by_test (λ (d : Done). Goes d) (is_dirty (held_at s block)) (still s) (gives_up s block (held_at s block).giving)
      (λ t. serving.still_so w s h) (λ t. gives_up_so s block (held_at s block).giving h)

  pub settle_rows_so : (s : Serving) (rows : List (BlockId × Entry)) → At s → At (settle_rows s rows)
  settle_rows_so s rows h =
      frames.stands_fold w.Says w.Acted w.Stands keep_row keep_row_so (fold notes_settled s rows) rows
      (frames.stands_fold w.Says w.Acted w.Stands notes_settled notes_settled_so s rows h)

  -- of a segment that was filed
  serving_settle_so : (s : Serving) (end : End) (rows : List (BlockId × Entry)) → At s → w.Landed end rows → Goes (serving_settle s end rows)
  unfolding serving_settle
  serving_settle_so s end rows h filed =
      let t : Serving = settle_rows s rows in
      let k : At t = settle_rows_so s rows h in
      let fed : Serving = feeds t end rows in
      let at : At fed = w.fed t end rows filed k in
      frames.goes_after w.Says w.Acted w.Stands (Does (Filed (name_of (log_of s.lasting) end)) ∷ push_all fed.managers fed.feed)
      (steps give_if_clean fed (dirty_in s.tokens.blocks))
      (w.files (name_of (log_of s.lasting) end) end rows filed, w.all_pushed fed at)
      (frames.goes_steps w.Says w.Acted w.Stands give_if_clean give_if_clean_so fed (dirty_in s.tokens.blocks) at)

  -- ---- the log took an input

  pub sends_so : (s : Serving) (outs : List Out) → At s → AllByRecursion IsSend outs → Goes (steps write_one s outs)
  unfolding write_one
  sends_so s [] h all = serving.still_so w s h
  sends_so s (Send fragment member ∷ outs) h all =
      frames.goes_on w.Says w.Acted w.Stands (gives s (store fragment member ∷ [])) (steps write_one s outs)
      (serving.plain_so w s (store fragment member ∷ []) h (w.stores fragment member, tt))
      (λ k. sends_so s outs k all.1)
  sends_so s (Settled end rows ∷ outs) h all = absurd all.0

  pub seals_again_so : (s : Serving) (settling : Bool) → At s → Goes (seals_again s settling)
  seals_again_so s settling h =
      by_test (λ (d : Done). Goes d) (settling && is_giving s.tokens) (serving_seal s) (still s) (λ t. serving.serving_seal_so w s h)
      (λ t. serving.still_so w s h)

  -- what it said is done
  abbrev pub said : Serving → List Out → Done
  said s outs = (let d : Done = steps write_one s outs in saying d.outs (seals_again d.state (list_any is_settling outs)))

  said_so : (s : Serving) (outs : List Out) → Goes (steps write_one s outs) → Goes (said s outs)
  said_so s outs p =
      let d : Done = steps write_one s outs in
      frames.goes_on w.Says w.Acted w.Stands d (seals_again d.state (list_any is_settling outs)) p (λ k. seals_again_so d.state (list_any is_settling outs) k)

  -- the segment is told first: it is acted to be filed
  lands_so : (s : Serving) (l : LogState) (f : FlightState) (rest : List Out) → At s → l.end ≡ end_of f.segment → s.log.flight ≡ Some f
      → w.Owed s.lasting s.log → AllByRecursion IsSend rest
      → Goes (steps write_one (record s { log = l }) (Settled (end_of f.segment) (rows_of f.segment) ∷ rest))
  unfolding write_one serving_settle
  lands_so s l f rest h ends flew owed all acts =
      let t : Serving = record s { log = l } in
      let end : End = end_of f.segment in
      let rows : List (BlockId × Entry) = rows_of f.segment in
      let filed : w.Landed end rows = w.landed s f flew owed acts.0 h in
      let at : At t = w.lands s l rows (subst (λ e. w.Landed e rows) (sym ends) filed) h in
      frames.goes_on w.Says w.Acted w.Stands (serving_settle t end rows) (steps write_one (serving_settle t end rows).state rest) (serving_settle_so t end rows at filed)
      (λ k. sends_so (serving_settle t end rows).state rest k all) acts

  writes_from : (s : Serving) (i : Input) → At s → w.Owed s.lasting s.log → Turns s.log (log.transition s.log i)
      → Goes (said (record s { log = (log.transition s.log i).state }) (log.transition s.log i).outs)
  writes_from s i h owed turns =
      let r : log.Done = log.transition s.log i in
      let t : Serving = record s { log = r.state } in
      ⊎_elim
      (λ (rests : Rests s.log.end r). said_so t r.outs (sends_so t r.outs (w.rests s i rests.same h) rests.sends))
      (λ (lands : Lands s.log.flight r). subst (λ outs. Goes (said t outs)) (sym lands.outs)
      (said_so t (Settled (end_of lands.flight.segment) (rows_of lands.flight.segment) ∷ lands.rest)
      (lands_so s r.state lands.flight lands.rest h lands.ends lands.flew owed lands.sends)))
      turns

  -- any input
  pub serving_write_so : (s : Serving) (i : Input) → At s → w.Owed s.lasting s.log → Goes (serving_write s i)
  unfolding serving_write
  serving_write_so s i h owed = writes_from s i h owed (log_turns s.log i)

  -- an input by which nothing is settled
  pub rests_so : (s : Serving) (i : Input) → At s → Rests s.log.end (log.transition s.log i) → Goes (serving_write s i)
  unfolding serving_write
  rests_so s i h rests =
      let t : Serving = record s { log = (log.transition s.log i).state } in
      said_so t (log.transition s.log i).outs
      (sends_so t (log.transition s.log i).outs (w.rests s i rests.same h) rests.sends)
