-- What a client that serves does once its log takes an input: what is sent, what is settled and filed, and what is given up then.
use Rattle.std.proofs.Common.{◌≡◌, ℕ, ◌&&◌, not, Bool, true, List, [], ◌∷◌, Option, Some, None, refl, sym, ap, subst, ◌∙◌, inl, inr}
use Rattle.std.specs.Prelude.{fold}
use Rattle.std.specs.List.{AllByRecursion, list_any}
use Rattle.std.proofs.lemmas.List.Elements.{All-nil, All-cons}
use Rattle.client_log.specs.declared.input.In.{In as Input}
use Rattle.client_log.specs.declared.input.In.TheVariants as log_in
use Rattle.client_log.specs.declared.output.Out.{Out}
use Rattle.client_log.specs.declared.output.Out.TheVariants.{Send, Settled}
use Rattle.client_log.specs.Transition as log
use Rattle.client_serving.specs.declared.serving.Serving.{Serving}
use Rattle.client_serving.specs.Flights.{held_at, notes_settled, keep_row, gives_up, give_if_clean, feeds, settle_rows, serving_settle, write_one, seals_again, serving_write}
use Rattle.client_serving.specs.Follow.{note_clean, serving_seal}
use Rattle.client_serving.specs.Lasting.{log_of}
use Rattle.client_serving.specs.Sends.{Done, gives}
use Rattle.group_map.specs.GroupMapState.{GroupMapState}
use Rattle.log_owner.specs.Sealing.{is_settling}
use Rattle.log_owner.specs.Sending.{store, name_of, push_all}
use Rattle.node_base.specs.declared.effects.Effect.{Effect}
use Rattle.node_base.specs.declared.effects.Effect.TheVariants.{Does}
use Rattle.token_client.specs.declared.held.Giving.{Giving}
use Rattle.token_client.specs.Held.{is_dirty}
use Rattle.token_client.specs.Settling.{is_giving}
use Rattle.token_client.specs.State.{dirty_in}
use Rattle.version_model.specs.declared.act.Act.TheVariants.{Filed}
use Rattle.xfs_base.proofs.Booleans.{by_test}
use Rattle.xfs_base.specs.declared.block.BlockId.{BlockId}
use Rattle.xfs_base.specs.declared.entry.Entry.{Entry}
use Rattle.xfs_base.specs.declared.segment.End.{End}
use Rattle.xfs_base.specs.declared.segment.LogId.{LogId}
use Rattle.xfs_base.specs.declared.segment.SegName.{SegName}
use Rattle.xfs_base.specs.Modes.{is_held}
use Rattle.xfs_base.specs.Steps.{still, steps}
use Rattle.log_protocol.specs.Tables.{In}
use Rattle.log_tie.specs.Seen.{log_filed}
use Rattle.log_tie.specs.Setting.{Setting}
use Rattle.log_tie.specs.Shelves.{is_of_log}
use Rattle.log_law.specs.Net.{Packet, log_packets}
use Rattle.log_law.specs.Net.Packet.{StoredSent, MapSent}
use Rattle.node_logs.proofs.node_log_tie.OwnLogs.{SendsOwn}
use Rattle.node_logs.specs.client_log_tie.Puts.{PutsOwn}
use Rattle.node_logs.proofs.client_log_tie.Puts.{took_such}
use Rattle.node_logs.specs.client_log_tie.Owner.{Scene}
use Rattle.node_logs.specs.client_log_tie.Texts.{InputFits, MapFits}
use Rattle.node_logs.proofs.client_log_tie.Frames.{ClientDoes}
use Rattle.node_logs.proofs.client_log_tie.Frames as frames
use Rattle.node_logs.proofs.client_log_tie.Logs as logs
use Rattle.node_logs.proofs.client_log_tie.ServingTokens as tokens

module _ (g : Setting) (c : ℕ) (fact : g.log ≡ record { 0 = c }) where
  abbrev At : Scene → Serving → Type 0
  At w s = frames.At g c w s

  abbrev Goes : Scene → Done → Type 0
  Goes w d = frames.Goes g c w d

  -- ---- a segment is settled

  notes_settled_so : (w : Scene) (s : Serving) (row : BlockId × Entry) → At w s → At w (notes_settled s row)
  unfolding notes_settled
  notes_settled_so w s row h = h

  keep_row_so : (w : Scene) (s : Serving) (row : BlockId × Entry) → At w s → At w (keep_row s row)
  unfolding keep_row
  keep_row_so w s row h =
      by_test (λ (t : Serving). At w t) (not (is_dirty (held_at s row.0)) && is_held (held_at s row.0).mode) (note_clean s row.0) s
      (λ t. tokens.note_clean_so g c w s row.0 h) (λ t. h)

  gives_up_so : (w : Scene) (s : Serving) (block : BlockId) (giving : Option Giving) → At w s → Goes w (gives_up s block giving)
  gives_up_so w s block None h = tokens.still_so g c w s h
  gives_up_so w s block (Some giving) h = tokens.take_back_so g c w s block giving.stamp giving.keep h

  give_if_clean_so : (w : Scene) (s : Serving) (block : BlockId) → At w s → Goes w (give_if_clean s block)
  unfolding give_if_clean
  give_if_clean_so w s block h =
      by_test (λ (d : Done). Goes w d) (is_dirty (held_at s block)) (still s) (gives_up s block (held_at s block).giving)
      (λ t. tokens.still_so g c w s h) (λ t. gives_up_so w s block (held_at s block).giving h)

  settle_rows_so : (w : Scene) (s : Serving) (rows : List (BlockId × Entry)) → At w s → At w (settle_rows s rows)
  settle_rows_so w s rows h =
      frames.stands_fold g c w keep_row (keep_row_so w) (fold notes_settled s rows) rows
      (frames.stands_fold g c w notes_settled (notes_settled_so w) s rows h)

  -- the name by which it is filed
  filed_name : (number : ℕ) (end : End) → number ≡ c → record { log = g.log; seq = end.seq; pass = end.pass } ≡ name_of (record { 0 = number }) end
  filed_name number end e = ap (λ (l : LogId). record { log = l; seq = end.seq; pass = end.pass }) (fact ∙ ap (λ (k : ℕ). record { 0 = k }) (sym e))

  serving_settle_so : (w : Scene) (s : Serving) (end : End) (rows : List (BlockId × Entry)) → At w s
      → In (record { log = g.log; seq = end.seq; pass = end.pass }) w.net.filed
      → Goes w (serving_settle s end rows)
  unfolding serving_settle
  serving_settle_so w s end rows h filed =
      let fed : Serving = feeds (settle_rows s rows) end rows in
      let said : List Effect = Does (Filed (name_of (log_of s.lasting) end)) ∷ push_all fed.managers fed.feed in
      frames.goes_on g c w (gives fed said) (steps give_if_clean fed (dirty_in s.tokens.blocks))
      (frames.goes_seen g c w fed said (settle_rows_so w s rows h)
      (All-cons (ClientDoes g c w) (Does (Filed (name_of (log_of s.lasting) end))) (push_all fed.managers fed.feed)
      (subst (λ name. In name w.net.filed) (filed_name s.lasting.number end h.lasts.number) filed) (tokens.plain_pushes_all g c fed.managers fed.feed w)))
      (λ v k. frames.goes_steps g c give_if_clean give_if_clean_so v fed (dirty_in s.tokens.blocks) k)

  -- ---- the log took an input

  -- what it said is done, where that is seen
  all_written : (w : Scene) (s : Serving) (outs : List Out) → At w s → ((p : Packet) → In p (log_packets outs) → In p w.net.sent)
      → ((name : SegName) → In name (log_filed g.log outs) → In name w.net.filed) → AllByRecursion (SendsOwn g.log) outs → Goes w (steps write_one s outs)
  unfolding write_one
  all_written w s [] h sent filed mine = tokens.still_so g c w s h
  all_written w s (Send fragment member ∷ outs) h sent filed mine =
      frames.goes_on_in g c w (gives s (store fragment member ∷ [])) (steps write_one s outs)
      (frames.goes_seen g c w s (store fragment member ∷ []) h
      (All-cons (ClientDoes g c w) (store fragment member) [] (λ own. sent _ (inl refl), mine.0) (All-nil (ClientDoes g c w))))
      (λ v grown k. all_written v s outs k (λ p among. grown.sent p (sent p (inr among))) (λ name among. grown.filed name (filed name among)) mine.1)
  all_written w s (Settled end rows ∷ outs) h sent filed mine =
      frames.goes_on_in g c w (serving_settle s end rows) (steps write_one (serving_settle s end rows).state outs)
      (serving_settle_so w s end rows h (filed _ (inl refl)))
      (λ v grown k. all_written v (serving_settle s end rows).state outs k (λ p among. grown.sent p (sent p among))
      (λ name among. grown.filed name (filed name (inr among))) mine.1)

  seals_again_so : (w : Scene) (s : Serving) (settling : Bool) → At w s → Goes w (seals_again s settling)
  seals_again_so w s settling h =
      by_test (λ (d : Done). Goes w d) (settling && is_giving s.tokens) (serving_seal s) (still s) (λ t. tokens.serving_seal_so g c w s h) (λ t. tokens.still_so g c w s h)

  abbrev pub Took : Scene → Serving → Input → Type 0
  Took w s i = logs.Took g c w s.lasting.number s.lasting.inc s.lasting.questions.last i (log.transition s.log i)

  writes_from : (w : Scene) (s : Serving) (i : Input) → PutsOwn i → Took w s i → Goes w (serving_write s i)
  unfolding serving_write
  writes_from w s i own k =
      let r : log.Done = log.transition s.log i in
      let t : Serving = record s { log = r.state } in
      let d : Done = steps write_one t r.outs in
      frames.goes_from g c w k.next (serving_write s i) k.grown k.boot
      (λ l fact. took_such (λ j. j ≡ i) PutsOwn (λ j same. subst PutsOwn (sym same) own) w.net k.next.net l (k.puts l fact))
      (frames.goes_on g c k.next d (seals_again d.state (list_any is_settling r.outs)) (all_written k.next t r.outs k.stands k.sent k.filed k.mine)
      (λ v h. seals_again_so v d.state (list_any is_settling r.outs) h))

  -- ---- its inputs

  pub puts_so : (w : Scene) (s : Serving) (block : BlockId) (entry : Entry) (value : Option (List ℕ)) → At w s → PutsOwn (log_in.Put block entry value)
      → InputFits (log_in.Put block entry value) → Goes w (serving_write s (log_in.Put block entry value))
  puts_so w s block entry value h own fits =
      let i : Input = log_in.Put block entry value in
      writes_from w s i own (logs.takes g c w s.log s.lasting.number s.lasting.inc s.lasting.questions.last i h tt fits)

  pub ticks_so : (w : Scene) (s : Serving) → At w s → Goes w (serving_write s log_in.Tick)
  ticks_so w s h = writes_from w s log_in.Tick tt (logs.takes g c w s.log s.lasting.number s.lasting.inc s.lasting.questions.last log_in.Tick h tt tt)

  pub maps_so : (w : Scene) (s : Serving) (m : GroupMapState) → At w s → In (MapSent m) w.net.sent → MapFits m → Goes w (serving_write s (log_in.Maps m))
  maps_so w s m h came fits =
      writes_from w s (log_in.Maps m) tt (logs.takes g c w s.log s.lasting.number s.lasting.inc s.lasting.questions.last (log_in.Maps m) h came fits)

  pub stored_so : (w : Scene) (s : Serving) (name : SegName) (index generation : ℕ) → At w s
      → (is_of_log g name ≡ true → In (StoredSent name index generation) w.net.sent) → Goes w (serving_write s (log_in.Acked name index generation))
  stored_so w s name index generation h seen =
      writes_from w s (log_in.Acked name index generation) tt
      (logs.takes_stored g c w s.log s.lasting.number s.lasting.inc s.lasting.questions.last name index generation h seen)
