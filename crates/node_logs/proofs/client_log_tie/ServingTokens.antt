-- What a client that serves does at an input of its tokens: the cache, the readings, the seals of its log, and what it says.
use Rattle.std.proofs.Common.{ℕ, ◌==◌, Bool, List, [], ◌∷◌, map, Option, Some, None, is_none, refl, inl, inr, arith, ◌≡◌, sym, subst}
use Rattle.std.specs.Prelude.{All}
use Rattle.std.specs.List.{AllByRecursion, flat_map}
use Rattle.std.proofs.lemmas.List.Elements.{All-nil, All-cons, All-map}
use Rattle.client_log.specs.declared.input.In.TheVariants as log_in
use Rattle.client_log.specs.declared.output.Out.{Out as LogOut}
use Rattle.client_log.specs.declared.output.Out.TheVariants as log_out
use Rattle.client_log.specs.Transition as log
use Rattle.client_call.specs.Reads.{reading_in, fetches, target_of, same_target}
use Rattle.client_serving.specs.declared.serving.Serving.{Serving}
use Rattle.client_serving.specs.Follow.{evicts, note_clean, note_gone, note_copy, serving_seal, follow_one, serving_follow, hand, take_back}
use Rattle.client_serving.specs.Reads.{ends_reading, with_reading, draws, loses, lose_at, group_in, begins_over, begin_reading, go_on_reading, ask_after, drawn_after, serving_confirm, reads_over, serving_read}
use Rattle.client_serving.specs.Sends.{Done, gives, deltas, want, before_want, gave}
use Rattle.coop_cache.specs.declared.output.Out as cache_out
use Rattle.coop_cache.specs.declared.output.Out.TheVariants.{Victim}
use Rattle.coop_cache.specs.Transition.{cache_clean, cache_leave}
use Rattle.delta_feed.specs.declared.output.Out as feed_out
use Rattle.delta_feed.specs.declared.output.Out.TheVariants.{Range}
use Rattle.delta_feed.specs.FeedState.{FeedState}
use Rattle.group_map.specs.declared.group.Group.{Group}
use Rattle.log_owner.specs.declared.promised.Managers.{Managers}
use Rattle.log_owner.specs.Opening.{stored}
use Rattle.log_owner.specs.Sending.{store, fetch, range, sending_push, push_all}
use Rattle.node_base.specs.Asking.{next_ask}
use Rattle.node_base.specs.Beginning.{items_answer, answers_unanswered}
use Rattle.node_base.specs.declared.effects.Effect.{Effect}
use Rattle.node_base.specs.declared.effects.Effect.TheVariants.{Lose}
use Rattle.segment_reading.specs.declared.reading.Next.{Next}
use Rattle.segment_reading.specs.declared.reading.Next.TheVariants as next
use Rattle.segment_reading.specs.declared.reading.Stage.{Stage}
use Rattle.segment_reading.specs.declared.reading.Stage.TheVariants.{Between}
use Rattle.segment_reading.specs.declared.target.BlockAt.{BlockAt}
use Rattle.segment_reading.specs.declared.target.Target.{Target}
use Rattle.segment_reading.specs.Reading.{ReadingState, Step, reading_start, reading_unanswered, on_confirmed}
use Rattle.token_client.specs.declared.input.In as inputs
use Rattle.token_client.specs.declared.input.In.TheVariants as input
use Rattle.token_client.specs.declared.output.Out as outputs
use Rattle.token_client.specs.declared.output.Out.TheVariants as output
use Rattle.token_client.specs.State.{held_of}
use Rattle.token_client.specs.Transition as client
use Rattle.version_model.specs.declared.answer.Answer.{Answer}
use Rattle.version_model.specs.declared.answer.Answer.TheVariants.{Lost}
use Rattle.xfs_base.proofs.Booleans.{by_test}
use Rattle.xfs_base.specs.declared.block.BlockId.{BlockId}
use Rattle.xfs_base.specs.declared.entry.Place.{Place}
use Rattle.xfs_base.specs.declared.segment.SegName.{SegName}
use Rattle.xfs_base.specs.declared.token.Mode.TheVariants.{Copy}
use Rattle.xfs_base.specs.declared.token.Stamp.{Stamp}
use Rattle.xfs_base.specs.Modes.{same_mode, is_nothing}
use Rattle.xfs_base.specs.Steps.{still}
use Rattle.log_protocol.specs.Tables.{In}
use Rattle.log_tie.specs.Setting.{Setting}
use Rattle.log_law.specs.Net.{Packet, log_packets}
use Rattle.node_logs.proofs.node_log_tie.OwnLogs.{SendsOwn}
use Rattle.node_logs.specs.client_log_tie.Puts.{PutsOwn}
use Rattle.node_logs.proofs.client_log_tie.Puts.{took_such}
use Rattle.node_logs.specs.client_log_tie.Owner.{Scene}
use Rattle.node_logs.proofs.client_log_tie.Frames.{ClientDoes}
use Rattle.node_logs.proofs.client_log_tie.Frames as frames
use Rattle.node_logs.proofs.client_log_tie.Logs as logs
use Rattle.node_logs.proofs.client_log_tie.Questions.{ask_no_lower}

-- what holds of each thing holds of all of a list
pub every : {X : Type 0} (P : X → Type 0) → ((x : X) → P x) → (xs : List X) → All P xs
every P each [] = All-nil P
every P each (x ∷ xs) = All-cons P x xs (each x) (every P each xs)

module _ (g : Setting) (c : ℕ) where
  -- ---- what may be done in any world

  abbrev pub Plain : List Effect → Type 0
  Plain es = frames.Plain g c es

  pub plain_nothing : Plain []
  plain_nothing w = All-nil (ClientDoes g c w)

  pub plain_one : (e : Effect) → ((w : Scene) → ClientDoes g c w e) → Plain (e ∷ [])
  plain_one e p w = All-cons (ClientDoes g c w) e [] (p w) (All-nil (ClientDoes g c w))

  pub plain_map : {X : Type 0} (f : X → Effect) → ((w : Scene) (x : X) → ClientDoes g c w (f x)) → (xs : List X) → Plain (map f xs)
  plain_map f each xs w = All-map (ClientDoes g c w) f xs (every (λ x. ClientDoes g c w (f x)) (each w) xs)

  pub plain_range : (managers : Managers) (w : Scene) (o : feed_out.Out) → ClientDoes g c w (range managers o)
  plain_range managers w (Range slot first upto rows) = tt

  pub plain_pushes : (managers : Managers) (feed : FeedState) (slot : ℕ) → Plain (sending_push managers feed slot)
  plain_pushes managers feed slot = plain_map (range managers) (plain_range managers) _

  pub plain_pushes_all : (managers : Managers) (feed : FeedState) → Plain (push_all managers feed)
  plain_pushes_all managers feed = plain_map (range managers) (plain_range managers) _

  pub plain_fetches : (r : ReadingState) → Plain (fetches r)
  plain_fetches r = plain_map (fetch r.target.seg.name r.ask) (λ w server. tt) (reading_unanswered r)

  pub plain_answers : (unanswered : Option ℕ) (answer : Answer) → Plain (answers_unanswered unanswered answer)
  plain_answers None answer = plain_nothing
  plain_answers (Some number) answer = plain_one _ (λ w. tt)

  -- what a log sends is seen where it was sent
  pub stored_seen : (w : Scene) (outs : List LogOut) → ((p : Packet) → In p (log_packets outs) → In p w.net.sent) → AllByRecursion (SendsOwn g.log) outs
      → All (ClientDoes g c w) (flat_map stored outs)
  stored_seen w [] within mine = All-nil (ClientDoes g c w)
  stored_seen w (log_out.Send fragment member ∷ outs) within mine =
      All-cons (ClientDoes g c w) (store fragment member) (flat_map stored outs) (λ own. within _ (inl refl), mine.0)
      (stored_seen w outs (λ p fact. within p (inr fact)) mine.1)
  stored_seen w (log_out.Settled end rows ∷ outs) within mine = stored_seen w outs within mine.1

  abbrev At : Scene → Serving → Type 0
  At w s = frames.At g c w s

  abbrev Goes : Scene → Done → Type 0
  Goes w d = frames.Goes g c w d

  pub still_so : (w : Scene) (s : Serving) → At w s → Goes w (still s)
  still_so w s h = frames.goes_still g c w s h

  -- ---- the cache

  evicts_so : (w : Scene) (s : Serving) (o : cache_out.Out) → At w s → At w (evicts s o)
  unfolding evicts
  evicts_so w s (Victim block) h = h

  pub note_clean_so : (w : Scene) (s : Serving) (block : BlockId) → At w s → At w (note_clean s block)
  unfolding note_clean
  note_clean_so w s block h = frames.stands_fold g c w evicts (evicts_so w) (record s { cache = (cache_clean s.cache block).state }) (cache_clean s.cache block).outs h

  pub note_gone_so : (w : Scene) (s : Serving) (block : BlockId) → At w s → At w (note_gone s block)
  unfolding note_gone
  note_gone_so w s block h =
      by_test (λ (t : Serving). At w t) (is_nothing (held_of s.tokens.blocks block).mode) (record s { cache = cache_leave s.cache block }) s (λ t. h) (λ t. h)

  note_copy_so : (w : Scene) (s : Serving) (block : BlockId) → At w s → At w (note_copy s block)
  unfolding note_copy
  note_copy_so w s block h =
      by_test (λ (t : Serving). At w t) (same_mode (held_of s.tokens.blocks block).mode Copy) (note_clean s block) s (λ t. note_clean_so w s block h) (λ t. h)

  -- ---- the log

  pub serving_seal_so : (w : Scene) (s : Serving) → At w s → Goes w (serving_seal s)
  unfolding serving_seal
  serving_seal_so w s h =
      let k : logs.Took g c w s.lasting.number s.lasting.inc s.lasting.questions.last log_in.Seal (log.on_seal s.log) =
      logs.takes g c w s.log s.lasting.number s.lasting.inc s.lasting.questions.last log_in.Seal h tt tt in
      record {
        next = k.next;
        grown = k.grown;
        stands = k.stands;
        does = stored_seen k.next (log.on_seal s.log).outs k.sent k.mine;
        boot = k.boot;
        puts = λ l fact. took_such (λ j. j ≡ log_in.Seal) PutsOwn (λ j same. subst PutsOwn (sym same) tt) w.net k.next.net l (k.puts l fact);
      }

  -- ---- readings

  draws_so : (w : Scene) (s : Serving) → At w s → At w (draws s)
  draws_so w s h = record {
    lasts = record { number = h.lasts.number; inc = h.lasts.inc; fresh = λ k later. h.lasts.fresh k (let e = ask_no_lower s.lasting.questions in omega arith) };
    sees = h.sees;
    written = h.written;
  }

  pub loses_so : (w : Scene) (s : Serving) (block : BlockId) (seg : SegName) → At w s → Goes w (loses s block seg)
  unfolding loses
  loses_so w s block seg h =
      frames.goes_plain g c w
      (record s { lasting = record s.lasting { items = items_answer s.lasting.items }; call = None; tokens = (client.on_quit s.tokens block).state })
      (Lose seg ∷ answers_unanswered s.lasting.items.unanswered (Lost seg)) h
      (λ v. All-cons (ClientDoes g c v) (Lose seg) (answers_unanswered s.lasting.items.unanswered (Lost seg)) tt
      (plain_answers s.lasting.items.unanswered (Lost seg) v))

  lose_at_so : (w : Scene) (s : Serving) (at : Option BlockAt) (seg : SegName) → At w s → Goes w (lose_at s at seg)
  lose_at_so w s None seg h = still_so w s h
  lose_at_so w s (Some at) seg h = loses_so w s at.block seg h

  begins_over_so : (w : Scene) (s : Serving) (target : Target) (group : Option Group) → At w s → Goes w (begins_over s target group)
  begins_over_so w s target None h = still_so w s h
  begins_over_so w s target (Some group) h =
      let r : ReadingState = reading_start target group (next_ask s.lasting.questions) in
      frames.goes_plain g c w (with_reading (draws s) (Some r)) (fetches r) (draws_so w s h) (plain_fetches r)

  begin_reading_so : (w : Scene) (s : Serving) (target : Target) → At w s → Goes w (begin_reading s target)
  unfolding begin_reading
  begin_reading_so w s target h = begins_over_so w s target (group_in s.maps.groups target.seg.group) h

  go_on_reading_so : (w : Scene) (s : Serving) (r : ReadingState) (x : Next) → At w s → Goes w (go_on_reading s r x)
  go_on_reading_so w s r next.Lost h = lose_at_so w s r.target.block r.target.seg.name h
  go_on_reading_so w s r next.Ask h = frames.goes_plain g c w (with_reading s (Some r)) (fetches r) h (plain_fetches r)
  go_on_reading_so w s r _ h = still_so w (with_reading s (Some r)) h

  drawn_after_so : (w : Scene) (s : Serving) (r : ReadingState) (x : Next) (stage : Stage) → At w s → Goes w (go_on_reading (drawn_after s stage) r x)
  drawn_after_so w s r x Between h = go_on_reading_so w (draws s) r x (draws_so w s h)
  drawn_after_so w s r x _ h = go_on_reading_so w s r x h

  serving_confirm_so : (w : Scene) (s : Serving) (r : ReadingState) → At w s → Goes w (serving_confirm s r)
  unfolding serving_confirm
  serving_confirm_so w s r h =
      let step : Step = on_confirmed r (ask_after s r.ask r.stage) in
      drawn_after_so w s step.state step.next r.stage h

  reads_over_so : (w : Scene) (s : Serving) (target : Target) (reading : Option ReadingState) → At w s → Goes w (reads_over s target reading)
  reads_over_so w s target None h = begin_reading_so w s target h
  reads_over_so w s target (Some r) h =
      by_test (λ (d : Done). Goes w d) (same_target r.target target) (serving_confirm s r) (begin_reading s target) (λ t. serving_confirm_so w s r h) (λ t. begin_reading_so w s target h)

  serving_read_so : (w : Scene) (s : Serving) (block : BlockId) (place : Place) → At w s → Goes w (serving_read s block place)
  unfolding serving_read
  serving_read_so w s block place h =
      by_test (λ (d : Done). Goes w d) (is_none s.call) (still s) (reads_over (with_reading s None) (target_of block place) (reading_in s.call))
      (λ t. still_so w s h) (λ t. reads_over_so w (with_reading s None) (target_of block place) (reading_in s.call) h)

  -- ---- what the tokens say

  plain_before : (s : Serving) (block : BlockId) (again : ℕ) → Plain (before_want s block again)
  plain_before s block again =
      by_test (λ (es : List Effect). Plain es) (again == 0) (deltas s block) [] (λ t. plain_pushes s.managers s.feed _) (λ t. plain_nothing)

  follow_one_so : (w : Scene) (s : Serving) (o : outputs.Out) → At w s → Goes w (follow_one s o)
  unfolding follow_one
  follow_one_so w s (output.Want block req again mode) h =
      frames.goes_after g c w (before_want s block again) (gives s (want s block req again mode ∷ [])) (plain_before s block again)
      (frames.goes_plain g c w s (want s block req again mode ∷ []) h (plain_one _ (λ v. tt)))
  follow_one_so w s (output.Gave block stamp) h =
      frames.goes_after g c w (deltas s block) (gives s (gave s block stamp ∷ [])) (plain_pushes s.managers s.feed _)
      (frames.goes_plain g c w s (gave s block stamp ∷ []) h (plain_one _ (λ v. tt)))
  follow_one_so w s (output.Flush block) h = serving_seal_so w s h
  follow_one_so w s (output.Read block place) h = serving_read_so w s block place h
  follow_one_so w s (output.Ready block) h = still_so w (note_copy s block) (note_copy_so w s block h)
  follow_one_so w s (output.Supply block ver value) h = still_so w s h

  pub serving_follow_so : (w : Scene) (s : Serving) (outs : List outputs.Out) → At w s → Goes w (serving_follow s outs)
  unfolding serving_follow
  serving_follow_so w s outs h = frames.goes_steps g c follow_one follow_one_so w s outs h

  pub hand_so : (w : Scene) (s : Serving) (i : inputs.In) → At w s → Goes w (hand s i)
  unfolding hand
  hand_so w s i h =
      let r : client.Done = client.transition s.tokens i in
      serving_follow_so w (ends_reading (record s { tokens = r.state })) r.outs h

  pub take_back_so : (w : Scene) (s : Serving) (block : BlockId) (stamp : Stamp) (keep : Bool) → At w s → Goes w (take_back s block stamp keep)
  unfolding take_back
  take_back_so w s block stamp keep h =
      let d : Done = hand s (input.Recalled block stamp keep) in
      let p : Goes w d = hand_so w s (input.Recalled block stamp keep) h in
      record { next = p.next; grown = p.grown; stands = note_gone_so p.next d.state block p.stands; does = p.does; boot = p.boot; puts = p.puts }
