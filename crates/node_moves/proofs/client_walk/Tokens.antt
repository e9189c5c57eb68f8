-- What a client that serves does at an input of its tokens: the cache, the reading of the open call, the seals of its log, and what it says.
use Rattle.std.proofs.Common.{◌≡◌, refl, ℕ, ◌==◌, Bool, List, [], ◌∷◌, Option, Some, None, is_none}
use Rattle.std.specs.Prelude.{IfSome}
use Rattle.std.specs.List.{AllByRecursion, flat_map}
use Rattle.client_log.specs.declared.output.Out.{Out as LogOut}
use Rattle.client_log.specs.declared.output.Out.TheVariants as log_out
use Rattle.client_log.specs.declared.input.In.TheVariants as log_in
use Rattle.client_log.specs.Transition as log
use Rattle.client_call.specs.Reads.{set_reading, reading_in, kept_while, fetches, target_of, same_target}
use Rattle.client_serving.specs.declared.serving.Serving.{Serving}
use Rattle.client_serving.specs.Follow.{evicts, note_clean, note_gone, note_copy, serving_seal, follow_one, serving_follow, hand, take_back}
use Rattle.client_serving.specs.Reads.{ends_reading, with_reading, draws, loses, lose_at, group_in, begins_over, begin_reading, go_on_reading, ask_after, drawn_after, serving_confirm, reads_over, serving_read}
use Rattle.client_serving.specs.Sends.{Done, gives, deltas, want, before_want, gave}
use Rattle.coop_cache.specs.declared.output.Out as cache_out
use Rattle.coop_cache.specs.declared.output.Out.TheVariants.{Victim}
use Rattle.coop_cache.specs.Transition.{cache_clean, cache_leave}
use Rattle.group_map.specs.declared.group.Group.{Group}
use Rattle.log_owner.specs.Opening.{stored}
use Rattle.log_owner.specs.Sending.{fetch}
use Rattle.node_base.specs.Asking.{next_ask}
use Rattle.node_base.specs.Beginning.{items_answer, answers_unanswered}
use Rattle.node_base.specs.declared.effects.Effect.{Effect}
use Rattle.node_base.specs.declared.effects.Effect.TheVariants.{Lose}
use Rattle.segment_reading.specs.declared.reading.Next.{Next}
use Rattle.segment_reading.specs.declared.reading.Next.TheVariants as next
use Rattle.segment_reading.specs.declared.reading.Stage.{Stage}
use Rattle.segment_reading.specs.declared.reading.Stage.TheVariants.{Asking, Between, Doubted, Over}
use Rattle.segment_reading.specs.declared.target.BlockAt.{BlockAt}
use Rattle.segment_reading.specs.declared.target.Target.{Target}
use Rattle.segment_reading.specs.Reading.{ReadingState, Step, reading_start, reading_unanswered, on_confirmed}
use Rattle.token_client.specs.declared.input.In as inputs
use Rattle.token_client.specs.declared.input.In.TheVariants as input
use Rattle.token_client.specs.declared.output.Out as outputs
use Rattle.token_client.specs.declared.output.Out.TheVariants as output
use Rattle.token_client.specs.State.{held_of}
use Rattle.token_client.specs.Transition as client
use Rattle.version_model.specs.declared.answer.Answer.{Answer}
use Rattle.version_model.specs.declared.answer.Answer.TheVariants.{Lost}
use Rattle.xfs_base.specs.Blocks.{slot_of}
use Rattle.xfs_base.proofs.Booleans.{by_test}
use Rattle.xfs_base.specs.declared.block.BlockId.{BlockId}
use Rattle.xfs_base.specs.declared.entry.Place.{Place}
use Rattle.xfs_base.specs.declared.segment.SegName.{SegName}
use Rattle.xfs_base.specs.declared.token.Mode.TheVariants.{Copy}
use Rattle.xfs_base.specs.declared.token.Stamp.{Stamp}
use Rattle.xfs_base.specs.Modes.{same_mode, is_nothing}
use Rattle.xfs_base.specs.Steps.{still}
use Rattle.xfs_base.proofs.Alls.{all_map}
use Rattle.node_moves.proofs.client_walk.Frames as frames
use Rattle.node_moves.proofs.client_walk.LogTurns.{seal_rests}
use Rattle.node_moves.proofs.client_walk.Laws.{Walk, Tells, Takes}
use Rattle.node_moves.proofs.client_walk.Readings as readings

module _ (w : Walk) where
  abbrev pub At : Serving → Type 0
  At s = w.Stands s

  abbrev pub Goes : Done → Type 0
  Goes d = frames.Goes w.Says w.Acted w.Stands d

  abbrev pub AllSay : List Effect → Type 0
  AllSay outs = AllByRecursion w.Says outs

  pub still_so : (s : Serving) → At s → Goes (still s)
  still_so s h = frames.goes_still w.Says w.Acted w.Stands s h

  pub plain_so : (s : Serving) (outs : List Effect) → At s → AllSay outs → Goes (gives s outs)
  plain_so s outs h says = frames.goes_plain w.Says w.Acted w.Stands s outs h says

  stored_say : (outs : List LogOut) → AllSay (flat_map stored outs)
  stored_say [] = tt
  stored_say (log_out.Send fragment member ∷ outs) = (w.stores fragment member, stored_say outs)
  stored_say (log_out.Settled end rows ∷ outs) = stored_say outs

  pub fetches_say : (r : ReadingState) → AllSay (fetches r)
  fetches_say r = all_map w.Says (fetch r.target.seg.name r.ask) (λ server. w.fetched r.target.seg.name r.ask server) (reading_unanswered r)

  pub answers_say : (item : Option ℕ) (a : Answer) → AllSay (answers_unanswered item a)
  answers_say None a = tt
  answers_say (Some number) a = (w.answers number a, tt)

  -- ---- the cache

  evicts_so : (s : Serving) (o : cache_out.Out) → At s → At (evicts s o)
  unfolding evicts
  evicts_so s (Victim block) h = w.tokens s (input.Evict block) tt h

  pub note_clean_so : (s : Serving) (block : BlockId) → At s → At (note_clean s block)
  unfolding note_clean
  note_clean_so s block h =
      frames.stands_fold w.Says w.Acted w.Stands evicts evicts_so (record s { cache = (cache_clean s.cache block).state }) (cache_clean s.cache block).outs
      (w.caches s (cache_clean s.cache block).state h)

  pub note_gone_so : (s : Serving) (block : BlockId) → At s → At (note_gone s block)
  unfolding note_gone
  note_gone_so s block h =
      by_test (λ (t : Serving). At t) (is_nothing (held_of s.tokens.blocks block).mode) (record s { cache = cache_leave s.cache block }) s
      (λ t. w.caches s (cache_leave s.cache block) h) (λ t. h)

  note_copy_so : (s : Serving) (block : BlockId) → At s → At (note_copy s block)
  unfolding note_copy
  note_copy_so s block h =
      by_test (λ (t : Serving). At t) (same_mode (held_of s.tokens.blocks block).mode Copy) (note_clean s block) s (λ t. note_clean_so s block h) (λ t. h)

  -- ---- the log

  pub serving_seal_so : (s : Serving) → At s → Goes (serving_seal s)
  unfolding serving_seal
  serving_seal_so s h =
      plain_so (record s { log = (log.on_seal s.log).state }) (flat_map stored (log.on_seal s.log).outs)
      (w.rests s log_in.Seal (seal_rests s.log).same h) (stored_say (log.on_seal s.log).outs)

  -- ---- readings

  pub loses_so : (s : Serving) (block : BlockId) (seg : SegName) → At s → Goes (loses s block seg)
  unfolding loses
  loses_so s block seg h =
      plain_so (record s { lasting = record s.lasting { items = items_answer s.lasting.items }; call = None; tokens = (client.on_quit s.tokens block).state })
      (Lose seg ∷ answers_unanswered s.lasting.items.unanswered (Lost seg))
      (w.tokens (record s { lasting = record s.lasting { items = items_answer s.lasting.items }; call = None }) (input.Quit block) tt
      (w.calls (record s { lasting = record s.lasting { items = items_answer s.lasting.items } }) None tt
      (w.lasts s (record s.lasting { items = items_answer s.lasting.items }) refl h)))
      (w.loses seg, answers_say s.lasting.items.unanswered (Lost seg))

  lose_at_so : (s : Serving) (at : Option BlockAt) (seg : SegName) → At s → Goes (lose_at s at seg)
  lose_at_so s None seg h = still_so s h
  lose_at_so s (Some at) seg h = loses_so s at.block seg h

  -- the open call reads this
  pub read_so : (s : Serving) (r : Option ReadingState) → IfSome r w.Reading → At s → At (with_reading s r)
  read_so s r fact h = w.calls s (set_reading s.call r) (readings.call_so w.Reading s.call r fact) h

  pub ends_so : (s : Serving) → At s → At (ends_reading s)
  ends_so s h = read_so s (kept_while s.tokens (reading_in s.call)) (readings.kept_so w.Reading s.tokens (reading_in s.call) (w.reads s h)) h

  draws_so : (s : Serving) → At s → At (draws s)
  draws_so s h = w.lasts s (draws s).lasting refl h

  begins_over_so : (s : Serving) (target : Target) (group : Option Group) → group_in s.maps.groups target.seg.group ≡ group → w.Lies target → At s
      → Goes (begins_over s target group)
  begins_over_so s target None found fact h = still_so s h
  begins_over_so s target (Some group) found fact h =
      let r : ReadingState = reading_start target group (next_ask s.lasting.questions) in
      plain_so (with_reading (draws s) (Some r)) (fetches r) (read_so (draws s) (Some r) (w.begun s target group found fact h) (draws_so s h))
      (fetches_say r)

  begin_reading_so : (s : Serving) (target : Target) → w.Lies target → At s → Goes (begin_reading s target)
  unfolding begin_reading
  begin_reading_so s target fact h = begins_over_so s target (group_in s.maps.groups target.seg.group) refl fact h

  go_on_reading_so : (s : Serving) (r : ReadingState) (x : Next) → w.Reading r → At s → Goes (go_on_reading s r x)
  go_on_reading_so s r next.Lost fact h = lose_at_so s r.target.block r.target.seg.name h
  go_on_reading_so s r next.Ask fact h = plain_so (with_reading s (Some r)) (fetches r) (read_so s (Some r) fact h) (fetches_say r)
  go_on_reading_so s r _ fact h = still_so (with_reading s (Some r)) (read_so s (Some r) fact h)

  drawn_after_so : (s : Serving) (r : ReadingState) (x : Next) (stage : Stage) → w.Reading r → At s → Goes (go_on_reading (drawn_after s stage) r x)
  drawn_after_so s r x Between fact h = go_on_reading_so (draws s) r x fact (draws_so s h)
  drawn_after_so s r x _ fact h = go_on_reading_so s r x fact h

  serving_confirm_so : (s : Serving) (r : ReadingState) → w.Reading r → At s → Goes (serving_confirm s r)
  unfolding serving_confirm
  serving_confirm_so s r fact h =
      let step : Step = on_confirmed r (ask_after s r.ask r.stage) in
      drawn_after_so s step.state step.next r.stage (w.confirmed r (ask_after s r.ask r.stage) fact) h

  reads_over_so : (s : Serving) (target : Target) (reading : Option ReadingState) → w.Lies target → IfSome reading w.Reading → At s
      → Goes (reads_over s target reading)
  reads_over_so s target None fact was h = begin_reading_so s target fact h
  reads_over_so s target (Some r) fact was h =
      by_test (λ (d : Done). Goes d) (same_target r.target target) (serving_confirm s r) (begin_reading s target) (λ t. serving_confirm_so s r was h)
      (λ t. begin_reading_so s target fact h)

  serving_read_so : (s : Serving) (block : BlockId) (place : Place) → w.Lies (target_of block place) → At s → Goes (serving_read s block place)
  unfolding serving_read
  serving_read_so s block place fact h =
      by_test (λ (d : Done). Goes d) (is_none s.call) (still s) (reads_over (with_reading s None) (target_of block place) (reading_in s.call))
      (λ t. still_so s h)
      (λ t. reads_over_so (with_reading s None) (target_of block place) (reading_in s.call) fact (w.reads s h) (read_so s None tt h))

  -- ---- what the tokens say

  before_says : (s : Serving) (block : BlockId) (again : ℕ) → At s → AllSay (before_want s block again)
  before_says s block again h =
      by_test (λ (es : List Effect). AllSay es) (again == 0) (deltas s block) [] (λ t. w.pushed s (slot_of block.ino.0) h) (λ t. tt)

  follow_one_so : (s : Serving) (o : outputs.Out) → Tells w.Lies o → At s → Goes (follow_one s o)
  unfolding follow_one
  follow_one_so s (output.Want block req again mode) fact h =
      frames.goes_after w.Says w.Acted w.Stands (before_want s block again) (gives s (want s block req again mode ∷ [])) (before_says s block again h)
      (plain_so s (want s block req again mode ∷ []) h (w.wants s block req again mode h, tt))
  follow_one_so s (output.Gave block stamp) fact h =
      frames.goes_after w.Says w.Acted w.Stands (deltas s block) (gives s (gave s block stamp ∷ [])) (w.pushed s (slot_of block.ino.0) h)
      (plain_so s (gave s block stamp ∷ []) h (w.gaves s block stamp h, tt))
  follow_one_so s (output.Flush block) fact h = serving_seal_so s h
  follow_one_so s (output.Read block place) fact h = serving_read_so s block place fact h
  follow_one_so s (output.Ready block) fact h = still_so (note_copy s block) (note_copy_so s block h)
  follow_one_so s (output.Supply block ver value) fact h = still_so s h

  pub serving_follow_so : (s : Serving) (outs : List outputs.Out) → AllByRecursion (Tells w.Lies) outs → At s → Goes (serving_follow s outs)
  unfolding serving_follow
  serving_follow_so s outs all h = frames.goes_each w.Says w.Acted w.Stands (Tells w.Lies) follow_one follow_one_so s outs all h

  pub hand_so : (s : Serving) (i : inputs.In) → Takes w.Granted i → At s → Goes (hand s i)
  unfolding hand
  hand_so s i fact h =
      let r : client.Done = client.transition s.tokens i in
      serving_follow_so (ends_reading (record s { tokens = r.state })) r.outs (w.tells s.tokens i fact) (ends_so (record s { tokens = r.state }) (w.tokens s i fact h))

  pub take_back_so : (s : Serving) (block : BlockId) (stamp : Stamp) (keep : Bool) → At s → Goes (take_back s block stamp keep)
  unfolding take_back
  take_back_so s block stamp keep h acts =
      let d : Done = hand s (input.Recalled block stamp keep) in
      let p : At d.state × AllSay d.outs = hand_so s (input.Recalled block stamp keep) tt h acts in
      (note_gone_so d.state block p.0, p.1)
