-- What a client that serves does at an input of its tokens: the cache, the readings, the seals of its log, and what it says.
use Rattle.std.proofs.Common.{◌≡◌, ◌<◌, ℕ, ◌==◌, ◌&&◌, Bool, List, [], ◌∷◌, ◌++◌, map, Option, Some, None, is_none, refl, sym, ap, subst, ◌∙◌, nat_lt, length}
use Rattle.std.specs.Prelude.{All, fold}
use Rattle.std.specs.List.{flat_map}
use Rattle.std.proofs.lemmas.List.Elements.{All-nil, All-cons, All-map}
use Rattle.client_log.specs.declared.output.Out.{Out as LogOut}
use Rattle.client_log.specs.declared.output.Out.TheVariants as log_out
use Rattle.client_log.specs.LogState.{LogState}
use Rattle.client_log.specs.Transition as log
use Rattle.client_call.specs.Reads.{reading_in, fetches, target_of, same_target}
use Rattle.client_serving.specs.declared.serving.Serving.{Serving}
use Rattle.client_serving.specs.Follow.{evicts, note_clean, note_gone, note_copy, serving_seal, follow_one, serving_follow, hand, take_back}
use Rattle.client_serving.specs.Reads.{ends_reading, with_reading, draws, loses, lose_at, group_in, begins_over, begin_reading, go_on_reading, ask_after, drawn_after, serving_confirm, reads_over, serving_read}
use Rattle.client_serving.specs.Sends.{Done, gives, deltas, want, before_want, gave}
use Rattle.coop_cache.specs.declared.output.Out as cache_out
use Rattle.coop_cache.specs.declared.output.Out.TheVariants.{Victim}
use Rattle.coop_cache.specs.Transition.{cache_clean, cache_leave}
use Rattle.delta_feed.specs.declared.output.Out as feed_out
use Rattle.delta_feed.specs.declared.output.Out.TheVariants.{Range}
use Rattle.delta_feed.specs.FeedState.{FeedState}
use Rattle.group_map.specs.declared.group.Group.{Group}
use Rattle.log_owner.specs.declared.promised.Managers.{Managers}
use Rattle.log_owner.specs.Opening.{stored}
use Rattle.log_owner.specs.Sending.{fetch, range, sending_push, push_all}
use Rattle.node_base.specs.Asking.{next_ask}
use Rattle.node_base.specs.Beginning.{items_answer, answers_unanswered}
use Rattle.node_base.specs.declared.effects.Effect.{Effect}
use Rattle.node_base.specs.declared.effects.Effect.TheVariants.{Lose}
use Rattle.node_base.specs.Effects.{acts_of}
use Rattle.segment_reading.specs.declared.reading.Next.{Next}
use Rattle.segment_reading.specs.declared.reading.Next.TheVariants as next
use Rattle.segment_reading.specs.declared.reading.Stage.{Stage}
use Rattle.segment_reading.specs.declared.reading.Stage.TheVariants.{Between}
use Rattle.segment_reading.specs.declared.target.BlockAt.{BlockAt}
use Rattle.segment_reading.specs.declared.target.Target.{Target}
use Rattle.segment_reading.specs.Reading.{ReadingState, Step, reading_start, reading_unanswered, on_confirmed}
use Rattle.token_client.specs.declared.input.In as inputs
use Rattle.token_client.specs.declared.input.In.TheVariants as input
use Rattle.token_client.specs.declared.output.Out as outputs
use Rattle.token_client.specs.declared.output.Out.TheVariants as output
use Rattle.token_client.specs.State.{TokensState, held_of}
use Rattle.token_client.specs.Transition as client
use Rattle.token_law.specs.Net.{Net, IsOwnAct, acts_by}
use Rattle.token_law.specs.Net.Packet.{WantSent, GaveSent}
use Rattle.token_protocol.specs.Basics.{In}
use Rattle.version_model.specs.declared.answer.Answer.{Answer}
use Rattle.version_model.specs.declared.answer.Answer.TheVariants.{Lost}
use Rattle.xfs_base.proofs.Booleans.{by_test}
use Rattle.xfs_base.specs.declared.block.BlockId.{BlockId}
use Rattle.xfs_base.specs.declared.entry.Place.{Place}
use Rattle.xfs_base.specs.declared.node.NodeId.TheVariants.{Client}
use Rattle.xfs_base.specs.declared.segment.SegName.{SegName}
use Rattle.xfs_base.specs.declared.token.Mode.TheVariants.{Copy}
use Rattle.xfs_base.specs.declared.token.Stamp.{Stamp}
use Rattle.xfs_base.specs.Modes.{same_mode, is_nothing}
use Rattle.xfs_base.specs.Steps.{still, steps}
use Rattle.node_slots.proofs.node_tie.Sight.{ClientDoes}
use Rattle.node_slots.proofs.node_tie.ClientBearing.{Allowed}
use Rattle.node_slots.proofs.node_tie.ClientFrames as frames
use Rattle.node_slots.proofs.node_tie.ClientSeals.{on_seal_passes}
use Rattle.node_slots.proofs.node_tie.ClientTaking as taking

-- what holds of each thing holds of all of a list
pub every : {X : Type 0} (P : X → Type 0) → ((x : X) → P x) → (xs : List X) → All P xs
every P each [] = All-nil P
every P each (x ∷ xs) = All-cons P x xs (each x) (every P each xs)

-- ---- what may be sent in any world

module _ (part c life : ℕ) where
  abbrev pub Plain : List Effect → Type 0
  Plain es = frames.Plain part c life es

  pub plain_map : {X : Type 0} (f : X → Effect) → ((x : X) → frames.May part c life (f x)) → (xs : List X) → Plain (map f xs)
  plain_map f each xs = All-map (frames.May part c life) f xs (every (λ x. frames.May part c life (f x)) each xs)

  pub plain_range : (managers : Managers) (o : feed_out.Out) → frames.May part c life (range managers o)
  plain_range managers (Range slot first upto rows) = tt

  pub plain_pushes : (managers : Managers) (feed : FeedState) (slot : ℕ) → Plain (sending_push managers feed slot)
  plain_pushes managers feed slot = plain_map (range managers) (plain_range managers) _

  pub plain_pushes_all : (managers : Managers) (feed : FeedState) → Plain (push_all managers feed)
  plain_pushes_all managers feed = plain_map (range managers) (plain_range managers) _

  pub plain_fetches : (r : ReadingState) → Plain (fetches r)
  plain_fetches r = plain_map (fetch r.target.seg.name r.ask) (λ server. tt) (reading_unanswered r)

  pub plain_answers : (unanswered : Option ℕ) (answer : Answer) → Plain (answers_unanswered unanswered answer)
  plain_answers None answer = All-nil (frames.May part c life)
  plain_answers (Some number) answer = All-cons (frames.May part c life) _ [] tt (All-nil (frames.May part c life))

  pub plain_stored : (outs : List LogOut) → Plain (flat_map stored outs)
  plain_stored [] = All-nil (frames.May part c life)
  plain_stored (log_out.Send fragment member ∷ outs) = All-cons (frames.May part c life) _ (flat_map stored outs) tt (plain_stored outs)
  plain_stored (log_out.Settled end rows ∷ outs) = plain_stored outs

module _ (logs : Bool) (members part limit c life room highest : ℕ) (pos : 0 < c) (less : c < members) where
  abbrev At : Net → Serving → Type 0
  At n s = frames.At logs members part limit c life room highest n s

  abbrev Goes : Net → Done → Type 0
  Goes n d = frames.Goes logs members part limit c life room highest n d

  -- what goes on, and leaves the end of the log
  pub record Logged (n : Net) (end : ℕ) (d : Done) : Type 0 where
    pub goes : Goes n d
    pub end_is : d.state.log.end.seq ≡ end

  -- ---- what the tokens take of the client's own accord

  pub acts_so : (n : Net) (s : Serving) (i : inputs.In) → IsOwnAct i → ((u : TokensState) → acts_by c u i ≡ [])
      → Allowed (frames.Sent part c n.sent) (frames.Promised part limit) (frames.Known logs s.log) life i → At n s
      → Goes n (still (record s { tokens = (client.transition s.tokens i).state }))
  acts_so n s i own silent allowed h =
      let k : taking.Taken logs members part limit c life room highest n s.log s.log.end.seq s.lasting.number s.lasting.inc (client.transition s.tokens i) [] =
      taking.takes logs members part limit c life room highest n s.tokens s.log s.lasting.number s.lasting.inc i pos less h
      (taking.may_act logs members part limit c life room highest n s.log i own silent allowed) in
      record { next = k.next; grown = k.grown; stands = k.stands; does = All-nil (ClientDoes part k.next.sent c life) }

  -- ---- the cache

  pub evicts_so : (n : Net) (s : Serving) (o : cache_out.Out) → At n s → Goes n (still (evicts s o))
  unfolding evicts
  evicts_so n s (Victim block) h = acts_so n s (input.Evict block) tt (λ u. refl) tt h

  pub note_clean_so : (n : Net) (s : Serving) (block : BlockId) → At n s → Goes n (still (note_clean s block))
  unfolding note_clean
  note_clean_so n s block h =
      frames.goes_fold logs members part limit c life room highest evicts evicts_so n (record s { cache = (cache_clean s.cache block).state })
      (cache_clean s.cache block).outs h

  evicts_end : (s : Serving) (outs : List cache_out.Out) → (fold evicts s outs).log ≡ s.log
  unfolding evicts
  evicts_end s [] = refl
  evicts_end s (Victim block ∷ outs) = evicts_end (evicts s (Victim block)) outs

  note_clean_end : (s : Serving) (block : BlockId) → (note_clean s block).log ≡ s.log
  unfolding note_clean
  note_clean_end s block = evicts_end (record s { cache = (cache_clean s.cache block).state }) (cache_clean s.cache block).outs

  pub note_gone_so : (n : Net) (s : Serving) (block : BlockId) → At n s → At n (note_gone s block)
  unfolding note_gone
  note_gone_so n s block h = by_test (λ (t : Serving). At n t) (is_nothing (held_of s.tokens.blocks block).mode) (record s { cache = cache_leave s.cache block }) s
      (λ t. h) (λ t. h)

  note_copy_so : (n : Net) (s : Serving) (end : ℕ) (block : BlockId) → s.log.end.seq ≡ end → At n s → Logged n end (still (note_copy s block))
  unfolding note_copy
  note_copy_so n s end block e h =
      by_test (λ (t : Serving). Logged n end (still t)) (same_mode (held_of s.tokens.blocks block).mode Copy) (note_clean s block) s
      (λ t. record { goes = note_clean_so n s block h; end_is = ap (λ (l : LogState). l.end.seq) (note_clean_end s block) ∙ e })
      (λ t. record { goes = frames.goes_still logs members part limit c life room highest n s h; end_is = e })

  -- ---- the log

  seal_end : (l : LogState) → (log.on_seal l).state.end ≡ l.end
  unfolding log.on_seal log.log_seal log.log_launch
  seal_end l =
      by_test (λ (d : log.Done). d.state.end ≡ l.end) (log.is_idle l && nat_lt 0 (length l.dirty) && log.has_next l.end.seq) (log.log_seal l) (still l)
      (λ t. refl) (λ t. refl)

  pub serving_seal_so : (n : Net) (s : Serving) (end : ℕ) → s.log.end.seq ≡ end → At n s → Logged n end (serving_seal s)
  unfolding serving_seal
  serving_seal_so n s end e h =
      let r : log.Done = log.on_seal s.log in
      let k : frames.Passes logs members part limit c life room highest n s.tokens r.state s.lasting.number s.lasting.inc =
      on_seal_passes logs members part limit c life room highest pos less n s.tokens s.log s.lasting.number s.lasting.inc h in
      record {
        goes = frames.goes_from logs members part limit c life room highest n k.next (serving_seal s) k.grown
            (frames.goes_plain logs members part limit c life room highest k.next (record s { log = r.state }) (flat_map stored r.outs) k.stands
            (plain_stored part c life r.outs));
        end_is = ap (λ x. x.seq) (seal_end s.log) ∙ e;
      }

  -- ---- readings

  pub loses_so : (n : Net) (s : Serving) (end : ℕ) (block : BlockId) (seg : SegName) → s.log.end.seq ≡ end → At n s → Logged n end (loses s block seg)
  unfolding loses
  loses_so n s end block seg e h =
      let quit : Serving = record s { tokens = (client.on_quit s.tokens block).state } in
      let t : Serving = record s {
        lasting = record s.lasting { items = items_answer s.lasting.items };
        call = None;
        tokens = (client.on_quit s.tokens block).state;
      } in
      let outs : List Effect = Lose seg ∷ answers_unanswered s.lasting.items.unanswered (Lost seg) in
      record {
        goes = frames.goes_and_gives logs members part limit c life room highest n (still quit) t outs (acts_so n s (input.Quit block) tt (λ u. refl) tt h)
            (λ m k. k)
            (All-cons (frames.May part c life) _ _ tt (plain_answers part c life s.lasting.items.unanswered (Lost seg)));
        end_is = e;
      }

  still_so : (n : Net) (s : Serving) (end : ℕ) → s.log.end.seq ≡ end → At n s → Logged n end (still s)
  still_so n s end e h = record { goes = frames.goes_still logs members part limit c life room highest n s h; end_is = e }

  lose_at_so : (n : Net) (s : Serving) (end : ℕ) (at : Option BlockAt) (seg : SegName) → s.log.end.seq ≡ end → At n s → Logged n end (lose_at s at seg)
  lose_at_so n s end None seg e h = still_so n s end e h
  lose_at_so n s end (Some at) seg e h = loses_so n s end at.block seg e h

  begins_over_so : (n : Net) (s : Serving) (end : ℕ) (target : Target) (group : Option Group) → s.log.end.seq ≡ end → At n s
      → Logged n end (begins_over s target group)
  begins_over_so n s end target None e h = still_so n s end e h
  begins_over_so n s end target (Some group) e h =
      let r : ReadingState = reading_start target group (next_ask s.lasting.questions) in
      record {
        goes = frames.goes_plain logs members part limit c life room highest n (with_reading (draws s) (Some r)) (fetches r) h (plain_fetches part c life r);
        end_is = e;
      }

  begin_reading_so : (n : Net) (s : Serving) (end : ℕ) (target : Target) → s.log.end.seq ≡ end → At n s → Logged n end (begin_reading s target)
  unfolding begin_reading
  begin_reading_so n s end target e h = begins_over_so n s end target (group_in s.maps.groups target.seg.group) e h

  go_on_reading_so : (n : Net) (s : Serving) (end : ℕ) (r : ReadingState) (x : Next) → s.log.end.seq ≡ end → At n s → Logged n end (go_on_reading s r x)
  go_on_reading_so n s end r next.Lost e h = lose_at_so n s end r.target.block r.target.seg.name e h
  go_on_reading_so n s end r next.Ask e h = record {
    goes = frames.goes_plain logs members part limit c life room highest n (with_reading s (Some r)) (fetches r) h (plain_fetches part c life r);
    end_is = e;
  }
  go_on_reading_so n s end r next.Wait e h = still_so n (with_reading s (Some r)) end e h
  go_on_reading_so n s end r next.Again e h = still_so n (with_reading s (Some r)) end e h
  go_on_reading_so n s end r (next.Read segment) e h = still_so n (with_reading s (Some r)) end e h

  drawn_after_so : (n : Net) (s : Serving) (end : ℕ) (r : ReadingState) (x : Next) (stage : Stage) → s.log.end.seq ≡ end → At n s
      → Logged n end (go_on_reading (drawn_after s stage) r x)
  drawn_after_so n s end r x Between e h = go_on_reading_so n (draws s) end r x e h
  drawn_after_so n s end r x _ e h = go_on_reading_so n s end r x e h

  serving_confirm_so : (n : Net) (s : Serving) (end : ℕ) (r : ReadingState) → s.log.end.seq ≡ end → At n s → Logged n end (serving_confirm s r)
  unfolding serving_confirm
  serving_confirm_so n s end r e h =
      let step : Step = on_confirmed r (ask_after s r.ask r.stage) in
      drawn_after_so n s end step.state step.next r.stage e h

  reads_over_so : (n : Net) (s : Serving) (end : ℕ) (target : Target) (reading : Option ReadingState) → s.log.end.seq ≡ end → At n s
      → Logged n end (reads_over s target reading)
  reads_over_so n s end target None e h = begin_reading_so n s end target e h
  reads_over_so n s end target (Some r) e h =
      by_test (λ (d : Done). Logged n end d) (same_target r.target target) (serving_confirm s r) (begin_reading s target) (λ t. serving_confirm_so n s end r e h)
      (λ t. begin_reading_so n s end target e h)

  pub serving_read_so : (n : Net) (s : Serving) (end : ℕ) (block : BlockId) (place : Place) → s.log.end.seq ≡ end → At n s → Logged n end (serving_read s block place)
  unfolding serving_read
  serving_read_so n s end block place e h =
      by_test (λ (d : Done). Logged n end d) (is_none s.call) (still s) (reads_over (with_reading s None) (target_of block place) (reading_in s.call))
      (λ t. still_so n s end e h) (λ t. reads_over_so n (with_reading s None) end (target_of block place) (reading_in s.call) e h)

  -- ---- what the tokens say

  plain_before : (s : Serving) (block : BlockId) (again : ℕ) → Plain part c life (before_want s block again)
  plain_before s block again = by_test (λ (es : List Effect). Plain part c life es) (again == 0) (deltas s block) []
      (λ t. plain_pushes part c life s.managers s.feed _) (λ t. All-nil (frames.May part c life))

  -- a packet that was sent, behind what may be sent in any world
  one_said : (n : Net) (s : Serving) (end : ℕ) (before : List Effect) (e : Effect) → s.log.end.seq ≡ end → At n s → Plain part c life before
      → acts_of (Client c) (e ∷ []) ≡ [] → ClientDoes part n.sent c life e → Logged n end (gives s (before ++ e ∷ []))
  one_said n s end before e log h plain silent seen = record {
    goes = frames.goes_after_in logs members part limit c life room highest n s before (gives s (e ∷ [])) plain h
        (λ m w k. frames.goes_said logs members part limit c life room highest m s e silent k (frames.does_more part c life n.sent m.sent w e seen));
    end_is = log;
  }

  follow_one_so : (n : Net) (s : Serving) (end : ℕ) (o : outputs.Out) → s.log.end.seq ≡ end → At n s
      → taking.OutSeen logs members part limit c life room highest n.sent end o
      → Logged n end (follow_one s o)
  unfolding follow_one
  follow_one_so n s end (output.Want block req again mode) e h seen =
      one_said n s end (before_want s block again) (want s block req again mode) e h (plain_before s block again) refl
      (λ inside. subst (λ k. In (WantSent c s.lasting.inc req again block mode k) n.sent) (sym e)
      (subst (λ i. In (WantSent c i req again block mode end) n.sent) (sym h.inc_is) (seen inside)))
  follow_one_so n s end (output.Gave block stamp) e h seen =
      one_said n s end (deltas s block) (gave s block stamp) e h (plain_pushes part c life s.managers s.feed _) refl
      (λ inside. subst (λ k. In (GaveSent c block stamp k) n.sent) (sym e) (seen inside))
  follow_one_so n s end (output.Flush block) e h seen = serving_seal_so n s end e h
  follow_one_so n s end (output.Read block place) e h seen = serving_read_so n s end block place e h
  follow_one_so n s end (output.Ready block) e h seen = note_copy_so n s end block e h
  follow_one_so n s end (output.Supply block ver value) e h seen = still_so n s end e h

  follows_all : (n : Net) (s : Serving) (end : ℕ) (outs : List outputs.Out) → s.log.end.seq ≡ end → At n s
      → taking.OutsSeen logs members part limit c life room highest n.sent end outs → Goes n (steps follow_one s outs)
  follows_all n s end [] e h seen = frames.goes_still logs members part limit c life room highest n s h
  follows_all n s end (o ∷ outs) e h seen =
      let one : Logged n end (follow_one s o) = follow_one_so n s end o e h seen.0 in
      frames.goes_on_in logs members part limit c life room highest n (follow_one s o) (steps follow_one (follow_one s o).state outs) one.goes
      (λ m w k. follows_all m (follow_one s o).state end outs one.end_is k
      (taking.outs_more logs members part limit c life room highest n.sent m.sent w end outs seen.1))

  -- what the tokens gave out, and was sent, is done
  pub serving_follow_so : (n : Net) (s : Serving) (outs : List outputs.Out) → At n s
      → taking.OutsSeen logs members part limit c life room highest n.sent s.log.end.seq outs
      → Goes n (serving_follow s outs)
  unfolding serving_follow
  serving_follow_so n s outs h seen = follows_all n s s.log.end.seq outs refl h seen

  -- an input that may be taken is handed to the tokens
  pub hand_so : (n : Net) (s : Serving) (i : inputs.In) → taking.MayTake logs members part limit c life room highest n s.log i → At n s → Goes n (hand s i)
  unfolding hand
  hand_so n s i may h =
      let r : client.Done = client.transition s.tokens i in
      let t : Serving = ends_reading (record s { tokens = r.state }) in
      let k : taking.Taken logs members part limit c life room highest n s.log s.log.end.seq s.lasting.number s.lasting.inc r [] =
      taking.takes logs members part limit c life room highest n s.tokens s.log s.lasting.number s.lasting.inc i pos less h may in
      frames.goes_from logs members part limit c life room highest n k.next (serving_follow t r.outs) k.grown
      (serving_follow_so k.next t r.outs k.stands (taking.outs_seen logs members part limit c life room highest k.next.sent s.log.end.seq r.outs k.seen))

  -- one of the client's own accord
  pub hands_own : (n : Net) (s : Serving) (i : inputs.In) → IsOwnAct i → ((u : TokensState) → acts_by c u i ≡ [])
      → Allowed (frames.Sent part c n.sent) (frames.Promised part limit) (frames.Known logs s.log) life i → At n s → Goes n (hand s i)
  hands_own n s i own silent allowed h = hand_so n s i (taking.may_act logs members part limit c life room highest n s.log i own silent allowed) h

  pub take_back_so : (n : Net) (s : Serving) (block : BlockId) (stamp : Stamp) (keep : Bool)
      → taking.MayTake logs members part limit c life room highest n s.log (input.Recalled block stamp keep) → At n s → Goes n (take_back s block stamp keep)
  unfolding take_back
  take_back_so n s block stamp keep may h =
      let d : Done = hand s (input.Recalled block stamp keep) in
      let p : Goes n d = hand_so n s (input.Recalled block stamp keep) may h in
      record { next = p.next; grown = p.grown; stands = note_gone_so p.next d.state block p.stands; does = p.does }
