-- A client that serves takes a recall, in the event in which it comes.
use Rattle.std.proofs.Common.{◌≡◌, ◌⊎◌, ◌<◌, ℕ, suc, arith, ◌+◌, ◌==◌, ◌&&◌, Bool, true, false, cond, List, [], ◌∷◌, ◌++◌, append-nil, flat_map, Option, Some, None, is_none, is_some, nat_lt, inl, inr, refl, sym, ap, subst, ◌∙◌}
use Rattle.std.proofs.lemmas.Bool.{eqb-true, lt-ltb}
use Rattle.std.specs.Prelude.{length}
use Rattle.client_log.specs.Transition as log
use Rattle.client_log.specs.LogState.{LogState}
use Rattle.client_log.specs.Transition.{has_next, is_idle, log_launch, log_seal, on_seal}
use Rattle.client_running.specs.Blocks.{is_settled}
use Rattle.client_running.specs.Running.{run}
use Rattle.client_serving.specs.declared.serving.Serving.{Serving}
use Rattle.client_serving.specs.Flights.{held_at}
use Rattle.client_serving.specs.Follow.{follow_one, hand, note_gone, serving_follow, serving_seal, take_back}
use Rattle.client_serving.specs.Grants.{is_stamp}
use Rattle.client_serving.specs.Packets.{on_recall, says_again}
use Rattle.client_serving.specs.Reads.{ends_reading}
use Rattle.client_serving.specs.Sends.{Done, deltas, gave, gaves, gives, wants}
use Rattle.delta_feed.specs.Transition.{feed_push}
use Rattle.log_flight.specs.declared.dirty.Change.{Change}
use Rattle.log_flight.specs.Flights.{FlightState}
use Rattle.log_owner.specs.Opening.{stored}
use Rattle.node_base.specs.declared.effects.Effect.{Effect}
use Rattle.node_base.specs.Effects.{packets_of}
use Rattle.token_client.proofs.Tables.{held_of-put_itself}
use Rattle.token_client.specs.declared.held.Giving.{Giving}
use Rattle.token_client.specs.declared.held.Held.{Held}
use Rattle.token_client.specs.declared.input.In.TheVariants as input
use Rattle.token_client.specs.declared.output.Out.{Out}
use Rattle.token_client.specs.declared.output.Out.TheVariants as output
use Rattle.token_client.specs.Held.{give_up, gives_after, held_ask, is_dirty, put_off, unfetched}
use Rattle.token_client.specs.State.{TokensState, held_of, with_held}
use Rattle.token_client.specs.Transition as tokens
use Rattle.token_client.specs.Transition.{can_refetch, give, is_promised, on_recalled, recalled, recalled_above, recalled_again, refetch, tokens_ask, was_answered}
use Rattle.wire_msg.specs.declared.packet.Packet.{Packet}
use Rattle.wire_msg.specs.declared.tokens.Recall.{Recall}
use Rattle.xfs_base.proofs.Alls.{all_append}
use Rattle.xfs_base.proofs.Booleans.{and_first, and_second, by_test, contrary, equal_itself, or_second}
use Rattle.xfs_base.proofs.Orders.{not_later_back, not_later_itself}
use Rattle.xfs_base.specs.Blocks.{slot_of}
use Rattle.xfs_base.specs.declared.block.BlockId.{BlockId}
use Rattle.xfs_base.specs.declared.node.NodeId.{NodeId}
use Rattle.xfs_base.specs.declared.node.NodeId.TheVariants as nodes
use Rattle.xfs_base.specs.declared.token.Mode.{Mode}
use Rattle.xfs_base.specs.declared.token.Mode.TheVariants.{Copy, Nothing, Own}
use Rattle.xfs_base.specs.declared.token.Stamp.{Stamp}
use Rattle.xfs_base.specs.Limits.{u32_end}
use Rattle.xfs_base.specs.Modes.{is_held, is_nothing, is_own}
use Rattle.xfs_base.specs.Stamps.{is_later}
use Rattle.xfs_base.specs.Steps.{saying, still}
use Rattle.run_answers.proofs.reply_law.OpenCalls.{AllSilent, IsSilent, Keeps, deltas_silent, runs_go, stored_silent, wants_silent}
use Rattle.run_answers.proofs.reply_law.Sent.{replies, replies_first, replies_more, silent_none}
use Rattle.headline.specs.ClientReplies.{GivesUp, PutsOff, RepliesWith, TakesRecall, given_up}

-- ---- the tokens take a recall

module _ (t : TokensState) (block : BlockId) (stamp : Stamp) (keep : Bool) where
  abbrev h : Held
  h = held_of t.blocks block

  -- nothing comes of one of another epoch
  unpromised : is_promised t block stamp ≡ false → on_recalled t block stamp keep ≡ still t
  unfolding on_recalled
  unpromised fails = ap (λ (b : Bool). cond b (recalled t block stamp keep) (still t)) fails

  -- nor of one that isn't later than the block's stamp, but that it is answered again
  not_above : is_later stamp h.stamp ≡ false → was_answered h stamp ≡ false → on_recalled t block stamp keep ≡ still t
  unfolding on_recalled recalled recalled_again
  not_above later answered =
      by_test (λ (d : tokens.Done). d ≡ still t) (is_promised t block stamp) (recalled t block stamp keep) (still t)
      (λ _.
      ap (λ (b : Bool). cond b (recalled_above t block stamp keep) (recalled_again t block stamp)) later
      ∙ ap (λ (b : Bool). cond b (record { state = t; outs = output.Gave block stamp ∷ [] }) (still t)) answered)
      (λ _. refl)

  answered_again : is_promised t block stamp ≡ true → is_later stamp h.stamp ≡ false → was_answered h stamp ≡ true
      → on_recalled t block stamp keep ≡ record { state = t; outs = output.Gave block stamp ∷ [] }
  unfolding on_recalled recalled recalled_again
  answered_again promised later answered =
      ap (λ (b : Bool). cond b (recalled t block stamp keep) (still t)) promised
      ∙ (ap (λ (b : Bool). cond b (recalled_above t block stamp keep) (recalled_again t block stamp)) later
      ∙ ap (λ (b : Bool). cond b (record { state = t; outs = output.Gave block stamp ∷ [] }) (still t)) answered)

  above : is_promised t block stamp ≡ true → is_later stamp h.stamp ≡ true → nat_lt t.req u32_end ≡ true
      → on_recalled t block stamp keep ≡ saying (refetch t block).outs (give (refetch t block).state block stamp keep)
  unfolding on_recalled recalled recalled_above
  above promised later room =
      ap (λ (b : Bool). cond b (recalled t block stamp keep) (still t)) promised
      ∙ (ap (λ (b : Bool). cond b (recalled_above t block stamp keep) (recalled_again t block stamp)) later
      ∙ ap (λ (b : Bool). cond b (saying (refetch t block).outs (give (refetch t block).state block stamp keep)) (still t))
      (or_second (is_none h.fetch) (nat_lt t.req u32_end) room))

  -- the block as it is once its fetch is dropped
  pub record IsRefetched (d : tokens.Done) : Type 0 where
    pub mode : (held_of d.state.blocks block).mode ≡ h.mode
    pub giving : (held_of d.state.blocks block).giving ≡ h.giving
    pub dirty : is_dirty (held_of d.state.blocks block) ≡ is_dirty h
    pub says : (d.outs ≡ []) ⊎ ((req : ℕ) × (d.outs ≡ output.Want block req 0 Copy ∷ []))

  is_unfetched : IsRefetched (tokens_ask (with_held t block (unfetched h)) block Copy)
  unfolding tokens_ask
  is_unfetched =
      let u : TokensState = with_held t block (unfetched h) in
      let first : held_of u.blocks block ≡ unfetched h = held_of-put_itself block (unfetched h) t.blocks in
      let g : Held = held_ask (held_of u.blocks block) (t.req + 1) Copy in
      let second : held_of (with_held u block g).blocks block ≡ g = held_of-put_itself block g u.blocks in
      by_test IsRefetched (nat_lt t.req u32_end) _ (still u)
      (λ _. record {
        mode = ap (λ (k : Held). k.mode) second ∙ ap (λ (k : Held). k.mode) first;
        giving = ap (λ (k : Held). k.giving) second ∙ ap (λ (k : Held). k.giving) first;
        dirty = ap is_dirty second ∙ ap is_dirty first;
        says = inr (t.req + 1, refl);
      })
      (λ _. record {
        mode = ap (λ (k : Held). k.mode) first;
        giving = ap (λ (k : Held). k.giving) first;
        dirty = ap is_dirty first;
        says = inl refl;
      })

  refetched : IsRefetched (refetch t block)
  unfolding refetch
  refetched =
      by_test IsRefetched (is_some h.fetch) (tokens_ask (with_held t block (unfetched h)) block Copy) (still t) (λ _. is_unfetched)
      (λ _. record { mode = refl; giving = refl; dirty = refl; says = inl refl })

-- ---- a log that is sealed

positive : (n : ℕ) → 0 < suc n
positive n = omega arith

some_wait : (dirty : List (BlockId × Change)) → (length dirty == 0) ≡ false → nat_lt 0 (length dirty) ≡ true
some_wait [] waits = contrary (sym waits)
some_wait (c ∷ dirty) waits = lt-ltb 0 (length (c ∷ dirty)) (positive (length dirty))

-- where something waits, and the numbers of segments go on, a segment is in flight then
seal_flies : (l : LogState) → has_next l.end.seq ≡ true → (is_none l.flight && (length l.dirty == 0)) ≡ false → is_some (on_seal l).state.flight ≡ true
unfolding on_seal log_seal log_launch
seal_flies l next waits =
    by_test (λ (d : log.Done). is_some d.state.flight ≡ true) (is_idle l && nat_lt 0 (length l.dirty) && has_next l.end.seq) (log_seal l) (still l) (λ _. refl)
    (λ barred. by l.flight barred waits)
  where
    by : (o : Option FlightState) → (is_none o && nat_lt 0 (length l.dirty) && has_next l.end.seq) ≡ false → (is_none o && (length l.dirty == 0)) ≡ false → is_some o ≡ true
    by (Some f) barred waits = refl
    by None barred waits =
        contrary (sym barred ∙ (ap (λ (b : Bool). true && b && has_next l.end.seq) (some_wait l.dirty waits) ∙ next))

-- ---- it is given up, or put off

module _ (s : Serving) (recall : Recall) where
  abbrev block : BlockId
  block = recall.block

  abbrev stamp : Stamp
  stamp = recall.stamp

  abbrev me : NodeId
  me = nodes.Client s.lasting.number

  abbrev was : Held
  was = held_at s block

  -- what is said then
  abbrev gave_up : Packet
  gave_up = given_up s s [] recall

  -- what the tokens say once it was asked for again, and then this, is done
  follows_refetch : (u : Serving) (first rest : List Out) → (first ≡ []) ⊎ ((req : ℕ) × (first ≡ output.Want block req 0 Copy ∷ []))
      → (before : List Effect) × (AllSilent before × (serving_follow u (first ++ rest) ≡ saying before (serving_follow u rest)))
  unfolding serving_follow follow_one
  follows_refetch u first rest (inl none) = ([], (tt, ap (λ (outs : List Out). serving_follow u (outs ++ rest)) none))
  follows_refetch u first rest (inr one) =
      (wants u block one.0 0 Copy, (wants_silent u block one.0 0 Copy, ap (λ (outs : List Out). serving_follow u (outs ++ rest)) one.1))

  -- so the recall is taken
  pub record Taken (r : tokens.Done) (d : Done) : Type 0 where
    pub before : List Effect
    pub silent : AllSilent before
    pub goes : d ≡ saying before (serving_follow (ends_reading (record s { tokens = r.state })) r.outs)

  -- ---- what waits, and what is over

  module _ (promised : is_promised s.tokens block stamp ≡ true) (later : is_later stamp was.stamp ≡ true) (room : nat_lt s.tokens.req u32_end ≡ true) where
    abbrev f : tokens.Done
    f = refetch s.tokens block

    abbrev its : Held
    its = held_of f.state.blocks block

    is_refetched : IsRefetched s.tokens block stamp recall.keep f
    is_refetched = refetched s.tokens block stamp recall.keep

    handed : Taken (give f.state block stamp recall.keep) (hand s (input.Recalled block stamp recall.keep))
    unfolding hand
    handed =
        let g : tokens.Done = give f.state block stamp recall.keep in
        let r : tokens.Done = saying f.outs g in
        let u : Serving = ends_reading (record s { tokens = g.state }) in
        let p : (before : List Effect) × (AllSilent before × (serving_follow u (f.outs ++ g.outs) ≡ saying before (serving_follow u g.outs))) =
        follows_refetch u f.outs g.outs is_refetched.says in record {
          before = p.0;
          silent = p.1.0;
          goes = ap (λ (d : tokens.Done). serving_follow (ends_reading (record s { tokens = d.state })) d.outs) (above s.tokens block stamp recall.keep promised later room)
              ∙ p.1.1;
        }

    -- the block is given up at once

    module _ (clean : is_dirty was ≡ false) where
      abbrev t : TokensState
      t = with_held f.state block (give_up its stamp recall.keep)

      abbrev u : Serving
      u = ends_reading (record s { tokens = t })

      gives_so : give f.state block stamp recall.keep ≡ record { state = t; outs = output.Gave block stamp ∷ [] }
      unfolding give
      gives_so =
          ap
          (λ (b : Bool).
          cond b (record { state = with_held f.state block (put_off its stamp recall.keep); outs = output.Flush block ∷ [] })
          (record { state = t; outs = output.Gave block stamp ∷ [] }))
          (is_refetched.dirty ∙ clean)

      gives_hand : hand s (input.Recalled block stamp recall.keep) ≡ gives u (handed.before ++ (gaves u block stamp ++ []))
      unfolding serving_follow follow_one
      gives_hand =
          handed.goes
          ∙ ap (λ (d : tokens.Done). saying handed.before (serving_follow (ends_reading (record s { tokens = d.state })) d.outs)) gives_so

      gives_back : take_back s block stamp recall.keep ≡ gives (note_gone u block) (handed.before ++ (gaves u block stamp ++ []))
      unfolding take_back
      gives_back = ap (λ (d : Done). gives (note_gone d.state block) d.outs) gives_hand

      gave_alone : replies me (gaves u block stamp ++ []) ≡ gave_up ∷ []
      gave_alone =
          ap (replies me) (append-nil (gaves u block stamp)) ∙ replies_more me (deltas u block) (gave u block stamp ∷ [])
          ∙ ap (λ (ps : List Packet). ps ++ replies me (gave u block stamp ∷ [])) (silent_none me (deltas u block) (deltas_silent u.managers (feed_push u.feed (slot_of block.ino.0))))

      gives_replies : replies me (handed.before ++ (gaves u block stamp ++ [])) ≡ gave_up ∷ []
      gives_replies =
          replies_more me handed.before (gaves u block stamp ++ [])
          ∙ (ap (λ (ps : List Packet). ps ++ replies me (gaves u block stamp ++ [])) (silent_none me handed.before handed.silent) ∙ gave_alone)

      -- what is known of the block then
      is_given : (held_at (note_gone u block) block) ≡ give_up its stamp recall.keep
      unfolding note_gone
      is_given =
          by_test (λ (x : Serving). held_at x block ≡ give_up its stamp recall.keep) (is_nothing (held_of t.blocks block).mode) _ u
          (λ _. held_of-put_itself block (give_up its stamp recall.keep) f.state.blocks)
          (λ _. held_of-put_itself block (give_up its stamp recall.keep) f.state.blocks)

      -- it is held under the recall's stamp, and as a copy at most
      pub record IsLeft (g : Held) : Type 0 where
        pub stamped : g.stamp ≡ stamp
        pub unowned : is_own g.mode ≡ false
        pub kept : is_held g.mode ≡ true → (recall.keep ≡ true) × (is_held was.mode ≡ true)

      left : IsLeft (give_up its stamp recall.keep)
      left =
          by_test IsLeft (recall.keep && is_held its.mode) (record its { mode = Copy; stamp = stamp; giving = None })
          (record its { mode = Nothing; value = None; stamp = stamp; giving = None })
          (λ may. record {
            stamped = refl;
            unowned = refl;
            kept = λ held. (
              and_first recall.keep (is_held its.mode) may,
              ap is_held (sym is_refetched.mode) ∙ and_second recall.keep (is_held its.mode) may,
            );
          })
          (λ _. record { stamped = refl; unowned = refl; kept = λ held. contrary held })

      gives_up : (now : Serving) (packets : List Packet) → Keeps (note_gone u block) now → RepliesWith s now packets (gave_up ∷ []) → GivesUp s now packets recall
      gives_up now packets keeps said =
          let g : Held = held_at now block in
          let is : IsLeft (held_at (note_gone u block) block) = subst IsLeft (sym is_given) left in record {
            replies = said;
            stamped = keeps.blocks.stamp block ∙ is.stamped;
            unowned = owned g.mode (λ held. ap is_own (keeps.blocks.mode block held) ∙ is.unowned);
            kept = λ held. is.kept (ap is_held (sym (keeps.blocks.mode block held)) ∙ held);
          }
        where
          owned : (m : Mode) → (is_held m ≡ true → is_own m ≡ false) → is_own m ≡ false
          owned Nothing so = refl
          owned Copy so = refl
          owned Own so = so refl

    -- it is put off, and the log is sealed

    module _ (dirty : is_dirty was ≡ true) (next : has_next s.log.end.seq ≡ true) where
      abbrev kept : TokensState
      kept = with_held f.state block (put_off its stamp recall.keep)

      abbrev v : Serving
      v = ends_reading (record s { tokens = kept })

      puts_so : give f.state block stamp recall.keep ≡ record { state = kept; outs = output.Flush block ∷ [] }
      unfolding give
      puts_so =
          ap
          (λ (b : Bool).
          cond b (record { state = kept; outs = output.Flush block ∷ [] })
          (record { state = with_held f.state block (give_up its stamp recall.keep); outs = output.Gave block stamp ∷ [] }))
          (is_refetched.dirty ∙ dirty)

      puts_back : take_back s block stamp recall.keep
          ≡ gives (note_gone (serving_seal v).state block) (handed.before ++ ((serving_seal v).outs ++ []))
      unfolding take_back serving_follow follow_one
      puts_back =
          ap (λ (d : Done). gives (note_gone d.state block) d.outs)
          (handed.goes
          ∙ ap (λ (d : tokens.Done). saying handed.before (serving_follow (ends_reading (record s { tokens = d.state })) d.outs)) puts_so)

      puts_replies : replies me (handed.before ++ ((serving_seal v).outs ++ [])) ≡ []
      unfolding serving_seal
      puts_replies =
          silent_none me (handed.before ++ (flat_map stored (on_seal v.log).outs ++ []))
          (all_append IsSilent handed.before (flat_map stored (on_seal v.log).outs ++ []) handed.silent
          (all_append IsSilent (flat_map stored (on_seal v.log).outs) [] (stored_silent (on_seal v.log).outs) tt))

      -- what waits is given up under the recall's stamp, or is so already under that of a later one
      pub record IsWaiting (g : Held) : Type 0 where
        pub giving : Giving
        pub stands : g.giving ≡ Some giving
        pub whose : (giving ≡ record { stamp = stamp; keep = recall.keep }) ⊎ ((was.giving ≡ Some giving) × (is_later giving.stamp stamp ≡ true))

      waiting : IsWaiting (put_off its stamp recall.keep)
      waiting = by its.giving refl
        where
          new : Giving
          new = record { stamp = stamp; keep = recall.keep }

          by : (o : Option Giving) → its.giving ≡ o → IsWaiting (cond (gives_after o stamp) its (record its { giving = Some new }))
          by None is = record { giving = new; stands = refl; whose = inl refl }
          by (Some g) is =
              by_test IsWaiting (is_later g.stamp stamp) its (record its { giving = Some new })
              (λ after. record { giving = g; stands = is; whose = inr (sym is_refetched.giving ∙ is, after) })
              (λ _. record { giving = new; stands = refl; whose = inl refl })

      is_put : (x : Serving) → x.tokens ≡ kept → held_at (note_gone x block) block ≡ put_off its stamp recall.keep
      unfolding note_gone
      is_put x same =
          by_test (λ (y : Serving). held_at y block ≡ put_off its stamp recall.keep) (is_nothing (held_of x.tokens.blocks block).mode) _ x (λ _. at) (λ _. at)
        where
          at : held_at x block ≡ put_off its stamp recall.keep
          at = ap (λ (y : TokensState). held_of y.blocks block) same ∙ held_of-put_itself block (put_off its stamp recall.keep) f.state.blocks

      is_put_so : held_at (note_gone (serving_seal v).state block) block ≡ put_off its stamp recall.keep
      unfolding serving_seal
      is_put_so = is_put (record v { log = (on_seal v.log).state }) refl

      log_stays : (x : Serving) → (note_gone x block).log ≡ x.log
      unfolding note_gone
      log_stays x = by_test (λ (y : Serving). y.log ≡ x.log) (is_nothing (held_of x.tokens.blocks block).mode) _ x (λ _. refl) (λ _. refl)

      flies_then : is_settled s ≡ false → is_some (note_gone (serving_seal v).state block).log.flight ≡ true
      unfolding serving_seal
      flies_then waits =
          ap (λ (l : LogState). is_some l.flight) (log_stays (record v { log = (on_seal v.log).state })) ∙ seal_flies s.log next waits

      puts_off : (now : Serving) (packets : List Packet) → Keeps (note_gone (serving_seal v).state block) now → RepliesWith s now packets []
          → PutsOff s now packets recall
      puts_off now packets keeps said =
          let is : IsWaiting (held_at (note_gone (serving_seal v).state block) block) = subst IsWaiting (sym is_put_so) waiting in record {
            replies = said;
            giving = is.giving;
            stands = keeps.blocks.giving block ∙ is.stands;
            whose = is.whose;
            flies = λ waits. keeps.flight (flies_then waits);
          }

  -- ---- the event

  abbrev done : Done
  done = on_recall s recall

  abbrev now : Serving
  now = (run done.state).state

  abbrev sent : List Packet
  sent = packets_of me (done.outs ++ (run done.state).outs)

  -- the open call answers nobody
  call_silent : (said : List Packet) → replies me done.outs ≡ said → RepliesWith s now sent said
  call_silent said is = replies_first me done.outs (run done.state).outs (runs_go done.state).silent ∙ is

  -- two stamps that are one
  same_stamps : was.stamp ≡ stamp → is_stamp was.stamp stamp ≡ true
  same_stamps same =
      subst (λ (x : Stamp). is_stamp was.stamp x ≡ true) same
      (ap (λ (b : Bool). b && (was.stamp.turn == was.stamp.turn)) (equal_itself was.stamp.epoch) ∙ equal_itself was.stamp.turn)

  one_stamp : is_stamp was.stamp stamp ≡ true → was.stamp ≡ stamp
  one_stamp same =
      let epochs = eqb-true was.stamp.epoch stamp.epoch (and_first (was.stamp.epoch == stamp.epoch) (was.stamp.turn == stamp.turn) same) in
      let turns = eqb-true was.stamp.turn stamp.turn (and_second (was.stamp.epoch == stamp.epoch) (was.stamp.turn == stamp.turn) same) in
      ap (λ (e : ℕ). record { epoch = e; turn = was.stamp.turn }) epochs ∙ ap (λ (n : ℕ). record { epoch = stamp.epoch; turn = n }) turns

  -- a later stamp is another
  apart : is_later stamp was.stamp ≡ true → is_stamp was.stamp stamp ≡ false
  apart later = by (is_stamp was.stamp stamp) refl
    where
      by : (b : Bool) → is_stamp was.stamp stamp ≡ b → b ≡ false
      by false is = refl
      by true is = contrary (sym (subst (λ (x : Stamp). is_later stamp x ≡ false) (sym (one_stamp is)) (not_later_itself stamp)) ∙ later)

  takes_back : is_stamp was.stamp stamp ≡ false → done ≡ take_back s block stamp recall.keep
  unfolding on_recall
  takes_back other = ap (λ (b : Bool). cond b (says_again s recall (on_recalled s.tokens block stamp recall.keep)) (take_back s block stamp recall.keep)) other

  answers_again : is_stamp was.stamp stamp ≡ true → done ≡ says_again s recall (on_recalled s.tokens block stamp recall.keep)
  unfolding on_recall
  answers_again same = ap (λ (b : Bool). cond b (says_again s recall (on_recalled s.tokens block stamp recall.keep)) (take_back s block stamp recall.keep)) same

  -- where the tokens say nothing, nothing is answered
  none_back : on_recalled s.tokens block stamp recall.keep ≡ still s.tokens → (take_back s block stamp recall.keep).outs ≡ []
  unfolding take_back hand serving_follow
  none_back none = ap (λ (d : tokens.Done). (serving_follow (ends_reading (record s { tokens = d.state })) d.outs).outs) none

  none_said : on_recalled s.tokens block stamp recall.keep ≡ still s.tokens → replies me done.outs ≡ []
  unfolding on_recall
  none_said none =
      by_test (λ (d : Done). replies me d.outs ≡ []) (is_stamp was.stamp stamp) (says_again s recall (on_recalled s.tokens block stamp recall.keep))
      (take_back s block stamp recall.keep)
      (λ _. ap (λ (d : tokens.Done). replies me (says_again s recall d).outs) none) (λ _. ap (replies me) (none_back none))

  earlier_none : is_later was.stamp stamp ≡ true → on_recalled s.tokens block stamp recall.keep ≡ still s.tokens
  earlier_none earlier =
      not_above s.tokens block stamp recall.keep (not_later_back stamp was.stamp earlier)
      (ap (λ (b : Bool). b && is_none was.giving) (by (is_stamp was.stamp stamp) refl))
    where
      by : (b : Bool) → is_stamp was.stamp stamp ≡ b → b ≡ false
      by false is = refl
      by true is = contrary (sym (subst (λ (x : Stamp). is_later was.stamp x ≡ false) (one_stamp is) (not_later_itself was.stamp)) ∙ earlier)

  waits_none : was.stamp ≡ stamp → is_some was.giving ≡ true → on_recalled s.tokens block stamp recall.keep ≡ still s.tokens
  waits_none same some =
      not_above s.tokens block stamp recall.keep (subst (λ (x : Stamp). is_later x was.stamp ≡ false) same (not_later_itself was.stamp))
      (ap (λ (b : Bool). b && is_none was.giving) (same_stamps same) ∙ by was.giving some)
    where
      by : (o : Option Giving) → is_some o ≡ true → is_none o ≡ false
      by None some = contrary some
      by (Some g) some = refl

  again_said : is_promised s.tokens block stamp ≡ true → was.stamp ≡ stamp → was.giving ≡ None → replies me done.outs ≡ gave_up ∷ []
  again_said promised same none =
      ap (λ (d : Done). replies me d.outs)
      (answers_again (same_stamps same)
      ∙ ap (says_again s recall)
      (answered_again s.tokens block stamp recall.keep promised (subst (λ (x : Stamp). is_later x was.stamp ≡ false) same (not_later_itself was.stamp))
      (ap (λ (b : Bool). b && is_none was.giving) (same_stamps same) ∙ ap (λ (o : Option Giving). is_none o) none)))

  kept_from : (d : Done) → done ≡ d → Keeps d.state now
  kept_from d same = subst (λ (x : Done). Keeps x.state now) same (runs_go done.state).kept

  -- a client whose counters are far from their ends takes each recall so
  pub takes_recall : nat_lt s.tokens.req u32_end ≡ true → has_next s.log.end.seq ≡ true → TakesRecall s now sent recall
  takes_recall room next = record {
    other = λ either. call_silent [] (none_said (by either));
    again = λ promised same none. call_silent (gave_up ∷ []) (again_said promised same none);
    waits = λ same some. call_silent [] (none_said (waits_none same some));
    settled = λ promised later clean.
        let is = takes_back (apart later) ∙ gives_back promised later room clean in
        gives_up promised later room clean now sent (kept_from _ is)
        (call_silent (gave_up ∷ []) (ap (λ (d : Done). replies me d.outs) is ∙ gives_replies promised later room clean));
    dirty = λ promised later dirty.
        let is = takes_back (apart later) ∙ puts_back promised later room dirty next in
        puts_off promised later room dirty next now sent (kept_from _ is)
        (call_silent [] (ap (λ (d : Done). replies me d.outs) is ∙ puts_replies promised later room dirty next));
  }
    where
      by : (is_promised s.tokens block stamp ≡ false) ⊎ (is_later was.stamp stamp ≡ true) → on_recalled s.tokens block stamp recall.keep ≡ still s.tokens
      by (inl fails) = unpromised s.tokens block stamp recall.keep fails
      by (inr earlier) = earlier_none earlier
