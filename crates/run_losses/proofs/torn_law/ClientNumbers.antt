-- A client that serves asks servers for fragments by numbers of questions that it drew, whatever comes of an event before its moves.
use Rattle.std.proofs.Common.{◌≡◌, ℕ, ◌≤◌, List, [], Option, Some, None, refl, sym, subst, arith}
use Rattle.client_call.specs.declared.call.Call.{Call}
use Rattle.client_call.specs.declared.call.Going.{Going}
use Rattle.client_call.specs.declared.call.Going.TheVariants.{On, Ends}
use Rattle.client_call.specs.Reads.{fetch_again, fetches, kept_while, reading_in, set_reading, target_of}
use Rattle.client_moves.specs.Moves.{Heard, Reads, Turn, asked_again, begun, grant_taken, granted, heard, heard_step, waiting}
use Rattle.client_moves.specs.Moves.Reads.{Begins, Confirms, NoCall, Unknown}
use Rattle.client_moves.specs.Moves.Turn.{AsksForMaps, FetchesAgain, Goes as GoesOn, Grants, Hears, HearsShort, ReadsOn, Refused, Shows, Stays, TakesMaps}
use Rattle.client_running.specs.Running.{running_go_on}
use Rattle.client_serving.specs.declared.serving.Serving.{Serving}
use Rattle.client_serving.specs.Packets.{asks_for_maps}
use Rattle.client_serving.specs.Reads.{ask_after, confirmed_by, drawn_after, draws, ends_reading, lose_at, loses, serving_confirm, with_reading}
use Rattle.client_serving.specs.Sends.{Done}
use Rattle.log_owner.specs.Sending.{fetch}
use Rattle.node_base.specs.Asking.{draw, next_ask}
use Rattle.node_base.specs.declared.effects.Effect.{Effect}
use Rattle.run_laws.proofs.place_law.AimsReads.{GoingNew}
use Rattle.segment_reading.specs.declared.reading.Stage.{Stage}
use Rattle.segment_reading.specs.declared.reading.Stage.TheVariants.{Asking, Between, Doubted, Over}
use Rattle.segment_reading.specs.declared.target.BlockAt.{BlockAt}
use Rattle.segment_reading.specs.declared.target.Target.{Target}
use Rattle.segment_reading.specs.Reading.{ReadingState, on_confirmed, reading_start, reading_unanswered}
use Rattle.segment_reading.specs.Reading as rounds
use Rattle.token_client.specs.declared.input.In.TheVariants as input
use Rattle.token_client.specs.Transition as client
use Rattle.version_model.specs.declared.answer.Answer.TheVariants as answer
use Rattle.wire_msg.specs.declared.packet.Do.{Do}
use Rattle.wire_msg.specs.declared.tokens.Grant.{Grant}
use Rattle.xfs_base.proofs.Alls.{all_append, all_map}
use Rattle.xfs_base.specs.declared.block.BlockId.{BlockId}
use Rattle.xfs_base.specs.declared.segment.SegName.{SegName}
use Rattle.run_losses.proofs.fetching_law.Following.{call_less, kept_less}
use Rattle.run_losses.proofs.missing_law.Readings.{answer_keeps_target}
use Rattle.run_losses.proofs.torn_law.ClientFetches.{AllUpTo, At, Goes, ReadsUpTo, UpTo, answered_none, last_in, last_up, less_up, moves_go}

pub reads_more : (a b : ℕ) → a ≤ b → (r : Option ReadingState) → ReadsUpTo a r → ReadsUpTo b r
reads_more a b less None h = tt
reads_more a b less (Some r) h = omega arith

-- ---- what is read

call_up : (last : ℕ) (call : Option Call) (r : Option ReadingState) → ReadsUpTo last r → ReadsUpTo last (reading_in (set_reading call r))
call_up last None r h = tt
call_up last (Some call) r h = h

fetches_up : (last : ℕ) (r : ReadingState) → r.ask ≤ last → AllUpTo last (fetches r)
fetches_up last r small = all_map (UpTo last) (fetch r.target.seg.name r.ask) (λ server. small) (reading_unanswered r)

again_up : (last : ℕ) (r : Option ReadingState) → ReadsUpTo last r → AllUpTo last (fetch_again r)
again_up last None h = tt
again_up last (Some r) h = fetches_up last r h

-- nothing is drawn or said, and what is read then is so
rests : (s : Serving) → At s → Goes (last_in s) s []
rests s h = record { up = omega arith; reads = h; does = tt }

ends : (s : Serving) → At s → At (ends_reading s)
ends s h =
    less_up (last_in s) (reading_in s.call) (reading_in (ends_reading s).call)
    (call_less s.call (kept_while s.tokens (reading_in s.call)) (kept_less s.tokens (reading_in s.call))) h

-- a question is drawn, and what is read then is fetched by it
drawn_goes : (s : Serving) (r : ReadingState) → r.ask ≡ next_ask s.lasting.questions → Goes (last_in s) (with_reading (draws s) (Some r)) (fetches r)
drawn_goes s r number = record {
  up = last_up (last_in s);
  reads = call_up (last_in (draws s)) s.call (Some r) (omega arith);
  does = fetches_up (last_in (draws s)) r (omega arith);
}

loses_goes : (s : Serving) (block : BlockId) (seg : SegName) → Goes (last_in s) (loses s block seg).state (loses s block seg).outs
unfolding loses
loses_goes s block seg = record { up = omega arith; reads = tt; does = (tt, answered_none s.lasting.items.unanswered (answer.Lost seg) (last_in s)) }

-- ---- a place that is to be read

module _ (s : Serving) (h : At s) where
  abbrev Confirmed : Done → Type 0
  Confirmed d = Goes (last_in s) d.state d.outs

  lost_at : (at : Option BlockAt) (seg : SegName) → Confirmed (lose_at s at seg)
  lost_at None seg = rests s h
  lost_at (Some at) seg = loses_goes s at.block seg

  confirms_at : (r : ReadingState) (at : Stage) → r.ask ≤ last_in s
      → Confirmed (confirmed_by (drawn_after s at) (rounds.goes_on r (ask_after s r.ask at) at))
  confirms_at r Asking small = rests (with_reading s (Some r)) (call_up (last_in s) s.call (Some r) small)
  confirms_at r Between small = drawn_goes s (rounds.goes_on r (next_ask s.lasting.questions) Between).state refl
  confirms_at r Doubted small = lost_at r.target.block r.target.seg.name
  confirms_at r Over small = rests (with_reading s (Some r)) (call_up (last_in s) s.call (Some r) small)

  confirms : (r : ReadingState) → r.ask ≤ last_in s → Confirmed (serving_confirm s r)
  unfolding serving_confirm on_confirmed
  confirms r small = confirms_at r r.stage small

unread : (s : Serving) → At (with_reading s None)
unread s = call_up (last_in s) s.call None tt

reads_go : (s : Serving) (target : Target) → At s → (t : Serving) (o : List Effect) → Reads s target t o → Goes (last_in s) t o
reads_go s target h t o (NoCall none) = rests s h
reads_go s target h t o Unknown = rests (with_reading s None) (unread s)
reads_go s target h t o (Begins group known) = drawn_goes (with_reading s None) (reading_start target group (next_ask s.lasting.questions)) refl
reads_go s target h t o (Confirms r read same) = confirms (with_reading s None) (unread s) r (subst (ReadsUpTo (last_in s)) read h)

-- ---- all that comes of an event

module _ (what : Do) (s : Serving) (h : At s) where
  maps_asked : Goes (last_in s) (asks_for_maps s).state (asks_for_maps s).outs
  unfolding asks_for_maps
  maps_asked = record {
    up = last_up (last_in s);
    reads = reads_more (last_in s) (draw s.lasting.questions).last (last_up (last_in s)) (reading_in s.call) h;
    does = (tt, tt);
  }

  grants : (m : Grant) → At (granted s m)
  grants m = ends (record s { tokens = grant_taken s m }) h

  hears : (x : Heard what s) → At (heard what s x)
  hears x =
      let small : x.was.ask ≤ last_in s = subst (ReadsUpTo (last_in s)) x.reads h in
      let same = (answer_keeps_target x.was x.groups x.ask x.server x.told).1 in
      call_up (last_in s) s.call (Some (heard_step what s x).state) (omega arith)

  pub turn_goes : (t : Serving) (o : List Effect) → Turn what s t o → Goes (last_in s) t o
  turn_goes t o Stays = rests s h
  turn_goes t o (GoesOn {t = v} {o = first} {m = more} a moves) = moves_go (last_in s) v t first more (turn_goes v first a) moves
  turn_goes t o (FetchesAgain {o = first} a) =
      let g = turn_goes t first a in
      record {
        up = g.up;
        reads = g.reads;
        does = all_append (UpTo (last_in t)) first (fetch_again (reading_in t.call)) g.does (again_up (last_in t) (reading_in t.call) g.reads);
      }
  turn_goes t o (AsksForMaps packet event) = maps_asked
  turn_goes t o (TakesMaps packet news brought) = record { up = omega arith; reads = h; does = tt }
  turn_goes t o (Refused packet m came meant) = loses_goes s m.block m.seg
  turn_goes t o (Grants packet m came accepted) = rests (granted s m) (grants m)
  turn_goes t o (Shows packet m place came accepted lies read) = reads_go (granted s m) (target_of m.block place) (grants m) t o read
  turn_goes t o (ReadsOn r read) =
      rests (with_reading s (Some r)) (call_up (last_in s) s.call (Some r) (subst (ReadsUpTo (last_in s)) read h))
  turn_goes t o (Hears x other) = rests (heard what s x) (hears x)
  turn_goes t o (HearsShort x again) =
      let u : Serving = heard what s x in
      rests (asked_again u x.at.block) (ends (record u { tokens = (client.transition u.tokens (input.Reask x.at.block)).state }) (hears x))

  -- the call of its next item opens, and reads nothing yet
  pub going_goes : (number : ℕ) (going : Going) → GoingNew going
      → Goes (last_in s) (running_go_on (waiting (begun s) number) going).state (running_go_on (waiting (begun s) number) going).outs
  unfolding running_go_on
  going_goes number (On call) new = record { up = omega arith; reads = subst (ReadsUpTo (last_in s)) (sym new) tt; does = tt }
  going_goes number (Ends a) new = record { up = omega arith; reads = h; does = answered_none (Some number) a (last_in s) }
