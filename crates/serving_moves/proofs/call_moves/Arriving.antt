-- What each packet, and time, make of a client that serves is a list of moves: read off what comes first, and off the moves behind.
use Rattle.std.proofs.Common.{List, ◌++◌, Option, Some, None, refl}
use Rattle.client_call.specs.Reads.{fetch_again, reading_in, target_of}
use Rattle.client_log.specs.declared.input.In.TheVariants as log_in
use Rattle.client_moves.proofs.Following.{hands_move, writes_move}
use Rattle.client_moves.proofs.Packets.{IsFirst, Taken, taken_turn}
use Rattle.client_moves.proofs.Packets.Taken.{Follows, Once, Refuses}
use Rattle.client_moves.specs.Moves.{Turn, asked_again, granted, heard, heard_step}
use Rattle.client_moves.specs.Moves.Turn.{AsksForMaps, FetchesAgain, Goes, Grants, Hears, HearsShort, ReadsOn, Refused, Shows, Stays, TakesMaps}
use Rattle.client_serving.specs.declared.serving.Serving.{Serving}
use Rattle.client_serving.specs.Flights.{serving_write}
use Rattle.client_serving.specs.Follow.{hand}
use Rattle.client_serving.specs.Packets.{asks_for_maps, on_tick, serving_take}
use Rattle.client_serving.specs.Reads.{ends_reading}
use Rattle.client_serving.specs.Sends.{Done, gives}
use Rattle.log_owner.specs.Sending.{push_all}
use Rattle.node_base.specs.declared.effects.Effect.{Effect}
use Rattle.segment_reading.specs.Reading.{ReadingState}
use Rattle.token_client.specs.declared.input.In.TheVariants as input
use Rattle.token_client.specs.State.{TokensState}
use Rattle.wire_msg.specs.declared.packet.Do.{Do}
use Rattle.wire_msg.specs.declared.packet.Do.TheVariants.{Deliver}
use Rattle.wire_msg.specs.declared.packet.Packet.{Packet}
use Rattle.serving_moves.proofs.call_moves.Following as following
use Rattle.serving_moves.proofs.call_moves.Following.{ends_kept, fetches_plain, reading_kept, reads_go}
use Rattle.serving_moves.proofs.call_moves.Keeping.{all_pushed_still, first_goes, from_goes, itself, plainly, same_call, same_kept, same_lasts, stays, then_goes, then_kept}
use Rattle.serving_moves.specs.call_moves.Moves.{AllStill, Comes, Kept, Moves}
use Rattle.serving_moves.specs.call_moves.Moves.Comes.{Moved, Gone}

-- ---- a packet

-- its tokens are others, and a reading is over with its fetch
tokens_kept : (s : Serving) (tokens : TokensState) → Kept s (ends_reading (record s { tokens = tokens }))
tokens_kept s tokens =
    let t : Serving = record s { tokens = tokens } in
    then_kept s t (ends_reading t) (same_kept s t refl refl) (ends_kept t)

asks_go : (s : Serving) → Moves s (asks_for_maps s)
unfolding asks_for_maps
asks_go s = plainly s (asks_for_maps s) (record { calls = same_call _; lasts = same_lasts _; number = refl; items = refl }) (tt, tt)

module _ (what : Do) (s : Serving) where
  turn_goes : (t : Serving) (o : List Effect) (turn : Turn what s t o) → IsFirst turn → Moves s (gives t o)
  turn_goes t o Stays first = stays s s (itself s)
  turn_goes t o (Goes turn moves) first = absurd first
  turn_goes t o (FetchesAgain turn) first = absurd first
  turn_goes t o (Refused packet m came meant) first = absurd first
  turn_goes t o (AsksForMaps packet event) first = asks_go s
  turn_goes t o (TakesMaps packet news brought) first = stays s t (same_kept s t refl refl)
  turn_goes t o (Grants packet m came accepted) first = stays s t (tokens_kept s _)
  turn_goes t o (Shows packet m place came accepted lies reads) first =
      from_goes s (granted s m) (gives t o) (tokens_kept s _) (reads_go (granted s m) (target_of m.block place) t o reads)
  turn_goes t o (ReadsOn r read) first = stays s t (reading_kept s (Some r))
  turn_goes t o (Hears h more) first = stays s t (reading_kept s (Some (heard_step what s h).state))
  turn_goes t o (HearsShort h short) first =
      let u : Serving = heard what s h in
      stays s t (then_kept s u (asked_again u h.at.block) (reading_kept s (Some (heard_step what s h).state)) (tokens_kept u _))

  taken_comes : (t : Serving) (o : List Effect) → Taken what s t o → Comes s (gives t o)
  taken_comes t o (Refuses packet m came meant) = Gone m.block m.seg
  taken_comes t o (Once turn first) = Moved (turn_goes t o turn first)
  taken_comes t o (Follows {t = u} {o = now} {m = more} turn first moves) =
      Moved (then_goes s (gives u now) (gives t more) (turn_goes u now turn first) (following.moved moves))

pub packet_goes : (s : Serving) (packet : Packet) → Comes s (serving_take s packet)
packet_goes s packet =
    taken_comes (Deliver packet) s (serving_take s packet).state (serving_take s packet).outs (taken_turn (Deliver packet) s packet refl)

-- ---- time

again_fetched : (o : Option ReadingState) → AllStill (fetch_again o)
again_fetched None = tt
again_fetched (Some r) = fetches_plain r

pub tick_goes : (s : Serving) → Moves s (on_tick s)
unfolding on_tick
tick_goes s =
    let w : Done = hand s input.Tick in
    let l : Done = serving_write w.state log_in.Tick in
    let again : List Effect = fetch_again (reading_in w.state.call) in
    let pushed : List Effect = push_all l.state.managers l.state.feed in
    then_goes s w (gives l.state (again ++ (l.outs ++ pushed))) (following.moved (hands_move s input.Tick tt))
    (first_goes w.state again (gives l.state (l.outs ++ pushed)) (again_fetched (reading_in w.state.call))
    (then_goes w.state l (gives l.state pushed) (following.moved (writes_move w.state log_in.Tick))
    (plainly l.state (gives l.state pushed) (itself l.state) (all_pushed_still l.state.managers l.state.feed))))
