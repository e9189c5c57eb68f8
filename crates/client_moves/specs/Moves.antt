-- The moves of a client that serves: what its tokens, its log, its feed and its cache take, what it says, and what its open call does; and beside these, one
-- thing at a time, what comes of an event.
use Rattle.std.specs.Prelude.{◌≡◌, ℕ, true, false, List, [], ◌∷◌, ◌++◌, Option, Some, None, is_none, is_some}
use Rattle.client_call.specs.Calls.{plan_answered}
use Rattle.client_call.specs.declared.call.Call.{Call}
use Rattle.client_call.specs.declared.call.Going.{Going}
use Rattle.client_call.specs.Reads.{fetch_again, fetches, reading_in, same_target, target_of}
use Rattle.client_log.specs.declared.input.In.{In as LogIn}
use Rattle.client_log.specs.Transition as log
use Rattle.client_node.specs.declared.phase.Phase.{Phase}
use Rattle.client_node.specs.declared.phase.Phase.TheVariants.{Serving as Serves}
use Rattle.client_node.specs.Phases.{on_event, serving_crashes}
use Rattle.client_running.specs.Opens.{call_at}
use Rattle.client_running.specs.Running.{running_go_on}
use Rattle.client_serving.specs.declared.serving.Serving.{Serving}
use Rattle.client_serving.specs.Packets.{asks_for_maps, is_gone}
use Rattle.client_serving.specs.Reads.{draws, ends_reading, group_in, loses, serving_confirm, with_reading}
use Rattle.client_serving.specs.Sends.{gave, report, want}
use Rattle.coop_cache.specs.declared.input.In.{In as CacheIn}
use Rattle.coop_cache.specs.Transition as cache
use Rattle.delta_feed.specs.declared.input.In.{In as FeedIn}
use Rattle.delta_feed.specs.declared.output.Out.{Out as RangeOut}
use Rattle.delta_feed.specs.Transition as feed
use Rattle.file_plan.specs.declared.block_call.BlockAnswer.{BlockAnswer}
use Rattle.group_map.specs.declared.group.Group.{Group}
use Rattle.group_map.specs.declared.group.Member.{Member}
use Rattle.group_map.specs.GroupMapState.{GroupMapState}
use Rattle.log_owner.specs.Promised.{managers_set}
use Rattle.log_owner.specs.Sending.{range, store}
use Rattle.node_base.specs.Asking.{next_ask}
use Rattle.node_base.specs.Beginning.{items_begin, items_wait, work_at}
use Rattle.node_base.specs.declared.effects.Effect.{Effect}
use Rattle.node_base.specs.declared.effects.Effect.TheVariants.{Answer as Answers, Does, Send}
use Rattle.node_base.specs.declared.peers.Peers.{Peers}
use Rattle.node_base.specs.Maps.{maps_take}
use Rattle.node_moves.specs.server_moves.Moves.{Brought, Came}
use Rattle.segment_reading.specs.declared.reading.Next.TheVariants.{Again}
use Rattle.segment_reading.specs.declared.target.BlockAt.{BlockAt}
use Rattle.segment_reading.specs.declared.target.Target.{Target}
use Rattle.segment_reading.specs.Reading.{ReadingState, Step, reading_start, reading_take}
use Rattle.stripe_code.specs.declared.round.Told.{Told}
use Rattle.stripe_code.specs.declared.round.Told.TheVariants as told
use Rattle.client_moves.specs.Tokens.{NotGranted}
use Rattle.token_client.specs.declared.input.In.{In}
use Rattle.token_client.specs.declared.input.In.TheVariants as input
use Rattle.token_client.specs.Held.{take_grant}
use Rattle.token_client.specs.State.{TokensState, held_of, with_held}
use Rattle.token_client.specs.Transition as client
use Rattle.token_client.specs.Transition.{accepts}
use Rattle.version_model.specs.declared.act.Act.TheVariants as act
use Rattle.version_model.specs.declared.answer.Answer.{Answer}
use Rattle.wire_msg.specs.declared.body.Body.{Body}
use Rattle.wire_msg.specs.declared.body.Body.TheVariants as body
use Rattle.wire_msg.specs.declared.packet.Do.{Do}
use Rattle.wire_msg.specs.declared.packet.Do.TheVariants.{Deliver}
use Rattle.wire_msg.specs.declared.packet.Packet.{Packet}
use Rattle.wire_msg.specs.declared.registry.News.{News}
use Rattle.wire_msg.specs.declared.storage.Found.{Found}
use Rattle.wire_msg.specs.declared.storage.Missing.{Missing}
use Rattle.wire_msg.specs.declared.tokens.Gone.{Gone}
use Rattle.wire_msg.specs.declared.tokens.Grant.{Grant}
use Rattle.wire_msg.specs.declared.tokens.Supply.{Supply}
use Rattle.xfs_base.specs.declared.block.BlockId.{BlockId}
use Rattle.xfs_base.specs.declared.entry.Place.{Place}
use Rattle.xfs_base.specs.declared.fragment.Fragment.{Fragment}
use Rattle.xfs_base.specs.declared.node.NodeId.TheVariants as node
use Rattle.xfs_base.specs.declared.segment.SegName.{SegName}
use Rattle.xfs_base.specs.declared.token.Mode.{Mode}
use Rattle.xfs_base.specs.declared.token.Stamp.{Stamp}

-- ---- what is said

-- for its tokens, its log and its feed, and by its calls on blocks
pub data Said (s : Serving) : Effect → Type 0 where
  Stores : (f : Fragment) (m : Member) → Said s (store f m)
  Pushes : (x : RangeOut) → Said s (range s.managers x)
  Wants : (block : BlockId) (req again : ℕ) (mode : Mode) → Said s (want s block req again mode)
  GivesUp : (block : BlockId) (stamp : Stamp) → Said s (gave s block stamp)
  Reports : (slot epoch : ℕ) → Said s (report s slot epoch)
  Supplies : (to : ℕ) (m : Supply) → Said s (Send (node.Client to) (body.Supply m))
  Files : (name : SegName) → Said s (Does (act.Filed name))
  HasRead : (block : BlockId) (ver : ℕ) (value : Option (List ℕ)) → Said s (Does (act.Read s.lasting.number block ver value))
  HasWritten : (block : BlockId) (value : Option (List ℕ)) → Said s (Does (act.Wrote s.lasting.number block value))
  HasSynced : Said s (Does (act.Synced s.lasting.number))

-- ---- the moves

-- Any list of moves, oldest first.
pub data Moves : Serving → Serving → List Effect → Type 0 where
  Rests : (s : Serving) → Moves s s []
  Then : {s t u : Serving} {o m : List Effect} → Moves s t o → Moves t u m → Moves s u (o ++ m)
  -- A machine takes an input.
  TokensTake : (s : Serving) (i : In) → NotGranted i → Moves s (record s { tokens = (client.transition s.tokens i).state }) []
  LogTakes : (s : Serving) (i : LogIn) → Moves s (record s { log = (log.transition s.log i).state }) []
  FeedTakes : (s : Serving) (i : FeedIn) → Moves s (record s { feed = (feed.transition s.feed i).state }) []
  CacheTakes : (s : Serving) (i : CacheIn) → Moves s (record s { cache = (cache.transition s.cache i).state }) []
  -- A slot is promised to a manager.
  Promises : (s : Serving) (slot manager : ℕ) → Moves s (record s { managers = managers_set s.managers slot manager }) []
  -- What is read is read no more, where its block isn't fetched.
  EndsReading : (s : Serving) → Moves s (ends_reading s) []
  Says : (s : Serving) (e : Effect) → Said s e → Moves s s (e ∷ [])
  -- The open call is put by while its call on blocks is made, and waits then; or that was answered, and it goes on as its plan says.
  Waits : {t : Serving} {o : List Effect} (s : Serving) (call : Call) → s.call ≡ Some call → Moves (record s { call = None }) t o
      → Moves s (record t { call = Some call }) o
  Answered : {t : Serving} {o : List Effect} (s : Serving) (call : Call) (a : BlockAnswer) → s.call ≡ Some call → Moves (record s { call = None }) t o
      → Moves s (running_go_on t (plan_answered call.plan a)).state (o ++ (running_go_on t (plan_answered call.plan a)).outs)

-- ---- what comes of an event

-- its tokens take a grant
abbrev pub Accepts : Serving → Grant → Type 0
Accepts s m = accepts s.tokens m.block m.stamp m.inc m.req m.mode ≡ true

abbrev pub grant_taken : Serving → Grant → TokensState
grant_taken s m = with_held s.tokens m.block (take_grant (held_of s.tokens.blocks m.block) m.stamp m.mode m.entry)

abbrev pub granted : Serving → Grant → Serving
granted s m = ends_reading (record s { tokens = grant_taken s m })

-- what a place that is to be read makes of what the open call reads: it is read anew, or that it lies there is confirmed
pub data Reads (t : Serving) (target : Target) : Serving → List Effect → Type 0 where
  NoCall : is_none t.call ≡ true → Reads t target t []
  Unknown : Reads t target (with_reading t None) []
  Begins : (group : Group) → group_in t.maps.groups target.seg.group ≡ Some group
      → Reads t target (with_reading (draws (with_reading t None)) (Some (reading_start target group (next_ask t.lasting.questions))))
      (fetches (reading_start target group (next_ask t.lasting.questions)))
  Confirms : (r : ReadingState) → reading_in t.call ≡ Some r → same_target r.target target ≡ true
      → Reads t target (serving_confirm (with_reading t None) r).state (serving_confirm (with_reading t None) r).outs

-- a packet tells this in answer to this question
pub data Tells (said : Body) : ℕ → Told → Type 0 where
  FragmentCame : (m : Found) → said ≡ body.Fragment m → Tells said m.ask (told.Held m.fragment)
  AbsenceCame : (m : Missing) → said ≡ body.Missing m → Tells said m.ask (told.Missing m.generation)

-- a server tells it while the open call reads a block
pub record Heard (what : Do) (s : Serving) : Type 0 where
  pub was : ReadingState
  pub reads : reading_in s.call ≡ Some was
  pub at : BlockAt
  pub block : was.target.block ≡ Some at
  pub groups : GroupMapState
  pub packet : Packet
  pub event : what ≡ Deliver packet
  pub server : ℕ
  pub from : packet.from ≡ node.Server server
  pub ask : ℕ
  pub told : Told
  pub tells : Tells packet.body ask told

abbrev pub heard_step : (what : Do) (s : Serving) → Heard what s → Step
heard_step what s h = reading_take h.was h.groups h.ask h.server h.told

abbrev pub heard : (what : Do) (s : Serving) → Heard what s → Serving
heard what s h = with_reading s (Some (heard_step what s h).state)

-- the place of its block is asked for again
abbrev pub asked_again : Serving → BlockId → Serving
asked_again u block = ends_reading (record u { tokens = (client.transition u.tokens (input.Reask block)).state })

-- What an event makes of one that serves, but for the next item.
pub data Turn (what : Do) (s : Serving) : Serving → List Effect → Type 0 where
  Stays : Turn what s s []
  Goes : {t u : Serving} {o m : List Effect} → Turn what s t o → Moves t u m → Turn what s u (o ++ m)
  FetchesAgain : {t : Serving} {o : List Effect} → Turn what s t o → Turn what s t (o ++ fetch_again (reading_in t.call))
  AsksForMaps : (packet : Packet) → what ≡ Deliver packet → Turn what s (asks_for_maps s).state (asks_for_maps s).outs
  TakesMaps : (packet : Packet) (news : News) → Brought what packet news → Turn what s (record s { maps = maps_take s.maps news }) []
  -- A manager refuses the block of the open want, or grants a block, and perhaps where it lies.
  Refused : (packet : Packet) (m : Gone) → Came what packet (body.Gone m) → is_gone s m ≡ true
      → Turn what s (loses s m.block m.seg).state (loses s m.block m.seg).outs
  Grants : (packet : Packet) (m : Grant) → Came what packet (body.Grant m) → Accepts s m → Turn what s (granted s m) []
  Shows : {t : Serving} {o : List Effect} (packet : Packet) (m : Grant) (place : Place) → Came what packet (body.Grant m) → Accepts s m
      → m.entry.place ≡ Some place → Reads (granted s m) (target_of m.block place) t o → Turn what s t o
  -- A server answers: nothing comes of it, or a round goes on, or is over without the segment.
  ReadsOn : (r : ReadingState) → reading_in s.call ≡ Some r → Turn what s (with_reading s (Some r)) []
  Hears : (h : Heard what s) → ((heard_step what s h).next ≡ Again → ⊥) → Turn what s (heard what s h) []
  HearsShort : (h : Heard what s) → (heard_step what s h).next ≡ Again → Turn what s (asked_again (heard what s h) h.at.block) []

-- the next item is begun, and waits
abbrev pub begun : Serving → Serving
begun s = record s { lasting = record s.lasting { items = items_begin s.lasting.items } }

abbrev pub waiting : Serving → ℕ → Serving
waiting s number = record s { lasting = record s.lasting { items = items_wait s.lasting.items number } }

-- its next item is begun, and answered at once
pub record BegunAtOnce (s : Serving) (p : Phase) (o : List Effect) : Type 0 where
  pub number : ℕ
  pub a : Answer
  pub phase : p ≡ Serves (begun s)
  pub says : o ≡ Answers number a ∷ []

-- or its call opens
pub record BegunCall (s : Serving) (p : Phase) (o : List Effect) : Type 0 where
  pub number : ℕ
  pub going : Going
  pub closed : is_some (begun s).lasting.items.unanswered ≡ false
  pub call : call_at (begun s) number (work_at (begun s).lasting.items number) ≡ Some going
  pub after : Serving
  pub rest : List Effect
  pub moves : Moves (running_go_on (waiting (begun s) number) going).state after rest
  pub phase : p ≡ Serves after
  pub says : o ≡ (running_go_on (waiting (begun s) number) going).outs ++ rest

-- or the client falls by it
pub record Fallen (s : Serving) (p : Phase) (o : List Effect) : Type 0 where
  pub number : ℕ
  pub phase : p ≡ (serving_crashes (begun s) number).state
  pub says : o ≡ (serving_crashes (begun s) number).outs

-- What an event makes of one that serves.
pub data Event (what : Do) (s : Serving) : Phase → List Effect → Type 0 where
  Turned : {t : Serving} {o : List Effect} → Turn what s t o → Event what s (Serves t) o
  AtOnce : {p : Phase} {o : List Effect} → BegunAtOnce s p o → Event what s p o
  Opens : {p : Phase} {o : List Effect} → BegunCall s p o → Event what s p o
  Falls : {p : Phase} {o : List Effect} → Fallen s p o → Event what s p o

-- Each event of a client that serves is so.
abbrev pub ServingEventsAreMoves : Type 0
ServingEventsAreMoves =
    (peers : Peers) (capacity : ℕ) (s : Serving) (what : Do)
    → Event what s (on_event peers capacity (Serves s) what).state (on_event peers capacity (Serves s) what).outs
