-- What each event makes of an opening: one definition for each, named for it.
use Rattle.std.specs.List.{list_all}
use Rattle.std.specs.Prelude.{◌≡◌, ℕ, Bool, true, ◌==◌, ◌&&◌, if◌then◌else◌, List, [], ◌∷◌, ◌++◌, Option, Some, None, Result, IfOk, OnOk}
use Rattle.client_log.specs.declared.input.In.{In as LogIn}
use Rattle.client_log.specs.declared.input.In.TheVariants as log_in
use Rattle.client_log.specs.declared.output.Out.{Out as LogOut}
use Rattle.client_log.specs.declared.output.Out.TheVariants as log_out
use Rattle.client_log.specs.LogState as log_state
use Rattle.client_log.specs.LogState.{LogState}
use Rattle.client_log.specs.Transition as log
use Rattle.group_map.specs.GroupMapState.{GroupMapState}
use Rattle.log_flight.specs.Flights.{FlightState}
use Rattle.log_owner.specs.declared.ended.Chain.{Chain}
use Rattle.log_owner.specs.declared.ended.Ended.{Ended}
use Rattle.log_owner.specs.declared.ended.Ended.TheVariants.{Found, Lost}
use Rattle.log_owner.specs.declared.ended.Owner.{Owner}
use Rattle.log_owner.specs.declared.ended.Sent.{Sent}
use Rattle.log_owner.specs.declared.known.Known.{Known}
use Rattle.log_owner.specs.declared.opened.Opened.{Opened}
use Rattle.log_owner.specs.declared.opened.Progress.{Progress}
use Rattle.log_owner.specs.declared.opened.Progress.TheVariants as progress
use Rattle.log_owner.specs.declared.opening.Opening.{Opening}
use Rattle.log_owner.specs.declared.opening.Scanning.{Scanning}
use Rattle.log_owner.specs.declared.opening.Settling.{Settling}
use Rattle.log_owner.specs.declared.opening.Stage.{Stage}
use Rattle.log_owner.specs.declared.opening.Stage.TheVariants as stage
use Rattle.log_owner.specs.Promised.{promised_start, promised_of}
use Rattle.log_owner.specs.Opened.{names_in, file_all, feed_of}
use Rattle.log_owner.specs.Sending.{hello, store, fetch, fence, server_in}
use Rattle.log_scan.specs.declared.input.In.{In}
use Rattle.log_scan.specs.declared.input.In.TheVariants as input
use Rattle.log_scan.specs.declared.output.Out.{Out}
use Rattle.log_scan.specs.declared.output.Out.TheVariants as out
use Rattle.log_scan.specs.ScanState.{ScanState}
use Rattle.log_scan.specs.ScanState as scan_state
use Rattle.log_scan.specs.Transition as scan
use Rattle.node_base.specs.Asking.{number_for, asked_as, drawn_for, draw, next_ask, own_of}
use Rattle.node_base.specs.declared.effects.Effect.{Effect}
use Rattle.node_base.specs.declared.effects.Effect.TheVariants.{Lose}
use Rattle.node_base.specs.declared.questions.Asked.{Asked}
use Rattle.node_base.specs.declared.questions.Questions.{Questions}
use Rattle.node_base.specs.Known.{names_known_groups}
use Rattle.node_base.specs.Maps.{fits, is_older, maps_take, forgotten}
use Rattle.node_base.specs.Room.{has_room}
use Rattle.node_base.specs.Shape.{is_log}
use Rattle.wire_msg.specs.declared.body.Body.{Body}
use Rattle.wire_msg.specs.declared.body.Body.TheVariants as body
use Rattle.wire_msg.specs.declared.packet.Packet.{Packet}
use Rattle.wire_msg.specs.declared.registry.News.{News}
use Rattle.wire_msg.specs.declared.registry.Welcome.{Welcome}
use Rattle.wire_msg.specs.declared.storage.Fenced.{Fenced}
use Rattle.wire_msg.specs.declared.storage.Found.{Found as Fragment}
use Rattle.wire_msg.specs.declared.storage.Missing.{Missing}
use Rattle.wire_msg.specs.declared.storage.Stored.{Stored}
use Rattle.xfs_base.specs.declared.node.NodeId.{NodeId}
use Rattle.xfs_base.specs.declared.segment.End.{End}
use Rattle.xfs_base.specs.Steps.{Stepped, still, saying, steps}

-- where an opening stands after an event, the questions of the node, and what the event has the node do
pub record Went : Type 0 where
  pub progress : Progress
  pub questions : Questions
  pub effects : List Effect

abbrev pub went : Progress → Questions → List Effect → Went
went p q effects = record { progress = p; questions = q; effects = effects }

-- nothing changes
abbrev pub stays : Progress → Questions → Went
stays p q = went p q []

-- the opening is where it was
abbrev pub drops : Opening → Questions → Went
drops o q = stays (progress.Opening o) q

-- the same where no question is drawn
abbrev pub Moved : Type 0
Moved = Stepped Progress Effect

-- the questions of the node are these
abbrev pub asking : Questions → Moved → Went
asking q m = went m.state q m.outs

-- ---- the stages

-- the chain is read
abbrev pub known_scanning : Known → Scanning → Progress
known_scanning k s = progress.Opening (record { known = k; stage = stage.Scanning s })

-- the first segment of this incarnation is in flight
abbrev pub known_settling : Known → Settling → Progress
known_settling k s = progress.Opening (record { known = k; stage = stage.Settling s })

abbrev pub nothing_asked : Asked
nothing_asked = record { own = 0; ask = 0 }

-- ---- what the scan says

-- the question of the scan is out under this number of the node
abbrev pub numbered : Sent → ℕ → Sent
numbered s own = record s { asked = asked_as s.asked s.questions own; questions = drawn_for s.asked s.questions own }

abbrev pub says : Sent → List Effect → Stepped Sent Effect
says s effects = record { state = s; outs = effects }

-- what the scan says is sent; the end of it is noted
unfoldable pub sent_send : Owner → ℕ → Sent → Out → Stepped Sent Effect
sent_send owner low s (out.Hello own) = says (numbered s own) (hello owner.inc (number_for s.asked s.questions own) ∷ [])
sent_send owner low s (out.Fence server) = says s (fence owner server ∷ [])
sent_send owner low s (out.Fetch server name own) = says (numbered s own) (fetch name (number_for s.asked s.questions own) server ∷ [])
sent_send owner low s (out.Chain segments end prior) = still (record s { ended = Some (Found (record { segments = segments; end = end; low = low })) })
sent_send owner low s (out.Lost name) = still (record s { ended = Some (Lost name) })

abbrev pub scanned : Owner → ℕ → Asked → Questions → List Out → Stepped Sent Effect
scanned owner low asked q outs = steps (sent_send owner low) (record { asked = asked; questions = q; ended = None }) outs

-- ---- what the log says

abbrev pub stored : LogOut → List Effect
stored (log_out.Send fragment member) = store fragment member ∷ []
stored (log_out.Settled end rows) = []

abbrev pub settled_in : LogOut → Option End → Option End
settled_in (log_out.Send fragment member) before = before
settled_in (log_out.Settled end rows) before = Some end

-- a fragment is sent; the end of the log is noted, where a segment is settled
unfoldable pub send_one : Option End → LogOut → Stepped (Option End) Effect
send_one before out = record { state = settled_in out before; outs = stored out }

abbrev pub written : List LogOut → Stepped (Option End) Effect
written outs = steps send_one None outs

abbrev pub known_open : Known → Settling → End → Opened
known_open k s end =
    record { maps = k.maps; promised = k.promised; log = s.log; feed = feed_of s.low s.chain end; chain = names_in s.chain }

-- once the first segment is settled the log is open: the chain and this segment are filed
abbrev pub known_go_on : Known → Settling → Option End → Moved
known_go_on k s None = still (known_settling k s)
known_go_on k s (Some end) = record { state = progress.Opened (known_open k s end); outs = file_all k.owner.log s.chain end }

abbrev pub logged : Known → Settling → Stepped LogState LogOut → Moved
logged k s r = (let w = written r.outs in saying w.outs (known_go_on k (record s { log = r.state }) w.state))

-- the log takes an input
unfoldable pub known_write : Known → Settling → LogIn → Moved
known_write k s i = logged k s (log.transition s.log i)

-- ---- the end of the scan

-- the log goes on behind the chain
abbrev pub behind : Known → Chain → GroupMapState → Settling
behind k chain groups =
    record { log = log_state.log_start k.owner.log k.owner.inc chain.end groups; chain = chain.segments; low = chain.low }

-- the first segment of this incarnation, with no item, is written behind the chain
abbrev pub start_log : Known → Scanning → Chain → GroupMapState → Moved
start_log k s chain groups =
    if is_log k.owner.log.0 then known_write k (behind k chain groups) (log_in.Parts []) else still (known_scanning k s)

abbrev pub settles_over : Known → Scanning → Chain → Option GroupMapState → Moved
settles_over k s chain None = still (known_scanning k s)
settles_over k s chain (Some groups) = start_log k s chain groups

abbrev pub known_settle : Known → Scanning → Chain → Moved
known_settle k s chain = settles_over k s chain k.maps.groups

-- what is next behind a scan that ended
unfoldable pub known_follow : Known → Scanning → Option Ended → Moved
known_follow k s None = still (known_scanning k s)
known_follow k s (Some (Found chain)) = known_settle k s chain
known_follow k s (Some (Lost seg)) = record { state = progress.Lost seg; outs = Lose seg ∷ [] }

-- what the scan says is sent, and then comes what is next
abbrev pub told : Known → ScanState → Stepped Sent Effect → Went
told k s r = asking r.state.questions (saying r.outs (known_follow k (record { scan = s; asked = r.state.asked }) r.state.ended))

abbrev pub stepped : Known → Questions → Scanning → Stepped ScanState Out → Went
stepped k q s r = told k r.state (scanned k.owner r.state.opening.low s.asked q r.outs)

-- the scan takes an input
unfoldable pub scans_on : Known → Questions → Scanning → In → Went
scans_on k q s i = stepped k q s (scan.transition s.scan i)

-- the same; once the first segment is in flight the scan is over
abbrev pub scans_at : Known → Questions → In → Stage → Went
scans_at k q i (stage.Scanning s) = scans_on k q s i
scans_at k q i (stage.Settling s) = stays (known_settling k s) q

abbrev pub scans : Opening → Questions → In → Went
scans o q i = scans_at o.known q i o.stage

-- ---- the events

-- Start: the registry is asked for the maps, under a new question. Nothing is known yet.
abbrev pub at_first : Owner → ℕ → Questions → Opening
at_first owner servers q =
    record {
      known = record { owner = owner; maps = forgotten servers; promised = promised_start 1 };
      stage = stage.Scanning (record { scan = scan_state.scan_start owner.log owner.inc; asked = record { own = 1; ask = next_ask q } });
    }

abbrev pub on_start : Owner → ℕ → Questions → Went
on_start owner servers q = went (progress.Opening (at_first owner servers q)) (draw q) (hello owner.inc (next_ask q) ∷ [])

-- the groups of the maps that were asked for go to the scan, with what they say of slots. The question is
-- answered
abbrev pub welcomed_with : Known → Questions → Scanning → News → ℕ → Option GroupMapState → Went
welcomed_with k q s news own None = stays (known_scanning k s) q
welcomed_with k q s news own (Some groups) =
    scans_on (record k { promised = promised_of news.slots }) q (record s { asked = nothing_asked }) (input.Welcome own news.slots groups)

-- the maps that were asked for are taken
unfoldable pub welcomed : Known → Questions → Scanning → News → ℕ → Went
welcomed k q s news own = (let maps = maps_take k.maps news in welcomed_with (record k { maps = maps }) q s news own maps.groups)

abbrev pub welcomed_as : Known → Questions → Scanning → News → Option ℕ → Went
welcomed_as k q s news None = stays (known_scanning k s) q
welcomed_as k q s news (Some own) = welcomed k q s news own

-- a Welcome is of this incarnation, and its maps may be taken
abbrev pub is_meant : Known → Welcome → Bool
is_meant k w = (w.inc == k.owner.inc) && fits k.maps w.news

-- it is the answer to the question that is out
abbrev pub welcomed_in : Known → Questions → Scanning → Welcome → Went
welcomed_in k q s w = if is_meant k w then welcomed_as k q s w.news (own_of s.asked w.ask) else stays (known_scanning k s) q

-- Welcome: the answer to the question that is out, in this incarnation.
unfoldable pub on_welcome : Opening → Questions → Welcome → Went
on_welcome o q w = elim o.stage [
  | stage.Scanning s ↦ welcomed_in o.known q s w
  | stage.Settling s ↦ stays (known_settling o.known s) q
]

abbrev pub regrouped : Known → Questions → GroupMapState → Stage → Went
regrouped k q groups (stage.Scanning s) = scans_on k q s (input.Maps groups)
regrouped k q groups (stage.Settling s) = asking q (known_write k s (log_in.Maps groups))

-- Map news: the groups of newer maps are taken.
unfoldable pub on_news : Opening → Questions → News → Went
on_news o q news =
    if fits o.known.maps news && is_older o.known.maps news
    then regrouped (record o.known { maps = maps_take o.known.maps news }) q news.groups o.stage
    else drops o q

-- it is the answer to the fence of this incarnation
abbrev pub is_fenced : Opening → Fenced → Bool
is_fenced o f = (f.log.0 == o.known.owner.log.0) && ((f.pass.inc == o.known.owner.inc) && (f.pass.att == 0))

abbrev pub fenced_by : Opening → Questions → Fenced → ℕ → Went
fenced_by o q f server = if is_fenced o f then scans o q (input.Fenced server f.generation f.held) else drops o q

-- where a server says it
abbrev pub by_server : Opening → Questions → (ℕ → Went) → Option ℕ → Went
by_server o q f None = drops o q
by_server o q f (Some server) = f server

-- Fenced: what a server holds of the log, in answer to the fence of this incarnation.
unfoldable pub on_fenced : Opening → Questions → NodeId → Fenced → Went
on_fenced o q from f = by_server o q (fenced_by o q f) (server_in from)

-- the scan's number of a question; none where it isn't awaited
abbrev pub own_in : Stage → ℕ → Option ℕ
own_in (stage.Scanning s) ask = own_of s.asked ask
own_in (stage.Settling s) ask = None

-- where the question is awaited
abbrev pub answers : Opening → Questions → (ℕ → In) → Option ℕ → Went
answers o q f None = drops o q
answers o q f (Some own) = scans o q (f own)

abbrev pub found_by : Opening → Questions → Fragment → ℕ → Went
found_by o q f server = answers o q (λ own. input.Got own server f.generation f.fragment) (own_in o.stage f.ask)

abbrev pub missing_by : Opening → Questions → Missing → ℕ → Went
missing_by o q m server = answers o q (λ own. input.Missing own server m.generation) (own_in o.stage m.ask)

-- Fragment, Missing: in answer to a fetch.
unfoldable pub on_found : Opening → Questions → NodeId → Fragment → Went
on_found o q from f = by_server o q (found_by o q f) (server_in from)

unfoldable pub on_missing : Opening → Questions → NodeId → Missing → Went
on_missing o q from m = by_server o q (missing_by o q m) (server_in from)

-- Stored: a server holds a fragment of the first segment.
unfoldable pub on_stored : Opening → Questions → Stored → Went
on_stored o q s = elim o.stage [
  | stage.Scanning scanning ↦ stays (known_scanning o.known scanning) q
  | stage.Settling settling ↦ asking q (known_write o.known settling (log_in.Acked s.name s.index s.generation))
]

-- Tick: what is awaited is asked for again.
unfoldable pub on_tick : Opening → Questions → Went
on_tick o q = elim o.stage [
  | stage.Scanning s ↦ scans_on o.known q s input.Tick
  | stage.Settling s ↦ asking q (known_write o.known s log_in.Tick)
]

-- what each packet that names known groups alone makes of an opening: all others are dropped
unfoldable pub on_body : Opening → Questions → NodeId → Body → Went
on_body o q from (body.Welcome w) = on_welcome o q w
on_body o q from (body.MapNews news) = on_news o q news
on_body o q from (body.Fenced f) = on_fenced o q from f
on_body o q from (body.Fragment f) = on_found o q from f
on_body o q from (body.Missing m) = on_missing o q from m
on_body o q from (body.Stored s) = on_stored o q s
on_body o q from _ = drops o q

-- A packet: where it names a group that isn't known it is dropped, and the maps are asked for.
unfoldable pub opening_take : Opening → Questions → Packet → Went
opening_take o q packet =
    if names_known_groups o.known.maps packet.body
    then on_body o q packet.from packet.body
    else went (progress.Opening o) (draw q) (hello o.known.owner.inc (next_ask q) ∷ [])

-- ---- the ends of counters

abbrev pub attempt_of : Option FlightState → ℕ
attempt_of None = 0
attempt_of (Some f) = f.segment.name.pass.att

-- the number of the newest segment of a log, and the attempt of the one in flight, are each at least 65,536 below their end
abbrev pub log_has_room : LogState → Bool
log_has_room s = has_room s.end.seq && has_room (attempt_of s.flight)

abbrev pub stage_has_room : Stage → Bool
stage_has_room (stage.Scanning s) = true
stage_has_room (stage.Settling s) = log_has_room s.log

-- each counter is at least 65,536 below its end; the questions of the scan are fewer than those of the node
abbrev pub opening_has_room : Opening → Bool
opening_has_room o = has_room o.known.maps.version && (list_all has_room o.known.promised.epochs && stage_has_room o.stage)

-- ---- what a call of an event leaves

-- the call ends where the event went: with its progress, the questions as it left them, and its effects behind those before
abbrev pub Goes : {E : Type 0} → Result Progress E → Questions → List Effect → List Effect → Went → Type 0
Goes result questions before after w = IfOk result (λ p. p ≡ w.progress) × OnOk result (questions ≡ w.questions) × OnOk result (after ≡ before ++ w.effects)
