-- What an opening does, event by event, is what it may do.
use Rattle.std.proofs.Common.{ℕ, List, [], ◌∷◌, map, Option, Some, None, refl, ◌&&◌}
use Rattle.std.specs.List.{AllByRecursion}
use Rattle.client_log.specs.declared.input.In.{In as LogIn}
use Rattle.client_log.specs.declared.input.In.TheVariants as log_in
use Rattle.client_log.specs.declared.output.Out.{Out as LogOut}
use Rattle.client_log.specs.declared.output.Out.TheVariants as log_out
use Rattle.client_log.specs.LogState.{LogState}
use Rattle.client_log.specs.Transition as log
use Rattle.group_map.specs.GroupMapState.{GroupMapState}
use Rattle.log_owner.specs.declared.ended.Chain.{Chain}
use Rattle.log_owner.specs.declared.ended.Ended.{Ended}
use Rattle.log_owner.specs.declared.ended.Ended.TheVariants.{Found, Lost}
use Rattle.log_owner.specs.declared.ended.Owner.{Owner}
use Rattle.log_owner.specs.declared.ended.Sent.{Sent}
use Rattle.log_owner.specs.declared.known.Known.{Known}
use Rattle.log_owner.specs.declared.opening.Opening.{Opening}
use Rattle.log_owner.specs.declared.opening.Scanning.{Scanning}
use Rattle.log_owner.specs.declared.opening.Settling.{Settling}
use Rattle.log_owner.specs.declared.opening.Stage.{Stage}
use Rattle.log_owner.specs.declared.opening.Stage.TheVariants as stage
use Rattle.log_owner.specs.Behaves.{MayDo, IsOf, Behaves}
use Rattle.log_owner.specs.Opened.{filed}
use Rattle.log_owner.specs.Opening.{Moved, Went, asking, drops, sent_send, scanned, send_one, written, known_go_on, logged, known_write, behind, start_log, settles_over, known_follow, stepped, scans_on, scans, scans_at, known_scanning, welcomed_with, welcomed, welcomed_as, is_meant, on_welcome, regrouped, on_news, is_fenced, fenced_by, by_server, on_fenced, own_in, answers, found_by, missing_by, on_found, on_missing, on_stored, on_tick, on_body, opening_take, on_start}
use Rattle.log_owner.specs.Sending.{server_in}
use Rattle.log_scan.specs.declared.input.In.{In}
use Rattle.log_scan.specs.declared.input.In.TheVariants as input
use Rattle.log_scan.specs.declared.output.Out.{Out}
use Rattle.log_scan.specs.declared.output.Out.TheVariants as out
use Rattle.log_scan.specs.ScanState.{ScanState}
use Rattle.log_scan.specs.Transition as scan
use Rattle.node_base.specs.Asking.{own_of}
use Rattle.node_base.specs.declared.effects.Effect.{Effect}
use Rattle.node_base.specs.declared.questions.Questions.{Questions}
use Rattle.node_base.specs.Known.{names_known_groups}
use Rattle.node_base.specs.Maps.{fits, is_older, maps_take}
use Rattle.node_base.specs.Shape.{is_log}
use Rattle.segment_format.specs.declared.segment.Segment.{Segment}
use Rattle.wire_msg.specs.declared.body.Body.{Body}
use Rattle.wire_msg.specs.declared.body.Body.TheVariants as body
use Rattle.wire_msg.specs.declared.packet.Packet.{Packet}
use Rattle.wire_msg.specs.declared.registry.News.{News}
use Rattle.wire_msg.specs.declared.registry.Welcome.{Welcome}
use Rattle.wire_msg.specs.declared.storage.Fenced.{Fenced}
use Rattle.wire_msg.specs.declared.storage.Stored.{Stored}
use Rattle.xfs_base.proofs.Booleans.{by_test}
use Rattle.xfs_base.specs.declared.node.NodeId.{NodeId}
use Rattle.xfs_base.specs.declared.segment.End.{End}
use Rattle.xfs_base.specs.Steps.{Stepped, steps, saying, still}
use Rattle.xfs_base.proofs.Alls.{all_append}

-- ---- lists of effects

-- what holds of the outs of each step holds of those of all
all_steps : {S O A : Type 0} (step : S → A → Stepped S O) (P : O → Type 0) → ((s : S) (x : A) → AllByRecursion P (step s x).outs) → (s : S) (xs : List A)
    → AllByRecursion P (steps step s xs).outs
all_steps step P each s [] = tt
all_steps step P each s (x ∷ xs) = all_append P (step s x).outs (steps step (step s x).state xs).outs (each s x) (all_steps step P each (step s x).state xs)

-- what is so where no question is drawn
record Moves (owner : Owner) (m : Moved) : Type 0 where
  does : AllByRecursion (MayDo owner) m.outs
  stays_its : IsOf owner m.state

asked_so : (owner : Owner) (q : Questions) (m : Moved) → Moves owner m → Behaves owner (asking q m)
asked_so owner q m b = record { does = b.does; stays_its = b.stays_its }

-- what was sent before is what it may do too
moves_after : (owner : Owner) (outs : List Effect) (m : Moved) → AllByRecursion (MayDo owner) outs → Moves owner m → Moves owner (saying outs m)
moves_after owner outs m all b = record { does = all_append (MayDo owner) outs m.outs all b.does; stays_its = b.stays_its }

dropped : (o : Opening) (q : Questions) → Behaves o.known.owner (drops o q)
dropped o q = record { does = tt; stays_its = refl }

-- ---- what the scan and the log say

may_be_said : (owner : Owner) (low : ℕ) (s : Sent) (said_out : Out) → AllByRecursion (MayDo owner) (sent_send owner low s said_out).outs
unfolding sent_send
may_be_said owner low s (out.Hello own) = ((refl, refl), tt)
may_be_said owner low s (out.Fence server) = ((tt, refl, refl), tt)
may_be_said owner low s (out.Fetch server name own) = (tt, tt)
may_be_said owner low s (out.Chain segments end prior) = tt
may_be_said owner low s (out.Lost name) = tt

may_be_written : (owner : Owner) (before : Option End) (written_out : LogOut) → AllByRecursion (MayDo owner) (send_one before written_out).outs
unfolding send_one
may_be_written owner before (log_out.Send fragment member) = (tt, tt)
may_be_written owner before (log_out.Settled end rows) = tt

all_filed : (owner : Owner) (chain : List Segment) → AllByRecursion (MayDo owner) (map filed chain)
all_filed owner [] = tt
all_filed owner (segment ∷ chain) = (tt, all_filed owner chain)

-- ---- going on

open_so : (k : Known) (s : Settling) (settled : Option End) → Moves k.owner (known_go_on k s settled)
open_so k s None = record { does = tt; stays_its = refl }
open_so k s (Some end) = record { does = all_append (MayDo k.owner) (map filed s.chain) _ (all_filed k.owner s.chain) (tt, tt); stays_its = tt }

log_so : (k : Known) (s : Settling) (r : Stepped LogState LogOut) → Moves k.owner (logged k s r)
log_so k s r =
    let w : Stepped (Option End) Effect = written r.outs in
    moves_after k.owner w.outs (known_go_on k (record s { log = r.state }) w.state) (all_steps send_one (MayDo k.owner) (may_be_written k.owner) None r.outs)
    (open_so k (record s { log = r.state }) w.state)

write_so : (k : Known) (s : Settling) (i : LogIn) → Moves k.owner (known_write k s i)
unfolding known_write
write_so k s i = log_so k s (log.transition s.log i)

start_so : (k : Known) (s : Scanning) (chain : Chain) (groups : GroupMapState) → Moves k.owner (start_log k s chain groups)
start_so k s chain groups =
    by_test (λ (m : Moved). Moves k.owner m) (is_log k.owner.log.0) (known_write k (behind k chain groups) (log_in.Parts [])) (still (known_scanning k s))
    (λ t. write_so k (behind k chain groups) (log_in.Parts []))
    (λ t. record { does = tt; stays_its = refl })

settle_so : (k : Known) (s : Scanning) (chain : Chain) (groups : Option GroupMapState) → Moves k.owner (settles_over k s chain groups)
settle_so k s chain None = record { does = tt; stays_its = refl }
settle_so k s chain (Some groups) = start_so k s chain groups

follow_so : (k : Known) (s : Scanning) (ended : Option Ended) → Moves k.owner (known_follow k s ended)
unfolding known_follow
follow_so k s None = record { does = tt; stays_its = refl }
follow_so k s (Some (Found chain)) = settle_so k s chain k.maps.groups
follow_so k s (Some (Lost seg)) = record { does = (tt, tt); stays_its = tt }

step_so : (k : Known) (q : Questions) (s : Scanning) (r : Stepped ScanState Out) → Behaves k.owner (stepped k q s r)
step_so k q s r =
    let sent : Stepped Sent Effect = scanned k.owner r.state.opening.low s.asked q r.outs in
    let next : Scanning = record { scan = r.state; asked = sent.state.asked } in
    asked_so k.owner sent.state.questions (saying sent.outs (known_follow k next sent.state.ended))
    (moves_after k.owner sent.outs (known_follow k next sent.state.ended)
    (all_steps (sent_send k.owner r.state.opening.low) (MayDo k.owner) (may_be_said k.owner r.state.opening.low)
    (record { asked = s.asked; questions = q; ended = None }) r.outs)
    (follow_so k next sent.state.ended))

scan_so : (k : Known) (q : Questions) (s : Scanning) (i : In) → Behaves k.owner (scans_on k q s i)
unfolding scans_on
scan_so k q s i = step_so k q s (scan.transition s.scan i)

scan_at_so : (k : Known) (q : Questions) (i : In) (at : Stage) → Behaves k.owner (scans_at k q i at)
scan_at_so k q i (stage.Scanning s) = scan_so k q s i
scan_at_so k q i (stage.Settling s) = record { does = tt; stays_its = refl }

-- ---- the events

hear_so : (k : Known) (q : Questions) (s : Scanning) (news : News) (own : ℕ) (groups : Option GroupMapState)
    → Behaves k.owner (welcomed_with k q s news own groups)
hear_so k q s news own None = record { does = tt; stays_its = refl }
hear_so k q s news own (Some groups) = scan_so _ q _ (input.Welcome own news.slots groups)

welcomed_so : (k : Known) (q : Questions) (s : Scanning) (news : News) (own : Option ℕ) → Behaves k.owner (welcomed_as k q s news own)
unfolding welcomed
welcomed_so k q s news None = record { does = tt; stays_its = refl }
welcomed_so k q s news (Some own) = hear_so (record k { maps = maps_take k.maps news }) q s news own (maps_take k.maps news).groups

welcome_so : (o : Opening) (q : Questions) (w : Welcome) → Behaves o.known.owner (on_welcome o q w)
unfolding on_welcome
welcome_so o q w = by_stage o.stage
  where
    by_stage : (at : Stage) → Behaves o.known.owner (on_welcome (record o { stage = at }) q w)
    by_stage (stage.Scanning s) =
        by_test (λ (x : Went). Behaves o.known.owner x) (is_meant o.known w) (welcomed_as o.known q s w.news (own_of s.asked w.ask))
        (record { progress = known_scanning o.known s; questions = q; effects = [] })
        (λ t. welcomed_so o.known q s w.news (own_of s.asked w.ask))
        (λ t. record { does = tt; stays_its = refl })
    by_stage (stage.Settling s) = record { does = tt; stays_its = refl }

regroup_so : (k : Known) (q : Questions) (groups : GroupMapState) (at : Stage) → Behaves k.owner (regrouped k q groups at)
regroup_so k q groups (stage.Scanning s) = scan_so k q s (input.Maps groups)
regroup_so k q groups (stage.Settling s) = asked_so k.owner q (known_write k s (log_in.Maps groups)) (write_so k s (log_in.Maps groups))

news_so : (o : Opening) (q : Questions) (news : News) → Behaves o.known.owner (on_news o q news)
unfolding on_news
news_so o q news =
    let newer : Known = record o.known { maps = maps_take o.known.maps news } in
    by_test (λ (x : Went). Behaves o.known.owner x) (fits o.known.maps news && is_older o.known.maps news) (regrouped newer q news.groups o.stage) (drops o q)
    (λ t. regroup_so newer q news.groups o.stage)
    (λ t. dropped o q)

by_server_so : (o : Opening) (q : Questions) (f : ℕ → Went) (server : Option ℕ) → ((n : ℕ) → Behaves o.known.owner (f n))
    → Behaves o.known.owner (by_server o q f server)
by_server_so o q f None each = dropped o q
by_server_so o q f (Some server) each = each server

answer_so : (o : Opening) (q : Questions) (f : ℕ → In) (own : Option ℕ) → Behaves o.known.owner (answers o q f own)
answer_so o q f None = dropped o q
answer_so o q f (Some own) = scan_at_so o.known q (f own) o.stage

fenced_so : (o : Opening) (q : Questions) (f : Fenced) (server : ℕ) → Behaves o.known.owner (fenced_by o q f server)
fenced_so o q f server =
    by_test (λ (x : Went). Behaves o.known.owner x) (is_fenced o f) (scans o q (input.Fenced server f.generation f.held)) (drops o q)
    (λ t. scan_at_so o.known q (input.Fenced server f.generation f.held) o.stage)
    (λ t. dropped o q)

stored_so : (o : Opening) (q : Questions) (s : Stored) → Behaves o.known.owner (on_stored o q s)
unfolding on_stored
stored_so o q s = by_stage o.stage
  where
    by_stage : (at : Stage) → Behaves o.known.owner (on_stored (record o { stage = at }) q s)
    by_stage (stage.Scanning scanning) = record { does = tt; stays_its = refl }
    by_stage (stage.Settling settling) =
        let i : LogIn = log_in.Acked s.name s.index s.generation in
        asked_so o.known.owner q (known_write o.known settling i) (write_so o.known settling i)

pub tick_so : (o : Opening) (q : Questions) → Behaves o.known.owner (on_tick o q)
unfolding on_tick
tick_so o q = by_stage o.stage
  where
    by_stage : (at : Stage) → Behaves o.known.owner (on_tick (record o { stage = at }) q)
    by_stage (stage.Scanning s) = scan_so o.known q s input.Tick
    by_stage (stage.Settling s) = asked_so o.known.owner q (known_write o.known s log_in.Tick) (write_so o.known s log_in.Tick)

pub begin_so : (owner : Owner) (servers : ℕ) (q : Questions) → Behaves owner (on_start owner servers q)
begin_so owner servers q = record { does = ((refl, refl), tt); stays_its = refl }

body_so : (o : Opening) (q : Questions) (from : NodeId) (b : Body) → Behaves o.known.owner (on_body o q from b)
unfolding on_body on_fenced on_found on_missing
body_so o q from (body.Welcome w) = welcome_so o q w
body_so o q from (body.MapNews news) = news_so o q news
body_so o q from (body.Fenced f) = by_server_so o q (fenced_by o q f) (server_in from) (fenced_so o q f)
body_so o q from (body.Fragment f) =
    by_server_so o q (found_by o q f) (server_in from) (λ n. answer_so o q (λ own. input.Got own n f.generation f.fragment) (own_in o.stage f.ask))
body_so o q from (body.Missing m) =
    by_server_so o q (missing_by o q m) (server_in from) (λ n. answer_so o q (λ own. input.Missing own n m.generation) (own_in o.stage m.ask))
body_so o q from (body.Stored s) = stored_so o q s
body_so o q from _ = dropped o q

pub packet_so : (o : Opening) (q : Questions) (p : Packet) → Behaves o.known.owner (opening_take o q p)
unfolding opening_take
packet_so o q p =
    by_test (λ (x : Went). Behaves o.known.owner x) (names_known_groups o.known.maps p.body) (on_body o q p.from p.body) _
    (λ t. body_so o q p.from p.body)
    (λ t. record { does = ((refl, refl), tt); stays_its = refl })
