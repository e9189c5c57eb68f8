-- What an opening does at each input.
use Rattle.std.specs.Prelude.{ℕ, ◌+◌, ◌-◌, Bool, true, false, ◌==◌, ◌&&◌, ◌||◌, not, nat_lt, nat_le, min, max, if◌then◌else◌, List, [], ◌∷◌, ◌++◌, Option, Some, None, map, filter, length, reverse, slice_get, unwrap_or}
use Rattle.std.specs.List.{range_with_len}
use Rattle.group_map.specs.declared.group.Group.{Group}
use Rattle.group_map.specs.GroupMapState.{GroupMapState}
use Rattle.segment_format.specs.declared.segment.Segment.{Segment}
use Rattle.segment_reading.specs.declared.reading.Next.{Next}
use Rattle.segment_reading.specs.declared.reading.Next.TheVariants as next
use Rattle.segment_reading.specs.declared.target.Target.{Target}
use Rattle.segment_reading.specs.Reading.{ReadingState, is_asking, reading_unanswered, reading_take, on_confirmed}
use Rattle.segment_reading.specs.Reading as reading
use Rattle.stripe_code.specs.declared.round.Told.{Told}
use Rattle.stripe_code.specs.declared.round.Told.TheVariants as told
use Rattle.xfs_base.specs.declared.news.SlotNews.{SlotNews}
use Rattle.xfs_base.specs.declared.segment.End.{End}
use Rattle.xfs_base.specs.declared.segment.LogId.{LogId}
use Rattle.xfs_base.specs.declared.segment.Prior.{Prior}
use Rattle.xfs_base.specs.declared.segment.SegName.{SegName}
use Rattle.xfs_base.specs.Limits.{u32_end}
use Rattle.xfs_base.specs.Steps.{Stepped}
use Rattle.xfs_base.specs.Segments.{names_none}
use Rattle.log_scan.specs.declared.input.In.{In}
use Rattle.log_scan.specs.declared.input.In.TheVariants as input
use Rattle.log_scan.specs.declared.listing.Listing.{Listing}
use Rattle.log_scan.specs.declared.opening.Opening.{Opening}
use Rattle.log_scan.specs.declared.output.Out.{Out}
use Rattle.log_scan.specs.declared.output.Out.TheVariants.{Hello, Fence, Fetch, Chain, Lost}
use Rattle.log_scan.specs.declared.stage.Backward.{Backward}
use Rattle.log_scan.specs.declared.stage.Stage.{Stage}
use Rattle.log_scan.specs.declared.stage.Stage.TheVariants.{Hails, Gathers, Asks, Reads, Over}
use Rattle.log_scan.specs.Pick.{has_list, known_group, start_of}
use Rattle.log_scan.specs.ScanState.{ScanState}

abbrev pub Done : Type 0
Done = Stepped ScanState Out

abbrev pub goes : Opening → Stage → List Out → Done
goes o stage outs = record { state = record { opening = o; stage = stage }; outs = outs }

abbrev pub stays : Opening → Stage → Done
stays o stage = goes o stage []

-- ---- questions

-- a question can have a number after the last one
abbrev pub can_ask : Opening → Bool
can_ask o = nat_lt o.ask u32_end

-- a further question is drawn
abbrev pub opening_ask_anew : Opening → Opening
opening_ask_anew o = record o { ask = o.ask + 1 }

-- the registry is asked by a further question
abbrev pub asks_anew : Opening → Stage → Done
asks_anew o stage = goes (opening_ask_anew o) stage (Hello (o.ask + 1) ∷ [])

-- ---- horizons

-- the first number of a log that is not covered by the slot's checkpoint
abbrev pub horizon_of : ℕ → SlotNews → ℕ
horizon_of log slot = unwrap_or (slice_get slot.horizon (log - 1)) 1

-- the least horizon of a log
abbrev pub least_horizon : ℕ → List SlotNews → ℕ
least_horizon log [] = u32_end
least_horizon log (slot ∷ slots) = min (horizon_of log slot) (least_horizon log slots)

-- the horizon below which nothing is read; it never falls
abbrev pub opening_rise : Opening → ℕ → Opening
opening_rise o least = record o { low = max o.low least }

-- ---- reading back

abbrev pub name_at : LogId → End → SegName
name_at log e = record { log = log; seq = e.seq; pass = e.pass }

abbrev pub target_at : LogId → End → Target
target_at log e = record { seg = record { name = name_at log e; group = e.group }; block = None }

abbrev pub prior_at : End → Prior
prior_at e = record { pass = e.pass; group = e.group }

-- nothing is read there: it is below the horizon, or no segment is named
abbrev pub is_bottom : ℕ → End → Bool
is_bottom low e = nat_lt e.seq low || names_none (prior_at e)

abbrev pub backward_from : End → Backward
backward_from start = record { start = start; next = start; chain = [] }

-- the segment before this one
abbrev pub end_below : Segment → End
end_below s = record { seq = s.name.seq - 1; pass = s.prior.pass; group = s.prior.group }

abbrev pub backward_with : Backward → Segment → Backward
backward_with b s = record b { next = end_below s; chain = b.chain ++ s ∷ [] }

abbrev pub backward_told : Backward → Out
backward_told b = Chain (reverse b.chain) b.start (prior_at b.start)

-- what the reading still asks
abbrev pub backward_fetch : ReadingState → List Out
backward_fetch r = map (λ server. Fetch server r.target.seg.name r.ask) (reading_unanswered r)

abbrev pub begins : Opening → Backward → ReadingState → Done
begins o b r = goes (opening_ask_anew o) (Reads b (Some r)) (backward_fetch r)

-- the next segment is asked for, by a further question; where its group is not known the registry is
abbrev pub begins_in : Opening → Backward → Option Group → Done
begins_in o b None = asks_anew o (Reads b None)
begins_in o b (Some g) = begins o b (reading.reading_start (target_at o.log b.next) g (o.ask + 1))

unfoldable pub opening_begin_round : Opening → Backward → Done
opening_begin_round o b = begins_in o b (known_group o.groups b.next.group)

-- the next segment is read, or all are
unfoldable pub opening_follow : Opening → Backward → Done
opening_follow o b = if is_bottom o.low b.next then goes o Over (backward_told b ∷ []) else opening_begin_round o b

-- what the reading of the next segment does next
unfoldable pub opening_go_on : Opening → Backward → ReadingState → Next → Done
opening_go_on o b r next.Wait = stays o (Reads b (Some r))
opening_go_on o b r next.Ask = goes (record o { ask = r.ask }) (Reads b (Some r)) (backward_fetch r)
opening_go_on o b r next.Again = asks_anew o (Reads b (Some r))
opening_go_on o b r (next.Read s) = opening_follow o (backward_with b s)
opening_go_on o b r next.Lost = goes o Over (Lost r.target.seg.name ∷ [])

-- ---- a Welcome

-- a reading asks no servers
abbrev pub is_between : Option ReadingState → Bool
is_between None = true
is_between (Some r) = not (is_asking r.stage)

-- the registry's answer is awaited
abbrev pub awaits_welcome : Stage → Bool
awaits_welcome Hails = true
awaits_welcome (Gathers lists) = false
awaits_welcome (Asks lists) = true
awaits_welcome (Reads b r) = is_between r
awaits_welcome Over = false

-- how many servers there are, where groups are known
abbrev pub server_count : Option GroupMapState → ℕ
server_count None = 0
server_count (Some groups) = groups.servers

-- a server whose list is not in
abbrev pub awaits : Option GroupMapState → List Listing → ℕ → Bool
awaits groups lists server = nat_le 1 server && (nat_le server (server_count groups) && not (has_list server lists))

-- these, in order
abbrev pub awaited : Option GroupMapState → List Listing → List ℕ
awaited groups lists = filter (awaits groups lists) (range_with_len 1 (server_count groups))

abbrev pub fences : List ℕ → List Out
fences servers = map (λ server. Fence server) servers

-- the first one: each server is fenced
abbrev pub opening_gather : Opening → Done
opening_gather o = goes o (Gathers []) (fences (awaited o.groups []))

abbrev pub picks_at : Opening → List Listing → Option End → Done
picks_at o lists None = asks_anew o (Asks lists)
picks_at o lists (Some start) = opening_follow o (backward_from start)

-- the one that was asked for after the last list: it is picked where the log goes on, and the chain is read
unfoldable pub opening_pick : Opening → List Listing → Done
opening_pick o lists = picks_at o lists (start_of o.groups lists o.low)

abbrev pub confirms_by : Opening → Backward → Option ReadingState → Done
confirms_by o b None = opening_begin_round o b
confirms_by o b (Some r) = (let step = on_confirmed r (o.ask + 1) in opening_go_on o b step.state step.next)

-- one between two rounds: it may end the chain, and confirms the reader's question
unfoldable pub opening_confirm : Opening → Backward → Option ReadingState → Done
opening_confirm o b r = if is_bottom o.low b.next then goes o Over (backward_told b ∷ []) else confirms_by o b r

abbrev pub opening_welcome : Opening → Stage → ℕ → Done
opening_welcome o Hails least = opening_gather o
opening_welcome o (Gathers lists) least = stays o (Gathers lists)
opening_welcome o (Asks lists) least = opening_pick (opening_rise o least) lists
opening_welcome o (Reads b r) least = opening_confirm (opening_rise o least) b r
opening_welcome o Over least = stays o Over

unfoldable pub on_welcome : Opening → Stage → ℕ → List SlotNews → GroupMapState → Done
on_welcome o stage ask news groups =
    if (ask == o.ask) && (can_ask o && awaits_welcome stage)
    then opening_welcome (record o { groups = Some groups }) stage (least_horizon o.log.0 news)
    else stays o stage

-- ---- a list

-- with this list: where it is the last one, the registry is asked anew
unfoldable pub with_list : Opening → List Listing → Done
with_list o lists = if length (awaited o.groups lists) == 0 then asks_anew o (Asks lists) else stays o (Gathers lists)

abbrev pub opening_list : Opening → List Listing → Listing → Done
opening_list o lists l = if can_ask o && awaits o.groups lists l.server then with_list o (lists ++ l ∷ []) else stays o (Gathers lists)

unfoldable pub on_fenced : Opening → Stage → Listing → Done
on_fenced o Hails l = stays o Hails
on_fenced o (Gathers lists) l = opening_list o lists l
on_fenced o (Asks lists) l = stays o (Asks lists)
on_fenced o (Reads b r) l = stays o (Reads b r)
on_fenced o Over l = stays o Over

-- ---- an answer of a server

abbrev pub opening_read : Opening → Backward → ReadingState → Option GroupMapState → ℕ → ℕ → Told → Done
opening_read o b r None ask server t = stays o (Reads b (Some r))
opening_read o b r (Some groups) ask server t = (let step = reading_take r groups ask server t in opening_go_on o b step.state step.next)

abbrev pub opening_hear : Opening → Backward → Option ReadingState → ℕ → ℕ → Told → Done
opening_hear o b None ask server t = stays o (Reads b None)
opening_hear o b (Some r) ask server t = if can_ask o then opening_read o b r o.groups ask server t else stays o (Reads b (Some r))

unfoldable pub on_told : Opening → Stage → ℕ → ℕ → Told → Done
on_told o Hails ask server t = stays o Hails
on_told o (Gathers lists) ask server t = stays o (Gathers lists)
on_told o (Asks lists) ask server t = stays o (Asks lists)
on_told o (Reads b r) ask server t = opening_hear o b r ask server t
on_told o Over ask server t = stays o Over

-- ---- time

abbrev pub opening_read_again : Opening → Option ReadingState → List Out
opening_read_again o None = Hello o.ask ∷ []
opening_read_again o (Some r) = if is_asking r.stage then backward_fetch r else Hello o.ask ∷ []

-- what is unanswered is asked again
unfoldable pub on_tick : Opening → Stage → List Out
on_tick o Hails = Hello o.ask ∷ []
on_tick o (Gathers lists) = fences (awaited o.groups lists)
on_tick o (Asks lists) = Hello o.ask ∷ []
on_tick o (Reads b r) = opening_read_again o r
on_tick o Over = []

-- what each input makes of an opening
abbrev pub opening_take : Opening → Stage → In → Done
opening_take o stage (input.Welcome ask news groups) = on_welcome o stage ask news groups
opening_take o stage (input.Fenced server generation held) = on_fenced o stage (record { server = server; generation = generation; held = held })
opening_take o stage (input.Got ask server generation fragment) = on_told o stage ask server (told.Held fragment)
opening_take o stage (input.Missing ask server generation) = on_told o stage ask server (told.Missing generation)
opening_take o stage (input.Maps groups) = stays (record o { groups = Some groups }) stage
opening_take o stage input.Tick = goes o stage (on_tick o stage)

abbrev pub transition : ScanState → In → Done
transition s i = opening_take s.opening s.stage i
