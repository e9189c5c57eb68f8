-- Whatever holds of what waits in a log, of what it has in flight and of what it says goes on to hold whatever the log takes, where it goes on over the few
-- things that happen there: a version is put, what waits first leaves for a segment, and a segment has another attempt or is settled.
use Rattle.std.proofs.Common.{ℕ, ◌+◌, ◌&&◌, cond, List, [], ◌∷◌, length, Option, Some, None, nat_lt}
use Rattle.std.specs.Prelude.{drop, take, IfSome}
use Rattle.std.specs.List.{AllByRecursion}
use Rattle.client_log.specs.declared.input.In.{In}
use Rattle.client_log.specs.declared.input.In.TheVariants.{Put, Parts, Seal, Acked, Maps, Tick}
use Rattle.client_log.specs.declared.output.Out.{Out}
use Rattle.client_log.specs.declared.output.Out.TheVariants.{Send, Settled}
use Rattle.client_log.specs.LogState.{LogState}
use Rattle.client_log.specs.Transition.{Done, send_at, sends, sending_send, log_launch, next_name, prior_from, log_write, has_next, is_idle, is_full, can_go_on, log_seal, log_go_on, waits, on_put, on_seal, on_parts, next_attempt, restriped, end_of, landed, settled, can_follow, followed, looked_at, on_acked, on_maps, on_tick, transition}
use Rattle.group_map.specs.declared.group.Member.{Member}
use Rattle.group_map.specs.GroupMapState.{GroupMapState}
use Rattle.indexmap.specs.IndexMap.{insert_entry}
use Rattle.log_flight.specs.declared.dirty.Change.{Change}
use Rattle.log_flight.specs.declared.flight.Fate.{Fate}
use Rattle.log_flight.specs.declared.flight.Fate.TheVariants.{Restripe, Settle, Wait}
use Rattle.log_flight.specs.Fate.{fate_of}
use Rattle.log_flight.specs.Flights.{FlightState, flown, group_for, is_noted, is_of, flight_note}
use Rattle.log_flight.specs.Fragments.{flight_fragment}
use Rattle.log_flight.specs.Items.{items_of}
use Rattle.log_flight.specs.Texts.{has_text}
use Rattle.segment_format.specs.declared.segment.Item.{Item}
use Rattle.segment_format.specs.Rows.{rows_of}
use Rattle.xfs_base.proofs.Alls.{all_append}
use Rattle.xfs_base.proofs.Booleans.{by_test}
use Rattle.xfs_base.specs.Blocks.{same_block}
use Rattle.xfs_base.specs.declared.block.BlockId.{BlockId}
use Rattle.xfs_base.specs.declared.segment.LogId.{LogId}
use Rattle.xfs_base.specs.declared.segment.Prior.{Prior}
use Rattle.xfs_base.specs.declared.segment.SegName.{SegName}
use Rattle.xfs_base.specs.Limits.{segment_blocks}
use Rattle.xfs_base.specs.Steps.{still}

-- a log hears so much: that a fragment is held, of newer groups, and that time passes
abbrev pub IsHeard : In → Type 0
IsHeard (Acked name index generation) = Unit {0}
IsHeard (Maps groups) = Unit {0}
IsHeard Tick = Unit {0}
IsHeard _ = ⊥

pub record Walk : Type 1 where
  -- what holds of a log and of what waits in it, of a segment in flight by its name and items, and of what is said; and what is known of what is put, and of
  -- the items that are given for a segment
  pub Waits : LogId → List (BlockId × Change) → Type 0
  pub Flies : SegName → List Item → Type 0
  pub Says : Out → Type 0
  pub Puts : BlockId → Change → Type 0
  pub Writes : List Item → Type 0
  pub puts : (s : LogState) (block : BlockId) (change : Change) → Puts block change → Waits s.log s.dirty
      → Waits s.log (insert_entry same_block s.dirty block change)
  pub leaves : (s : LogState) → Waits s.log s.dirty → Waits s.log (drop segment_blocks s.dirty)
  pub seals : (s : LogState) → Waits s.log s.dirty → Flies (next_name s) (items_of 0 (take segment_blocks s.dirty))
  pub writes : (s : LogState) (items : List Item) → Writes items → Waits s.log s.dirty → Flies (next_name s) items
  pub again : (name : SegName) (items : List Item) → Flies name items → Flies (next_attempt name) items
  pub sends : (f : FlightState) (place : ℕ) (member : Member) → Flies f.segment.name f.segment.items → Says (Send (flight_fragment f.segment f.group place) member)
  pub settles : (f : FlightState) → Flies f.segment.name f.segment.items → Says (Settled (end_of f.segment) (rows_of f.segment))

module _ (w : Walk) where
  abbrev pub Flown : FlightState → Type 0
  Flown f = w.Flies f.segment.name f.segment.items

  pub record Stands (log : LogId) (dirty : List (BlockId × Change)) (flight : Option FlightState) : Type 0 where
    pub waits : w.Waits log dirty
    pub flies : IfSome flight Flown

  abbrev pub Holds : LogState → Type 0
  Holds s = Stands s.log s.dirty s.flight

  pub record Goes (d : Done) : Type 0 where
    pub holds : Holds d.state
    pub says : AllByRecursion w.Says d.outs

  -- what is known of what the log takes
  abbrev pub Given : In → Type 0
  Given (Put block entry value) = w.Puts block (record { entry = entry; value = value })
  Given (Parts items) = w.Writes items
  Given _ = Unit {0}

  -- of what a log hears alone nothing is known
  pub heard : (i : In) → IsHeard i → Given i
  heard (Put block entry value) is = absurd is
  heard (Parts items) is = absurd is
  heard Seal is = absurd is
  heard _ is = tt

  rests : (s : LogState) → Holds s → Goes (still s)
  rests s h = record { holds = h; says = tt }

  -- ---- a segment begins

  each_sent : (f : FlightState) → Flown f → (members : List Member) (place : ℕ) → AllByRecursion w.Says (sends f members place)
  each_sent f fact [] place = tt
  each_sent f fact (m ∷ members) place =
      all_append w.Says (send_at f m place) (sends f members (place + 1))
      (by_test (AllByRecursion w.Says) (is_noted f.noted place) [] (Send (flight_fragment f.segment f.group place) m ∷ []) (λ _. tt) (λ _. (w.sends f place m fact, tt)))
      (each_sent f fact members (place + 1))

  all_sent : (f : FlightState) → Flown f → AllByRecursion w.Says (sending_send f)
  unfolding sending_send
  all_sent f fact = each_sent f fact f.group.members 0

  launched_goes : (s : LogState) (name : SegName) (prior : Prior) (items : List Item) → w.Waits s.log s.dirty → w.Flies name items
      → Goes (log_launch s name prior items)
  unfolding log_launch
  launched_goes s name prior items waits fact = record {
    holds = record { waits = waits; flies = fact };
    says = all_sent (flown name prior items (group_for s.groups s.log.0 name.seq)) fact;
  }

  sealed_goes : (s : LogState) → w.Waits s.log s.dirty → Goes (log_seal s)
  unfolding log_seal
  sealed_goes s waits =
      let t : LogState = record s { dirty = drop segment_blocks s.dirty } in
      launched_goes t (next_name t) (prior_from s.end) (items_of 0 (take segment_blocks s.dirty)) (w.leaves s waits) (w.seals s waits)

  full_goes : (s : LogState) → Holds s → Goes (log_go_on s)
  unfolding log_go_on
  full_goes s h = by_test Goes (is_full s) (log_seal s) (still s) (λ _. sealed_goes s h.waits) (λ _. rests s h)

  put_goes : (s : LogState) (block : BlockId) (change : Change) → w.Puts block change → Holds s → Goes (on_put s block change)
  unfolding on_put
  put_goes s block change new h =
      by_test Goes (can_go_on (waits s block change)) (log_go_on (waits s block change)) (still s)
      (λ _. full_goes (waits s block change) (record { waits = w.puts s block change new h.waits; flies = h.flies })) (λ _. rests s h)

  seal_goes : (s : LogState) → Holds s → Goes (on_seal s)
  unfolding on_seal
  seal_goes s h =
      by_test Goes (is_idle s && nat_lt 0 (length s.dirty) && has_next s.end.seq) (log_seal s) (still s) (λ _. sealed_goes s h.waits) (λ _. rests s h)

  parts_goes : (s : LogState) (items : List Item) → w.Writes items → Holds s → Goes (on_parts s items)
  unfolding on_parts
  parts_goes s items fact h =
      by_test Goes (is_idle s && has_next s.end.seq && has_text items) (log_write s items) (still s)
      (λ _. launched_goes s (next_name s) (prior_from s.end) items h.waits (w.writes s items fact h.waits)) (λ _. rests s h)

  -- ---- a segment is settled

  follows_on : (s : LogState) (f : FlightState) (fate : Fate) → w.Waits s.log s.dirty → Flown f → Goes (followed s f fate)
  unfolding restriped settled
  follows_on s f Restripe waits fact =
      launched_goes s (next_attempt f.segment.name) f.segment.prior f.segment.items waits (w.again f.segment.name f.segment.items fact)
  follows_on s f Settle waits fact =
      let d = full_goes (landed s f) (record { waits = waits; flies = tt }) in record { holds = d.holds; says = (w.settles f fact, d.says) }
  follows_on s f Wait waits fact = record { holds = record { waits = waits; flies = fact }; says = tt }

  looks_on : (before s : LogState) (f : FlightState) → Holds before → w.Waits s.log s.dirty → Flown f → Goes (looked_at before s f)
  unfolding looked_at
  looks_on before s f h waits fact =
      by_test Goes (can_follow s f (fate_of s.groups f)) (followed s f (fate_of s.groups f)) (still before)
      (λ _. follows_on s f (fate_of s.groups f) waits fact) (λ _. rests before h)

  acked_goes : (s : LogState) (name : SegName) (index generation : ℕ) → Holds s → Goes (on_acked s name index generation)
  unfolding on_acked
  acked_goes s name index generation h = by s.flight h.flies
    where
      by : (o : Option FlightState) → IfSome o Flown
          → Goes (elim o [ None ↦ still s | Some f ↦ cond (is_of f name index generation) (looked_at s s (flight_note f index)) (still s) ])
      by None fact = rests s h
      by (Some f) fact =
          by_test Goes (is_of f name index generation) (looked_at s s (flight_note f index)) (still s) (λ _. looks_on s s (flight_note f index) h h.waits fact)
          (λ _. rests s h)

  maps_go : (s : LogState) (groups : GroupMapState) → Holds s → Goes (on_maps s groups)
  unfolding on_maps
  maps_go s groups h = by s.flight h.flies
    where
      by : (o : Option FlightState) → IfSome o Flown
          → Goes (elim o [ None ↦ still (record s { groups = groups }) | Some f ↦ looked_at s (record s { groups = groups }) f ])
      by None fact = rests (record s { groups = groups }) h
      by (Some f) fact = looks_on s (record s { groups = groups }) f h h.waits fact

  tick_goes : (s : LogState) → Holds s → Goes (on_tick s)
  unfolding on_tick
  tick_goes s h = by s.flight h.flies
    where
      by : (o : Option FlightState) → IfSome o Flown → Goes (elim o [ None ↦ still s | Some f ↦ record { state = s; outs = sending_send f } ])
      by None fact = rests s h
      by (Some f) fact = record { holds = h; says = all_sent f fact }

  pub log_goes : (s : LogState) (i : In) → Given i → Holds s → Goes (transition s i)
  log_goes s (Put block entry value) new h = put_goes s block (record { entry = entry; value = value }) new h
  log_goes s (Parts items) fact h = parts_goes s items fact h
  log_goes s Seal none h = seal_goes s h
  log_goes s (Acked name index generation) none h = acked_goes s name index generation h
  log_goes s (Maps groups) none h = maps_go s groups h
  log_goes s Tick none h = tick_goes s h
