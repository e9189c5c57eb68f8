-- What a log settles was in flight in it, and is known where it is acted to be filed.
use Rattle.std.proofs.Common.{◌≡◌, ℕ, ◌+◌, cond, List, [], ◌∷◌, refl}
use Rattle.std.specs.Prelude.{Option, Some, None, Contains}
use Rattle.std.specs.List.{AllByRecursion}
use Rattle.checkpoint.specs.Transition.{part_at}
use Rattle.client_log.specs.declared.output.Out.{Out}
use Rattle.client_log.specs.declared.output.Out.TheVariants.{Send, Settled}
use Rattle.client_log.specs.LogState.{LogState}
use Rattle.client_log.specs.Transition.{Done, sending_send, can_follow, end_of, followed, log_go_on, is_full, landed, log_launch, looked_at, on_acked, on_maps, on_tick, restriped, log_seal, send_at, sends, settled}
use Rattle.group_map.specs.declared.group.Member.{Member}
use Rattle.group_map.specs.GroupMapState.{GroupMapState}
use Rattle.log_flight.specs.declared.flight.Fate.{Fate}
use Rattle.log_flight.specs.declared.flight.Fate.TheVariants.{Restripe, Settle, Wait}
use Rattle.log_flight.specs.Fate.{fate_of}
use Rattle.log_flight.specs.Flights.{FlightState, flown, group_for, is_noted, is_of, flight_note}
use Rattle.log_flight.specs.Fragments.{flight_fragment}
use Rattle.log_owner.specs.Sending.{name_of}
use Rattle.manager_slots.specs.Lasting.{log_of}
use Rattle.segment_format.specs.declared.segment.Item.{Item}
use Rattle.segment_format.specs.Rows.{rows_of}
use Rattle.version_model.specs.declared.act.Act.{Act}
use Rattle.version_model.specs.declared.act.Act.TheVariants.{Filed}
use Rattle.xfs_base.proofs.Booleans.{by_test}
use Rattle.xfs_base.specs.declared.segment.End.{End}
use Rattle.xfs_base.specs.declared.segment.LogId.{LogId}
use Rattle.xfs_base.specs.declared.segment.Prior.{Prior}
use Rattle.xfs_base.specs.declared.segment.SegName.{SegName}
use Rattle.xfs_base.specs.Steps.{still}
use Rattle.xfs_base.proofs.Alls.{all_append}
use Rattle.node_tellings.specs.part_tie.ManagerNames.{FlightNames}
use Rattle.node_tellings.specs.part_tie.Names.{Known}

module _ (known : Known) (acts : List Act) (its_number : ℕ) (log : LogId) where
  -- the segment at this end of the log is known, where it is acted to be filed
  abbrev pub FiledKnown : End → Type 0
  FiledKnown end = Contains acts (Filed (name_of (log_of its_number) end)) → known (part_at log end)

  -- what is settled is so
  abbrev pub OutNames : Out → Type 0
  OutNames (Send fragment member) = Unit {0}
  OutNames (Settled end rows) = FiledKnown end

  abbrev Flown : FlightState → Type 0
  Flown f = FiledKnown (end_of f.segment)

  abbrev GivesSo : Done → Type 0
  GivesSo d = AllByRecursion OutNames d.outs

  some_sends : (f : FlightState) (members : List Member) (place : ℕ) → AllByRecursion OutNames (sends f members place)
  some_sends f [] place = tt
  some_sends f (m ∷ ms) place =
      all_append OutNames (send_at f m place) (sends f ms (place + 1))
      (by_test (AllByRecursion OutNames) (is_noted f.noted place) [] (Send (flight_fragment f.segment f.group place) m ∷ []) (λ _. tt) (λ _. (tt, tt)))
      (some_sends f ms (place + 1))

  sends_all : (f : FlightState) → AllByRecursion OutNames (sending_send f)
  unfolding sending_send
  sends_all f = some_sends f f.group.members 0

  launches : (s : LogState) (name : SegName) (prior : Prior) (items : List Item) → GivesSo (log_launch s name prior items)
  unfolding log_launch
  launches s name prior items = sends_all (flown name prior items (group_for s.groups s.log.0 name.seq))

  seals : (s : LogState) → GivesSo (log_seal s)
  unfolding log_seal
  seals s = launches _ _ _ _

  fills : (s : LogState) → GivesSo (log_go_on s)
  unfolding log_go_on
  fills s = by_test GivesSo (is_full s) (log_seal s) (still s) (λ _. seals s) (λ _. tt)

  settles : (s : LogState) (f : FlightState) → Flown f → GivesSo (settled s f)
  unfolding settled
  settles s f fact = all_append OutNames (Settled (end_of f.segment) (rows_of f.segment) ∷ []) (log_go_on (landed s f)).outs (fact, tt) (fills (landed s f))

  follows : (s : LogState) (f : FlightState) (fate : Fate) → Flown f → GivesSo (followed s f fate)
  unfolding restriped
  follows s f Restripe fact = launches s _ _ _
  follows s f Settle fact = settles s f fact
  follows s f Wait fact = tt

  looks : (before s : LogState) (f : FlightState) → Flown f → GivesSo (looked_at before s f)
  unfolding looked_at
  looks before s f fact =
      by_test GivesSo (can_follow s f (fate_of s.groups f)) (followed s f (fate_of s.groups f)) (still before)
      (λ _. follows s f (fate_of s.groups f) fact) (λ _. tt)

  pub acked_names : (s : LogState) (name : SegName) (index generation : ℕ) → FlightNames known acts its_number log s
      → GivesSo (on_acked s name index generation)
  unfolding on_acked
  acked_names s name index generation flies = by s.flight refl
    where
      by : (o : Option FlightState) → s.flight ≡ o
          → GivesSo (elim o [ None ↦ still s | Some f ↦ cond (is_of f name index generation) (looked_at s s (flight_note f index)) (still s) ])
      by None fact = tt
      by (Some f) fact =
          by_test GivesSo (is_of f name index generation) (looked_at s s (flight_note f index)) (still s) (λ _. looks s s (flight_note f index) (flies f fact)) (λ _. tt)

  pub maps_names : (s : LogState) (groups : GroupMapState) → FlightNames known acts its_number log s → GivesSo (on_maps s groups)
  unfolding on_maps
  maps_names s groups flies = by s.flight refl
    where
      by : (o : Option FlightState) → s.flight ≡ o
          → GivesSo (elim o [ None ↦ still (record s { groups = groups }) | Some f ↦ looked_at s (record s { groups = groups }) f ])
      by None fact = tt
      by (Some f) fact = looks s (record s { groups = groups }) f (flies f fact)

  pub tick_names : (s : LogState) → GivesSo (on_tick s)
  unfolding on_tick
  tick_names s = by s.flight
    where
      by : (o : Option FlightState) → GivesSo (elim o [ None ↦ still s | Some f ↦ record { state = s; outs = sending_send f } ])
      by None = tt
      by (Some f) = sends_all f
