-- From which horizons on a log is linked: so an owner that serves may answer Polls of the epochs from the one on that it has promised.
use Rattle.std.specs.Prelude.{◌≡◌, ◌<◌, ◌≤◌, ◌⊎◌, ℕ, Some, List}
use Rattle.xfs_base.specs.Limits.{slot_count, block_logs}
use Rattle.xfs_base.specs.Logs.{cleaners_number}
use Rattle.client_log.specs.LogState.{LogState}
use Rattle.log_flight.specs.Flights.{FlightState}
use Rattle.cleaner_serving.specs.declared.emptying.Emptying.{Emptying}
use Rattle.cleaner_node.specs.declared.cleaner.Phase as cleaners
use Rattle.cleaner_node.specs.declared.cleaner.Phase.TheVariants as cleaning
use Rattle.client_node.specs.declared.phase.Phase as clients
use Rattle.client_node.specs.declared.phase.Phase.TheVariants as client
use Rattle.headline.specs.Filed.{Filed, Texts}
use Rattle.index_tie.specs.Growth.{with_segment}
use Rattle.index_tie.specs.Net.{Net}
use Rattle.index_tie.specs.Takeovers.{Linked}
use Rattle.headline.specs.Indexes.{of_log}
use Rattle.log_law.specs.Ends.{IsFlight}
use Rattle.log_law.specs.Laws.{Moment}
use Rattle.log_law.specs.Net as log
use Rattle.log_law.specs.Net.Owner.{Serving}
use Rattle.log_owner.specs.Promised.{epoch_of}
use Rattle.log_tie.specs.Setting.{Setting}
use Rattle.node_base.specs.declared.effects.Effect.{Effect}
use Rattle.node_slots.specs.node_index_tie.Pages.{FlightIsText}
use Rattle.node_slots.specs.node_index_tie.RegistryEvents.{RegistryAgrees}
use Rattle.node_logs.specs.node_log_tie.RegistryEvents.{RegistrySeen}
use Rattle.node_slots.specs.owner_index_tie.CleanerEvents.{PollGets}
use Rattle.node_slots.specs.owner_index_tie.ClientEvents.{EventGets}
use Rattle.node_slots.specs.owner_index_tie.Filing.{IsSameLog, filed_after}
use Rattle.node_slots.specs.owner_index_tie.Owners.{IsLastFiled}
use Rattle.registry_node.specs.declared.node.RegistryNode.{RegistryNode}
use Rattle.token_client.specs.State as tokens
use Rattle.wire_msg.specs.declared.deltas.Poll.{Poll}
use Rattle.wire_msg.specs.declared.packet.Do.{Do}
use Rattle.run_laws.specs.world_lines.Lines.{IsLine, IsSure}
use Rattle.run_laws.specs.world_lines.Turns.{AllSo}

-- from the horizon of each epoch from this one on the log is linked
abbrev pub LinkedSince : (l from : ℕ) → (ℕ → List ℕ) → Filed → Type 0
LinkedSince l from horizon f = (e : ℕ) → from ≤ e → 0 < of_log (horizon e) l → Linked f l (of_log (horizon e) l) (f.head l)

module _ (part : ℕ) (n : Net) where
  -- so it is of a client that serves, from the epoch of its tokens on
  abbrev pub ClientLinked : ℕ → clients.Phase → Type 0
  ClientLinked c (client.Serving s) = LinkedSince c (tokens.epoch_of s.tokens.epochs part) n.horizon n.filed
  ClientLinked c (client.Opening l o) = Unit {0}
  ClientLinked c (client.Down l) = Unit {0}

  -- and of the cleaner that serves, from the epoch on that it has promised
  abbrev pub CleanerLinked : cleaners.Phase → Type 0
  CleanerLinked (cleaning.Serving e) = LinkedSince cleaners_number (epoch_of e.promised part) n.horizon n.filed
  CleanerLinked (cleaning.Opening l o) = Unit {0}
  CleanerLinked (cleaning.Down l) = Unit {0}

-- Then what each is owed of a Poll that comes holds.
abbrev pub ClientsPollsAreOwed : Type 0
ClientsPollsAreOwed =
    (part : ℕ) (texts : Texts) (n : Net) (c : ℕ) (p : clients.Phase) (what : Do) → ClientLinked part n c p → EventGets part texts n c p what

abbrev pub CleanersPollsAreOwed : Type 0
CleanersPollsAreOwed = (part : ℕ) (n : Net) (e : Emptying) (m : Poll) → CleanerLinked part n (cleaning.Serving e) → PollGets part n e m

-- From the registry's epoch on a sure log is linked so: its least horizon is no further than that of the slot.
abbrev pub PresentIsLinked : Type 0
PresentIsLinked =
    (part : ℕ) (texts : Texts) (l : ℕ) (g : Setting) (m : log.Net) (n : Net) (r : RegistryNode) → part < slot_count → 0 < l → l ≤ block_logs → IsSure texts l g m
    → IsLine l m n.filed → RegistrySeen g m r.board → RegistryAgrees part n r → LinkedSince l n.epoch n.horizon n.filed

-- It stays linked where horizons rise, a later epoch is promised, and nothing more is filed of the log.
abbrev pub LinksStay : Type 0
LinksStay =
    (l from to : ℕ) (horizon later : ℕ → List ℕ) (f h : Filed) → from ≤ to → ((e : ℕ) → 0 < of_log (horizon e) l)
    → ((e : ℕ) → of_log (horizon e) l ≤ of_log (later e) l) → IsSameLog l f h → LinkedSince l from horizon f → LinkedSince l to later h

-- ---- an event of an owner that serves

-- what is filed is as before, or its flight more
abbrev pub GoesOnByFlight : (l : ℕ) → LogState → Filed → Filed → Type 0
GoesOnByFlight l s f h = (h ≡ f) ⊎ ((flight : FlightState) × (s.flight ≡ Some flight) × (h ≡ with_segment f l flight.segment))

-- Where the owner acts nothing to be filed but what it had in flight, its line goes on by that at most.
abbrev pub ServersGoOnByFlights : Type 0
ServersGoOnByFlights =
    (part : ℕ) (texts : Texts) (l : ℕ) (g : Setting) (m : log.Net) (n : Net) (s : LogState) (outs : List Effect) → Moment g m → m.owner ≡ Serving s
    → IsLastFiled part n l s.end → FlightIsText texts s → AllSo (IsFlight s) outs → GoesOnByFlight l s n.filed (filed_after texts l n.filed outs)

-- So it stays linked.
abbrev pub LinksGoOn : Type 0
LinksGoOn =
    (part : ℕ) (l from : ℕ) (horizon : ℕ → List ℕ) (g : Setting) (m : log.Net) (n : Net) (s : LogState) (h : Filed) → Moment g m → m.owner ≡ Serving s
    → IsLastFiled part n l s.end → GoesOnByFlight l s n.filed h → LinkedSince l from horizon n.filed → LinkedSince l from horizon h
