-- What is told of where blocks lie stays told over an event: what the node that takes it holds then, and all that it sends, is told, where what it files and
-- reads is.
use Rattle.std.proofs.Common.{◌≡◌, ◌⊎◌, ⊎_elim, ℕ, zero, suc, List, [], ◌∷◌, ◌++◌, None, Option, Some, map, slice_get, slice_set, unwrap_or, inl, inr, refl, sym, ap, subst}
use Rattle.std.specs.List.{AllByRecursion}
use Rattle.cleaner_node.specs.CleanerEvents.{cleaner_step}
use Rattle.client_node.specs.Phases.{client_step}
use Rattle.core_world.specs.AnyNode.{any_step}
use Rattle.core_world.specs.declared.any_node.AnyNode.{AnyNode}
use Rattle.core_world.specs.declared.any_node.AnyNode.TheVariants as any
use Rattle.node_tellings.specs.entry_tie.CleanerTells.{CleanerOwed}
use Rattle.node_tellings.specs.entry_tie.ClientTells.{ClientOwed}
use Rattle.node_tellings.specs.entry_tie.ManagerTells.{ManagerOwed}
use Rattle.node_tellings.specs.entry_tie.Told.{DoTold, FiledRows, PacketTold, told_by_rows}
use Rattle.manager_node.specs.Events.{manager_step}
use Rattle.token_protocol.specs.Basics.{In}
use Rattle.version_model.specs.declared.act.Act.{Act}
use Rattle.wire_msg.specs.declared.packet.Do.{Do}
use Rattle.wire_msg.specs.declared.packet.Do.TheVariants.{Begin, Deliver, Tick}
use Rattle.wire_msg.specs.declared.packet.Packet.{Packet}
use Rattle.world_base.specs.Cluster.{place_of}
use Rattle.world_base.specs.declared.event.Event.{Event}
use Rattle.world_base.specs.declared.world.World.{World}
use Rattle.world_base.specs.Events.{node_of, what_of}
use Rattle.world_base.specs.NextWorld.{next_world, sent_at}
use Rattle.run_laws.proofs.world_law.Turning.{next_keeps}
use Rattle.run_laws.specs.world_reads.Readings.{EntryKinds}
use Rattle.run_laws.proofs.world_reads.Taking.{Took}
use Rattle.run_laws.specs.world_reads.Entries.{AnyTold, EntriesStand}
use Rattle.run_laws.proofs.world_law.Sent.{in_append}

-- ---- lists

pub in_set : {X : Type 0} (xs : List X) (place : ℕ) (y x : X) → In x (slice_set xs place y) → (x ≡ y) ⊎ In x xs
in_set [] place y x among = absurd among
in_set (z ∷ xs) zero y x (inl fact) = inl fact
in_set (z ∷ xs) zero y x (inr later) = inr (inr later)
in_set (z ∷ xs) (suc place) y x (inl fact) = inr (inl fact)
in_set (z ∷ xs) (suc place) y x (inr later) = ⊎_elim (λ fact. inl fact) (λ on. inr (inr on)) (in_set xs place y x later)

pub at_place : {X : Type 0} (xs : List X) (place : ℕ) (x : X) → slice_get xs place ≡ Some x → In x xs
at_place [] place x fact = absurd (let clash : None ≡ Some x = fact in cc)
at_place (z ∷ xs) zero x fact = inl (sym (ap (λ (o : Option _). unwrap_or o z) fact))
at_place (z ∷ xs) (suc place) x fact = inr (at_place xs place x fact)

module _ (rows : FiledRows) where
  -- what a packet tells doesn't lie in its clock
  sent_told : (clock : ℕ) (packets : List Packet) → AllByRecursion (PacketTold (told_by_rows rows)) packets → (p : Packet) → In p (map (sent_at clock) packets)
      → PacketTold (told_by_rows rows) p
  sent_told clock [] all p among = absurd among
  sent_told clock (x ∷ packets) all p (inl fact) = subst (PacketTold (told_by_rows rows)) (sym fact) all.0
  sent_told clock (x ∷ packets) all p (inr later) = sent_told clock packets all.1 p later

  -- ---- one node

  -- what an event of a node is owed, of what it files and reads
  abbrev pub AnyOwed : AnyNode → Do → Type 0
  AnyOwed (any.Client node) what = ClientOwed (told_by_rows rows) node what (client_step node what).acts
  AnyOwed (any.Manager node) what = ManagerOwed (told_by_rows rows) node what (manager_step node what).acts
  AnyOwed (any.Server node) what = Unit {0}
  AnyOwed (any.Cleaner node) what = CleanerOwed (told_by_rows rows) node what (cleaner_step node what).acts
  AnyOwed (any.Registry node) what = Unit {0}

  pub record AnyTells (x : AnyNode) (what : Do) : Type 0 where
    pub node : AnyTold rows (any_step x what).node
    pub packets : AllByRecursion (PacketTold (told_by_rows rows)) (any_step x what).packets

  any_tells : EntryKinds → (node : AnyNode) (what : Do) → AnyTold rows node → DoTold (told_by_rows rows) what → AnyOwed node what → AnyTells node what
  any_tells kinds (any.Client node) what holds comes owed =
      (let t = kinds.client.events rows node what holds comes owed in record { node = t.node; packets = t.packets })
  any_tells kinds (any.Manager node) what holds comes owed =
      (let t = kinds.manager.events rows node what holds comes owed in record { node = t.node; packets = t.packets })
  any_tells kinds (any.Server node) what holds comes owed = record { node = tt; packets = kinds.server rows node what }
  any_tells kinds (any.Cleaner node) what holds comes owed =
      (let t = kinds.cleaner.events rows node what holds comes owed in record { node = t.node; packets = t.packets })
  any_tells kinds (any.Registry node) what holds comes owed = record { node = tt; packets = kinds.registry rows node what }

  -- ---- an event

  module _ (kinds : EntryKinds) (w : World AnyNode) (event : Event) (stand : EntriesStand rows w.nodes w.sent)
      (came : (p : Packet) → what_of event ≡ Deliver p → In p w.sent) where
    abbrev next : World AnyNode
    next = next_world any_step w event

    comes : DoTold (told_by_rows rows) (what_of event)
    comes = by (what_of event) refl
      where
        by : (what : Do) → what_of event ≡ what → DoTold (told_by_rows rows) what
        by Begin fact = tt
        by (Deliver p) fact = stand.packets p (came p fact)
        by Tick fact = tt

    abbrev Told : List AnyNode → List Packet → List Act → Type 0
    Told nodes sent acts = next.nodes ≡ nodes → next.sent ≡ sent → next.acts ≡ acts → EntriesStand rows nodes sent

    -- what it is owed is so of the node that takes it
    pub entries_stay : ((node : AnyNode) → Took w event node → AnyOwed node (what_of event)) → EntriesStand rows next.nodes next.sent
    entries_stay owed = next_keeps any_step Told w event (λ nodes sent acts. stand) turned refl refl refl
      where
        turned : (place : ℕ) (node : AnyNode) (clock : ℕ) → place_of w.cluster (node_of event) ≡ Some place → slice_get w.nodes place ≡ Some node
            → Told (slice_set w.nodes place (any_step node (what_of event)).node) (w.sent ++ map (sent_at clock) (any_step node (what_of event)).packets)
            (w.acts ++ (any_step node (what_of event)).acts)
        turned place node clock at fact nodes sent acts =
            let t : AnyTells node (what_of event) =
            any_tells kinds node (what_of event) (stand.holds node (at_place w.nodes place node fact)) comes
            (owed node (record { place = place; placed = at; stands = fact; nodes = nodes; acts = acts }))
            in
            record {
              holds = λ x among. ⊎_elim (λ same. subst (AnyTold rows) (sym same) t.node) (λ before. stand.holds x before)
                  (in_set w.nodes place (any_step node (what_of event)).node x among);
              packets = λ p among. ⊎_elim (λ before. stand.packets p before)
                  (λ new. sent_told clock (any_step node (what_of event)).packets t.packets p new)
                  (in_append w.sent (map (sent_at clock) (any_step node (what_of event)).packets) p among);
            }
