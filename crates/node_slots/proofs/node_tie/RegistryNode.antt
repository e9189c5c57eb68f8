-- What an event makes of the registry, for one slot of the map.
use Rattle.std.proofs.Common.{◌≡◌, ℕ, ◌+◌, ◌%◌, ◌<◌, ◌≤◌, true, List, refl, sym, ap, ◌∙◌, subst, arith}
use Rattle.std.proofs.lemmas.Bool.Decides.{nat_tests}
use Rattle.std.proofs.lemmas.List.FromFn.{length-map-range_with_len, get_or-map-range_with_len}
use Rattle.std.proofs.lemmas.Option.{unwrap_or-slice_get}
use Rattle.manager_map.proofs.Epochs.{start_epoch}
use Rattle.manager_map.specs.declared.entry.SlotEntry.{SlotEntry}
use Rattle.manager_map.specs.Slots.{first_entry, manager_map_start}
use Rattle.node_base.specs.declared.effects.Effect.{Effect}
use Rattle.node_base.specs.Room.{has_room}
use Rattle.registry.specs.Board.{checkpointed, server_lost, transition}
use Rattle.registry.specs.BoardState.{BoardState}
use Rattle.registry.specs.declared.input.In.TheVariants as board
use Rattle.registry_node.specs.declared.node.RegistryNode.{RegistryNode}
use Rattle.registry_node.specs.Events.{registry_start, takes}
use Rattle.version_model.specs.declared.work.Work.{Work}
use Rattle.wire_msg.specs.declared.body.Body.TheVariants as body
use Rattle.wire_msg.specs.declared.packet.Do.{Do}
use Rattle.wire_msg.specs.declared.packet.Packet.{Packet}
use Rattle.wire_msg.specs.declared.registry.Hello.{Hello}
use Rattle.xfs_base.specs.declared.node.NodeId.{NodeId}
use Rattle.xfs_base.specs.declared.node.NodeId.TheVariants.{Manager, Registry}
use Rattle.xfs_base.specs.declared.setup.Setup.{Setup}
use Rattle.xfs_base.specs.Limits.{u32_end}
use Rattle.node_moves.proofs.registry_moves.Events.{registry_events_are_moves}
use Rattle.node_moves.proofs.registry_moves.Keeping.{Keeps, event_keeps}
use Rattle.node_moves.specs.registry_moves.Moves.{Said}
use Rattle.node_moves.specs.registry_moves.Moves.Said.{TellsMaps, Welcomes}
use Rattle.node_moves.specs.server_moves.Moves.{Came}
use Rattle.node_slots.specs.node_tie.RegistryEvents.{manager_in, inc_in, RegistrySound, HearsHello, RegistrySends, BoardGoes, RegistryGoes, RegistryBegins}
use Rattle.node_slots.proofs.node_tie.RegistryEvents.{RegistryDoes}
use Rattle.node_slots.proofs.node_tie.RegistryBoard.{goes_still, goes_with, goes_manager, manager_heard, goes_reassigned}
use Rattle.node_slots.proofs.node_tie.RegistryNews.{news_are}
use Rattle.node_slots.proofs.node_tie.StoreFrames.{all_neutral, packets_do, packets_from}

-- the incarnations that the event has managers tell of
abbrev ToldIn : Do → ℕ → ℕ → Type 0
ToldIn what manager inc = HearsHello what (Manager manager) inc

low_of : (version : ℕ) → has_room version ≡ true → version < u32_end
low_of version room = grind (arith, nat_tests)

module _ (part : ℕ) (below : part < 8) (r : RegistryNode) (sound : RegistrySound r) (what : Do) where
  abbrev Goes : BoardState → Type 0
  Goes next = BoardGoes part (ToldIn what) r.board next

  hello_heard : (packet : Packet) (m : Hello) → Came what packet (body.Hello m) → (from : NodeId) → packet.from ≡ from → HearsHello what from m.inc
  hello_heard packet m came from fact =
      subst (λ (w : Do). HearsHello w from m.inc) (sym came.event) (record { from = fact; hello = m; said = came.says; told = refl })

  hello_kept : (packet : Packet) (m : Hello) (manager : ℕ) → has_room r.board.version ≡ true → packet.from ≡ Manager manager
      → m.inc ≤ inc_in (transition r.board (board.Hello packet.from m.inc)).state manager
  hello_kept packet m manager room fact =
      subst (λ (n : NodeId). m.inc ≤ inc_in (transition r.board (board.Hello n m.inc)).state manager) (sym fact)
      (manager_heard part (ToldIn what) r.board sound (low_of r.board.version room) manager m.inc)

  does_so : (now : BoardState) (e : Effect) → Goes now → Said r what now e → RegistryDoes part what now e
  does_so now e goes (TellsMaps to) = news_are part below now
  does_so now e goes (Welcomes packet m came room fact) = record {
    heard = hello_heard packet m came packet.from refl;
    kept = λ manager from. subst (λ (b : BoardState). m.inc ≤ inc_in b manager) (sym fact) (hello_kept packet m manager room from);
    news = news_are part below now;
  }
  does_so now e goes _ = tt

  keeps : Keeps r what Goes (RegistryDoes part what)
  keeps = record {
    restarts = λ packet m manager came from hears h.
        goes_manager part (ToldIn what) r.board sound manager m.inc (hello_heard packet m came (Manager manager) from) hears;
    loses = λ packet m server came from hears h. goes_with part (ToldIn what) r.board sound (server_lost r.board server m.inc) refl refl (omega arith);
    moves = λ slot manager can h. goes_reassigned part (ToldIn what) r.board sound slot manager can;
    checkpoints = λ packet m came kept h.
        goes_with part (ToldIn what) r.board sound (checkpointed r.board m.slot m.parts m.horizon) refl refl (omega arith);
    says = does_so;
  }

  -- whatever happens to the registry
  pub registry_goes : RegistryGoes part r what
  registry_goes =
      let d = event_keeps r what Goes (RegistryDoes part what) keeps (goes_still part (ToldIn what) r.board sound) in
      let next : BoardState = (takes r what).state.board in
      record {
        board = d.state;
        peers = (registry_events_are_moves r what).peers;
        from = packets_from Registry (takes r what).outs;
        sends =
            packets_do (λ (p : Packet). RegistrySends part what next p.to p.body) (RegistryDoes part what next) Registry (λ to said does. does)
            (takes r what).outs d.outs;
        acts = all_neutral (RegistryDoes part what next) Registry (λ act fact. fact) (takes r what).outs d.outs;
      }

-- ---- the start

-- the registry at the start of a run
pub registry_begins : (part : ℕ) → part < 8 → (setup : Setup) (items : List Work) → RegistryBegins part setup.managers (registry_start setup items)
registry_begins part below setup items = record {
  sound = record {
    slots = length-map-range_with_len (first_entry setup.managers) 0 8;
    epochs = λ slot within. omega (arith, start_epoch setup.managers slot within);
  };
  epoch = start_epoch setup.managers (part % 8) (omega arith);
  manager = start_manager;
  as_first = refl;
  incarnations = λ manager. refl;
}
  where
    start_manager : manager_in (registry_start setup items).board part ≡ part % setup.managers + 1
    start_manager =
        ap (λ (e : SlotEntry). e.manager)
        (unwrap_or-slice_get (manager_map_start setup.managers) (part % 8) (record { epoch = 0; manager = 0 })
        ∙ get_or-map-range_with_len (first_entry setup.managers) 0 8 (part % 8) part (record { epoch = 0; manager = 0 }) (omega arith) (omega arith))
