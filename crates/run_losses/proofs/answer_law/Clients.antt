-- Each event of a client: where it answers that a segment is lost, it has said so before, and the item had begun; and it says so only while it scans its log,
-- or serves.
use Rattle.std.proofs.Common.{◌≡◌, Option, Some, None}
use Rattle.client_node.specs.declared.client.Client.{Client}
use Rattle.client_node.specs.declared.phase.Phase.{Phase}
use Rattle.client_node.specs.declared.phase.Phase.TheVariants.{Down, Opening, Serving as Serves}
use Rattle.client_node.specs.Phases.{Went_to, lasting_of, takes}
use Rattle.node_base.specs.declared.items.Items.{Items}
use Rattle.wire_msg.specs.declared.packet.Do.{Do}
use Rattle.xfs_base.specs.declared.node.NodeId.TheVariants as nodes
use Rattle.client_call.specs.declared.call.Call.{Call}
use Rattle.node_base.specs.declared.effects.Effect.TheVariants.{Lose}
use Rattle.token_protocol.specs.Basics.{In}
use Rattle.xfs_base.specs.declared.segment.SegName.{SegName}
use Rattle.serving_moves.proofs.item_moves.Calling.{CallSo}
use Rattle.serving_moves.proofs.item_moves.Clients as moving
use Rattle.serving_moves.proofs.item_moves.Clients.{PhaseSo}
use Rattle.serving_moves.proofs.item_moves.Reading.{event_tells}
use Rattle.serving_moves.specs.item_moves.Events.{client_losses}
use Rattle.serving_moves.specs.item_moves.Moves.{IsPrompt, MayTell}
use Rattle.run_losses.proofs.answer_law.Events.{event_told}
use Rattle.run_losses.proofs.answer_law.Items.{Goes, event_goes}
use Rattle.run_losses.proofs.answer_law.Plans.{after_well, starts_well}
use Rattle.run_losses.proofs.answer_law.Telling.{Told, items_so, losses_said}
use Rattle.run_losses.specs.answer_law.Answers.{IsBegunBy}
use Rattle.run_losses.specs.answer_law.Calls.{CallsWell, ClientsSay, ClientsStartWell, GoesWell, NotLost, PlansWell}

abbrev pub items_in : Phase → Items
items_in p = (lasting_of p).items

-- what an event makes of a phase: its call ends well then, the items are those before, of which one more may have begun, and what it answers to be lost it has
-- said to be lost, of an item that had begun
pub record Turned (p : Phase) (what : Do) (w : Went_to) : Type 0 where
  pub well : GoesWell w.state
  pub number : (lasting_of w.state).number ≡ (lasting_of p).number
  pub items : Goes (items_in p) (items_in w.state) what
  pub told : Told (IsBegunBy (items_in p) what) None w.outs
  pub tells : (name : SegName) → In (Lose name) w.outs → MayTell (client_losses p)

-- ---- the open call

call_so : (call : Option Call) → CallsWell call → CallSo PlansWell call
call_so None well = tt
call_so (Some call) well = well

phase_so : (p : Phase) → GoesWell p → PhaseSo PlansWell p
phase_so (Down l) well = tt
phase_so (Opening l o) well = tt
phase_so (Serves s) well = call_so s.call well

call_well : (call : Option Call) → CallSo PlansWell call → CallsWell call
call_well None so = tt
call_well (Some call) so = so

phase_well : (p : Phase) → PhaseSo PlansWell p → GoesWell p
phase_well (Down l) so = tt
phase_well (Opening l o) so = tt
phase_well (Serves s) so = call_well s.call so

-- ---- an event

pub client_turned : (c : Client) (what : Do) → GoesWell c.phase → Turned c.phase what (takes c what)
client_turned c what well =
    let w : Went_to = takes c what in
    let t = moving.client_turned PlansWell NotLost tt after_well starts_well c what (phase_so c.phase well) in
    record {
      well = phase_well w.state t.calls;
      number = t.does.its_number;
      items = event_goes (client_losses c.phase) NotLost IsPrompt (items_in c.phase) what (items_in w.state) w.outs t.does.event;
      told = event_told (client_losses c.phase) NotLost (λ a so. so) (items_in c.phase) what (items_in w.state) w.outs t.does.event;
      tells = λ name among.
          event_tells (client_losses c.phase) NotLost IsPrompt name (items_in c.phase) (items_in w.state) what w.outs t.does.event among;
    }

pub clients_start_well : ClientsStartWell
clients_start_well number setup works = tt

pub clients_say : ClientsSay
clients_say c what well =
    let t : Turned c.phase what (takes c what) = client_turned c what well in
    let me = nodes.Client (lasting_of c.phase).number in
    record {
      goes = t.well;
      says = record {
        said = losses_said (IsBegunBy (items_in c.phase) what) me (takes c what).outs t.told;
        begun = items_so (IsBegunBy (items_in c.phase) what) me (takes c what).outs t.told;
      };
    }
