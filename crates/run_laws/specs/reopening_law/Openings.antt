-- The event of a node that ends a restart, in the small world of its log: the opening segment is settled there by the one thing that happens.
use Rattle.std.specs.Prelude.{◌≡◌, ℕ, false, List, [], Some}
use Rattle.client_node.specs.declared.client.Client.{Client as AClient}
use Rattle.client_node.specs.declared.phase.Phase.TheVariants as phase
use Rattle.client_node.specs.Phases.{takes}
use Rattle.client_serving.specs.declared.lasting.Lasting.{Lasting}
use Rattle.client_serving.specs.declared.serving.Serving.{Serving}
use Rattle.log_flight.specs.Flights.{FlightState}
use Rattle.node_logs.specs.client_log_tie.ClientEvents.{ServesStraight}
use Rattle.node_logs.specs.client_log_tie.Owner.{Scene, SeesLog, SeesStage}
use Rattle.log_law.specs.Events.{Happens, Runs}
use Rattle.log_law.specs.Events.Runs.{Begun, On}
use Rattle.log_law.specs.Net.Owner.{Serving as Serves, Writing}
use Rattle.log_law.specs.ReadBack.{ReadsDown}
use Rattle.log_law.specs.Laws.{Moment}
use Rattle.log_law.specs.Restarts.{IsSureRun}
use Rattle.log_law.specs.Tails.{then_on}
use Rattle.log_owner.specs.declared.opened.Opened.{Opened}
use Rattle.log_owner.specs.declared.opened.Progress.{Progress}
use Rattle.log_owner.specs.declared.opened.Progress.TheVariants as progress
use Rattle.log_owner.specs.declared.opening.Opening.{Opening}
use Rattle.log_owner.specs.declared.opening.Settling.{Settling}
use Rattle.log_owner.specs.declared.opening.Stage.TheVariants as stage
use Rattle.log_owner.specs.Opening as opens
use Rattle.log_tie.specs.Setting.{Setting}
use Rattle.node_base.specs.declared.effects.Effect.{Effect}
use Rattle.node_base.specs.declared.effects.Effect.TheVariants.{Does}
use Rattle.node_base.specs.declared.questions.Questions.{Questions}
use Rattle.token_protocol.specs.Basics.{In}
use Rattle.version_model.specs.declared.act.Act.TheVariants as act
use Rattle.wire_msg.specs.declared.packet.Do.{Do}
use Rattle.wire_msg.specs.declared.packet.Do.TheVariants.{Begin, Deliver, Tick}
use Rattle.wire_msg.specs.declared.packet.Packet.{Packet}
use Rattle.xfs_base.specs.declared.segment.SegName.{SegName}
use Rattle.run_laws.specs.reopening_law.Reopens.{IsOpened, Reopens, TellsApart}

-- The opening segment was in flight, with nothing in it, behind what was read back down to the horizon; it is settled by one thing that happens, and the log is
-- open with that chain.
pub record EndsByOne (g : Setting) (w v : Scene) (runs : Runs g w.net v.net) (o : Opening) (r : Opened) : Type 0 where
  pub settling : Settling
  pub settles : o.stage ≡ stage.Settling settling
  pub happens : Happens g w.net v.net
  pub one : runs ≡ On Begun happens
  pub writes : w.net.owner ≡ Writing settling.chain settling.log
  pub serves : v.net.owner ≡ Serves r.log
  pub own : (f : FlightState) → settling.log.flight ≡ Some f → f.segment.name.log ≡ g.log
  pub empty : (f : FlightState) → settling.log.flight ≡ Some f → f.segment.items ≡ []
  pub reads : ReadsDown w.net settling.low (record { segments = settling.chain; end = settling.log.end })
  pub opened : IsOpened settling.chain r.log r

-- of an opening that comes to this
abbrev pub EndsSo : (g : Setting) (c : ℕ) (o : Opening) → Progress → Type 0
EndsSo g c o (progress.Opening x) = Unit {0}
EndsSo g c o (progress.Lost seg) = Unit {0}
EndsSo g c o (progress.Opened r) =
    (w v : Scene) (last : ℕ) (runs : Runs g w.net v.net) → SeesStage g c w o.known last o.stage → SeesLog g c v r.log → ServesStraight runs
    → EndsByOne g w v runs o r

-- So each restart ends, by a packet or by time; a client's and the cleaner's alike.
abbrev pub OpeningsEndByOne : Type 0
OpeningsEndByOne =
    (g : Setting) (c : ℕ) (o : Opening) (q : Questions)
    → ((p : Packet) → EndsSo g c o (opens.opening_take o q p).progress) × EndsSo g c o (opens.on_tick o q).progress

-- It is the event that ends a restart there, where no restart that ended was doubtful, and contents tell items apart.
abbrev pub EndsAreReopenings : Type 0
EndsAreReopenings =
    (g : Setting) (w v : Scene) (runs : Runs g w.net v.net) (o : Opening) (r : Opened) (e : EndsByOne g w v runs o r) → g.doubts ≡ false → TellsApart g
    → (m : Moment g w.net) → IsSureRun (then_on m.run runs)
    → (x : Reopens g w.net v.net e.settling.chain e.settling.log r.log) × (x.moment ≡ m)

-- ---- a client

-- what an opening comes to in an event
abbrev pub comes_to : Opening → Questions → Do → Progress
comes_to o q (Deliver packet) = (opens.opening_take o q packet).progress
comes_to o q Tick = (opens.on_tick o q).progress
comes_to o q Begin = progress.Opening o

-- A client that opened its log serves then with the log that is open, and acts that it is back with the chain that was found, and no other.
pub record ComesBack (c : ℕ) (p : Progress) (s : Serving) (outs : List Effect) : Type 0 where
  pub opened : Opened
  pub comes : p ≡ progress.Opened opened
  pub log : s.log ≡ opened.log
  pub back : (chain : List SegName) → In (Does (act.Back c chain)) outs → chain ≡ opened.chain

abbrev pub ClientsComeBack : Type 0
ClientsComeBack =
    (c : ℕ) (client : AClient) (what : Do) (l : Lasting) (o : Opening) (s : Serving) → client.phase ≡ phase.Opening l o
    → (takes client what).state ≡ phase.Serving s → ComesBack c (comes_to o l.questions what) s (takes client what).outs
