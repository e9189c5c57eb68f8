-- The events of a play are a run of its script.
use Rattle.std.proofs.Common.{◌≡◌, refl, subst, sym, ap, ℕ, List, [], ◌∷◌, ◌++◌, Option, Some, None, slice_get}
use Rattle.script_text.specs.declared.script.Line.{Line}
use Rattle.script_text.specs.declared.script.Script.{Script}
use Rattle.version_model.specs.declared.work.Work.{Work}
use Rattle.wire_msg.specs.declared.packet.Do.{Do}
use Rattle.wire_msg.specs.declared.packet.Packet.{Packet}
use Rattle.wire_msg.specs.NodeStep.{NodeStep}
use Rattle.xfs_base.specs.declared.node.NodeId.{NodeId}
use Rattle.xfs_base.specs.declared.setup.Setup.{Setup}
use Rattle.world_base.specs.declared.event.Event.{Event}
use Rattle.world_base.specs.declared.event.Event.TheVariants as events
use Rattle.world_base.specs.declared.world.World.{World}
use Rattle.world_base.specs.Items.{actor_of}
use Rattle.world_base.specs.NextWorld.{next_world, start_world}
use Rattle.world_base.specs.Runs.{IsRun, Leads, MayHappen}
use Rattle.play.specs.declared.player.Player.{Player}
use Rattle.play.specs.Plays.{player_begin, delivered, player_happen, manner_of, opens, opens_for, player_play, plays_line, player_start, ticks, with_one_more}
use Rattle.play.specs.Plays as plays
use Rattle.play.proofs.Manners.{all_keep, line_good}

module _ {N : Type 0} (step : N → Do → NodeStep N) (first : World N) where
  -- the events so far lead from the first world to the one that stands
  abbrev pub HasRun : Player N → Type 0
  HasRun p = Leads step first p.events p.world

  one_more : (w : World N) (es : List Event) (end : World N) (event : Event) → Leads step w es end → MayHappen end event
      → Leads step w (es ++ event ∷ []) (next_world step end event)
  one_more w [] end event led may = (subst (λ v. MayHappen v event) (sym led) may, ap (λ v. next_world step v event) led)
  one_more w (e ∷ es) end event led may = (led.0, one_more (next_world step w e) es end event led.1 may)

  happens_runs : (p : Player N) (event : Event) → MayHappen p.world event → HasRun p → HasRun (player_happen step p event)
  unfolding player_happen
  happens_runs p event may run = one_more first p.events p.world event run may

  begins_runs : (p : Player N) (node : NodeId) → HasRun p → HasRun (player_begin step p node)
  unfolding player_begin
  begins_runs p node run = happens_runs (with_one_more p) (events.Begin node) tt run

  tick_runs : (p : Player N) (node : NodeId) → HasRun p → HasRun (ticks step p node)
  unfolding ticks
  tick_runs p node run = happens_runs p (events.Tick node) tt run

  delivers_runs : (p : Player N) (number : ℕ) (packet : Option Packet) → slice_get p.world.sent number ≡ packet → HasRun p
      → HasRun (plays.delivers step p number packet)
  delivers_runs p number None got run = run
  delivers_runs p number (Some packet) got run = happens_runs p (events.Deliver packet) (number, got) run

  delivery_runs : (p : Player N) (number : ℕ) → HasRun p → HasRun (delivered step p number)
  unfolding delivered
  delivery_runs p number run = delivers_runs p number (slice_get p.world.sent number) refl run

  opens_for_runs : (p : Player N) (work : Work) (actor : Option NodeId) → HasRun p → HasRun (opens_for step p work actor)
  opens_for_runs p work None run = run
  opens_for_runs p work (Some node) run = begins_runs p node run

  opens_runs : (p : Player N) (work : Work) → HasRun p → HasRun (opens step p work)
  unfolding opens
  opens_runs p work run = opens_for_runs p work (actor_of work) run

  line_runs : (p : Player N) (line : Line) → HasRun p → HasRun (plays_line step p line)
  line_runs p line run = line_good (manner_of step) HasRun (λ q s led. led) delivery_runs tick_runs p line (opens_runs p line.work run)

pub play_runs : {N : Type 0} (step : N → Do → NodeStep N) (first : NodeId → Setup → List Work → N) (script : Script)
    → IsRun step first script (player_play step first script).events (player_play step first script).world
unfolding player_play
play_runs step first script =
    let start = start_world first script in
    all_keep (plays_line step) (HasRun step start) (line_runs step start) (player_start first script) script.lines refl
