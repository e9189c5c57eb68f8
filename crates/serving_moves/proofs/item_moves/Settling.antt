-- Once an opening has read its log, and its first segment is in flight, it says of no segment that it is lost.
use Rattle.std.proofs.Common.{List, [], ◌∷◌, Option, Some, None, map}
use Rattle.std.specs.List.{AllByRecursion}
use Rattle.client_log.specs.declared.input.In.{In as LogIn}
use Rattle.client_log.specs.declared.output.Out.{Out as LogOut}
use Rattle.client_log.specs.declared.output.Out.TheVariants as log_out
use Rattle.client_log.specs.Transition as log
use Rattle.log_owner.specs.declared.known.Known.{Known}
use Rattle.log_owner.specs.declared.opening.Opening.{Opening}
use Rattle.log_owner.specs.declared.opening.Settling.{Settling}
use Rattle.log_owner.specs.declared.opening.Stage.{Stage}
use Rattle.log_owner.specs.declared.opening.Stage.TheVariants as stage
use Rattle.log_owner.specs.Opened.{filed}
use Rattle.log_owner.specs.Opening.{Moved, Went, logged, opening_take, on_tick, known_go_on, known_write, written, send_one}
use Rattle.node_base.specs.declared.effects.Effect.{Effect}
use Rattle.node_base.specs.declared.effects.Effect.TheVariants.{Send, Answer as Answers, Lose, Does}
use Rattle.node_base.specs.declared.questions.Questions.{Questions}
use Rattle.segment_format.specs.declared.segment.Segment.{Segment}
use Rattle.wire_msg.specs.declared.packet.Packet.{Packet}
use Rattle.xfs_base.specs.declared.segment.End.{End}
use Rattle.xfs_base.proofs.Alls.{all_append, all_map}
use Rattle.serving_moves.proofs.item_moves.Keeping.{all_steps}
use Rattle.node_moves.proofs.OpeningWalk.{Any, Walk, packet_so, tick_so}
use Rattle.serving_moves.specs.item_moves.Events.{log_losses}
use Rattle.serving_moves.specs.item_moves.Moves.{AllPlain}
use Rattle.serving_moves.specs.item_moves.Moves.Losses.{Silent, Reading}

-- ---- effects that say of no segment that it is lost

abbrev pub IsNoLoss : Effect → Type 0
IsNoLoss (Lose name) = ⊥
IsNoLoss _ = Unit {0}

abbrev pub NoLosses : List Effect → Type 0
NoLosses outs = AllByRecursion IsNoLoss outs

plain_without : (outs : List Effect) → AllPlain Reading outs → NoLosses outs → AllPlain Silent outs
plain_without [] plain none = tt
plain_without (Send to b ∷ outs) plain none = (tt, plain_without outs plain.1 none.1)
plain_without (Answers item a ∷ outs) plain none = absurd plain.0
plain_without (Lose name ∷ outs) plain none = absurd none.0
plain_without (Does a ∷ outs) plain none = (plain.0, plain_without outs plain.1 none.1)

-- it losses its log still, or none of these says that a segment is lost
abbrev pub UnlessScans : Stage → List Effect → Type 0
UnlessScans (stage.Scanning s) outs = Unit {0}
UnlessScans (stage.Settling s) outs = NoLosses outs

pub unless_scans : (at : Stage) (outs : List Effect) → NoLosses outs → UnlessScans at outs
unless_scans (stage.Scanning s) outs none = tt
unless_scans (stage.Settling s) outs none = none

pub stage_plain : (at : Stage) (outs : List Effect) → AllPlain Reading outs → UnlessScans at outs → AllPlain (log_losses at) outs
stage_plain (stage.Scanning s) outs plain unless = plain
stage_plain (stage.Settling s) outs plain none = plain_without outs plain none

-- ---- the first segment

abbrev Quietly : Moved → Type 0
Quietly m = NoLosses m.outs

wrote_none : (before : Option End) (x : LogOut) → NoLosses (send_one before x).outs
unfolding send_one
wrote_none before (log_out.Send fragment member) = (tt, tt)
wrote_none before (log_out.Settled end rows) = tt

opens_none : (k : Known) (s : Settling) (settled : Option End) → Quietly (known_go_on k s settled)
opens_none k s None = tt
opens_none k s (Some end) = all_append IsNoLoss (map filed s.chain) _ (all_map IsNoLoss filed (λ (x : Segment). tt) s.chain) (tt, tt)

logged_none : (k : Known) (s : Settling) (r : log.Done) → Quietly (logged k s r)
logged_none k s r =
    all_append IsNoLoss (written r.outs).outs (known_go_on k (record s { log = r.state }) (written r.outs).state).outs
    (all_steps send_one IsNoLoss wrote_none None r.outs)
    (opens_none k (record s { log = r.state }) (written r.outs).state)

writes_none : (k : Known) (s : Settling) (i : LogIn) → Quietly (known_write k s i)
unfolding known_write
writes_none k s i = logged_none k s (log.transition s.log i)

-- ---- the events

abbrev So : Stage → Went → Type 0
So at w = UnlessScans at w.effects

walk : Walk Any (λ k q at w. So at w)
walk = record {
  rests = λ o q. unless_scans o.stage [] tt;
  asks = λ o q. unless_scans o.stage _ (tt, tt);
  scan = λ k q s i comes. tt;
  log = λ k q s i heard. writes_none k s i;
  welcome = λ from k q s m own said. tt;
  newer = λ from k news q at w said fact. fact;
}

pub tick_settles : (o : Opening) (q : Questions) → UnlessScans o.stage (on_tick o q).effects
tick_settles o q = tick_so Any (λ k q at w. So at w) walk o q

pub packet_settles : (o : Opening) (q : Questions) (p : Packet) → UnlessScans o.stage (opening_take o q p).effects
packet_settles o q p = packet_so Any (λ k q at w. So at w) walk o q p tt
