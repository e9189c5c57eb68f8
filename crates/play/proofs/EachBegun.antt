-- A play begins each item once, at its line, and leaves none out.
use Rattle.std.proofs.Common.{◌≡◌, refl, ap, sym, ◌∙◌, ℕ, ◌+◌, true, false, cond, List, [], ◌∷◌, ◌++◌, length, filter, Option, Some, None, fold, slice_get, append_assoc, append-nil, arith}
use Rattle.std.specs.List.{cons_option}
use Rattle.script_text.specs.declared.script.Line.{Line}
use Rattle.script_text.specs.declared.script.Script.{Script}
use Rattle.version_model.specs.declared.work.Work.{Work}
use Rattle.wire_msg.specs.declared.packet.Do.{Do}
use Rattle.wire_msg.specs.declared.packet.Packet.{Packet}
use Rattle.wire_msg.specs.NodeStep.{NodeStep}
use Rattle.xfs_base.specs.declared.node.NodeId.{NodeId}
use Rattle.xfs_base.specs.declared.setup.Setup.{Setup}
use Rattle.xfs_base.specs.Nodes.{same_node}
use Rattle.world_base.specs.declared.event.Event.{Event}
use Rattle.world_base.specs.declared.event.Event.TheVariants as events
use Rattle.world_base.specs.Items.{actor_of, is_for, is_for_actor, items_of, works_of}
use Rattle.world_base.specs.Runs.{BeginsAll, begun_in}
use Rattle.play.specs.declared.player.Player.{Player}
use Rattle.play.specs.Plays.{actors_of, player_begin, delivered, player_happen, manner_of, opens, opens_for, player_play, plays_line, player_start, ticks, with_one_more}
use Rattle.play.specs.Plays as plays
use Rattle.play.proofs.Manners.{line_good}

pub more_begun : (es fs : List Event) → begun_in (es ++ fs) ≡ begun_in es ++ begun_in fs
more_begun [] fs = refl
more_begun (events.Begin node ∷ es) fs = ap (λ nodes. node ∷ nodes) (more_begun es fs)
more_begun (events.Deliver packet ∷ es) fs = more_begun es fs
more_begun (events.Tick node ∷ es) fs = more_begun es fs

module _ {N : Type 0} (step : N → Do → NodeStep N) where
  abbrev pub begun_by : Player N → List NodeId
  begun_by p = begun_in p.events

  happens_begins : (p : Player N) (event : Event) → begun_by (player_happen step p event) ≡ begun_by p ++ begun_in (event ∷ [])
  unfolding player_happen
  happens_begins p event = more_begun p.events (event ∷ [])

  -- what is no Begin begins nothing
  tick_begins : (p : Player N) (node : NodeId) → begun_by (ticks step p node) ≡ begun_by p
  unfolding ticks
  tick_begins p node = happens_begins p (events.Tick node) ∙ append-nil (begun_by p)

  delivers_begins : (p : Player N) (number : ℕ) (packet : Option Packet) → begun_by (plays.delivers step p number packet) ≡ begun_by p
  delivers_begins p number None = refl
  delivers_begins p number (Some packet) = happens_begins p (events.Deliver packet) ∙ append-nil (begun_by p)

  delivery_begins : (p : Player N) (number : ℕ) → begun_by (delivered step p number) ≡ begun_by p
  unfolding delivered
  delivery_begins p number = delivers_begins p number (slice_get p.world.sent number)

  -- a line begins the item that it is
  opens_begins : (p : Player N) (work : Work) (actor : Option NodeId) (rest : List NodeId)
      → begun_by (opens_for step p work actor) ++ rest ≡ begun_by p ++ cons_option actor rest
  unfolding player_begin
  opens_begins p work None rest = refl
  opens_begins p work (Some node) rest =
      ap (λ nodes. nodes ++ rest) (happens_begins (with_one_more p) (events.Begin node)) ∙ append_assoc (begun_by p) (node ∷ []) rest

  line_begins : (p : Player N) (line : Line) (rest : List NodeId)
      → begun_by (plays_line step p line) ++ rest ≡ begun_by p ++ cons_option (actor_of line.work) rest
  unfolding opens
  line_begins p line rest =
      let q = opens_for step p line.work (actor_of line.work) in
      let played = line_good (manner_of step) (λ r. begun_by r ≡ begun_by q) (λ r s same. same) (λ r number same. delivery_begins r number ∙ same)
      (λ r node same. tick_begins r node ∙ same) p line refl in
      ap (λ nodes. nodes ++ rest) played ∙ opens_begins p line.work (actor_of line.work) rest

  lines_begin : (p : Player N) (lines : List Line) → begun_by (fold (plays_line step) p lines) ≡ begun_by p ++ actors_of lines
  lines_begin p [] = sym (append-nil (begun_by p))
  lines_begin p (l ∷ lines) = lines_begin (plays_line step p l) lines ∙ line_begins p l (actors_of lines)

-- the items of one node among them
for_one : (node : NodeId) (actor : Option NodeId) (actors : List NodeId)
    → length (filter (λ begun. same_node begun node) (cons_option actor actors)) ≡ cond (is_for_actor node actor) 1 0 + length
    (filter (λ begun. same_node begun node) actors)
for_one node None actors = omega arith
for_one node (Some actor) actors =
    elim (same_node actor node) as
    (λ t. length (cond t (actor ∷ filter (λ begun. same_node begun node) actors) (filter (λ begun. same_node begun node) actors)) ≡ cond t 1 0 + length
    (filter (λ begun. same_node begun node) actors)) [
      | true ↦ omega arith
      | false ↦ omega arith
    ]

pub for_each : (node : NodeId) (lines : List Line) → length (filter (λ begun. same_node begun node) (actors_of lines)) ≡ length (items_of lines node)
for_each node [] = refl
for_each node (l ∷ lines) =
    let mine = filter (is_for node) (works_of lines) in
    for_one node (actor_of l.work) (actors_of lines)
    ∙ ap (λ count. cond (is_for node l.work) 1 0 + count) (for_each node lines)
    ∙ elim (is_for node l.work) as (λ t. cond t 1 0 + length mine ≡ length (cond t (l.work ∷ mine) mine)) [
      | true ↦ omega arith
      | false ↦ omega arith
    ]

-- the items are begun in the order of their lines
pub play_begins : {N : Type 0} (step : N → Do → NodeStep N) (first : NodeId → Setup → List Work → N) (script : Script)
    → begun_in (player_play step first script).events ≡ actors_of script.lines
unfolding player_play
play_begins step first script = lines_begin step (player_start first script) script.lines

pub play_begins_all : {N : Type 0} (step : N → Do → NodeStep N) (first : NodeId → Setup → List Work → N) (script : Script)
    → BeginsAll script.lines (player_play step first script).events
play_begins_all step first script node =
    ap (λ begun. length (filter (λ one. same_node one node) begun)) (play_begins step first script) ∙ for_each node script.lines
