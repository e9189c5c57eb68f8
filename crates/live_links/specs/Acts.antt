-- What one act of a cell does.
use Rattle.std.specs.Prelude.{◌≡◌, ℕ, zero, suc, ◌≤◌, Bool, true, false, List, [], ◌∷◌, ◌++◌, length, map, Option, Some, None}
use Rattle.std.specs.List.{count_by}
use Rattle.wire_msg.specs.declared.packet.Do.{Do}
use Rattle.wire_msg.specs.declared.packet.Do.TheVariants.{Begin, Deliver, Tick}
use Rattle.wire_msg.specs.NodeStep.{NodeStep}
use Rattle.wire_msg.specs.Kinds.{is_tick}
use Rattle.xfs_base.specs.declared.node.NodeId.{NodeId}
use Rattle.world_base.specs.declared.cluster.Cluster.{Cluster}
use Rattle.world_base.specs.declared.due.Due.{Due}
use Rattle.world_base.specs.NextWorld.{clock_after, sent_at}
use Rattle.journals.specs.declared.moment.Moment.{Moment}
use Rattle.journals.specs.Journals.{MayBegin, last_clock, replayed, sent_in, whats}
use Rattle.live_links.specs.declared.letter.Letter.{Letter}
use Rattle.live_links.specs.Ends.{AreStill, In, Out, Sends, TookOne, letters_of}

-- what a turn leaves: the node's journal, and what the node sent in it, as letters
pub record AfterTurn : Type 0 where
  pub moments : List Moment
  pub letters : List Letter

-- a cell, as what happened to its node and its ends
pub record CellView : Type 0 where
  pub moments : List Moment
  pub outs : List Out
  pub ins : List In

-- how often time passed
abbrev pub ticks : List Do → ℕ
ticks whats = count_by is_tick whats

-- what a cell took from its rings in a turn: a packet that comes is what one end gave in this act, and for nothing else is one taken
abbrev pub TakesFor : Do → ℕ → ℕ → List In → List In → Type 0
TakesFor Begin from number ins new = AreStill ins new
TakesFor (Deliver x) from number ins new = TookOne ins (record { from = from; number = number; packet = x }) new
TakesFor Tick from number ins new = AreStill ins new

module _ {N : Type 0} (step : N → Do → NodeStep N) (first : N) where
  -- the turn of a node with this journal, whose clock is then this: what the node sends and does is in its journal, and what it sends is numbered on from all
  -- that it sent before; past the end of all clocks nothing happens
  abbrev pub turned_at : ℕ → Do → ℕ → ℕ → List Moment → Option ℕ → AfterTurn
  turned_at place what from number before None = record { moments = before; letters = [] }
  turned_at place what from number before (Some clock) = record {
    moments = before ++ record {
      clock = clock;
      what = what;
      from = from;
      number = number;
      packets = map (sent_at clock) (step (replayed step first (whats before)) what).packets;
      acts = (step (replayed step first (whats before)) what).acts;
    } ∷ [];
    letters = letters_of place (length (sent_in step first before)) (map (sent_at clock) (step (replayed step first (whats before)) what).packets);
  }

  abbrev pub turned : ℕ → Do → ℕ → ℕ → List Moment → AfterTurn
  turned place what from number before = turned_at place what from number before (clock_after (last_clock 0 before) what)

  -- a turn of a cell: what happened is in its journal, and what its node sent in it was pushed on its rings
  pub record Turns (c : Cluster) (place : ℕ) (what : Do) (from number : ℕ) (old new : CellView) : Type 0 where
    pub moments : new.moments ≡ (turned place what from number old.moments).moments
    pub pushed : Sends c old.outs (turned place what from number old.moments).letters new.outs

  -- an act is one turn, or nothing changed in it
  abbrev pub Acted : Cluster → ℕ → Bool → CellView → CellView → Type 0
  Acted c place true old new = (what : Do) × (from : ℕ) × (number : ℕ) × TakesFor what from number old.ins new.ins × Turns c place what from number old new
  Acted c place false old new = (new.moments ≡ old.moments) × (new.outs ≡ old.outs) × AreStill old.ins new.ins

  -- so many acts, one after the other
  abbrev pub Acts : Cluster → ℕ → ℕ → CellView → CellView → Type 0
  Acts c place zero old new = old ≡ new
  Acts c place (suc count) old new = (mid : CellView) × (moved : Bool) × Acts c place count old mid × Acted c place moved mid new

  module _ (c : Cluster) (place : ℕ) (node : NodeId) (dues : List Due) where
    -- how a cell chooses what it does in an act
    pub record Chooses (idle may_begin moved : Bool) (old new : CellView) : Type 0 where
      -- where its worker is idle time passes at its node, and it does nothing else, whatever waits for it
      pub passes : idle ≡ true → AreStill old.ins new.ins × Turns c place Tick 0 0 old new
      -- elsewhere it begins its next item where that is due and may begin
      pub begins : idle ≡ false → may_begin ≡ true → MayBegin step node first dues (whats old.moments) → AreStill old.ins new.ins × Turns c place Begin 0 0 old new
      -- no time passes there
      pub waits : idle ≡ false → ticks (whats new.moments) ≡ ticks (whats old.moments)
      -- and it rests only where its worker isn't, and no item is due that may begin
      pub rests : moved ≡ false → (idle ≡ false) × (may_begin ≡ true → MayBegin step node first dues (whats old.moments) → ⊥)

    -- a visit at a cell: a first act, and behind one that was a turn so many more at most, in which no time passes; so time passes in the first turn of a visit of
    -- an idle worker, and nowhere else
    pub record Visits (idle : Bool) (more : ℕ) (moved : Bool) (old new : CellView) : Type 0 where
      pub mid : CellView
      pub acted : Acted c place moved old mid
      pub chosen : Chooses idle true moved old mid
      pub still : moved ≡ false → new ≡ mid
      pub count : ℕ
      pub most : count ≤ more
      pub later : Acts c place count mid new
      pub waits : ticks (whats new.moments) ≡ ticks (whats mid.moments)
