-- Runs that exist: that the laws speak of something. Each record says that some run reaches a state in which all this was done, and which steps it takes.
use Rattle.std.specs.Prelude.{◌≡◌, ℕ, List, [], ◌∷◌, ◌++◌}
use Rattle.log_protocol.specs.Phase
use Rattle.log_protocol.specs.Tables.{In}
use Rattle.log_protocol.specs.State.{State}
use Rattle.log_protocol.specs.StepKinds.{Kind, kinds}
use Rattle.log_protocol.specs.StepKinds.Kind.{Accept, Accept_again, Begin, Crash, Cut, Delete, Drop, Fence, Fill, Hear, Learn, Lose, Note, Open, Pick_kept, Pick_none, Pick_prior, Raise, Restart, Restripe, Seal, Send, Serve, Settle, Tell}
use Rattle.log_protocol.specs.LogLaws.{Reached}

-- the first boot files a segment, writes the next, restripes it and falls; the second boot adopts that one, while a horizon passes the segment before
-- it, and serves; then a segment is dropped, and a server lost and filled again
abbrev pub adopted_steps : List Kind
adopted_steps =
    Seal ∷ Send ∷ Accept ∷ Note ∷ Settle ∷ Seal ∷ Restripe ∷ Send ∷ Accept ∷ Accept_again ∷ Crash ∷ Begin ∷ Fence ∷ Pick_kept ∷ Raise ∷ Cut ∷ Open ∷ Send
    ∷ Accept ∷ Note ∷ Serve ∷ Drop ∷ Delete ∷ Tell ∷ Lose ∷ Hear ∷ Learn ∷ Fill ∷ []

-- A tail is restriped, the owner falls, and its reopening adopts the later attempt and serves, while the horizon passes a segment that it has read.
-- Then this segment is dropped and deleted, and a server loses its disk, is heard and learned of, and fills its shelf again.
pub record TailAdopted : Type 0 where
  pub state : State
  pub reached : Reached state
  pub steps : kinds reached.run ≡ adopted_steps
  pub clean : state.clean ≡ 1
  pub serving : state.phase ≡ Phase.serving
  -- the second boot, with three segments filed
  pub boot : state.incarnation ≡ 2
  pub head : state.head ≡ 3
  -- two attempts of one segment were booked, and the later is filed
  pub first_attempt : ℕ
  pub second_attempt : ℕ
  pub same_seq : state.seq_of first_attempt ≡ state.seq_of second_attempt
  pub both_booked : (state.booked first_attempt ≡ 1) × (state.booked second_attempt ≡ 1)
  pub one_filed : (state.filed first_attempt ≡ 0) × (state.filed second_attempt ≡ 1)
  -- another is dropped, and marked as deleted no more, since its server was lost
  pub dropped : state.dropped 1 ≡ 1
  pub lost : state.generation 0 ≡ 2
  -- and the adopted one is held again, by a server of a later generation
  pub filled : state.holds 0 second_attempt ≡ 1

-- a segment of two members reaches one of them; the owner falls, and the second boot discards it and serves; then a restart in the form of a manager's
abbrev pub discarded_steps : List Kind
discarded_steps =
    Seal ∷ Send ∷ Accept ∷ Note ∷ Settle ∷ Seal ∷ Send ∷ Accept ∷ Crash ∷ Begin ∷ Fence ∷ Fence ∷ Pick_prior ∷ Open ∷ Send ∷ Accept ∷ Note ∷ Serve ∷ Crash
    ∷ Restart ∷ []

-- A tail that one of its members never held is discarded: the opening segment takes its place, after the segment before it. A restart in the form of
-- a manager's follows.
pub record TailDiscarded : Type 0 where
  pub served : State
  pub reached : Reached served
  pub clean : served.clean ≡ 1
  pub serving : served.phase ≡ Phase.serving
  pub head : served.head ≡ 2
  -- the tail was booked and a server held it; it isn't filed, and another segment of its seq is
  pub tail : ℕ
  pub instead : ℕ
  pub same_seq : served.seq_of tail ≡ served.seq_of instead
  pub held : served.holds 0 tail ≡ 1
  pub one_filed : (served.filed tail ≡ 0) × (served.filed instead ≡ 1)
  -- a later state, in which the owner began a chain of its own
  pub restarted : State
  pub later : Reached restarted
  pub steps : kinds later.run ≡ discarded_steps
  pub again : (restarted.phase ≡ Phase.serving) × (restarted.end ≡ 0)

-- an owner falls before it wrote anything, and its second boot serves
abbrev pub empty_steps : List Kind
empty_steps = Crash ∷ Begin ∷ Fence ∷ Pick_none ∷ Open ∷ Send ∷ Accept ∷ Note ∷ Serve ∷ []

-- An owner that falls before it wrote anything opens an empty log and serves.
pub record EmptyOpened : Type 0 where
  pub state : State
  pub reached : Reached state
  pub steps : kinds reached.run ≡ empty_steps
  pub clean : state.clean ≡ 1
  pub serving : state.phase ≡ Phase.serving
  pub boot : state.incarnation ≡ 2
  pub head : state.head ≡ 1

-- the steps of the three runs, one run after another
abbrev pub all_steps : List Kind
all_steps = adopted_steps ++ (discarded_steps ++ empty_steps)

-- Every kind of step is taken: no guard is one that nothing meets.
abbrev pub EveryStepTaken : Type 0
EveryStepTaken = (k : Kind) → In k all_steps
