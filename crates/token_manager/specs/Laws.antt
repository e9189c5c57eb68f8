-- What the laws of a slot say.
use Rattle.std.specs.Prelude.{◌≡◌, ◌↔◌, ℕ, ◌+◌, ◌<◌, ◌≤◌, Bool, true, false, not, List, [], ◌∷◌, ◌++◌, ◌⊎◌, All, length, map, Some, None}
use Rattle.std.specs.List.{range_with_len}
use Rattle.xfs_base.specs.Steps.{steps}
use Rattle.xfs_base.specs.declared.block.BlockId.{BlockId}
use Rattle.slot_beliefs.specs.declared.job.Holder.{Holder}
use Rattle.slot_beliefs.specs.declared.job.Wanted.{Wanted}
use Rattle.slot_beliefs.specs.declared.job.Awaited.{Awaited}
use Rattle.slot_beliefs.specs.declared.job.Job.{Job}
use Rattle.xfs_base.specs.Modes.{is_own}
use Rattle.slot_beliefs.specs.Beliefs.{others, share_of, wanted_share}
use Rattle.slot_beliefs.specs.Recalls.{stamp, job_at}
use Rattle.xfs_base.specs.declared.token.Stamp.{Stamp}
use Rattle.token_manager.specs.declared.output.Out.{Out}
use Rattle.token_manager.specs.declared.output.Out.TheVariants.{Grant, Forward, Recall, Applied, Live, Dead}
use Rattle.token_manager.specs.declared.input.In.{In}
use Rattle.token_manager.specs.declared.input.In.TheVariants.{Want, Gave, Deltas, Check, Tick}
use Rattle.token_manager.specs.SlotState.{SlotState}
use Rattle.token_manager.specs.Transition.{has_turns, is_dropped, transition}

-- the state after any inputs, in order
abbrev pub state_after : SlotState → List In → SlotState
state_after s inputs = (steps transition s inputs).state

-- each grant, forward and recall bears the turn after the one before, from this turn to that
abbrev pub CountsTurns : ℕ → ℕ → List Out → ℕ → Type 0
CountsTurns epoch turn [] last = last ≡ turn
CountsTurns epoch turn (Grant client block said inc req mode entry ∷ outs) last = (said ≡ stamp epoch (turn + 1)) × CountsTurns epoch (turn + 1) outs last
CountsTurns epoch turn (Forward client block said to inc req ver ∷ outs) last = (said ≡ stamp epoch (turn + 1)) × CountsTurns epoch (turn + 1) outs last
CountsTurns epoch turn (Recall client block said keep ∷ outs) last = (said ≡ stamp epoch (turn + 1)) × CountsTurns epoch (turn + 1) outs last
CountsTurns epoch turn (Applied log upto ∷ outs) last = CountsTurns epoch turn outs last
CountsTurns epoch turn (Live entry ∷ outs) last = CountsTurns epoch turn outs last
CountsTurns epoch turn (Dead ∷ outs) last = CountsTurns epoch turn outs last

-- an input other than a tick, which sends again what bears an earlier turn
abbrev pub IsNotTick : In → Type 0
IsNotTick (Want want end) = Unit {0}
IsNotTick (Gave client block stamp end) = Unit {0}
IsNotTick (Deltas log first upto rows) = Unit {0}
IsNotTick (Check block place) = Unit {0}
IsNotTick Tick = ⊥

-- the stamps of the grants, forwards and recalls among these, in order
abbrev pub stamps_in : List Out → List Stamp
stamps_in [] = []
stamps_in (Grant client block said inc req mode entry ∷ outs) = said ∷ stamps_in outs
stamps_in (Forward client block said to inc req ver ∷ outs) = said ∷ stamps_in outs
stamps_in (Recall client block said keep ∷ outs) = said ∷ stamps_in outs
stamps_in (Applied log upto ∷ outs) = stamps_in outs
stamps_in (Live entry ∷ outs) = stamps_in outs
stamps_in (Dead ∷ outs) = stamps_in outs

-- the stamps that an input gives out, where these are its outs: a tick gives out none
abbrev pub given_by : In → List Out → List Stamp
given_by (Want want end) outs = stamps_in outs
given_by (Gave client block stamp end) outs = stamps_in outs
given_by (Deltas log first upto rows) outs = stamps_in outs
given_by (Check block place) outs = stamps_in outs
given_by Tick outs = []

-- the stamps that inputs give out, in order
abbrev pub given_out : SlotState → List In → List Stamp
given_out s [] = []
given_out s (input ∷ inputs) = given_by input (transition s input).outs ++ given_out (transition s input).state inputs

-- so many stamps of an epoch, of the turns after this one, in order
abbrev pub stamps_after : ℕ → ℕ → ℕ → List Stamp
stamps_after epoch turn count = map (stamp epoch) (range_with_len (turn + 1) count)

-- the block is granted, or its copy is to be passed on, by one of these
abbrev pub HandsOut : BlockId → List Out → Type 0
HandsOut b [] = ⊥
HandsOut b (Grant client block said inc req mode entry ∷ outs) = (block ≡ b) ⊎ HandsOut b outs
HandsOut b (Forward client block said to inc req ver ∷ outs) = (block ≡ b) ⊎ HandsOut b outs
HandsOut b (Recall client block said keep ∷ outs) = HandsOut b outs
HandsOut b (Applied log upto ∷ outs) = HandsOut b outs
HandsOut b (Live entry ∷ outs) = HandsOut b outs
HandsOut b (Dead ∷ outs) = HandsOut b outs

-- no other client is believed to have anything of a block that one is believed to own
abbrev pub OwnsAlone : List (Holder × Bool) → Type 0
OwnsAlone beliefs = (block : BlockId) (client other : ℕ) → (client ≡ other → ⊥) → share_of beliefs block client + share_of beliefs block other ≤ 2

-- an unanswered recall to the client
abbrev pub Awaits : List Awaited → ℕ → Type 0
Awaits [] client = ⊥
Awaits (a ∷ rest) client = ((a.client ≡ client) × (a.end ≡ None)) ⊎ Awaits rest client

-- a client other than the asker that has more of the block than the want leaves to others
abbrev pub MustGiveWay : List (Holder × Bool) → Wanted → ℕ → Type 0
MustGiveWay beliefs want client = (client ≡ want.client → ⊥) × (2 < share_of beliefs want.block client + wanted_share want.mode)

-- the want awaits those who must give way, and nobody else
abbrev pub AwaitsJust : List (Holder × Bool) → Job → Type 0
AwaitsJust beliefs job = (client : ℕ) → Awaits job.awaited client ↔ MustGiveWay beliefs job.want client

-- owners are alone, and each want that waits awaits just those who must give way
pub record IsGuarded (s : SlotState) : Type 0 where
  pub alone : OwnsAlone s.beliefs
  pub awaits : (block : BlockId) (job : Job) → job_at s.jobs block ≡ Some job → AwaitsJust s.beliefs job

-- a recall that was given out in this epoch, under a turn from 1 to this one
pub record IsGivenOut (epoch turn : ℕ) (a : Awaited) : Type 0 where
  pub of_epoch : a.stamp.epoch ≡ epoch
  pub from_1 : 1 ≤ a.stamp.turn
  pub upto : a.stamp.turn ≤ turn

-- each recall of a want that waits was given out in the epoch of the slot, under a turn up to the last
abbrev pub RecallsAreGivenOut : SlotState → Type 0
RecallsAreGivenOut s = (block : BlockId) (job : Job) → job_at s.jobs block ≡ Some job → All (IsGivenOut s.epoch s.turn) job.awaited

-- ---- wants

-- the want waits for its block
abbrev pub WaitsAt : SlotState → BlockId → Wanted → Type 0
WaitsAt s block want = (awaited : List Awaited) × (job_at s.jobs block ≡ Some (record { want = want; awaited = awaited }))

-- the answer to this very request of the asker
abbrev pub IsAnswerTo : Wanted → ℕ → BlockId → ℕ → ℕ → Type 0
IsAnswerTo want client block inc req = (client ≡ want.client) × (block ≡ want.block) × (inc ≡ want.inc) × (req ≡ want.req)

-- the want is answered by one of these: its block is granted to the asker, or another client is told to pass a copy on to it
abbrev pub IsAnswered : Wanted → List Out → Type 0
IsAnswered want [] = ⊥
IsAnswered want (Grant client block said inc req mode entry ∷ outs) = IsAnswerTo want client block inc req ⊎ IsAnswered want outs
IsAnswered want (Forward client block said to inc req ver ∷ outs) = IsAnswerTo want to block inc req ⊎ IsAnswered want outs
IsAnswered want (Recall client block said keep ∷ outs) = IsAnswered want outs
IsAnswered want (Applied log upto ∷ outs) = IsAnswered want outs
IsAnswered want (Live entry ∷ outs) = IsAnswered want outs
IsAnswered want (Dead ∷ outs) = IsAnswered want outs

-- a want that is no cause to be dropped, where turns are left for its answer and its recalls
pub record IsTaken (s : SlotState) (want : Wanted) (end : ℕ) : Type 0 where
  pub sound : is_dropped s want end ≡ false
  pub turns : has_turns s.turn (1 + length (others s.beliefs want.block want.client (not (is_own want.mode)))) ≡ true
