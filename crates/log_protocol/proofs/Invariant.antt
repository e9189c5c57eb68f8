-- Read this file first: the invariant of one log, group by group, in the order in which they are proved.
--
-- Shelves (ShelfInvariant.antt), in every run and whatever is lost. Each group stands on the ones named, and on itself:
--   1 Generations   who knows a server's generation knows one that it has reached        on nothing
--   2 Boots         which names the present boot has given; so a new name is new          on nothing
--   3 Texts         what is kept or under way of a name is of the text that was booked    on 2
--   4 Lists         what a Fenced says of its sender's shelf stays true                   on 1, 3
--   5 Horizons      how the remembered least horizons stand to each other                 on nothing
--   6 Contents      all attempts of one segment tell the same                             on 2
--   7 Secured       a member once seen to hold its fragment holds it or lost its disk     on 1, 2, 3, 4
--   8 Priors        a prior, an end and a base are secured segments of the seq before     on 2, 4, 5, 7
--   9 Filed         each filed segment is booked and secured                              on 2, 5, 7, 8
--
-- The line, while no doubtful opening has served. Its three groups stand on the shelves and meet at one step, that an opening serves:
--  10 Line          the filed segments are one line up to the head                        (Serving.antt: on 12)
--  11 Spans         who lacks the head since the span began is hurt, and lists say so     on 10 (Serving.antt: on 12)
--  12 Rising        openings that haven't served come after the head, and lead to it      on 10, 11; under the premise on losses
--
-- A group's file has its facts, each with its plain meaning, and below them why each kind of step keeps them: a clause of step_keeps_GROUP (the last is of
-- all steps whose guards aren't needed), or in the groups of the line a lemma STEP_keeps_GROUP. Each takes the guard of its step, the groups that it stands
-- on and its own, nothing else: so each layer is inductive with those below it. Induction.antt puts them together over runs; LogTheorems.antt, StateLaws.antt and StepLaws.antt draw the laws.
use Rattle.std.proofs.Common.{◌≡◌}
use Rattle.log_protocol.specs.State.{State}
use Rattle.log_protocol.specs.OpeningSteps.{Undoubted}
use Rattle.log_protocol.proofs.ShelfInvariant.{ShelfInvariant}
use Rattle.log_protocol.proofs.Line.{Line}
use Rattle.log_protocol.proofs.Spans.{Spans}
use Rattle.log_protocol.proofs.Rising.{Rising}

pub record Invariant (w : State) : Type 0 where
  pub shelf : ShelfInvariant w
  pub line : w.clean ≡ 1 → Line w
  pub spans : w.clean ≡ 1 → Spans w
  pub rising : w.clean ≡ 1 → Undoubted w → Rising w
