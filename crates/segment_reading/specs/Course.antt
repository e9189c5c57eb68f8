-- A reading over any course of events, and when it is lost.
use Rattle.std.specs.Prelude.{◌≡◌, ℕ, ◌<◌, Bool, ◌==◌, ◌&&◌, if◌then◌else◌, List, [], ◌∷◌, length}
use Rattle.group_map.specs.declared.group.Group.{Group}
use Rattle.group_map.specs.GroupMapState.{GroupMapState}
use Rattle.stripe_code.specs.declared.round.Answer.{Answer}
use Rattle.stripe_code.specs.declared.round.Told.{Told}
use Rattle.stripe_code.specs.Round.{RoundSoFar, asks, is_enough, missing_in, round_take, told_fits}
use Rattle.segment_reading.specs.declared.reading.Next.{Next}
use Rattle.segment_reading.specs.declared.reading.Next.TheVariants.{Wait, Ask, Again, Read, Lost}
use Rattle.segment_reading.specs.declared.reading.Stage.{Stage}
use Rattle.segment_reading.specs.declared.reading.Stage.TheVariants.{Asking, Between, Doubted, Over}
use Rattle.segment_reading.specs.declared.target.Target.{Target}
use Rattle.segment_reading.specs.Lost.{missing_twice}
use Rattle.segment_reading.specs.Reading.{ReadingState, Step, reading_start, name_fits, reading_take, on_confirmed, servers_of}

-- a server told something in answer to a question, where the reader knew these groups; or the reader's own question was answered alike, and a further
-- one is drawn
pub data Event : Type 0 where
  Answered : GroupMapState → ℕ → ℕ → Told → Event
  Alike : ℕ → Event

abbrev pub transition : ReadingState → Event → Step
transition r (Answered groups ask server told) = reading_take r groups ask server told
transition r (Alike ask) = on_confirmed r ask

-- what was told in the present round: its question, and of each server of the group the first answer to it that can be of the segment
pub record Heard : Type 0 where
  pub question : ℕ
  pub answers : List Answer

-- the round over a group in which these answers count
abbrev pub round_of : Group → List Answer → RoundSoFar
round_of group answers = record { n = length group.members; parity = group.parity; servers = servers_of group; answers = answers }

-- it answers the question of the round, a server of the group tells it, and a fragment can be of the segment
abbrev pub can_be : Target → Group → Heard → ℕ → ℕ → Told → Bool
can_be target group h ask server told =
    (ask == h.question) && asks (round_of group h.answers) server && (name_fits target told && told_fits (round_of group h.answers) told)

-- a further round begins with its question
abbrev pub at_question : ℕ → Next → Heard → Heard
at_question ask Wait h = h
at_question ask Ask h = record { question = ask; answers = [] }
at_question ask Again h = h
at_question ask (Read s) h = h
at_question ask Lost h = h

abbrev pub heard_after : Target → Group → Event → Next → Heard → Heard
heard_after target group (Answered groups ask server told) next h =
    record h { answers = if can_be target group h ask server told then (round_take (round_of group h.answers) server told).answers else h.answers }
heard_after target group (Alike ask) next h = at_question ask next h

-- the pairs that were Missing in a round in which this was told: none where it makes up a text
abbrev pub missing_of : Group → Heard → List (ℕ × ℕ)
missing_of group h = if is_enough (round_of group h.answers) then [] else missing_in h.answers

-- the reading; and, from the events and what the reader was to do next alone, what was told in the present round, and the pairs that were Missing
-- in each round that ended without the segment, the last round first
pub record Course : Type 0 where
  pub reading : ReadingState
  pub heard : Heard
  pub ended : List (List (ℕ × ℕ))

abbrev pub ended_after : Next → List (ℕ × ℕ) → List (List (ℕ × ℕ)) → List (List (ℕ × ℕ))
ended_after Wait pairs ended = ended
ended_after Ask pairs ended = ended
ended_after Again pairs ended = pairs ∷ ended
ended_after (Read s) pairs ended = ended
ended_after Lost pairs ended = ended

abbrev pub after_step : Group → Step → Heard → List (List (ℕ × ℕ)) → Course
after_step group s heard ended = record { reading = s.state; heard = heard; ended = ended_after s.next (missing_of group heard) ended }

abbrev pub after_event : Target → Group → Event → Course → Course
after_event target group e c =
    let s = transition c.reading e in after_step group s (heard_after target group e s.next c.heard) c.ended

abbrev pub course : Target → Group → Course → List Event → Course
course target group c [] = c
course target group c (e ∷ es) = course target group (after_event target group e c) es

abbrev pub course_of : Target → Group → ℕ → List Event → Course
course_of target group ask events =
    course target group (record { reading = reading_start target group ask; heard = record { question = ask; answers = [] }; ended = [] }) events

-- in the last two rounds, one after the other, more of the same pairs were Missing than the parity makes good
abbrev pub MissedTwice : ℕ → List (List (ℕ × ℕ)) → Type 0
MissedTwice parity [] = ⊥
MissedTwice parity (now ∷ []) = ⊥
MissedTwice parity (now ∷ before ∷ rest) = parity < length (missing_twice before now)

-- what the question of the reader decides, when it is answered alike
abbrev pub Decides : Stage → Next → Type 0 → Type 0
Decides Asking next missed = next ≡ Wait
Decides Between next missed = (next ≡ Ask) × (missed → ⊥)
Decides Doubted next missed = (next ≡ Lost) × missed
Decides Over next missed = next ≡ Wait

-- Over any course: where the reader's own question is out and is answered alike, the segment is lost exactly where the last two rounds missed it;
-- else a further round begins. While a round is on, or when all is over, nothing is lost.
abbrev pub IsLostExactly : Type 0
IsLostExactly = (target : Target) (group : Group) (ask next : ℕ) (events : List Event) →
    let c = course_of target group ask events in Decides c.reading.stage (transition c.reading (Alike next)).next (MissedTwice group.parity c.ended)

-- Nothing that a server tells loses the segment, whichever question it answers.
abbrev pub AnswersLoseNothing : Type 0
AnswersLoseNothing =
    (r : ReadingState) (groups : GroupMapState) (ask server : ℕ) (told : Told) → (reading_take r groups ask server told).next ≡ Lost → ⊥

-- What answers another question than that of the present round changes nothing.
abbrev pub OtherAnswersChangeNothing : Type 0
OtherAnswersChangeNothing =
    (r : ReadingState) (groups : GroupMapState) (ask server : ℕ) (told : Told) → (ask ≡ r.ask → ⊥)
    → reading_take r groups ask server told ≡ record { state = r; next = Wait }
