-- Over any course of a reading: what is kept are the pairs of the last round that ended, and it is doubted exactly where the
-- last two missed the segment.
use Rattle.std.proofs.Common.{◌≡◌, ℕ, ◌≤◌, Bool, true, false, List, [], ◌∷◌, ◌++◌, Option, Some, None, length, refl, sym, ap, subst, arith}
use Rattle.std.proofs.lemmas.Bool.{ltb-true, ltb-false}
use Rattle.std.specs.Prelude.{nat_lt, if◌then◌else◌, unwrap_or}
use Rattle.group_map.specs.declared.group.Group.{Group}
use Rattle.group_map.specs.GroupMapState.{GroupMapState}
use Rattle.segment_format.specs.declared.segment.Segment.{Segment}
use Rattle.segment_format.specs.ReadingItems.{answer_of}
use Rattle.stripe_code.specs.declared.round.Answer.{Answer}
use Rattle.stripe_code.specs.declared.round.RoundState.TheVariants as round
use Rattle.stripe_code.specs.declared.round.Told.{Told}
use Rattle.stripe_code.specs.Joined.{joined}
use Rattle.stripe_code.specs.Round.{RoundSoFar, has_answered, all_answered, is_enough, len_in, missing_in, parts_in, round_take, state_of}
use Rattle.segment_reading.specs.declared.reading.Next.TheVariants.{Wait}
use Rattle.segment_reading.specs.declared.reading.Stage.{Stage}
use Rattle.segment_reading.specs.declared.reading.Stage.TheVariants.{Asking, Between, Doubted, Over}
use Rattle.segment_reading.specs.declared.target.Target.{Target}
use Rattle.segment_reading.specs.Course.{Event, Answered, Alike, Course, Heard, after_event, after_step, at_question, can_be, course, missing_of, round_of, MissedTwice, Decides, IsLostExactly}
use Rattle.segment_reading.specs.Lost.{missing_twice, are_gone}
use Rattle.segment_reading.specs.Reading.{ReadingState, Step, reading_start, reading_take, on_confirmed, reading_judge, reading_reads, ends, segment_found}

first_of : List (List (ℕ × ℕ)) → List (ℕ × ℕ)
first_of [] = []
first_of (pairs ∷ rest) = pairs

-- what the stage says of the rounds that ended
abbrev Says : ℕ → Stage → List (List (ℕ × ℕ)) → Type 0
Says parity Asking ended = Unit {0}
Says parity Between ended = MissedTwice parity ended → ⊥
Says parity Doubted ended = MissedTwice parity ended
Says parity Over ended = Unit {0}

-- Where a reading stands over a course. What it keeps of its round is what was told, while the round is on.
record Holds (target : Target) (group : Group) (c : Course) : Type 0 where
  told : List Answer
  stage : Stage
  stands : c.reading ≡ record { target = target; ask = c.heard.question; kept = first_of c.ended; round = round_of group told; stage = stage }
  same : stage ≡ Asking → told ≡ c.heard.answers
  says : Says group.parity stage c.ended

none_twice : (pairs : List (ℕ × ℕ)) → length (missing_twice [] pairs) ≡ 0
none_twice [] = refl
none_twice (p ∷ pairs) = none_twice pairs

-- the choice of the stage after a round that ended with pairs
chosen : (parity : ℕ) (ended : List (List (ℕ × ℕ))) (pairs : List (ℕ × ℕ))
    → Says parity (if are_gone parity (first_of ended) pairs then Doubted else Between) (pairs ∷ ended)
unfolding first_of
chosen parity [] pairs =
    let go : (t : Bool) → nat_lt parity (length (missing_twice [] pairs)) ≡ t → Says parity (if t then Doubted else Between) (pairs ∷ []) =
    λ t. elim t as (λ u. nat_lt parity (length (missing_twice [] pairs)) ≡ u → Says parity (if u then Doubted else Between) (pairs ∷ [])) [
      | true ↦ λ e. absurd (let h = ltb-true parity (length (missing_twice [] pairs)) e in let none = none_twice pairs in omega arith)
      | false ↦ λ e m. m
    ] in
    go (nat_lt parity (length (missing_twice [] pairs))) refl
chosen parity (before ∷ rest) pairs =
    let many = length (missing_twice before pairs) in
    let go : (t : Bool) → nat_lt parity many ≡ t → Says parity (if t then Doubted else Between) (pairs ∷ before ∷ rest) =
    λ t. elim t as (λ u. nat_lt parity many ≡ u → Says parity (if u then Doubted else Between) (pairs ∷ before ∷ rest)) [
      | true ↦ λ e. ltb-true parity many e
      | false ↦ λ e m. (let low : many ≤ parity = ltb-false parity many e in omega arith)
    ] in
    go (nat_lt parity many) refl

-- a round with what a server told is a round over the same group
taken_is : (group : Group) (answers : List Answer) (server : ℕ) (told : Told)
    → round_take (round_of group answers) server told ≡ round_of group (round_take (round_of group answers) server told).answers
unfolding round_take
taken_is group answers server told =
    let r = round_of group answers in
    let more : RoundSoFar = record r { answers = answers ++ record { server = server; told = told } ∷ [] } in
    elim (has_answered answers server) as (λ t. (if t then r else more) ≡ round_of group (if t then r else more).answers) [ true ↦ refl | false ↦ refl ]

module _ (target : Target) (group : Group) where
  abbrev standing : Heard → List (List (ℕ × ℕ)) → List Answer → Stage → ReadingState
  standing h ended told stage = record { target = target; ask = h.question; kept = first_of ended; round = round_of group told; stage = stage }

  abbrev After : Step → Heard → List (List (ℕ × ℕ)) → Type 0
  After s h ended = Holds target group (after_step group s h ended)

  -- ---- an answer

  waits : (h : Heard) (answers : List Answer) (ended : List (List (ℕ × ℕ))) (told : List Answer) (stage : Stage) → (stage ≡ Asking → told ≡ answers)
      → Says group.parity stage ended → After (record { state = standing h ended told stage; next = Wait }) (record h { answers = answers }) ended
  waits h answers ended told stage same says = record { told = told; stage = stage; stands = refl; same = same; says = says }

  ends_holds : (h : Heard) (ended : List (List (ℕ × ℕ))) (pairs : List (ℕ × ℕ)) → missing_of group h ≡ pairs
      → After (ends (standing h ended h.answers Asking) pairs) h ended
  unfolding first_of
  ends_holds h ended pairs fact = subst (λ (ps : List (ℕ × ℕ)). After (ends (standing h ended h.answers Asking) ps) h ended) fact
      (record {
        told = h.answers;
        stage = if are_gone group.parity (first_of ended) (missing_of group h) then Doubted else Between;
        stands = refl;
        same = λ e. refl;
        says = chosen group.parity ended (missing_of group h);
      })

  read_holds : (h : Heard) (ended : List (List (ℕ × ℕ))) (o : Option Segment) → missing_of group h ≡ []
      → After (reading_reads (standing h ended h.answers Asking) o) h ended
  read_holds h ended (Some s) none = record { told = h.answers; stage = Over; stands = refl; same = λ e. refl; says = tt }
  read_holds h ended None none = ends_holds h ended [] none

  judged_holds : (h : Heard) (ended : List (List (ℕ × ℕ))) (groups : GroupMapState)
      → After (reading_judge (standing h ended h.answers Asking) groups (state_of (round_of group h.answers))) h ended
  unfolding state_of
  judged_holds h ended groups =
      let now = round_of group h.answers in
      let r = standing h ended h.answers Asking in
      let text = joined (parts_in now.n h.answers) now.parity (unwrap_or (len_in h.answers) 0) in
      let missing : (t : Bool) → is_enough now ≡ t → missing_of group h ≡ (if t then [] else missing_in h.answers) =
      λ t e. ap (λ u. if u then [] else missing_in h.answers) e in
      elim (is_enough now) as
      (λ t. is_enough now ≡ t
      → After (reading_judge r groups
      (if t then round.Read text else if all_answered h.answers now.servers then round.Short (missing_in h.answers) else round.Waiting)) h
      ended) [
        | true ↦ λ e. read_holds h ended (segment_found target groups (answer_of text)) (missing true e)
        | false ↦ λ e.
            elim (all_answered h.answers now.servers) as
            (λ t. After (reading_judge r groups (if t then round.Short (missing_in h.answers) else round.Waiting)) h ended) [
              | true ↦ ends_holds h ended (missing_in h.answers) (missing false e)
              | false ↦ waits h h.answers ended h.answers Asking (λ e. refl) tt
            ]
      ] refl

  abbrev heard : Heard → ℕ → ℕ → Told → Heard
  heard h ask server told =
      record h { answers = if can_be target group h ask server told then (round_take (round_of group h.answers) server told).answers else h.answers }

  asking_holds : (h : Heard) (ended : List (List (ℕ × ℕ))) (groups : GroupMapState) (ask server : ℕ) (told : Told)
      → After (reading_take (standing h ended h.answers Asking) groups ask server told) (heard h ask server told) ended
  unfolding reading_take
  asking_holds h ended groups ask server told =
      let r = standing h ended h.answers Asking in
      let now = round_take (round_of group h.answers) server told in
      elim (can_be target group h ask server told) as
      (λ t. After (if t then reading_judge (record r { round = now }) groups (state_of now) else record { state = r; next = Wait })
      (record h { answers = if t then now.answers else h.answers }) ended) [
        | true ↦
            subst (λ (rd : RoundSoFar). After (reading_judge (record r { round = rd }) groups (state_of rd)) (record h { answers = now.answers }) ended)
            (sym (taken_is group h.answers server told)) (judged_holds (record h { answers = now.answers }) ended groups)
        | false ↦ waits h h.answers ended h.answers Asking (λ e. refl) tt
      ]

  answer_holds : (h : Heard) (ended : List (List (ℕ × ℕ))) (so_far : List Answer) (groups : GroupMapState) (ask server : ℕ) (told : Told) (stage : Stage)
      → (stage ≡ Asking → so_far ≡ h.answers) → Says group.parity stage ended
      → After (reading_take (standing h ended so_far stage) groups ask server told) (heard h ask server told) ended
  unfolding reading_take
  answer_holds h ended so_far groups ask server told Asking same says =
      subst (λ (answers : List Answer). After (reading_take (standing h ended answers Asking) groups ask server told) (heard h ask server told) ended)
      (sym (same refl))
      (asking_holds h ended groups ask server told)
  answer_holds h ended so_far groups ask server told Between same says =
      waits h (heard h ask server told).answers ended so_far Between (λ e. absurd cc) says
  answer_holds h ended so_far groups ask server told Doubted same says =
      waits h (heard h ask server told).answers ended so_far Doubted (λ e. absurd cc) says
  answer_holds h ended so_far groups ask server told Over same says =
      waits h (heard h ask server told).answers ended so_far Over (λ e. absurd cc) says

  -- ---- the reader's own question was answered alike

  alike_holds : (h : Heard) (ended : List (List (ℕ × ℕ))) (told : List Answer) (ask : ℕ) (stage : Stage) → (stage ≡ Asking → told ≡ h.answers)
      → Says group.parity stage ended
      → (let s = on_confirmed (standing h ended told stage) ask in After s (at_question ask s.next h) ended)
  unfolding on_confirmed
  alike_holds h ended told ask Asking same says = record { told = told; stage = Asking; stands = refl; same = same; says = says }
  alike_holds h ended told ask Between same says = record { told = []; stage = Asking; stands = refl; same = λ e. refl; says = tt }
  alike_holds h ended told ask Doubted same says = record { told = told; stage = Over; stands = refl; same = λ e. absurd cc; says = tt }
  alike_holds h ended told ask Over same says = record { told = told; stage = Over; stands = refl; same = same; says = says }

  -- ---- any course

  event_holds : (c : Course) (e : Event) → Holds target group c → Holds target group (after_event target group e c)
  event_holds c (Answered groups ask server told) holds =
      subst (λ (r : ReadingState). After (reading_take r groups ask server told) (heard c.heard ask server told) c.ended) (sym holds.stands)
      (answer_holds c.heard c.ended holds.told groups ask server told holds.stage holds.same holds.says)
  event_holds c (Alike ask) holds =
      subst (λ (r : ReadingState). After (on_confirmed r ask) (at_question ask (on_confirmed r ask).next c.heard) c.ended) (sym holds.stands)
      (alike_holds c.heard c.ended holds.told ask holds.stage holds.same holds.says)

  course_holds : (c : Course) (events : List Event) → Holds target group c → Holds target group (course target group c events)
  course_holds c [] holds = holds
  course_holds c (e ∷ es) holds = course_holds (after_event target group e c) es (event_holds c e holds)

  decides : (h : Heard) (ended : List (List (ℕ × ℕ))) (told : List Answer) (ask : ℕ) (stage : Stage) → Says group.parity stage ended
      → Decides stage (on_confirmed (standing h ended told stage) ask).next (MissedTwice group.parity ended)
  unfolding on_confirmed
  decides h ended told ask Asking says = refl
  decides h ended told ask Between says = (refl, says)
  decides h ended told ask Doubted says = (refl, says)
  decides h ended told ask Over says = refl

pub lost_exactly : IsLostExactly
unfolding first_of
lost_exactly target group ask next events =
    let start : Course = record { reading = reading_start target group ask; heard = record { question = ask; answers = [] }; ended = [] } in
    let holds = course_holds target group start events (record { told = []; stage = Asking; stands = refl; same = λ e. refl; says = tt }) in
    let c = course target group start events in
    subst (λ (r : ReadingState). Decides r.stage (on_confirmed r next).next (MissedTwice group.parity c.ended)) (sym holds.stands)
    (decides target group c.heard c.ended holds.told next holds.stage holds.says)
