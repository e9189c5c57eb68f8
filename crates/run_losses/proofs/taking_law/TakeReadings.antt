-- What stays of a reading at each answer, which servers it asks, and how its rounds end.
use Rattle.std.proofs.Common.{◌≡◌, ℕ, List, [], ◌∷◌, Option, Some, None, refl, ap, ◌∙◌, filter, not}
use Rattle.group_map.specs.GroupMapState.{GroupMapState}
use Rattle.segment_format.specs.declared.segment.Segment.{Segment}
use Rattle.segment_reading.specs.declared.reading.Next.{Next}
use Rattle.segment_reading.specs.declared.reading.Next.TheVariants as next
use Rattle.segment_reading.specs.declared.reading.Stage as readings
use Rattle.segment_reading.specs.declared.reading.Stage.TheVariants as stand
use Rattle.segment_reading.specs.Reading.{ReadingState, Step, reading_unanswered, counts, is_asking, reading_take, reading_judge, ends, reading_reads, segment_found}
use Rattle.segment_reading.specs.Lost.{are_gone}
use Rattle.stripe_code.specs.declared.round.RoundState.{RoundState}
use Rattle.stripe_code.specs.declared.round.RoundState.TheVariants as round
use Rattle.stripe_code.specs.declared.round.Told.{Told as Answered}
use Rattle.stripe_code.specs.Round.{has_answered, state_of, round_take, unanswered}
use Rattle.segment_format.specs.ReadingItems.{answer_of}
use Rattle.xfs_base.proofs.Booleans.{by_test}

-- ---- what stays of a reading

ask-reading_judge : (r : ReadingState) (groups : GroupMapState) (s : RoundState) → (reading_judge r groups s).state.ask ≡ r.ask
ask-reading_judge r groups (round.Read bytes) = by (segment_found r.target groups (answer_of bytes))
  where
    by : (o : Option Segment) → (reading_reads r o).state.ask ≡ r.ask
    by (Some s) = refl
    by None = refl
ask-reading_judge r groups (round.Short pairs) = refl
ask-reading_judge r groups round.Waiting = refl

pub ask-reading_take : (r : ReadingState) (groups : GroupMapState) (ask server : ℕ) (t : Answered) → (reading_take r groups ask server t).state.ask ≡ r.ask
unfolding reading_take
ask-reading_take r groups ask server t =
    let now = round_take r.round server t in
    by_test (λ (s : Step). s.state.ask ≡ r.ask) (counts r ask server t) (reading_judge (record r { round = now }) groups (state_of now))
    (record { state = r; next = next.Wait }) (λ _. ask-reading_judge (record r { round = now }) groups (state_of now)) (λ _. refl)

servers-reading_judge : (r : ReadingState) (groups : GroupMapState) (s : RoundState) → (reading_judge r groups s).state.round.servers ≡ r.round.servers
servers-reading_judge r groups (round.Read bytes) = by (segment_found r.target groups (answer_of bytes))
  where
    by : (o : Option Segment) → (reading_reads r o).state.round.servers ≡ r.round.servers
    by (Some s) = refl
    by None = refl
servers-reading_judge r groups (round.Short pairs) = refl
servers-reading_judge r groups round.Waiting = refl

pub servers-reading_take : (r : ReadingState) (groups : GroupMapState) (ask server : ℕ) (t : Answered)
    → (reading_take r groups ask server t).state.round.servers ≡ r.round.servers
unfolding reading_take round_take
servers-reading_take r groups ask server t =
    let now = round_take r.round server t in
    by_test (λ (s : Step). s.state.round.servers ≡ r.round.servers) (counts r ask server t) (reading_judge (record r { round = now }) groups (state_of now))
    (record { state = r; next = next.Wait })
    (λ _. servers-reading_judge (record r { round = now }) groups (state_of now)
    ∙ by_test (λ (x : _). x.servers ≡ r.round.servers) (has_answered r.round.answers server) r.round _ (λ _. refl) (λ _. refl))
    (λ _. refl)

-- all servers of a round that begins are asked
pub all_asked : (servers : List ℕ) → filter (λ v. not (has_answered [] v)) servers ≡ servers
all_asked [] = refl
all_asked (v ∷ vs) = ap (λ ws. v ∷ ws) (all_asked vs)

-- where there are none, none is asked
pub reading_unanswered_none : (r : ReadingState) → r.round.servers ≡ [] → reading_unanswered r ≡ []
reading_unanswered_none r none =
    by_test (λ (vs : List ℕ). vs ≡ []) (is_asking r.stage) (unanswered r.round) []
    (λ _. ap (filter (λ v. not (has_answered r.round.answers v))) none) (λ _. refl)

-- a round that has ended is confirmed or doubted
abbrev pub IsEnded : readings.Stage → Type 0
IsEnded stand.Asking = ⊥
IsEnded stand.Between = Unit {0}
IsEnded stand.Doubted = Unit {0}
IsEnded stand.Over = ⊥

-- an answer is waited on, completes the segment, or ends its round
abbrev pub NextSo : Next → readings.Stage → Type 0
NextSo next.Wait st = Unit {0}
NextSo next.Again st = IsEnded st
NextSo (next.Read segment) st = Unit {0}
NextSo next.Ask st = ⊥
NextSo next.Lost st = ⊥

ends_so : (r : ReadingState) (pairs : List (ℕ × ℕ)) → IsEnded (ends r pairs).state.stage
ends_so r pairs = by_test IsEnded (are_gone r.round.parity r.kept pairs) stand.Doubted stand.Between (λ _. tt) (λ _. tt)

reading_judge_so : (r : ReadingState) (groups : GroupMapState) (s : RoundState) → NextSo (reading_judge r groups s).next (reading_judge r groups s).state.stage
reading_judge_so r groups (round.Read bytes) = by (segment_found r.target groups (answer_of bytes))
  where
    by : (o : Option Segment) → NextSo (reading_reads r o).next (reading_reads r o).state.stage
    by (Some s) = tt
    by None = ends_so r []
reading_judge_so r groups (round.Short pairs) = ends_so r pairs
reading_judge_so r groups round.Waiting = tt

pub next_so : (r : ReadingState) (groups : GroupMapState) (ask server : ℕ) (t : Answered)
    → NextSo (reading_take r groups ask server t).next (reading_take r groups ask server t).state.stage
unfolding reading_take
next_so r groups ask server t =
    let now = round_take r.round server t in
    by_test (λ (s : Step). NextSo s.next s.state.stage) (counts r ask server t) (reading_judge (record r { round = now }) groups (state_of now))
    (record { state = r; next = next.Wait }) (λ _. reading_judge_so (record r { round = now }) groups (state_of now)) (λ _. tt)
