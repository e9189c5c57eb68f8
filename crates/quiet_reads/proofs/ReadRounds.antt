-- A round of reading a segment to which the first members of its group have told their fragments, in order: while they are fewer than the pieces of the text it
-- waits, and with as many it reads the text.
use Rattle.std.proofs.Common.{◌≡◌, ℕ, zero, suc, ◌+◌, ◌-◌, ◌<◌, ◌≤◌, ◌==◌, ◌&&◌, ◌||◌, Bool, true, false, cond, nat_le, nat_lt, List, [], ◌∷◌, ◌++◌, length, map, All, Option, Some, is_some, refl, sym, ap, subst, ◌∙◌, arith}
use Rattle.std.specs.Prelude.{count_by, unwrap_or}
use Rattle.std.specs.List.{AllByRecursion, range_with_len}
use Rattle.std.proofs.lemmas.Bool.Decides.{nat_tests}
use Rattle.std.proofs.lemmas.List.Elements.{All-from_recursion, All-nil}
use Rattle.group_map.specs.declared.group.Group.{Group}
use Rattle.group_map.specs.declared.group.Member.{Member}
use Rattle.log_flight.specs.Fragments.{flight_fragment}
use Rattle.quiet_flow.proofs.Counts.{count_hit, count_miss}
use Rattle.segment_format.specs.declared.segment.Segment.{Segment}
use Rattle.segment_format.specs.Text.{text_of}
use Rattle.segment_reading.specs.Reading.{servers_of}
use Rattle.fragment_sums.specs.Sums.{parities}
use Rattle.stripe_code.proofs.Pieces.{length-cut_pieces, pieces_long}
use Rattle.stripe_code.proofs.WhatWasCut.{reads_what_was_cut}
use Rattle.stripe_code.specs.declared.round.Answer.{Answer}
use Rattle.stripe_code.specs.declared.round.RoundState.TheVariants.{Read, Short, Waiting}
use Rattle.stripe_code.specs.declared.round.Told.TheVariants.{Held}
use Rattle.stripe_code.specs.Fragments.{fragment_at, meta_of}
use Rattle.stripe_code.specs.Joined.{joined}
use Rattle.stripe_code.specs.Round.{IsRound, RoundSoFar, TellsPart, bytes_in, fits, has_answered, all_answered, is_enough, len_in, missing_in, round_start, parts_in, is_as_before, state_of, round_take}
use Rattle.stripe_code.specs.Stripe.{IsBytes, IsCut, part_len, cut_pieces, stripe_of}
use Rattle.stripe_code.specs.WhatWasCut.{ToldOf}

-- ---- counts over numbers

-- where a test holds of the numbers below an end, as many of a range pass
module _ (f : ℕ → Option (List ℕ)) (end : ℕ) (below : (i : ℕ) → is_some (f i) ≡ nat_lt i end) where
  none_counted : (n from : ℕ) → end ≤ from → count_by is_some (map f (range_with_len from n)) ≡ 0
  none_counted zero from past = refl
  none_counted (suc n) from past =
      let above : nat_lt from end ≡ false = grind (arith, nat_tests) in
      count_miss is_some (f from) (map f (range_with_len (from + 1) n)) (below from ∙ above) ∙ none_counted n (from + 1) (omega arith)

  pub below_counted : (n from : ℕ) → from ≤ end → end ≤ from + n → count_by is_some (map f (range_with_len from n)) ≡ end - from
  below_counted zero from least most = let is : from ≡ end = omega arith in zero_left from end is
    where
      zero_left : (a b : ℕ) → a ≡ b → 0 ≡ b - a
      zero_left a b is = omega arith
  below_counted (suc n) from least most =
      elim (nat_lt from end) as (λ t. nat_lt from end ≡ t → count_by is_some (map f (range_with_len from (suc n))) ≡ end - from) [
        | true ↦ λ yes.
            let less : from < end = grind (arith, nat_tests) in
            let hit = count_hit is_some (f from) (map f (range_with_len (from + 1) n)) (below from ∙ yes) in
            let rest = below_counted n (from + 1) (omega arith) (omega arith) in
            omega arith
        | false ↦ λ above.
            let past : end ≤ from = grind (arith, nat_tests) in
            let miss = count_miss is_some (f from) (map f (range_with_len (from + 1) n)) (below from ∙ above) in
            let rest = none_counted n (from + 1) (omega arith) in
            omega arith
      ] refl

-- ---- the fragments of one segment

module _ (segment : Segment) (group : Group) where
  abbrev text : List ℕ
  text = text_of segment

  abbrev count : ℕ
  count = length group.members - group.parity

  abbrev told : Member → ℕ → Answer
  told m place = record { server = m.server; told = Held (flight_fragment segment group place) }

  -- these members have told their fragments, from a place on
  abbrev pub answers_from : List Member → ℕ → List Answer
  answers_from [] place = []
  answers_from (m ∷ ms) place = told m place ∷ answers_from ms (place + 1)

  abbrev pub round_with : List Member → RoundSoFar
  round_with ms = record (round_start (length group.members) group.parity (servers_of group)) { answers = answers_from ms 0 }

  pub meta_is : (place : ℕ) → (flight_fragment segment group place).meta ≡ meta_of segment place
  unfolding flight_fragment
  meta_is place = refl

  bytes_are : (place : ℕ) → (flight_fragment segment group place).bytes ≡ fragment_at (stripe_of text (length group.members) group.parity) place
  unfolding flight_fragment
  bytes_are place = refl

  index_is : (place : ℕ) → (flight_fragment segment group place).meta.index ≡ place
  unfolding flight_fragment
  index_is place = refl

  len_is : (place : ℕ) → (flight_fragment segment group place).meta.len ≡ length text
  unfolding flight_fragment
  len_is place = refl

  -- ---- one more

  answers_more : (ms : List Member) (m : Member) (place : ℕ) → answers_from (ms ++ m ∷ []) place ≡ answers_from ms place ++ told m (place + length ms) ∷ []
  answers_more [] m place = ap (λ n. told m n ∷ []) (plus_none place)
    where
      plus_none : (n : ℕ) → n ≡ n + 0
      plus_none n = omega arith
  answers_more (x ∷ ms) m place =
      ap (λ answers. told x place ∷ answers) (answers_more ms m (place + 1) ∙ ap (λ n. answers_from ms (place + 1) ++ told m n ∷ []) (one_later place (length ms)))
    where
      one_later : (a b : ℕ) → a + 1 + b ≡ a + suc b
      one_later a b = omega arith

  -- these members are other servers
  abbrev pub AreOthers : ℕ → List Member → Type 0
  AreOthers v ms = AllByRecursion (λ (m : Member). (m.server == v) ≡ false) ms

  not_yet : (v : ℕ) (ms : List Member) (place : ℕ) → AreOthers v ms → has_answered (answers_from ms place) v ≡ false
  not_yet v [] place others = refl
  not_yet v (m ∷ ms) place others = ap (λ t. t || has_answered (answers_from ms (place + 1)) v) others.0 ∙ not_yet v ms (place + 1) others.1

  from_none : (n : ℕ) → 0 + n ≡ n
  from_none n = omega arith

  pub taken_is : (ms : List Member) (m : Member) → AreOthers m.server ms
      → round_take (round_with ms) m.server (Held (flight_fragment segment group (length ms))) ≡ round_with (ms ++ m ∷ [])
  unfolding round_take
  taken_is ms m others =
      ap (λ t. cond t (round_with ms) (pushed (answers_from ms 0 ++ told m (length ms) ∷ []))) (not_yet m.server ms 0 others)
      ∙ ap (λ n. pushed (answers_from ms 0 ++ told m n ∷ [])) (sym (from_none (length ms)))
      ∙ ap pushed (sym (answers_more ms m 0))
    where
      pushed : List Answer → RoundSoFar
      pushed answers = record (round_with ms) { answers = answers }

  -- ---- it fits

  says : (ms : List Member) (place : ℕ) → is_as_before (len_in (answers_from ms place)) (length text) ≡ true
  says [] place = refl
  says (m ∷ ms) place = ap (λ len. length text == len) (len_is place) ∙ same (length text)
    where
      same : (n : ℕ) → (n == n) ≡ true
      same n = grind (arith, nat_tests)

  at_front : (xs ys : List (List ℕ)) (i : ℕ) → i < length xs → fragment_at (xs ++ ys) i ≡ fragment_at xs i
  at_front [] ys i less = absurd (omega (arith, less))
  at_front (x ∷ xs) ys zero less = refl
  at_front (x ∷ xs) ys (suc i) less = at_front xs ys i (omega arith)

  long_at : (part : ℕ) (xs : List (List ℕ)) (i : ℕ) → All (λ f. length f ≡ part) xs → i < length xs → length (fragment_at xs i) ≡ part
  long_at part [] i all less = absurd (omega (arith, less))
  long_at part (x ∷ xs) zero all less = all 0 x (omega arith)
  long_at part (x ∷ xs) (suc i) all less = long_at part xs i (λ k d under. all (suc k) d (omega arith)) (omega arith)

  -- the fragment at a place before the parity is as long as any
  stripe_long : (i : ℕ) → i < count → length (fragment_at (stripe_of text (length group.members) group.parity) i) ≡ part_len (length text) count
  unfolding stripe_of
  stripe_long i less =
      let part = part_len (length text) count in
      let long = length-cut_pieces count part text in
      ap length (at_front (cut_pieces count part text) (parities group.parity part (cut_pieces count part text)) i (omega arith))
      ∙ long_at part (cut_pieces count part text) i (pieces_long count part text) (omega arith)

  long : (place : ℕ) → place < count → length (flight_fragment segment group place).bytes ≡ part_len (length text) count
  long place before = ap length (bytes_are place) ∙ stripe_long place before

  pub fits_in : (ms : List Member) (place : ℕ) → length ms ≡ place → place < count → fits (round_with ms) (flight_fragment segment group place) ≡ true
  fits_in ms place is before =
      let within : nat_lt place (length group.members) ≡ true = (let less : place < length group.members = omega arith in lt_is place (length group.members) less) in
      ap
      (λ i. nat_lt i (length group.members) && is_as_before (len_in (answers_from ms 0)) (flight_fragment segment group place).meta.len
      && (length (flight_fragment segment group place).bytes == part_len (flight_fragment segment group place).meta.len count)) (index_is place)
      ∙ ap
      (λ len. nat_lt place (length group.members) && is_as_before (len_in (answers_from ms 0)) len
      && (length (flight_fragment segment group place).bytes == part_len len count)) (len_is place)
      ∙ all_three within (says ms 0) (ap (λ n. n == part_len (length text) count) (long place before) ∙ same (part_len (length text) count))
    where
      lt_is : (a b : ℕ) → a < b → nat_lt a b ≡ true
      lt_is a b h = grind (arith, nat_tests)

      same : (n : ℕ) → (n == n) ≡ true
      same n = grind (arith, nat_tests)

      all_three : {x y z : Bool} → x ≡ true → y ≡ true → z ≡ true → (x && y && z) ≡ true
      all_three {x} {y} {z} a b c = ap (λ t. t && y && z) a ∙ ap (λ t. t && z) b ∙ c

  -- ---- how many are in

  abbrev bytes_at : List Member → ℕ → ℕ → Option (List ℕ)
  bytes_at ms place i = bytes_in i (answers_from ms place)

  in_interval : (ms : List Member) (place i : ℕ) → is_some (bytes_at ms place i) ≡ (nat_le place i && nat_lt i (place + length ms))
  in_interval [] place i = none_between place i
    where
      none_between : (a b : ℕ) → false ≡ (nat_le a b && nat_lt b (a + 0))
      none_between a b = grind (arith, nat_tests)
  in_interval (m ∷ ms) place i =
      ap (λ n. is_some (cond (n == i) (Some (flight_fragment segment group place).bytes) (bytes_at ms (place + 1) i))) (index_is place)
      ∙ elim (place == i) as
      (λ t. (place == i) ≡ t → is_some (cond t (Some (flight_fragment segment group place).bytes) (bytes_at ms (place + 1) i)) ≡ (nat_le place i && nat_lt i (place + suc (length ms)))) [
        | true ↦ λ same. here place i (length ms) same
        | false ↦ λ other. in_interval ms (place + 1) i ∙ there place i (length ms) other
      ] refl
    where
      here : (a b l : ℕ) → (a == b) ≡ true → true ≡ (nat_le a b && nat_lt b (a + suc l))
      here a b l h = grind (arith, nat_tests)

      there : (a b l : ℕ) → (a == b) ≡ false → (nat_le (a + 1) b && nat_lt b (a + 1 + l)) ≡ (nat_le a b && nat_lt b (a + suc l))
      there a b l h = grind (arith, nat_tests)

  in_below : (ms : List Member) (i : ℕ) → is_some (bytes_at ms 0 i) ≡ nat_lt i (length ms)
  in_below ms i = in_interval ms 0 i ∙ from_zero i (length ms)
    where
      from_zero : (b l : ℕ) → (nat_le 0 b && nat_lt b (0 + l)) ≡ nat_lt b l
      from_zero b l = grind (arith, nat_tests)

  how_many : (ms : List Member) → length ms ≤ length group.members → count_by is_some (parts_in (length group.members) (answers_from ms 0)) ≡ length ms
  how_many ms few =
      below_counted (bytes_at ms 0) (length ms) (in_below ms) (length group.members) 0 (omega arith) (omega arith) ∙ minus_none (length ms)
    where
      minus_none : (n : ℕ) → n - 0 ≡ n
      minus_none n = omega arith

  pub enough_is : (ms : List Member) → length ms ≤ length group.members → is_enough (round_with ms) ≡ nat_le count (length ms)
  enough_is ms few = ap (nat_le count) (how_many ms few)

  -- ---- too few

  unanswered : (answers : List Answer) (xs ys : List ℕ) (v : ℕ) → has_answered answers v ≡ false → all_answered answers (xs ++ v ∷ ys) ≡ false
  unanswered answers [] ys v open_yet = ap (λ t. t && all_answered answers ys) open_yet
  unanswered answers (x ∷ xs) ys v open_yet =
      ap (λ t. has_answered answers x && t) (unanswered answers xs ys v open_yet) ∙ and_none (has_answered answers x)
    where
      and_none : (t : Bool) → (t && false) ≡ false
      and_none true = refl
      and_none false = refl

  servers_split : (before rest : List Member) (m : Member) → map (λ (x : Member). x.server) (before ++ m ∷ rest)
      ≡ map (λ (x : Member). x.server) before ++ m.server ∷ map (λ (x : Member). x.server) rest
  servers_split [] rest m = refl
  servers_split (x ∷ before) rest m = ap (λ vs. x.server ∷ vs) (servers_split before rest m)

  pub waits_for : (ms rest : List Member) (m : Member) → group.members ≡ ms ++ m ∷ rest → length ms < count → AreOthers m.server ms → state_of (round_with ms) ≡ Waiting
  unfolding state_of
  waits_for ms rest m is few others =
      ap (λ t. cond t (Read (joined (parts_in (length group.members) (answers_from ms 0)) group.parity (unwrap_or (len_in (answers_from ms 0)) 0)))
      (cond (all_answered (answers_from ms 0) (servers_of group)) (Short (missing_in (answers_from ms 0))) Waiting)) not_enough
      ∙ ap (λ t. cond t (Short (missing_in (answers_from ms 0))) Waiting) not_all
    where
      not_enough : is_enough (round_with ms) ≡ false
      not_enough = enough_is ms (omega arith) ∙ not_le count (length ms) few
        where
          not_le : (a b : ℕ) → b < a → nat_le a b ≡ false
          not_le a b h = grind (arith, nat_tests)

      not_all : all_answered (answers_from ms 0) (servers_of group) ≡ false
      not_all =
          ap (λ members. all_answered (answers_from ms 0) (map (λ (x : Member). x.server) members)) is
          ∙ ap (all_answered (answers_from ms 0)) (servers_split ms rest m)
          ∙ unanswered (answers_from ms 0) (map (λ (x : Member). x.server) ms) (map (λ (x : Member). x.server) rest) m.server (not_yet m.server ms 0 others)

  -- ---- enough

  all_parts : (len : Option ℕ) (ms : List Member) (place : ℕ) → unwrap_or len 0 ≡ length text → place + length ms ≤ count
      → AllByRecursion (λ (a : Answer). TellsPart (length group.members) count (unwrap_or len 0) a.told) (answers_from ms place)
  all_parts len [] place is few = tt
  all_parts len (m ∷ ms) place is few = (
    record {
      index = subst (λ i. i < length group.members) (sym (index_is place)) (omega arith);
      says = len_is place ∙ sym is;
      long = long place (omega arith) ∙ ap (λ n. part_len n count) (sym is);
    },
    all_parts len ms (place + 1) is (omega arith),
  )

  is_round : (ms : List Member) → IsCut (length group.members) group.parity → length ms ≤ count → IsRound (round_with ms)
  is_round [] cut few = record { cut = cut; parts = All-nil (λ (a : Answer). TellsPart (length group.members) count 0 a.told) }
  is_round (m ∷ ms) cut few = record {
    cut = cut;
    parts = All-from_recursion (λ (a : Answer). TellsPart (length group.members) count (unwrap_or (len_in (answers_from (m ∷ ms) 0)) 0) a.told)
        (answers_from (m ∷ ms) 0) (all_parts (len_in (answers_from (m ∷ ms) 0)) (m ∷ ms) 0 (len_is 0) (omega arith));
  }

  all_told : (ms : List Member) (place : ℕ)
      → AllByRecursion (λ (a : Answer). ToldOf text (length group.members) group.parity a.told) (answers_from ms place)
  all_told [] place = tt
  all_told (m ∷ ms) place =
      ((len_is place, bytes_are place ∙ ap (fragment_at (stripe_of text (length group.members) group.parity)) (sym (index_is place))), all_told ms (place + 1))

  its_text : List Member → List ℕ
  its_text ms = joined (parts_in (length group.members) (answers_from ms 0)) group.parity (unwrap_or (len_in (answers_from ms 0)) 0)

  joins : (ms : List Member) → is_enough (round_with ms) ≡ true → state_of (round_with ms) ≡ Read (its_text ms)
  unfolding state_of its_text
  joins ms enough =
      ap (λ t. cond t (Read (joined (parts_in (length group.members) (answers_from ms 0)) group.parity (unwrap_or (len_in (answers_from ms 0)) 0)))
      (cond (all_answered (answers_from ms 0) (servers_of group)) (Short (missing_in (answers_from ms 0))) Waiting)) enough

  pub reads_text : (ms : List Member) → IsCut (length group.members) group.parity → IsBytes text → length ms ≡ count → state_of (round_with ms) ≡ Read text
  reads_text ms cut bytes many =
      joins ms enough
      ∙ ap Read (reads_what_was_cut (round_with ms) text (its_text ms) (is_round ms cut (omega arith)) bytes
      (All-from_recursion (λ (a : Answer). ToldOf text (length group.members) group.parity a.told) (answers_from ms 0) (all_told ms 0)) (joins ms enough))
    where
      enough : is_enough (round_with ms) ≡ true
      enough = enough_is ms (omega arith) ∙ le_is count (length ms) (omega arith)
        where
          le_is : (a b : ℕ) → a ≤ b → nat_le a b ≡ true
          le_is a b h = grind (arith, nat_tests)
