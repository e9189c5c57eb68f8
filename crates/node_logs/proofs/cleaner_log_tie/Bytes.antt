-- What is joined of fragments that are bytes is bytes, the numbers of the segment that these are the text of are in the ranges of their types, and its Blocks
-- fit the format.
use Rattle.std.proofs.Common.{◌≡◌, ◌<◌, ℕ, zero, suc, ◌+◌, ◌-◌, ◌*◌, ◌/◌, ◌%◌, ◌^◌, List, [], ◌∷◌, ◌++◌, length, take, get_or, map, Option, Some, None, Result, Ok, Err, refl, subst, arith}
use Rattle.std.specs.Prelude.{IfSome, unwrap_or, bit_xor}
use Rattle.std.specs.Int.{w16, to_be_bytes}
use Rattle.std.specs.List.{AllByRecursion, concat, flat_map, range_with_len}
use Rattle.std.proofs.lemmas.List.Elements.{All-from_recursion, recursion_from_All}
use Rattle.std.proofs.lemmas.Nat.{xor_of_8}
use Rattle.xfs_base.proofs.Booleans.{by_test}
use Rattle.xfs_base.proofs.Alls.{all_take}
use Rattle.parity_kernel.specs.Bytewise.{xor_of, times}
use Rattle.parity_kernel.specs.Field.{doubled, product_of, product, inverse_of}
use Rattle.segment_format.specs.declared.segment.Item.{Item}
use Rattle.segment_format.specs.declared.segment.Item.TheVariants.{Block, Delta, Part}
use Rattle.segment_format.specs.declared.segment.Segment.{Segment}
use Rattle.segment_format.specs.declared.seg_error.SegError.{SegError}
use Rattle.segment_format.specs.Format.{second_version, mark}
use Rattle.segment_format.specs.Ranges.{FitsItem, Fits}
use Rattle.segment_format.specs.ReadingItems.{answer_of}
use Rattle.segment_format.specs.Text.{block_text, item_text, head_of, head_text, IsItem, IsText}
use Rattle.segment_format.proofs.SegmentLaws.{answer_takes}
use Rattle.group_map.specs.GroupMapState.{GroupMapState}
use Rattle.segment_reading.specs.declared.reading.Next.{Next}
use Rattle.segment_reading.specs.declared.reading.Next.TheVariants as next
use Rattle.segment_reading.specs.declared.reading.Stage.{Stage}
use Rattle.segment_reading.specs.declared.reading.Stage.TheVariants as stage
use Rattle.segment_reading.specs.Reading.{ReadingState, Step, is_met_by, segment_found, counts, reading_reads, reading_judge, reading_take, goes_on, on_confirmed}
use Rattle.stripe_code.specs.declared.round.Answer.{Answer}
use Rattle.stripe_code.specs.declared.round.RoundState.{RoundState}
use Rattle.stripe_code.specs.declared.round.RoundState.TheVariants.{Read, Short, Waiting}
use Rattle.stripe_code.specs.declared.round.Told.{Told}
use Rattle.stripe_code.specs.declared.round.Told.TheVariants.{Held, Missing}
use Rattle.stripe_code.specs.Joined.{part_at, rest_onto, one_gone, lower_of, two_gone, recovered_at, recovered, missing_from, filled, joined}
use Rattle.stripe_code.specs.Round.{RoundSoFar, has_answered, round_take, bytes_told, bytes_in, parts_in, missing_in, len_in, is_enough, all_answered, state_of}
use Rattle.stripe_code.specs.Stripe.{plain, weighted}
use Rattle.node_logs.specs.cleaner_log_tie.Fitting.{ToldFits, RoundFits}
use Rattle.node_logs.proofs.cleaner_log_tie.Fitting.{ItemFits, SegmentFits}

abbrev pub Bytes : List ℕ → Type 0
Bytes xs = AllByRecursion (λ (byte : ℕ). byte < 256) xs

abbrev PartBytes : Option (List ℕ) → Type 0
PartBytes p = IfSome p Bytes

abbrev AllParts : List (Option (List ℕ)) → Type 0
AllParts ps = AllByRecursion PartBytes ps

-- ---- lists of bytes

append_bytes : (xs ys : List ℕ) → Bytes xs → Bytes ys → Bytes (xs ++ ys)
append_bytes [] ys a b = b
append_bytes (x ∷ xs) ys a b = (a.0, append_bytes xs ys a.1 b)

behind : (xs ys : List ℕ) → Bytes (xs ++ ys) → Bytes ys
behind [] ys all = all
behind (x ∷ xs) ys all = behind xs ys all.1

before : (xs ys : List ℕ) → Bytes (xs ++ ys) → Bytes xs
before [] ys all = tt
before (x ∷ xs) ys all = (all.0, before xs ys all.1)

each_below : (xs : List ℕ) → Bytes xs → (i : ℕ) → get_or xs i 0 < 256
each_below [] all i = omega arith
each_below (x ∷ xs) all zero = all.0
each_below (x ∷ xs) all (suc i) = each_below xs all.1 i

-- ---- sums and products

pub xor_bytes : (xs ys : List ℕ) → Bytes xs → Bytes ys → Bytes (xor_of xs ys)
xor_bytes [] ys a b = tt
xor_bytes (x ∷ xs) [] a b = tt
xor_bytes (x ∷ xs) (y ∷ ys) a b = (xor_of_8 x y a.0 b.0, xor_bytes xs ys a.1 b.1)

bit_times : (b x : ℕ) → b < 2 → x < 256 → b * x < 256
bit_times zero x less small = omega arith
bit_times (suc zero) x less small = omega arith
bit_times (suc (suc b)) x less small = absurd (omega arith)

doubled_byte : (x : ℕ) → doubled x < 256
doubled_byte x = xor_of_8 (2 * x % 256) (0x1D * (x / 128 % 2)) (omega arith) (omega arith)

product_byte : (bits by x : ℕ) → x < 256 → product_of bits by x < 256
unfolding product_of
product_byte zero by x less = omega arith
product_byte (suc bits) by x less =
    xor_of_8 (by % 2 * x) (product_of bits (by / 2) (doubled x)) (bit_times (by % 2) x (omega arith) less)
    (product_byte bits (by / 2) (doubled x) (doubled_byte x))

pub times_bytes : (by : ℕ) (xs : List ℕ) → Bytes xs → Bytes (times by xs)
unfolding product
times_bytes by [] all = tt
times_bytes by (x ∷ xs) all = (product_byte 8 by x all.0, times_bytes by xs all.1)

-- ---- what is recovered

module _ (adds : ℕ → List ℕ → List ℕ) (keeps : (place : ℕ) (f : List ℕ) → Bytes f → Bytes (adds place f)) where
  rest_bytes : (place : ℕ) (start : List ℕ) (ps : List (Option (List ℕ))) → Bytes start → AllParts ps → Bytes (rest_onto adds place start ps)
  rest_bytes place start [] s all = s
  rest_bytes place start (None ∷ ps) s all = rest_bytes (place + 1) start ps s all.1
  rest_bytes place start (Some f ∷ ps) s all =
      rest_bytes (place + 1) (xor_of start (adds place f)) ps (xor_bytes start (adds place f) s (keeps place f all.0)) all.1

plain_rest : (start : List ℕ) (ps : List (Option (List ℕ))) → Bytes start → AllParts ps → Bytes (rest_onto plain 0 start ps)
plain_rest start ps s all = rest_bytes plain (λ place f b. b) 0 start ps s all

weighted_rest : (start : List ℕ) (ps : List (Option (List ℕ))) → Bytes start → AllParts ps → Bytes (rest_onto weighted 0 start ps)
weighted_rest start ps s all = rest_bytes weighted (λ place f b. times_bytes (2 ^ place) f b) 0 start ps s all

one_bytes : (known : List (Option (List ℕ))) (a : ℕ) (p q : Option (List ℕ)) → AllParts known → PartBytes p → PartBytes q → Bytes (one_gone known a p q)
one_bytes known a (Some p) q all first second = plain_rest p known first all
one_bytes known a None (Some q) all first second = times_bytes (inverse_of (2 ^ a)) (rest_onto weighted 0 q known) (weighted_rest q known second all)
one_bytes known a None None all first second = tt

lower_bytes : (a b : ℕ) (sum weighted_sum : List ℕ) → Bytes sum → Bytes weighted_sum → Bytes (lower_of a b sum weighted_sum)
lower_bytes a b sum weighted_sum s t =
    times_bytes (inverse_of (bit_xor (2 ^ a) (2 ^ b))) (xor_of weighted_sum (times (2 ^ b) sum))
    (xor_bytes weighted_sum (times (2 ^ b) sum) t (times_bytes (2 ^ b) sum s))

two_bytes : (known : List (Option (List ℕ))) (a b : ℕ) (p q : Option (List ℕ)) → AllParts known → PartBytes p → PartBytes q
    → AllByRecursion Bytes (two_gone known a b p q)
two_bytes known a b (Some p) (Some q) all first second =
    let s = rest_onto plain 0 p known in
    let t = rest_onto weighted 0 q known in
    let low : Bytes (lower_of a b s t) = lower_bytes a b s t (plain_rest p known first all) (weighted_rest q known second all) in
    (low, (xor_bytes s (lower_of a b s t) (plain_rest p known first all) low, tt))
two_bytes known a b (Some p) None all first second = (tt, (tt, tt))
two_bytes known a b None q all first second = (tt, (tt, tt))

recovered_bytes : (places : List ℕ) (known : List (Option (List ℕ))) (p q : Option (List ℕ)) → AllParts known → PartBytes p → PartBytes q
    → AllByRecursion Bytes (recovered_at places known p q)
recovered_bytes [] known p q all first second = tt
recovered_bytes (a ∷ []) known p q all first second = (one_bytes known a p q all first second, tt)
recovered_bytes (a ∷ b ∷ []) known p q all first second = two_bytes known a b p q all first second
recovered_bytes (a ∷ b ∷ c ∷ rest) known p q all first second = tt

at_place : (ps : List (Option (List ℕ))) (place : ℕ) → AllParts ps → PartBytes (part_at ps place)
at_place [] place all = tt
at_place (p ∷ ps) zero all = all.0
at_place (p ∷ ps) (suc place) all = at_place ps place all.1

filled_bytes : (ps : List (Option (List ℕ))) (found : List (List ℕ)) → AllParts ps → AllByRecursion Bytes found → AllByRecursion Bytes (filled ps found)
filled_bytes [] found all more = tt
filled_bytes (Some f ∷ ps) found all more = (all.0, filled_bytes ps found all.1 more)
filled_bytes (None ∷ ps) [] all more = filled_bytes ps [] all.1 tt
filled_bytes (None ∷ ps) (f ∷ found) all more = (more.0, filled_bytes ps found all.1 more.1)

concat_bytes : (fs : List (List ℕ)) → AllByRecursion Bytes fs → Bytes (concat fs)
concat_bytes [] all = tt
concat_bytes (f ∷ fs) all = append_bytes f (concat fs) all.0 (concat_bytes fs all.1)

joined_bytes : (ps : List (Option (List ℕ))) (parity len : ℕ) → AllParts ps → Bytes (joined ps parity len)
unfolding joined
joined_bytes ps parity len all =
    let count : ℕ = length ps - parity in
    let known : AllParts (take count ps) = all_take PartBytes count ps all in
    all_take (λ (byte : ℕ). byte < 256) len (concat (filled (take count ps) (recovered ps count)))
    (concat_bytes (filled (take count ps) (recovered ps count))
    (filled_bytes (take count ps) (recovered ps count) known
    (recovered_bytes (missing_from 0 (take count ps)) (take count ps) (part_at ps count) (part_at ps (count + 1)) known (at_place ps count all)
    (at_place ps (count + 1) all))))

-- ---- a round

told_bytes : (index : ℕ) (t : Told) (others : Option (List ℕ)) → ToldFits t → PartBytes others → PartBytes (bytes_told index t others)
told_bytes index (Held f) others h more = by_test PartBytes _ (Some f.bytes) others (λ t. recursion_from_All (λ (byte : ℕ). byte < 256) f.bytes h) (λ t. more)
told_bytes index (Missing generation) others h more = more

in_bytes : (index : ℕ) (answers : List Answer) → AllByRecursion (λ (a : Answer). ToldFits a.told) answers → PartBytes (bytes_in index answers)
in_bytes index [] all = tt
in_bytes index (a ∷ answers) all = told_bytes index a.told (bytes_in index answers) all.0 (in_bytes index answers all.1)

parts_bytes : (answers : List Answer) → AllByRecursion (λ (a : Answer). ToldFits a.told) answers → (places : List ℕ)
    → AllParts (map (λ index. bytes_in index answers) places)
parts_bytes answers all [] = tt
parts_bytes answers all (index ∷ places) = (in_bytes index answers all, parts_bytes answers all places)

-- the text that is read is bytes
abbrev pub StateBytes : RoundState → Type 0
StateBytes (Read text) = Bytes text
StateBytes (Short pairs) = Unit {0}
StateBytes Waiting = Unit {0}

pub state_bytes : (r : RoundSoFar) → RoundFits r → StateBytes (state_of r)
unfolding state_of
state_bytes r h =
    by_test StateBytes (is_enough r) (Read (joined (parts_in r.n r.answers) r.parity (unwrap_or (len_in r.answers) 0))) _
    (λ t. joined_bytes (parts_in r.n r.answers) r.parity (unwrap_or (len_in r.answers) 0) (parts_bytes r.answers h (range_with_len 0 r.n)))
    (λ t. by_test StateBytes (all_answered r.answers r.servers) (Short (missing_in r.answers)) Waiting (λ k. tt) (λ k. tt))

appended : (answers : List Answer) (a : Answer) → AllByRecursion (λ (x : Answer). ToldFits x.told) answers → ToldFits a.told
    → AllByRecursion (λ (x : Answer). ToldFits x.told) (answers ++ a ∷ [])
appended [] a all h = (h, tt)
appended (x ∷ answers) a all h = (all.0, appended answers a all.1 h)

pub taken_fits : (r : RoundSoFar) (server : ℕ) (t : Told) → RoundFits r → ToldFits t → RoundFits (round_take r server t)
unfolding round_take
taken_fits r server t h told =
    by_test RoundFits (has_answered r.answers server) r (record r { answers = r.answers ++ record { server = server; told = t } ∷ [] }) (λ e. h)
    (λ e. appended r.answers (record { server = server; told = t }) h told)

-- ---- the segment

blocks_fit : (items : List Item) → AllByRecursion FitsItem items → AllByRecursion (IsItem second_version) items → Bytes (flat_map item_text items)
    → AllByRecursion ItemFits items
blocks_fit [] fits limits bytes = tt
blocks_fit (Block block None ∷ items) fits limits bytes = absurd limits.0
blocks_fit (Block block (Some value) ∷ items) fits limits bytes =
    let own : Bytes (item_text (Block block (Some value))) = before (item_text (Block block (Some value))) (flat_map item_text items) bytes in
    let text : Bytes (to_be_bytes w16 (length value) ++ value) = behind (block_text block) (to_be_bytes w16 (length value) ++ value) own.1 in (
      record {
        block = fits.0;
        length = limits.0;
        bytes = All-from_recursion (λ (byte : ℕ). byte < 256) value (behind (to_be_bytes w16 (length value)) value text);
      },
      blocks_fit items fits.1 limits.1 (behind (item_text (Block block (Some value))) (flat_map item_text items) bytes),
    )
blocks_fit (Delta block ver hop item ∷ items) fits limits bytes =
    (tt, blocks_fit items fits.1 limits.1 (behind (item_text (Delta block ver hop item)) (flat_map item_text items) bytes))
blocks_fit (Part slot rows ∷ items) fits limits bytes =
    (tt, blocks_fit items fits.1 limits.1 (behind (item_text (Part slot rows)) (flat_map item_text items) bytes))

segment_fits : (text : List ℕ) (s : Segment) → Bytes text → answer_of text ≡ Ok s → SegmentFits s
segment_fits text s bytes e =
    let found : IsText text s × Fits s = answer_takes text s (each_below text bytes) e in
    let own : Bytes (mark ++ head_text (head_of s) ++ flat_map item_text s.items) = subst Bytes found.0.spelled bytes in
    blocks_fit s.items found.1.items found.0.limits.items
    (behind (head_text (head_of s)) (flat_map item_text s.items) (behind mark (head_text (head_of s) ++ flat_map item_text s.items) own))

-- ---- a reading

-- the segment that is read, if one is, fits, and its numbers are in the ranges of their types
abbrev pub NextFits : Next → Type 0
NextFits (next.Read segment) = SegmentFits segment × Fits segment
NextFits _ = Unit {0}

pub record StepFits (s : Step) : Type 0 where
  pub round : RoundFits s.state.round
  pub next : NextFits s.next

judged_fits : (r : ReadingState) (groups : GroupMapState) (x : RoundState) → RoundFits r.round → StateBytes x → StepFits (reading_judge r groups x)
judged_fits r groups (Short pairs) h bytes = record { round = h; next = tt }
judged_fits r groups Waiting h bytes = record { round = h; next = tt }
judged_fits r groups (Read text) h bytes = by_answer (answer_of text) refl
  where
    by_answer : (a : Result Segment SegError) → answer_of text ≡ a → StepFits (reading_reads r (segment_found r.target groups a))
    by_answer (Err e) fact = record { round = h; next = tt }
    by_answer (Ok s) fact =
        by_test (λ (o : Option Segment). StepFits (reading_reads r o)) (is_met_by r.target groups s) (Some s) None
        (λ t. record { round = h; next = (segment_fits text s bytes fact, (answer_takes text s (each_below text bytes) fact).1) })
        (λ t. record { round = h; next = tt })

-- an answer that comes to a reading
pub answered_fits : (r : ReadingState) (groups : GroupMapState) (ask server : ℕ) (t : Told) → RoundFits r.round → ToldFits t
    → StepFits (reading_take r groups ask server t)
unfolding reading_take
answered_fits r groups ask server t h told =
    let now : RoundSoFar = round_take r.round server t in
    by_test StepFits (counts r ask server t) (reading_judge (record r { round = now }) groups (state_of now)) (record { state = r; next = next.Wait })
    (λ e. judged_fits (record r { round = now }) groups (state_of now) (taken_fits r.round server t h told)
    (state_bytes now (taken_fits r.round server t h told)))
    (λ e. record { round = h; next = tt })

-- what there is to ask between two rounds is answered
pub confirmed_fits : (r : ReadingState) (ask : ℕ) → RoundFits r.round → StepFits (on_confirmed r ask)
unfolding on_confirmed
confirmed_fits r ask h = by_stage r.stage
  where
    by_stage : (at : Stage) → StepFits (goes_on r ask at)
    by_stage stage.Asking = record { round = h; next = tt }
    by_stage stage.Between = record { round = tt; next = tt }
    by_stage stage.Doubted = record { round = h; next = tt }
    by_stage stage.Over = record { round = h; next = tt }
