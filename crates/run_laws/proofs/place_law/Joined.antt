-- What is joined of fragments that came under a name is the text of the name.
use Rattle.std.proofs.Common.{◌≡◌, ◌⊎◌, ◌≤◌, inl, inr, ℕ, zero, suc, ◌+◌, ◌-◌, ◌==◌, true, cond, nat_le, List, [], ◌∷◌, length, map, Option, None, is_some, unwrap_or, refl, sym, ap, subst, ◌∙◌, arith}
use Rattle.std.specs.Prelude.{count_by}
use Rattle.std.specs.List.{AllByRecursion, range_with_len}
use Rattle.std.proofs.lemmas.Bool.Decides.{nat_tests}
use Rattle.log_law.specs.Events.{AllCame, ToldCame}
use Rattle.log_law.specs.Laws.{OneNameOneText, OneText}
use Rattle.log_law.specs.Net.Packet.{FragmentSent}
use Rattle.log_law.specs.Places.{APlaceNamesOneContent, Brings, IsReading}
use Rattle.log_protocol.specs.Tables.{In}
use Rattle.log_tie.specs.Shelves.{is_of_log}
use Rattle.headline.specs.Filed.{Texts}
use Rattle.node_tellings.specs.reading_tie.Arrivals.{Cuts, cut_by}
use Rattle.node_tellings.specs.reading_tie.Came.{Came, AnswerCame, IsOfName, ReadsJoined, RoundCame}
use Rattle.segment_format.specs.declared.segment.Segment.{Segment}
use Rattle.stripe_code.specs.declared.round.Answer.{Answer}
use Rattle.stripe_code.specs.declared.round.RoundState.{RoundState}
use Rattle.stripe_code.specs.declared.round.RoundState.TheVariants.{Read, Short, Waiting}
use Rattle.stripe_code.specs.declared.round.Told.{Told}
use Rattle.stripe_code.specs.declared.round.Told.TheVariants.{Held, Missing}
use Rattle.stripe_code.specs.Round.{RoundSoFar, IsRound, bytes_in, bytes_told, count_of, all_answered, is_enough, len_in, missing_in, parts_in, state_of}
use Rattle.stripe_code.specs.Joined as joins
use Rattle.wire_msg.specs.declared.packet.Packet.{Packet}
use Rattle.xfs_base.proofs.Booleans.{by_test, equal_itself}
use Rattle.xfs_base.specs.declared.fragment.Fragment.{Fragment}
use Rattle.xfs_base.specs.declared.segment.LogId.{LogId}
use Rattle.xfs_base.specs.declared.segment.SegName.{SegName}
use Rattle.xfs_base.specs.declared.segment.SegRef.{SegRef}
use Rattle.run_laws.specs.place_law.Reads.{LogKnown, NamesItsGroup}

-- ---- a round that ends with a text has a fragment

-- a fragment is among the answers
pub record HasFragment (answers : List Answer) : Type 0 where
  pub answer : Answer
  pub fragment : Fragment
  pub holds : answer.told ≡ Held fragment
  pub among : In answer answers

some_or_none : (answers : List Answer) → HasFragment answers ⊎ ((i : ℕ) → bytes_in i answers ≡ None)
some_or_none [] = inr (λ i. refl)
some_or_none (a ∷ rest) = by a.told refl (some_or_none rest)
  where
    by : (t : Told) → a.told ≡ t → HasFragment rest ⊎ ((i : ℕ) → bytes_in i rest ≡ None)
        → HasFragment (a ∷ rest) ⊎ ((i : ℕ) → bytes_in i (a ∷ rest) ≡ None)
    by (Held f) fact x = inl (record { answer = a; fragment = f; holds = fact; among = inl refl })
    by (Missing generation) fact (inl h) = inl (record { answer = h.answer; fragment = h.fragment; holds = h.holds; among = inr h.among })
    by (Missing generation) fact (inr none) = inr (λ i. ap (λ t. bytes_told i t (bytes_in i rest)) fact ∙ none i)

none_counted : (f : ℕ → Option (List ℕ)) → ((i : ℕ) → f i ≡ None) → (from n : ℕ) → count_by is_some (map f (range_with_len from n)) ≡ 0
none_counted f none from zero = refl
none_counted f none from (suc n) = ap (λ o. count_by is_some (o ∷ map f (range_with_len (from + 1) n))) (none from) ∙ none_counted f none (from + 1) n

reads_enough : (r : RoundSoFar) (text : List ℕ) → state_of r ≡ Read text → is_enough r ≡ true
unfolding state_of
reads_enough r text fact =
    by_test (λ (s : RoundState). s ≡ Read text → is_enough r ≡ true) (is_enough r)
    (Read (joins.joined (parts_in r.n r.answers) r.parity (unwrap_or (len_in r.answers) 0)))
    (cond (all_answered r.answers r.servers) (Short (missing_in r.answers)) Waiting) (λ t h. t)
    (λ _. by_test (λ (s : RoundState). s ≡ Read text → is_enough r ≡ true) (all_answered r.answers r.servers) (Short (missing_in r.answers)) Waiting
    (λ _ x. absurd (cc)) (λ _ x. absurd (cc)))
    fact

pub has_fragment : (r : RoundSoFar) (text : List ℕ) → IsRound r → state_of r ≡ Read text → HasFragment r.answers
has_fragment r text round fact = by (some_or_none r.answers)
  where
    by : HasFragment r.answers ⊎ ((i : ℕ) → bytes_in i r.answers ≡ None) → HasFragment r.answers
    by (inl h) = h
    by (inr none) =
        let enough : nat_le (count_of r) (count_by is_some (parts_in r.n r.answers)) ≡ true = reads_enough r text fact in
        let empty : count_by is_some (parts_in r.n r.answers) ≡ 0 = none_counted (λ index. bytes_in index r.answers) none 0 r.n in
        let least = round.cut.least in
        absurd (clash (count_of r) (count_by is_some (parts_in r.n r.answers)) r.n r.parity refl least enough empty)
      where
        clash : (c k n p : ℕ) → c ≡ n - p → p + 2 ≤ n → nat_le c k ≡ true → k ≡ 0 → ⊥
        clash c k n p a b d e = grind (arith, nat_tests)

-- ---- the text

all_among : {X : Type 0} (P : X → Type 0) (xs : List X) (x : X) → AllByRecursion P xs → In x xs → P x
all_among P [] x all fact = absurd fact
all_among P (y ∷ xs) x all (inl fact) = subst P (sym fact) all.0
all_among P (y ∷ xs) x all (inr later) = all_among P xs x all.1 later

-- what came of fragments, of the log, was sent there
abbrev pub CameOf : Came → (Fragment → Type 0) → Type 0
CameOf came Sent = (ask server : ℕ) (f : Fragment) → came ask server (Held f) → Sent f

module _ (one : OneNameOneText) (place : APlaceNamesOneContent) (texts : Texts) (packets : List Packet) (cuts : Cuts) (came : Came) (seg : SegRef)
    (l : LogKnown texts packets cuts seg.name.log) (own_group : NamesItsGroup texts seg)
    (sent : CameOf came (λ f. is_of_log l.setting f.meta.name ≡ true → In (FragmentSent f) l.net.sent)) where
  its_log : (name : SegName) → name ≡ seg.name → is_of_log l.setting name ≡ true
  its_log name fact =
      subst (λ (n : SegName). (n.log.0 == l.setting.log.0) ≡ true) (sym fact)
      (subst (λ (x : LogId). (seg.name.log.0 == x.0) ≡ true) (sym l.own) (equal_itself seg.name.log.0))

  answers_came : (s : Segment) (ask : ℕ) → s.name ≡ seg.name → (answers : List Answer) → AllByRecursion (AnswerCame came ask seg.name) answers
      → AllCame l.net s.name answers
  answers_came s ask named [] all = tt
  answers_came s ask named (a ∷ rest) all = (by a.told all.0.came_so all.0.of_name, answers_came s ask named rest all.1)
    where
      by : (t : Told) → came ask a.server t → IsOfName seg.name t → ToldCame l.net s.name t
      by (Held f) came_so of_name = (sent ask a.server f came_so (its_log f.meta.name of_name), of_name ∙ sym named)
      by (Missing generation) came_so of_name = tt

  -- the segment that was in flight under the name
  pub record Flew : Type 0 where
    pub segment : Segment
    pub among : In segment l.net.flown
    pub named : segment.name ≡ seg.name

  flew : (ask : ℕ) (r : RoundSoFar) (text : List ℕ) → RoundCame came (cut_by cuts) seg ask r → state_of r ≡ Read text → Flew
  flew ask r text of fact =
      let has : HasFragment r.answers = has_fragment r text of.is_round fact in
      let answer : AnswerCame came ask seg.name has.answer = all_among (AnswerCame came ask seg.name) r.answers _ of.answers has.among in
      let came_so : came ask has.answer.server (Held has.fragment) = subst (came ask has.answer.server) has.holds answer.came_so in
      let of_name : has.fragment.meta.name ≡ seg.name = subst (IsOfName seg.name) has.holds answer.of_name in
      let text_is : OneText l.setting l.net = one l.setting l.net l.moment in
      let t = text_is.told has.fragment (sent ask has.answer.server has.fragment came_so (its_log has.fragment.meta.name of_name)) in
      record { segment = t.0; among = t.1; named = sym (ap (λ (f : Fragment). f.meta.name) t.2) ∙ of_name }

  reading : (x : Flew) (ask : ℕ) (r : RoundSoFar) → RoundCame came (cut_by cuts) seg ask r → IsReading l.setting l.net x.segment r
  reading x ask r of =
      let fact : texts seg.name ≡ x.segment = ap texts (sym x.named) ∙ l.texts_of x.segment x.among in
      let group : seg.group ≡ x.segment.group = own_group ∙ ap (λ (s : Segment). s.group) fact in
      record {
        is_round = of.is_round;
        count = of.cut_so.0 ∙ l.members seg.group ∙ ap (λ id. length (l.setting.stripe id).members) group;
        parity = of.cut_so.1 ∙ l.parity seg.group ∙ ap (λ id. (l.setting.stripe id).parity) group;
        came = answers_came x.segment ask x.named r.answers of.answers;
      }

  -- what is read is what was in flight, and that is the text
  pub record IsFlown (s : Segment) : Type 0 where
    pub among : In s l.net.flown
    pub is_text : s ≡ texts seg.name

  pub joined : (s : Segment) → ReadsJoined came (cut_by cuts) seg s → IsFlown s
  joined s h =
      let x : Flew = flew h.ask h.round h.text h.of h.joins in
      let brings : Brings x.segment h.text =
      place l.setting l.net l.moment x.segment x.among h.round (reading x h.ask h.round h.of) h.text h.joins in
      let same : s ≡ x.segment = (let a = h.decoded in let b = brings.read in cc) in
      record {
        among = subst (λ z. In z l.net.flown) (sym same) x.among;
        is_text = same ∙ sym (l.texts_of x.segment x.among) ∙ ap texts x.named;
      }
