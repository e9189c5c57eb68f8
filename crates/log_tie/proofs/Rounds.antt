-- Rounds of reading: what enough fragments of a booked segment join to is its text, and is read as it.
use Rattle.std.proofs.Common.{◌≡◌, ℕ, ◌-◌, ◌⊎◌, ◌==◌, ◌&&◌, Bool, true, false, cond, is_some, unwrap_or, List, [], ◌∷◌, ◌++◌, map, Option, Some, None, length, refl, sym, ap, subst, ◌∙◌, inl, inr, arith}
use Rattle.std.specs.Prelude.{IfSome, Ok, Result, count_by}
use Rattle.std.specs.List.{range_with_len}
use Rattle.std.proofs.lemmas.List.Elements.{All-nil}
use Rattle.std.proofs.lemmas.List.FromFn.{length-map-range_with_len}
use Rattle.std.proofs.lemmas.Bool.{eqb-true, leb-true}
use Rattle.xfs_base.specs.declared.fragment.Fragment.{Fragment}
use Rattle.xfs_base.specs.declared.segment.End.{End}
use Rattle.xfs_base.proofs.Booleans.{contrary, by_test, and_first, and_second, equal_itself}
use Rattle.segment_format.specs.declared.seg_error.SegError.{SegError}
use Rattle.segment_format.specs.declared.segment.Segment.{Segment}
use Rattle.segment_format.specs.ReadingItems.{answer_of}
use Rattle.segment_format.specs.Text.{text_of}
use Rattle.segment_format.proofs.SegmentLaws.{answer_again}
use Rattle.group_map.specs.GroupMapState.{GroupMapState}
use Rattle.segment_reading.specs.declared.reading.Next.TheVariants as next
use Rattle.segment_reading.specs.Reading.{ReadingState, Step, is_met_by, segment_found, name_fits, counts, reading_reads, reading_judge, reading_take}
use Rattle.segment_reading.specs.Reading as reading
use Rattle.stripe_code.specs.declared.round.Answer.{Answer}
use Rattle.stripe_code.specs.declared.round.RoundState.{RoundState}
use Rattle.stripe_code.specs.declared.round.RoundState.TheVariants as round
use Rattle.stripe_code.specs.declared.round.Told.{Told}
use Rattle.stripe_code.specs.declared.round.Told.TheVariants.{Held, Missing}
use Rattle.stripe_code.specs.Fragments.{fragment_at}
use Rattle.stripe_code.specs.Joined.{AreOf, missing_from, joined}
use Rattle.stripe_code.specs.Round.{RoundSoFar, count_of, asks, has_answered, len_in, bytes_in, parts_in, is_enough, all_answered, missing_in, round_take, state_of, told_fits, round_start, TellsPart}
use Rattle.stripe_code.specs.Stripe.{IsCut, stripe_of}
use Rattle.stripe_code.proofs.Given.{gives_back}
use Rattle.stripe_code.proofs.Places.{length_stripe, are_of, none_counted}
use Rattle.stripe_code.proofs.Recovery.{few_missing}
use Rattle.stripe_code.proofs.Rounds.{round_cut, pushed_is_round, enough_in}
use Rattle.log_protocol.specs.State.{State}
use Rattle.log_scan.specs.Transition.{name_at}
use Rattle.log_tie.specs.Setting.{Setting, fragment_of}
use Rattle.log_tie.specs.Seen.{Book}
use Rattle.log_tie.specs.Shelves.{is_of_log, IsPiece}
use Rattle.log_tie.specs.Rounds.{IsSpelled, IsGrouped, ToldPiece, AllTold, RoundShown}
use Rattle.xfs_base.proofs.SegmentNames.{one_name}
use Rattle.log_tie.proofs.Names.{one_number}

module _ (g : Setting) (w : State) (book : ℕ → Segment) (paged : Book g w book) (spelled : IsSpelled g book w.booked) (e : End) where
  abbrev Shown : RoundSoFar → Type 0
  Shown r = RoundShown g book w.booked e r

  -- ---- what is in

  pub record FirstHeld (answers : List Answer) : Type 0 where
    pub fragment : Fragment
    pub piece : IsPiece g book w.booked fragment
    pub named : fragment.meta.name ≡ name_at g.log e
    pub long : len_in answers ≡ Some fragment.meta.len

  held_first : (answers : List Answer) → AllTold g book w.booked e answers → ((i : ℕ) → bytes_in i answers ≡ None) ⊎ FirstHeld answers
  held_first [] all = inl (λ i. refl)
  held_first (a ∷ rest) all = by a.told refl all.0 (held_first rest all.1)
    where
      by : (t : Told) → a.told ≡ t → ToldPiece g book w.booked e t → ((i : ℕ) → bytes_in i rest ≡ None) ⊎ FirstHeld rest
          → ((i : ℕ) → bytes_in i (a ∷ rest) ≡ None) ⊎ FirstHeld (a ∷ rest)
      by (Held f) fact told more = inr (record { fragment = f; piece = told.0; named = told.1; long = ap (λ t. reading_len t) fact })
        where
          reading_len : Told → Option ℕ
          reading_len t = len_in (record { server = a.server; told = t } ∷ rest)
      by (Missing generation) fact told (inl none) = inl (λ i. ap (λ t. bytes_in i (record { server = a.server; told = t } ∷ rest)) fact ∙ none i)
      by (Missing generation) fact told (inr h) =
          inr (record {
            fragment = h.fragment;
            piece = h.piece;
            named = h.named;
            long = ap (λ t. len_in (record { server = a.server; told = t } ∷ rest)) fact ∙ h.long;
          })

  -- ---- the booked segment of the name

  module _ (y : ℕ) (fact : w.booked y ≡ 1) (named : (book y).name ≡ name_at g.log e) (group : (book y).group ≡ e.group) where
    -- a fragment of the name is its own
    piece_here : (f : Fragment) → IsPiece g book w.booked f → f.meta.name ≡ name_at g.log e → f ≡ fragment_of g (book y) f.meta.index
    piece_here f p of =
        let same : p.0 ≡ y =
        one_number g p.0 y (sym (paged p.0 p.2).named ∙ (ap (λ (z : Fragment). z.meta.name) (sym p.3) ∙ (of ∙ (sym named ∙ (paged y fact).named)))) in
        p.3 ∙ (ap (λ z. fragment_of g (book z) p.1) same ∙ ap (fragment_of g (book y)) (ap (λ (z : Fragment). z.meta.index) (sym p.3)))

    module _ (r : RoundSoFar) (shown : Shown r) where
      abbrev stripe : List (List ℕ)
      stripe = stripe_of (text_of (book y)) r.n r.parity

      bytes_here : (f : Fragment) → IsPiece g book w.booked f → f.meta.name ≡ name_at g.log e → f.bytes ≡ fragment_at stripe f.meta.index
      bytes_here f p of =
          ap (λ (z : Fragment). z.bytes) (piece_here f p of)
          ∙ ap (λ k. fragment_at (stripe_of (text_of (book y)) k (g.stripe (book y).group).parity) f.meta.index)
          (ap (λ z. length (g.stripe z).members) group ∙ sym shown.count)
          ∙ ap (λ k. fragment_at (stripe_of (text_of (book y)) r.n k) f.meta.index) (ap (λ z. (g.stripe z).parity) group ∙ sym shown.parity)

      bytes_piece : (i : ℕ) (answers : List Answer) → AllTold g book w.booked e answers → IfSome (bytes_in i answers) (λ bs. bs ≡ fragment_at stripe i)
      bytes_piece i [] all = tt
      bytes_piece i (a ∷ rest) all = by a.told refl all.0 (bytes_piece i rest all.1)
        where
          by : (t : Told) → a.told ≡ t → ToldPiece g book w.booked e t → IfSome (bytes_in i rest) (λ bs. bs ≡ fragment_at stripe i)
              → IfSome (bytes_in i (a ∷ rest)) (λ bs. bs ≡ fragment_at stripe i)
          by t same told more =
              subst (λ t. IfSome (bytes_in i (record { server = a.server; told = t } ∷ rest)) (λ bs. bs ≡ fragment_at stripe i)) (sym same) (here t told)
            where
              here : (t : Told) → ToldPiece g book w.booked e t
                  → IfSome (bytes_in i (record { server = a.server; told = t } ∷ rest)) (λ bs. bs ≡ fragment_at stripe i)
              here (Held f) told =
                  by_test (λ (o : Option (List ℕ)). IfSome o (λ bs. bs ≡ fragment_at stripe i)) (f.meta.index == i) (Some f.bytes) (bytes_in i rest)
                  (λ t. bytes_here f told.0 told.1 ∙ ap (fragment_at stripe) (eqb-true f.meta.index i t)) (λ t. more)
              here (Missing generation) told = more

      abbrev parts : List (Option (List ℕ))
      parts = parts_in r.n r.answers

      many : length parts ≡ r.n
      many = length-map-range_with_len (λ index. bytes_in index r.answers) 0 r.n

      are : AreOf parts (stripe_of (text_of (book y)) (length parts) r.parity)
      are = subst (λ k. AreOf parts (stripe_of (text_of (book y)) k r.parity)) (sym many)
          (subst (λ k. AreOf (map (λ index. bytes_in index r.answers) (range_with_len 0 k)) stripe)
          (length_stripe (text_of (book y)) r.n r.parity shown.is_round.cut)
          (are_of stripe 0 (λ index. bytes_in index r.answers)
          (λ i k e. subst (λ j. IfSome (bytes_in k r.answers) (λ bs. bs ≡ fragment_at stripe j)) (let a : k ≡ i = omega arith in a)
          (bytes_piece k r.answers shown.told))))

      joined_is : is_enough r ≡ true → joined parts r.parity (length (text_of (book y))) ≡ text_of (book y)
      joined_is enough =
          let cut = round_cut r parts shown.is_round refl in
          gives_back parts (text_of (book y)) (spelled.bytes y fact) r.parity cut are
          (few_missing r.parity cut.some cut.few (missing_from 0 parts)
          (enough_in r parts shown.is_round refl (leb-true (count_of r) (count_by is_some parts) enough)))

  -- ---- what enough fragments say

  pub record Reads (r : RoundSoFar) : Type 0 where
    pub number : ℕ
    pub booked : w.booked number ≡ 1
    pub named : (book number).name ≡ name_at g.log e
    pub text : joined (parts_in r.n r.answers) r.parity (unwrap_or (len_in r.answers) 0) ≡ text_of (book number)

  pub enough_reads : (r : RoundSoFar) → Shown r → IsGrouped g book w.booked e → is_enough r ≡ true → Reads r
  enough_reads r shown grouped enough = by (held_first r.answers shown.told)
    where
      few : ((i : ℕ) → bytes_in i r.answers ≡ None) → ⊥
      few none = let a = leb-true (count_of r) (count_by is_some (parts_in r.n r.answers)) enough in let b =
          none_counted (λ index. bytes_in index r.answers) none 0 r.n in let c = shown.is_round.cut.least in omega arith

      by : ((i : ℕ) → bytes_in i r.answers ≡ None) ⊎ FirstHeld r.answers → Reads r
      by (inl none) = absurd (few none)
      by (inr h) =
          let y = h.piece.0 in
          let named : (book y).name ≡ name_at g.log e = ap (λ (z : Fragment). z.meta.name) (sym h.piece.3) ∙ h.named in
          record {
            number = y;
            booked = h.piece.2;
            named = named;
            text = ap (λ o. joined (parts_in r.n r.answers) r.parity (unwrap_or o 0)) (h.long ∙ ap (λ (z : Fragment). Some z.meta.len) h.piece.3)
                ∙ joined_is y h.piece.2 named (grouped y h.piece.2 named) r shown enough;
          }

  abbrev pub IsBooked : Segment → Type 0
  IsBooked t = (y : ℕ) × (w.booked y ≡ 1) × (t ≡ book y)

  text_read : (r : ReadingState) (groups : GroupMapState) (bytes : List ℕ) (y : ℕ) → w.booked y ≡ 1 → bytes ≡ text_of (book y) → (t : Segment)
      → (reading_judge r groups (round.Read bytes)).next ≡ next.Read t → t ≡ book y
  text_read r groups bytes y fact text t reads =
      let answer : answer_of bytes ≡ Ok (book y) = ap answer_of text ∙ answer_again (text_of (book y)) (book y) (spelled.fits y fact) (spelled.text y fact) in
      by_test (λ (o : Option Segment). (reading_reads r o).next ≡ next.Read t → t ≡ book y) (is_met_by r.target groups (book y)) (Some (book y)) None (λ k same. cc)
      (λ k same. absurd cc)
      (subst (λ (a : Result Segment SegError). (reading_reads r (segment_found r.target groups a)).next ≡ next.Read t) answer reads)

  judged_reads : (r : ReadingState) (groups : GroupMapState) → Shown r.round → IsGrouped g book w.booked e → (t : Segment)
      → (reading_judge r groups (state_of r.round)).next ≡ next.Read t → IsBooked t
  unfolding state_of
  judged_reads r groups shown grouped t =
      by_test (λ (st : RoundState). (reading_judge r groups st).next ≡ next.Read t → IsBooked t) (is_enough r.round)
      (round.Read (joined (parts_in r.round.n r.round.answers) r.round.parity (unwrap_or (len_in r.round.answers) 0)))
      (cond (all_answered r.round.answers r.round.servers) (round.Short (missing_in r.round.answers)) round.Waiting)
      (λ enough reads. (let y = enough_reads r.round shown grouped enough in (y.number, y.booked, text_read r groups _ y.number y.booked y.text t reads)))
      (λ no. by_test (λ (st : RoundState). (reading_judge r groups st).next ≡ next.Read t → IsBooked t) (all_answered r.round.answers r.round.servers)
      (round.Short (missing_in r.round.answers)) round.Waiting (λ k reads. absurd cc) (λ k reads. absurd cc))

  -- ---- an answer

  told_more : (answers : List Answer) (a : Answer) → AllTold g book w.booked e answers → ToldPiece g book w.booked e a.told
      → AllTold g book w.booked e (answers ++ a ∷ [])
  told_more [] a all told = (told, tt)
  told_more (b ∷ rest) a all told = (all.0, told_more rest a all.1 told)

  taken_shown : (r : RoundSoFar) (server : ℕ) (t : Told) → Shown r → told_fits r t ≡ true → ToldPiece g book w.booked e t → Shown (round_take r server t)
  unfolding round_take
  taken_shown r server t shown fits told =
      by_test Shown (has_answered r.answers server) r (record r { answers = r.answers ++ record { server = server; told = t } ∷ [] }) (λ k. shown)
      (λ k. record {
        is_round = pushed_is_round r server t shown.is_round fits;
        count = shown.count;
        parity = shown.parity;
        told = told_more r.answers (record { server = server; told = t }) shown.told told;
      })

  judged_round : (r : ReadingState) (groups : GroupMapState) (st : RoundState) → (reading_judge r groups st).state.round ≡ r.round
  judged_round r groups (round.Read bytes) = by (segment_found r.target groups (answer_of bytes))
    where
      by : (o : Option Segment) → (reading_reads r o).state.round ≡ r.round
      by None = refl
      by (Some s) = refl
  judged_round r groups (round.Short pairs) = refl
  judged_round r groups round.Waiting = refl

  -- a fragment that answers is one of a booked segment, where it is of the log
  abbrev pub ToldSeen : Told → Type 0
  ToldSeen (Held f) = is_of_log g f.meta.name ≡ true → IsPiece g book w.booked f
  ToldSeen (Missing generation) = Unit {0}

  counted_piece : (r : ReadingState) (t : Told) → r.target.seg.name ≡ name_at g.log e → name_fits r.target t ≡ true → ToldSeen t → ToldPiece g book w.booked e t
  counted_piece r (Held f) looks fits seen =
      let named : f.meta.name ≡ name_at g.log e = one_name f.meta.name r.target.seg.name fits ∙ looks in
      (seen (ap (λ n. is_of_log g n) named ∙ equal_itself g.log.0), named)
  counted_piece r (Missing generation) looks fits seen = tt

  last_two : (a b c d f : Bool) → (a && b && c && (d && f)) ≡ true → (d && f) ≡ true
  last_two true true true d f h = h
  last_two true true false d f h = contrary h
  last_two true false c d f h = contrary h
  last_two false b c d f h = contrary h

  -- the round after an answer is seen, and what is read by it is booked
  pub record AnswerShown (step : Step) : Type 0 where
    pub shown : Shown step.state.round
    pub reads : (t : Segment) → step.next ≡ next.Read t → IsBooked t

  pub answered_shown : (r : ReadingState) (groups : GroupMapState) (ask server : ℕ) (t : Told) → Shown r.round → IsGrouped g book w.booked e
      → r.target.seg.name ≡ name_at g.log e → ToldSeen t → AnswerShown (reading_take r groups ask server t)
  unfolding reading_take
  answered_shown r groups ask server t shown grouped looks seen =
      by_test AnswerShown (counts r ask server t) (reading_judge now groups (state_of (round_take r.round server t))) (record { state = r; next = next.Wait })
      (λ k. record {
        shown = subst Shown (sym (judged_round now groups (state_of (round_take r.round server t)))) (now_shown k);
        reads = judged_reads now groups (now_shown k) grouped;
      })
      (λ k. record { shown = shown; reads = λ t same. absurd cc })
    where
      now : ReadingState
      now = record r { round = round_take r.round server t }

      now_shown : counts r ask server t ≡ true → Shown (round_take r.round server t)
      now_shown k =
          let both = last_two (reading.is_asking r.stage) (ask == r.ask) (asks r.round server) (name_fits r.target t) (told_fits r.round t) k in
          taken_shown r.round server t shown (and_second (name_fits r.target t) (told_fits r.round t) both)
          (counted_piece r t looks (and_first (name_fits r.target t) (told_fits r.round t) both) seen)

-- a round that begins, and one that begins anew
pub new_shown : (g : Setting) (book : ℕ → Segment) (booked : ℕ → ℕ) (e : End) (n parity : ℕ) (servers : List ℕ) → IsCut n parity
    → n ≡ length (g.stripe e.group).members → parity ≡ (g.stripe e.group).parity → RoundShown g book booked e (round_start n parity servers)
new_shown g book booked e n parity servers cut count same =
    record { is_round = record { cut = cut; parts = All-nil (λ (a : Answer). TellsPart n (n - parity) 0 a.told) }; count = count; parity = same; told = tt }
