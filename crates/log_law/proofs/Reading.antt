-- A round of reading a booked segment, over fragments of its name that came, brings its text.
use Rattle.std.proofs.Common.{◌≡◌, ℕ, zero, suc, ◌+◌, ◌⊎◌, true, cond, is_some, map, List, [], ◌∷◌, Option, None, length, sym, ap, subst, ◌∙◌, inl, inr, refl}
use Rattle.std.specs.Prelude.{count_by, unwrap_or}
use Rattle.std.specs.List.{range_with_len}
use Rattle.xfs_base.specs.declared.fragment.Fragment.{Fragment}
use Rattle.xfs_base.specs.declared.segment.End.{End}
use Rattle.xfs_base.specs.declared.segment.SegName.{SegName}
use Rattle.xfs_base.proofs.Booleans.{by_test}
use Rattle.segment_format.specs.declared.segment.Segment.{Segment}
use Rattle.segment_format.specs.Text.{text_of}
use Rattle.stripe_code.specs.declared.round.Answer.{Answer}
use Rattle.stripe_code.specs.declared.round.RoundState.{RoundState}
use Rattle.stripe_code.specs.declared.round.RoundState.TheVariants.{Read, Short, Waiting}
use Rattle.stripe_code.specs.declared.round.Told.{Told}
use Rattle.stripe_code.specs.declared.round.Told.TheVariants.{Held, Missing}
use Rattle.stripe_code.specs.Joined.{joined}
use Rattle.stripe_code.specs.Round.{RoundSoFar, IsRound, bytes_in, parts_in, len_in, is_enough, all_answered, missing_in, state_of}
use Rattle.log_scan.specs.Transition.{name_at}
use Rattle.log_protocol.specs.Tables.{In}
use Rattle.log_tie.specs.Setting.{Setting}
use Rattle.log_tie.specs.Rounds.{IsGrouped, ToldPiece, AllTold}
use Rattle.log_tie.proofs.Names.{one_number}
use Rattle.log_tie.proofs.Rounds.{Reads, enough_reads}
use Rattle.log_law.specs.Net.{Net}
use Rattle.log_law.specs.Net.Packet.{FragmentSent}
use Rattle.log_law.specs.Events.{ToldCame, AllCame}
use Rattle.log_law.proofs.Views.{FragmentSeen, View}

-- a round that gave a text has enough, and the text is what its parts join to
pub record Gave (r : RoundSoFar) (text : List ℕ) : Type 0 where
  pub enough : is_enough r ≡ true
  pub text_is : joined (parts_in r.n r.answers) r.parity (unwrap_or (len_in r.answers) 0) ≡ text

text_in : RoundState → List ℕ
text_in (Read text) = text
text_in (Short pairs) = []
text_in Waiting = []

pub gave : (r : RoundSoFar) (text : List ℕ) → state_of r ≡ Read text → Gave r text
unfolding state_of text_in
gave r text =
    by_test (λ (st : RoundState). st ≡ Read text → Gave r text) (is_enough r) (Read (joined (parts_in r.n r.answers) r.parity (unwrap_or (len_in r.answers) 0)))
    (cond (all_answered r.answers r.servers) (Short (missing_in r.answers)) Waiting)
    (λ t e. record { enough = t; text_is = ap text_in e })
    (λ t. by_test (λ (st : RoundState). st ≡ Read text → Gave r text) (all_answered r.answers r.servers) (Short (missing_in r.answers)) Waiting
    (λ k e. absurd cc) (λ k e. absurd cc))

-- some fragment came, where a round has enough
module _ (n : Net) (name : SegName) where
  pub some_came : (answers : List Answer) → AllCame n name answers
      → ((i : ℕ) → bytes_in i answers ≡ None) ⊎ ((f : Fragment) × In (FragmentSent f) n.sent × (f.meta.name ≡ name))
  some_came [] all = inl (λ i. refl)
  some_came (a ∷ rest) all = by a.told refl all.0 (some_came rest all.1)
    where
      by : (t : Told) → a.told ≡ t → ToldCame n name a.told
          → ((i : ℕ) → bytes_in i rest ≡ None) ⊎ ((f : Fragment) × In (FragmentSent f) n.sent × (f.meta.name ≡ name))
          → ((i : ℕ) → bytes_in i (a ∷ rest) ≡ None) ⊎ ((f : Fragment) × In (FragmentSent f) n.sent × (f.meta.name ≡ name))
      by (Held f) fact came more = inr (let c = subst (ToldCame n name) fact came in (f, c.0, c.1))
      by (Missing generation) fact came (inl none) = inl (λ i. ap (λ t. bytes_in i (record { server = a.server; told = t } ∷ rest)) fact ∙ none i)
      by (Missing generation) fact came (inr f) = inr f

pub none_counted : (f : ℕ → Option (List ℕ)) → ((i : ℕ) → f i ≡ None) → (from n : ℕ) → count_by is_some (map f (range_with_len from n)) ≡ 0
none_counted f none from zero = refl
none_counted f none from (suc n) = ap (λ o. count_by is_some (o ∷ map f (range_with_len (from + 1) n))) (none from) ∙ none_counted f none (from + 1) n

module _ (g : Setting) (n : Net) (h : View g n) (x : ℕ) (booked : h.w.booked x ≡ 1) where
  abbrev s : Segment
  s = h.book x

  -- the number of what has its name
  pub same : (y : ℕ) → h.w.booked y ≡ 1 → (h.book y).name ≡ s.name → y ≡ x
  same y to e = one_number g y x (sym (h.paged y to).named ∙ (e ∙ (h.paged x booked).named))

  abbrev end : End
  end = record { seq = s.name.seq; pass = s.name.pass; group = s.group }

  -- the name of the end, as a name of the log
  at_end : name_at g.log end ≡ s.name
  at_end = let named = (h.paged x booked).named in ap (λ (z : SegName). record { log = g.log; seq = z.seq; pass = z.pass }) named ∙ sym named

  all_told : (answers : List Answer) → AllCame n s.name answers → AllTold g h.book h.w.booked end answers
  all_told [] all = tt
  all_told (a ∷ rest) all = (by a.told all.0, all_told rest all.1)
    where
      by : (t : Told) → ToldCame n s.name t → ToldPiece g h.book h.w.booked end t
      by (Held p) came = let z : FragmentSeen g h.w h.book p = h.sent (FragmentSent p) came.0 in ((z.name, z.index, z.known, z.is_piece), came.1 ∙ sym at_end)
      by (Missing generation) came = tt

  grouped : IsGrouped g h.book h.w.booked end
  grouped y to e = ap (λ z. (h.book z).group) (same y to (e ∙ at_end))

  module _ (r : RoundSoFar) (is_round : IsRound r) (count : r.n ≡ length (g.stripe s.group).members) (parity : r.parity ≡ (g.stripe s.group).parity)
      (came : AllCame n s.name r.answers) (text : List ℕ) (read : state_of r ≡ Read text) where
    reads : Reads g h.w h.book h.paged h.spelled end r
    reads = enough_reads g h.w h.book h.paged h.spelled end r
        (record { is_round = is_round; count = count; parity = parity; told = all_told r.answers came }) grouped (gave r text read).enough

    pub brings : text ≡ text_of s
    brings = sym (gave r text read).text_is ∙ (reads.text ∙ ap (λ z. text_of (h.book z)) (same reads.number reads.booked (reads.named ∙ at_end)))
