-- A place names one content: whatever fragments of a name are joined bring the segment of that name.
use Rattle.std.proofs.Common.{◌≡◌, ℕ, List, length, Ok, sym, ap, subst, ◌∙◌}
use Rattle.segment_format.specs.declared.segment.Segment.{Segment}
use Rattle.segment_format.specs.ReadingItems.{answer_of}
use Rattle.segment_format.specs.Text.{text_of}
use Rattle.segment_format.proofs.SegmentLaws.{answer_again}
use Rattle.stripe_code.specs.declared.round.RoundState.TheVariants.{Read}
use Rattle.stripe_code.specs.Round.{RoundSoFar, state_of}
use Rattle.log_tie.specs.Setting.{Setting}
use Rattle.log_law.specs.Net.{Net}
use Rattle.log_law.specs.Events.{AllCame}
use Rattle.log_law.specs.Places.{IsReading, Brings, APlaceNamesOneContent}
use Rattle.log_law.specs.Below.{Below}
use Rattle.log_law.proofs.Calmer.{doubtful}
use Rattle.log_law.proofs.Reading.{brings}
use Rattle.log_law.proofs.Views.{View}
use Rattle.log_law.proofs.Wholeness.{seen}

module _ (g : Setting) (n : Net) (h : View g n) (s : Segment) (r : RoundSoFar) (i : IsReading g n s r) (text : List ℕ) (read : state_of r ≡ Read text) where
  brought : (x : ℕ) × (h.w.booked x ≡ 1) × (s ≡ h.book x) → Brings s text
  brought x = record { text = fact; read = ap answer_of fact ∙ answer }
    where
      fact : text ≡ text_of s
      fact = brings g n h x.0 x.1 r i.is_round (i.count ∙ ap (λ (z : Segment). length (g.stripe z.group).members) x.2)
          (i.parity ∙ ap (λ (z : Segment). (g.stripe z.group).parity) x.2)
          (subst (λ (z : Segment). AllCame n z.name r.answers) x.2 i.came) text read ∙ ap text_of (sym x.2)

      answer : answer_of (text_of s) ≡ Ok s
      answer = subst (λ (z : Segment). answer_of (text_of z) ≡ Ok z) (sym x.2)
          (answer_again (text_of (h.book x.0)) (h.book x.0) (h.spelled.fits x.0 x.1) (h.spelled.text x.0 x.1))

pub a_place_names_one_content : Below → APlaceNamesOneContent
a_place_names_one_content k g n m s fact r i text read =
    brought (doubtful g) n (seen k g n m) s r (record { is_round = i.is_round; count = i.count; parity = i.parity; came = i.came }) text read
    ((seen k g n m).flown.booked s fact)
