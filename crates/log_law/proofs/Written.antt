-- What was in flight is booked: so it is of the log, and has a text; and what flies is next, as in each log that began somewhere and took inputs.
use Rattle.std.proofs.Common.{◌≡◌, ℕ, ◌-◌, ◌<◌, ◌++◌, List, [], ◌∷◌, Option, Some, None, sym, ap, subst, ◌∙◌}
use Rattle.std.specs.Prelude.{IfSome}
use Rattle.client_log.specs.History.{IsNext, IsInLine}
use Rattle.client_log.specs.LogState.{LogState}
use Rattle.log_flight.specs.Flights.{FlightState}
use Rattle.log_protocol.specs.Tables.{In}
use Rattle.log_tie.specs.Setting.{Setting}
use Rattle.segment_format.specs.declared.segment.Segment.{Segment}
use Rattle.xfs_base.specs.declared.segment.SegName.{SegName}
use Rattle.log_law.specs.Below.{Below}
use Rattle.log_law.specs.Net.{Net}
use Rattle.log_law.specs.Net.Owner.{Writing}
use Rattle.log_law.specs.Written.{AreLinked, FollowsOn, IsOfLog, WhatFlewIsWritten, WhatFliesIsNext, WhatIsReadBackIsLinked}
use Rattle.log_law.proofs.Calmer.{doubtful}
use Rattle.log_law.proofs.Views.{Behind, OwnerShown, Ran, View}
use Rattle.log_law.proofs.Feeding.{passes}
use Rattle.log_tie.specs.Openings.{Chained, WritingShown}
use Rattle.log_tie.specs.Setting.{name_of}
use Rattle.xfs_base.specs.declared.segment.Prior.{Prior}
use Rattle.log_law.proofs.Wholeness.{seen}

booked_is_written : (k : Below) (g : Setting) (n : Net) (h : View g n) (s : Segment) → In s n.flown → IsOfLog g s
booked_is_written k g n h s fact =
    let b = h.flown.booked s fact in
    let page = h.paged b.0 b.1 in
    subst (IsOfLog g) (sym b.2) (record {
      log = ap (λ (z : SegName). z.log) page.named;
      seq = subst (λ m. 0 < m) (ap (λ t. t b.0) h.fixed.seq_of ∙ sym (ap (λ (z : SegName). z.seq) page.named))
          ((k.protocol.book h.w h.reached).seq_some b.0 b.1);
      boot = page.boot;
      written = record { fits = h.spelled.fits b.0 b.1; text = h.spelled.text b.0 b.1; bytes = h.spelled.bytes b.0 b.1 };
    })

pub what_flew_is_written : Below → WhatFlewIsWritten
what_flew_is_written k g n m s fact =
    let w = booked_is_written k (doubtful g) n (seen k g n m) s fact in record { log = w.log; seq = w.seq; boot = w.boot; written = w.written }

pub what_flies_is_next : Below → WhatFliesIsNext
what_flies_is_next k g n m s fact f flies = by s.flight flies in_line
  where
    h : View (doubtful g) n
    h = seen k g n m

    ran : Ran s
    ran = (subst (OwnerShown (doubtful g) h.w h.book h.hellos) fact h.owner).1.ran

    in_line : IsInLine s
    in_line = subst IsInLine (sym ran.reaches) (k.logs.next ran.log ran.inc ran.end ran.groups ran.history)

    by : (o : Option FlightState) → o ≡ Some f → IfSome o (IsNext s) → IsNext s f
    by None e line = absurd cc
    by (Some x) e line = (let same : x ≡ f = cc in subst (IsNext s) same line)

-- ---- what was read back

module _ (k : Below) (g : Setting) (n : Net) (h : View g n) (chain : List Segment) (s : LogState) (fact : n.owner ≡ Writing chain s) (f : FlightState)
    (flies : s.flight ≡ Some f) where
  shown : WritingShown g h.w h.book chain s × Behind g h.w h.book s
  shown = subst (OwnerShown g h.w h.book h.hellos) fact h.owner

  next : IsNext s f
  next = by s.flight flies (subst IsInLine (sym shown.1.ran.reaches)
      (k.logs.next shown.1.ran.log shown.1.ran.inc shown.1.ran.end shown.1.ran.groups shown.1.ran.history))
    where
      by : (o : Option FlightState) → o ≡ Some f → IfSome o (IsNext s) → IsNext s f
      by None e line = absurd cc
      by (Some x) e line = (let same : x ≡ f = cc in subst (IsNext s) same line)

  some : (y : ℕ) → h.w.booked y ≡ 1 → 0 < y
  some y booked = (k.protocol.book h.w h.reached).named y booked

  pass_is : (y : ℕ) → h.w.booked y ≡ 1 → (h.book y).name.pass ≡ (name_of g y).pass
  pass_is y booked = ap (λ (z : SegName). z.pass) (h.paged y booked).named

  follows : (highest y : ℕ) (ts : List Segment) → h.w.booked y ≡ 1 → Chained g h.w h.book highest y ts → FollowsOn (h.book y) (ts ++ f.segment ∷ [])
  follows highest y [] booked last = (
    ap (λ (p : Prior). p.pass) next.prior
        ∙ (passes g s.end.pass s.end.seq y (some y booked) (sym (last ∙ shown.0.base)) ∙ sym (pass_is y booked)),
    tt,
  )
  follows highest y (t ∷ ts) booked c =
      let page = h.paged c.0 c.1 in
      let link : (h.book c.0).prior.pass ≡ (h.book y).name.pass =
      passes g (h.book c.0).prior.pass ((h.book c.0).name.seq - 1) y (some y booked) (sym page.follows ∙ c.3) ∙ sym (pass_is y booked) in (
        subst (λ (z : Segment). z.prior.pass ≡ (h.book y).name.pass) (sym c.2) link,
        subst (λ (z : Segment). FollowsOn z (ts ++ f.segment ∷ [])) (sym c.2) (follows highest c.0 ts c.1 c.5),
      )

  linked : (highest x : ℕ) (ts : List Segment) → Chained g h.w h.book highest x ts → AreLinked (ts ++ f.segment ∷ [])
  linked highest x [] c = tt
  linked highest x (t ∷ ts) c = subst (λ (z : Segment). FollowsOn z (ts ++ f.segment ∷ [])) (sym c.2) (follows highest c.0 ts c.1 c.5)

  pub is_linked : AreLinked (chain ++ f.segment ∷ [])
  is_linked = linked s.end.seq shown.0.read.next chain shown.0.read.chained

pub what_is_read_back_is_linked : Below → WhatIsReadBackIsLinked
what_is_read_back_is_linked k g n m chain s fact f flies = is_linked k (doubtful g) n (seen k g n m) chain s fact f flies
