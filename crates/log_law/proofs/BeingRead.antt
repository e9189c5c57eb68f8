-- What an opening reads is its base, or the prior of a booked segment: both are secured whole.
use Rattle.std.proofs.Common.{◌≡◌, ℕ, zero, suc, ◌==◌, ◌<◌, ◌≤◌, ◌⊎◌, Bool, true, false, cond, nat_lt, List, [], ◌∷◌, Some, length, reverse, refl, sym, ap, subst, ◌∙◌, inl, inr, arith}
use Rattle.std.proofs.lemmas.Bool.{or_parts}
use Rattle.std.proofs.lemmas.Bool.Decides.{nat_tests}
use Rattle.xfs_base.specs.declared.segment.Pass.{Pass}
use Rattle.xfs_base.specs.Segments.{names_none}
use Rattle.segment_format.specs.declared.segment.Segment.{Segment}
use Rattle.segment_reading.specs.declared.target.Target.{Target}
use Rattle.segment_reading.specs.Reading.{ReadingState}
use Rattle.log_scan.specs.declared.stage.Backward.{Backward}
use Rattle.log_scan.specs.declared.stage.Stage.TheVariants.{Reads}
use Rattle.log_scan.specs.ScanState.{ScanState}
use Rattle.log_scan.specs.Transition.{name_at, prior_at, target_at, is_bottom}
use Rattle.log_protocol.proofs.Induction.{always}
use Rattle.log_protocol.specs.Phase
use Rattle.log_protocol.specs.LogLaws.{Reached}
use Rattle.log_protocol.specs.LossLaws.{ReadBy, Whole}
use Rattle.log_protocol.specs.State.{State}
use Rattle.log_protocol.specs.Tables.{In}
use Rattle.log_tie.proofs.Names.{name_coded}
use Rattle.log_tie.specs.Openings.{Chained}
use Rattle.log_tie.specs.Scans.{LooksFor, ReadingShown, ScanShown, StageShown}
use Rattle.log_tie.specs.Seen.{members_of}
use Rattle.log_tie.specs.Setting.{Setting, name_of, point}
use Rattle.log_law.specs.BeingRead.{IsWhole, WhatIsReadIsWhole}
use Rattle.log_law.specs.Below.{Below}
use Rattle.log_law.specs.Laws.{Holds, IsLater}
use Rattle.log_law.specs.Net.{Net}
use Rattle.log_law.specs.Net.Owner.{Opening}
use Rattle.log_law.proofs.Calmer.{doubtful}
use Rattle.log_law.proofs.ReadingDown.{short}
use Rattle.log_law.proofs.Views.{OwnerShown, View}
use Rattle.log_law.proofs.Wholeness.{member_seen, page, seen, undropped}

-- what the abstract protocol says of what is read back
abbrev pub ReadWhole : Type 0
ReadWhole = (w : State) (x : ℕ) → Reached w → ReadBy w x → w.dropped x ≡ 0 → Whole w x

no_lower : (low seq : ℕ) → nat_lt seq low ≡ false → low ≤ seq
no_lower low seq e = grind (arith, nat_tests)

-- a point that names something is the number of its name
point_is : (g : Setting) (seq : ℕ) (pass : Pass) → 0 < point g seq pass → point g seq pass ≡ g.code seq pass.inc pass.att
point_is g seq pass = by (pass.inc == 0)
  where
    by : (t : Bool) → 0 < cond t 0 (g.code seq pass.inc pass.att) → cond t 0 (g.code seq pass.inc pass.att) ≡ g.code seq pass.inc pass.att
    by false some = refl
    by true some = absurd (omega arith)

module _ (k : Below) (read : ReadWhole) (g : Setting) (n : Net) (h : View g n) (s : ScanState) (fact : n.owner ≡ Opening s) (b : Backward)
    (r : ReadingState) (at : s.stage ≡ Reads b (Some r)) (kept : In r.target.seg.name n.dropped → ⊥) where
  opened : ScanShown g h.w h.book h.hellos s
  opened = subst (OwnerShown g h.w h.book h.hellos) fact h.owner

  shown : ReadingShown g h.w h.book s.opening b × (is_bottom s.opening.low b.next ≡ false) × LooksFor g h.book h.w.booked b.next (Some r)
  shown = subst (StageShown g h.w h.book h.hellos s.opening) at opened.stage

  -- it looks for what the end names
  looks : r.target ≡ target_at g.log b.next
  looks = shown.2.0

  -- its number
  abbrev x : ℕ
  x = point g b.next.seq b.next.pass

  above : s.opening.low ≤ b.next.seq
  above = no_lower s.opening.low b.next.seq (or_parts (nat_lt b.next.seq s.opening.low) (names_none (prior_at b.next)) shown.1).0

  some : 0 < x
  some = by x refl
    where
      by : (z : ℕ) → x ≡ z → 0 < x
      by zero none =
          let less = short g h.w h.book h.fixed.seq_of (always h.w h.reached) shown.0.phase b.start.seq (reverse b.chain) shown.0.opening
          (subst (λ z. Chained g h.w h.book b.start.seq z (reverse b.chain)) none shown.0.chained) in
          let seq = shown.0.seq in
          let low = shown.0.low in
          let more = above in
          absurd (omega arith)
      by (suc z) e = omega arith

  abbrev From : ℕ → Type 0
  From y = ((Phase.reading ≤ h.w.phase) × (h.w.phase ≤ Phase.writing) × (y ≡ h.w.base)) ⊎ ((z : ℕ) × (h.w.booked z ≡ 1) × (h.w.prior_of z ≡ y))

  -- it is the base, or the prior of what was read before it
  link : (highest y : ℕ) (ts : List Segment) → Chained g h.w h.book highest y ts → From y
  link highest y [] c = let p = shown.0.phase in inl (omega arith, omega arith, c)
  link highest y (t ∷ ts) c = inr (c.0, c.1, c.3)

  from : From x
  from = link b.start.seq x (reverse b.chain) shown.0.chained

  is_booked : h.w.booked x ≡ 1
  is_booked = by from
    where
      by : From x → h.w.booked x ≡ 1
      by (inl base) =
          let e = base.2 in
          let z = some in
          subst (λ y. h.w.booked y ≡ 1) (sym e) ((k.protocol.owner h.w h.reached).base_booked base.0 base.1 (omega arith))
      by (inr chain) =
          let e = chain.2 in
          let z = some in
          subst (λ y. h.w.booked y ≡ 1) e ((k.protocol.book h.w h.reached).prior_booked chain.0 chain.1 (omega arith))

  named : (h.book x).name ≡ name_at g.log b.next
  named = (page k g n h x is_booked).named
      ∙ (ap (name_of g) (point_is g b.next.seq b.next.pass some) ∙ name_coded g b.next.seq b.next.pass.inc b.next.pass.att)

  is_kept : h.w.dropped x ≡ 0
  is_kept = undropped k g n h x is_booked (subst (λ z. In z n.dropped → ⊥) (ap (λ (z : Target). z.seg.name) looks ∙ sym named) kept)

  each : (place : ℕ) → place < length (members_of g (h.book x)) → Holds g n (h.book x) place ⊎ IsLater g n (h.book x) place
  each place member = member_seen k g n h x is_booked place member (by (read h.w x h.reached (some, from) is_kept place within))
    where
      within : place < h.w.member_count x
      within = subst (λ c. place < c) (sym (page k g n h x is_booked).counted) member

      by : (h.w.holds (h.w.member_server x place) x ≡ 1) ⊎ (h.w.member_generation x place < h.w.generation (h.w.member_server x place))
          → ((h.w.holds (h.w.member_server x place) x ≡ 1) × (h.w.kept_index (h.w.member_server x place) x ≡ place))
          ⊎ (h.w.member_generation x place < h.w.generation (h.w.member_server x place))
      by (inl holds) =
          let shelves = k.protocol.shelves h.w h.reached in
          inl (
            holds,
            (k.protocol.book h.w h.reached).distinct x (h.w.kept_index (h.w.member_server x place) x) place is_booked
                (shelves.held_index (h.w.member_server x place) x holds) within (shelves.held_member (h.w.member_server x place) x holds),
          )
      by (inr lost) = inr lost

  pub is_whole : IsWhole g n r.target.seg
  is_whole = record {
    text = h.book x;
    flown = h.flown.all x is_booked;
    named = named ∙ ap (λ (z : Target). z.seg.name) (sym looks);
    grouped = shown.0.grouped x is_booked named ∙ ap (λ (z : Target). z.seg.group) (sym looks);
    whole = each;
  }

pub what_is_read_is_whole : Below → ReadWhole → WhatIsReadIsWhole
what_is_read_is_whole k read g n m s fact b r at kept =
    let w = is_whole k read (doubtful g) n (seen k g n m) s fact b r at kept in
    record { text = w.text; flown = w.flown; named = w.named; grouped = w.grouped; whole = w.whole }
