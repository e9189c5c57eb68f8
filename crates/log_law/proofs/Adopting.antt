-- What a reopening adopts: of what it reads back beyond what was filed, only what the last boot that served had in flight tells anything.
use Rattle.log_law.proofs.Flights.{FlightOf}
use Rattle.std.proofs.Common.{◌≡◌, ℕ, zero, suc, ◌+◌, ◌-◌, ◌≤◌, ◌<◌, ◌⊎◌, Bool, true, false, nat_lt, List, [], ◌∷◌, length, refl, sym, ap, subst, ◌∙◌, inl, inr, arith, Some}
use Rattle.std.proofs.lemmas.Bool.{ltb-false, ltb-true}
use Rattle.xfs_base.specs.declared.segment.SegName.{SegName}
use Rattle.segment_format.specs.declared.segment.Segment.{Segment}
use Rattle.log_flight.specs.Flights.{FlightState}
use Rattle.client_log.specs.LogState.{LogState}
use Rattle.log_protocol.specs.OpeningSteps.{ReadBack}
use Rattle.log_protocol.specs.State.{State}
use Rattle.log_protocol.specs.StateLaws.{EndIsHead}
use Rattle.log_protocol.specs.Tables.{In}
use Rattle.log_tie.specs.Setting.{Setting, name_of}
use Rattle.log_tie.specs.Seen.{Book, Fixed}
use Rattle.log_tie.specs.Openings.{Chained, WritingShown}
use Rattle.log_tie.proofs.Openings.{back, path, path_read, back_chained}
use Rattle.log_law.specs.Net.{Net, opening}
use Rattle.log_law.specs.Net.Owner.{Writing}
use Rattle.log_law.specs.Events.{Runs}
use Rattle.log_law.specs.Restarts.{is_serving, last_flight}
use Rattle.log_law.specs.Laws.{IsNoFurther, IsAttemptOf, IsAdopted, AReopeningAdopts}
use Rattle.log_law.specs.Below.{Below}
use Rattle.log_law.proofs.Views.{OwnerShown, View}
use Rattle.log_law.proofs.Followed.{Along, along_moment}

module _ (g : Setting) (w : State) (book : ℕ → Segment) (fixed : Fixed g w) (paged : Book g w book) (lowest highest : ℕ)
    (opening_at : w.opening_seq ≡ highest + 1) where
  -- a segment of the chain, on the path
  pub record OnPath (t : Segment) : Type 0 where
    pub number : ℕ
    pub booked : w.booked number ≡ 1
    pub in_book : t ≡ book number
    pub there : path w (w.seq_of number) ≡ number
    pub below : w.seq_of number < w.opening_seq

  on_path : (x : ℕ) (ts : List Segment) → Chained g w book highest x ts → (t : Segment) → In t ts → OnPath t
  on_path x [] h t fact = absurd fact
  on_path x (s ∷ ss) h t (inl e) =
      record { number = h.0; booked = h.1; in_book = e ∙ h.2; there = ap (back w) depth ∙ sym (back_chained g w book highest h.0 ss h.5); below = less }
    where
      depth : w.opening_seq - suc (w.seq_of h.0) ≡ length ss
      depth = let a = h.4 in let b : w.seq_of h.0 ≡ g.seq_of h.0 = ap (λ k. k h.0) fixed.seq_of in let c = opening_at in omega arith

      less : w.seq_of h.0 < w.opening_seq
      less = let a = h.4 in let b : w.seq_of h.0 ≡ g.seq_of h.0 = ap (λ k. k h.0) fixed.seq_of in let c = opening_at in omega arith
  on_path x (s ∷ ss) h t (inr fact) = on_path h.0 ss h.5 t fact

module _ (k : Below) (g : Setting) (none : g.doubts ≡ false) (first : Net) (serves : is_serving first.owner ≡ true) (n : Net) (run : Runs g first n)
    (a : Along k g none first serves n run) (chain : List Segment) (s : LogState) (e : n.owner ≡ Writing chain s) where
  abbrev h : View g n
  h = a.view

  as_it_writes : WritingShown g h.w h.book chain s
  as_it_writes = (subst (OwnerShown g h.w h.book h.hellos) e h.owner).0

  clean : h.w.clean ≡ 1
  clean = h.calm none

  ends : EndIsHead h.w
  ends = k.protocol.head h.w h.reached clean

  read : ReadBack h.w (path h.w) as_it_writes.read.lowest
  read = path_read h.w as_it_writes.read.lowest as_it_writes.read.picked as_it_writes.read.cut

  -- the newest segment is filed
  newest_filed : 0 < h.w.head → In (name_of g h.w.end) n.filed
  newest_filed some = by h.highest
    where
      by : (h.w.end ≡ 0) ⊎ In (name_of g h.w.end) n.filed → In (name_of g h.w.end) n.filed
      by (inl nothing) =
          let filed = ends.line_filed h.w.head some (omega arith) in
          let positive = (k.protocol.book h.w h.reached).named (h.w.line h.w.head) ((k.protocol.book h.w h.reached).filed_booked (h.w.line h.w.head) filed) in
          let same = ends.its_end in
          absurd (clash h.w.end (h.w.line h.w.head) same nothing positive)
        where
          clash : (p q : ℕ) → p ≡ q → p ≡ 0 → 0 < q → ⊥
          clash p q a b c = omega arith
      by (inr fact) = fact

  pub adopted : (t : Segment) → In t chain → IsAdopted g run n t
  adopted t among = by (nat_lt h.w.head (h.w.seq_of p.number)) refl
    where
      p : OnPath g h.w h.book h.fixed h.paged as_it_writes.read.lowest s.end.seq as_it_writes.read.opening t
      p = on_path g h.w h.book h.fixed h.paged as_it_writes.read.lowest s.end.seq as_it_writes.read.opening as_it_writes.read.next chain
          as_it_writes.read.chained t among

      named : t.name ≡ name_of g p.number
      named = ap (λ (z : Segment). z.name) p.in_book ∙ (h.paged p.number p.booked).named

      seq : h.w.seq_of p.number ≡ t.name.seq
      seq = ap (λ f. f p.number) h.fixed.seq_of ∙ ap (λ (z : SegName). z.seq) (sym named)

      tells : h.w.content_of p.number ≡ g.content t.items
      tells = (h.paged p.number p.booked).tells ∙ ap (λ (z : Segment). g.content z.items) (sym p.in_book)

      -- no further than the head
      no_further : h.w.seq_of p.number ≤ h.w.head → IsNoFurther n t
      no_further less =
          let some = (k.protocol.book h.w h.reached).seq_some p.number p.booked in
          let high : h.w.seq_of h.w.end ≡ h.w.head = ends.end_seq in
          let end_seq : h.w.seq_of h.w.end ≡ g.seq_of h.w.end = ap (λ f. f h.w.end) h.fixed.seq_of in
          let q = seq in (name_of g h.w.end, newest_filed (omega arith), omega arith)

      -- the flight of the last boot that served
      attempt : FlightOf g h.w (last_flight run) p.number → (f : FlightState) × (last_flight run ≡ Some f) × IsAttemptOf g f t
      attempt f = (
        f.flight,
        f.flying,
        record {
          seq = ap (λ (z : SegName). z.seq) named ∙ sym f.seq;
          boot = ap (λ (z : SegName). z.pass.inc) named ∙ sym f.boot;
          content = sym tells ∙ f.content;
        },
      )

      -- beyond it
      beyond : h.w.head < h.w.seq_of p.number → (c : ℕ) → h.w.content_of p.number ≡ c
          → (g.content t.items ≡ 0) ⊎ ((f : FlightState) × (last_flight run ≡ Some f) × IsAttemptOf g f t)
      beyond more zero none_told = inl (sym tells ∙ none_told)
      beyond more (suc c) told =
          let law = (k.protocol.adopts h.w h.reached clean) (path h.w) as_it_writes.read.lowest (h.w.seq_of p.number) as_it_writes.phase read more p.below
          (subst (λ y. 0 < h.w.content_of y) (sym p.there) (let c = told in omega arith)) in
          let boot : h.w.incarnation_of p.number ≡ h.w.served = ap h.w.incarnation_of (sym p.there) ∙ law.boot in
          inr (attempt (a.flown p.number p.booked boot law.next))

      by : (b : Bool) → nat_lt h.w.head (h.w.seq_of p.number) ≡ b → IsAdopted g run n t
      by true fact = inr (beyond (ltb-true (h.w.head) (h.w.seq_of p.number) fact) (h.w.content_of p.number) refl)
      by false fact = inl (no_further (ltb-false (h.w.head) (h.w.seq_of p.number) fact))

pub a_reopening_adopts : Below → AReopeningAdopts
a_reopening_adopts k g n none m sure chain s e t among = adopted k g none (opening g m.map) refl n m.run (along_moment k g none n m sure) chain s e t among
