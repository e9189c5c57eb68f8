-- Filed segments stand in one line: read off a run of which no restart was doubtful.
use Rattle.log_law.specs.Restarts.{is_serving}
use Rattle.log_law.proofs.Feeding.{passes}
use Rattle.log_law.proofs.Gapless.{Gapless}
use Rattle.std.proofs.Common.{◌≡◌, ℕ, suc, ◌-◌, ◌<◌, ◌≤◌, false, sym, ap, ◌∙◌, arith}
use Rattle.xfs_base.specs.declared.segment.SegName.{SegName}
use Rattle.segment_format.specs.declared.segment.Segment.{Segment}
use Rattle.log_protocol.specs.LogLaws as laws
use Rattle.log_protocol.specs.Tables.{In}
use Rattle.log_tie.specs.Setting.{Setting, name_of}
use Rattle.log_tie.proofs.Names.{one_number}
use Rattle.log_law.specs.Net.{Net}
use Rattle.log_law.specs.Laws.{OneLine, LogsStayInLine, TheFeedIsWhole}
use Rattle.log_law.specs.Below.{Below}
use Rattle.log_law.proofs.Views.{View}
use Rattle.log_law.proofs.Wholeness.{page, filed_booked}
use Rattle.log_law.proofs.Followed.{along_moment}

module _ (k : Below) (g : Setting) (none : g.doubts ≡ false) (n : Net) (h : View g n) where
  law : laws.OneLine h.w
  law = k.protocol.line h.w h.reached (h.calm none)

  -- the number of a filed name
  pub record Filed (name : SegName) : Type 0 where
    pub number : ℕ
    pub named : name ≡ name_of g number
    pub filed : h.w.filed number ≡ 1
    pub booked : h.w.booked number ≡ 1
    pub seq : h.w.seq_of number ≡ name.seq

  pub number_of : (name : SegName) → In name n.filed → Filed name
  number_of name fact = let f = h.filed name fact in record {
    number = f.0;
    named = f.1;
    filed = f.2;
    booked = filed_booked k g n h f.0 f.2;
    seq = ap (λ t. t f.0) h.fixed.seq_of ∙ sym (ap (λ (z : SegName). z.seq) f.1);
  }

  no_two : (a b : SegName) → In a n.filed → In b n.filed → a.seq ≡ b.seq → a ≡ b
  no_two a b ia ib same =
      let x = number_of a ia in
      let y = number_of b ib in
      x.named ∙ (ap (name_of g) (law.no_two x.number y.number x.filed y.filed (x.seq ∙ (same ∙ sym y.seq))) ∙ sym y.named)

  linked : (s t : Segment) → In s n.flown → In t n.flown → In s.name n.filed → In t.name n.filed → suc t.name.seq ≡ s.name.seq → n.low < s.name.seq
      → s.prior.pass ≡ t.name.pass
  linked s t fact it fs ft next above =
      let x = number_of s.name fs in
      let y = number_of t.name ft in
      let b = h.flown.booked s fact in
      let same : b.0 ≡ x.number = one_number g b.0 x.number (sym (page k g n h b.0 b.1).named ∙ (ap (λ (z : Segment). z.name) (sym b.2) ∙ x.named)) in
      let prior : h.w.prior_of x.number ≡ y.number =
      law.linked x.number y.number x.filed y.filed (let p = x.seq in let q = y.seq in omega arith) (let p = x.seq in let l = h.low in omega arith) in
      let some : 0 < y.number = (k.protocol.book h.w h.reached).named y.number y.booked in
      ap (λ (z : Segment). z.prior.pass) (b.2 ∙ ap h.book same)
      ∙ (passes g (h.book x.number).prior.pass ((h.book x.number).name.seq - 1) y.number some (sym (page k g n h x.number x.booked).follows ∙ prior)
      ∙ sym (ap (λ (z : SegName). z.pass) y.named))

  -- a filed name is no further than the head
  pub within : (name : SegName) → In name n.filed → name.seq ≤ h.w.head
  within name fact = let x = number_of name fact in let a = x.seq in let b =
      (k.protocol.head h.w h.reached (h.calm none)).filed_head x.number x.filed in omega arith

  pub one_line : Gapless n h.w.head → OneLine g n
  one_line gapless = record { no_two = no_two; no_gap = λ name fact q some less. gapless q some (let a = within name fact in omega arith); linked = linked }

pub logs_stay_in_line : Below → LogsStayInLine
logs_stay_in_line k g n none m sure = (let a = along_moment k g none n m sure in one_line k g none n a.view a.gapless)

pub the_feed_is_whole : Below → TheFeedIsWhole
the_feed_is_whole k g n none m sure s fact name among above = (along_moment k g none n m sure).fed (ap is_serving fact) name among above
