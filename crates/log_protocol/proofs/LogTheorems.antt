-- The laws of one log, drawn from the invariant.
use Rattle.std.proofs.Common.{◌≡◌, ℕ, zero, suc, ◌<◌, ◌≤◌, ◌⊎◌, inl, inr, refl, sym, ap, ◌∙◌, subst, arith}
use Rattle.log_protocol.specs.Phase
use Rattle.log_protocol.specs.State.{State}
use Rattle.log_protocol.specs.LogLaws.{Reached, LogsWhole, OneText, OneLine, AdoptsOne, FeedWhole}
use Rattle.log_protocol.proofs.Invariant.{Invariant}
use Rattle.log_protocol.proofs.Induction.{always}
use Rattle.log_protocol.proofs.ReadChain.{Chain, chain_read}

pub logs_whole_always : (w : State) → Reached w → LogsWhole w
logs_whole_always w reached x j filed kept member =
    let i = always w reached in
    held_or (w.holds (w.member_server x j) x) refl (i.shelf.texts.held_flag (w.member_server x j) x) i
  where
    held_or : (h : ℕ) → w.holds (w.member_server x j) x ≡ h → w.holds (w.member_server x j) x ≤ 1 → Invariant w
        → ((w.holds (w.member_server x j) x ≡ 1) × (w.kept_index (w.member_server x j) x ≡ j)) ⊎ (w.member_generation x j < w.generation (w.member_server x j))
    held_or zero e flag i = inr (i.shelf.secured.secured_held x j (i.shelf.filed.filed_secured x j filed) kept member e)
    held_or (suc h) e flag i =
        let one : w.holds (w.member_server x j) x ≡ 1 = omega arith in
        let t = i.shelf.texts in
        inl (
          one,
          t.distinct x (w.kept_index (w.member_server x j) x) j (i.shelf.filed.filed_booked x filed) (t.held_index (w.member_server x j) x one) member
              (t.held_member (w.member_server x j) x one),
        )

pub one_text_always : (w : State) → Reached w → OneText w
one_text_always w reached = let t = (always w reached).shelf.texts in record { held = t.held_text; stored = t.store_text; told = t.fragment_text }

pub one_line_always : (w : State) → Reached w → w.clean ≡ 1 → OneLine w
one_line_always w reached clean = let i = always w reached in let l = i.line clean in record {
  no_two = λ x y fx fy e. sym (l.filed_line x fx) ∙ (ap w.line e ∙ l.filed_line y fy);
  no_gap = λ q some highest. (w.line q, l.line_filed q some highest, l.line_seq q some highest);
  linked = λ x y fx fy e above. let b = i.shelf.horizons.line_past in let c = l.filed_head x fx in
      let d = l.line_prior (w.seq_of y) (omega arith) (omega arith) in
      ap w.prior_of (sym (ap w.line e ∙ l.filed_line x fx)) ∙ (d ∙ l.filed_line y fy);
}

pub adopts_one_always : (w : State) → Reached w → w.clean ≡ 1 → AdoptsOne w
adopts_one_always w reached clean path lowest q writing read beyond below some =
    let i = always w reached in
    let chain : Chain w path lowest = chain_read w path lowest writing i.shelf.horizons i.shelf.priors read in
    let above : lowest ≤ q =
    (let c = read.cut in let l = (i.line clean).low_head in let m = i.shelf.horizons.read_past (omega arith) (omega arith) in omega arith) in
    let booked = chain.booked q above below in
    let e = chain.seq q above below in
    let boot = (i.spans clean).content_head (path q) booked (omega arith) some in
    let f = (i.line clean).served_next (path q) booked boot in
    let one : q ≡ suc w.head = omega arith in
    record {
      next = one;
      boot = boot;
      content = i.shelf.contents.one_content (path q) booked
          ∙ (ap (λ z. w.content_at z (w.incarnation_of (path q))) (e ∙ one) ∙ ap (w.content_at (suc w.head)) boot);
    }

pub feed_whole_always : (w : State) → Reached w → w.clean ≡ 1 → w.phase ≡ Phase.serving → FeedWhole w
feed_whole_always w reached clean serving = let i = always w reached in let l = i.line clean in record {
  covered = i.shelf.horizons.feed_covered serving;
  filed = λ q above highest. let e = l.feed_line q serving above highest in
      (subst (λ x. w.filed x ≡ 1) (sym e) (l.line_filed q (omega arith) highest), ap w.seq_of e ∙ l.line_seq q (omega arith) highest);
}
