-- How each ballot got its leader, kept by each step.
use Rattle.std.proofs.Common.{ℕ, ◌≡◌, ◌<◌, ◌≤◌, ◌∙◌, List, length, arith, refl, take, sym, ap}
use Rattle.std.proofs.lemmas.Bool.Decides.{nat_tests}
use Rattle.board_protocol.specs.Basics.{Prefix}
use Rattle.board_protocol.specs.World.{World}
use Rattle.board_protocol.specs.Growth.{Grows}
use Rattle.board_protocol.specs.Leading.{leads_with, MayLead, MayLeadWithOwn, MayLeadWithTheirs}
use Rattle.board_protocol.specs.Packets.{Promised}
use Rattle.board_protocol.specs.Step.{Step}
use Rattle.board_protocol.specs.Step.Step.{LeadsWithOwn, LeadsWithTheirs}
use Rattle.board_protocol.proofs.Prefixes.{each, same, no_longer, kept, at}
use Rattle.board_protocol.proofs.Growing.{theirs_below}
use Rattle.board_protocol.proofs.Facts.{Standing, Sending, Voter, Elected, Electing}

module _ {C : Type 0} where
  voter_on : (w v : World C) (c source k : ℕ) → Grows w v → v.base c ≡ w.base c → (0 < c → source < c) → Voter w c source k → Voter v c source k
  voter_on w v c source k g base below a = record {
    board = a.board;
    promised = grind (arith, a.promised, g.promised k);
    between = λ b l m. g.frozen k b (grind (arith, m, a.promised)) ∙ a.between b l m;
    at = λ l. grind (arith, g.frozen k source, a.promised, l, a.at l, base);
  }

  elected_on : (w v : World C) (c : ℕ) → Grows w v → w.led c ≡ 1 → Elected w c → Elected v c
  elected_on w v c g led e =
      let base = g.base c led in
      let own = g.book c led in
      let origin = g.book e.source e.led in
      record {
        source = e.source;
        led = g.led e.source e.led;
        below = e.below;
        floor = grind (arith, base, g.base e.source e.led, e.floor);
        reach = grind (arith, base, e.reach, no_longer (w.book e.source) (v.book e.source) origin);
        within = grind (arith, base, e.within, no_longer (w.book c) (v.book c) own);
        shared = ap (λ n. take n (v.book c)) base ∙ kept (w.base c) (w.book c) (v.book c) own e.within ∙ e.shared
            ∙ sym (kept (w.base c) (w.book e.source) (v.book e.source) origin e.reach) ∙ ap (λ n. take n (v.book e.source)) (sym base);
        one = e.one;
        other = e.other;
        apart = e.apart;
        one_voted = voter_on w v c e.source e.one g base e.below e.one_voted;
        other_voted = voter_on w v c e.source e.other g base e.below e.other_voted;
      }

  -- A new leader. Its list is that of the source, the greater ballot of the two answers.
  lead_elected : (w : World C) (k : ℕ) (p : Promised C) (list : List C) (source : ℕ) → MayLead w k p → Standing w → Grows w (leads_with w k p.ballot list)
      → w.led source ≡ 1 → source < p.ballot → w.base source ≤ length list → Prefix list (w.book source)
      → ((b : ℕ) → source < b → b < p.ballot → w.accepted k b ≡ 0) → w.accepted k source ≤ length list
      → ((b : ℕ) → source < b → b < p.ballot → w.accepted p.from b ≡ 0) → w.accepted p.from source ≤ length list
      → p.ballot ≤ (w.board p.from).promised
      → Elected (leads_with w k p.ballot list) p.ballot
  lead_elected w k p list source h s g led below floor listed own_between own_at their_between their_at promised =
      let v = leads_with w k p.ballot list in
      let b = p.ballot in
      let base = at w.base b (length list) in
      let book = at w.book b list in
      let stays : v.book source ≡ w.book source = grind (nat_tests, arith, below) in
      record {
        source = source;
        led = g.led source led;
        below = λ l. below;
        floor = grind (arith, base, g.base source led, floor);
        reach = grind (arith, base, no_longer list (w.book source) listed, stays);
        within = grind (arith, base, book);
        shared = ap (λ ys. take (v.base b) ys) book ∙ ap (λ n. take n list) base ∙ same list ∙ sym listed ∙ ap (λ n. take n (w.book source)) (sym base) ∙ ap (take (v.base b)) (sym stays);
        one = k;
        other = p.from;
        apart = λ e. h.apart (sym e);
        one_voted = record {
          board = h.board;
          promised = grind (arith, g.promised k, h.promised);
          between = λ c l m. g.frozen k c (grind (arith, m, h.promised)) ∙ own_between c l m;
          at = λ l. grind (arith, base, g.frozen k source, below, h.promised, own_at);
        };
        other_voted = record {
          board = h.other;
          promised = grind (arith, g.promised p.from, promised);
          between = λ c l m. g.frozen p.from c (grind (arith, m, promised)) ∙ their_between c l m;
          at = λ l. grind (arith, base, g.frozen p.from source, below, promised, their_at);
        };
      }

  all_on : (w v : World C) → Grows w v → ((b : ℕ) → v.led b ≡ w.led b) → Electing w → Electing v
  all_on w v g led a c k = let before = sym (led c) ∙ k in elected_on w v c g before (a c before)

  one_more : (w : World C) (k b : ℕ) (list : List C) → Grows w (leads_with w k b list) → Elected (leads_with w k b list) b → Electing w → Electing (leads_with w k b list)
  one_more w k b list g new a = each w.led b 1 (λ d n. n ≡ 1 → Elected (leads_with w k b list) d) (λ l. new) (λ d n l. elected_on w (leads_with w k b list) d g l (a d l))

  own_elected : (w : World C) (k : ℕ) (p : Promised C) → MayLeadWithOwn w k p → Standing w → Sending w → Grows w (leads_with w k p.ballot (w.board k).list) → Elected (leads_with w k p.ballot (w.board k).list) p.ballot
  own_elected w k p h s t g =
      let x = w.board k in
      let stands = s.stands k in
      let fits = t.promises p h.lead.sent in
      lead_elected w k p x.list x.ballot h.lead s g stands.led h.below stands.floor stands.listed
      (λ b l m. stands.later b l) (grind (arith, stands.now))
      (λ b l m. fits.between b (grind (arith, h.least, l)) m) (grind (arith, h.least, fits.between x.ballot, fits.at, h.below))
      fits.promised

  theirs_elected : (w : World C) (k : ℕ) (p : Promised C) → MayLeadWithTheirs w k p → Standing w → Sending w → Grows w (leads_with w k p.ballot p.list) → Elected (leads_with w k p.ballot p.list) p.ballot
  theirs_elected w k p h s t g =
      let x = w.board k in
      let stands = s.stands k in
      let fits = t.promises p h.lead.sent in
      let below = theirs_below w k p h s t in
      let last : p.last < p.ballot = grind (arith, fits.last, s.past p.last fits.led, h.lead.own, below) in
      lead_elected w k p p.list p.last h.lead s g fits.led last fits.floor fits.listed
      (λ b l m. stands.later b (grind (arith, h.greater, l))) (grind (arith, h.greater, stands.now, stands.later p.last))
      fits.between (fits.at last)
      fits.promised

  pub keeps : (w v : World C) → Step w v → Grows w v → Standing w → Sending w → Electing w → Electing v
  keeps w v (LeadsWithOwn k p h) g s t a = one_more w k p.ballot (w.board k).list g (own_elected w k p h s t g) a
  keeps w v (LeadsWithTheirs k p h) g s t a = one_more w k p.ballot p.list g (theirs_elected w k p h s t g) a
  keeps w v step g s t a = all_on w v g (λ b. refl) a
