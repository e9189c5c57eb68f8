-- What only grows, kept by each step.
use Rattle.std.proofs.Common.{ℕ, ◌≡◌, ◌<◌, ◌≤◌, List, [], ◌∷◌, ◌++◌, length, arith, refl, inr, subst, sym}
use Rattle.std.proofs.lemmas.Bool.Decides.{nat_tests}
use Rattle.board_protocol.specs.Basics.{put, Prefix}
use Rattle.board_protocol.specs.World.{World}
use Rattle.board_protocol.specs.Growth.{Grows}
use Rattle.board_protocol.specs.Leading.{MayExtend, extends, leads_with, MayLead, MayLeadWithTheirs}
use Rattle.board_protocol.specs.Packets.{Promised}
use Rattle.board_protocol.specs.Step.{Step}
use Rattle.board_protocol.specs.Step.Step.{Extends, Ticks, Prepares, Promises, LeadsWithOwn, LeadsWithTheirs, Installs, InstallsAgain, Appends, Hears}
use Rattle.board_protocol.proofs.Prefixes.{each, same, longer, pushed, no_longer}
use Rattle.board_protocol.proofs.Facts.{Standing, Sending}

module _ {C : Type 0} where
  -- A list that is put at one place and grows there.
  put_grows : (f : ℕ → List C) (c : ℕ) (xs : List C) → Prefix (f c) xs → (d : ℕ) → Prefix (f d) (put f c xs d)
  put_grows f c xs p = each f c xs (λ d ys. Prefix (f d) ys) p (λ d n. same (f d))

  extends_grows : (w : World C) (k : ℕ) (c : C) → MayExtend w k → Standing w → Grows w (extends w k c)
  extends_grows w k c h s =
      let x = w.board k in
      let stands = s.stands k in
      record {
        owner = λ b. refl;
        promised = λ d. grind (arith, nat_tests);
        ballot = λ d. grind (arith, nat_tests);
        accepted = λ d b. grind (arith, nat_tests, stands.now, pushed x.list c);
        frozen = λ d b l. grind (arith, nat_tests, stands.leading_promised h.leads);
        led = λ b l. l;
        base = λ b l. refl;
        book = λ b l. put_grows w.book x.ballot (x.list ++ (c ∷ [])) (subst (λ ys. Prefix ys (x.list ++ (c ∷ []))) (sym (stands.own (stands.leading_own h.leads))) (longer x.list (c ∷ []))) b;
        applied = λ d. grind (arith, nat_tests, same (w.board d).applied);
        prepares = λ p l. l;
        promises = λ p l. l;
        installs = λ p l. l;
        appends = λ p l. inr l;
        accepts = λ p l. l;
      }

  leads_with_grows : (w : World C) (k : ℕ) (p : Promised C) (list : List C) → MayLead w k p → (w.board k).ballot < p.ballot → Standing w → Grows w (leads_with w k p.ballot list)
  leads_with_grows w k p list h below s =
      let x = w.board k in
      let stands = s.stands k in
      let unled : w.led p.ballot ≡ 1 → ⊥ = (λ l. grind (arith, s.past p.ballot l, h.own, below)) in
      record {
        owner = λ b. refl;
        promised = λ d. grind (arith, nat_tests);
        ballot = each w.board k (record x { ballot = p.ballot; list = list; leads = 1; known = λ j. 0; done = 0 }) (λ d y. (w.board d).ballot ≤ y.ballot) (grind (arith, below)) (λ d n. grind arith);
        accepted = each w.accepted k (put (w.accepted k) p.ballot (length list)) (λ d f. (b : ℕ) → w.accepted d b ≤ f b) (each (w.accepted k) p.ballot (length list) (λ b n. w.accepted k b ≤ n) (grind (arith, stands.later p.ballot below)) (λ b n. grind arith)) (λ d n b. grind arith);
        frozen = λ d b l. grind (arith, nat_tests, h.promised, l);
        led = λ b l. grind (arith, nat_tests);
        base = λ b l. grind (arith, nat_tests, unled);
        book = each w.book p.ballot list (λ d ys. w.led d ≡ 1 → Prefix (w.book d) ys) (λ l. absurd (unled l)) (λ d n l. same (w.book d));
        applied = λ d. grind (arith, nat_tests, same (w.board d).applied);
        prepares = λ p l. l;
        promises = λ p l. l;
        installs = λ p l. inr l;
        appends = λ p l. l;
        accepts = λ p l. l;
      }

  -- An answer that is greater than what the preparer has shows that it has not led this ballot.
  pub theirs_below : (w : World C) (k : ℕ) (p : Promised C) → MayLeadWithTheirs w k p → Standing w → Sending w → (w.board k).ballot < p.ballot
  theirs_below w k p h s t =
      let fits = t.promises p h.lead.sent in
      let stands = s.stands k in
      grind (arith, h.greater, fits.last, no_longer p.list (w.book p.last) fits.listed, stands.promised, h.lead.promised, h.lead.own, stands.own)

  pub grows_step : (w v : World C) → Step w v → Standing w → Sending w → Grows w v
  grows_step w v (Extends k c h) s t = extends_grows w k c h.extend s
  grows_step w v (Ticks k c h) s t = extends_grows w k c h s
  grows_step w v (Prepares k b h) s t = grind (arith, nat_tests, same)
  grows_step w v (Promises k p h) s t = grind (arith, nat_tests, same)
  grows_step w v (LeadsWithOwn k p h) s t = leads_with_grows w k p (w.board k).list h.lead h.below s
  grows_step w v (LeadsWithTheirs k p h) s t = leads_with_grows w k p p.list h.lead (theirs_below w k p h s t) s
  grows_step w v (Installs k p h) s t = grind (arith, nat_tests, same, (s.stands k).later p.ballot)
  grows_step w v (InstallsAgain k p h) s t = grind (arith, nat_tests, same)
  grows_step w v (Appends k p h) s t = grind (arith, nat_tests, same, (s.stands k).now, pushed (w.board k).list p.command)
  grows_step w v (Hears k p rest h left) s t = grind (arith, nat_tests, same, longer (w.board k).applied)
  grows_step w v step s t = grind (arith, nat_tests, same)
