-- The facts of packets, kept by each step.
use Rattle.std.proofs.Common.{ℕ, ◌≡◌, ◌<◌, ◌≤◌, ◌∙◌, suc, List, [], ◌∷◌, ◌++◌, length, arith, inl, inr, take, subst, sym, ap, ⊎_elim, ◌⊎◌}
use Rattle.std.proofs.lemmas.Bool.Decides.{nat_tests}
use Rattle.board_protocol.specs.Basics.{In, Prefix}
use Rattle.board_protocol.specs.World.{World}
use Rattle.board_protocol.specs.Growth.{Grows}
use Rattle.board_protocol.specs.Leading.{MayAppend, extends, leads_with, leads_again}
use Rattle.board_protocol.specs.Following.{MayPromise, promises}
use Rattle.board_protocol.specs.Packets.{Prepare, Promised, Install, Append, Accepted}
use Rattle.board_protocol.specs.Step.{Step}
use Rattle.board_protocol.specs.Step.Step.{Offers, Extends, Ticks, SendsInstall, SendsAppend, Prepares, Promises, LeadsWithOwn, LeadsWithTheirs, LeadsAgain, Installs, InstallsAgain, Appends, AppendsAgain, Hears, Stops, Starts}
use Rattle.board_protocol.proofs.Prefixes.{same, pushed, no_longer, through, kept, at, last}
use Rattle.board_protocol.proofs.Facts.{Stands, Standing, Sending, PromisedFits, InstallFits, AppendFits}

-- The packet that a step sends, or one sent before.
added : {X : Type 0} (P : X → Type 0) (x : X) (xs : List X) → P x → (y : X) → In y (x ∷ xs) → P y ⊎ In y xs
added P x xs k y (inl e) = inl (subst P (sym e) k)
added P x xs k y (inr l) = inr l

module _ {C : Type 0} where
  -- What was sent before a step still fits after it.
  promised_on : (w v : World C) (p : Promised C) → Grows w v → PromisedFits w p → PromisedFits v p
  promised_on w v p g f = record {
    promised = grind (arith, f.promised, g.promised p.from);
    last = f.last;
    led = g.led p.last f.led;
    listed = through p.list (w.book p.last) (v.book p.last) f.listed (g.book p.last f.led);
    floor = grind (arith, g.base p.last f.led, f.floor);
    between = λ b k l. g.frozen p.from b (grind (arith, l, f.promised)) ∙ f.between b k l;
    at = λ l. grind (arith, g.frozen p.from p.last, f.at l, f.promised, l);
  }

  install_on : (w v : World C) (p : Install C) → Grows w v → InstallFits w p → InstallFits v p
  install_on w v p g f = record {
    led = g.led p.ballot f.led;
    listed = through p.list (w.book p.ballot) (v.book p.ballot) f.listed (g.book p.ballot f.led);
    floor = grind (arith, g.base p.ballot f.led, f.floor);
  }

  append_on : (w v : World C) (p : Append C) → Grows w v → AppendFits w p → AppendFits v p
  append_on w v p g f =
      let grown = g.book p.ballot f.led in
      record {
        led = g.led p.ballot f.led;
        place = grind (arith, f.place, no_longer (w.book p.ballot) (v.book p.ballot) grown);
        command = kept (suc p.place) (w.book p.ballot) (v.book p.ballot) grown f.place ∙ f.command ∙ ap (λ xs. xs ++ (p.command ∷ [])) (sym (kept p.place (w.book p.ballot) (v.book p.ballot) grown (grind (arith, f.place))));
      }

  -- A step adds at most one packet of each kind, which fits.
  on : (w v : World C) → Grows w v → Sending w
      → ((p : Promised C) → In p v.promises → PromisedFits v p ⊎ In p w.promises)
      → ((p : Install C) → In p v.installs → InstallFits v p ⊎ In p w.installs)
      → ((p : Append C) → In p v.appends → AppendFits v p ⊎ In p w.appends)
      → ((p : Accepted) → In p v.accepts → (p.length ≤ v.accepted p.from p.ballot) ⊎ In p w.accepts)
      → Sending v
  on w v g t a b c d = record {
    promises = λ p k. ⊎_elim (λ f. f) (λ l. promised_on w v p g (t.promises p l)) (a p k);
    installs = λ p k. ⊎_elim (λ f. f) (λ l. install_on w v p g (t.installs p l)) (b p k);
    appends = λ p k. ⊎_elim (λ f. f) (λ l. append_on w v p g (t.appends p l)) (c p k);
    accepts = λ p k. ⊎_elim (λ f. f) (λ l. grind (arith, t.accepts p l, g.accepted p.from p.ballot)) (d p k);
  }

  -- What each step sends fits.
  install_fits : (w : World C) (k : ℕ) → Stands w k (w.board k) → InstallFits w (record { ballot = (w.board k).ballot; list = (w.board k).list })
  install_fits w k s = record { led = s.led; listed = s.listed; floor = s.floor }

  again_installs : (w : World C) (k : ℕ) → Stands w k (w.board k) → InstallFits (leads_again w k) (record { ballot = (w.board k).ballot; list = (w.board k).list })
  again_installs w k s = record { led = s.led; listed = s.listed; floor = s.floor }

  extend_fits : (w : World C) (k : ℕ) (c : C) → Stands w k (w.board k) → AppendFits (extends w k c) (record { ballot = (w.board k).ballot; place = length (w.board k).list; command = c })
  extend_fits w k c s =
      let x = w.board k in
      let book = at w.book x.ballot (x.list ++ (c ∷ [])) in
      record {
        led = s.led;
        place = subst (λ ys. length x.list < length ys) (sym book) (grind (arith, pushed x.list c));
        command = subst (λ ys. take (suc (length x.list)) ys ≡ take (length x.list) ys ++ (c ∷ [])) (sym book) (last x.list c);
      }

  again_fits : (w : World C) (k j n : ℕ) (c : C) → MayAppend w k j n c → Stands w k (w.board k) → AppendFits w (record { ballot = (w.board k).ballot; place = n; command = c })
  again_fits w k j n c h s =
      let x = w.board k in
      let book = s.own (s.leading_own h.leads) in
      record {
        led = s.led;
        place = subst (λ ys. n < length ys) (sym book) h.behind;
        command = subst (λ ys. take (suc n) ys ≡ take n ys ++ (c ∷ [])) (sym book) h.command;
      }

  promise_fits : (w : World C) (k : ℕ) (p : Prepare) → MayPromise w k p → Stands w k (w.board k) → PromisedFits (promises w k p.ballot) (record { from = k; ballot = p.ballot; last = (w.board k).ballot; list = (w.board k).list })
  promise_fits w k p h s = record {
    promised = grind (arith, nat_tests);
    last = grind (arith, h.least, s.promised);
    led = s.led;
    listed = s.listed;
    floor = s.floor;
    between = λ b k l. s.later b k;
    at = λ l. grind (arith, s.now);
  }

  lead_fits : (w : World C) (k b : ℕ) (list : List C) → InstallFits (leads_with w k b list) (record { ballot = b; list = list })
  lead_fits w k b list = record {
    led = at w.led b 1;
    listed = subst (λ ys. Prefix list ys) (sym (at w.book b list)) (same list);
    floor = grind (arith, at w.base b (length list));
  }

  pub keeps : (w v : World C) → Step w v → Grows w v → Standing w → Standing v → Sending w → Sending v
  keeps w v (Offers k c up) g s u t = on w v g t (λ p. inr) (λ p. inr) (λ p. inr) (λ p. inr)
  keeps w v (Extends k c h) g s u t = on w v g t (λ p. inr) (λ p. inr) (added (AppendFits v) _ w.appends (extend_fits w k c (s.stands k))) (λ p. inr)
  keeps w v (Ticks k c h) g s u t = on w v g t (λ p. inr) (λ p. inr) (added (AppendFits v) _ w.appends (extend_fits w k c (s.stands k))) (λ p. inr)
  keeps w v (SendsInstall k j h) g s u t = on w v g t (λ p. inr) (added (InstallFits v) _ w.installs (install_fits v k (u.stands k))) (λ p. inr) (λ p. inr)
  keeps w v (SendsAppend k j n c h) g s u t = on w v g t (λ p. inr) (λ p. inr) (added (AppendFits v) _ w.appends (again_fits v k j n c (record { up = h.up; leads = h.leads; known = h.known; behind = h.behind; command = h.command }) (u.stands k))) (λ p. inr)
  keeps w v (Prepares k b h) g s u t = on w v g t (λ p. inr) (λ p. inr) (λ p. inr) (λ p. inr)
  keeps w v (Promises k p h) g s u t = on w v g t (added (PromisedFits v) _ w.promises (promise_fits w k p h (s.stands k))) (λ p. inr) (λ p. inr) (λ p. inr)
  keeps w v (LeadsWithOwn k p h) g s u t = on w v g t (λ p. inr) (added (InstallFits v) _ w.installs (lead_fits w k p.ballot (w.board k).list)) (λ p. inr) (λ p. inr)
  keeps w v (LeadsWithTheirs k p h) g s u t = on w v g t (λ p. inr) (added (InstallFits v) _ w.installs (lead_fits w k p.ballot p.list)) (λ p. inr) (λ p. inr)
  keeps w v (LeadsAgain k p h) g s u t = on w v g t (λ p. inr) (added (InstallFits v) _ w.installs (again_installs w k (s.stands k))) (λ p. inr) (λ p. inr)
  keeps w v (Installs k p h) g s u t = on w v g t (λ p. inr) (λ p. inr) (λ p. inr) (added (λ p. p.length ≤ v.accepted p.from p.ballot) _ w.accepts (grind (arith, nat_tests)))
  keeps w v (InstallsAgain k p h) g s u t = on w v g t (λ p. inr) (λ p. inr) (λ p. inr) (added (λ p. p.length ≤ v.accepted p.from p.ballot) _ w.accepts (grind (arith, nat_tests, (s.stands k).now, h.same)))
  keeps w v (Appends k p h) g s u t = on w v g t (λ p. inr) (λ p. inr) (λ p. inr) (added (λ p. p.length ≤ v.accepted p.from p.ballot) _ w.accepts (grind (arith, nat_tests)))
  keeps w v (AppendsAgain k p h) g s u t = on w v g t (λ p. inr) (λ p. inr) (λ p. inr) (added (λ p. p.length ≤ v.accepted p.from p.ballot) _ w.accepts (grind (arith, (s.stands k).now)))
  keeps w v (Hears k p rest h left) g s u t = on w v g t (λ p. inr) (λ p. inr) (λ p. inr) (λ p. inr)
  keeps w v (Stops k) g s u t = on w v g t (λ p. inr) (λ p. inr) (λ p. inr) (λ p. inr)
  keeps w v (Starts k) g s u t = on w v g t (λ p. inr) (λ p. inr) (λ p. inr) (λ p. inr)
