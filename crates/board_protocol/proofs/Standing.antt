-- The facts of the boards, kept by each step.
use Rattle.std.proofs.Common.{ℕ, ◌≡◌, ◌<◌, ◌≤◌, ◌∙◌, suc, List, [], ◌∷◌, ◌++◌, length, arith, refl, take, subst, sym, ap, le_trans, le_of_eq}
use Rattle.std.proofs.lemmas.Bool.Decides.{nat_tests}
use Rattle.board_protocol.specs.Basics.{put}
use Rattle.board_protocol.specs.Board.{Board}
use Rattle.board_protocol.specs.World.{World}
use Rattle.board_protocol.specs.Growth.{Grows}
use Rattle.board_protocol.specs.Leading.{MayExtend, extends, leads_with, MayLead}
use Rattle.board_protocol.specs.Following.{MayAcceptInstall, MayAcceptAppend, raised, installs, appends}
use Rattle.board_protocol.specs.Packets.{Promised, Install, Append}
use Rattle.board_protocol.specs.Step.{Step}
use Rattle.board_protocol.specs.Step.Step.{Offers, Extends, Ticks, SendsInstall, SendsAppend, Prepares, Promises, LeadsWithOwn, LeadsWithTheirs, LeadsAgain, Installs, InstallsAgain, Appends, AppendsAgain, Hears, Stops, Starts}
use Rattle.board_protocol.proofs.Prefixes.{each, same, pushed, no_longer, through, next, pushed_past, at, above, each_entry, entry}
use Rattle.board_protocol.proofs.Growing.{theirs_below}
use Rattle.board_protocol.proofs.Facts.{Stands, Standing, Sending}

module _ {C : Type 0} where
  -- A board that a step leaves alone.
  elsewhere : (w v : World C) (d : ℕ) (x : Board C) → Grows w v → ((b : ℕ) → v.accepted d b ≡ w.accepted d b) → (w.owner x.ballot ≡ d → v.book x.ballot ≡ w.book x.ballot) → Stands w d x → Stands v d x
  elsewhere w v d x g accepted kept s = record {
    led = g.led x.ballot s.led;
    promised = s.promised;
    now = accepted x.ballot ∙ s.now;
    later = λ b l. accepted b ∙ s.later b l;
    listed = through x.list (w.book x.ballot) (v.book x.ballot) s.listed (g.book x.ballot s.led);
    floor = grind (arith, g.base x.ballot s.led, s.floor);
    own = λ o. let before = (sym (g.owner x.ballot) ∙ o) in kept before ∙ s.own before;
    leading_own = λ l. g.owner x.ballot ∙ s.leading_own l;
    leading_promised = s.leading_promised;
  }

  -- A step that changes no list, no ballot and no accepted length: of the board who, only what it promised, whether it leads, and what it has done.
  light : (w v : World C) (who : ℕ) (x : Board C) → Grows w v → ((k b : ℕ) → v.accepted k b ≡ w.accepted k b) → ((b : ℕ) → v.book b ≡ w.book b) → ((b : ℕ) → v.led b ≡ w.led b) → v.board ≡ put w.board who x → x.ballot ≡ (w.board who).ballot → Stands w who x → Standing w → Standing v
  light w v who x g accepted book led board ballot new s = record {
    stands = subst (λ (f : ℕ → Board C). (k : ℕ) → Stands v k (f k)) (sym board) (each w.board who x (λ k y. Stands v k y) (elsewhere w v who x g (accepted who) (λ o. book x.ballot) new) (λ d n. elsewhere w v d (w.board d) g (accepted d) (λ o. book (w.board d).ballot) (s.stands d)));
    past = λ b l. grind (arith, s.past b, led b, g.ballot (w.owner b), g.owner b);
    small = λ k b. grind (arith, s.small k b, accepted k b, book b);
    used = λ k b l. led b ∙ s.used k b (grind (arith, accepted k b, l));
  }

  extends_stand : (w : World C) (k : ℕ) (c : C) → MayExtend w k → Grows w (extends w k c) → Standing w → Standing (extends w k c)
  extends_stand w k c h g s =
      let x = w.board k in
      let list = x.list ++ (c ∷ []) in
      let v = extends w k c in
      let stands = s.stands k in
      record {
        stands = each w.board k (record x { list = list }) (λ k y. Stands v k y)
            (record {
              led = stands.led;
              promised = stands.promised;
              now = entry w.accepted k x.ballot (length list);
              later = above w.accepted k x.ballot (length list) stands.later;
              listed = grind (arith, nat_tests, same list);
              floor = pushed_past (w.base x.ballot) x.list c stands.floor;
              own = λ o. grind (arith, nat_tests);
              leading_own = stands.leading_own;
              leading_promised = stands.leading_promised;
            })
            (λ d n. elsewhere w v d (w.board d) g (λ b. grind (arith, nat_tests, n)) (λ o. grind (arith, nat_tests, n, stands.leading_own h.leads)) (s.stands d));
        past = λ b l. grind (arith, s.past b l, g.ballot (w.owner b));
        small = each_entry w.accepted k x.ballot (length list) (λ b n. n ≤ length (v.book b)) (le_of_eq (ap length (sym (at w.book x.ballot list))))
            (λ d b. le_trans (s.small d b) (each w.book x.ballot list (λ e ys. length (w.book e) ≤ length ys) (pushed_past (length (w.book x.ballot)) x.list c (le_of_eq (ap length (stands.own (stands.leading_own h.leads))))) (λ e n. grind arith) b));
        used = each_entry w.accepted k x.ballot (length list) (λ b n. 0 < n → w.led b ≡ 1) (λ l. stands.led) s.used;
      }

  leads_with_stand : (w : World C) (k : ℕ) (p : Promised C) (list : List C) → MayLead w k p → (w.board k).ballot < p.ballot → Grows w (leads_with w k p.ballot list) → Standing w → Standing (leads_with w k p.ballot list)
  leads_with_stand w k p list h below g s =
      let x = w.board k in
      let v = leads_with w k p.ballot list in
      let stands = s.stands k in
      let none : (d : ℕ) → w.accepted d p.ballot ≡ 0 = (λ d. grind (arith, s.used d p.ballot, s.past p.ballot, h.own, below)) in
      record {
        stands = each w.board k (record x { ballot = p.ballot; list = list; leads = 1; known = λ j. 0; done = 0 }) (λ k y. Stands v k y)
            (record {
              led = grind (arith, nat_tests);
              promised = grind (arith, h.promised);
              now = entry w.accepted k p.ballot (length list);
              later = above w.accepted k p.ballot (length list) (λ b l. stands.later b (grind (arith, below, l)));
              listed = grind (arith, nat_tests, same list);
              floor = grind (arith, nat_tests);
              own = λ o. grind (arith, nat_tests);
              leading_own = λ l. h.own;
              leading_promised = λ l. h.promised;
            })
            (λ d n. elsewhere w v d (w.board d) g (λ b. grind (arith, nat_tests, n)) (λ o. grind (arith, nat_tests, n, h.own)) (s.stands d));
        past = λ b l. grind (arith, nat_tests, s.past b, g.ballot (w.owner b), h.own);
        small = λ d b. grind (arith, nat_tests, s.small d b, none d);
        used = λ d b l. grind (arith, nat_tests, s.used d b, l);
      }

  installs_stand : (w : World C) (k : ℕ) (p : Install C) → MayAcceptInstall w k p → Grows w (installs w k p) → Standing w → Sending w → Standing (installs w k p)
  installs_stand w k p h g s t =
      let x = w.board k in
      let v = installs w k p in
      let stands = s.stands k in
      let fits = t.installs p h.take.sent in
      record {
        stands = each w.board k (record (raised x p.ballot) { ballot = p.ballot; list = p.list }) (λ k y. Stands v k y)
            (record {
              led = grind (arith, nat_tests, fits.led);
              promised = grind (arith, nat_tests);
              now = entry w.accepted k p.ballot (length p.list);
              later = above w.accepted k p.ballot (length p.list) (λ b l. stands.later b (grind (arith, h.above, l)));
              listed = grind (arith, nat_tests, fits.listed);
              floor = grind (arith, nat_tests, fits.floor);
              own = λ o. absurd (grind (arith, nat_tests, o, s.past p.ballot fits.led, h.above));
              leading_own = λ l. absurd (grind (arith, nat_tests, l, stands.leading_promised, h.above));
              leading_promised = λ l. absurd (grind (arith, nat_tests, l, stands.leading_promised, h.above));
            })
            (λ d n. elsewhere w v d (w.board d) g (λ b. grind (arith, nat_tests, n)) (λ o. refl) (s.stands d));
        past = λ b l. grind (arith, nat_tests, s.past b l, g.ballot (w.owner b));
        small = λ d b. grind (arith, nat_tests, s.small d b, no_longer p.list (w.book p.ballot) fits.listed);
        used = λ d b l. grind (arith, nat_tests, s.used d b, fits.led, l);
      }

  appends_stand : (w : World C) (k : ℕ) (p : Append C) → MayAcceptAppend w k p → Grows w (appends w k p.command) → Standing w → Sending w → Standing (appends w k p.command)
  appends_stand w k p h g s t =
      let x = w.board k in
      let list = x.list ++ (p.command ∷ []) in
      let v = appends w k p.command in
      let stands = s.stands k in
      let fits = t.appends p h.take.sent in
      let shorter : suc (length x.list) ≤ length (w.book x.ballot) = grind (arith, h.take.ballot, h.next, fits.place) in
      record {
        stands = each w.board k (record x { list = list }) (λ k y. Stands v k y)
            (record {
              led = stands.led;
              promised = stands.promised;
              now = entry w.accepted k x.ballot (length list);
              later = above w.accepted k x.ballot (length list) stands.later;
              listed = next x.list (w.book x.ballot) p.place p.command stands.listed h.next (subst (λ b. take (suc p.place) (w.book b) ≡ take p.place (w.book b) ++ (p.command ∷ [])) (sym h.take.ballot) fits.command);
              floor = pushed_past (w.base x.ballot) x.list p.command stands.floor;
              own = λ o. absurd (grind (arith, stands.own o, shorter));
              leading_own = stands.leading_own;
              leading_promised = stands.leading_promised;
            })
            (λ d n. elsewhere w v d (w.board d) g (λ b. grind (arith, nat_tests, n)) (λ o. refl) (s.stands d));
        past = λ b l. grind (arith, s.past b l, g.ballot (w.owner b));
        small = each_entry w.accepted k x.ballot (length list) (λ b n. n ≤ length (w.book b)) (subst (λ n. n ≤ length (w.book x.ballot)) (sym (pushed x.list p.command)) shorter) s.small;
        used = each_entry w.accepted k x.ballot (length list) (λ b n. 0 < n → w.led b ≡ 1) (λ l. stands.led) s.used;
      }

  pub keeps : (w v : World C) → Step w v → Grows w v → Standing w → Sending w → Standing v
  keeps w v (Offers k c up) g s t = light w v k _ g (λ k b. refl) (λ b. refl) (λ b. refl) refl refl (grind (arith, nat_tests, s.stands k)) s
  keeps w v (Extends k c h) g s t = extends_stand w k c h.extend g s
  keeps w v (Ticks k c h) g s t = extends_stand w k c h g s
  keeps w v (SendsInstall k j h) g s t = grind (arith, s.stands, s.past, s.small)
  keeps w v (SendsAppend k j n c h) g s t = grind (arith, s.stands, s.past, s.small)
  keeps w v (Prepares k b h) g s t = light w v k _ g (λ k b. refl) (λ b. refl) (λ b. refl) refl refl (grind (arith, nat_tests, s.stands k)) s
  keeps w v (Promises k p h) g s t = light w v k _ g (λ k b. refl) (λ b. refl) (λ b. refl) refl refl (grind (arith, nat_tests, s.stands k)) s
  keeps w v (LeadsWithOwn k p h) g s t = leads_with_stand w k p (w.board k).list h.lead h.below g s
  keeps w v (LeadsWithTheirs k p h) g s t = leads_with_stand w k p p.list h.lead (theirs_below w k p h s t) g s
  keeps w v (LeadsAgain k p h) g s t = light w v k _ g (λ k b. refl) (λ b. refl) (λ b. refl) refl refl (grind (arith, nat_tests, s.stands k)) s
  keeps w v (Installs k p h) g s t = installs_stand w k p h g s t
  keeps w v (InstallsAgain k p h) g s t = light w v k _ g (λ k b. refl) (λ b. refl) (λ b. refl) refl refl (grind (arith, nat_tests, s.stands k)) s
  keeps w v (Appends k p h) g s t = appends_stand w k p h g s t
  keeps w v (AppendsAgain k p h) g s t = grind (arith, s.stands, s.past, s.small)
  keeps w v (Hears k p rest h left) g s t = light w v k _ g (λ k b. refl) (λ b. refl) (λ b. refl) refl refl (grind (arith, nat_tests, s.stands k)) s
  keeps w v (Stops k) g s t = light w v k _ g (λ k b. refl) (λ b. refl) (λ b. refl) refl refl (grind (arith, nat_tests, s.stands k)) s
  keeps w v (Starts k) g s t = light w v k _ g (λ k b. refl) (λ b. refl) (λ b. refl) refl refl (grind (arith, nat_tests, s.stands k)) s
