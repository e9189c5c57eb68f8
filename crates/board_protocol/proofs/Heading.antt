-- What leaders know, and what boards have done, kept by each step.
use Rattle.std.proofs.Common.{ℕ, ◌≡◌, ◌<◌, ◌≤◌, ◌∙◌, zero, suc, pred, max, List, ◌++◌, length, arith, refl, drop, take, subst, sym, ap, ⊎_elim, le_trans, le_of_eq, length-append, length-drop, length-take-le, drop_of_length-le, append-nil}
use Rattle.std.proofs.lemmas.Bool.Decides.{nat_tests}
use Rattle.board_protocol.specs.Basics.{put, greatest}
use Rattle.board_protocol.specs.Board.{Board}
use Rattle.board_protocol.specs.World.{World}
use Rattle.board_protocol.specs.Growth.{Grows}
use Rattle.board_protocol.specs.Laws.{Chosen}
use Rattle.board_protocol.specs.Leading.{MayHear, hears}
use Rattle.board_protocol.specs.Packets.{Accepted}
use Rattle.board_protocol.specs.Step.{Step}
use Rattle.board_protocol.specs.Step.Step.{Offers, Extends, Ticks, SendsInstall, SendsAppend, Prepares, Promises, LeadsWithOwn, LeadsWithTheirs, LeadsAgain, Installs, InstallsAgain, Appends, AppendsAgain, Hears, Stops, Starts}
use Rattle.board_protocol.proofs.Prefixes.{each, through, completed, order, part}
use Rattle.board_protocol.proofs.Agreeing.{chosen_on, ordered}
use Rattle.board_protocol.proofs.Facts.{Standing, Sending, Electing, Heads, Heading}

-- The other board of which a leader knows most.
pub record Best (known : ℕ → ℕ) (k : ℕ) : Type 0 where
  pub other : ℕ
  pub board : other < 3
  pub apart : k ≡ other → ⊥
  pub best : greatest known ≤ pred (known other)

best : (known : ℕ → ℕ) (k : ℕ) → k < 3 → known k ≤ 1 → Best known k
best known zero l itself = ⊎_elim
    (λ (o : known 1 ≤ known 2). record { other = 2; board = grind arith; apart = λ e. absurd (omega arith); best = grind (arith, o, itself) })
    (λ (o : known 2 ≤ known 1). record { other = 1; board = grind arith; apart = λ e. absurd (omega arith); best = grind (arith, o, itself) })
    (order (known 1) (known 2))
best known (suc zero) l itself = ⊎_elim
    (λ (o : known 0 ≤ known 2). record { other = 2; board = grind arith; apart = λ e. absurd (omega arith); best = grind (arith, o, itself) })
    (λ (o : known 2 ≤ known 0). record { other = 0; board = grind arith; apart = λ e. absurd (omega arith); best = grind (arith, o, itself) })
    (order (known 0) (known 2))
best known (suc (suc zero)) l itself = ⊎_elim
    (λ (o : known 0 ≤ known 1). record { other = 1; board = grind arith; apart = λ e. absurd (omega arith); best = grind (arith, o, itself) })
    (λ (o : known 1 ≤ known 0). record { other = 0; board = grind arith; apart = λ e. absurd (omega arith); best = grind (arith, o, itself) })
    (order (known 0) (known 1))
best known (suc (suc (suc k))) l itself = absurd (omega arith)

module _ {C : Type 0} where
  -- No leader knows more than its list is long.
  pub within : (w : World C) (k : ℕ) (known : ℕ → ℕ) → Standing w → w.owner (w.board k).ballot ≡ k → ((j : ℕ) → known j ≤ suc (w.accepted j (w.board k).ballot)) → greatest known ≤ length (w.board k).list
  within w k known s own all =
      let x = w.board k in
      let enough : (j : ℕ) → known j ≤ suc (length x.list) = (λ j. subst (λ ys. known j ≤ suc (length ys)) ((s.stands k).own own) (grind (arith, all j, s.small j x.ballot))) in
      grind (arith, enough 0, enough 1, enough 2)

  -- What a leader knows of another board is chosen.
  pub done_chosen : (w : World C) (k : ℕ) (known : ℕ → ℕ) → k < 3 → Standing w → w.owner (w.board k).ballot ≡ k → ((j : ℕ) → known j ≤ suc (w.accepted j (w.board k).ballot)) → known k ≤ 1 → Chosen w (take (greatest known) (w.board k).list)
  done_chosen w k known board s own all itself =
      let x = w.board k in
      let b = best known k board itself in
      let short = within w k known s own all in
      let length_done = length-take-le (greatest known) x.list short in
      record {
        ballot = x.ballot;
        one = k;
        other = b.other;
        one_board = board;
        other_board = b.board;
        apart = b.apart;
        one_accepted = grind (arith, length_done, short, (s.stands k).now);
        other_accepted = grind (arith, length_done, b.best, all b.other);
        listed = through (take (greatest known) x.list) x.list (w.book x.ballot) (part (greatest known) x.list short) (s.stands k).listed;
      }

  -- A board that knows, has done and has applied what it had, and leads only if it led, with its ballot.
  heads_on : (w v : World C) (d : ℕ) (x y : Board C) → Grows w v → Standing w → ((j : ℕ) → y.known j ≡ x.known j) → greatest y.known ≡ greatest x.known → y.done ≡ x.done → y.applied ≡ x.applied → (y.leads ≡ 1 → (x.leads ≡ 1) × (y.ballot ≡ x.ballot)) → Heads w d x → Heads v d y
  heads_on w v d x y g s known top done applied leads h = record {
    known = λ l j. let was = leads l in grind (arith, known j, h.known was.0 j, was.1, g.accepted j x.ballot);
    itself = λ l. grind (arith, known d, h.itself (leads l).0);
    done = λ l. done ∙ h.done (leads l).0 ∙ sym top;
    covered = subst (λ ys. y.done ≤ length ys) (sym applied) (subst (λ n. n ≤ length x.applied) (sym done) h.covered);
    applied = λ k. subst (λ ys. Chosen v ys) (sym applied) (chosen_on w v x.applied g s (h.applied k));
  }

  -- A step that changes one board so.
  one_on : (w v : World C) (who : ℕ) (x : Board C) → Grows w v → Standing w → v.board ≡ put w.board who x → Heads v who x → Heading w → Heading v
  one_on w v who x g s board new a = subst (λ (f : ℕ → Board C). (k : ℕ) → Heads v k (f k)) (sym board)
      (each w.board who x (λ k y. Heads v k y) new (λ d other. heads_on w v d (w.board d) (w.board d) g s (λ j. refl) refl refl refl (λ l. (l, refl)) (a d)))

  none_on : (w v : World C) → Grows w v → Standing w → v.board ≡ w.board → Heading w → Heading v
  none_on w v g s board a = subst (λ (f : ℕ → Board C). (k : ℕ) → Heads v k (f k)) (sym board) (λ d. heads_on w v d (w.board d) (w.board d) g s (λ j. refl) refl refl refl (λ l. (l, refl)) (a d))

  -- A board that begins to lead.
  begins_to_lead : (w v : World C) (d : ℕ) (x y : Board C) → Grows w v → Standing w → y.known ≡ (λ j. 0) → y.done ≡ 0 → y.applied ≡ x.applied → Heads w d x → Heads v d y
  begins_to_lead w v d x y g s known done applied h = record {
    known = λ l j. subst (λ (f : ℕ → ℕ). f j ≤ suc (v.accepted j y.ballot)) (sym known) (grind arith);
    itself = λ l. subst (λ (f : ℕ → ℕ). f d ≤ 1) (sym known) (grind arith);
    done = λ l. done ∙ ap greatest (sym known);
    covered = grind (arith, done);
    applied = λ k. subst (λ ys. Chosen v ys) (sym applied) (chosen_on w v x.applied g s (h.applied k));
  }

  -- What follows a list that is no shorter is nothing.
  applied_chosen : (w : World C) (xs ys : List C) → Standing w → Electing w → Chosen w xs → Chosen w ys → Chosen w (xs ++ drop (length xs) ys)
  applied_chosen w xs ys s a x y =
      ⊎_elim
      (λ (l : length xs ≤ length ys). subst (λ zs. Chosen w zs) (sym (completed xs ys (ordered w s a xs ys x y l))) y)
      (λ (l : length ys ≤ length xs). subst (λ zs. Chosen w zs) (sym (ap (λ zs. xs ++ zs) (drop_of_length-le ys l) ∙ append-nil xs)) x)
      (order (length xs) (length ys))

  record Heard (w : World C) (k : ℕ) (known : ℕ → ℕ) : Type 0 where
    all : (j : ℕ) → known j ≤ suc (w.accepted j (w.board k).ballot)
    itself : known k ≤ 1

  heard_fits : (w : World C) (k : ℕ) (p : Accepted) → MayHear w k p → Sending w → Heads w k (w.board k) → Heard w k (put (w.board k).known p.from (max ((w.board k).known p.from) (suc p.length)))
  heard_fits w k p h t head =
      let x = w.board k in
      record {
        all = each x.known p.from (max (x.known p.from) (suc p.length)) (λ j n. n ≤ suc (w.accepted j x.ballot)) (grind (arith, head.known h.leads p.from, t.accepts p h.sent, h.ballot)) (λ j other. head.known h.leads j);
        itself = grind (arith, nat_tests, h.another, head.itself h.leads);
      }

  -- All of a list is covered once what follows of it is added.
  covered : (xs ys : List C) → length ys ≤ length (xs ++ drop (length xs) ys)
  covered xs ys = grind (arith, length-append xs (drop (length xs) ys), length-drop (length xs) ys)

  hears_head : (w : World C) (k : ℕ) (p : Accepted) (rest : List C) → MayHear w k p → Grows w (hears w k p rest) → Standing w → Sending w → Electing w → Heads w k (w.board k)
      → (x : Board C) → x.leads ≡ (w.board k).leads → x.ballot ≡ (w.board k).ballot → x.known ≡ put (w.board k).known p.from (max ((w.board k).known p.from) (suc p.length)) → x.done ≡ greatest x.known
      → x.applied ≡ (w.board k).applied ++ drop (length (w.board k).applied) (take (greatest x.known) (w.board k).list) → Heads (hears w k p rest) k x
  hears_head w k p rest h g s t a head x leads ballot known done applied =
      let before = w.board k in
      let new : Heard w k x.known = subst (λ (f : ℕ → ℕ). Heard w k f) (sym known) (heard_fits w k p h t head) in
      let own = (s.stands k).leading_own h.leads in
      let short = within w k x.known s own new.all in
      record {
        known = λ l j. subst (λ b. x.known j ≤ suc (w.accepted j b)) (sym ballot) (new.all j);
        itself = λ l. new.itself;
        done = λ l. done;
        covered = subst (λ ys. x.done ≤ length ys) (sym applied) (le_trans (le_of_eq (done ∙ sym (length-take-le (greatest x.known) before.list short))) (covered before.applied (take (greatest x.known) before.list)));
        applied = λ board. subst (λ ys. Chosen (hears w k p rest) ys) (sym applied) (chosen_on w (hears w k p rest) (before.applied ++ drop (length before.applied) (take (greatest x.known) before.list)) g s
            (applied_chosen w before.applied (take (greatest x.known) before.list) s a (head.applied board) (done_chosen w k x.known board s own new.all new.itself)));
      }

  pub keeps : (w v : World C) → Step w v → Grows w v → Standing w → Sending w → Electing w → Heading w → Heading v
  keeps w v (Offers k c up) g s t e a = one_on w v k _ g s refl (heads_on w v k (w.board k) _ g s (λ j. refl) refl refl refl (λ l. (l, refl)) (a k)) a
  keeps w v (Extends k c h) g s t e a = one_on w v k _ g s refl (heads_on w v k (w.board k) _ g s (λ j. refl) refl refl refl (λ l. (l, refl)) (a k)) a
  keeps w v (Ticks k c h) g s t e a = one_on w v k _ g s refl (heads_on w v k (w.board k) _ g s (λ j. refl) refl refl refl (λ l. (l, refl)) (a k)) a
  keeps w v (SendsInstall k j h) g s t e a = none_on w v g s refl a
  keeps w v (SendsAppend k j n c h) g s t e a = none_on w v g s refl a
  keeps w v (Prepares k b h) g s t e a = one_on w v k _ g s refl (heads_on w v k (w.board k) _ g s (λ j. refl) refl refl refl (λ l. absurd (omega arith)) (a k)) a
  keeps w v (Promises k p h) g s t e a = one_on w v k _ g s refl (heads_on w v k (w.board k) _ g s (λ j. refl) refl refl refl (λ l. (grind (arith, nat_tests, l), refl)) (a k)) a
  keeps w v (LeadsWithOwn k p h) g s t e a = one_on w v k _ g s refl (begins_to_lead w v k (w.board k) _ g s refl refl refl (a k)) a
  keeps w v (LeadsWithTheirs k p h) g s t e a = one_on w v k _ g s refl (begins_to_lead w v k (w.board k) _ g s refl refl refl (a k)) a
  keeps w v (LeadsAgain k p h) g s t e a = one_on w v k _ g s refl (begins_to_lead w v k (w.board k) _ g s refl refl refl (a k)) a
  keeps w v (Installs k p h) g s t e a = one_on w v k _ g s refl (heads_on w v k (w.board k) _ g s (λ j. refl) refl refl refl (λ l. absurd (grind (arith, nat_tests, l, h.above, (s.stands k).leading_promised))) (a k)) a
  keeps w v (InstallsAgain k p h) g s t e a = one_on w v k _ g s refl (heads_on w v k (w.board k) _ g s (λ j. refl) refl refl refl (λ l. (grind (arith, nat_tests, l), refl)) (a k)) a
  keeps w v (Appends k p h) g s t e a = one_on w v k _ g s refl (heads_on w v k (w.board k) _ g s (λ j. refl) refl refl refl (λ l. (l, refl)) (a k)) a
  keeps w v (AppendsAgain k p h) g s t e a = none_on w v g s refl a
  keeps w v (Hears k p rest h left) g s t e a = one_on w v k _ g s refl (hears_head w k p rest h g s t e (a k) _ refl refl refl refl refl) a
  keeps w v (Stops k) g s t e a = one_on w v k _ g s refl (heads_on w v k (w.board k) _ g s (λ j. refl) refl refl refl (λ l. absurd (omega arith)) (a k)) a
  keeps w v (Starts k) g s t e a = one_on w v k _ g s refl (heads_on w v k (w.board k) _ g s (λ j. refl) refl refl refl (λ l. (l, refl)) (a k)) a
