-- The invariant of the three boards, and the order in which it is proved. Read this file first.
--
-- Four groups, each a record of `Facts.antt` with the meaning of each fact:
--   Standing  what each board has            `Standing.antt`
--   Sending   what each packet tells         `Sending.antt`
--   Electing  how ballots got leaders        `Electing.antt`
--   Heading   what is known, done, applied   `Heading.antt`
-- What only grows (`Growing.antt`) is shown of each step first, from the first two. It carries what was true before a step, of packets, elections and
-- chosen lists, over the step; so each group has to look only at what the step adds. That two chosen lists agree follows from Electing alone, by one
-- induction on ballots (`Agreeing.antt`); no step is looked at there.
use Rattle.std.proofs.Common.{ℕ, ◌<◌, ◌≤◌, ◌∙◌, refl, arith}
use Rattle.std.proofs.lemmas.Bool.Decides.{nat_tests}
use Rattle.board_protocol.specs.World.{World, start}
use Rattle.board_protocol.specs.Growth.{Grows}
use Rattle.board_protocol.specs.Step.{Step, Steps}
use Rattle.board_protocol.specs.Step.Steps.{Done, More}
use Rattle.board_protocol.proofs.Prefixes.{same, through}
use Rattle.board_protocol.proofs.Facts.{Standing, Sending, Electing, Heading, Voter}
use Rattle.board_protocol.proofs.Growing.{grows_step}
use Rattle.board_protocol.proofs.Standing as stand
use Rattle.board_protocol.proofs.Sending as send
use Rattle.board_protocol.proofs.Electing as elect
use Rattle.board_protocol.proofs.Heading as head

module _ {C : Type 0} where
  pub record Invariant (w : World C) : Type 0 where
    pub standing : Standing w
    pub sending : Sending w
    pub electing : Electing w
    pub heading : Heading w

  pub keeps : (w v : World C) → Step w v → Invariant w → Invariant v
  keeps w v step i =
      let g = grows_step w v step i.standing i.sending in
      let standing = stand.keeps w v step g i.standing i.sending in
      record {
        standing = standing;
        sending = send.keeps w v step g i.standing standing i.sending;
        electing = elect.keeps w v step g i.standing i.sending i.electing;
        heading = head.keeps w v step g i.standing i.sending i.electing i.heading;
      }

  voter : (owner : ℕ → ℕ) (c k : ℕ) → k < 3 → c ≤ 1 → Voter {C = C} (start owner) c 0 k
  voter owner c k board small = record { board = board; promised = small; between = λ b l m. refl; at = λ l. grind arith }

  pub begins : (owner : ℕ → ℕ) → Invariant (start owner)
  begins owner = record {
    standing = record {
      stands = λ k. record {
        led = refl;
        promised = grind arith;
        now = refl;
        later = λ b l. refl;
        listed = refl;
        floor = grind arith;
        own = λ o. refl;
        leading_own = λ l. grind (arith, nat_tests, l);
        leading_promised = λ l. refl;
      };
      past = λ b l. grind (arith, nat_tests, l);
      small = λ k b. grind arith;
      used = λ k b l. absurd (omega arith);
    };
    sending = record { promises = λ p k. absurd k; installs = λ p k. absurd k; appends = λ p k. absurd k; accepts = λ p k. absurd k };
    electing = λ c l.
        let small : c ≤ 1 = grind (arith, nat_tests, l) in
        record {
          source = 0;
          led = refl;
          below = λ m. m;
          floor = grind arith;
          reach = grind arith;
          within = grind arith;
          shared = refl;
          one = 0;
          other = 1;
          apart = λ e. absurd (omega arith);
          one_voted = voter owner c 0 (grind arith) small;
          other_voted = voter owner c 1 (grind arith) small;
        };
    heading = λ k. record {
      known = λ l j. grind arith;
      itself = λ l. grind arith;
      done = λ l. refl;
      covered = grind arith;
      applied = λ board. record {
        ballot = 0;
        one = 0;
        other = 1;
        one_board = grind arith;
        other_board = grind arith;
        apart = λ e. absurd (omega arith);
        one_accepted = grind arith;
        other_accepted = grind arith;
        listed = refl;
      };
    };
  }

  same_moment : (w : World C) → Grows w w
  same_moment w = grind (arith, same)

  further : (w v u : World C) → Standing w → Grows w v → Grows v u → Grows w u
  further w v u s g h = record {
    owner = λ b. h.owner b ∙ g.owner b;
    promised = λ k. grind (arith, g.promised k, h.promised k);
    ballot = λ k. grind (arith, g.ballot k, h.ballot k);
    accepted = λ k b. grind (arith, g.accepted k b, h.accepted k b);
    frozen = λ k b l. h.frozen k b (grind (arith, l, g.promised k)) ∙ g.frozen k b l;
    led = λ b l. h.led b (g.led b l);
    base = λ b l. h.base b (g.led b l) ∙ g.base b l;
    book = λ b l. through (w.book b) (v.book b) (u.book b) (g.book b l) (h.book b (g.led b l));
    applied = λ k. through (w.board k).applied (v.board k).applied (u.board k).applied (g.applied k) (h.applied k);
    prepares = λ p l. h.prepares p (g.prepares p l);
    promises = λ p l. h.promises p (g.promises p l);
    installs = λ p l. h.installs p (g.installs p l);
    appends = λ p l. h.appends p (g.appends p l);
    accepts = λ p l. h.accepts p (g.accepts p l);
  }

  -- From one moment at which it holds to any later one.
  pub onward : (w v : World C) → Steps w v → Invariant w → Grows w v × Invariant v
  onward w v Done i = (same_moment w, i)
  onward w v (More {v = x} steps step) i =
      let before = onward w x steps i in
      (further w x v i.standing before.0 (grows_step x v step before.1.standing before.1.sending), keeps x v step before.1)

  -- It holds after every list of steps.
  pub always : (owner : ℕ → ℕ) (w : World C) → Steps (start owner) w → Invariant w
  always owner w steps = (onward (start owner) w steps (begins owner)).1
