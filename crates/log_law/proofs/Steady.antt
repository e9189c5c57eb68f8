-- While no opening serves, the last boot that served stays so, with its head, and none of its names is booked any more.
use Rattle.std.proofs.Common.{◌≡◌, ⊎_elim, ℕ, ◌≤◌, ◌<◌, ◌⊎◌, refl, sym, ap, ◌∙◌, inl, inr, arith}
use Rattle.log_protocol.specs.Phase
use Rattle.log_protocol.specs.LogLaws.{Reached}
use Rattle.log_protocol.specs.State.{State}
use Rattle.log_protocol.specs.Step.{Step, Steps}
use Rattle.log_protocol.specs.Step.Step.{Seals, Restripes, Settles, Crashes, Restarts, Begins, Picks_none, Picks_kept, Picks_prior, Opens, Serves}
use Rattle.log_protocol.specs.Step.Steps.{Done, More}
use Rattle.log_tie.proofs.Booking.{books_one}
use Rattle.log_law.specs.Below.{Below}

-- what stays while no opening serves
pub record Steady (w u : State) : Type 0 where
  pub served : u.served ≡ w.served
  pub head : u.head ≡ w.head
  pub booked : (x : ℕ) → u.booked x ≡ 1 → u.incarnation_of x ≡ u.served → w.booked x ≡ 1

-- ---- the last boot that served

-- the opening goes on, or its boot has served
pub record Opens_on (w v : State) : Type 0 where
  pub served : v.served ≡ w.served
  pub head : v.head ≡ w.head
  pub phase : v.phase < Phase.serving
  pub boot : w.incarnation ≤ v.incarnation

abbrev Course : State → State → Type 0
Course w v = Opens_on w v ⊎ ((w.incarnation ≤ v.served) × (w.incarnation ≤ v.incarnation))

carry : (w v u : State) → u.served ≡ v.served → u.head ≡ v.head → (v.phase < Phase.serving → u.phase < Phase.serving) → v.incarnation ≤ u.incarnation → Course w v → Course w u
carry w v u served head phase boot (inl p) =
    inl (record { served = served ∙ p.served; head = head ∙ p.head; phase = phase p.phase; boot = (let a = p.boot in let b = boot in omega arith) })
carry w v u served head phase boot (inr q) = inr (let a = q.0 in let b = served in omega arith, let a = q.1 in let b = boot in omega arith)

-- a step of an owner that serves
beyond : (w v u : State) → v.phase ≡ Phase.serving → u.served ≡ v.served → u.incarnation ≡ v.incarnation → Course w v → Course w u
beyond w v u four served boot (inl p) = absurd (let a = p.phase in omega arith)
beyond w v u four served boot (inr q) = inr (let a = q.0 in let b = served in omega arith, let a = q.1 in let b = boot in omega arith)

-- a boot serves
wakes : (w v u : State) → w.incarnation ≤ v.incarnation → v.incarnation ≤ u.served → v.incarnation ≤ u.incarnation → Course w u
wakes w v u a b c = inr (omega arith, omega arith)

began : (w v : State) → Course w v → w.incarnation ≤ v.incarnation
began w v (inl p) = p.boot
began w v (inr q) = q.1

course_step : (w v u : State) → Step v u → Course w v → Course w u
course_step w v u (Seals x text count server content can) c = beyond w v u can.serving refl refl c
course_step w v u (Settles can) c = beyond w v u can.serving refl refl c
course_step w v u Crashes c = carry w v u refl refl (λ p. omega arith) (omega arith) c
course_step w v u (Restarts can) c = wakes w v u (began w v c) (omega arith) (omega arith)
course_step w v u (Begins can) c = carry w v u refl refl (λ p. omega arith) (omega arith) c
course_step w v u (Picks_none list_of low can) c = carry w v u refl refl (λ p. omega arith) (omega arith) c
course_step w v u (Picks_kept list_of low x can) c = carry w v u refl refl (λ p. omega arith) (omega arith) c
course_step w v u (Picks_prior list_of low x i can) c = carry w v u refl refl (λ p. omega arith) (omega arith) c
course_step w v u (Opens x text count server can) c = carry w v u refl refl (λ p. omega arith) (omega arith) c
course_step w v u (Serves path lowest sure can) c = wakes w v u (began w v c) (omega arith) (omega arith)
course_step w v u step c = carry w v u refl refl (λ p. p) (omega arith) c

course : (w v : State) → w.phase < Phase.serving → Steps w v → Course w v
course w v less Done = inl (record { served = refl; head = refl; phase = less; boot = omega arith })
course w v less (More {v = u} run step) = course_step w u v step (course w u less run)

-- ---- what is booked is of the boot that books it, or of a later one

-- what was booked since
abbrev pub OfLater : State → State → Type 0
OfLater w v = (x : ℕ) → v.booked x ≡ 1 → (w.booked x ≡ 1) ⊎ (w.incarnation ≤ v.incarnation_of x)

pub record Own (w v : State) : Type 0 where
  pub names : v.incarnation_of ≡ w.incarnation_of
  pub boot : w.incarnation ≤ v.incarnation
  pub fresh : OfLater w v

keep : (w v u : State) → u.incarnation_of ≡ v.incarnation_of → v.incarnation ≤ u.incarnation → u.booked ≡ v.booked → Own w v → Own w u
keep w v u names boot booked o = record {
  names = names ∙ o.names;
  boot = (let a = o.boot in let b = boot in omega arith);
  fresh = λ x fact. ⊎_elim inl (λ later. inr (let e = ap (λ f. f x) names in omega arith)) (o.fresh x (ap (λ f. f x) (sym booked) ∙ fact));
}

books : (w v u : State) (y : ℕ) → u.incarnation_of ≡ v.incarnation_of → u.incarnation ≡ v.incarnation → ((x : ℕ) → u.booked x ≡ 1 → (v.booked x ≡ 1) ⊎ (x ≡ y))
    → v.incarnation_of y ≡ v.incarnation → Own w v → Own w u
books w v u y names boot booked own o = record {
  names = names ∙ o.names;
  boot = (let a = o.boot in let b = boot in omega arith);
  fresh = λ x fact. ⊎_elim (λ old. ⊎_elim inl (λ later. inr (let e = ap (λ f. f x) names in omega arith)) (o.fresh x old))
      (λ same. inr (let e = ap (λ f. f x) names in let d = ap v.incarnation_of same in let b = o.boot in let c = own in omega arith)) (booked x fact);
}

own_step : (w v u : State) → Step v u → Own w v → Own w u
own_step w v u (Seals x text count server content can) o = books w v u x refl refl (books_one v x) can.own o
own_step w v u (Restripes x text count server can) o = books w v u x refl refl (books_one v x) can.own o
own_step w v u (Opens x text count server can) o = books w v u x refl refl (books_one v x) can.own o
own_step w v u step o = keep w v u refl (omega arith) refl o

pub own : (w v : State) → Steps w v → Own w v
own w v Done = record { names = refl; boot = omega arith; fresh = λ x fact. inl fact }
own w v (More {v = u} run step) = own_step w u v step (own w u run)

-- ---- an opening that goes on in its boot

pub steady : (k : Below) (w u : State) → Reached w → Steps w u → Phase.down < w.phase → w.phase < Phase.serving → Phase.down < u.phase → u.phase < Phase.serving → u.incarnation ≡ w.incarnation
    → Steady w u
steady k w u reached run some less now_some now_less same = by (course w u less run)
  where
    there : u.served < u.incarnation
    there = (k.protocol.owner u (k.protocol.goes_on w u reached run)).opening now_some now_less

    by : Course w u → Steady w u
    by (inl p) = record {
      served = p.served;
      head = p.head;
      booked = λ x fact boot. ⊎_elim (λ old. old) (λ later. absurd (let t = there in let s = same in omega arith)) ((own w u run).fresh x fact);
    }
    by (inr q) = absurd (let t = there in let s = same in let a = q.0 in omega arith)
