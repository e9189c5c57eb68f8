-- Clocks rise along a journal, and what a node sends has the clock of its event.
use Rattle.std.proofs.Common.{◌≡◌, refl, ap, ℕ, ◌+◌, ◌<◌, ◌≤◌, Bool, true, false, ◌&&◌, List, [], ◌∷◌, map, Option, Some, None, inl, inr, arith, nat_lt}
use Rattle.std.specs.Prelude.{max, ◌^◌}
use Rattle.std.specs.List.{Contains}
use Rattle.std.proofs.lemmas.Bool.Decides.{nat_tests}
use Rattle.std.proofs.lemmas.Option.{cond_some}
use Rattle.std.proofs.lemmas.List.Elements.{All-map, All-contains, Contains-append_cases}
use Rattle.wire_msg.specs.declared.packet.Do.{Do}
use Rattle.wire_msg.specs.declared.packet.Do.TheVariants.{Begin, Deliver, Tick}
use Rattle.wire_msg.specs.declared.packet.Packet.{Packet}
use Rattle.wire_msg.specs.NodeStep.{NodeStep}
use Rattle.world_base.specs.NextWorld.{clock_after, clock_at_most, sent_at}
use Rattle.journals.specs.declared.moment.Moment.{Moment}
use Rattle.journals.specs.Journals.{is_some_of, is_stamped, sent_in}

at_most : (a k : ℕ) → clock_at_most a ≡ Some k → a ≡ k
at_most a k e = (cond_some (nat_lt a (2 ^ 64)) a k e).1

-- the clock of an event is greater than that of its node
pub clock_rises : (c k : ℕ) (d : Do) → clock_after c d ≡ Some k → c < k
clock_rises c k Begin e = let h = at_most (c + 1) k e in omega arith
clock_rises c k (Deliver x) e = let h = at_most (max c x.clock + 1) k e in omega arith
clock_rises c k Tick e = let h = at_most (c + 1) k e in omega arith

-- and than that of the packet that comes
pub after_packet : (c k : ℕ) (x : Packet) → clock_after c (Deliver x) ≡ Some k → x.clock < k
after_packet c k x e = let h = at_most (max c x.clock + 1) k e in omega arith

both : (a b : Bool) → (a && b) ≡ true → (a ≡ true) × (b ≡ true)
both true true e = (refl, refl)
both true false e = absurd (cc)
both false b e = absurd (cc)

is_some : (k : ℕ) (o : Option ℕ) → is_some_of k o ≡ true → o ≡ Some k
is_some k None e = absurd (cc)
is_some k (Some a) e = let h : a ≡ k = grind (arith, nat_tests) in ap Some h

pub first_stamp : (c : ℕ) (m : Moment) (ms : List Moment) → is_stamped c (m ∷ ms) ≡ true → (clock_after c m.what ≡ Some m.clock) × (is_stamped m.clock ms ≡ true)
first_stamp c m ms s = let h = both (is_some_of m.clock (clock_after c m.what)) (is_stamped m.clock ms) s in (is_some m.clock (clock_after c m.what) h.0, h.1)

module _ {N : Type 0} (step : N → Do → NodeStep N) where
  sent_with : (c : ℕ) (xs : List Packet) (x : Packet) → Contains (map (sent_at c) xs) x → x.clock ≡ c
  sent_with c xs x found =
      All-contains (λ (y : Packet). y.clock ≡ c) (map (sent_at c) xs) x (All-map (λ (y : Packet). y.clock ≡ c) (sent_at c) xs (λ k d below. refl)) found

  -- what is still to be sent has a greater clock than the node
  pub sent_late : (n : N) (c : ℕ) (ms : List Moment) (x : Packet) → is_stamped c ms ≡ true → Contains (sent_in step n ms) x → c < x.clock
  sent_late n c [] x s found = absurd (let h = found.1 in omega arith)
  sent_late n c (m ∷ ms) x s found =
      let f = first_stamp c m ms s in
      let up : c < m.clock = clock_rises c m.clock m.what f.0 in
      elim (Contains-append_cases (map (sent_at m.clock) (step n m.what).packets) (sent_in step (step n m.what).node ms) x found) [
        | inl here ↦ let e = sent_with m.clock (step n m.what).packets x here in omega arith
        | inr later ↦ let e = sent_late (step n m.what).node m.clock ms x f.1 later in omega arith
      ]

  -- none of it is earlier than the first moment
  pub sent_from : (n : N) (c : ℕ) (m : Moment) (ms : List Moment) (x : Packet) → is_stamped c (m ∷ ms) ≡ true → Contains (sent_in step n (m ∷ ms)) x → m.clock ≤ x.clock
  sent_from n c m ms x s found =
      let f = first_stamp c m ms s in
      elim (Contains-append_cases (map (sent_at m.clock) (step n m.what).packets) (sent_in step (step n m.what).node ms) x found) [
        | inl here ↦ let e = sent_with m.clock (step n m.what).packets x here in omega arith
        | inr later ↦ let e = sent_late (step n m.what).node m.clock ms x f.1 later in omega arith
      ]
