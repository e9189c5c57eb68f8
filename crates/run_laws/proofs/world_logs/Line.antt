-- Along the line of a log its runs go on: what was filed, dropped, in flight or sent stays so, and one name has one text at all counts together.
use Rattle.std.proofs.Common.{◌≡◌, ◌⊎◌, ⊎_elim, ℕ, zero, suc, max, ◌≤◌, ◌<◌, Bool, true, false, List, [], ◌∷◌, Option, Some, None, length, nat_le, slice_get, inl, inr, refl, ap, subst, ◌∙◌, arith}
use Rattle.std.proofs.lemmas.Bool.Decides.{nat_tests}
use Rattle.core_world.specs.declared.any_node.AnyNode.{AnyNode}
use Rattle.log_law.proofs.Filing.{Grown, grown}
use Rattle.log_law.specs.Events.{Runs}
use Rattle.log_law.specs.Events.Runs.{Begun, On}
use Rattle.log_law.specs.Laws.{Moment, OneNameOneText}
use Rattle.log_law.specs.Net.{Net, Packet}
use Rattle.log_law.specs.Tails.{then_on}
use Rattle.log_protocol.specs.Tables.{In}
use Rattle.log_tie.specs.Setting.{Setting}
use Rattle.node_logs.proofs.node_log_tie.Going.{run_later}
use Rattle.segment_format.specs.declared.segment.Segment.{Segment}
use Rattle.world_base.specs.declared.estate.Estate.{Estate}
use Rattle.world_base.specs.declared.event.Event.{Event}
use Rattle.run_laws.specs.world_logs.Lines.{Line, moment_then, setting}
use Rattle.headline.specs.Logs.{Role}

-- ---- runs that go on

module _ {g : Setting} where
  then_then : {n m o p : Net} (a : Runs g n m) (b : Runs g m o) (c : Runs g o p) → then_on (then_on a b) c ≡ then_on a (then_on b c)
  then_then a b Begun = refl
  then_then a b (On c happens) = ap (λ run. On run happens) (then_then a b c)

  moment_then_then : {n m o : Net} (at : Moment g n) (a : Runs g n m) (b : Runs g m o) → moment_then (moment_then at a) b ≡ moment_then at (then_on a b)
  moment_then_then at a b = ap (λ run. record { map = at.map; whole = at.whole; run = run }) (then_then at.run a b)

-- ---- counts

pub last_or_before : (m n : ℕ) → m ≤ suc n → (m ≡ suc n) ⊎ (m ≤ n)
last_or_before m n limit = by (nat_le m n) refl
  where
    by : (t : Bool) → nat_le m n ≡ t → (m ≡ suc n) ⊎ (m ≤ n)
    by true fact = inr (grind (arith, nat_tests))
    by false fact = inl (grind (arith, nat_tests))

nothing_below : (m : ℕ) → m ≤ 0 → m ≡ 0
nothing_below m none = omega arith

pub beyond : {X : Type 0} (xs : List X) (i : ℕ) → length xs ≤ i → slice_get xs i ≡ None
beyond [] i limit = refl
beyond (x ∷ xs) zero limit = absurd (omega arith)
beyond (x ∷ xs) (suc i) limit = beyond xs i (omega arith)

-- ---- a line

module _ (base : Setting) (e : Estate AnyNode) (r : Role) (line : Line base e r) where
  abbrev g : Setting
  g = setting base e r

  abbrev pub net : ℕ → Net
  net count = (line.scene count).net

  abbrev pub at : (count : ℕ) → Moment (setting base e r) (net count)
  at count = (line.stands count).moment

  -- the run of one count goes on to that of a later one
  pub record Later (m n : ℕ) : Type 0 where
    pub runs : Runs (setting base e r) (net m) (net n)
    pub joined : at n ≡ moment_then (at m) runs

  itself : (m n : ℕ) → m ≡ n → Later m n
  itself m n same = subst (λ k. Later m k) same (record { runs = Begun; joined = refl })

  pub later : (m n : ℕ) → m ≤ n → Later m n
  later m zero limit = itself m zero (nothing_below m limit)
  later m (suc n) limit = ⊎_elim (λ same. itself m (suc n) same) (λ before. one_more (later m n before)) (last_or_before m n limit)
    where
      one_more : Later m n → Later m (suc n)
      one_more l = record {
        runs = then_on l.runs (line.goes n);
        joined = line.joined n ∙ (ap (λ x. moment_then x (line.goes n)) l.joined ∙ moment_then_then (at m) l.runs (line.goes n));
      }

  -- what was filed, dropped or in flight stays so
  pub grows : (m n : ℕ) → m ≤ n → Grown (net m) (net n)
  grows m n limit = grown g (net m) (net n) (later m n limit).runs

  -- so does what was sent
  pub sent_stays : (m n : ℕ) → m ≤ n → (p : Packet) → In p (net m).sent → In p (net n).sent
  sent_stays m n limit = (run_later g (net m) (net n) (later m n limit).runs).sent

  -- two segments of one name that were in flight, at whichever counts, are one
  pub one_text : OneNameOneText → (m n : ℕ) (s t : Segment) → In s (net m).flown → In t (net n).flown → s.name ≡ t.name → s ≡ t
  one_text law m n s t here there same =
      (law g (net (max m n)) (at (max m n))).one s t ((grows m (max m n) (omega arith)).flown s here) ((grows n (max m n) (omega arith)).flown t there) same

  -- beyond the last event nothing is in flight that wasn't then
  pub flown_by_end : (count : ℕ) (s : Segment) → In s (net count).flown → In s (net (length e.events)).flown
  flown_by_end zero s here = (grows zero (length e.events) (omega arith)).flown s here
  flown_by_end (suc count) s here =
      by_event count (slice_get e.events count) refl s here (λ before. flown_by_end count s before)
    where
      inside : {X : Type 0} (xs : List X) (i : ℕ) (x : X) → slice_get xs i ≡ Some x → i < length xs
      inside [] i x fact = absurd cc
      inside (y ∷ xs) zero x fact = omega arith
      inside (y ∷ xs) (suc i) x fact = (let l = inside xs i x fact in omega arith)

      by_event : (n : ℕ) (o : Option Event) → slice_get e.events n ≡ o → (s : Segment) → In s (net (suc n)).flown
          → (In s (net n).flown → In s (net (length e.events)).flown)
          → In s (net (length e.events)).flown
      by_event n None fact s here rest = rest (subst (λ w. In s w.net.flown) (line.ended n fact) here)
      by_event n (Some event) fact s here rest =
          (grows (suc n) (length e.events) (let l = inside e.events n event fact in omega arith)).flown s here
