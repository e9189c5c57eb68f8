-- Chains of segments: their names, their numbers, and whether one has the number and the boot of a flight.
use Rattle.std.proofs.Common.{◌≡◌, ⊎_elim, ◌⊎◌, ◌≤◌, ◌+◌, ◌==◌, ◌&&◌, ◌||◌, ℕ, suc, Bool, true, false, List, [], ◌∷◌, ◌++◌, length, Some, refl, sym, ap, ◌∙◌, inl, inr, arith}
use Rattle.std.specs.List.{AllByRecursion}
use Rattle.std.proofs.lemmas.Bool.{eq-eqb, eqb-true}
use Rattle.client_node.specs.Crash.{flight_of}
use Rattle.log_flight.specs.Flights.{FlightState}
use Rattle.log_law.specs.Net.{names_of}
use Rattle.log_law.specs.ReadBack.{EndsAt}
use Rattle.log_owner.specs.Opened.{names_in}
use Rattle.log_protocol.specs.Tables.{In}
use Rattle.node_slots.specs.owner_index_tie.Owners.{NumberedFrom}
use Rattle.segment_format.specs.declared.segment.Segment.{Segment}
use Rattle.token_protocol.specs.Basics.{In as Among}
use Rattle.version_model.specs.Effects.{holds_flight}
use Rattle.xfs_base.proofs.Booleans.{and_first, and_second, contrary}
use Rattle.xfs_base.specs.declared.segment.SegName.{SegName}

-- ---- names

pub in_left : {X : Type 0} (xs ys : List X) (x : X) → In x xs → In x (xs ++ ys)
in_left [] ys x fact = absurd fact
in_left (z ∷ xs) ys x (inl e) = inl e
in_left (z ∷ xs) ys x (inr fact) = inr (in_left xs ys x fact)

pub in_right : {X : Type 0} (xs ys : List X) (x : X) → In x ys → In x (xs ++ ys)
in_right [] ys x fact = fact
in_right (z ∷ xs) ys x fact = inr (in_right xs ys x fact)

pub among_in : {X : Type 0} (xs : List X) (x : X) → Among x xs → In x xs
among_in [] x fact = absurd fact
among_in (y ∷ xs) x (inl e) = inl e
among_in (y ∷ xs) x (inr fact) = inr (among_in xs x fact)

pub named : (chain : List Segment) (t : Segment) → In t chain → In t.name (names_of chain)
named [] t fact = absurd fact
named (s ∷ chain) t (inl e) = inl (ap (λ (z : Segment). z.name) e)
named (s ∷ chain) t (inr fact) = inr (named chain t fact)

pub its_segment : (chain : List Segment) (name : SegName) → In name (names_of chain) → (t : Segment) × In t chain × (t.name ≡ name)
its_segment [] name fact = absurd fact
its_segment (s ∷ chain) name (inl e) = (s, inl refl, sym e)
its_segment (s ∷ chain) name (inr fact) = (let t = its_segment chain name fact in (t.0, inr t.1, t.2))

-- what holds of each segment holds of all
pub all_so : {P : Segment → Type 0} (chain : List Segment) → ((t : Segment) → In t chain → P t) → AllByRecursion P chain
all_so [] each = tt
all_so (s ∷ chain) each = (each s (inl refl), all_so chain (λ t fact. each t (inr fact)))

-- ---- numbers

pub short : (highest : ℕ) (chain : List Segment) → EndsAt highest chain → length chain ≤ suc highest
short highest [] ends = omega arith
short highest (s ∷ chain) ends = (let e = ends.0 in omega arith)

pub numbers : (highest first : ℕ) (chain : List Segment) → EndsAt highest chain → first + length chain ≡ suc highest → NumberedFrom first chain
numbers highest first [] ends e = tt
numbers highest first (s ∷ chain) ends e = ((let a = ends.0 in omega arith), numbers highest (suc first) chain ends.1 (omega arith))

-- ---- flights

-- a segment of the chain has this number and this boot
pub record Holds (chain : List Segment) (flight : FlightState) : Type 0 where
  pub segment : Segment
  pub among : In segment chain
  pub seq : segment.name.seq ≡ flight.segment.name.seq
  pub boot : segment.name.pass.inc ≡ flight.segment.name.pass.inc

or_either : (a b : Bool) → (a || b) ≡ true → (a ≡ true) ⊎ (b ≡ true)
or_either true b t = inl refl
or_either false b t = inr t

pub holds : (chain : List Segment) (f : FlightState) → holds_flight (names_in chain) (flight_of (Some f)) ≡ true → Holds chain f
holds [] f t = contrary t
holds (s ∷ chain) f t =
    ⊎_elim here (λ u. there (holds chain f u)) (or_either ((s.name.seq == f.segment.name.seq) && (s.name.pass.inc == f.segment.name.pass.inc)) _ t)
  where
    here : ((s.name.seq == f.segment.name.seq) && (s.name.pass.inc == f.segment.name.pass.inc)) ≡ true → Holds (s ∷ chain) f
    here u = record {
      segment = s;
      among = inl refl;
      seq = eqb-true s.name.seq f.segment.name.seq (and_first (s.name.seq == f.segment.name.seq) (s.name.pass.inc == f.segment.name.pass.inc) u);
      boot = eqb-true s.name.pass.inc f.segment.name.pass.inc
          (and_second (s.name.seq == f.segment.name.seq) (s.name.pass.inc == f.segment.name.pass.inc) u);
    }

    there : Holds chain f → Holds (s ∷ chain) f
    there h = record { segment = h.segment; among = inr h.among; seq = h.seq; boot = h.boot }

both : (a b : Bool) → a ≡ true → b ≡ true → (a && b) ≡ true
both true b t u = u
both false b t u = contrary t

left : (a b : Bool) → a ≡ true → (a || b) ≡ true
left true b t = refl
left false b t = contrary t

right : (a b : Bool) → b ≡ true → (a || b) ≡ true
right true b t = refl
right false b t = t

pub found : (chain : List Segment) (f : FlightState) (t : Segment) → In t chain → t.name.seq ≡ f.segment.name.seq
    → t.name.pass.inc ≡ f.segment.name.pass.inc
    → holds_flight (names_in chain) (flight_of (Some f)) ≡ true
found [] f t fact seq boot = absurd fact
found (s ∷ chain) f t (inl e) seq boot =
    left ((s.name.seq == f.segment.name.seq) && (s.name.pass.inc == f.segment.name.pass.inc)) _
    (both (s.name.seq == f.segment.name.seq) (s.name.pass.inc == f.segment.name.pass.inc)
    (eq-eqb s.name.seq f.segment.name.seq (ap (λ (z : Segment). z.name.seq) (sym e) ∙ seq))
    (eq-eqb s.name.pass.inc f.segment.name.pass.inc (ap (λ (z : Segment). z.name.pass.inc) (sym e) ∙ boot)))
found (s ∷ chain) f t (inr fact) seq boot =
    right ((s.name.seq == f.segment.name.seq) && (s.name.pass.inc == f.segment.name.pass.inc)) _ (found chain f t fact seq boot)
