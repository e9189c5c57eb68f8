-- One text of each name for the whole run: what is in flight in some log at the end of the run has all that ever was.
use Rattle.std.proofs.Common.{◌≡◌, ◌⊎◌, ⊎_elim, ℕ, zero, suc, ◌≤◌, ◌<◌, List, [], ◌∷◌, ◌++◌, length, inl, inr, refl, sym, ap, subst, ◌∙◌, arith}
use native.Mathlib.Bridge.{le_prop}
use Rattle.core_world.specs.declared.any_node.AnyNode.{AnyNode}
use Rattle.log_law.specs.Held.{WhatFlewIsOfTheLog}
use Rattle.log_law.specs.Laws.{OneNameOneText}
use Rattle.log_protocol.specs.Tables.{In}
use Rattle.log_tie.specs.Setting.{Setting}
use Rattle.node_base.specs.Setups.{IsSetup}
use Rattle.segment_format.specs.declared.segment.Segment.{Segment}
use Rattle.world_base.specs.declared.estate.Estate.{Estate}
use Rattle.run_laws.proofs.world_logs.Line.{flown_by_end, last_or_before, one_text}
use Rattle.run_laws.proofs.world_logs.Reading.{look}
use Rattle.run_laws.proofs.world_logs.Roles.{high_log, managers_log}
use Rattle.run_laws.specs.world_logs.Lines.{HasLines, Texts, setting}
use Rattle.headline.specs.Logs.{IsThere, Role, log_by}
use Rattle.headline.specs.Logs.Role.{OfClient, OfCleaner, OfManager}
use Rattle.xfs_base.specs.declared.segment.LogId.{LogId}
use Rattle.xfs_base.specs.declared.segment.SegName.{SegName}
use Rattle.log_tie.proofs.Listings.{in_either}

-- ---- lists

in_left : {X : Type 0} (xs ys : List X) (x : X) → In x xs → In x (xs ++ ys)
in_left [] ys x fact = absurd fact
in_left (y ∷ xs) ys x (inl e) = inl e
in_left (y ∷ xs) ys x (inr fact) = inr (in_left xs ys x fact)

in_right : {X : Type 0} (xs ys : List X) (x : X) → In x ys → In x (xs ++ ys)
in_right [] ys x fact = fact
in_right (y ∷ xs) ys x fact = inr (in_right xs ys x fact)

-- ---- counts

positive : (n : ℕ) → 0 < suc n
positive n = omega arith

one_less : (c limit : ℕ) → suc c ≤ limit → c ≤ limit
one_less c limit h = omega arith

all_of : (n : ℕ) → n ≤ n
all_of n = omega arith

-- ---- the segments of all logs

module _ (law : OneNameOneText) (own : WhatFlewIsOfTheLog) (base : Setting) (e : Estate AnyNode) (ok : IsSetup e.script.setup) (lines : HasLines base e) where
  abbrev clients : ℕ
  clients = e.script.setup.clients

  abbrev managers : ℕ
  managers = e.script.setup.managers

  abbrev There : Role → Type 0
  There r = IsThere clients managers r

  abbrev flown_in : (r : Role) → There r → List Segment
  flown_in r there = ((lines r there).scene (length e.events)).net.flown

  -- a segment that was in flight in some log
  record Flew (s : Segment) : Type 0 where
    role : Role
    there : There role
    here : In s (flown_in role there)

  -- it is in flight there, whichever way its log is known to be there
  there_prop : (r : Role) (a b : There r) → a ≡ b
  there_prop (OfClient c) a b = λ i. (le_prop a.0 b.0 i, le_prop a.1 b.1 i)
  there_prop OfCleaner a b = refl
  there_prop (OfManager j) a b = λ i. (le_prop a.0 b.0 i, le_prop a.1 b.1 i)

  moved : (s : Segment) (r q : Role) → r ≡ q → (h : There r) (m : There q) → In s (flown_in r h) → In s (flown_in q m)
  moved s r q same h m fact =
      subst (λ x. (n : There x) → In s (flown_in x n)) same (λ n. subst (λ z. In s (flown_in r z)) (there_prop r h n) fact) m

  -- owners that are numbered from 1 on, as clients are, and managers
  module _ (role : ℕ → Role) (top : ℕ) (there : (n : ℕ) → 0 < n → n ≤ top → There (role n)) where
    abbrev flown_next : (n : ℕ) → suc n ≤ top → List Segment
    flown_next n limit = flown_in (role (suc n)) (there (suc n) (positive n) limit)

    -- of the first so many of them
    of_first : (n : ℕ) → n ≤ top → List Segment
    of_first zero limit = []
    of_first (suc n) limit = flown_next n limit ++ of_first n (one_less n top limit)

    from_first : (n : ℕ) (limit : n ≤ top) (s : Segment) → In s (of_first n limit) → Flew s
    unfolding of_first
    from_first zero limit s fact = absurd fact
    from_first (suc n) limit s fact =
        ⊎_elim (λ here. record { role = role (suc n); there = there (suc n) (positive n) limit; here = here })
        (λ more. from_first n (one_less n top limit) s more) (in_either s (flown_next n limit) (of_first n (one_less n top limit)) fact)

    in_first : (s : Segment) (n : ℕ) (limit : n ≤ top) (d : ℕ) → 0 < d → (h : There (role d)) → d ≤ n → In s (flown_in (role d) h) → In s (of_first n limit)
    unfolding of_first
    in_first s zero limit d some h less fact = absurd (omega arith)
    in_first s (suc n) limit d some h less fact = ⊎_elim
        (λ same. in_left (flown_next n limit) (of_first n (one_less n top limit)) s
        (moved s (role d) (role (suc n)) (ap role same) h (there (suc n) (positive n) limit) fact))
        (λ before. in_right (flown_next n limit) (of_first n (one_less n top limit)) s (in_first s n (one_less n top limit) d some h before fact))
        (last_or_before d n less)

  abbrev of_clients : List Segment
  of_clients = of_first OfClient clients (λ n some limit. (some, limit)) clients (all_of clients)

  abbrev of_managers : List Segment
  of_managers = of_first OfManager managers (λ n some limit. (some, limit)) managers (all_of managers)

  all_flown : List Segment
  all_flown = of_clients ++ (flown_in OfCleaner tt ++ of_managers)

  flew : (s : Segment) → In s all_flown → Flew s
  unfolding all_flown
  flew s fact = ⊎_elim (λ here. from_first OfClient clients (λ n some limit. (some, limit)) clients (all_of clients) s here)
      (λ rest. ⊎_elim (λ here. record { role = OfCleaner; there = tt; here = here })
      (λ more. from_first OfManager managers (λ n some limit. (some, limit)) managers (all_of managers) s more)
      (in_either s (flown_in OfCleaner tt) of_managers rest)) (in_either s of_clients (flown_in OfCleaner tt ++ of_managers) fact)

  among_all : (s : Segment) (r : Role) (h : There r) → In s (flown_in r h) → In s all_flown
  unfolding all_flown
  among_all s (OfClient c) h fact = in_left of_clients (flown_in OfCleaner tt ++ of_managers) s
      (in_first OfClient clients (λ n some limit. (some, limit)) s clients (all_of clients) c h.0 h h.1 fact)
  among_all s OfCleaner h fact = in_right of_clients (flown_in OfCleaner tt ++ of_managers) s (in_left (flown_in OfCleaner tt) of_managers s fact)
  among_all s (OfManager j) h fact = in_right of_clients (flown_in OfCleaner tt ++ of_managers) s
      (in_right (flown_in OfCleaner tt) of_managers s
      (in_first OfManager managers (λ n some limit. (some, limit)) s managers (all_of managers) j h.0 h h.1 fact))

  -- ---- no two logs have one number

  one_role : (r q : Role) → There r → There q → log_by r ≡ log_by q → r ≡ q
  one_role (OfClient c) (OfClient d) h m same = ap OfClient same
  one_role (OfClient c) OfCleaner h m same = absurd (let a = h.1 in let b = ok.clients.1 in omega (arith, same))
  one_role (OfClient c) (OfManager j) h m same = absurd (let a = h.1 in let b = ok.clients.1 in let high = high_log j m.0 in omega (arith, same))
  one_role OfCleaner (OfClient d) h m same = absurd (let a = m.1 in let b = ok.clients.1 in omega (arith, same))
  one_role OfCleaner OfCleaner h m same = refl
  one_role OfCleaner (OfManager j) h m same = absurd (let high = high_log j m.0 in omega (arith, same))
  one_role (OfManager i) (OfClient d) h m same = absurd (let a = m.1 in let b = ok.clients.1 in let high = high_log i h.0 in omega (arith, same))
  one_role (OfManager i) OfCleaner h m same = absurd (let high = high_log i h.0 in omega (arith, same))
  one_role (OfManager i) (OfManager j) h m same =
      ap OfManager (let a = managers_log clients managers i ok.managers.1 h in let b = managers_log clients managers j ok.managers.1 m in omega (arith, same))

  -- ---- the text of a name

  abbrev Found : SegName → Type 0
  Found name = (s : Segment) × In s all_flown × (s.name ≡ name)

  any : SegName → Segment
  any name = record { name = name; prior = record { pass = record { inc = 0; att = 0 }; group = 0 }; group = 0; items = [] }

  its_log : (r : Role) (h : There r) (s : Segment) → In s (flown_in r h) → s.name.log ≡ (setting base e r).log
  its_log r h s fact = own (setting base e r) ((lines r h).scene (length e.events)).net ((lines r h).stands (length e.events)).moment s fact

  -- the one that is found is that of any log
  found_is : (r : Role) (h : There r) (s : Segment) → In s (flown_in r h) → (f : Found s.name) → f.0 ≡ s
  found_is r h s fact f =
      let w : Flew f.0 = flew f.0 f.1 in
      let log : log_by w.role ≡ log_by r =
      ap (λ (l : LogId). l.0) (sym (its_log w.role w.there f.0 w.here) ∙ (ap (λ (name : SegName). name.log) f.2 ∙ its_log r h s fact)) in
      one_text base e r (lines r h) law (length e.events) (length e.events) f.0 s
      (moved f.0 w.role r (one_role w.role r w.there h log) w.there h w.here) fact f.2

  abbrev chosen : (name : SegName) → Found name ⊎ ((s : Segment) → In s all_flown → s.name ≡ name → ⊥) → Segment
  chosen name (inl f) = f.0
  chosen name (inr none) = any name

  chosen_is : (r : Role) (h : There r) (s : Segment) → In s (flown_in r h)
      → (o : Found s.name ⊎ ((t : Segment) → In t all_flown → t.name ≡ s.name → ⊥)) → chosen s.name o ≡ s
  chosen_is r h s fact (inl f) = found_is r h s fact f
  chosen_is r h s fact (inr none) = absurd (none s (among_all s r h fact) refl)

  pub texts_of : Texts base e lines
  texts_of = record {
    text = λ name. chosen name (look name all_flown);
    flown = λ r there count s here.
        chosen_is r there s (flown_by_end base e r (lines r there) count s here) (look s.name all_flown);
  }
