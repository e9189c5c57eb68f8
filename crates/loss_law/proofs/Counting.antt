-- Servers that differ, each that of a member, are no more than the members of which is true what is true of them.
use Rattle.std.proofs.Common.{◌≡◌, ℕ, suc, ◌+◌, ◌==◌, ◌||◌, ◌<◌, ◌≤◌, Bool, true, false, cond, map, List, [], ◌∷◌, length, refl, sym, ap, ◌∙◌, arith}
use Rattle.std.specs.List.{count_by, list_any}
use Rattle.std.specs.Prelude.{slice_index_or}
use Rattle.std.proofs.lemmas.List.Recursion.{is_count_by}
use Rattle.std.proofs.lemmas.Bool.Decides.{nat_tests}
use Rattle.std.proofs.lemmas.Bool.{eqb-true}
use Rattle.xfs_base.proofs.Booleans.{contrary, or_second}
use Rattle.group_map.specs.declared.group.Member.{Member}
use Rattle.log_flight.specs.Flights.{no_member}

-- a pair of this server is among them
abbrev pub is_in : ℕ → List (ℕ × ℕ) → Bool
is_in v pairs = list_any (λ p. p.0 == v) pairs

-- their servers differ
abbrev pub Apart : List (ℕ × ℕ) → Type 0
Apart [] = Unit {0}
Apart (p ∷ ps) = (is_in p.0 ps ≡ false) × Apart ps

abbrev pub Each : ((ℕ × ℕ) → Type 0) → List (ℕ × ℕ) → Type 0
Each P [] = Unit {0}
Each P (p ∷ ps) = P p × Each P ps

abbrev pub servers_of : List Member → List ℕ
servers_of ms = map (λ (m : Member). m.server) ms

-- the server is among these
abbrev pub Among : List ℕ → (ℕ × ℕ) → Type 0
Among servers p = list_any (λ s. s == p.0) servers ≡ true

-- how many pass the test
abbrev number : (Member → Bool) → List Member → ℕ
number f [] = 0
number f (m ∷ ms) = cond (f m) 1 0 + number f ms

number_is : (f : Member → Bool) (ms : List Member) → number f ms ≡ count_by f ms
number_is f ms = is_count_by (number f) f refl (λ m rest. by (f m) (number f rest)) ms
  where
    by : (t : Bool) (k : ℕ) → cond t 1 0 + k ≡ cond t (1 + k) k
    by true k = omega arith
    by false k = omega arith

abbrev marked : List (ℕ × ℕ) → Member → Bool
marked ps m = is_in m.server ps

one_in : (a b : Bool) (c d : ℕ) → a ≡ false → b ≡ true → c ≤ d → suc (cond a 1 0 + c) ≤ cond b 1 0 + d
one_in false true c d x y le = omega arith
one_in false false c d x y le = contrary y
one_in true b c d x y le = contrary (sym x)

one_on : (a b : Bool) (c d : ℕ) → (a ≡ true → b ≡ true) → suc c ≤ d → suc (cond a 1 0 + c) ≤ cond b 1 0 + d
one_on false true c d up le = omega arith
one_on false false c d up le = omega arith
one_on true true c d up le = omega arith
one_on true false c d up le = contrary (up refl)

no_less : (a b : Bool) (c d : ℕ) → (a ≡ true → b ≡ true) → c ≤ d → cond a 1 0 + c ≤ cond b 1 0 + d
no_less false true c d up le = omega arith
no_less false false c d up le = omega arith
no_less true true c d up le = omega arith
no_less true false c d up le = contrary (up refl)

-- whoever passes one test passes the other
pub all_pass : (f h : Member → Bool) → ((m : Member) → f m ≡ true → h m ≡ true) → (ms : List Member) → number f ms ≤ number h ms
all_pass f h up [] = omega arith
all_pass f h up (m ∷ ms) = no_less (f m) (h m) (number f ms) (number h ms) (up m) (all_pass f h up ms)

turned : (a b : ℕ) → (a == b) ≡ true → (b == a) ≡ true
turned a b e = grind (arith, nat_tests)

left_true : (a b : Bool) → a ≡ true → (a || b) ≡ true
left_true true b e = refl
left_true false b e = contrary e

-- a further pair counts one more
strict : (p : ℕ × ℕ) (ps : List (ℕ × ℕ)) (ms : List Member) → is_in p.0 ps ≡ false → Among (servers_of ms) p
    → suc (number (marked ps) ms) ≤ number (marked (p ∷ ps)) ms
strict p ps [] fresh among = contrary among
strict p ps (m ∷ ms) fresh among = by (strict p ps ms fresh) (m.server == p.0) refl among
  where
    by : (Among (servers_of ms) p → suc (number (marked ps) ms) ≤ number (marked (p ∷ ps)) ms) → (t : Bool) → (m.server == p.0) ≡ t
        → (t || list_any (λ s. s == p.0) (servers_of ms)) ≡ true → suc (number (marked ps) (m ∷ ms)) ≤ number (marked (p ∷ ps)) (m ∷ ms)
    by further true e rest = one_in (marked ps m) (marked (p ∷ ps) m) (number (marked ps) ms) (number (marked (p ∷ ps)) ms)
        (ap (λ v. is_in v ps) (eqb-true m.server p.0 e) ∙ fresh)
        (left_true (p.0 == m.server) (marked ps m) (turned m.server p.0 e))
        (all_pass (marked ps) (marked (p ∷ ps)) (λ k t. or_second (p.0 == k.server) (marked ps k) t) ms)
    by further false e rest = one_on (marked ps m) (marked (p ∷ ps) m) (number (marked ps) ms) (number (marked (p ∷ ps)) ms)
        (λ t. or_second (p.0 == m.server) (marked ps m) t)
        (further rest)

all_counted : (ps : List (ℕ × ℕ)) (ms : List Member) → Apart ps → Each (Among (servers_of ms)) ps → length ps ≤ number (marked ps) ms
all_counted [] ms apart among = omega arith
all_counted (p ∷ ps) ms apart among = let a = all_counted ps ms apart.1 among.1 in let b = strict p ps ms apart.0 among.0 in omega arith

marked_lacks : (lack : ℕ → Bool) (ps : List (ℕ × ℕ)) → Each (λ p. lack p.0 ≡ true) ps → (v : ℕ) → is_in v ps ≡ true → lack v ≡ true
marked_lacks lack [] each v fact = contrary fact
marked_lacks lack (p ∷ ps) each v fact = by (marked_lacks lack ps each.1 v) (p.0 == v) refl fact
  where
    by : (is_in v ps ≡ true → lack v ≡ true) → (t : Bool) → (p.0 == v) ≡ t → (t || is_in v ps) ≡ true → lack v ≡ true
    by further true e rest = ap lack (sym (eqb-true p.0 v e)) ∙ each.0
    by further false e rest = further rest

pub counted : (lack : ℕ → Bool) (ps : List (ℕ × ℕ)) (ms : List Member) → Apart ps → Each (Among (servers_of ms)) ps → Each (λ p. lack p.0 ≡ true) ps
    → length ps ≤ count_by (λ (m : Member). lack m.server) ms
counted lack ps ms apart among each =
    let a = all_counted ps ms apart among in
    let b = all_pass (marked ps) (λ (m : Member). lack m.server) (λ m t. marked_lacks lack ps each m.server t) ms in
    let c = number_is (λ (m : Member). lack m.server) ms in
    omega arith

-- whoever at a place of the list passes one test passes the other
number_places : (f h : Member → Bool) (ms : List Member)
    → ((place : ℕ) → place < length ms → f (slice_index_or ms place no_member) ≡ true → h (slice_index_or ms place no_member) ≡ true)
    → number f ms ≤ number h ms
number_places f h [] up = omega arith
number_places f h (m ∷ ms) up =
    no_less (f m) (h m) (number f ms) (number h ms) (up 0 (omega arith)) (number_places f h ms (λ place within. up (suc place) (omega arith)))

pub counted_places : (f h : Member → Bool) (ms : List Member)
    → ((place : ℕ) → place < length ms → f (slice_index_or ms place no_member) ≡ true → h (slice_index_or ms place no_member) ≡ true)
    → count_by f ms ≤ count_by h ms
counted_places f h ms up = let a = number_places f h ms up in let b = number_is f ms in let c = number_is h ms in omega arith
