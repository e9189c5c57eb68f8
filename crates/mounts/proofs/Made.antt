-- The rings between applications and clients, as they are made, and who gets which.
use Rattle.std.proofs.Common.{◌≡◌, refl, sym, ap, subst, ◌∙◌, ℕ, suc, ◌+◌, List, [], ◌∷◌, ◌++◌, length, Some, inl, inr, arith, length-append}
use Rattle.std.specs.Prelude.{slice_get, All}
use Rattle.std.proofs.lemmas.List.Elements.{All-pop}
use Rattle.std.proofs.lemmas.Option.{slice_get_within}
use Rattle.script_text.specs.declared.script.Script.{Script}
use Rattle.journals.proofs.Gets.{get_snoc, has}
use Rattle.mounts.specs.declared.mount.Mount.{Mount}
use Rattle.mounts.specs.declared.port.Port.{Port}
use Rattle.mounts.specs.Ports.{ArePairs, IsFreshPort, IsPairFor, IsPortAt, SamePort}

pub no_pairs : (script : Script) (mounts : List Mount) (ports : List Port) → mounts ≡ [] → ports ≡ [] → ArePairs script 0 mounts ports
no_pairs script mounts ports none nothing =
    rw (none, nothing) (record {
      mounts_count = refl;
      ports_count = refl;
      each = λ p m q a b. absurd (cc);
    })

pub pairs_more : (script : Script) (count : ℕ) (mounts mounts' : List Mount) (ports ports' : List Port) (m : Mount) (q : Port) → ArePairs script count mounts ports
    → mounts' ≡ mounts ++ m ∷ [] → ports' ≡ ports ++ q ∷ [] → IsPairFor script count m q → ArePairs script (count + 1) mounts' ports'
pairs_more script count mounts mounts' ports ports' m q all a b one = record {
  mounts_count = ap (λ (xs : List Mount). length xs) a ∙ length-append mounts (m ∷ []) ∙ ap (λ n. n + 1) all.mounts_count;
  ports_count = ap (λ (xs : List Port). length xs) b ∙ length-append ports (q ∷ []) ∙ ap (λ n. n + 1) all.ports_count;
  each = λ p x y at_x at_y.
      let first = get_snoc mounts m x p (subst (λ (xs : List Mount). slice_get xs p ≡ Some x) a at_x) in
      let second = get_snoc ports q y p (subst (λ (xs : List Port). slice_get xs p ≡ Some y) b at_y) in
      elim first [
        | inl early ↦ elim second [
          | inl both ↦ all.each p x y early both
          | inr late ↦ absurd (let w = slice_get_within mounts p x early in let e = late.0 in let l = all.mounts_count in let k = all.ports_count in omega arith)
        ]
        | inr now ↦ elim second [
          | inl early ↦ absurd (let w = slice_get_within ports p y early in let e = now.0 in let l = all.mounts_count in let k = all.ports_count in omega arith)
          | inr late ↦
              let place : count ≡ p = sym all.mounts_count ∙ sym now.0 in
              subst (λ (z : Mount). IsPairFor script p z y) now.1 (subst (λ (z : Port). IsPairFor script p m z) late.1 (subst (λ (k : ℕ). IsPairFor script k m q) place one))
        ]
      ];
}

-- those that are left stand behind those that were taken
abbrev pub IsLeft : {X : Type 0} → List X → ℕ → List X → Type 0
IsLeft {X} all taken left = (k : ℕ) (x : X) → slice_get left k ≡ Some x → slice_get all (taken + k) ≡ Some x

pub all_left : {X : Type 0} (all left : List X) → left ≡ all → IsLeft all 0 left
all_left {X} all left is k x at =
    let here : k ≡ 0 + k = omega arith in
    subst (λ (j : ℕ). slice_get all j ≡ Some x) here (subst (λ (xs : List X). slice_get xs k ≡ Some x) is at)

pub left_first : {X : Type 0} (all left rest : List X) (taken : ℕ) (x : X) → IsLeft all taken left → left ≡ x ∷ rest → slice_get all taken ≡ Some x
left_first {X} all left rest taken x l is =
    let zero_more : taken + 0 ≡ taken = omega arith in
    subst (λ (k : ℕ). slice_get all k ≡ Some x) zero_more (l 0 x (ap (λ (xs : List X). slice_get xs 0) is))

pub left_less : {X : Type 0} (all left rest : List X) (taken more : ℕ) (x : X) → IsLeft all taken left → left ≡ x ∷ rest → more ≡ taken + 1 → IsLeft all more rest
left_less {X} all left rest taken more x l is next k y at =
    let place : taken + suc k ≡ more + k = omega arith in
    subst (λ (j : ℕ). slice_get all j ≡ Some y) place (l (suc k) y (subst (λ (xs : List X). slice_get xs (suc k) ≡ Some y) (sym is) at))

same_port : (p : Port) → SamePort p p
same_port p = (((refl, refl, refl, refl), refl), ((refl, refl, refl, refl), refl))

-- a port is the one that was made for its place
pub port_at : (ports made : List Port) (place other : ℕ) (p : Port) → made ≡ ports → place ≡ other → slice_get made other ≡ Some p → IsPortAt ports place p
port_at ports made place other p is same at =
    (p, subst (λ (k : ℕ). slice_get ports k ≡ Some p) (sym same) (subst (λ (ps : List Port). slice_get ps other ≡ Some p) is at), same_port p)

-- and a mount is joined to it
pub mount_at : (script : Script) (count : ℕ) (mounts : List Mount) (ports : List Port) (place : ℕ) (m : Mount) → ArePairs script count mounts ports → slice_get mounts place ≡ Some m
    → (q : Port) × (slice_get ports place ≡ Some q) × IsPairFor script place m q
mount_at script count mounts ports place m all at =
    let within = slice_get_within mounts place m at in
    let a = all.mounts_count in
    let b = all.ports_count in
    let q = has ports place (omega arith) in
    (q.0, q.1, all.each place m q.0 at q.1)

pub ports_fresh : (script : Script) (count : ℕ) (mounts : List Mount) (ports : List Port) → ArePairs script count mounts ports → (p : ℕ) (q : Port) → slice_get ports p ≡ Some q → IsFreshPort q
ports_fresh script count mounts ports all p q at =
    let within = slice_get_within ports p q at in
    let a = all.mounts_count in
    let b = all.ports_count in
    let m = has mounts p (omega arith) in
    (all.each p m.0 q m.1 at).port

-- of all but the last
pub without_last : {X : Type 0} (P : X → Type 0) (xs less : List X) (x : X) → xs ≡ less ++ x ∷ [] → All P xs → All P less
without_last P xs less x is h = (All-pop P xs less (Some x) is h).0

-- and of the last
pub last_one : {X : Type 0} (P : X → Type 0) (xs less : List X) (x : X) → xs ≡ less ++ x ∷ [] → All P xs → P x
last_one P xs less x is h = (All-pop P xs less (Some x) is h).1
