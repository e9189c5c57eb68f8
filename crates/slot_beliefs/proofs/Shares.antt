-- What each change of the beliefs makes of what a client is believed to have of a block.
use Rattle.std.proofs.Common.{◌≡◌, ℕ, ◌+◌, ◌≤◌, ◌<◌, ◌==◌, ◌&&◌, ◌||◌, Bool, true, false, cond, not, List, [], ◌∷◌, ◌⊎◌, inl, inr, Option, Some, None, IsSome, is_some, Contains, refl, sym, ap, subst, ◌∙◌, arith}
use Rattle.std.specs.Ordering.{nat_cmp, eq_by_cmp}
use Rattle.std.specs.Cmp.{IsTotalOrder, IsEquivalence}
use Rattle.std.specs.List.Sorted.{IsStrictlySortedBy}
use Rattle.std.specs.Map.{lookup, keys_of, remove_entry, set_value}
use Rattle.std.specs.BTreeMap.{is_at, insert_entry}
use Rattle.std.proofs.lemmas.Cmp.{on_total, then_total, nat_cmp_total, eq_by_cmp_equiv}
use Rattle.std.proofs.lemmas.Map.{lookup-set_value, lookup-remove_entry}
use Rattle.std.proofs.lemmas.Map.Keys.{IsDistinct-from_sorted}
use Rattle.std.proofs.lemmas.Map.Views.{tells_apart}
use Rattle.std.proofs.lemmas.Map.Lookups.{CmpEqualImpliesEq, exact_unsigned, exact_pairs}
use Rattle.std.proofs.lemmas.Bool.{ne_eqb}
use Rattle.xfs_base.specs.declared.block.BlockId.{BlockId}
use Rattle.xfs_base.specs.declared.token.Mode.{Mode}
use Rattle.xfs_base.specs.Blocks.{block_cmp, same_block}
use Rattle.xfs_base.proofs.BlockOrder.{block_cmp_total, block_cmp_exact, lookup-insert_entry, same_block_itself}
use Rattle.xfs_base.proofs.Members.{contains_first, contains_rest}
use Rattle.xfs_base.specs.Modes.{is_own}
use Rattle.slot_beliefs.specs.declared.job.Holder.{Holder}
use Rattle.slot_beliefs.specs.declared.job.Wanted.{Wanted}
use Rattle.slot_beliefs.specs.Beliefs.{holder_cmp, holder, others, forget_block, beliefs_own, beliefs_hold, meet_want, give_way, share, share_of, wanted_share}

pub holder_cmp_exact : CmpEqualImpliesEq holder_cmp
holder_cmp_exact a b h =
    ap (λ (p : BlockId × ℕ). record { block = p.0; client = p.1 })
    (exact_pairs block_cmp nat_cmp block_cmp_exact exact_unsigned (a.block, a.client) (b.block, b.client) h)

pub holder_cmp_total : IsTotalOrder holder_cmp
holder_cmp_total = then_total (on_total (λ (h : Holder). h.block) block_cmp_total) (on_total (λ (h : Holder). h.client) nat_cmp_total)

pub holder_laws : IsEquivalence (eq_by_cmp holder_cmp)
holder_laws = eq_by_cmp_equiv holder_cmp_total

abbrev pub belief : List (Holder × Bool) → Holder → Option Bool
belief bs h = lookup (is_at (holder_cmp h)) bs

-- ---- without the beliefs of a block

dropped_from : (at of : Bool) (x below found : Option Bool) → (at ≡ true → of ≡ true) → found ≡ cond of None below → found ≡ cond of None (cond at x below)
dropped_from true true x below found so fact = fact
dropped_from true false x below found so fact = absurd (let f : false ≡ true = so refl in cc)
dropped_from false of x below found so fact = fact

kept_in : (at of : Bool) (x below found : Option Bool) → (at ≡ true → of ≡ false) → found ≡ cond of None below
    → cond at x found ≡ cond of None (cond at x below)
kept_in true true x below found so fact = absurd (let f : true ≡ false = so refl in cc)
kept_in true false x below found so fact = refl
kept_in false of x below found so fact = fact

abbrev nothing_held : Option Bool
nothing_held = None

never : (t : Bool) → nothing_held ≡ cond t nothing_held nothing_held
never true = refl
never false = refl

pub belief-forget_block : (q : Holder) (block : BlockId) (bs : List (Holder × Bool))
    → belief (forget_block bs block) q ≡ cond (same_block q.block block) None (belief bs q)
belief-forget_block q block [] = never (same_block q.block block)
belief-forget_block q block (e ∷ es) =
    let at = is_at (holder_cmp q) e.0 in
    let of = same_block q.block block in
    let rest = belief-forget_block q block es in
    let one : at ≡ true → of ≡ same_block e.0.block block = λ same. ap (λ (h : Holder). same_block h.block block) (tells_apart holder_cmp_exact q e.0 same) in
    elim (same_block e.0.block block) as
    (λ t. same_block e.0.block block ≡ t
    → belief (cond (not t) (e ∷ forget_block es block) (forget_block es block)) q ≡ cond of None (cond at (Some e.1) (belief es q))) [
      | true ↦ λ dropped. dropped_from at of (Some e.1) (belief es q) (belief (forget_block es block) q) (λ same. one same ∙ dropped) rest
      | false ↦ λ kept. kept_in at of (Some e.1) (belief es q) (belief (forget_block es block) q) (λ same. one same ∙ kept) rest
    ] refl

-- ---- once the asker has what it wants

pub share_at_most : (o : Option Bool) → share o ≤ 2
share_at_most None = omega arith
share_at_most (Some true) = omega arith
share_at_most (Some false) = omega arith

least_cond : (t of : Bool) (o : Option Bool) → (t ≡ true → ⊥) → share (cond t (Some true) (cond of None o)) ≤ share o
least_cond true of o apart = absurd (apart refl)
least_cond false true o apart = omega arith
least_cond false false o apart = omega arith

least_put : (t : Bool) (o : Option Bool) → (t ≡ true → ⊥) → share (cond t (Some false) o) ≤ share o
least_put true o apart = absurd (apart refl)
least_put false o apart = omega arith

pub apart_test : (q h : Holder) → (q ≡ h → ⊥) → eq_by_cmp holder_cmp q h ≡ true → ⊥
apart_test q h apart same = apart (tells_apart holder_cmp_exact q h same)

least-beliefs_own : (bs : List (Holder × Bool)) (h q : Holder) → (q ≡ h → ⊥) → share (belief (beliefs_own bs h) q) ≤ share (belief bs q)
least-beliefs_own bs h q apart =
    let fact : belief (beliefs_own bs h) q ≡ cond (eq_by_cmp holder_cmp q h) (Some true) (cond (same_block q.block h.block) None (belief bs q)) =
    lookup-insert_entry holder_cmp_total q h true (forget_block bs h.block)
    ∙ ap (cond (eq_by_cmp holder_cmp q h) (Some true)) (belief-forget_block q h.block bs) in
    subst (λ o. share o ≤ share (belief bs q)) (sym fact)
    (least_cond (eq_by_cmp holder_cmp q h) (same_block q.block h.block) (belief bs q) (apart_test q h apart))

least-beliefs_hold : (bs : List (Holder × Bool)) (h q : Holder) → (q ≡ h → ⊥) → share (belief (beliefs_hold bs h) q) ≤ share (belief bs q)
least-beliefs_hold bs h q apart =
    elim (is_some (belief bs h)) as (λ t. share (belief (cond t bs (insert_entry holder_cmp bs h false)) q) ≤ share (belief bs q)) [
      | true ↦ omega arith
      | false ↦ subst (λ o. share o ≤ share (belief bs q)) (sym (lookup-insert_entry holder_cmp_total q h false bs))
          (least_put (eq_by_cmp holder_cmp q h) (belief bs q) (apart_test q h apart))
    ]

-- nobody but the asker has more than before
pub least : (bs : List (Holder × Bool)) (want : Wanted) (q : Holder) → (q ≡ holder want.block want.client → ⊥)
    → share (belief (meet_want bs want) q) ≤ share (belief bs q)
least bs want q apart =
    let h = holder want.block want.client in
    elim (is_own want.mode) as (λ t. share (belief (cond t (beliefs_own bs h) (beliefs_hold bs h)) q) ≤ share (belief bs q))
    [ true ↦ least-beliefs_own bs h q apart | false ↦ least-beliefs_hold bs h q apart ]

asker-beliefs_hold : (bs : List (Holder × Bool)) (h : Holder) → (share (belief (beliefs_hold bs h) h) ≤ 1) ⊎ (share (belief (beliefs_hold bs h) h) ≤ share (belief bs h))
asker-beliefs_hold bs h =
    elim (is_some (belief bs h)) as
    (λ t. (share (belief (cond t bs (insert_entry holder_cmp bs h false)) h) ≤ 1)
    ⊎ (share (belief (cond t bs (insert_entry holder_cmp bs h false)) h) ≤ share (belief bs h))) [
      | true ↦ inr (omega arith)
      | false ↦ inl
          (let fact : belief (insert_entry holder_cmp bs h false) h ≡ Some false = lookup-insert_entry holder_cmp_total h h false bs
          ∙ ap (λ t. cond t (Some false) (belief bs h)) (holder_laws.refl h) in let one : share (belief (insert_entry holder_cmp bs h false) h) ≡ 1 =
          ap share fact in omega arith)
    ]

-- the asker has no more than it wanted, or than it had
pub asker : (bs : List (Holder × Bool)) (want : Wanted) → let h =
    holder want.block want.client in
    (share (belief (meet_want bs want) h) ≤ wanted_share want.mode) ⊎ (share (belief (meet_want bs want) h) ≤ share (belief bs h))
asker bs want =
    let h = holder want.block want.client in
    elim (is_own want.mode) as
    (λ t. (share (belief (cond t (beliefs_own bs h) (beliefs_hold bs h)) h) ≤ cond t 2 1)
    ⊎ (share (belief (cond t (beliefs_own bs h) (beliefs_hold bs h)) h) ≤ share (belief bs h))) [
      | true ↦ inl (share_at_most (belief (beliefs_own bs h) h))
      | false ↦ asker-beliefs_hold bs h
    ]

-- ---- once a client gave a block up

lowered : (t : Bool) (o : Option Bool) → (t ≡ true → IsSome o) → share (cond t (Some false) o) ≤ share o
lowered true None some = absurd (let f : false ≡ true = some refl in cc)
lowered true (Some true) some = omega arith
lowered true (Some false) some = omega arith
lowered false o some = omega arith

removed : (t : Bool) (o : Option Bool) → share (cond t None o) ≤ share o
removed true o = omega arith
removed false o = omega arith

one_test : (h x y : Holder) → is_at (holder_cmp h) x ≡ true → is_at (holder_cmp h) y ≡ eq_by_cmp holder_cmp x y
one_test h x y same = holder_laws.congr h x y same

none_held : (o : Option Bool) → is_some o ≡ false → share o ≡ 0
none_held None none = refl
none_held (Some x) none = absurd (cc)

pub disowned : (bs : List (Holder × Bool)) (h q : Holder) → IsSome (belief bs h)
    → belief (set_value (is_at (holder_cmp h)) bs false) q ≡ cond (is_at (holder_cmp h) q) (Some false) (belief bs q)
disowned bs h q some = lookup-set_value holder_laws (is_at (holder_cmp h)) (one_test h) q false bs some

pub forgotten : (bs : List (Holder × Bool)) (h q : Holder) → IsStrictlySortedBy holder_cmp (keys_of bs)
    → belief (remove_entry (is_at (holder_cmp h)) bs) q ≡ cond (is_at (holder_cmp h) q) None (belief bs q)
forgotten bs h q sorted = lookup-remove_entry holder_laws (is_at (holder_cmp h)) (one_test h) q bs (IsDistinct-from_sorted holder_cmp (keys_of bs) sorted)

-- nobody has more than before
pub less : (bs : List (Holder × Bool)) (h q : Holder) (keep : Bool) → IsStrictlySortedBy holder_cmp (keys_of bs)
    → share (belief (give_way bs h keep) q) ≤ share (belief bs q)
less bs h q true sorted =
    elim (is_some (belief bs h)) as
    (λ t. is_some (belief bs h) ≡ t → share (belief (cond t (set_value (is_at (holder_cmp h)) bs false) bs) q) ≤ share (belief bs q)) [
      | true ↦ λ some. subst (λ o. share o ≤ share (belief bs q)) (sym (disowned bs h q some))
          (lowered (is_at (holder_cmp h) q) (belief bs q) (λ same. subst (λ x. IsSome (belief bs x)) (tells_apart holder_cmp_exact h q same) some))
      | false ↦ λ _. omega arith
    ] refl
less bs h q false sorted = subst (λ o. share o ≤ share (belief bs q)) (sym (forgotten bs h q sorted)) (removed (is_at (holder_cmp h) q) (belief bs q))

-- the giver has at most what it may keep
pub kept : (bs : List (Holder × Bool)) (h : Holder) (mode : Mode) → IsStrictlySortedBy holder_cmp (keys_of bs)
    → share (belief (give_way bs h (not (is_own mode))) h) + wanted_share mode ≤ 2
kept bs h mode sorted =
    elim (is_own mode) as (λ t. share (belief (give_way bs h (not t)) h) + cond t 2 1 ≤ 2) [
      | true ↦ let gone : share (belief (remove_entry (is_at (holder_cmp h)) bs) h) ≡ 0 =
          ap share (forgotten bs h h sorted ∙ ap (λ t. cond t None (belief bs h)) (holder_laws.refl h)) in omega arith
      | false ↦ elim (is_some (belief bs h)) as
          (λ t. is_some (belief bs h) ≡ t → share (belief (cond t (set_value (is_at (holder_cmp h)) bs false) bs) h) + 1 ≤ 2) [
            | true ↦ λ some. let one : share (belief (set_value (is_at (holder_cmp h)) bs false) h) ≡ 1 =
                ap share (disowned bs h h some ∙ ap (λ t. cond t (Some false) (belief bs h)) (holder_laws.refl h)) in omega arith
            | false ↦ λ none. let zero_ : share (belief bs h) ≡ 0 = none_held (belief bs h) none in omega arith
          ] refl
    ]

-- ---- whom a want finds

all_pass : (x y z : Bool) → x ≡ true → y ≡ false → z ≡ true → x && not y && z ≡ true
all_pass true false true p q r = refl
all_pass true false false p q r = absurd (cc)
all_pass true true z p q r = absurd (cc)
all_pass false y z p q r = absurd (cc)

found_first : (t : Bool) (c : ℕ) (cs : List ℕ) → t ≡ true → Contains (cond t (c ∷ cs) cs) c
found_first true c cs p = contains_first c cs
found_first false c cs p = absurd (cc)

found_later : (t : Bool) (d c : ℕ) (cs : List ℕ) → Contains cs c → Contains (cond t (d ∷ cs) cs) c
found_later true d c cs h = contains_rest d c cs h
found_later false d c cs h = h

-- whether one with this belief must give way
abbrev pub gives_way : Bool → Option Bool → Bool
gives_way owners None = false
gives_way owners (Some owns) = owns || not owners

others_found : (bs : List (Holder × Bool)) (block : BlockId) (asking c : ℕ) (owners : Bool) → (c ≡ asking → ⊥)
    → gives_way owners (belief bs (holder block c)) ≡ true → Contains (others bs block asking owners) c
others_found [] block asking c owners apart gives = absurd (cc)
others_found (e ∷ es) block asking c owners apart gives =
    let h = holder block c in
    let test : Holder → Bool = λ k. same_block k.block block && not (k.client == asking) && (e.1 || not owners) in
    let rest = others es block asking owners in
    let go : (at : Bool) → is_at (holder_cmp h) e.0 ≡ at → gives_way owners (cond at (Some e.1) (belief es h)) ≡ true
    → Contains (cond (test e.0) (e.0.client ∷ rest) rest) c = λ at.
    elim at as (λ t. is_at (holder_cmp h) e.0 ≡ t → gives_way owners (cond t (Some e.1) (belief es h)) ≡ true
    → Contains (cond (test e.0) (e.0.client ∷ rest) rest) c) [
      | true ↦ λ same way. subst (λ k. Contains (cond (test k) (k.client ∷ rest) rest) c) (tells_apart holder_cmp_exact h e.0 same)
          (found_first (test h) c rest
          (all_pass (same_block block block) (c == asking) (e.1 || not owners) (same_block_itself block) (ne_eqb c asking apart) way))
      | false ↦ λ _ way. found_later (test e.0) e.0.client c rest (others_found es block asking c owners apart way)
    ]
    in
    go (is_at (holder_cmp h) e.0) refl gives

must : (t : Bool) (o : Option Bool) → 2 < share o + cond t 2 1 → gives_way (not t) o ≡ true
must true None more = absurd (omega arith)
must false None more = absurd (omega arith)
must true (Some true) more = refl
must true (Some false) more = refl
must false (Some true) more = refl
must false (Some false) more = absurd (omega arith)

-- who has more than a want leaves to others is found by it
pub found_by : (bs : List (Holder × Bool)) (want : Wanted) (c : ℕ) → (c ≡ want.client → ⊥) → 2 < share_of bs want.block c + wanted_share want.mode
    → Contains (others bs want.block want.client (not (is_own want.mode))) c
found_by bs want c apart more =
    others_found bs want.block want.client c (not (is_own want.mode)) apart (must (is_own want.mode) (belief bs (holder want.block c)) more)
