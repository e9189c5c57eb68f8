-- The members of a current group are at the generations that their servers have now.
use Rattle.std.proofs.Common.{◌≡◌, ◌≢◌, ℕ, zero, suc, ◌+◌, ◌-◌, ◌<◌, Bool, true, false, cond, List, [], ◌∷◌, ◌++◌, Option, Some, map, refl, sym, ◌∙◌, subst, arith}
use Rattle.std.specs.Prelude.{◌==◌, ◌&&◌, ◌||◌, All, not, filter, find, replicate, slice_index, slice_set}
use Rattle.std.specs.List.{list_any}
use Rattle.std.proofs.lemmas.Bool.Decides.{nat_tests}
use Rattle.std.proofs.lemmas.List.Elements.{All-nil, All-cons, All-head, All-tail, All-append}
use Rattle.group_map.specs.declared.group.Group.{Group}
use Rattle.group_map.specs.declared.group.Member.{Member}
use Rattle.group_map.specs.GroupMapState.{GroupMapState}
use Rattle.group_map.specs.Groups.{group_of, generation_at, generations_after, numbered, first_members, first_layout, present_members, present_layout, retired, has_server, is_hit, followers}
use Rattle.group_map.specs.Layout.{Layout}
use Rattle.group_map.specs.WellFormed.{IsServer, IsStripe, IsPresent}
use Rattle.xfs_base.specs.declared.setup.GroupSetup.{GroupSetup}

abbrev IsNow : List ℕ → Member → Type 0
IsNow generations m = m.generation ≡ generation_at generations m.server

-- a layout that is made now
abbrev OfNow : List ℕ → Layout → Type 0
OfNow generations l = All (IsNow generations) l.members

now_present : (generations : List ℕ) (ms : List Member) → All (IsNow generations) (present_members generations ms)
now_present generations [] = All-nil (IsNow generations)
now_present generations (m ∷ ms) =
    All-cons (IsNow generations) (record { server = m.server; generation = generation_at generations m.server }) (present_members generations ms) refl
    (now_present generations ms)

at_first : (n i : ℕ) → i < n → slice_index (replicate n 1) i ≡ 1
at_first zero i l = absurd (omega arith)
at_first (suc n) zero l = refl
at_first (suc n) (suc i) l = at_first n i (omega arith)

now_first : (servers : ℕ) (ss : List ℕ) → All (IsServer servers) ss → All (IsNow (replicate servers 1)) (first_members ss)
now_first servers [] h = All-nil (IsNow (replicate servers 1))
now_first servers (s ∷ ss) h =
    let lo : IsServer servers s = All-head (IsServer servers) s ss h in
    let below : s - 1 < servers = omega arith in
    All-cons (IsNow (replicate servers 1)) (record { server = s; generation = 1 }) (first_members ss) (sym (at_first servers (s - 1) below))
    (now_first servers ss (All-tail (IsServer servers) s ss h))

now_layouts : (servers : ℕ) (gs : List GroupSetup) → All (λ g. All (IsServer servers) g.servers) gs → All (OfNow (replicate servers 1)) (map first_layout gs)
now_layouts servers [] h = All-nil (OfNow (replicate servers 1))
now_layouts servers (g ∷ gs) h =
    All-cons (OfNow (replicate servers 1)) (first_layout g) (map first_layout gs)
    (now_first servers g.servers (All-head (λ (x : GroupSetup). All (IsServer servers) x.servers) g gs h))
    (now_layouts servers gs (All-tail (λ (x : GroupSetup). All (IsServer servers) x.servers) g gs h))

present-numbered : (generations : List ℕ) (k : ℕ) (ls : List Layout) → All (OfNow generations) ls → All (IsPresent generations) (numbered k ls)
present-numbered generations k [] h = All-nil (IsPresent generations)
present-numbered generations k (l ∷ ls) h =
    All-cons (IsPresent generations) (record { id = k; members = l.members; parity = l.parity; current = true }) (numbered (k + 1) ls)
    (λ c. All-head (OfNow generations) l ls h) (present-numbered generations (k + 1) ls (All-tail (OfNow generations) l ls h))

pub present-started : (servers : ℕ) (gs : List GroupSetup) → All (λ g. All (IsServer servers) g.servers) gs
    → All (IsPresent (replicate servers 1)) (numbered 1 (map first_layout gs))
present-started servers gs h = present-numbered (replicate servers 1) 1 (map first_layout gs) (now_layouts servers gs h)

-- ---- a loss

-- another server keeps its generation
set_other : (xs : List ℕ) (i j n : ℕ) → i ≢ j → slice_index (slice_set xs i n) j ≡ slice_index xs j
set_other [] i j n ne = refl
set_other (x ∷ xs) zero zero n ne = absurd (ne refl)
set_other (x ∷ xs) zero (suc j) n ne = refl
set_other (x ∷ xs) (suc i) zero n ne = refl
set_other (x ∷ xs) (suc i) (suc j) n ne = set_other xs i j n (λ e. ne (omega arith))

or_false : (a b : Bool) → a || b ≡ false → (a ≡ false) × (b ≡ false)
or_false true b h = absurd cc
or_false false b h = (refl, h)

and_not : (a b : Bool) → (a && not b) ≡ true → (a ≡ true) × (b ≡ false)
and_not true true h = absurd cc
and_not true false h = (refl, refl)
and_not false b h = absurd cc

now_spared : (servers server generation : ℕ) (generations : List ℕ) (ms : List Member) → IsServer servers server → list_any (λ m. m.server == server) ms ≡ false
    → All (λ m. IsServer servers m.server) ms → All (IsNow generations) ms → All (IsNow (generations_after generations server generation)) ms
now_spared servers server generation generations [] s none exist h = All-nil (IsNow (generations_after generations server generation))
now_spared servers server generation generations (m ∷ ms) s none exist h =
    let parts = or_false (m.server == server) (list_any (λ (x : Member). x.server == server) ms) none in
    let here : IsServer servers m.server = All-head (λ (x : Member). IsServer servers x.server) m ms exist in
    let apart : m.server ≢ server = grind (arith, nat_tests, parts.0) in
    let places : server - 1 ≢ m.server - 1 = omega (arith, s.0, here.0) in
    let kept : generation_at (generations_after generations server generation) m.server ≡ generation_at generations m.server =
    set_other generations (server - 1) (m.server - 1) generation places in
    All-cons (IsNow (generations_after generations server generation)) m ms (All-head (IsNow generations) m ms h ∙ sym kept)
    (now_spared servers server generation generations ms s parts.1 (All-tail (λ (x : Member). IsServer servers x.server) m ms exist)
    (All-tail (IsNow generations) m ms h))

abbrev HasStripe : ℕ → Group → Type 0
HasStripe servers g = IsStripe servers g.parity g.members

present-retired : (servers server generation : ℕ) (generations : List ℕ) (g : Group) → IsServer servers server → HasStripe servers g → IsPresent generations g
    → IsPresent (generations_after generations server generation) (retired server g)
present-retired servers server generation generations g s stripe h current =
    let parts = and_not g.current (has_server server g) current in
    now_spared servers server generation generations g.members s parts.1 stripe.exist (h parts.0)

present-all_retired : (servers server generation : ℕ) (generations : List ℕ) (gs : List Group) → IsServer servers server → All (HasStripe servers) gs
    → All (IsPresent generations) gs → All (IsPresent (generations_after generations server generation)) (map (retired server) gs)
present-all_retired servers server generation generations [] s stripes h = All-nil (IsPresent (generations_after generations server generation))
present-all_retired servers server generation generations (g ∷ gs) s stripes h =
    All-cons (IsPresent (generations_after generations server generation)) (retired server g) (map (retired server) gs)
    (present-retired servers server generation generations g s (All-head (HasStripe servers) g gs stripes) (All-head (IsPresent generations) g gs h))
    (present-all_retired servers server generation generations gs s (All-tail (HasStripe servers) g gs stripes) (All-tail (IsPresent generations) g gs h))

now_following : (generations : List ℕ) (gs : List Group) → All (OfNow generations) (map (present_layout generations) gs)
now_following generations [] = All-nil (OfNow generations)
now_following generations (g ∷ gs) =
    All-cons (OfNow generations) (present_layout generations g) (map (present_layout generations) gs) (now_present generations g.members)
    (now_following generations gs)

pub present-lost : (servers server generation k : ℕ) (generations : List ℕ) (gs : List Group) → IsServer servers server → All (HasStripe servers) gs
    → All (IsPresent generations) gs
    → All (IsPresent (generations_after generations server generation))
    (map (retired server) gs ++ numbered k (followers (generations_after generations server generation) server gs))
present-lost servers server generation k generations gs s stripes h =
    let now : List ℕ = generations_after generations server generation in
    All-append (IsPresent now) (map (retired server) gs) (numbered k (followers now server gs))
    (present-all_retired servers server generation generations gs s stripes h)
    (present-numbered now k (followers now server gs) (now_following now (filter (is_hit server) gs)))

-- the group that a look-up finds is one of the groups
found_first : (P : Group → Type 0) (b : Bool) (x g : Group) (o : Option Group) → P x → (o ≡ Some g → P g) → cond b (Some x) o ≡ Some g → P g
found_first P true x g o p q e = let same : x ≡ g = cc in subst P same p
found_first P false x g o p q e = q e

found : (P : Group → Type 0) (test : Group → Bool) (gs : List Group) (g : Group) → All P gs → find test gs ≡ Some g → P g
found P test [] g h e = absurd cc
found P test (x ∷ xs) g h e = found_first P (test x) x g (find test xs) (All-head P x xs h) (λ f. found P test xs g (All-tail P x xs h) f) e

pub is_present : (state : GroupMapState) (id : ℕ) (g : Group) → All (IsPresent state.generations) state.groups → group_of state id ≡ Some g
    → IsPresent state.generations g
is_present state id g h e = found (IsPresent state.generations) (λ (x : Group). x.id == id) state.groups g h e
