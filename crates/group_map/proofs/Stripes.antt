-- Each group is one of servers that exist and differ, as many as its parity allows.
use Rattle.std.proofs.Common.{◌≡◌, ℕ, zero, suc, ◌+◌, Bool, true, false, cond, List, [], ◌∷◌, ◌++◌, Option, Some, None, length, map, refl, sym, ap, subst}
use Rattle.std.specs.Prelude.{IsTrue, All, not, nat_eq, filter, find, slice_get}
use Rattle.std.specs.List.{IsDistinct}
use Rattle.std.specs.Option.{option_map}
use Rattle.std.proofs.lemmas.List.{length-map}
use Rattle.std.proofs.lemmas.List.Elements.{All-nil, All-cons, All-head, All-tail, All-map, All-weaker, All-filter, All-append}
use Rattle.group_map.specs.declared.group.Group.{Group}
use Rattle.group_map.specs.declared.group.Member.{Member}
use Rattle.group_map.specs.Groups.{numbered, first_members, first_layout, present_members, present_layout, retired, is_hit, followers, generation_at}
use Rattle.group_map.specs.Layout.{Layout}
use Rattle.group_map.specs.Sizes.{IsParity, is_group_size, bad_size}
use Rattle.group_map.specs.WellFormed.{IsServer, IsStripe}
use Rattle.xfs_base.specs.declared.setup.GroupSetup.{GroupSetup}

abbrev HasStripe : ℕ → Group → Type 0
HasStripe servers g = IsStripe servers g.parity g.members

abbrev OfStripe : ℕ → Layout → Type 0
OfStripe servers l = IsStripe servers l.parity l.members

servers-first : (servers : List ℕ) → map (λ (m : Member). m.server) (first_members servers) ≡ servers
servers-first [] = refl
servers-first (s ∷ ss) = ap (λ xs. s ∷ xs) (servers-first ss)

servers-present : (generations : List ℕ) (ms : List Member)
    → map (λ (m : Member). m.server) (present_members generations ms) ≡ map (λ (m : Member). m.server) ms
servers-present generations [] = refl
servers-present generations (m ∷ ms) = ap (λ xs. m.server ∷ xs) (servers-present generations ms)

IsStripe-first : (servers parity : ℕ) (g : List ℕ) → IsParity parity → is_group_size parity (length g) ≡ true → All (IsServer servers) g → IsDistinct nat_eq g
    → IsStripe servers parity (first_members g)
IsStripe-first servers parity g two size exist differ = record {
  one_or_two = two;
  size = subst (λ n. IsTrue (is_group_size parity n)) (sym (length-map g _)) size;
  exist = All-map (λ (m : Member). IsServer servers m.server) (λ (s : ℕ). record { server = s; generation = 1 }) g exist;
  differ = subst (IsDistinct nat_eq) (sym (servers-first g)) differ;
}

IsStripe-present : (servers parity : ℕ) (generations : List ℕ) (ms : List Member) → IsStripe servers parity ms
    → IsStripe servers parity (present_members generations ms)
IsStripe-present servers parity generations ms s = record {
  one_or_two = s.one_or_two;
  size = subst (λ n. IsTrue (is_group_size parity n)) (sym (length-map ms _)) s.size;
  exist = All-map (λ (m : Member). IsServer servers m.server)
      (λ (m : Member). record { server = m.server; generation = generation_at generations m.server }) ms s.exist;
  differ = subst (IsDistinct nat_eq) (sym (servers-present generations ms)) s.differ;
}

stripes-numbered : (servers k : ℕ) (ls : List Layout) → All (OfStripe servers) ls → All (HasStripe servers) (numbered k ls)
stripes-numbered servers k [] h = All-nil (HasStripe servers)
stripes-numbered servers k (l ∷ ls) h =
    All-cons (HasStripe servers) (record { id = k; members = l.members; parity = l.parity; current = true }) (numbered (k + 1) ls)
    (All-head (OfStripe servers) l ls h) (stripes-numbered servers (k + 1) ls (All-tail (OfStripe servers) l ls h))

abbrev size_of : GroupSetup → ℕ
size_of g = length g.servers

-- where the first bad size is none, the first size is right, and there is none later
no_bad_size : (b : Bool) (g : GroupSetup) (o : Option GroupSetup) → option_map size_of (cond (not b) (Some g) o) ≡ None
    → (b ≡ true) × (option_map size_of o ≡ None)
no_bad_size true g o e = (refl, e)
no_bad_size false g o e = (cc, cc)

abbrev Exists : ℕ → GroupSetup → Type 0
Exists servers g = All (IsServer servers) g.servers

abbrev Differs : GroupSetup → Type 0
Differs g = IsDistinct nat_eq g.servers

abbrev HasParity : GroupSetup → Type 0
HasParity g = IsParity g.parity

stripes-first : (servers : ℕ) (gs : List GroupSetup) → bad_size gs ≡ None → All (Exists servers) gs → All Differs gs → All HasParity gs
    → All (OfStripe servers) (map first_layout gs)
stripes-first servers [] e exist differ parity = All-nil (OfStripe servers)
stripes-first servers (g ∷ gs) e exist differ parity =
    let b = no_bad_size (is_group_size g.parity (length g.servers)) g (find (λ (x : GroupSetup). not (is_group_size x.parity (length x.servers))) gs) e in
    All-cons (OfStripe servers) (first_layout g) (map first_layout gs)
    (IsStripe-first servers g.parity g.servers (All-head HasParity g gs parity) b.0 (All-head (Exists servers) g gs exist) (All-head Differs g gs differ))
    (stripes-first servers gs b.1 (All-tail (Exists servers) g gs exist) (All-tail Differs g gs differ) (All-tail HasParity g gs parity))

pub stripes-started : (servers : ℕ) (gs : List GroupSetup) → bad_size gs ≡ None → All (λ g. All (IsServer servers) g.servers) gs
    → All (λ g. IsDistinct nat_eq g.servers) gs → All (λ g. IsParity g.parity) gs → All (HasStripe servers) (numbered 1 (map first_layout gs))
stripes-started servers gs e exist differ parity = stripes-numbered servers 1 (map first_layout gs) (stripes-first servers gs e exist differ parity)

pub stripes-lost : (servers server k : ℕ) (generations : List ℕ) (gs : List Group) → All (HasStripe servers) gs
    → All (HasStripe servers) (map (retired server) gs ++ numbered k (followers generations server gs))
stripes-lost servers server k generations gs h =
    All-append (HasStripe servers) (map (retired server) gs) (numbered k (followers generations server gs))
    (All-map (HasStripe servers) (retired server) gs h)
    (stripes-numbered servers k (followers generations server gs)
    (All-map (OfStripe servers) (present_layout generations) (filter (is_hit server) gs)
    (All-weaker (HasStripe servers) (λ g. IsStripe servers g.parity (present_members generations g.members))
    (λ g s. IsStripe-present servers g.parity generations g.members s) (filter (is_hit server) gs)
    (All-filter (is_hit server) (HasStripe servers) gs h))))

-- the group at a place is such a one
pub stripe_at : (servers : ℕ) (gs : List Group) (i : ℕ) (g : Group) → All (HasStripe servers) gs → slice_get gs i ≡ Some g → IsStripe servers g.parity g.members
stripe_at servers [] i g h e = let f : ⊥ = cc in absurd f
stripe_at servers (x ∷ xs) zero g h e = let q : x ≡ g = cc in subst (HasStripe servers) q (All-head (HasStripe servers) x xs h)
stripe_at servers (x ∷ xs) (suc i) g h e = stripe_at servers xs i g (All-tail (HasStripe servers) x xs h) e
