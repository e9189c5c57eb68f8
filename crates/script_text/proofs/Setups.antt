-- A line of the setup is read as it is spelled.
use Rattle.std.proofs.Common.{◌≡◌, ◌≢◌, ℕ, ◌+◌, ◌<◌, ◌≤◌, ◌^◌, ◌==◌, nat_lt, nat_le, Bool, true, false, not, ◌&&◌, ◌||◌, List, [], ◌∷◌, ◌++◌, length, map, codes, refl, sym, ◌∙◌, ap, subst, arith, inl, inr, ◌⊎◌, Option, Some, None, if◌then◌else◌, append_assoc, append-nil}
use Rattle.std.proofs.lemmas.Bool.{eqb-false, ne_eqb, le-leb, leb-true, lt-ltb, ltb-true}
use Rattle.std.specs.List.{list_any, AllByRecursion}
use Rattle.std.specs.Str.{bytes_eq}
use Rattle.std.specs.Fmt.{decimal}
use Rattle.std.proofs.lemmas.Slice.Eq.{bytes_eq-Decides}
use Rattle.xfs_base.specs.declared.setup.GroupSetup.{GroupSetup}
use Rattle.script_text.specs.declared.stage.Stage.{Stage}
use Rattle.script_text.specs.declared.stage.Stage.TheVariants as stage
use Rattle.script_text.specs.declared.stage.Place.{Place}
use Rattle.script_text.specs.declared.setup_lines.Said.{Said}
use Rattle.script_text.specs.declared.setup_lines.Said.TheVariants as said
use Rattle.script_text.specs.Words.{first, behind, is_end}
use Rattle.script_text.specs.Script.{SaysNumber, AreDifferent, IsGroup, NamesGroup, AddsGroup, AddsActs, AddsSetup, is_setup_word}
use Rattle.script_text.specs.Reading.{number_in, number_for, if_new, new_server, servers_from, enough_for, group_of, said_as, or_else, group_said, acts_said, said_at, behind_said}
use Rattle.script_text.proofs.Pieces.{number_read, number_spelled}

-- lines of a name and a number
two_words : (ws : List (List ℕ)) → is_end (behind ws) ≡ false → is_end (behind (behind ws)) ≡ true → ws ≡ first ws ∷ first (behind ws) ∷ []
two_words [] e f = absurd (grind (arith, e))
two_words (w ∷ []) e f = absurd (grind (arith, e))
two_words (w ∷ v ∷ []) e f = refl
two_words (w ∷ v ∷ u ∷ ws) e f = absurd (grind (arith, f))

for_tests : (name : List ℕ) (a b n : ℕ) (ws : List (List ℕ)) (s t u : Bool) → bytes_eq (first ws) name ≡ s → is_end (behind ws) ≡ t
    → is_end (behind (behind ws)) ≡ u → (if s && not t && u then number_in a b (first (behind ws)) else None) ≡ Some n → SaysNumber name a b ws n
for_tests name a b n ws true false true e f g h =
    let x = number_read a b n (first (behind ws)) h in
    let y = (bytes_eq-Decides (first ws) name).0 e in
    (two_words ws f g ∙ ap (λ v. v ∷ first (behind ws) ∷ []) y ∙ ap (λ v. name ∷ v ∷ []) x.0.1, x.1, x.2)
for_tests name a b n ws true false false e f g h = absurd (grind (arith, h))
for_tests name a b n ws true true u e f g h = absurd (grind (arith, h))
for_tests name a b n ws false t u e f g h = absurd (grind (arith, h))

for_read : (name : List ℕ) (a b n : ℕ) (ws : List (List ℕ)) → number_for name a b ws ≡ Some n → SaysNumber name a b ws n
for_read name a b n ws h = for_tests name a b n ws (bytes_eq (first ws) name) (is_end (behind ws)) (is_end (behind (behind ws))) refl refl refl h

for_given : (name : List ℕ) (a b n : ℕ) (ws : List (List ℕ)) → b < 2 ^ 32 → SaysNumber name a b ws n → number_for name a b ws ≡ Some n
for_given name a b n ws l (e, x, y) =
    let t : bytes_eq name name ≡ true = (bytes_eq-Decides name name).1 refl in
    rw e (rw t (number_spelled a b n (decimal n) ((omega arith, refl), x, y)))

-- servers of a group
abbrev Known : ℕ → ℕ → Type 0
Known servers s = (s < 2 ^ 32) × (1 ≤ s) × (s ≤ servers)

taken_not : (s : ℕ) (taken : List ℕ) → list_any (λ t. t == s) taken ≡ false → AllByRecursion (λ t. t ≢ s) taken
taken_not s [] e = tt
taken_not s (t ∷ ts) e = at_tests (λ g. taken_not s ts g) (t == s) (list_any (λ u. u == s) ts) refl refl e
  where
    at_tests : (list_any (λ u. u == s) ts ≡ false → AllByRecursion (λ u. u ≢ s) ts) → (a b : Bool) → (t == s) ≡ a → list_any (λ u. u == s) ts ≡ b
        → (a || b) ≡ false → AllByRecursion (λ u. u ≢ s) (t ∷ ts)
    at_tests i false false f g h = (eqb-false t s f, i g)
    at_tests i false true f g h = absurd (grind (arith, h))
    at_tests i true b f g h = absurd (grind (arith, h))

not_taken : (s : ℕ) (taken : List ℕ) → AllByRecursion (λ t. t ≢ s) taken → list_any (λ t. t == s) taken ≡ false
not_taken s [] a = refl
not_taken s (t ∷ ts) a = rw (ne_eqb t s a.0) (not_taken s ts a.1)

-- one more at the end
all_more : (P : ℕ → Type 0) (xs : List ℕ) (s : ℕ) → AllByRecursion P xs → P s → AllByRecursion P (xs ++ s ∷ [])
all_more P [] s a h = (h, tt)
all_more P (x ∷ xs) s a h = (a.0, all_more P xs s a.1 h)

differ_more : (xs : List ℕ) (s : ℕ) → AreDifferent xs → AllByRecursion (λ t. t ≢ s) xs → AreDifferent (xs ++ s ∷ [])
differ_more [] s d a = (tt, tt)
differ_more (x ∷ xs) s d a = (all_more (λ m. m ≢ x) xs s d.0 (λ e. a.0 (sym e)), differ_more xs s d.1 a.1)

-- the front of different numbers, and the next of them
all_front : (P : ℕ → Type 0) (xs ys : List ℕ) → AllByRecursion P (xs ++ ys) → AllByRecursion P xs
all_front P [] ys a = tt
all_front P (x ∷ xs) ys a = (a.0, all_front P xs ys a.1)

all_at : (P : ℕ → Type 0) (xs ys : List ℕ) (s : ℕ) → AllByRecursion P (xs ++ s ∷ ys) → P s
all_at P [] ys s a = a.0
all_at P (x ∷ xs) ys s a = all_at P xs ys s a.1

differ_next : (xs ys : List ℕ) (s : ℕ) → AreDifferent (xs ++ s ∷ ys) → AllByRecursion (λ t. t ≢ s) xs
differ_next [] ys s d = tt
differ_next (x ∷ xs) ys s d = ((λ e. all_at (λ m. m ≢ x) xs ys s d.0 (sym e)), differ_next xs ys s d.1)

-- what is read behind some servers
record Servers (servers : ℕ) (taken : List ℕ) (ws : List (List ℕ)) (group : List ℕ) : Type 0 where
  more : List ℕ
  all : group ≡ taken ++ more
  spelled : ws ≡ map decimal more

new_at : (servers n s : ℕ) (taken : List ℕ) (t : Bool) → list_any (λ x. x == n) taken ≡ t → (if t then None else Some n) ≡ Some s
    → (n ≡ s) × (list_any (λ x. x == s) taken ≡ false)
new_at servers n s taken true e f = absurd (grind (arith, f))
new_at servers n s taken false e f =
    let g : n ≡ s = grind (arith, f) in
    (g, ap (λ y. list_any (λ x. x == y) taken) (sym g) ∙ e)

new_read : (servers s : ℕ) (taken w : List ℕ) → new_server servers taken w ≡ Some s → (w ≡ decimal s) × Known servers s × AllByRecursion (λ t. t ≢ s) taken
new_read servers s taken w e = at_number (number_in 1 servers w) refl e
  where
    at_number : (o : Option ℕ) → number_in 1 servers w ≡ o → if_new taken o ≡ Some s → (w ≡ decimal s) × Known servers s × AllByRecursion (λ t. t ≢ s) taken
    at_number None f g = absurd (grind (arith, g))
    at_number (Some n) f g =
        let a = new_at servers n s taken (list_any (λ x. x == n) taken) refl g in
        let b = number_read 1 servers n w f in
        (b.0.1 ∙ ap decimal a.0, (rw a.0 at b.0.0, rw a.0 at b.1, rw a.0 at b.2), taken_not s taken a.1)

new_given : (servers s : ℕ) (taken : List ℕ) → Known servers s → AllByRecursion (λ t. t ≢ s) taken → new_server servers taken (decimal s) ≡ Some s
new_given servers s taken k a =
    let n : number_in 1 servers (decimal s) ≡ Some s = number_spelled 1 servers s (decimal s) ((k.0, refl), k.1, k.2) in
    ap (if_new taken) n ∙ ap (λ b. if b then None else Some s) (not_taken s taken a)

pub record Taken (servers : ℕ) (taken : List ℕ) : Type 0 where
  known : AllByRecursion (Known servers) taken
  differ : AreDifferent taken

from_read : (servers : ℕ) (taken : List ℕ) (ws : List (List ℕ)) (group : List ℕ) → Taken servers taken → servers_from servers taken ws ≡ Some group
    → Servers servers taken ws group × Taken servers group
from_read servers taken [] group t e =
    let f : taken ≡ group = grind (arith, e) in
    (record { more = []; all = sym f ∙ sym (append-nil taken); spelled = refl }, subst (λ g. Taken servers g) f t)
from_read servers taken (w ∷ ws) group t e = at_server (λ s u g. from_read servers (taken ++ s ∷ []) ws group u g) (new_server servers taken w) refl e
  where
    at_server : ((s : ℕ) → Taken servers (taken ++ s ∷ []) → servers_from servers (taken ++ s ∷ []) ws ≡ Some group
        → Servers servers (taken ++ s ∷ []) ws group × Taken servers group) → (o : Option ℕ) → new_server servers taken w ≡ o
        → (elim o [ None ↦ None | Some s ↦ servers_from servers (taken ++ s ∷ []) ws ]) ≡ Some group
        → Servers servers taken (w ∷ ws) group × Taken servers group
    at_server i None f g = absurd (grind (arith, g))
    at_server i (Some s) f g =
        let n = new_read servers s taken w f in
        let u : Taken servers (taken ++ s ∷ []) = record { known = all_more (Known servers) taken s t.known n.1; differ = differ_more taken s t.differ n.2 } in
        let r = i s u g in (
          record {
            more = s ∷ r.0.more;
            all = r.0.all ∙ append_assoc taken (s ∷ []) r.0.more;
            spelled = ap (λ x. x ∷ ws) n.0 ∙ ap (λ x. decimal s ∷ x) r.0.spelled;
          },
          r.1,
        )

from_given : (servers : ℕ) (taken more : List ℕ) → AllByRecursion (Known servers) (taken ++ more) → AreDifferent (taken ++ more)
    → servers_from servers taken (map decimal more) ≡ Some (taken ++ more)
from_given servers taken [] k d = ap Some (sym (append-nil taken))
from_given servers taken (s ∷ more) k d =
    let e : taken ++ s ∷ more ≡ (taken ++ s ∷ []) ++ more = sym (append_assoc taken (s ∷ []) more) in
    let n = new_given servers s taken (all_at (Known servers) taken more s k) (differ_next taken more s d) in
    let r = from_given servers (taken ++ s ∷ []) more (subst (λ x. AllByRecursion (Known servers) x) e k) (subst AreDifferent e d) in
    ap (λ (o : Option ℕ). elim o [ None ↦ None | Some x ↦ servers_from servers (taken ++ x ∷ []) (map decimal more) ]) n ∙ r ∙ ap Some (sym e)

enough_read : (parity : ℕ) (o : Option (List ℕ)) (g : GroupSetup) → enough_for parity o ≡ Some g
    → (o ≡ Some g.servers) × (g.parity ≡ parity) × (parity + 2 ≤ length g.servers) × (length g.servers ≤ 8)
enough_read parity None g e = absurd (grind (arith, e))
enough_read parity (Some group) g e = at_tests (nat_le (parity + 2) (length group)) (nat_le (length group) 8) refl refl e
  where
    at_tests : (t u : Bool) → nat_le (parity + 2) (length group) ≡ t → nat_le (length group) 8 ≡ u
        → (if t && u then Some (record { servers = group; parity = parity }) else None) ≡ Some g
        → (Some group ≡ Some g.servers) × (g.parity ≡ parity) × (parity + 2 ≤ length g.servers) × (length g.servers ≤ 8)
    at_tests true true a b h =
        let made : GroupSetup = record { servers = group; parity = parity } in
        let q : made ≡ g = some_same made g h in
        let P : GroupSetup → Type 0 = λ x. (Some group ≡ Some x.servers) × (x.parity ≡ parity) × (parity + 2 ≤ length x.servers) × (length x.servers ≤ 8) in
        subst P q (refl, refl, leb-true _ _ a, leb-true _ _ b)
      where
        some_same : (x y : GroupSetup) → Some x ≡ Some y → x ≡ y
        some_same x y e = cc
    at_tests true false a b h = absurd (grind (arith, h))
    at_tests false u a b h = absurd (grind (arith, h))

-- a group behind its name
named_read : (servers parity : ℕ) (name : List ℕ) (ws : List (List ℕ)) (g : GroupSetup) → bytes_eq (first ws) name ≡ true → 0 < length name
    → enough_for parity (servers_from servers [] (behind ws)) ≡ Some g
    → (ws ≡ name ∷ map decimal g.servers) × (g.parity ≡ parity) × IsGroup servers g.parity g.servers
named_read servers parity name ws g e l h =
    let a = enough_read parity (servers_from servers [] (behind ws)) g h in
    let none : Taken servers [] = record { known = tt; differ = tt } in
    let r = from_read servers [] (behind ws) g.servers none a.0 in
    let all : g.servers ≡ r.0.more = r.0.all in
    let n = (bytes_eq-Decides (first ws) name).0 e in (
      some_first ws name n l ∙ ap (λ x. name ∷ x) (r.0.spelled ∙ ap (λ x. map decimal x) (sym all)),
      a.1,
      record {
        enough = rw a.1 a.2;
        few = a.3;
        known = r.1.known;
        differ = r.1.differ;
      },
    )
  where
    some_first : (ws : List (List ℕ)) (name : List ℕ) → first ws ≡ name → 0 < length name → ws ≡ name ∷ behind ws
    some_first [] name e l = absurd (omega (arith, ap length e, l))
    some_first (w ∷ ws) name e l = ap (λ x. x ∷ ws) e

group_read : (servers : ℕ) (ws : List (List ℕ)) (g : GroupSetup) → group_of servers ws ≡ Some g → NamesGroup servers ws g
group_read servers ws g e = at_tests (bytes_eq (first ws) (codes "group")) (bytes_eq (first ws) (codes "group2")) refl refl e
  where
    at_tests : (t u : Bool) → bytes_eq (first ws) (codes "group") ≡ t → bytes_eq (first ws) (codes "group2") ≡ u
        → (if t then enough_for 1 (servers_from servers [] (behind ws)) else if u then enough_for 2 (servers_from servers [] (behind ws)) else None) ≡ Some g
        → NamesGroup servers ws g
    at_tests true u a b h = let r = named_read servers 1 (codes "group") ws g a (omega arith) h in (r.2, inl (r.1, r.0))
    at_tests false true a b h = let r = named_read servers 2 (codes "group2") ws g b (omega arith) h in (r.2, inr (r.1, r.0))
    at_tests false false a b h = absurd (grind (arith, h))

enough_given : (parity : ℕ) (g : GroupSetup) → g.parity ≡ parity → parity + 2 ≤ length g.servers → length g.servers ≤ 8
    → enough_for parity (Some g.servers) ≡ Some g
enough_given parity g e l u =
    let t : nat_le (parity + 2) (length g.servers) ≡ true = le-leb _ _ l in
    let s : nat_le (length g.servers) 8 ≡ true = le-leb _ _ u in
    rw (t, s) (ap (λ p. Some (record { servers = g.servers; parity = p })) (sym e))

servers_given : (servers parity : ℕ) (g : GroupSetup) → g.parity ≡ parity → IsGroup servers g.parity g.servers
    → enough_for parity (servers_from servers [] (map decimal g.servers)) ≡ Some g
servers_given servers parity g e i =
    ap (λ o. enough_for parity o) (from_given servers [] g.servers i.known i.differ)
    ∙ enough_given parity g e (rw e at i.enough) i.few

group_given : (servers : ℕ) (ws : List (List ℕ)) (g : GroupSetup) → NamesGroup servers ws g → group_of servers ws ≡ Some g
group_given servers ws g (i, inl (p, e)) = rw e (servers_given servers 1 g p i)
group_given servers ws g (i, inr (p, e)) = rw e (servers_given servers 2 g p i)

-- what is said of something that is there
saying_some : {X : Type 0} (f : X → Said) (o : Option X) (s : Said) → said_as f o ≡ Some s → (x : X) × (o ≡ Some x) × (s ≡ f x)
saying_some f None s e = absurd (grind (arith, e))
saying_some f (Some x) s e = (x, refl, same (f x) s e)
  where
    same : (a b : Said) → Some a ≡ Some b → b ≡ a
    same a b e = cc

group_said_read : (p : Place) (ws : List (List ℕ)) (s : Said) → group_said p.setup ws ≡ Some s → AddsGroup p ws (behind_said p s)
group_said_read p ws s e = at_test (nat_lt (length p.setup.groups) 8) refl e
  where
    at_test : (t : Bool) → nat_lt (length p.setup.groups) 8 ≡ t → (if t then said_as said.Group (group_of p.setup.servers ws) else None) ≡ Some s
        → AddsGroup p ws (behind_said p s)
    at_test true f g =
        let a = saying_some said.Group (group_of p.setup.servers ws) s g in
        (a.0, group_read p.setup.servers ws a.0 a.1, ltb-true _ _ f, ap (behind_said p) a.2)
    at_test false f g = absurd (grind (arith, g))

group_said_given : (p q : Place) (ws : List (List ℕ)) → AddsGroup p ws q → (s : Said) × (group_said p.setup ws ≡ Some s) × (q ≡ behind_said p s)
group_said_given p q ws (g, n, few, e) =
    let t : nat_lt (length p.setup.groups) 8 ≡ true = lt-ltb _ _ few in
    (said.Group g, rw t (ap (λ o. said_as said.Group o) (group_given p.setup.servers ws g n)), e)

one_word : (ws : List (List ℕ)) (w : List ℕ) → first ws ≡ w → 0 < length w → is_end (behind ws) ≡ true → ws ≡ w ∷ []
one_word [] w e l f = absurd (omega (arith, ap length e, l))
one_word (v ∷ []) w e l f = ap (λ x. x ∷ []) e
one_word (v ∷ u ∷ ws) w e l f = absurd (grind (arith, f))

acts_said_read : (p : Place) (ws : List (List ℕ)) (s : Said) → acts_said ws ≡ Some s → AddsActs p ws (behind_said p s)
acts_said_read p ws s e = at_tests (bytes_eq (first ws) (codes "acts")) (is_end (behind ws)) refl refl e
  where
    same : (a b : Said) → Some a ≡ Some b → b ≡ a
    same a b e = cc

    at_tests : (t u : Bool) → bytes_eq (first ws) (codes "acts") ≡ t → is_end (behind ws) ≡ u → (if t && u then Some said.Acts else None) ≡ Some s
        → AddsActs p ws (behind_said p s)
    at_tests true true f g h =
        (one_word ws (codes "acts") ((bytes_eq-Decides (first ws) (codes "acts")).0 f) (omega arith) g, ap (behind_said p) (same said.Acts s h))
    at_tests true false f g h = absurd (grind (arith, h))
    at_tests false u f g h = absurd (grind (arith, h))

acts_said_given : (p q : Place) (ws : List (List ℕ)) → AddsActs p ws q → (s : Said) × (acts_said ws ≡ Some s) × (q ≡ behind_said p s)
acts_said_given p q ws (e, f) = (said.Acts, rw e refl, f)

number_said_read : (name : List ℕ) (a b : ℕ) (f : ℕ → Said) (ws : List (List ℕ)) (s : Said) → said_as f (number_for name a b ws) ≡ Some s
    → (n : ℕ) × SaysNumber name a b ws n × (s ≡ f n)
number_said_read name a b f ws s e =
    let r = saying_some f (number_for name a b ws) s e in
    (r.0, for_read name a b r.0 ws r.1, r.2)

number_said_given : (name : List ℕ) (a b n : ℕ) (f : ℕ → Said) (ws : List (List ℕ)) → b < 2 ^ 32 → SaysNumber name a b ws n
    → said_as f (number_for name a b ws) ≡ Some (f n)
number_said_given name a b n f ws l g = ap (λ o. said_as f o) (for_given name a b n ws l g)

or_some : (a b : Option Said) (s : Said) → or_else a b ≡ Some s → (a ≡ Some s) ⊎ ((a ≡ None) × (b ≡ Some s))
or_some None b s e = inr (refl, e)
or_some (Some x) b s e = inl e

-- a line of the setup that is read is one that may stand here
pub said_read : (st : Stage) (p : Place) (ws : List (List ℕ)) (s : Said) → said_at st p.setup ws ≡ Some s → AddsSetup st p ws (behind_said p s)
said_read stage.Version p ws s e =
    let r = number_said_read (codes "xfs") 1 1 (λ n. said.Version) ws s e in (r.0, r.1, ap (behind_said p) r.2)
said_read stage.Clients p ws s e =
    let r = number_said_read (codes "clients") 1 8 said.Clients ws s e in (r.0, r.1, ap (behind_said p) r.2)
said_read stage.Managers p ws s e =
    let r = number_said_read (codes "managers") 1 4 said.Managers ws s e in (r.0, r.1, ap (behind_said p) r.2)
said_read stage.Servers p ws s e =
    let r = number_said_read (codes "servers") 3 12 said.Servers ws s e in (r.0, r.1, ap (behind_said p) r.2)
said_read stage.FirstGroup p ws s e = group_said_read p ws s e
said_read stage.Groups p ws s e =
    at_group (or_some (group_said p.setup ws) (or_else (said_as said.Cache (number_for (codes "cache") 1 1024 ws)) (acts_said ws)) s e)
  where
    at_cache : (said_as said.Cache (number_for (codes "cache") 1 1024 ws) ≡ Some s)
        ⊎ ((said_as said.Cache (number_for (codes "cache") 1 1024 ws) ≡ None) × (acts_said ws ≡ Some s)) → AddsSetup stage.Groups p ws (behind_said p s)
    at_cache (inl x) = let r = number_said_read (codes "cache") 1 1024 said.Cache ws s x in inr (inl (r.0, r.1, ap (behind_said p) r.2))
    at_cache (inr x) = inr (inr (acts_said_read p ws s x.1))

    at_group : (group_said p.setup ws ≡ Some s)
        ⊎ ((group_said p.setup ws ≡ None) × (or_else (said_as said.Cache (number_for (codes "cache") 1 1024 ws)) (acts_said ws) ≡ Some s))
        → AddsSetup stage.Groups p ws (behind_said p s)
    at_group (inl x) = inl (group_said_read p ws s x)
    at_group (inr x) = at_cache (or_some (said_as said.Cache (number_for (codes "cache") 1 1024 ws)) (acts_said ws) s x.1)
said_read stage.Cached p ws s e = acts_said_read p ws s e
said_read stage.Items p ws s e = absurd (grind (arith, e))

-- a group is none of the lines that begin with another word
group_word : (servers : ℕ) (ws : List (List ℕ)) (v : List ℕ) → first ws ≡ v → bytes_eq v (codes "group") ≡ false → bytes_eq v (codes "group2") ≡ false
    → group_of servers ws ≡ None
group_word servers ws v e f g =
    let a : bytes_eq (first ws) (codes "group") ≡ false = ap (λ x. bytes_eq x (codes "group")) e ∙ f in
    let b : bytes_eq (first ws) (codes "group2") ≡ false = ap (λ x. bytes_eq x (codes "group2")) e ∙ g in
    rw (a, b) refl

no_group_said : (p : Place) (ws : List (List ℕ)) (v : List ℕ) → first ws ≡ v → bytes_eq v (codes "group") ≡ false → bytes_eq v (codes "group2") ≡ false
    → group_said p.setup ws ≡ None
no_group_said p ws v e f g = at_test (nat_lt (length p.setup.groups) 8)
  where
    at_test : (t : Bool) → (if t then said_as said.Group (group_of p.setup.servers ws) else None) ≡ None
    at_test true = ap (λ o. said_as said.Group o) (group_word p.setup.servers ws v e f g)
    at_test false = refl

not_cache : (ws : List (List ℕ)) (v : List ℕ) → first ws ≡ v → bytes_eq v (codes "cache") ≡ false → number_for (codes "cache") 1 1024 ws ≡ None
not_cache ws v e f =
    let a : bytes_eq (first ws) (codes "cache") ≡ false = ap (λ x. bytes_eq x (codes "cache")) e ∙ f in
    rw a refl

-- a line that may stand here is read
pub said_given : (st : Stage) (p q : Place) (ws : List (List ℕ)) → AddsSetup st p ws q → (s : Said) × (said_at st p.setup ws ≡ Some s) × (q ≡ behind_said p s)
said_given stage.Version p q ws (n, g, e) = (said.Version, number_said_given (codes "xfs") 1 1 n (λ m. said.Version) ws (omega arith) g, e)
said_given stage.Clients p q ws (n, g, e) = (said.Clients n, number_said_given (codes "clients") 1 8 n said.Clients ws (omega arith) g, e)
said_given stage.Managers p q ws (n, g, e) = (said.Managers n, number_said_given (codes "managers") 1 4 n said.Managers ws (omega arith) g, e)
said_given stage.Servers p q ws (n, g, e) = (said.Servers n, number_said_given (codes "servers") 3 12 n said.Servers ws (omega arith) g, e)
said_given stage.FirstGroup p q ws a = group_said_given p q ws a
said_given stage.Groups p q ws (inl a) =
    let r = group_said_given p q ws a in
    (r.0, ap (λ o. or_else o (or_else (said_as said.Cache (number_for (codes "cache") 1 1024 ws)) (acts_said ws))) r.1, r.2)
said_given stage.Groups p q ws (inr (inl (n, g, e))) =
    let a = number_said_given (codes "cache") 1 1024 n said.Cache ws (omega arith) g in
    let b = no_group_said p ws (codes "cache") (ap first g.0) refl refl in (
      said.Cache n,
      ap (λ o. or_else o (or_else (said_as said.Cache (number_for (codes "cache") 1 1024 ws)) (acts_said ws))) b
          ∙ ap (λ o. or_else o (acts_said ws)) a,
      e,
    )
said_given stage.Groups p q ws (inr (inr a)) =
    let r = acts_said_given p q ws a in
    let b = no_group_said p ws (codes "acts") (ap first a.0) refl refl in
    let d = not_cache ws (codes "acts") (ap first a.0) refl in (
      r.0,
      ap (λ o. or_else o (or_else (said_as said.Cache (number_for (codes "cache") 1 1024 ws)) (acts_said ws))) b
          ∙ ap (λ o. or_else (said_as said.Cache o) (acts_said ws)) d ∙ r.1,
      r.2,
    )
said_given stage.Cached p q ws a = acts_said_given p q ws a
said_given stage.Items p q ws a = absurd a

-- a line of the setup begins with a setup word
word_at : (ws : List (List ℕ)) (v : List ℕ) → first ws ≡ v → is_setup_word v ≡ true → is_setup_word (first ws) ≡ true
word_at ws v e f = ap is_setup_word e ∙ f

group_begins : (p q : Place) (ws : List (List ℕ)) → AddsGroup p ws q → is_setup_word (first ws) ≡ true
group_begins p q ws (g, (i, inl (x, e)), few, f) = word_at ws (codes "group") (ap first e) refl
group_begins p q ws (g, (i, inr (x, e)), few, f) = word_at ws (codes "group2") (ap first e) refl

pub setup_begins : (st : Stage) (p q : Place) (ws : List (List ℕ)) → AddsSetup st p ws q → is_setup_word (first ws) ≡ true
setup_begins stage.Version p q ws (n, g, e) = word_at ws (codes "xfs") (ap first g.0) refl
setup_begins stage.Clients p q ws (n, g, e) = word_at ws (codes "clients") (ap first g.0) refl
setup_begins stage.Managers p q ws (n, g, e) = word_at ws (codes "managers") (ap first g.0) refl
setup_begins stage.Servers p q ws (n, g, e) = word_at ws (codes "servers") (ap first g.0) refl
setup_begins stage.FirstGroup p q ws a = group_begins p q ws a
setup_begins stage.Groups p q ws (inl a) = group_begins p q ws a
setup_begins stage.Groups p q ws (inr (inl (n, g, e))) = word_at ws (codes "cache") (ap first g.0) refl
setup_begins stage.Groups p q ws (inr (inr (e, f))) = word_at ws (codes "acts") (ap first e) refl
setup_begins stage.Cached p q ws (e, f) = word_at ws (codes "acts") (ap first e) refl
setup_begins stage.Items p q ws a = absurd a
