-- What is known of a script that is read: its setup is within its limits, and its items rise and are asked for.
use Rattle.std.proofs.Common.{◌≡◌, ℕ, ◌+◌, ◌-◌, ◌≤◌, ◌<◌, ◌==◌, Bool, true, false, List, [], ◌∷◌, ◌++◌, length, map, codes, refl, sym, ◌∙◌, ap, subst, arith, inl, inr, ◌⊎◌, if◌then◌else◌, append_assoc, append-nil, length-append}
use Rattle.std.proofs.lemmas.List.{length-map}
use Rattle.std.specs.List.{AllByRecursion}
use Rattle.xfs_base.specs.declared.setup.Setup.{Setup}
use Rattle.xfs_base.specs.declared.setup.GroupSetup.{GroupSetup}
use Rattle.xfs_base.specs.Limits.{max_lines}
use Rattle.script_text.specs.declared.script.Line.{Line}
use Rattle.script_text.specs.declared.script.Script.{Script}
use Rattle.script_text.specs.declared.stage.Stage.{Stage}
use Rattle.script_text.specs.declared.stage.Stage.TheVariants as stage
use Rattle.script_text.specs.declared.stage.Place.{Place}
use Rattle.script_text.specs.Words.{Lacks, words}
use Rattle.script_text.specs.Script.{IsGroup, NamesGroup, AddsGroup, AddsSetup, AddsItem, Leads, IsPast, Accepts, line_at, is_whole, start, text_size, item_at}
use Rattle.script_print.specs.Printing.{gives, group_line, cache_lines, acts_lines, setup_lines}
use Rattle.script_print.proofs.ItemLines.{IsAsked}
use Rattle.script_print.proofs.Asks.{item_asked}

abbrev pub IsBetween : ℕ → ℕ → ℕ → Type 0
IsBetween a b n = (a ≤ n) × (n ≤ b)

-- a group of so many servers that a line can name
abbrev pub IsNamed : ℕ → GroupSetup → Type 0
IsNamed servers g = IsGroup servers g.parity g.servers × ((g.parity ≡ 1) ⊎ (g.parity ≡ 2))

abbrev pub AreNamed : ℕ → List GroupSetup → Type 0
AreNamed servers gs = AllByRecursion (λ g. IsNamed servers g) gs

-- the setup is within its limits
pub record IsSetup (s : Setup) : Type 0 where
  pub clients : IsBetween 1 8 s.clients
  pub managers : IsBetween 1 4 s.managers
  pub servers : IsBetween 3 12 s.servers
  pub groups : AreNamed s.servers s.groups
  pub some : 0 < length s.groups
  pub few : length s.groups ≤ 8
  pub cache : IsBetween 1 1024 s.cache

-- the items rise from the line of this number on, and some line asks for each within this room
abbrev pub AreAsked : Setup → ℕ → ℕ → List Line → Type 0
AreAsked s before room [] = Unit {0}
AreAsked s before room (l ∷ ls) =
    (before < l.number) × (l.number ≤ max_lines) × IsAsked (record { setup = s; room = room }) l.after l.work
    × AreAsked s l.number (room - text_size l.work) ls

-- what the lines from a place on say, where the line before them has this number
record Rest (s : Script) (p : Place) (before : ℕ) : Type 0 where
  items : List Line
  lines : s.lines ≡ p.items ++ items
  setup : s.setup ≡ p.setup
  asked : AreAsked p.setup before p.room items

within : (total n end : ℕ) → (IsPast (record { total = total; number = n; end = end }) → ⊥) → n ≤ max_lines
within total n end h = not_above n (λ l. h (inl l))
  where
    not_above : (m : ℕ) → (max_lines < m → ⊥) → m ≤ max_lines
    not_above m k = omega (arith, k)

-- an item, and the lines behind it
item_rest : (n before : ℕ) (l : List ℕ) (p q : Place) (s : Script) → before < n → n ≤ max_lines → Lacks 10 l → AddsItem n p (words l) q → Rest s q n
    → Rest s p before
item_rest n before l p q s b m k (whole, other, after, work, i, e) r =
    let made : Place = record p { stage = stage.Items; room = p.room - text_size work; items = p.items ++ item_at n after work ∷ [] } in
    let P : Place → Type 0 = λ x. Rest s x n in
    let t : Rest s made n = subst P e r in
    record {
      items = item_at n after work ∷ t.items;
      lines = t.lines ∙ append_assoc p.items (item_at n after work ∷ []) t.items;
      setup = t.setup;
      asked = (b, m, item_asked (record { setup = p.setup; room = p.room }) l after work k i, t.asked);
    }

items_stage : (n : ℕ) (l : List ℕ) (p q : Place) → AddsItem n p (words l) q → q.stage ≡ stage.Items
items_stage n l p q (whole, other, after, work, i, e) = ap (λ (x : Place). x.stage) e

rest_of : (live : Bool) (total n at : ℕ) (ls : List (List ℕ)) (p : Place) (s : Script) (before : ℕ) → p.stage ≡ stage.Items → before < n
    → AllByRecursion (λ l. Lacks 10 l) ls → Accepts live (line_at total n at) ls p s → Rest s p before
rest_of live total n at [] p s before st b k a = record {
  items = [];
  lines = ap (λ (x : Script). x.lines) a.2 ∙ sym (append-nil p.items);
  setup = ap (λ (x : Script). x.setup) a.2;
  asked = tt;
}
rest_of live total n at (l ∷ ls) p s before st b k a =
    at_line (λ c. rest_of live total (n + 1) (at + (length l + 1)) ls a.1 s before c (omega (arith, b)) k.1 a.3)
    (λ c. rest_of live total (n + 1) (at + (length l + 1)) ls a.1 s n c (omega arith) k.1 a.3) a.2
  where
    at_line : (a.1.stage ≡ stage.Items → Rest s a.1 before) → (a.1.stage ≡ stage.Items → Rest s a.1 n) → Leads n l p a.1 → Rest s p before
    at_line h g (inl (silent, e)) =
        let P : Place → Type 0 = λ x. Rest s x before in
        subst P e (h (ap (λ (x : Place). x.stage) e ∙ st))
    at_line h g (inr (loud, inl d)) =
        let P : Stage → Type 0 = λ x. AddsSetup x p (words l) a.1 in
        absurd (subst P st d)
    at_line h g (inr (loud, inr i)) = item_rest n before l p a.1 s b (within total n (at + (length l + 1)) a.0) k.0 i (g (items_stage n l p a.1 i))

-- how many lines a setup is printed in
pub lines_count : (s : Setup) → length (setup_lines s) ≡ 4 + (length s.groups + (length (cache_lines s.cache) + length (acts_lines s.acts)))
lines_count s =
    let a : length (map group_line s.groups ++ (cache_lines s.cache ++ acts_lines s.acts)) ≡ length (map group_line s.groups) + length
    (cache_lines s.cache ++ acts_lines s.acts) = length-append (map group_line s.groups) (cache_lines s.cache ++ acts_lines s.acts) in
    let b : length (cache_lines s.cache ++ acts_lines s.acts) ≡ length (cache_lines s.cache) + length (acts_lines s.acts) =
    length-append (cache_lines s.cache) (acts_lines s.acts) in
    let d : length (map group_line s.groups) ≡ length s.groups = length-map s.groups group_line in
    omega (arith, a, b, d)

pub cache_few : (n : ℕ) → length (cache_lines n) ≤ 1
cache_few n = at_test (n == 64)
  where
    at_test : (t : Bool) → length (if t then [] else (gives (codes "cache") n ∷ [])) ≤ 1
    at_test true = omega arith
    at_test false = omega arith

-- nothing is said yet of groups, cache and acts
abbrev IsBare : Setup → Type 0
IsBare s = (s.groups ≡ []) × (s.cache ≡ 64) × (s.acts ≡ false)

-- what is known before the line of this number
abbrev Sound : Stage → ℕ → Setup → Type 0
Sound stage.Version n s = (0 < n) × IsBare s
Sound stage.Clients n s = (1 < n) × IsBare s
Sound stage.Managers n s = (2 < n) × IsBare s × IsBetween 1 8 s.clients
Sound stage.Servers n s = (3 < n) × IsBare s × IsBetween 1 8 s.clients × IsBetween 1 4 s.managers
Sound stage.FirstGroup n s = (4 < n) × IsBare s × IsBetween 1 8 s.clients × IsBetween 1 4 s.managers × IsBetween 3 12 s.servers
Sound stage.Groups n s = (length (setup_lines s) < n) × IsSetup s
Sound stage.Cached n s = (length (setup_lines s) < n) × IsSetup s
Sound stage.Items n s = (length (setup_lines s) < n) × IsSetup s

sound_more : (st : Stage) (n : ℕ) (s : Setup) → Sound st n s → Sound st (n + 1) s
sound_more stage.Version n s h = (omega (arith, h.0), h.1)
sound_more stage.Clients n s h = (omega (arith, h.0), h.1)
sound_more stage.Managers n s h = (omega (arith, h.0), h.1, h.2)
sound_more stage.Servers n s h = (omega (arith, h.0), h.1, h.2, h.3)
sound_more stage.FirstGroup n s h = (omega (arith, h.0), h.1, h.2, h.3, h.4)
sound_more stage.Groups n s h = (omega (arith, h.0), h.1)
sound_more stage.Cached n s h = (omega (arith, h.0), h.1)
sound_more stage.Items n s h = (omega (arith, h.0), h.1)

whole_sound : (st : Stage) (n : ℕ) (s : Setup) → is_whole st ≡ true → Sound st n s → (length (setup_lines s) < n) × IsSetup s
whole_sound stage.Groups n s w h = h
whole_sound stage.Cached n s w h = h
whole_sound stage.Items n s w h = h
whole_sound st n s w h = absurd (grind (arith, w))

-- one more group, a cache, and acts
named_more : (servers : ℕ) (gs : List GroupSetup) (g : GroupSetup) → AreNamed servers gs → IsNamed servers g → AreNamed servers (gs ++ g ∷ [])
named_more servers [] g a h = (h, tt)
named_more servers (x ∷ gs) g a h = (a.0, named_more servers gs g a.1 h)

group_named : (servers : ℕ) (ws : List (List ℕ)) (g : GroupSetup) → NamesGroup servers ws g → IsNamed servers g
group_named servers ws g (i, inl h) = (i, inl h.0)
group_named servers ws g (i, inr h) = (i, inr h.0)

with_group : (n : ℕ) (s : Setup) (g : GroupSetup) → IsBetween 1 8 s.clients → IsBetween 1 4 s.managers → IsBetween 3 12 s.servers → IsBetween 1 1024 s.cache
    → AreNamed s.servers s.groups → length s.groups < 8 → IsNamed s.servers g
    → 4 + (length s.groups + (length (cache_lines s.cache) + length (acts_lines s.acts))) < n
    → Sound stage.Groups (n + 1) (record s { groups = s.groups ++ g ∷ [] })
with_group n s g c m v k a few h b =
    let t : Setup = record s { groups = s.groups ++ g ∷ [] } in
    let e : length (s.groups ++ g ∷ []) ≡ length s.groups + 1 = length-append s.groups (g ∷ []) in
    let d : length (setup_lines t) ≡ 4 + (length t.groups + (length (cache_lines s.cache) + length (acts_lines s.acts))) = lines_count t in (
      omega (arith, e, d, b),
      record {
        clients = c;
        managers = m;
        servers = v;
        groups = named_more s.servers s.groups g a h;
        some = omega (arith, e);
        few = omega (arith, e, few);
        cache = k;
      },
    )

with_cache : (n k : ℕ) (s : Setup) → (length (setup_lines s) < n) × IsSetup s → IsBetween 1 1024 k → Sound stage.Cached (n + 1) (record s { cache = k })
with_cache n k s (b, i) h =
    let t : Setup = record s { cache = k } in
    let d : length (setup_lines s) ≡ 4 + (length s.groups + (length (cache_lines s.cache) + length (acts_lines s.acts))) = lines_count s in
    let e : length (setup_lines t) ≡ 4 + (length s.groups + (length (cache_lines k) + length (acts_lines s.acts))) = lines_count t in
    let f : length (cache_lines k) ≤ 1 = cache_few k in (
      omega (arith, b, d, e, f),
      record { clients = i.clients; managers = i.managers; servers = i.servers; groups = i.groups; some = i.some; few = i.few; cache = h },
    )

with_acts : (n : ℕ) (s : Setup) → (length (setup_lines s) < n) × IsSetup s → Sound stage.Items (n + 1) (record s { acts = true })
with_acts n s (b, i) =
    let t : Setup = record s { acts = true } in
    let d : length (setup_lines s) ≡ 4 + (length s.groups + (length (cache_lines s.cache) + length (acts_lines s.acts))) = lines_count s in
    let e : length (setup_lines t) ≡ 4 + (length s.groups + (length (cache_lines s.cache) + 1)) = lines_count t in (
      omega (arith, b, d, e),
      record { clients = i.clients; managers = i.managers; servers = i.servers; groups = i.groups; some = i.some; few = i.few; cache = i.cache },
    )

-- what is known behind a line of the setup
record Kept (n : ℕ) (p q : Place) : Type 0 where
  sound : Sound q.stage n q.setup
  items : q.items ≡ p.items
  room : q.room ≡ p.room

kept : (n : ℕ) (p q : Place) (st : Stage) (s : Setup) → q ≡ record p { stage = st; setup = s } → Sound st n s → Kept n p q
kept n p q st s e h =
    let P : Place → Type 0 = λ x. Kept n p x in
    subst P (sym e) (record { sound = h; items = refl; room = refl })

group_kept : (n : ℕ) (p q : Place) (ws : List (List ℕ)) → IsBetween 1 8 p.setup.clients → IsBetween 1 4 p.setup.managers → IsBetween 3 12 p.setup.servers
    → IsBetween 1 1024 p.setup.cache → AreNamed p.setup.servers p.setup.groups
    → 4 + (length p.setup.groups + (length (cache_lines p.setup.cache) + length (acts_lines p.setup.acts))) < n → AddsGroup p ws q → Kept (n + 1) p q
group_kept n p q ws c m v k a b (g, names, few, e) =
    kept (n + 1) p q stage.Groups _ e (with_group n p.setup g c m v k a few (group_named p.setup.servers ws g names) b)

bare_count : (s : Setup) → IsBare s
    → (IsBetween 1 1024 s.cache) × AreNamed s.servers s.groups × (length s.groups + (length (cache_lines s.cache) + length (acts_lines s.acts)) ≡ 0)
bare_count s (g, c, a) =
    let P : List GroupSetup → Type 0 = λ x. AreNamed s.servers x in
    let Q : ℕ → Type 0 = λ x. length (cache_lines x) ≡ 0 in
    let R : Bool → Type 0 = λ x. length (acts_lines x) ≡ 0 in
    let d : length s.groups ≡ 0 = ap (λ xs. length xs) g in
    let e : length (cache_lines s.cache) ≡ 0 = subst Q (sym c) refl in
    let f : length (acts_lines s.acts) ≡ 0 = subst R (sym a) refl in
    ((omega (arith, c), omega (arith, c)), subst P (sym g) tt, omega (arith, d, e, f))

setup_step : (st : Stage) (n : ℕ) (p q : Place) (ws : List (List ℕ)) → Sound st n p.setup → AddsSetup st p ws q → Kept (n + 1) p q
setup_step stage.Version n p q ws h (m, g, e) = kept (n + 1) p q stage.Clients p.setup e (omega (arith, h.0), h.1)
setup_step stage.Clients n p q ws h (m, g, e) = kept (n + 1) p q stage.Managers _ e (omega (arith, h.0), h.1, (g.1, g.2))
setup_step stage.Managers n p q ws h (m, g, e) = kept (n + 1) p q stage.Servers _ e (omega (arith, h.0), h.1, h.2, (g.1, g.2))
setup_step stage.Servers n p q ws h (m, g, e) = kept (n + 1) p q stage.FirstGroup _ e (omega (arith, h.0), h.1, h.2, h.3, (g.1, g.2))
setup_step stage.FirstGroup n p q ws h a = let b = bare_count p.setup h.1 in group_kept n p q ws h.2 h.3 h.4 b.0 b.1 (omega (arith, h.0, b.2)) a
setup_step stage.Groups n p q ws (b, i) (inl a) = let d =
    lines_count p.setup in group_kept n p q ws i.clients i.managers i.servers i.cache i.groups (omega (arith, b, d)) a
setup_step stage.Groups n p q ws (b, i) (inr (inl (m, g, e))) = kept (n + 1) p q stage.Cached _ e (with_cache n m p.setup (b, i) (g.1, g.2))
setup_step stage.Groups n p q ws (b, i) (inr (inr (w, e))) = kept (n + 1) p q stage.Items _ e (with_acts n p.setup (b, i))
setup_step stage.Cached n p q ws (b, i) (w, e) = kept (n + 1) p q stage.Items _ e (with_acts n p.setup (b, i))
setup_step stage.Items n p q ws h a = absurd a

-- what is known of the whole script
pub record Whole (s : Script) : Type 0 where
  pub setup : IsSetup s.setup
  pub asked : AreAsked s.setup (length (setup_lines s.setup)) 67108864 s.lines

from_rest : (s : Script) (p : Place) → IsSetup p.setup → p.items ≡ [] → p.room ≡ 67108864 → Rest s p (length (setup_lines p.setup)) → Whole s
from_rest s p i e f r =
    let g : s.lines ≡ r.items = r.lines ∙ ap (λ xs. xs ++ r.items) e in
    let P : Setup → Type 0 = λ x. IsSetup x in
    let Q : Setup → Type 0 = λ x. AreAsked x (length (setup_lines x)) 67108864 s.lines in
    let R : ℕ → Type 0 = λ x. AreAsked p.setup (length (setup_lines p.setup)) x r.items in
    let S : List Line → Type 0 = λ x. AreAsked p.setup (length (setup_lines p.setup)) 67108864 x in
    record { setup = subst P (sym r.setup) i; asked = subst Q (sym r.setup) (subst S (sym g) (subst R f r.asked)) }

whole_of : (live : Bool) (total n at : ℕ) (ls : List (List ℕ)) (p : Place) (s : Script) → Sound p.stage n p.setup → p.items ≡ [] → p.room ≡ 67108864
    → AllByRecursion (λ l. Lacks 10 l) ls → Accepts live (line_at total n at) ls p s → Whole s
whole_of live total n at [] p s h e f k a =
    let w = whole_sound p.stage n p.setup a.0 h in
    from_rest s p w.1 e f
    (record { items = []; lines = ap (λ (x : Script). x.lines) a.2 ∙ sym (append-nil p.items); setup = ap (λ (x : Script). x.setup) a.2; asked = tt })
whole_of live total n at (l ∷ ls) p s h e f k a =
    at_line (λ b c d. whole_of live total (n + 1) (at + (length l + 1)) ls a.1 s b c d k.1 a.3) a.2
  where
    at_line : (Sound a.1.stage (n + 1) a.1.setup → a.1.items ≡ [] → a.1.room ≡ 67108864 → Whole s) → Leads n l p a.1 → Whole s
    at_line g (inl (silent, q)) =
        let P : Place → Type 0 = λ x. Sound x.stage (n + 1) x.setup in
        g (subst P (sym q) (sound_more p.stage n p.setup h)) (ap (λ (x : Place). x.items) q ∙ e) (ap (λ (x : Place). x.room) q ∙ f)
    at_line g (inr (loud, inl d)) =
        let t = setup_step p.stage n p a.1 (words l) h d in
        g t.sound (t.items ∙ e) (t.room ∙ f)
    at_line g (inr (loud, inr i)) =
        let w = whole_sound p.stage n p.setup i.0 h in
        let r = rest_of live total (n + 1) (at + (length l + 1)) ls a.1 s n (items_stage n l p a.1 i) (omega arith) k.1 a.3 in
        from_rest s p w.1 e f (item_rest n (length (setup_lines p.setup)) l p a.1 s w.0 (within total n (at + (length l + 1)) a.0) k.0 i r)

-- what is known of a script that some bytes spell
pub script_whole : (live : Bool) (total : ℕ) (ls : List (List ℕ)) (s : Script) → AllByRecursion (λ l. Lacks 10 l) ls
    → Accepts live (line_at total 1 0) ls start s
    → Whole s
script_whole live total ls s k a = whole_of live total 1 0 ls start s (omega arith, (refl, refl, refl)) refl refl k a
