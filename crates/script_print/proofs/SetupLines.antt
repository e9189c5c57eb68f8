-- The lines of a setup within its limits lead to that setup.
use Rattle.std.proofs.Common.{◌≡◌, ℕ, ◌+◌, ◌≤◌, ◌<◌, ◌^◌, ◌==◌, Bool, true, false, List, [], ◌∷◌, ◌++◌, length, map, codes, refl, sym, ◌∙◌, ap, subst, arith, inl, inr, ◌⊎◌, if◌then◌else◌, append_assoc, append-nil, length-append}
use Rattle.std.proofs.lemmas.Bool.{eqb-true}
use Rattle.std.specs.List.{AllByRecursion}
use Rattle.std.specs.Fmt.{decimal}
use Rattle.xfs_base.specs.declared.setup.Setup.{Setup}
use Rattle.xfs_base.specs.declared.setup.GroupSetup.{GroupSetup}
use Rattle.script_text.specs.declared.stage.Stage.{Stage}
use Rattle.script_text.specs.declared.stage.Stage.TheVariants as stage
use Rattle.script_text.specs.declared.stage.Place.{Place}
use Rattle.script_text.specs.Words.{Lacks, words, joined}
use Rattle.script_text.specs.Script.{NamesGroup, AddsSetup, Leads, is_whole, is_silent, start}
use Rattle.script_text.proofs.Parts.{parted_cut, parted_whole}
use Rattle.script_print.specs.Printing.{gives, group_word, group_line, cache_lines, acts_lines, setup_lines}
use Rattle.script_print.proofs.Bytes.{lacks_test, lacks_join, decimal_lacks}
use Rattle.script_print.proofs.Goings.{Goes, goes_on, all_both}
use Rattle.script_print.proofs.Extracts.{IsBetween, IsNamed, AreNamed, IsSetup}

-- joined words are the words of their line
words_joined : (w : List ℕ) (ws : List (List ℕ)) → Lacks 32 w → AllByRecursion (λ v. Lacks 32 v) ws → words (joined 32 (w ∷ ws)) ≡ w ∷ ws
words_joined w [] h a = parted_whole 32 w h
words_joined w (v ∷ ws) h a = parted_cut 32 w (joined 32 (v ∷ ws)) h ∙ ap (λ x. w ∷ x) (words_joined v ws a.0 a.1)

joined_lacks : (w : List ℕ) (ws : List (List ℕ)) → Lacks 10 w → AllByRecursion (λ v. Lacks 10 v) ws → Lacks 10 (joined 32 (w ∷ ws))
joined_lacks w [] h a = h
joined_lacks w (v ∷ ws) h a = lacks_join 10 w (32 ∷ joined 32 (v ∷ ws)) h ((λ e. omega (arith, e)), joined_lacks v ws a.0 a.1)

abbrev AreSmall : List ℕ → Type 0
AreSmall ns = AllByRecursion (λ n. n < 2 ^ 32) ns

numbers_lack : (m : ℕ) (ns : List ℕ) → m < 48 → AreSmall ns → AllByRecursion (λ v. Lacks m v) (map decimal ns)
numbers_lack m [] l a = tt
numbers_lack m (n ∷ ns) l a = (decimal_lacks m n l a.0, numbers_lack m ns l a.1)

-- a number for a name
given_words : (name : List ℕ) (n : ℕ) → Lacks 32 name → n < 2 ^ 32 → words (gives name n) ≡ name ∷ decimal n ∷ []
given_words name n h l = words_joined name (decimal n ∷ []) h (decimal_lacks 32 n (omega arith) l, tt)

given_lacks : (name : List ℕ) (n : ℕ) → Lacks 10 name → n < 2 ^ 32 → Lacks 10 (gives name n)
given_lacks name n h l = joined_lacks name (decimal n ∷ []) h (decimal_lacks 10 n (omega arith) l, tt)

-- a place before the items
abbrev place : Stage → Setup → Place
place st s = record { stage = st; setup = s; room = 67108864; items = [] }

adds : (n : ℕ) (l : List ℕ) (p q : Place) → is_silent l ≡ false → AddsSetup p.stage p (words l) q → Leads n l p q
adds n l p q loud a = inr (loud, inl a)

-- groups
known_small : (servers : ℕ) (ns : List ℕ) → AllByRecursion (λ s. (s < 2 ^ 32) × (1 ≤ s) × (s ≤ servers)) ns → AreSmall ns
known_small servers [] a = tt
known_small servers (n ∷ ns) a = (a.0.0, known_small servers ns a.1)

group_small : (servers : ℕ) (g : GroupSetup) → IsNamed servers g → AreSmall g.servers
group_small servers g h = known_small servers g.servers h.0.known

word_lacks : (m p : ℕ) (t : Bool) → Lacks m (codes "group") → Lacks m (codes "group2") → Lacks m (if t then codes "group2" else codes "group")
word_lacks m p true a b = b
word_lacks m p false a b = a

group_words : (servers : ℕ) (g : GroupSetup) → IsNamed servers g → words (group_line g) ≡ group_word g.parity ∷ map decimal g.servers
group_words servers g h =
    words_joined (group_word g.parity) (map decimal g.servers)
    (word_lacks 32 g.parity (g.parity == 2) (lacks_test 32 (codes "group") refl) (lacks_test 32 (codes "group2") refl))
    (numbers_lack 32 g.servers (omega arith) (group_small servers g h))

group_lacks : (servers : ℕ) (g : GroupSetup) → IsNamed servers g → Lacks 10 (group_line g)
group_lacks servers g h =
    joined_lacks (group_word g.parity) (map decimal g.servers)
    (word_lacks 10 g.parity (g.parity == 2) (lacks_test 10 (codes "group") refl) (lacks_test 10 (codes "group2") refl))
    (numbers_lack 10 g.servers (omega arith) (group_small servers g h))

names_group : (servers : ℕ) (g : GroupSetup) → IsNamed servers g → NamesGroup servers (words (group_line g)) g
names_group servers g h = (h.0, at_parity h.1)
  where
    word_at : (p : ℕ) → g.parity ≡ p → words (group_line g) ≡ group_word p ∷ map decimal g.servers
    word_at p e = group_words servers g h ∙ ap (λ x. group_word x ∷ map decimal g.servers) e

    at_parity : (g.parity ≡ 1) ⊎ (g.parity ≡ 2)
        → ((g.parity ≡ 1) × (words (group_line g) ≡ codes "group" ∷ map decimal g.servers))
        ⊎ ((g.parity ≡ 2) × (words (group_line g) ≡ codes "group2" ∷ map decimal g.servers))
    at_parity (inl e) = inl (e, word_at 1 e)
    at_parity (inr e) = inr (e, word_at 2 e)

group_loud : (w : List ℕ) (ns : List (List ℕ)) (t : Bool) → is_silent (joined 32 ((if t then codes "group2" else codes "group") ∷ ns)) ≡ false
group_loud w [] true = refl
group_loud w [] false = refl
group_loud w (n ∷ ns) true = refl
group_loud w (n ∷ ns) false = refl

-- the setup with these groups
abbrev grouped : Setup → List GroupSetup → Setup
grouped s gs = record s { groups = gs }

more_groups : (n : ℕ) (gs done : List GroupSetup) (s : Setup) → AreNamed s.servers gs → length done + length gs ≤ 8
    → Goes n (map group_line gs) (place stage.Groups (grouped s done)) (place stage.Groups (grouped s (done ++ gs)))
more_groups n [] done s a m = ap (λ x. place stage.Groups (grouped s x)) (sym (append-nil done))
more_groups n (g ∷ gs) done s a m =
    let q : Place = place stage.Groups (grouped s (done ++ g ∷ [])) in
    let e : length (done ++ g ∷ []) ≡ length done + 1 = length-append done (g ∷ []) in
    let r : Goes (n + 1) (map group_line gs) q (place stage.Groups (grouped s ((done ++ g ∷ []) ++ gs))) =
    more_groups (n + 1) gs (done ++ g ∷ []) s a.1 (omega (arith, e, m)) in
    let P : List GroupSetup → Type 0 = λ x. Goes (n + 1) (map group_line gs) q (place stage.Groups (grouped s x)) in (
      q,
      adds n (group_line g) (place stage.Groups (grouped s done)) q (group_loud [] (map decimal g.servers) (g.parity == 2))
          (inl (g, names_group s.servers g a.0, omega (arith, m), refl)),
      subst P (append_assoc done (g ∷ []) gs) r,
    )

all_groups : (n : ℕ) (gs : List GroupSetup) (s : Setup) → AreNamed s.servers gs → 0 < length gs → length gs ≤ 8
    → Goes n (map group_line gs) (place stage.FirstGroup (grouped s [])) (place stage.Groups (grouped s gs))
all_groups n [] s a l m = absurd (omega (arith, l))
all_groups n (g ∷ gs) s a l m =
    let q : Place = place stage.Groups (grouped s (g ∷ [])) in (
      q,
      adds n (group_line g) (place stage.FirstGroup (grouped s [])) q (group_loud [] (map decimal g.servers) (g.parity == 2))
          (g, names_group s.servers g a.0, omega arith, refl),
      more_groups (n + 1) gs (g ∷ []) s a.1 (omega (arith, m)),
    )

-- where a setup ends
pub record End (n : ℕ) (ls : List (List ℕ)) (p : Place) (s : Setup) : Type 0 where
  pub last : Stage
  pub goes : Goes n ls p (place last s)
  pub whole : is_whole last ≡ true

acts_end : (n : ℕ) (st : Stage) (s : Setup) (acts : Bool) → ((st ≡ stage.Groups) ⊎ (st ≡ stage.Cached)) → s.acts ≡ false
    → End n (acts_lines acts) (place st s) (record s { acts = acts })
acts_end n st s false w e = record {
  last = st;
  goes = ap (λ x. place st (record s { acts = x })) e;
  whole = at_stage w;
}
  where
    at_stage : ((st ≡ stage.Groups) ⊎ (st ≡ stage.Cached)) → is_whole st ≡ true
    at_stage (inl f) = ap is_whole f
    at_stage (inr f) = ap is_whole f
acts_end n st s true w e = record {
  last = stage.Items;
  goes = (
    place stage.Items (record s { acts = true }),
    adds n (codes "acts") (place st s) (place stage.Items (record s { acts = true })) refl (at_stage w),
    refl,
  );
  whole = refl;
}
  where
    at_stage : ((st ≡ stage.Groups) ⊎ (st ≡ stage.Cached)) → AddsSetup st (place st s) (words (codes "acts")) (place stage.Items (record s { acts = true }))
    at_stage (inl f) =
        let P : Stage → Type 0 = λ x. AddsSetup x (place x s) (words (codes "acts")) (place stage.Items (record s { acts = true })) in
        subst P (sym f) (inr (inr (refl, refl)))
    at_stage (inr f) =
        let P : Stage → Type 0 = λ x. AddsSetup x (place x s) (words (codes "acts")) (place stage.Items (record s { acts = true })) in
        subst P (sym f) (refl, refl)

cache_end : (n k : ℕ) (s : Setup) (acts : Bool) → s.cache ≡ 64 → s.acts ≡ false → IsBetween 1 1024 k
    → End n (cache_lines k ++ acts_lines acts) (place stage.Groups s) (record s { cache = k; acts = acts })
cache_end n k s acts c e b = at_test (k == 64) refl
  where
    at_test : (t : Bool) → (k == 64) ≡ t
        → End n ((if t then [] else gives (codes "cache") k ∷ []) ++ acts_lines acts) (place stage.Groups s) (record s { cache = k; acts = acts })
    at_test true f =
        let g : s.cache ≡ k = c ∙ sym (eqb-true k 64 f) in
        let P : ℕ → Type 0 = λ x. End n (acts_lines acts) (place stage.Groups s) (record s { cache = x; acts = acts }) in
        subst P g (acts_end n stage.Groups s acts (inl refl) e)
    at_test false f =
        let q : Place = place stage.Cached (record s { cache = k }) in
        let r = acts_end (n + 1) stage.Cached (record s { cache = k }) acts (inr refl) e in
        let i : words (gives (codes "cache") k) ≡ codes "cache" ∷ decimal k ∷ [] =
        given_words (codes "cache") k (lacks_test 32 (codes "cache") refl) (omega (arith, b)) in
        record {
          last = r.last;
          goes = (q, adds n (gives (codes "cache") k) (place stage.Groups s) q refl (inr (inl (k, (i, b.0, b.1), refl))), r.goes);
          whole = r.whole;
        }

-- the whole setup
pub setup_goes : (s : Setup) → IsSetup s → End 1 (setup_lines s) start s
setup_goes s h =
    let s0 : Setup = start.setup in
    let s1 : Setup = record s0 { clients = s.clients } in
    let s2 : Setup = record s1 { managers = s.managers } in
    let s3 : Setup = record s2 { servers = s.servers } in
    let w0 : words (gives (codes "xfs") 1) ≡ codes "xfs" ∷ decimal 1 ∷ [] = given_words (codes "xfs") 1 (lacks_test 32 (codes "xfs") refl) (omega arith) in
    let w1 : words (gives (codes "clients") s.clients) ≡ codes "clients" ∷ decimal s.clients ∷ [] =
    given_words (codes "clients") s.clients (lacks_test 32 (codes "clients") refl) (omega (arith, h.clients)) in
    let w2 : words (gives (codes "managers") s.managers) ≡ codes "managers" ∷ decimal s.managers ∷ [] =
    given_words (codes "managers") s.managers (lacks_test 32 (codes "managers") refl) (omega (arith, h.managers)) in
    let w3 : words (gives (codes "servers") s.servers) ≡ codes "servers" ∷ decimal s.servers ∷ [] =
    given_words (codes "servers") s.servers (lacks_test 32 (codes "servers") refl) (omega (arith, h.servers)) in
    let g = all_groups 5 s.groups s3 h.groups h.some h.few in
    let r = cache_end (5 + length (map group_line s.groups)) s.cache (grouped s3 s.groups) s.acts refl refl h.cache in
    let t = goes_on 5 (5 + length (map group_line s.groups)) (map group_line s.groups) (cache_lines s.cache ++ acts_lines s.acts) (place stage.FirstGroup s3)
    (place stage.Groups (grouped s3 s.groups)) (place r.last s) refl g r.goes in
    record {
      last = r.last;
      goes = (
        place stage.Clients s0,
        adds 1 (gives (codes "xfs") 1) start (place stage.Clients s0) refl (1, (w0, omega arith, omega arith), refl),
        (
          place stage.Managers s1,
          adds 2 (gives (codes "clients") s.clients) (place stage.Clients s0) (place stage.Managers s1) refl (s.clients, (w1, h.clients.0, h.clients.1), refl),
          (
            place stage.Servers s2,
            adds 3 (gives (codes "managers") s.managers) (place stage.Managers s1) (place stage.Servers s2) refl
                (s.managers, (w2, h.managers.0, h.managers.1), refl),
            (
              place stage.FirstGroup s3,
              adds 4 (gives (codes "servers") s.servers) (place stage.Servers s2) (place stage.FirstGroup s3) refl
                  (s.servers, (w3, h.servers.0, h.servers.1), refl),
              t,
            ),
          ),
        ),
      );
      whole = r.whole;
    }

groups_lack : (servers : ℕ) (gs : List GroupSetup) → AreNamed servers gs → AllByRecursion (λ l. Lacks 10 l) (map group_line gs)
groups_lack servers [] a = tt
groups_lack servers (g ∷ gs) a = (group_lacks servers g a.0, groups_lack servers gs a.1)

cache_lack : (k : ℕ) → k < 2 ^ 32 → AllByRecursion (λ l. Lacks 10 l) (cache_lines k)
cache_lack k h = at_test (k == 64)
  where
    at_test : (t : Bool) → AllByRecursion (λ l. Lacks 10 l) (if t then [] else gives (codes "cache") k ∷ [])
    at_test true = tt
    at_test false = (given_lacks (codes "cache") k (lacks_test 10 (codes "cache") refl) h, tt)

acts_lack : (acts : Bool) → AllByRecursion (λ l. Lacks 10 l) (acts_lines acts)
acts_lack true = (lacks_test 10 (codes "acts") refl, tt)
acts_lack false = tt

-- no line of it has a line feed
pub setup_lacks : (s : Setup) → IsSetup s → AllByRecursion (λ l. Lacks 10 l) (setup_lines s)
setup_lacks s h = (
  given_lacks (codes "xfs") 1 (lacks_test 10 (codes "xfs") refl) (omega arith),
  (
    given_lacks (codes "clients") s.clients (lacks_test 10 (codes "clients") refl) (omega (arith, h.clients)),
    (
      given_lacks (codes "managers") s.managers (lacks_test 10 (codes "managers") refl) (omega (arith, h.managers)),
      (
        given_lacks (codes "servers") s.servers (lacks_test 10 (codes "servers") refl) (omega (arith, h.servers)),
        all_both (λ l. Lacks 10 l) (map group_line s.groups) (cache_lines s.cache ++ acts_lines s.acts) (groups_lack s.servers s.groups h.groups)
            (all_both (λ l. Lacks 10 l) (cache_lines s.cache) (acts_lines s.acts) (cache_lack s.cache (omega (arith, h.cache))) (acts_lack s.acts)),
      ),
    ),
  ),
)
