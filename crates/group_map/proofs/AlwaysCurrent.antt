-- A loss leaves a current group, since each group that it ends is followed by a current one.
use Rattle.std.proofs.Common.{◌≡◌, ℕ, ◌<◌, Bool, true, false, cond, List, [], ◌∷◌, ◌++◌, length, map, refl, ◌∙◌, arith}
use Rattle.std.specs.Prelude.{◌&&◌, ◌||◌, not, filter}
use Rattle.std.specs.List.{list_any}
use Rattle.std.proofs.lemmas.Bool.{false≢true}
use Rattle.std.proofs.lemmas.List.Folds.{list_any-append}
use Rattle.group_map.specs.declared.group.Group.{Group}
use Rattle.group_map.specs.Groups.{current_ids, numbered, present_layout, retired, has_server, is_hit, followers}
use Rattle.group_map.specs.Layout.{Layout}

abbrev pub any_current : List Group → Bool
any_current gs = list_any (λ g. g.current) gs

or-true : (b : Bool) → (b || true) ≡ true
or-true true = refl
or-true false = refl

-- one group more, which is current or not and has the server or not
one_more : (c h r a : Bool) (k : ℕ) (f : Group → Layout) (g : Group) (hit : List Group) → (c || a) ≡ true
    → (a ≡ true → (r || any_current (numbered k (map f hit))) ≡ true)
    → (((c && not h) || r) || any_current (numbered k (map f (cond (c && h) (g ∷ hit) hit)))) ≡ true
one_more true true r a k f g hit e ih = or-true r
one_more true false r a k f g hit e ih = refl
one_more false h r a k f g hit e ih = ih e

current_or_followed : (server k : ℕ) (generations : List ℕ) (gs : List Group) → any_current gs ≡ true
    → (any_current (map (retired server) gs) || any_current (numbered k (followers generations server gs))) ≡ true
current_or_followed server k generations [] e = cc
current_or_followed server k generations (g ∷ gs) e =
    one_more g.current (has_server server g) (any_current (map (retired server) gs)) (any_current gs) k (present_layout generations) g
    (filter (is_hit server) gs) e (current_or_followed server k generations gs)

pub any_current-lost : (server k : ℕ) (generations : List ℕ) (gs : List Group) → any_current gs ≡ true
    → any_current (map (retired server) gs ++ numbered k (followers generations server gs)) ≡ true
any_current-lost server k generations gs e =
    list_any-append (λ (g : Group). g.current) (map (retired server) gs) (numbered k (followers generations server gs))
    ∙ current_or_followed server k generations gs e

-- so a choice among the current groups has one to choose
pub some_current : (gs : List Group) → any_current gs ≡ true → 0 < length (current_ids gs)
some_current [] e = absurd (false≢true e)
some_current (g ∷ gs) e =
    elim g.current as
    (λ c. (c || any_current gs) ≡ true
    → 0 < length (map (λ (x : Group). x.id) (cond c (g ∷ filter (λ (x : Group). x.current) gs) (filter (λ (x : Group). x.current) gs)))) [
      | true ↦ λ m. omega arith
      | false ↦ λ m. some_current gs m
    ] e
