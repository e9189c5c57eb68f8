-- Between two begins: what lies between begins among the events so far and those of one line more lies whole among the one or among the other.
use Rattle.std.proofs.Common.{◌≡◌, ◌≤◌, ◌⊎◌, inl, inr, List, [], ◌∷◌, ◌++◌, refl, sym, ap, subst, ◌∙◌, arith}
use Rattle.std.specs.List.{count_by}
use Rattle.world_base.specs.declared.event.Event.{Event}
use Rattle.world_base.specs.declared.event.Event.TheVariants.{Begin, Deliver, Tick}
use Rattle.world_base.specs.Runs.{begun_in}
use Rattle.xfs_base.specs.declared.node.NodeId.{NodeId}
use Rattle.quiet_flow.proofs.Counts.{count_part}
use Rattle.quiet_flow.specs.Follow.{IsShort}
use Rattle.headline.specs.Bounds.{IsWithin, is_delivery, is_tick_of, most_deliveries}

abbrev head_or : Event → List Event → Event
head_or e [] = e
head_or e (x ∷ xs) = x

abbrev tail : List Event → List Event
tail [] = []
tail (x ∷ xs) = xs

abbrev is_none : List NodeId → Type 0
is_none [] = Unit {0}
is_none (n ∷ ns) = ⊥

-- where none of a list is a Begin, none of its rest is, and its first isn't
none_later : (b : Event) (between : List Event) → begun_in (b ∷ between) ≡ [] → begun_in between ≡ []
none_later (Begin n) between none = absurd (subst is_none (sym none) tt)
none_later (Deliver p) between none = none
none_later (Tick n) between none = none

not_begin : (node : NodeId) (b : Event) (between : List Event) → Begin node ≡ b → begun_in (b ∷ between) ≡ [] → ⊥
not_begin node b between is none = subst is_none (sym (ap (λ e. begun_in (e ∷ between)) is ∙ none)) tt

module _ (node : NodeId) (ys : List Event) where
  -- it begins with the first event, so it ends before the Begin
  front : (xs between after : List Event) → xs ++ Begin node ∷ ys ≡ between ++ after → begun_in between ≡ [] → (rest : List Event) × (xs ≡ between ++ rest)
  front xs [] after is none = (xs, refl)
  front [] (b ∷ between) after is none = absurd (not_begin node b between (ap (head_or b) is) none)
  front (x ∷ xs) (b ∷ between) after is none =
      let f = front xs between after (ap tail is) (none_later b between none) in
      (f.0, ap (λ es. x ∷ es) f.1 ∙ ap (λ e. e ∷ (between ++ f.0)) (ap (head_or b) is))

  abbrev pub Splits : List Event → List Event → List Event → Type 0
  Splits xs before between =
      ((rest : List Event) × (xs ≡ before ++ (between ++ rest))) ⊎ ((pre : List Event) × (post : List Event) × (ys ≡ pre ++ (between ++ post)))

  onto : (x b : Event) (xs before between : List Event) → x ≡ b → Splits xs before between → Splits (x ∷ xs) (b ∷ before) between
  onto x b xs before between same (inl s) = inl (s.0, ap (λ es. x ∷ es) s.1 ∙ ap (λ e. e ∷ (before ++ (between ++ s.0))) same)
  onto x b xs before between same (inr s) = inr s

  pub split : (xs before between after : List Event) → xs ++ Begin node ∷ ys ≡ before ++ (between ++ after) → begun_in between ≡ [] → Splits xs before between
  split xs [] between after is none = let f = front xs between after is none in inl (f.0, f.1)
  split [] (b ∷ before) between after is none = inr (before, after, ap tail is)
  split (x ∷ xs) (b ∷ before) between after is none =
      onto x b xs before between (ap (head_or b) is) (split xs before between after (ap tail is) none)

pub none_within : IsWithin []
none_within [] [] after is none = (omega arith, λ node. omega arith)
none_within [] (b ∷ between) after is none = absurd (subst is_none_of is tt)
  where
    is_none_of : List Event → Type 0
    is_none_of [] = Unit {0}
    is_none_of (e ∷ es) = ⊥
none_within (b ∷ before) between after is none = absurd (subst is_none_of is tt)
  where
    is_none_of : List Event → Type 0
    is_none_of [] = Unit {0}
    is_none_of (e ∷ es) = ⊥

pub within_more : (events : List Event) (node : NodeId) (more : List Event) → IsWithin events → IsShort most_deliveries more → IsWithin (events ++ Begin node ∷ more)
within_more events node more so_far short before between after is none = by_split (split node more events before between after is none)
  where
    by_split : Splits node more events before between
        → (count_by is_delivery between ≤ most_deliveries) × ((node : NodeId) → count_by (is_tick_of node) between ≤ 1)
    by_split (inl s) = so_far before between s.0 s.1 none
    by_split (inr (pre, post, here)) = (few, λ name. once name)
      where
        few : count_by is_delivery between ≤ most_deliveries
        few =
            let part = count_part is_delivery pre between post in
            let whole : count_by is_delivery (pre ++ (between ++ post)) ≤ most_deliveries = subst (λ es. count_by is_delivery es ≤ most_deliveries) here short.deliveries in
            omega arith

        once : (name : NodeId) → count_by (is_tick_of name) between ≤ 1
        once name =
            let part = count_part (is_tick_of name) pre between post in
            let whole : count_by (is_tick_of name) (pre ++ (between ++ post)) ≤ 1 = subst (λ es. count_by (is_tick_of name) es ≤ 1) here (short.ticks name) in
            omega arith
