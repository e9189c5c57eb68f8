-- What a client reports that it holds of a slot is what it held of it as it was asked: promising the slot drops no block.
use Rattle.std.proofs.Common.{◌≡◌, ◌+◌, ◌&&◌, ℕ, Bool, true, false, cond, List, [], ◌∷◌, map, filter, unwrap_or, Option, Some, nat_lt, inl, inr, refl, sym, ap, subst, ◌∙◌}
use Rattle.std.proofs.lemmas.Bool.{eqb-true, eq-eqb}
use Rattle.std.proofs.lemmas.Map.Views.{tells_apart}
use Rattle.std.specs.BTreeMap.{insert_entry, is_at}
use Rattle.std.specs.declared.cmp.Ordering.{Ordering}
use Rattle.std.specs.declared.cmp.Ordering.TheVariants.{Less, Equal, Greater}
use Rattle.std.specs.List.{AllByRecursion}
use Rattle.std.specs.Map.{lookup, remove_entry}
use Rattle.std.specs.Ordering.{eq_by_cmp, match_ordering}
use Rattle.token_client.proofs.Tables.{held_of-changed, put_same}
use Rattle.token_client.specs.declared.held.Held.{Held}
use Rattle.token_client.specs.Held.{drop_promised, held_ask, held_new}
use Rattle.token_client.specs.State.{TokensState, held_in, held_of, is_in_slot, put_held}
use Rattle.token_client.specs.Transition as tokens
use Rattle.token_client.specs.Transition.{ask_copy, drop_all_in, drop_in, fetched_blocks, may_promise, on_promise, raised, tokens_ask}
use Rattle.token_protocol.specs.Basics.{In}
use Rattle.xfs_base.proofs.BlockOrder.{block_cmp_exact}
use Rattle.xfs_base.proofs.Booleans.{and_first, and_second, by_test, contrary}
use Rattle.xfs_base.proofs.StepLoops.{steps_keep}
use Rattle.xfs_base.specs.Blocks.{block_cmp, slot_of}
use Rattle.xfs_base.specs.declared.block.BlockId.{BlockId}
use Rattle.xfs_base.specs.declared.token.Mode.{Mode}
use Rattle.xfs_base.specs.declared.token.Mode.TheVariants.{Copy}
use Rattle.xfs_base.specs.Modes.{is_held}
use Rattle.xfs_base.specs.Steps.{steps, still}

abbrev Entries : Type 0
Entries = List (BlockId × Held)

abbrev here : BlockId → BlockId → Bool
here block k = eq_by_cmp block_cmp block k

-- what is known of a block, where the first entry is of it or not
abbrev known_if : BlockId → Bool → Held → Entries → Held
known_if block t h es = unwrap_or (cond t (Some h) (lookup (is_at (block_cmp block)) es)) held_new

-- ---- what is held is listed

module _ (slot : ℕ) where
  abbrev is_listed : BlockId × Held → Bool
  is_listed e = is_in_slot slot e.0 && is_held e.1.mode

  module _ (block : BlockId) where
    pub held_listed : (es : Entries) → slot_of block.ino.0 ≡ slot → is_held (held_of es block).mode ≡ true → In (block, (held_of es block).mode) (held_in slot es)
    held_listed [] its held = contrary held
    held_listed (e ∷ es) its held = by (here block e.0) refl (is_listed e) refl (λ later. held_listed es its later) held
      where
        at_once : here block e.0 ≡ true → is_listed e ≡ false → is_held e.1.mode ≡ true → is_listed e ≡ true
        at_once at fails held =
            ap (λ (b : Bool). b && is_held e.1.mode)
            (subst (λ (k : BlockId). is_in_slot slot k ≡ true) (tells_apart block_cmp_exact block e.0 at) (eq-eqb (slot_of block.ino.0) slot its)) ∙ held

        by : (t : Bool) → here block e.0 ≡ t → (u : Bool) → is_listed e ≡ u → (is_held (held_of es block).mode ≡ true → In (block, (held_of es block).mode) (held_in slot es))
            → is_held (known_if block t e.1 es).mode ≡ true
            → In {X = BlockId × Mode} (block, (known_if block t e.1 es).mode)
            (map (λ (e : BlockId × Held). (e.0, e.1.mode)) (cond u (e ∷ filter is_listed es) (filter is_listed es)))
        by true at true is later held = inl (ap (λ (k : BlockId). (k, e.1.mode)) (tells_apart block_cmp_exact block e.0 at))
        by true at false is later held = contrary (sym is ∙ at_once at is held)
        by false at true is later held = inr (later held)
        by false at false is later held = later held

    -- ---- what is listed is held

    module _ (mode : Mode) where
      pub record IsListed (es : Entries) : Type 0 where
        pub its : slot_of block.ino.0 ≡ slot
        pub held : is_held mode ≡ true
        pub h : Held
        pub among : In (block, h) es
        pub same : h.mode ≡ mode

      pub listed_held : (es : Entries) → In (block, mode) (held_in slot es) → IsListed es
      listed_held [] among = absurd among
      listed_held (e ∷ es) among = by (is_listed e) refl (listed_held es) among
        where
          behind : IsListed es → IsListed (e ∷ es)
          behind found = record { its = found.its; held = found.held; h = found.h; among = inr found.among; same = found.same }

          at : is_listed e ≡ true → block ≡ e.0 → mode ≡ e.1.mode → IsListed (e ∷ es)
          at is same is_mode = record {
            its = ap (λ (k : BlockId). slot_of k.ino.0) same ∙ eqb-true (slot_of e.0.ino.0) slot (and_first (is_in_slot slot e.0) (is_held e.1.mode) is);
            held = ap is_held is_mode ∙ and_second (is_in_slot slot e.0) (is_held e.1.mode) is;
            h = e.1;
            among = inl (ap (λ (k : BlockId). (k, e.1)) same);
            same = sym is_mode;
          }

          by : (u : Bool) → is_listed e ≡ u → (In (block, mode) (held_in slot es) → IsListed es)
              → In {X = BlockId × Mode} (block, mode) (map (λ (e : BlockId × Held). (e.0, e.1.mode)) (cond u (e ∷ filter is_listed es) (filter is_listed es))) → IsListed (e ∷ es)
          by true is later (inl first) = at is (ap (λ (p : BlockId × Mode). p.0) first) (ap (λ (p : BlockId × Mode). p.1) first)
          by true is later (inr more) = behind (later more)
          by false is later more = behind (later more)

-- ---- each entry that is held was so before

module _ (before : Entries) where
  -- this stands in the table before, in its mode, where it is held
  abbrev pub WasSo : BlockId × Held → Type 0
  WasSo e = is_held e.1.mode ≡ true → (h : Held) × (In (e.0, h) before × (h.mode ≡ e.1.mode))

  abbrev pub WereSo : Entries → Type 0
  WereSo es = AllByRecursion WasSo es

  pub were_in : (es : Entries) → ((e : BlockId × Held) → In e es → In e before) → WereSo es
  were_in [] among = tt
  were_in (e ∷ es) among = ((λ held. (e.1, (among e (inl refl), refl))), were_in es (λ x more. among x (inr more)))

  pub was_in : (e : BlockId × Held) (es : Entries) → In e es → WereSo es → WasSo e
  was_in e [] among all = absurd among
  was_in e (x ∷ es) (inl same) all = subst WasSo (sym same) all.0
  was_in e (x ∷ es) (inr more) all = was_in e es more all.1

  changed_so : (g : BlockId → Held → Held) → ((k : BlockId) (h : Held) → (g k h).mode ≡ h.mode) → (es : Entries) → WereSo es
      → WereSo (map (λ (e : BlockId × Held). (e.0, g e.0 e.1)) es)
  changed_so g same [] all = tt
  changed_so g same (e ∷ es) all = (first, changed_so g same es all.1)
    where
      first : WasSo (e.0, g e.0 e.1)
      first held =
          let was : (h : Held) × (In (e.0, h) before × (h.mode ≡ e.1.mode)) = all.0 (ap is_held (sym (same e.0 e.1)) ∙ held) in
          (was.0, (was.1.0, was.1.1 ∙ sym (same e.0 e.1)))

  known_so : (es : Entries) (block : BlockId) → WereSo es → WasSo (block, held_of es block)
  known_so [] block all = λ held. contrary held
  known_so (e ∷ es) block all =
      by_test (λ (o : Option Held). WasSo (block, unwrap_or o held_new)) (is_at (block_cmp block) e.0) (Some e.1) (lookup (is_at (block_cmp block)) es)
      (λ at. subst (λ (k : BlockId). WasSo (k, e.1)) (sym (tells_apart block_cmp_exact block e.0 at)) all.0) (λ _. known_so es block all.1)

  removed_so : (k : BlockId) (es : Entries) → WereSo es → WereSo (remove_entry (is_at (block_cmp k)) es)
  removed_so k [] all = tt
  removed_so k (e ∷ es) all =
      by_test WereSo (is_at (block_cmp k) e.0) es (e ∷ remove_entry (is_at (block_cmp k)) es) (λ _. all.1) (λ _. (all.0, removed_so k es all.1))

  put_in : (o : Ordering) (k : BlockId) (g : Held) (e : BlockId × Held) (es rest : Entries) → block_cmp k e.0 ≡ o → WasSo (k, g) → WasSo e → WereSo es → WereSo rest
      → WereSo (match_ordering o ((k, g) ∷ e ∷ es) ((e.0, g) ∷ es) (e ∷ rest))
  put_in Less k g e es rest fact new first all more = (new, (first, all))
  put_in Equal k g e es rest fact new first all more = (subst (λ (b : BlockId). WasSo (b, g)) (block_cmp_exact k e.0 fact) new, all)
  put_in Greater k g e es rest fact new first all more = (first, more)

  inserted_so : (k : BlockId) (g : Held) (es : Entries) → WasSo (k, g) → WereSo es → WereSo (insert_entry block_cmp es k g)
  inserted_so k g [] new all = (new, tt)
  inserted_so k g (e ∷ es) new all =
      put_in (block_cmp k e.0) k g e es (insert_entry block_cmp es k g) refl new all.0 all.1 (inserted_so k g es new all.1)

  put_so : (k : BlockId) (g : Held) (es : Entries) → g.mode ≡ (held_of es k).mode → WereSo es → WereSo (put_held es k g)
  put_so k g es same all =
      inserted_so k g (remove_entry (is_at (block_cmp k)) es) new (removed_so k es all)
    where
      new : WasSo (k, g)
      new held =
          let was : (h : Held) × (In (k, h) before × (h.mode ≡ (held_of es k).mode)) = known_so es k all (ap is_held (sym same) ∙ held) in
          (was.0, (was.1.0, was.1.1 ∙ sym same))

-- ---- a slot is promised

module _ (t : TokensState) (slot epoch : ℕ) where
  -- what is held is as it was
  pub record HoldsOn (u : TokensState) : Type 0 where
    pub modes : (b : BlockId) → (held_of u.blocks b).mode ≡ (held_of t.blocks b).mode
    pub entries : WereSo t.blocks u.blocks

  holds_as : HoldsOn t
  holds_as = record { modes = λ b. refl; entries = were_in t.blocks t.blocks (λ e among. among) }

  dropped_mode : (k : BlockId) (h : Held) → (drop_in slot k h).mode ≡ h.mode
  dropped_mode k h = by_test (λ (g : Held). g.mode ≡ h.mode) (is_in_slot slot k) (drop_promised h) h (λ _. refl) (λ _. refl)

  dropped_new : (k : BlockId) → drop_in slot k held_new ≡ held_new
  dropped_new k = by_test (λ (g : Held). g ≡ held_new) (is_in_slot slot k) (drop_promised held_new) held_new (λ _. refl) (λ _. refl)

  raised_holds : HoldsOn (raised t slot epoch)
  raised_holds = record {
    modes = λ b. ap (λ (h : Held). h.mode) (held_of-changed (drop_in slot) b t.blocks (dropped_new b)) ∙ dropped_mode b (held_of t.blocks b);
    entries = changed_so t.blocks (drop_in slot) dropped_mode t.blocks holds_as.entries;
  }

  asks_hold : (u : TokensState) (block : BlockId) → HoldsOn u → HoldsOn (ask_copy u block).state
  unfolding tokens_ask
  asks_hold u block holds =
      let g : Held = held_ask (held_of u.blocks block) (u.req + 1) Copy in
      by_test (λ (d : tokens.Done). HoldsOn d.state) (nat_lt u.req _) _ (still u)
      (λ _. record {
        modes = λ b. put_same (λ (h : Held). h.mode) b block g u.blocks refl ∙ holds.modes b;
        entries = put_so t.blocks block g u.blocks refl holds.entries;
      })
      (λ _. holds)

  pub promise_holds : HoldsOn (on_promise t slot epoch).state
  unfolding on_promise
  promise_holds =
      by_test (λ (d : tokens.Done). HoldsOn d.state) (may_promise t slot epoch) (steps ask_copy (raised t slot epoch) (fetched_blocks slot t.blocks)) (still t)
      (λ _. steps_keep ask_copy HoldsOn asks_hold (raised t slot epoch) (fetched_blocks slot t.blocks) raised_holds) (λ _. holds_as)
