-- What a client's tokens know of a block once the versions of a segment are settled: as if that one version of the block alone had been.
use Rattle.std.specs.Prelude.{if◌then◌else◌}
use Rattle.std.specs.List.{list_any}
use Rattle.std.proofs.Common.{◌≡◌, ℕ, ◌≤◌, Bool, true, false, nat_lt, nat_le, ◌&&◌, ◌||◌, List, [], ◌∷◌, refl, sym, ap, ◌∙◌, arith}
use Rattle.std.proofs.lemmas.Bool.Decides.{nat_tests}
use Rattle.xfs_base.specs.declared.block.BlockId.{BlockId}
use Rattle.xfs_base.specs.Blocks.{same_block}
use Rattle.xfs_base.specs.Steps.{still}
use Rattle.xfs_base.proofs.BlockOrder.{same_block_exact, same_block_itself}
use Rattle.xfs_base.proofs.Booleans.{by_test, contrary}
use Rattle.xfs_base.proofs.StepLoops.{steps_keep}
use Rattle.token_client.specs.declared.held.Held.{Held}
use Rattle.token_client.specs.declared.input.In.TheVariants as input
use Rattle.token_client.specs.Held.{is_settled_by, version_settled}
use Rattle.token_client.specs.Laws.{IsSound}
use Rattle.token_client.specs.State.{TokensState, held_of, with_held}
use Rattle.token_client.specs.Transition as client
use Rattle.token_client.proofs.AllInputs.{transition-follows}
use Rattle.token_client.proofs.Tables.{held_of-put_itself}
use Rattle.token_tie.specs.Seen.{Local, local_of}
use Rattle.token_tie.proofs.Elsewhere.{other_put}
use Rattle.token_law.specs.Books.{Row, AreOnce, row_in}
use Rattle.token_law.specs.Net.{all_settled}
use Rattle.token_law.proofs.Views.{setting}

-- what is known of a block once this version of it is settled
abbrev pub settled_by : Held → ℕ → Held
settled_by h ver = if is_settled_by h ver then version_settled h ver else h

abbrev pub once_settled : Local → ℕ → Local
once_settled l ver = record l { held = settled_by l.held ver }

nothing_settled : (n m : ℕ) → (nat_lt n 0 && nat_le 0 m) ≡ false
nothing_settled n m = grind (arith, nat_tests)

pub none_settled : (l : Local) → once_settled l 0 ≡ l
none_settled l = ap (λ t. record l { held = if t then version_settled l.held 0 else l.held }) (nothing_settled l.held.settled l.held.ver)

-- of two settled versions one decides
record OneOfTwo (h : Held) (first then_ : ℕ) : Type 0 where
  ver : ℕ
  below : ver ≤ h.ver
  decides : settled_by (settled_by h first) then_ ≡ settled_by h ver

one_of_two : (h : Held) (first then_ : ℕ) → then_ ≤ h.ver → OneOfTwo h first then_
one_of_two h first then_ limit = go (is_settled_by h first) refl
  where
    both : (a m n k : ℕ) → (nat_lt a m && nat_le m k) ≡ true → (nat_lt m n && nat_le n k) ≡ true → (nat_lt a n && nat_le n k) ≡ true
    both a m n k p q = grind (arith, nat_tests)

    within : (a m k : ℕ) → (nat_lt a m && nat_le m k) ≡ true → m ≤ k
    within a m k p = grind (arith, nat_tests)

    later : (t : Bool) → (nat_lt first then_ && nat_le then_ h.ver) ≡ t → is_settled_by h first ≡ true → OneOfTwo h first then_
    later true news fact = record {
      ver = then_;
      below = limit;
      decides = ap (λ t. settled_by (if t then version_settled h first else h) then_) fact
          ∙ ap (λ t. if t then version_settled h then_ else version_settled h first) news
          ∙ sym (ap (λ t. if t then version_settled h then_ else h) (both h.settled first then_ h.ver fact news));
    }
    later false news fact = record {
      ver = first;
      below = within h.settled first h.ver fact;
      decides = ap (λ t. settled_by (if t then version_settled h first else h) then_) fact
          ∙ ap (λ t. if t then version_settled h then_ else version_settled h first) news
          ∙ sym (ap (λ t. if t then version_settled h first else h) fact);
    }

    go : (t : Bool) → is_settled_by h first ≡ t → OneOfTwo h first then_
    go true fact = later (nat_lt first then_ && nat_le then_ h.ver) refl fact
    go false fact = record { ver = then_; below = limit; decides = ap (λ t. settled_by (if t then version_settled h first else h) then_) fact }

module _ (b : BlockId) where
  pub settled_here : (s : TokensState) (ver : ℕ) → local_of (client.on_settled s b ver).state b ≡ once_settled (local_of s b) ver
  unfolding client.on_settled
  settled_here s ver =
      let h = held_of s.blocks b in
      let news : client.Done = still (with_held s b (version_settled h ver)) in
      let same : client.Done = still s in
      elim (is_settled_by h ver) as
      (λ t. local_of (if t then news else same).state b ≡ record (local_of s b) { held = if t then version_settled h ver else h }) [
        | true ↦ ap (λ (k : Held). record (local_of s b) { held = k }) (held_of-put_itself b (version_settled h ver) s.blocks)
        | false ↦ refl
      ]

  settled_there : (s : TokensState) (k : BlockId) (ver : ℕ) → (k ≡ b → ⊥) → local_of (client.on_settled s k ver).state b ≡ local_of s b
  unfolding client.on_settled
  settled_there s k ver other =
      let h = held_of s.blocks k in
      by_test (λ (d : client.Done). local_of d.state b ≡ local_of s b) (is_settled_by h ver) (still (with_held s k (version_settled h ver))) (still s)
      (λ t. ap (λ (x : Held). record (local_of s b) { held = x }) (other_put (setting b 0 0) k other (version_settled h ver) s.blocks)) (λ t. refl)

  -- a row of this block, or of another
  by_row : (P : Type 0) (k : BlockId) → (same_block k b ≡ true → P) → (same_block k b ≡ false → (k ≡ b → ⊥) → P) → P
  by_row P k here there = go (same_block k b) refl
    where
      go : (t : Bool) → same_block k b ≡ t → P
      go true fact = here fact
      go false fact = there fact (λ same. contrary (sym fact ∙ ap (λ (x : BlockId). same_block x b) same ∙ same_block_itself b))

  -- none of these rows is of the block
  none_of_it : (s : TokensState) (rows : List (BlockId × Row)) → list_any (λ (r : BlockId × Row). same_block b r.0) rows ≡ false
      → local_of (all_settled s rows) b ≡ local_of s b
  none_of_it s [] none = refl
  none_of_it s ((k, row) ∷ rows) none =
      let apart = neither (same_block b k) (list_any (λ (r : BlockId × Row). same_block b r.0) rows) none in
      none_of_it (client.on_settled s k row.version).state rows apart.1
      ∙ settled_there s k row.version (λ same. contrary (sym apart.0 ∙ ap (λ (x : BlockId). same_block b x) same ∙ same_block_itself b))
    where
      neither : (a c : Bool) → (a || c) ≡ false → (a ≡ false) × (c ≡ false)
      neither true c h = contrary (sym h)
      neither false c h = (refl, h)

  -- where no block stands twice in them, the row of the block decides
  pub settled_once : (s : TokensState) (rows : List (BlockId × Row)) → AreOnce rows
      → local_of (all_settled s rows) b ≡ local_of (client.on_settled s b (row_in rows b).version).state b
  settled_once s rows once = go s rows once ∙ sym (settled_here s (row_in rows b).version)
    where
      go : (t : TokensState) (rs : List (BlockId × Row)) → AreOnce rs → local_of (all_settled t rs) b ≡ once_settled (local_of t b) (row_in rs b).version
      go t [] once = sym (none_settled (local_of t b))
      go t ((k, row) ∷ rs) once =
          let u = (client.on_settled t k row.version).state in
          by_row (local_of (all_settled u rs) b ≡ once_settled (local_of t b) (row_in ((k, row) ∷ rs) b).version) k
          (λ fact. let same : b ≡ k = same_block_exact k b fact in
          none_of_it u rs (ap (λ (x : BlockId). list_any (λ (r : BlockId × Row). same_block x r.0) rs) same ∙ once.0)
          ∙ ap (λ (x : BlockId). local_of (client.on_settled t x row.version).state b) (sym same) ∙ settled_here t row.version
          ∙ ap (λ y. once_settled (local_of t b) (if y then row else row_in rs b).version) (sym fact))
          (λ fact other.
          go u rs once.1 ∙ ap (λ (l : Local). once_settled l (row_in rs b).version) (settled_there t k row.version other)
          ∙ ap (λ y. once_settled (local_of t b) (if y then row else row_in rs b).version) (sym fact))

  -- where one may, some version that the client had decides
  pub record Decides (s : TokensState) (rows : List (BlockId × Row)) : Type 0 where
    pub ver : ℕ
    pub below : ver ≤ (held_of s.blocks b).ver
    pub decides : local_of (all_settled s rows) b ≡ local_of (client.on_settled s b ver).state b

  pub settled_some : (s : TokensState) (rows : List (BlockId × Row)) → Decides s rows
  settled_some s [] = record { ver = 0; below = omega arith; decides = sym (none_settled (local_of s b)) ∙ sym (settled_here s 0) }
  settled_some s ((k, row) ∷ rows) =
      let u = (client.on_settled s k row.version).state in
      let d = settled_some u rows in
      by_row (Decides s ((k, row) ∷ rows)) k
      (λ same.
      let now : local_of u b ≡ once_settled (local_of s b) row.version =
      ap (λ (x : BlockId). local_of (client.on_settled s x row.version).state b) (sym (same_block_exact k b same)) ∙ settled_here s row.version in
      let held : held_of u.blocks b ≡ settled_by (held_of s.blocks b) row.version = ap (λ (l : Local). l.held) now in
      let kept : (settled_by (held_of s.blocks b) row.version).ver ≡ (held_of s.blocks b).ver = stays (held_of s.blocks b) row.version in
      let limit = d.below in
      let one = one_of_two (held_of s.blocks b) row.version d.ver (let h = ap (λ (x : Held). x.ver) held in omega arith) in
      record {
        ver = one.ver;
        below = one.below;
        decides = d.decides ∙ settled_here u d.ver ∙ ap (λ (l : Local). once_settled l d.ver) now
            ∙ ap (λ (x : Held). record (local_of s b) { held = x }) one.decides ∙ sym (settled_here s one.ver);
      })
      (λ differs other.
      let same = settled_there s k row.version other in
      record {
        ver = d.ver;
        below = let h = ap (λ (l : Local). l.held.ver) same in let limit = d.below in omega arith;
        decides = d.decides ∙ settled_here u d.ver ∙ ap (λ (l : Local). once_settled l d.ver) same ∙ sym (settled_here s d.ver);
      })
    where
      stays : (h : Held) (ver : ℕ) → (settled_by h ver).ver ≡ h.ver
      stays h ver = by_test (λ (k : Held). k.ver ≡ h.ver) (is_settled_by h ver) (version_settled h ver) h (λ _. refl) (λ _. refl)

-- the tokens stay sound
pub settled_sound : (s : TokensState) (rows : List (BlockId × Row)) → IsSound s → IsSound (all_settled s rows)
settled_sound s rows sound =
    steps_keep (λ t (r : BlockId × Row). client.transition t (input.Settled r.0 r.1.version)) IsSound
    (λ t r i. (transition-follows (λ b. Unit {0}) t i (input.Settled r.0 r.1.version) (λ b h. tt)).sound) s rows sound
