-- What is owned without a value was just granted to the call that needs it, at a version that is known: what that call on blocks makes of it, where it is answered,
-- gives it a value, or lets it go.
use Rattle.std.proofs.Common.{◌≡◌, ◌⊎◌, ◌+◌, ◌==◌, ◌&&◌, not, ℕ, Bool, true, false, cond, if◌then◌else◌, nat_lt, List, Option, Some, None, is_none, is_some, inl, inr, refl, sym, ap, subst, ◌∙◌, arith}
use Rattle.std.proofs.lemmas.Bool.Decides.{nat_tests}
use Rattle.client_call.specs.Fitting.{put_fits}
use Rattle.client_running.specs.Blocks.{Made, changed, changes, blocks_change, got, blocks_get, held_back, is_settled, blocks_let_go, blocks_make, blocks_need, blocks_put, puts_again, blocks_put_at, blocks_sync, wrote}
use Rattle.client_serving.specs.declared.serving.Serving.{Serving}
use Rattle.client_serving.specs.Flights.{held_at}
use Rattle.client_serving.specs.Follow.{note_gone, serving_seal}
use Rattle.file_plan.specs.declared.block_call.BlockAnswer.{BlockAnswer}
use Rattle.file_plan.specs.declared.block_call.BlockAnswer.TheVariants as answers
use Rattle.file_plan.specs.declared.block_call.BlockCall.{BlockCall}
use Rattle.file_plan.specs.declared.block_call.BlockCall.TheVariants.{Get, Put, PutAt, Sync}
use Rattle.node_slots.proofs.node_tie.ClientUnsettled.{put_cases}
use Rattle.node_slots.specs.node_tie.Asks.{needed_by}
use Rattle.token_client.proofs.Tables.{held_of-put_itself, put_each}
use Rattle.token_client.specs.declared.held.Held.{Held}
use Rattle.token_client.specs.Held.{is_dirty, let_go, may_evict, may_write, held_write}
use Rattle.token_client.specs.State.{held_of, with_held}
use Rattle.token_client.specs.Transition as tokens
use Rattle.token_client.specs.Transition.{on_evict, on_wrote}
use Rattle.xfs_base.proofs.Booleans.{and_first, by_test, contrary}
use Rattle.xfs_base.proofs.BlockOrder.{same_block_itself}
use Rattle.xfs_base.specs.Blocks.{same_block}
use Rattle.xfs_base.specs.declared.block.BlockId.{BlockId}
use Rattle.xfs_base.specs.declared.node.NodeId.{NodeId}
use Rattle.xfs_base.specs.declared.token.Mode.{Mode}
use Rattle.xfs_base.specs.declared.token.Mode.TheVariants.{Nothing, Copy, Own}
use Rattle.xfs_base.specs.Modes.{is_held, is_nothing, is_own}
use Rattle.xfs_base.specs.Steps.{still}
use Rattle.headline.specs.Calls.{IsAnswerTo, IsHeldAfter, writes_of}
use Rattle.run_answers.proofs.act_law.Writing.{put_tokens}
use Rattle.run_answers.proofs.own_law.Holding.{Same, itself, needs_stays}
use Rattle.run_answers.proofs.own_law.Moving.{tells_acts}

-- it was granted at this version, to be owned by what needs it
pub record IsNew (versions : BlockId → ℕ) (need : Option (BlockId × Mode)) (b : BlockId) (h : Held) : Type 0 where
  pub ver : h.ver ≡ versions b
  pub clean : is_dirty h ≡ false
  pub needed : need ≡ Some (b, Own)

-- so is what is held without a value
abbrev pub Fresh : (BlockId → ℕ) → Option (BlockId × Mode) → Serving → Type 0
Fresh versions need s = (b : BlockId) → is_held (held_at s b).mode ≡ true → is_none (held_at s b).value ≡ true → IsNew versions need b (held_at s b)

abbrev mode_of : Option (BlockId × Mode) → Mode
mode_of None = Own
mode_of (Some need) = need.1

abbrev block_of : BlockId → Option (BlockId × Mode) → BlockId
block_of other None = other
block_of other (Some need) = need.0

copy_own : (block b : BlockId) → ◌≡◌ {A = Option (BlockId × Mode)} (Some (block, Copy)) (Some (b, Own)) → ⊥
copy_own block b same = (let mode : Copy ≡ Own = ap mode_of same in absurd cc)

own_own : (block b : BlockId) → ◌≡◌ {A = Option (BlockId × Mode)} (Some (block, Own)) (Some (b, Own)) → block ≡ b
own_own block b same = ap (block_of block) same

-- or nothing is
abbrev pub AllValued : Serving → Type 0
AllValued s = (b : BlockId) → is_held (held_at s b).mode ≡ true → is_none (held_at s b).value ≡ true → ⊥

pub all_fresh : (versions : BlockId → ℕ) (need : Option (BlockId × Mode)) (s : Serving) → AllValued s → Fresh versions need s
all_fresh versions need s all b held none = absurd (all b held none)

-- it was held without a value before, and wasn't written
record WasSo (h g : Held) (more : ℕ) : Type 0 where
  held : is_held h.mode ≡ true
  none : is_none h.value ≡ true
  unwritten : more ≡ 0

-- where it is held without a value, that was so
abbrev NoNew : Held → Held → ℕ → Type 0
NoNew h g more = is_held g.mode ≡ true → is_none g.value ≡ true → WasSo h g more

same_new : (h g : Held) → Same h g → NoNew h g 0
same_new h g same held none = record {
  held = ap is_held (sym same.mode) ∙ held;
  none = ap is_none (sym same.value) ∙ none;
  unwritten = refl;
}

module _ (b : BlockId) where
  abbrev Stays : Serving → Serving → ℕ → Type 0
  Stays s t more = NoNew (held_at s b) (held_at t b) more

  lets_go : (s : Serving) (block : BlockId) → Stays s (blocks_let_go s block) 0
  unfolding note_gone on_evict
  lets_go s block =
      by_test (λ (t : Serving). Stays s t 0) (is_none (held_at s block).value) (note_gone t block) s (λ _. gone) (λ _. same_new (held_at s b) (held_at s b) (itself b (held_at s b)))
    where
      t : Serving
      t = record s { tokens = (on_evict s.tokens block).state }

      evicted : Stays s t 0
      evicted =
          by_test (λ (d : tokens.Done). NoNew (held_at s b) (held_of d.state.blocks b) 0) (may_evict (held_of s.tokens.blocks block))
          (still (with_held s.tokens block (let_go (held_of s.tokens.blocks block)))) (still s.tokens)
          (λ _. put_each (λ q h. NoNew (held_of s.tokens.blocks q) h 0) block (let_go (held_of s.tokens.blocks block)) s.tokens.blocks
          (λ held none. contrary held) (λ q. same_new (held_of s.tokens.blocks q) (held_of s.tokens.blocks q) (itself q (held_of s.tokens.blocks q))) b)
          (λ _. same_new (held_at s b) (held_at s b) (itself b (held_at s b)))

      gone : Stays s (note_gone t block) 0
      gone = by_test (λ (u : Serving). Stays s u 0) (is_nothing (held_of t.tokens.blocks block).mode) _ t (λ _. evicted) (λ _. evicted)

  changed_so : (s : Serving) (block : BlockId) (value : Option (List ℕ)) → may_write (held_at s block) ≡ true → Stays s (changes s block value).done.state (if same_block block b then 1 else 0)
  unfolding changes on_wrote
  changed_so s block value may =
      subst (λ (h : Held). NoNew (held_at s b) h (if same_block block b then 1 else 0)) (sym after)
      (by_test (λ (d : tokens.Done). may_write (held_at s block) ≡ true → NoNew (held_at s b) (held_of d.state.blocks b) (if same_block block b then 1 else 0))
      (may_write (held_at s block)) (still (with_held s.tokens block now)) (still s.tokens)
      (λ _ _. put_cases (λ q h. NoNew (held_of s.tokens.blocks q) h (if same_block block q then 1 else 0)) block now s.tokens.blocks
      (λ held none. contrary none) (λ q other. subst (λ (t : Bool). NoNew (held_of s.tokens.blocks q) (held_of s.tokens.blocks q) (cond t 1 0)) (sym other)
      (same_new (held_of s.tokens.blocks q) (held_of s.tokens.blocks q) (itself q (held_of s.tokens.blocks q)))) b)
      (λ none may. contrary (sym none ∙ may)) may)
    where
      w : Serving
      w = wrote s block value

      now : Held
      now = held_write (held_at s block) value

      after : held_at (changes s block value).done.state b ≡ held_at w b
      after = ap (λ t. held_of t.blocks b) (put_tokens w block (record { ver = (held_at w block).ver; hop = 0; place = None }) value)

  -- ---- one call on blocks

  module _ (node : NodeId) (s : Serving) where
    abbrev MadeStays : BlockCall → Made → Type 0
    MadeStays call m = Stays s m.done.state (writes_of b (tells_acts node s.lasting.number call m.answer))

    unmoved : (t : Serving) → Same (held_at s b) (held_at t b) → Stays s t 0
    unmoved t same = same_new (held_at s b) (held_at t b) same

    gets_stay : (block : BlockId) → MadeStays (Get block) (blocks_get s block)
    unfolding blocks_get
    gets_stay block =
        by_test (MadeStays (Get block)) (is_nothing (held_at s block).mode) (blocks_need s block Copy) (got s block (held_at s block))
        (λ _. unmoved (blocks_need s block Copy).done.state (needs_stays b s block Copy)) (λ _. unmoved s (itself b (held_at s b)))

    put_stays : (block : BlockId) (value : Option (List ℕ)) → may_write (held_at s block) ≡ true → MadeStays (Put block value) (blocks_change s block value)
    unfolding blocks_change changes
    put_stays block value may =
        by_test (MadeStays (Put block value)) (put_fits block ((held_at s block).ver + 1) value) (changes s block value) (held_back s block)
        (λ _. changed_so s block value may) (λ _. lets_go s block)

    put_at_stays : (block : BlockId) (named : ℕ) (value : Option (List ℕ)) → may_write (held_at s block) ≡ true
        → MadeStays (PutAt block named value) (blocks_change s block value)
    unfolding blocks_change changes
    put_at_stays block named value may =
        by_test (MadeStays (PutAt block named value)) (put_fits block ((held_at s block).ver + 1) value) (changes s block value) (held_back s block)
        (λ _. changed_so s block value may) (λ _. lets_go s block)

    puts_stay : (block : BlockId) (value : Option (List ℕ)) → MadeStays (Put block value) (blocks_put s block value)
    unfolding blocks_put
    puts_stay block value =
        by_test (MadeStays (Put block value)) (may_write (held_at s block)) (blocks_change s block value) (blocks_need s block Own)
        (λ may. put_stays block value may) (λ _. unmoved (blocks_need s block Own).done.state (needs_stays b s block Own))

    again_stays : (block : BlockId) (named : ℕ) (value : Option (List ℕ)) → may_write (held_at s block) ≡ true
        → MadeStays (PutAt block named value) (puts_again s block named value)
    again_stays block named value may =
        by_test (MadeStays (PutAt block named value)) ((held_at s block).ver == named) (blocks_change s block value) (changed s block)
        (λ _. put_at_stays block named value may) (λ _. lets_go s block)

    puts_at_stay : (block : BlockId) (named : ℕ) (value : Option (List ℕ)) → MadeStays (PutAt block named value) (blocks_put_at s block named value)
    unfolding blocks_put_at
    puts_at_stay block named value =
        by_test (MadeStays (PutAt block named value)) (may_write (held_at s block)) (puts_again s block named value) (blocks_need s block Own)
        (λ may. again_stays block named value may) (λ _. unmoved (blocks_need s block Own).done.state (needs_stays b s block Own))

    syncs_stay : MadeStays Sync (blocks_sync s)
    unfolding blocks_sync serving_seal
    syncs_stay = by (is_settled (serving_seal s).state)
      where
        by : (t : Bool) → NoNew (held_at s b) (held_at s b) (writes_of b (tells_acts node s.lasting.number Sync (if t then Some answers.Synced else None)))
        by true = unmoved s (itself b (held_at s b))
        by false = unmoved s (itself b (held_at s b))

    makes_stay : (call : BlockCall) → MadeStays call (blocks_make s call)
    unfolding blocks_make
    makes_stay (Get block) = gets_stay block
    makes_stay (Put block value) = puts_stay block value
    makes_stay (PutAt block named value) = puts_at_stay block named value
    makes_stay Sync = syncs_stay

-- ---- what was let go

own_held : (mode : Mode) → is_own mode ≡ true → is_held mode ≡ true
own_held Nothing own = contrary own
own_held Copy own = contrary own
own_held Own own = refl

writable_held : (h : Held) → may_write h ≡ true → is_held h.mode ≡ true
writable_held h may = own_held h.mode (and_first (is_own h.mode) (is_none h.giving) (and_first (is_own h.mode && is_none h.giving) (nat_lt h.ver _) may))

module _ (s : Serving) (block : BlockId) where
  abbrev here : Held
  here = held_at s block

  abbrev NotHeld : Serving → Type 0
  NotHeld t = is_held (held_at t block).mode ≡ true → ⊥

  let_gone : is_held here.mode ≡ true → is_none here.value ≡ true → is_dirty here ≡ false → NotHeld (blocks_let_go s block)
  unfolding note_gone on_evict
  let_gone holds none clean =
      by_test NotHeld (is_none here.value) (note_gone t block) s (λ _. gone) (λ some. contrary (sym some ∙ none))
    where
      t : Serving
      t = record s { tokens = (on_evict s.tokens block).state }

      may : may_evict here ≡ true
      may = ap (λ (held : Bool). held && not (is_dirty here)) holds ∙ ap not clean

      evicted : NotHeld t
      evicted =
          by_test (λ (d : tokens.Done). is_held (held_of d.state.blocks block).mode ≡ true → ⊥) (may_evict (held_of s.tokens.blocks block))
          (still (with_held s.tokens block (let_go (held_of s.tokens.blocks block)))) (still s.tokens)
          (λ _ held. contrary (sym (ap (λ (g : Held). is_held g.mode) (held_of-put_itself block (let_go (held_of s.tokens.blocks block)) s.tokens.blocks)) ∙ held))
          (λ no. contrary (sym no ∙ may))

      gone : NotHeld (note_gone t block)
      gone = by_test NotHeld (is_nothing (held_of t.tokens.blocks block).mode) _ t (λ _. evicted) (λ _. evicted)

  changed_gone : (named : ℕ) (value : Option (List ℕ)) → (blocks_put_at s block named value).answer ≡ Some answers.Changed → is_none here.value ≡ true
      → is_dirty here ≡ false → NotHeld (blocks_put_at s block named value).done.state
  unfolding blocks_put_at blocks_change changes
  changed_gone named value =
      by_test Gone (may_write here) (puts_again s block named value) (blocks_need s block Own)
      (λ may. by_test Gone (here.ver == named) (blocks_change s block value) (changed s block)
      (λ _. by_test Gone (put_fits block (here.ver + 1) value) (changes s block value) (held_back s block) (λ _ clash. absurd cc) (λ _ clash. absurd cc))
      (λ _ _. let_gone (writable_held here may))) (λ _ clash. absurd cc)
    where
      Gone : Made → Type 0
      Gone m = m.answer ≡ Some answers.Changed → is_none here.value ≡ true → is_dirty here ≡ false → NotHeld m.done.state

-- what is answered leaves all that is held with a value
module _ (node : NodeId) (versions : BlockId → ℕ) (s : Serving) where
  abbrev Left : BlockCall → Made → BlockId → Type 0
  Left call m b = is_none (held_at s b).value ≡ true → is_dirty (held_at s b) ≡ false → writes_of b (tells_acts node s.lasting.number call m.answer) ≡ 0
      → is_held (held_at m.done.state b).mode ≡ true → ⊥

  abbrev one_if : Bool → ℕ
  one_if t = cond t 1 0

  wrote_none : (block b : BlockId) → block ≡ b → one_if (same_block block b) ≡ 0 → ⊥
  wrote_none block b same none =
      let one : one_if (same_block block b) ≡ 1 = ap (λ (c : BlockId). one_if (same_block block c)) (sym same) ∙ ap one_if (same_block_itself block) in
      absurd (omega arith)

  left : (call : BlockCall) (a : BlockAnswer) → IsAnswerTo call a → (blocks_make s call).answer ≡ Some a → (b : BlockId) → needed_by call ≡ Some (b, Own)
      → Left call (blocks_make s call) b
  unfolding blocks_make
  left (Get block) a fits made b need none clean unwritten held = copy_own block b need
  left Sync a fits made b need none clean unwritten held = absurd cc
  left (Put block value) (answers.Put ver) fits made b need none clean unwritten held =
      let same : block ≡ b = own_own block b need in
      wrote_none block b same
      (subst (λ (o : Option BlockAnswer). writes_of b (tells_acts node s.lasting.number (Put block value) o) ≡ 0) made unwritten)
  left (PutAt block named value) (answers.Put ver) fits made b need none clean unwritten held =
      let same : block ≡ b = own_own block b need in
      wrote_none block b same
      (subst (λ (o : Option BlockAnswer). writes_of b (tells_acts node s.lasting.number (PutAt block named value) o) ≡ 0) made unwritten)
  left (PutAt block named value) answers.Changed fits made b need none clean unwritten held =
      let same : block ≡ b = own_own block b need in
      subst
      (λ (c : BlockId). is_none (held_at s c).value ≡ true → is_dirty (held_at s c) ≡ false
      → is_held (held_at (blocks_put_at s block named value).done.state c).mode ≡ true → ⊥) same (changed_gone s block named value made) none clean held
  left (Put block value) (answers.Got ver v) fits made b need none clean unwritten held = fits
  left (Put block value) answers.Changed fits made b need none clean unwritten held = fits
  left (Put block value) answers.Synced fits made b need none clean unwritten held = fits
  left (PutAt block named value) (answers.Got ver v) fits made b need none clean unwritten held = fits
  left (PutAt block named value) answers.Synced fits made b need none clean unwritten held = fits

  pub made_whole : (call : BlockCall) (a : BlockAnswer) → IsAnswerTo call a → (blocks_make s call).answer ≡ Some a → Fresh versions (needed_by call) s
      → AllValued (blocks_make s call).done.state
  made_whole call a fits made fresh b held none =
      let was : WasSo (held_at s b) (held_at (blocks_make s call).done.state b) (writes_of b (tells_acts node s.lasting.number call (blocks_make s call).answer)) =
      makes_stay b node s call held none in
      let new = fresh b was.held was.none in
      left call a fits made b new.needed was.none new.clean was.unwritten held

-- what is read is held with a value
pub got_held : (versions : BlockId → ℕ) (s : Serving) (block : BlockId) (ver : ℕ) (value : Option (List ℕ)) → (blocks_get s block).answer ≡ Some (answers.Got ver value)
    → Fresh versions (Some (block, Copy)) s → IsHeldAfter (held_at (blocks_get s block).done.state block) ver 0
unfolding blocks_get
got_held versions s block ver value =
    by_test Read (is_nothing (held_at s block).mode) (blocks_need s block Copy) (got s block (held_at s block)) (λ _ clash. absurd cc)
    (λ something is fresh. record {
      held = some_held (held_at s block).mode something;
      valued = some_value (is_none (held_at s block).value) (held_at s block).value refl (fresh block (some_held (held_at s block).mode something));
      version = (let same : (held_at s block).ver ≡ ver = cc in omega arith);
    })
  where
    Read : Made → Type 0
    Read m = m.answer ≡ Some (answers.Got ver value) → Fresh versions (Some (block, Copy)) s → IsHeldAfter (held_at m.done.state block) ver 0

    some_held : (mode : Mode) → is_nothing mode ≡ false → is_held mode ≡ true
    some_held Nothing fact = contrary (sym fact)
    some_held Copy fact = refl
    some_held Own fact = refl

    some_value : (t : Bool) (o : Option (Option (List ℕ))) → is_none o ≡ t → (t ≡ true → IsNew versions (Some (block, Copy)) block (held_at s block)) → is_some o ≡ true
    some_value t (Some v) is new = refl
    some_value t None is new = absurd (copy_own block block (new (sym is)).needed)

-- ---- what is told that it has changed

-- the named version isn't the block's, or it is held at another
abbrev pub IsOther : (BlockId → ℕ) → (BlockId → Held) → BlockId → ℕ → ℕ → Type 0
IsOther versions now block named more = (named ≡ versions block → ⊥) ⊎ ((ver : ℕ) × ((named ≡ ver → ⊥) × IsHeldAfter (now block) ver more))

apart : (n m : ℕ) → (n == m) ≡ false → m ≡ n → ⊥
apart n m t = grind (arith, nat_tests)

pub changed_other : (versions : BlockId → ℕ) (s : Serving) (block : BlockId) (named : ℕ) (value : Option (List ℕ)) → Fresh versions (Some (block, Own)) s
    → (blocks_put_at s block named value).answer ≡ Some answers.Changed
    → IsOther versions (held_at (blocks_put_at s block named value).done.state) block named 0
unfolding blocks_put_at blocks_change changes
changed_other versions s block named value fresh =
    by_test Other (may_write (held_at s block)) (puts_again s block named value) (blocks_need s block Own)
    (λ may. by_test Other ((held_at s block).ver == named) (blocks_change s block value) (changed s block)
    (λ _. by_test Other (put_fits block ((held_at s block).ver + 1) value) (changes s block value) (held_back s block) (λ _ clash. absurd cc) (λ _ clash. absurd cc))
    (λ differs _. told may differs)) (λ _ clash. absurd cc)
  where
    h : Held
    h = held_at s block

    Other : Made → Type 0
    Other m = m.answer ≡ Some answers.Changed → IsOther versions (held_at m.done.state) block named 0

    some_value : (o : Option (Option (List ℕ))) → is_none o ≡ false → is_some o ≡ true
    some_value None fact = contrary (sym fact)
    some_value (Some v) fact = refl

    held : may_write h ≡ true → is_held h.mode ≡ true
    held may = writable_held h may

    told : may_write h ≡ true → (h.ver == named) ≡ false → IsOther versions (held_at (blocks_let_go s block)) block named 0
    told may differs =
        by_test (λ (t : Serving). IsOther versions (held_at t) block named 0) (is_none h.value) (note_gone (record s { tokens = (on_evict s.tokens block).state }) block) s
        (λ none. inl (λ same. apart h.ver named differs (same ∙ sym (fresh block (held may) none).ver)))
        (λ some. inr (h.ver, (apart h.ver named differs, record { held = held may; valued = some_value h.value some; version = omega arith })))
