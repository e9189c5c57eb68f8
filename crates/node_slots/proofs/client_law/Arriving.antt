-- A block arrives: what a grant, a supply or what was read makes of a client that asks for its call, in terms of a fact that is kept.
use Rattle.std.proofs.Common.{◌≡◌, ◌⊎◌, inl, inr, ℕ, Bool, true, false, ◌&&◌, ◌==◌, not, nat_lt, List, [], ◌∷◌, Option, Some, None, is_some, is_none, refl, sym, ap, subst, ◌∙◌, arith}
use Rattle.std.proofs.lemmas.Bool.Decides.{nat_tests}
use Rattle.client_call.specs.Reads.{kept_while, reading_in, same_target, target_of}
use Rattle.client_serving.specs.declared.serving.Serving.{Serving}
use Rattle.client_serving.specs.Flights.{held_at}
use Rattle.client_serving.specs.Follow.{serving_follow, follow_one, note_clean, note_copy}
use Rattle.client_serving.specs.Reads.{ask_after, begin_reading, begins_over, go_on_reading, serving_confirm, drawn_after, ends_reading, group_in, loses, lose_at, serving_read, reads_over, with_reading}
use Rattle.client_serving.specs.Sends as client
use Rattle.group_map.specs.declared.group.Group.{Group}
use Rattle.group_map.specs.GroupMapState.{GroupMapState}
use Rattle.node_base.specs.Room.{has_long_room}
use Rattle.segment_reading.specs.declared.reading.Next.{Next}
use Rattle.segment_reading.specs.declared.reading.Next.TheVariants as next
use Rattle.segment_reading.specs.declared.reading.Stage.{Stage}
use Rattle.segment_reading.specs.declared.reading.Stage.TheVariants.{Asking, Between, Doubted, Over}
use Rattle.segment_reading.specs.declared.target.BlockAt.{BlockAt}
use Rattle.segment_reading.specs.declared.target.Target.{Target}
use Rattle.segment_reading.specs.Reading.{ReadingState, on_confirmed}
use Rattle.token_client.specs.declared.held.Fetch.{Fetch}
use Rattle.token_client.specs.declared.held.Held.{Held}
use Rattle.token_client.specs.declared.held.Wanted.{Wanted}
use Rattle.token_client.specs.declared.output.Out.TheVariants.{Ready}
use Rattle.token_client.specs.Held.{copy_of, take_copy, end_fetch, fetch_from, is_answer, is_asking, is_wanted, may_end_fetch, may_write, held_own}
use Rattle.token_client.specs.State.{TokensState, held_of, with_held}
use Rattle.token_client.specs.Transition.{Done, accepts, copy_next, is_promised, on_fetched, on_granted, on_supplied, on_quit}
use Rattle.token_client.proofs.SoundBlocks.{asks_by_fetch, asks_by_want}
use Rattle.token_client.proofs.Tables.{held_of-put_itself}
use Rattle.xfs_base.specs.declared.block.BlockId.{BlockId}
use Rattle.xfs_base.specs.declared.entry.Entry.{Entry}
use Rattle.xfs_base.specs.declared.entry.Place.{Place}
use Rattle.xfs_base.specs.declared.segment.SegName.{SegName}
use Rattle.xfs_base.specs.declared.token.Mode.{Mode}
use Rattle.xfs_base.specs.declared.token.Mode.TheVariants.{Nothing, Copy, Own}
use Rattle.xfs_base.specs.declared.token.Stamp.{Stamp}
use Rattle.xfs_base.specs.Modes.{allows, is_held, is_own, same_mode}
use Rattle.xfs_base.specs.Steps.{still}
use Rattle.xfs_base.specs.Stamps.{is_later}
use Rattle.xfs_base.proofs.Booleans.{and_first, and_second, by_test, contrary}
use Rattle.xfs_base.proofs.Orders.{not_later_back, not_later_itself}
use Rattle.xfs_base.specs.Limits.{u64_end}
use Rattle.node_slots.specs.node_tie.Asks.{AsksForCall, needed}
use Rattle.node_slots.proofs.node_tie.AsksBlock.{Need, WantSuits}
use Rattle.node_slots.proofs.node_tie.AsksFollow.{set_reading-step}
use Rattle.node_slots.proofs.node_tie.AsksFrames.{asks_as, needed_same}
use Rattle.node_slots.proofs.node_tie.AsksInputs.{AsksAs}
use Rattle.node_slots.proofs.node_tie.AsksTokens.{answers_want}
use Rattle.node_slots.proofs.client_law.Keeping.{At, Fact, IsCopied, Keeps, told}
use Rattle.node_slots.proofs.client_law.Quiet.{on_quit-quiet, quiet_put}

-- ---- modes

same_exact : (a b : Mode) → same_mode a b ≡ true → a ≡ b
same_exact Nothing Nothing h = refl
same_exact Nothing Copy h = contrary h
same_exact Nothing Own h = contrary h
same_exact Copy Nothing h = contrary h
same_exact Copy Copy h = refl
same_exact Copy Own h = contrary h
same_exact Own Nothing h = contrary h
same_exact Own Copy h = contrary h
same_exact Own Own h = refl

pub unheld_is_nothing : (mode : Mode) → is_held mode ≡ false → mode ≡ Nothing
unheld_is_nothing Nothing h = refl
unheld_is_nothing Copy h = contrary (sym h)
unheld_is_nothing Own h = contrary (sym h)

-- a want that an answer is for is needed, in the answer's mode, which is above what is held
wanted_as : (n : Need) (block : BlockId) (low : Mode) (w : Option Wanted) (req : ℕ) (mode : Mode) → WantSuits n block low w → is_wanted w req mode ≡ true
    → (n ≡ Some (block, mode)) × (allows low mode ≡ false)
wanted_as n block low None req mode p h = contrary h
wanted_as n block low (Some w) req mode p h =
    subst (λ m. (n ≡ Some (block, m)) × (allows low m ≡ false)) (same_exact w.mode mode (and_second (w.req == req) (same_mode w.mode mode) h)) p

some_want : (w : Option Wanted) (req : ℕ) (mode : Mode) → is_wanted w req mode ≡ true → is_some w ≡ true
some_want None req mode h = contrary h
some_want (Some w) req mode h = refl

-- ---- what was just granted to be written

-- the open call needs to write the block, may, and nothing was written yet
pub record IsFresh (Q : BlockId → Fact) (s : Serving) : Type 0 where
  pub block : BlockId
  pub fact : At (Q block) s
  pub needs : needed s.call ≡ Some (block, Own)
  pub may : may_write (held_at s block) ≡ true
  pub empty : is_none (held_at s block).value ≡ true

module _ (A : BlockId → Type 0) (M : GroupMapState → Type 0) (B : Fact) (P : ℕ → Fact) (Q : BlockId → Fact) (k : Keeps A M B P Q) where
  -- the fact is kept, or a block was just granted to be written
  abbrev pub KeptOrFresh : Serving → Type 0
  KeptOrFresh s = At (P 0) s ⊎ IsFresh Q s

  pub lessens : (s : Serving) → At (P 1) s → At (P 0) s
  lessens s p = k.less s.tokens s.log s.cache p

  -- ---- reading

  pub loses-keeps : (n : ℕ) (s : Serving) (block : BlockId) (seg : SegName) → At (P n) s → At (P n) (loses s block seg).state
  unfolding loses
  loses-keeps n s block seg p = (k.takes n).quiet s.tokens (on_quit s.tokens block).state s.log s.cache (on_quit-quiet s.tokens block).quiet p

  module _ (n : ℕ) where
    lose_at-keeps : (s : Serving) (at : Option BlockAt) (seg : SegName) → At (P n) s → At (P n) (lose_at s at seg).state
    lose_at-keeps s None seg p = p
    lose_at-keeps s (Some at) seg p = loses-keeps n s at.block seg p

    go_on_reading-keeps : (s : Serving) (r : ReadingState) (m : Next) → At (P n) s → At (P n) (go_on_reading s r m).state
    go_on_reading-keeps s r next.Lost p = lose_at-keeps s r.target.block r.target.seg.name p
    go_on_reading-keeps s r _ p = p

    drawn_after-keeps : (s : Serving) (stage : Stage) → At (P n) s → At (P n) (drawn_after s stage)
    drawn_after-keeps s Between p = p
    drawn_after-keeps s Asking p = p
    drawn_after-keeps s Doubted p = p
    drawn_after-keeps s Over p = p

    serving_confirm-keeps : (s : Serving) (r : ReadingState) → At (P n) s → At (P n) (serving_confirm s r).state
    unfolding serving_confirm
    serving_confirm-keeps s r p =
        let asked = on_confirmed r (ask_after s r.ask r.stage) in
        go_on_reading-keeps (drawn_after s r.stage) asked.state asked.next (drawn_after-keeps s r.stage p)

    begins_over-keeps : (s : Serving) (target : Target) (group : Option Group) → At (P n) s → At (P n) (begins_over s target group).state
    begins_over-keeps s target None p = p
    begins_over-keeps s target (Some group) p = p

    begin_reading-keeps : (s : Serving) (target : Target) → At (P n) s → At (P n) (begin_reading s target).state
    unfolding begin_reading
    begin_reading-keeps s target p = begins_over-keeps s target (group_in s.maps.groups target.seg.group) p

    reads_over-keeps : (s : Serving) (target : Target) (r : Option ReadingState) → At (P n) s → At (P n) (reads_over s target r).state
    reads_over-keeps s target None p = begin_reading-keeps s target p
    reads_over-keeps s target (Some r) p =
        by_test (λ (d : client.Done). At (P n) d.state) (same_target r.target target) (serving_confirm s r) (begin_reading s target) (λ t. serving_confirm-keeps s r p)
        (λ t. begin_reading-keeps s target p)

    pub serving_read-keeps : (s : Serving) (block : BlockId) (place : Place) → At (P n) s → At (P n) (serving_read s block place).state
    unfolding serving_read
    serving_read-keeps s block place p =
        by_test (λ (d : client.Done). At (P n) d.state) (is_none s.call) (still s)
        (reads_over (with_reading s None) (target_of block place) (reading_in s.call)) (λ t. p)
        (λ t. reads_over-keeps (with_reading s None) (target_of block place) (reading_in s.call) p)

  -- ---- what arrives

  module _ (s : Serving) (asks : AsksForCall s) (p : At (P 1) s) (block : BlockId) where
    abbrev h : Held
    h = held_at s block

    abbrev a : AsksAs (needed s.call) s.tokens
    a = asks_as s asks

    -- the client, with this known of the block
    abbrev with_block : Held → Serving
    with_block g = ends_reading (record s { tokens = with_held s.tokens block g })

    stays : At (P 1) (told s (still s.tokens)).state
    unfolding serving_follow
    stays = p

    copy-arrives : (g : Held) → A block → IsCopied h g → At (P 1) (told s (record { state = with_held s.tokens block g; outs = Ready block ∷ [] })).state
    unfolding serving_follow follow_one note_copy
    copy-arrives g may premise =
        let t : TokensState = with_held s.tokens block g in
        let u : Serving = with_block g in
        by_test (At (P 1)) (same_mode (held_of t.blocks block).mode Copy) (note_clean u block) u
        (λ x. k.copies (with_reading s (kept_while t (reading_in s.call))) block g may asks.sound premise p)
        (λ x. contrary (sym x ∙ ap (λ (f : Held). same_mode f.mode Copy) (held_of-put_itself block g s.tokens.blocks)
        ∙ ap (λ m. same_mode m Copy) premise.mode))

    module _ (stamp : Stamp) (inc req : ℕ) where
      answered : (mode : Mode) → accepts s.tokens block stamp inc req mode ≡ true → is_wanted h.want req mode ≡ true
      answered mode t = answers_want (needed s.call) s.tokens a.sound a.suits block stamp inc req mode t

      asked : (mode : Mode) → accepts s.tokens block stamp inc req mode ≡ true → is_asking h ≡ true
      asked mode t = asks_by_want h (some_want h.want req mode (answered mode t))

      needs_it : (mode : Mode) → accepts s.tokens block stamp inc req mode ≡ true → (needed s.call ≡ Some (block, mode)) × (allows h.mode mode ≡ false)
      needs_it mode t = wanted_as (needed s.call) block h.mode h.want req mode (a.suits block).want (answered mode t)

      rises : (mode : Mode) → accepts s.tokens block stamp inc req mode ≡ true → is_later h.stamp stamp ≡ false
      rises mode t =
          not_later_back h.stamp stamp
          (and_second (is_wanted h.want req mode) (is_later stamp h.stamp)
          (and_second (is_promised s.tokens block stamp && (inc == s.tokens.inc)) (is_answer h stamp req mode) t))

      unheld : accepts s.tokens block stamp inc req Copy ≡ true → h.mode ≡ Nothing
      unheld t = unheld_is_nothing h.mode (needs_it Copy t).1

      pub supplied-keeps : A block → (ver : ℕ) (value : Option (List ℕ)) → At (P 1) (told s (on_supplied s.tokens block stamp inc req ver value)).state
      unfolding on_supplied
      supplied-keeps may ver value =
          by_test (λ (d : Done). At (P 1) (told s d).state) (accepts s.tokens block stamp inc req Copy)
          (record { state = with_held s.tokens block (copy_of h stamp ver value); outs = Ready block ∷ [] }) (still s.tokens)
          (λ t. copy-arrives (copy_of h stamp ver value) may
          (record { asks = asked Copy t; unheld = unheld t; mode = refl; clean = refl; stamp = rises Copy t; giving = refl }))
          (λ t. stays)

      -- ---- a grant

      fetched-same : (ver : ℕ) (place : Place) → h.mode ≡ Nothing → is_later h.stamp stamp ≡ false → At (P 1) (with_block (fetch_from h stamp ver place))
      fetched-same ver place nothing above =
          let g : Held = fetch_from h stamp ver place in
          (k.takes 1).quiet s.tokens (with_held s.tokens block g) s.log s.cache
          (quiet_put s.tokens block g (record { mode = sym nothing; ver = refl; settled = refl; stamp = above; giving = λ x. x })) p

      granted_copy : A block → (entry : Entry) → At (P 1) (told s (on_granted s.tokens block stamp inc req Copy entry)).state
      unfolding on_granted serving_follow follow_one
      granted_copy arrives entry =
          by_test (λ (d : Done). At (P 1) (told s d).state) (accepts s.tokens block stamp inc req Copy) _ (still s.tokens) (λ t. placed t entry.place)
          (λ t. stays)
        where
          placed : accepts s.tokens block stamp inc req Copy ≡ true → (place : Option Place)
              → At (P 1) (told s (record { state = with_held s.tokens block (take_copy h stamp entry.ver place); outs = copy_next block place ∷ [] })).state
          placed t None =
              copy-arrives (copy_of h stamp entry.ver None) arrives
              (record { asks = asked Copy t; unheld = unheld t; mode = refl; clean = refl; stamp = rises Copy t; giving = refl })
          placed t (Some place) = serving_read-keeps 1 (with_block (fetch_from h stamp entry.ver place)) block place
              (fetched-same entry.ver place (unheld t) (rises Copy t))

      granted_own : A block → (entry : Entry) → has_long_room entry.ver ≡ true → KeptOrFresh (told s (on_granted s.tokens block stamp inc req Own entry)).state
      unfolding on_granted serving_follow follow_one note_copy
      granted_own arrives entry room =
          let g : Held = held_own h stamp entry.ver in
          by_test (λ (d : Done). KeptOrFresh (told s d).state) (accepts s.tokens block stamp inc req Own)
          (record { state = with_held s.tokens block g; outs = Ready block ∷ [] }) (still s.tokens) (λ t. owned_now t)
          (λ t. inl (lessens (told s (still s.tokens)).state stays))
        where
          owned_now : accepts s.tokens block stamp inc req Own ≡ true
              → KeptOrFresh (told s (record { state = with_held s.tokens block (held_own h stamp entry.ver); outs = Ready block ∷ [] })).state
          owned_now t =
              let g : Held = held_own h stamp entry.ver in
              let u : TokensState = with_held s.tokens block g in
              let now : held_of u.blocks block ≡ g = held_of-put_itself block g s.tokens.blocks in
              let ungiven : is_none h.giving ≡ true = (asks.sound.each block).asks_ungiven (asked Own t) in
              let below : nat_lt entry.ver u64_end ≡ true = grind (arith, nat_tests) in
              by_test KeptOrFresh (same_mode (held_of u.blocks block).mode Copy) (note_clean (with_block g) block) (with_block g)
              (λ x. contrary (sym (ap (λ (f : Held). same_mode f.mode Copy) now) ∙ x))
              (λ x. inr (record {
                block = block;
                fact = k.owns s.tokens s.log s.cache block g arrives asks.sound
                    (record { asks = asked Own t; mode = refl; clean = refl; stamp = rises Own t; giving = refl }) p;
                needs = needed_same (with_block g).call s.call (set_reading-step s.call (kept_while u (reading_in s.call))) ∙ (needs_it Own t).0;
                may = ap may_write now ∙ ap (λ b. b && nat_lt entry.ver u64_end) ungiven ∙ below;
                empty = ap (λ (f : Held). is_none f.value) now;
              }))

      pub granted-keeps : A block → (mode : Mode) (entry : Entry) → (is_own mode && not (has_long_room entry.ver)) ≡ false
          → KeptOrFresh (told s (on_granted s.tokens block stamp inc req mode entry)).state
      unfolding on_granted
      granted-keeps arrives Copy entry room = inl (lessens (told s (on_granted s.tokens block stamp inc req Copy entry)).state (granted_copy arrives entry))
      granted-keeps arrives Own entry room = granted_own arrives entry (not_false (has_long_room entry.ver) room)
        where
          not_false : (b : Bool) → not b ≡ false → b ≡ true
          not_false true h = refl
          not_false false h = contrary (sym h)
      granted-keeps arrives Nothing entry room = inl (lessens (told s (on_granted s.tokens block stamp inc req Nothing entry)).state none)
        where
          none : At (P 1) (told s (on_granted s.tokens block stamp inc req Nothing entry)).state
          none =
              by_test (λ (d : Done). At (P 1) (told s d).state) (accepts s.tokens block stamp inc req Nothing) _ (still s.tokens)
              (λ t. contrary (sym (needs_it Nothing t).1)) (λ t. stays)

    -- ---- what was read

    ended-copied : (f : Option Fetch) (value : Option (List ℕ)) → is_some f ≡ true → is_asking h ≡ true → h.mode ≡ Nothing → IsCopied h (end_fetch h f value)
    ended-copied None value some asking nothing = contrary some
    ended-copied (Some f) value some asking nothing =
        record { asks = asking; unheld = nothing; mode = refl; clean = refl; stamp = not_later_itself h.stamp; giving = refl }

    pub fetched-keeps : (may_end_fetch h ≡ true → A block) → (value : Option (List ℕ)) → At (P 1) (told s (on_fetched s.tokens block value)).state
    unfolding on_fetched
    fetched-keeps may value =
        let fetching : may_end_fetch h ≡ true → is_some h.fetch ≡ true = and_first (is_some h.fetch) (is_none h.want) in
        by_test (λ (d : Done). At (P 1) (told s d).state) (may_end_fetch h)
        (record { state = with_held s.tokens block (end_fetch h h.fetch value); outs = Ready block ∷ [] }) (still s.tokens)
        (λ t. copy-arrives (end_fetch h h.fetch value) (may t)
        (ended-copied h.fetch value (fetching t) (asks_by_fetch h (fetching t)) (unheld_is_nothing h.mode ((asks.sound.each block).fetch_unheld (fetching t)))))
        (λ t. stays)
