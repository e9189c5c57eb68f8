-- The readings of the transitions, proved.
use Rattle.std.proofs.Common.{◌≡◌, ℕ, ◌+◌, Bool, true, false, cond, ◌&&◌, ◌==◌, List, [], ◌∷◌, Option, Some, None, is_some, is_none, refl, sym, ap, ◌∙◌, nat_lt}
use Rattle.xfs_base.specs.declared.block.BlockId.{BlockId}
use Rattle.xfs_base.specs.declared.entry.Entry.{Entry}
use Rattle.xfs_base.specs.declared.token.Mode.{Mode}
use Rattle.xfs_base.specs.declared.token.Mode.TheVariants.{Copy}
use Rattle.xfs_base.specs.declared.token.Stamp.{Stamp}
use Rattle.xfs_base.specs.Steps.{still, saying, steps}
use Rattle.xfs_base.proofs.StepLoops.{steps_keep}
use Rattle.xfs_base.specs.Stamps.{is_later}
use Rattle.xfs_base.proofs.Booleans.{contrary, by_test, and_second}
use Rattle.xfs_base.specs.Limits.{u32_end}
use Rattle.token_client.specs.declared.held.Held.{Held}
use Rattle.token_client.specs.declared.held.Wanted.{Wanted}
use Rattle.token_client.specs.declared.output.Out.TheVariants.{Want, Gave, Flush, Ready}
use Rattle.token_client.specs.Held.{is_wanted, is_answer, is_dirty, is_asking, held_ask, unfetched, take_grant, copy_of, quit, gives_after, put_off, give_up, drop_promised}
use Rattle.token_client.specs.Readings.{EndedWantTakesNothing, core_of, DirtyKeepsItsStamp, PromiseDrops, QuitEnds}
use Rattle.token_client.specs.State.{TokensState, held_of, with_held}
use Rattle.token_client.specs.Transition.{Done, tokens_ask, accepts, is_promised, grant_next, on_granted, on_supplied, refetch, give, can_refetch, recalled_above, was_answered, recalled_again, recalled, on_recalled, on_quit, fetched_blocks, raised, ask_copy, may_promise, on_promise}
use Rattle.token_client.proofs.Tables.{put_same, held_of-put_itself}
use Rattle.token_client.proofs.Promises.{dropped-known}

none_wanted : (w : Option Wanted) (req : ℕ) (mode : Mode) → is_none w ≡ true → is_wanted w req mode ≡ true → false ≡ true
none_wanted None req mode h t = t
none_wanted (Some w) req mode h t = h

-- without a want nothing is accepted
not_accepted : (s : TokensState) (block : BlockId) (stamp : Stamp) (inc req : ℕ) (mode : Mode) → is_none (held_of s.blocks block).want ≡ true
    → accepts s block stamp inc req mode ≡ true → false ≡ true
not_accepted s block stamp inc req mode h t =
    let g : Held = held_of s.blocks block in
    none_wanted g.want req mode h
    (and_first' (is_wanted g.want req mode) (is_later stamp g.stamp) (and_second (is_promised s block stamp && (inc == s.inc)) (is_answer g stamp req mode) t))
  where
    and_first' : (a b : Bool) → (a && b) ≡ true → a ≡ true
    and_first' true b e = refl
    and_first' false b e = e

granted-still : (s : TokensState) (block : BlockId) (stamp : Stamp) (inc req : ℕ) → is_none (held_of s.blocks block).want ≡ true → (mode : Mode) (entry : Entry)
    → on_granted s block stamp inc req mode entry ≡ still s
unfolding on_granted
granted-still s block stamp inc req h mode entry =
    by_test (λ (d : Done). d ≡ still s) (accepts s block stamp inc req mode)
    (record { state = with_held s block (take_grant (held_of s.blocks block) stamp mode entry); outs = grant_next block mode entry.place ∷ [] }) (still s)
    (λ t. contrary (not_accepted s block stamp inc req mode h t)) (λ t. refl)

supplied-still : (s : TokensState) (block : BlockId) (stamp : Stamp) (inc req : ℕ) → is_none (held_of s.blocks block).want ≡ true
    → (ver : ℕ) (value : Option (List ℕ)) → on_supplied s block stamp inc req ver value ≡ still s
unfolding on_supplied
supplied-still s block stamp inc req h ver value =
    by_test (λ (d : Done). d ≡ still s) (accepts s block stamp inc req Copy)
    (record { state = with_held s block (copy_of (held_of s.blocks block) stamp ver value); outs = Ready block ∷ [] }) (still s)
    (λ t. contrary (not_accepted s block stamp inc req Copy h t)) (λ t. refl)

pub ended_want_takes_nothing : EndedWantTakesNothing
ended_want_takes_nothing s block stamp inc req h = (granted-still s block stamp inc req h, supplied-still s block stamp inc req h)

-- the block in a state, but for what it asks and gives
abbrev core_in : TokensState → BlockId → Held
core_in s block = core_of (held_of s.blocks block)

ask-core : (s : TokensState) (block : BlockId) (mode : Mode) → core_in (tokens_ask s block mode).state block ≡ core_in s block
unfolding tokens_ask
ask-core s block mode =
    let g : Held = held_ask (held_of s.blocks block) (s.req + 1) mode in
    by_test (λ (d : Done). core_in d.state block ≡ core_in s block) (nat_lt s.req u32_end)
    (record { state = record (with_held s block g) { req = s.req + 1 }; outs = Want block (s.req + 1) 0 mode ∷ [] }) (still s)
    (λ t. put_same core_of block block g s.blocks refl) (λ t. refl)

refetch-core : (s : TokensState) (block : BlockId) → core_in (refetch s block).state block ≡ core_in s block
unfolding refetch
refetch-core s block =
    let h : Held = held_of s.blocks block in
    let dropped : TokensState = with_held s block (unfetched h) in
    by_test (λ (d : Done). core_in d.state block ≡ core_in s block) (is_some h.fetch) (tokens_ask dropped block Copy) (still s)
    (λ t. ask-core dropped block Copy ∙ put_same core_of block block (unfetched h) s.blocks refl) (λ t. refl)

put_off-core : (h : Held) (stamp : Stamp) (keep : Bool) → core_of (put_off h stamp keep) ≡ core_of h
put_off-core h stamp keep =
    by_test (λ (g : Held). core_of g ≡ core_of h) (gives_after h.giving stamp) h (record h { giving = Some (record { stamp = stamp; keep = keep }) })
    (λ t. refl) (λ t. refl)

give-core : (s : TokensState) (block : BlockId) (stamp : Stamp) (keep : Bool) → is_dirty (held_of s.blocks block) ≡ true
    → core_in (give s block stamp keep).state block ≡ core_in s block
unfolding give
give-core s block stamp keep dirty =
    let h : Held = held_of s.blocks block in
    by_test (λ (d : Done). core_in d.state block ≡ core_in s block) (is_dirty h)
    (record { state = with_held s block (put_off h stamp keep); outs = Flush block ∷ [] })
    (record { state = with_held s block (give_up h stamp keep); outs = Gave block stamp ∷ [] })
    (λ t. put_same core_of block block (put_off h stamp keep) s.blocks (put_off-core h stamp keep))
    (λ t. contrary (sym t ∙ dirty))

recalled_above-core : (s : TokensState) (block : BlockId) (stamp : Stamp) (keep : Bool) → is_dirty (held_of s.blocks block) ≡ true
    → core_in (recalled_above s block stamp keep).state block ≡ core_in s block
unfolding recalled_above
recalled_above-core s block stamp keep dirty =
    let one : Done = refetch s block in
    let same : core_in one.state block ≡ core_in s block = refetch-core s block in
    by_test (λ (d : Done). core_in d.state block ≡ core_in s block) (can_refetch s block) (saying one.outs (give one.state block stamp keep)) (still s)
    (λ t. give-core one.state block stamp keep (ap is_dirty same ∙ dirty) ∙ same) (λ t. refl)

recalled_again-core : (s : TokensState) (block : BlockId) (stamp : Stamp) → core_in (recalled_again s block stamp).state block ≡ core_in s block
unfolding recalled_again
recalled_again-core s block stamp =
    by_test (λ (d : Done). core_in d.state block ≡ core_in s block) (was_answered (held_of s.blocks block) stamp)
    (record { state = s; outs = Gave block stamp ∷ [] }) (still s) (λ t. refl) (λ t. refl)

recalled-core : (s : TokensState) (block : BlockId) (stamp : Stamp) (keep : Bool) → is_dirty (held_of s.blocks block) ≡ true
    → core_in (recalled s block stamp keep).state block ≡ core_in s block
unfolding recalled
recalled-core s block stamp keep dirty =
    by_test (λ (d : Done). core_in d.state block ≡ core_in s block) (is_later stamp (held_of s.blocks block).stamp) (recalled_above s block stamp keep)
    (recalled_again s block stamp)
    (λ t. recalled_above-core s block stamp keep dirty) (λ t. recalled_again-core s block stamp)

pub dirty_keeps_its_stamp : DirtyKeepsItsStamp
unfolding on_recalled
dirty_keeps_its_stamp s block stamp keep dirty =
    by_test (λ (d : Done). core_in d.state block ≡ core_in s block) (is_promised s block stamp) (recalled s block stamp keep) (still s)
    (λ t. recalled-core s block stamp keep dirty) (λ t. refl)

-- a block has neither a fetch nor a recall that is put off
abbrev IsDropped : TokensState → BlockId → Type 0
IsDropped s b = (is_none (held_of s.blocks b).fetch ≡ true) × (is_none (held_of s.blocks b).giving ≡ true)

ask-dropped : (s : TokensState) (block b : BlockId) → IsDropped s b → IsDropped (tokens_ask s block Copy).state b
unfolding tokens_ask
ask-dropped s block b h =
    let g : Held = held_ask (held_of s.blocks block) (s.req + 1) Copy in
    by_test (λ (d : Done). IsDropped d.state b) (nat_lt s.req u32_end)
    (record { state = record (with_held s block g) { req = s.req + 1 }; outs = Want block (s.req + 1) 0 Copy ∷ [] }) (still s)
    (λ t. (put_same (λ (k : Held). is_none k.fetch) b block g s.blocks refl ∙ h.0, put_same (λ (k : Held). is_none k.giving) b block g s.blocks refl ∙ h.1))
    (λ t. h)

pub promise_drops : PromiseDrops
unfolding on_promise
promise_drops s slot epoch block taken here =
    let h : Held = held_of s.blocks block in
    let now : held_of (raised s slot epoch).blocks block ≡ drop_promised h = dropped-known s slot block ∙ ap (λ t. cond t (drop_promised h) h) here in
    let start : IsDropped (raised s slot epoch) block = (ap (λ (g : Held). is_none g.fetch) now, ap (λ (g : Held). is_none g.giving) now) in
    by_test (λ (d : Done). IsDropped d.state block) (may_promise s slot epoch) (steps ask_copy (raised s slot epoch) (fetched_blocks slot s.blocks)) (still s)
    (λ t. steps_keep ask_copy (λ u. IsDropped u block) (λ u b. ask-dropped u b block) (raised s slot epoch) (fetched_blocks slot s.blocks) start)
    (λ t. contrary (sym t ∙ taken))

pub quit_ends : QuitEnds
unfolding on_quit
quit_ends s block =
    let h : Held = held_of s.blocks block in
    by_test (λ (d : Done). is_asking (held_of d.state.blocks block) ≡ false) (is_asking h) (still (with_held s block (quit h))) (still s)
    (λ t. ap is_asking (held_of-put_itself block (quit h) s.blocks)) (λ t. t)
