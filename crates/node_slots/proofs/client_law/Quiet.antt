-- What inputs leave of a client's tokens that neither give nor take a block: only what is asked for changes, and puts-off may be dropped.
use Rattle.std.proofs.Common.{◌≡◌, ℕ, ◌+◌, true, false, List, [], ◌∷◌, Option, Some, None, is_some, refl, sym, subst, ◌∙◌, nat_lt}
use Rattle.std.specs.List.{AllByRecursion, list_any}
use Rattle.std.specs.Map.{values_of}
use Rattle.xfs_base.specs.declared.block.BlockId.{BlockId}
use Rattle.xfs_base.specs.declared.token.Mode.{Mode}
use Rattle.xfs_base.specs.declared.token.Mode.TheVariants.{Copy}
use Rattle.xfs_base.specs.declared.token.Stamp.{Stamp}
use Rattle.xfs_base.specs.Stamps.{is_later}
use Rattle.xfs_base.specs.Steps.{still, steps}
use Rattle.xfs_base.proofs.Booleans.{by_test, contrary}
use Rattle.xfs_base.proofs.Orders.{not_later_itself, not_later_through}
use Rattle.xfs_base.specs.Limits.{u32_end}
use Rattle.xfs_base.proofs.Alls.{all_append}
use Rattle.token_client.specs.declared.held.Held.{Held}
use Rattle.token_client.specs.declared.held.Wanted.{Wanted}
use Rattle.token_client.specs.declared.output.Out.{Out}
use Rattle.token_client.specs.declared.output.Out.TheVariants.{Want, Flush, Read, Ready}
use Rattle.token_client.specs.Held.{held_ask, asked_again, is_asking, must_ask, drop_promised, quit, unfetched}
use Rattle.token_client.specs.State.{TokensState, held_of, is_in_slot, with_held}
use Rattle.token_client.specs.Transition.{Done, tokens_ask, ask_again, ask_copy, drop_in, fetched_blocks, is_spent, may_promise, on_forwarded, on_need, on_promise, on_quit, on_reask, on_tick, raised, refetch, repeated, serves, supplies, wanted_blocks}
use Rattle.token_client.proofs.Promises.{dropped-known}
use Rattle.token_client.proofs.Tables.{put_each, put_same}

-- the same mode and the same versions, a stamp that didn't fall, and no recall put off that was not
pub record IsSame (h g : Held) : Type 0 where
  pub mode : g.mode ≡ h.mode
  pub ver : g.ver ≡ h.ver
  pub settled : g.settled ≡ h.settled
  pub stamp : is_later h.stamp g.stamp ≡ false
  pub giving : is_some g.giving ≡ true → is_some h.giving ≡ true

abbrev pub IsQuiet : TokensState → TokensState → Type 0
IsQuiet s t = (b : BlockId) → IsSame (held_of s.blocks b) (held_of t.blocks b)

-- has the client neither seal nor read, nor cache
abbrev pub IsSilent : Out → Type 0
IsSilent (Flush block) = ⊥
IsSilent (Read block place) = ⊥
IsSilent (Ready block) = ⊥
IsSilent _ = Unit {0}

pub record GoesQuietly (s : TokensState) (d : Done) : Type 0 where
  pub quiet : IsQuiet s d.state
  pub silent : AllByRecursion IsSilent d.outs

same_itself : (h : Held) → IsSame h h
same_itself h = record { mode = refl; ver = refl; settled = refl; stamp = not_later_itself h.stamp; giving = λ t. t }

same_through : (h g f : Held) → IsSame h g → IsSame g f → IsSame h f
same_through h g f p q = record {
  mode = q.mode ∙ p.mode;
  ver = q.ver ∙ p.ver;
  settled = q.settled ∙ p.settled;
  stamp = not_later_through h.stamp g.stamp f.stamp p.stamp q.stamp;
  giving = λ t. p.giving (q.giving t);
}

pub quiet_itself : (s : TokensState) → IsQuiet s s
quiet_itself s b = same_itself (held_of s.blocks b)

pub quiet_through : (s t u : TokensState) → IsQuiet s t → IsQuiet t u → IsQuiet s u
quiet_through s t u p q b = same_through (held_of s.blocks b) (held_of t.blocks b) (held_of u.blocks b) (p b) (q b)

-- one block is put that is the same
pub quiet_put : (s : TokensState) (block : BlockId) (g : Held) → IsSame (held_of s.blocks block) g → IsQuiet s (with_held s block g)
quiet_put s block g same = put_each (λ b h. IsSame (held_of s.blocks b) h) block g s.blocks same (λ b. same_itself (held_of s.blocks b))

pub quiet_still : (s : TokensState) → GoesQuietly s (still s)
quiet_still s = record { quiet = quiet_itself s; silent = tt }

pub quiet_steps : {A : Type 0} (step : TokensState → A → Done) → ((s : TokensState) (x : A) → GoesQuietly s (step s x)) → (s : TokensState) (xs : List A)
    → GoesQuietly s (steps step s xs)
quiet_steps step one s [] = quiet_still s
quiet_steps step one s (x ∷ xs) =
    let t : TokensState = (step s x).state in
    let first : GoesQuietly s (step s x) = one s x in
    let rest : GoesQuietly t (steps step t xs) = quiet_steps step one t xs in
    record {
      quiet = quiet_through s t (steps step t xs).state first.quiet rest.quiet;
      silent = all_append IsSilent (step s x).outs (steps step t xs).outs first.silent rest.silent;
    }

-- ---- each input

pub ask-quiet : (s : TokensState) (block : BlockId) (mode : Mode) → GoesQuietly s (tokens_ask s block mode)
unfolding tokens_ask
ask-quiet s block mode =
    let h : Held = held_of s.blocks block in
    let g : Held = held_ask h (s.req + 1) mode in
    by_test (GoesQuietly s) (nat_lt s.req u32_end)
    (record { state = record (with_held s block g) { req = s.req + 1 }; outs = Want block (s.req + 1) 0 mode ∷ [] }) (still s)
    (λ t. record {
      quiet = quiet_put s block g (record { mode = refl; ver = refl; settled = refl; stamp = not_later_itself h.stamp; giving = λ x. x });
      silent = (tt, tt);
    }) (λ t. quiet_still s)

pub on_need-quiet : (s : TokensState) (block : BlockId) (mode : Mode) → GoesQuietly s (on_need s block mode)
unfolding on_need
on_need-quiet s block mode =
    by_test (GoesQuietly s) (must_ask (held_of s.blocks block) mode) (tokens_ask s block mode) (still s) (λ t. ask-quiet s block mode) (λ t. quiet_still s)

pub on_reask-quiet : (s : TokensState) (block : BlockId) → GoesQuietly s (on_reask s block)
unfolding on_reask
on_reask-quiet s block =
    by_test (GoesQuietly s) (is_some (held_of s.blocks block).fetch) (tokens_ask s block Copy) (still s) (λ t. ask-quiet s block Copy) (λ t. quiet_still s)

pub on_quit-quiet : (s : TokensState) (block : BlockId) → GoesQuietly s (on_quit s block)
unfolding on_quit
on_quit-quiet s block =
    let h : Held = held_of s.blocks block in
    by_test (GoesQuietly s) (is_asking h) (still (with_held s block (quit h))) (still s)
    (λ t. record {
      quiet = quiet_put s block (quit h)
          (record { mode = refl; ver = refl; settled = refl; stamp = not_later_itself h.stamp; giving = λ x. x });
      silent = tt;
    })
    (λ t. quiet_still s)

pub on_forwarded-quiet : (s : TokensState) (block : BlockId) (stamp : Stamp) (ver : ℕ) → GoesQuietly s (on_forwarded s block stamp ver)
unfolding on_forwarded
on_forwarded-quiet s block stamp ver =
    let value : Option (Option (List ℕ)) = (held_of s.blocks block).value in
    by_test (GoesQuietly s) (serves s block stamp ver) (record { state = s; outs = supplies block ver value }) (still s)
    (λ t. record { quiet = quiet_itself s; silent = supplied value }) (λ t. quiet_still s)
  where
    supplied : (value : Option (Option (List ℕ))) → AllByRecursion IsSilent (supplies block ver value)
    supplied None = tt
    supplied (Some value) = (tt, tt)

-- a fetch is dropped, and its call wants again
pub refetch-quiet : (s : TokensState) (block : BlockId) → GoesQuietly s (refetch s block)
unfolding refetch
refetch-quiet s block =
    let h : Held = held_of s.blocks block in
    let dropped : TokensState = with_held s block (unfetched h) in
    let first : IsQuiet s dropped =
    quiet_put s block (unfetched h) (record { mode = refl; ver = refl; settled = refl; stamp = not_later_itself h.stamp; giving = λ x. x }) in
    let second : GoesQuietly dropped (tokens_ask dropped block Copy) = ask-quiet dropped block Copy in
    by_test (GoesQuietly s) (is_some h.fetch) (tokens_ask dropped block Copy) (still s)
    (λ t. record { quiet = quiet_through s dropped (tokens_ask dropped block Copy).state first second.quiet; silent = second.silent }) (λ t. quiet_still s)

ask-stamp : (s : TokensState) (block : BlockId) (mode : Mode) → (held_of (tokens_ask s block mode).state.blocks block).stamp ≡ (held_of s.blocks block).stamp
unfolding tokens_ask
ask-stamp s block mode =
    let g : Held = held_ask (held_of s.blocks block) (s.req + 1) mode in
    by_test (λ (d : Done). (held_of d.state.blocks block).stamp ≡ (held_of s.blocks block).stamp) (nat_lt s.req u32_end)
    (record { state = record (with_held s block g) { req = s.req + 1 }; outs = Want block (s.req + 1) 0 mode ∷ [] }) (still s)
    (λ t. put_same (λ (f : Held). f.stamp) block block g s.blocks refl) (λ t. refl)

-- it has its stamp still
pub refetch-stamp : (s : TokensState) (block : BlockId) → (held_of (refetch s block).state.blocks block).stamp ≡ (held_of s.blocks block).stamp
unfolding refetch
refetch-stamp s block =
    let h : Held = held_of s.blocks block in
    let dropped : TokensState = with_held s block (unfetched h) in
    by_test (λ (d : Done). (held_of d.state.blocks block).stamp ≡ h.stamp) (is_some h.fetch) (tokens_ask dropped block Copy) (still s)
    (λ t. ask-stamp dropped block Copy ∙ put_same (λ (f : Held). f.stamp) block block (unfetched h) s.blocks refl) (λ t. refl)

ask_again-quiet : (s : TokensState) (block : BlockId) → GoesQuietly s (ask_again s block)
unfolding ask_again
ask_again-quiet s block =
    let want : Option Wanted = (held_of s.blocks block).want in
    by_test (GoesQuietly s) (is_spent want) (still s) (repeated s block want) (λ t. quiet_still s) (λ t. again want)
  where
    again : (w : Option Wanted) → GoesQuietly s (repeated s block w)
    again None = quiet_still s
    again (Some w) = record {
      quiet = quiet_put s block (asked_again (held_of s.blocks block) w)
          (record { mode = refl; ver = refl; settled = refl; stamp = not_later_itself (held_of s.blocks block).stamp; giving = λ x. x });
      silent = (tt, tt);
    }

pub on_tick-quiet : (s : TokensState) → GoesQuietly s (on_tick s)
unfolding on_tick
on_tick-quiet s =
    by_test (GoesQuietly s) (list_any (λ h. is_spent h.want) (values_of s.blocks)) (still s) (steps ask_again s (wanted_blocks s.blocks)) (λ t. quiet_still s)
    (λ t. quiet_steps ask_again ask_again-quiet s (wanted_blocks s.blocks))

dropped-same : (s : TokensState) (slot : ℕ) (b : BlockId) → IsSame (held_of s.blocks b) (drop_in slot b (held_of s.blocks b))
dropped-same s slot b =
    let h : Held = held_of s.blocks b in
    by_test (IsSame h) (is_in_slot slot b) (drop_promised h) h
    (λ t. record { mode = refl; ver = refl; settled = refl; stamp = not_later_itself h.stamp; giving = λ x. contrary x })
    (λ t. same_itself h)

pub on_promise-quiet : (s : TokensState) (slot epoch : ℕ) → GoesQuietly s (on_promise s slot epoch)
unfolding on_promise
on_promise-quiet s slot epoch =
    let risen : TokensState = raised s slot epoch in
    let first : IsQuiet s risen = λ b. subst (IsSame (held_of s.blocks b)) (sym (dropped-known s slot b)) (dropped-same s slot b) in
    let second : GoesQuietly risen (steps ask_copy risen (fetched_blocks slot s.blocks)) =
    quiet_steps ask_copy (λ t b. ask-quiet t b Copy) risen (fetched_blocks slot s.blocks) in
    by_test (GoesQuietly s) (may_promise s slot epoch) (steps ask_copy risen (fetched_blocks slot s.blocks)) (still s)
    (λ t. record { quiet = quiet_through s risen (steps ask_copy risen (fetched_blocks slot s.blocks)).state first second.quiet; silent = second.silent })
    (λ t. quiet_still s)
