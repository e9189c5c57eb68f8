-- What a client that serves does for its tokens and its log is made of moves that aren't for its open call.
use Rattle.std.proofs.Common.{ℕ, ◌==◌, ◌&&◌, not, Bool, List, [], ◌∷◌, append-nil, Option, Some, None, is_none, subst}
use Rattle.std.specs.List.{AllByRecursion, list_any}
use Rattle.std.specs.Prelude.{flat_map, fold}
use Rattle.client_log.specs.declared.input.In.{In as LogIn}
use Rattle.client_log.specs.declared.input.In.TheVariants as log_in
use Rattle.client_log.specs.declared.output.Out.{Out as LogOut}
use Rattle.client_log.specs.declared.output.Out.TheVariants as log_out
use Rattle.client_log.specs.Transition as log
use Rattle.client_running.specs.Blocks.{blocks_let_go, put_of, wrote}
use Rattle.client_serving.specs.declared.serving.Serving.{Serving}
use Rattle.client_serving.specs.Flights.{feeds, give_if_clean, gives_up, held_at, keep_row, notes_settled, seals_again, serving_settle, serving_write, settle_rows, write_one}
use Rattle.client_serving.specs.Follow.{evicts, follow_one, hand, note_clean, note_copy, note_gone, serving_follow, serving_seal, take_back}
use Rattle.client_serving.specs.Lasting.{log_of}
use Rattle.client_serving.specs.Reads.{ends_reading}
use Rattle.client_serving.specs.Sends.{Done, before_want, deltas, gaves, gives, wants}
use Rattle.coop_cache.specs.declared.input.In.TheVariants as cache_in
use Rattle.coop_cache.specs.declared.output.Out as cache_out
use Rattle.coop_cache.specs.declared.output.Out.TheVariants.{Victim}
use Rattle.coop_cache.specs.Transition.{cache_clean, cache_leave}
use Rattle.delta_feed.specs.declared.input.In.TheVariants as feed_in
use Rattle.delta_feed.specs.Transition.{feed_push, feed_tick}
use Rattle.log_owner.specs.Opening.{stored}
use Rattle.log_owner.specs.Sealing.{is_settling}
use Rattle.log_owner.specs.Sending.{name_of, push_all, range, sending_push}
use Rattle.node_base.specs.declared.effects.Effect.{Effect}
use Rattle.node_base.specs.declared.effects.Effect.TheVariants.{Does}
use Rattle.token_client.specs.declared.held.Giving.{Giving}
use Rattle.token_client.specs.declared.input.In.{In}
use Rattle.token_client.specs.declared.input.In.TheVariants as input
use Rattle.token_client.specs.declared.output.Out.{Out}
use Rattle.token_client.specs.declared.output.Out.TheVariants as output
use Rattle.token_client.specs.Held.{is_dirty}
use Rattle.token_client.specs.Settling.{is_giving}
use Rattle.token_client.specs.State.{dirty_in, held_of}
use Rattle.token_client.specs.Transition.{transition}
use Rattle.version_model.specs.declared.act.Act.TheVariants.{Filed}
use Rattle.xfs_base.proofs.Alls.{all_append, all_flat_map, all_map}
use Rattle.xfs_base.proofs.Booleans.{by_test}
use Rattle.xfs_base.specs.declared.block.BlockId.{BlockId}
use Rattle.xfs_base.specs.declared.entry.Entry.{Entry}
use Rattle.xfs_base.specs.declared.segment.End.{End}
use Rattle.xfs_base.specs.declared.token.Mode.{Mode}
use Rattle.xfs_base.specs.declared.token.Mode.TheVariants.{Copy}
use Rattle.xfs_base.specs.declared.token.Stamp.{Stamp}
use Rattle.xfs_base.specs.Modes.{is_held, is_nothing, same_mode}
use Rattle.xfs_base.specs.Steps.{steps, still}
use Rattle.client_moves.proofs.Tokens.{reads_none}
use Rattle.client_moves.proofs.Uncalled.{NoAct, Uncalled}
use Rattle.client_moves.proofs.Uncalled.Uncalled.{CacheTakes, EndsReading, FeedTakes, LogTakes, Rests, Says, Then, TokensTake}
use Rattle.client_moves.specs.Moves.{Said}
use Rattle.client_moves.specs.Tokens.{NoRead, NotGranted}
use Rattle.client_moves.specs.Moves.Said.{Files, GivesUp, Pushes, Stores, Wants}

-- what is done is a list of moves, and so is what is made without a word
abbrev pub MovesTo : Serving → Done → Type 0
MovesTo s d = Uncalled s d.state d.outs

abbrev pub MovesStill : Serving → Serving → Type 0
MovesStill s t = Uncalled s t []

-- it is said, and by no call on blocks
abbrev pub SaidSo : Serving → Effect → Type 0
SaidSo s e = (said : Said s e) × NoAct said

-- ---- one after another

pub says_all : (s : Serving) (outs : List Effect) → AllByRecursion (SaidSo s) outs → Uncalled s s outs
says_all s [] all = Rests s
says_all s (e ∷ outs) all = Then (Says s e all.0.0 all.0.1) (says_all s outs all.1)

pub each_moves : {A : Type 0} (f : Serving → A → Done) → ((s : Serving) (x : A) → MovesTo s (f s x)) → (s : Serving) (xs : List A) → MovesTo s (steps f s xs)
each_moves f one s [] = Rests s
each_moves f one s (x ∷ xs) = Then (one s x) (each_moves f one (f s x).state xs)

folded : {A : Type 0} (f : Serving → A → Serving) → ((s : Serving) (x : A) → MovesStill s (f s x)) → (s : Serving) (xs : List A) → MovesStill s (fold f s xs)
folded f one s [] = Rests s
folded f one s (x ∷ xs) = Then (one s x) (folded f one (f s x) xs)

-- then something is made without a word
left_at : (s : Serving) (d : Done) (t : Serving) → MovesTo s d → MovesStill d.state t → MovesTo s (gives t d.outs)
left_at s d t m more = subst (λ (outs : List Effect). Uncalled s t outs) (append-nil d.outs) (Then m more)

-- ---- the cache

evicts_move : (s : Serving) (o : cache_out.Out) → MovesStill s (evicts s o)
unfolding evicts
evicts_move s (Victim block) = TokensTake s (input.Evict block) tt

note_clean_moves : (s : Serving) (block : BlockId) → MovesStill s (note_clean s block)
unfolding note_clean
note_clean_moves s block =
    Then (CacheTakes s (cache_in.Clean block))
    (folded evicts evicts_move (record s { cache = (cache_clean s.cache block).state }) (cache_clean s.cache block).outs)

note_gone_moves : (s : Serving) (block : BlockId) → MovesStill s (note_gone s block)
unfolding note_gone
note_gone_moves s block =
    by_test (MovesStill s) (is_nothing (held_of s.tokens.blocks block).mode) (record s { cache = cache_leave s.cache block }) s
    (λ _. CacheTakes s (cache_in.Gone block)) (λ _. Rests s)

note_copy_moves : (s : Serving) (block : BlockId) → MovesStill s (note_copy s block)
unfolding note_copy
note_copy_moves s block =
    by_test (MovesStill s) (same_mode (held_of s.tokens.blocks block).mode Copy) (note_clean s block) s (λ _. note_clean_moves s block) (λ _. Rests s)

-- ---- what the tokens say

pushed_said : (s : Serving) (slot : ℕ) → AllByRecursion (SaidSo s) (sending_push s.managers s.feed slot)
pushed_said s slot = all_map (SaidSo s) (range s.managers) (λ x. (Pushes x, tt)) (feed_push s.feed slot)

pub all_pushed_said : (s : Serving) → AllByRecursion (SaidSo s) (push_all s.managers s.feed)
all_pushed_said s = all_map (SaidSo s) (range s.managers) (λ x. (Pushes x, tt)) (feed_tick s.feed)

stored_said : (s : Serving) (o : LogOut) → AllByRecursion (SaidSo s) (stored o)
stored_said s (log_out.Send fragment member) = ((Stores fragment member, tt), tt)
stored_said s (log_out.Settled end rows) = tt

pub seals_move : (s : Serving) → MovesTo s (serving_seal s)
unfolding serving_seal
seals_move s =
    let t : Serving = record s { log = (log.on_seal s.log).state } in
    Then (LogTakes s log_in.Seal) (says_all t (flat_map stored (log.on_seal s.log).outs) (all_flat_map (SaidSo t) stored (stored_said t) (log.on_seal s.log).outs))

wants_said : (s : Serving) (block : BlockId) (req again : ℕ) (mode : Mode) → AllByRecursion (SaidSo s) (wants s block req again mode)
wants_said s block req again mode =
    all_append (SaidSo s) (before_want s block again) _
    (by_test (AllByRecursion (SaidSo s)) (again == 0) (deltas s block) [] (λ _. pushed_said s _) (λ _. tt)) ((Wants block req again mode, tt), tt)

gaves_said : (s : Serving) (block : BlockId) (stamp : Stamp) → AllByRecursion (SaidSo s) (gaves s block stamp)
gaves_said s block stamp = all_append (SaidSo s) (deltas s block) _ (pushed_said s _) ((GivesUp block stamp, tt), tt)

follow_one_moves : (s : Serving) (o : Out) → NoRead o → MovesTo s (follow_one s o)
unfolding follow_one
follow_one_moves s (output.Want block req again mode) none = says_all s (wants s block req again mode) (wants_said s block req again mode)
follow_one_moves s (output.Gave block stamp) none = says_all s (gaves s block stamp) (gaves_said s block stamp)
follow_one_moves s (output.Flush block) none = seals_move s
follow_one_moves s (output.Read block place) none = absurd none
follow_one_moves s (output.Ready block) none = note_copy_moves s block
follow_one_moves s (output.Supply block ver value) none = Rests s

pub follows_move : (s : Serving) (outs : List Out) → AllByRecursion NoRead outs → MovesTo s (serving_follow s outs)
unfolding serving_follow
follows_move s [] none = Rests s
follows_move s (o ∷ outs) none = Then (follow_one_moves s o none.0) (follows_move (follow_one s o).state outs none.1)

pub hands_move : (s : Serving) (i : In) → NotGranted i → MovesTo s (hand s i)
unfolding hand
hands_move s i none =
    let t : Serving = record s { tokens = (transition s.tokens i).state } in
    Then (TokensTake s i none) (Then (EndsReading t) (follows_move (ends_reading t) (transition s.tokens i).outs (reads_none s.tokens i none)))

pub take_back_moves : (s : Serving) (block : BlockId) (stamp : Stamp) (keep : Bool) → MovesTo s (take_back s block stamp keep)
unfolding take_back
take_back_moves s block stamp keep =
    let d : Done = hand s (input.Recalled block stamp keep) in
    left_at s d (note_gone d.state block) (hands_move s (input.Recalled block stamp keep) tt) (note_gone_moves d.state block)

-- ---- its log

notes_settled_move : (s : Serving) (row : BlockId × Entry) → MovesStill s (notes_settled s row)
unfolding notes_settled
notes_settled_move s row = TokensTake s (input.Settled row.0 row.1.ver) tt

keep_row_moves : (s : Serving) (row : BlockId × Entry) → MovesStill s (keep_row s row)
unfolding keep_row
keep_row_moves s row =
    by_test (MovesStill s) (not (is_dirty (held_at s row.0)) && is_held (held_at s row.0).mode) (note_clean s row.0) s (λ _. note_clean_moves s row.0)
    (λ _. Rests s)

gives_up_move : (s : Serving) (block : BlockId) (giving : Option Giving) → MovesTo s (gives_up s block giving)
gives_up_move s block None = Rests s
gives_up_move s block (Some giving) = take_back_moves s block giving.stamp giving.keep

pub give_if_clean_moves : (s : Serving) (block : BlockId) → MovesTo s (give_if_clean s block)
unfolding give_if_clean
give_if_clean_moves s block =
    by_test (MovesTo s) (is_dirty (held_at s block)) (still s) (gives_up s block (held_at s block).giving) (λ _. Rests s)
    (λ _. gives_up_move s block (held_at s block).giving)

pub rows_settle : (s : Serving) (rows : List (BlockId × Entry)) → MovesStill s (settle_rows s rows)
rows_settle s rows = Then (folded notes_settled notes_settled_move s rows) (folded keep_row keep_row_moves (fold notes_settled s rows) rows)

pub settles_move : (s : Serving) (end : End) (rows : List (BlockId × Entry)) → MovesTo s (serving_settle s end rows)
unfolding serving_settle
settles_move s end rows =
    let t : Serving = settle_rows s rows in
    let fed : Serving = feeds t end rows in
    Then (rows_settle s rows)
    (Then (FeedTakes t (feed_in.Settled end.seq rows))
    (Then (says_all fed (Does (Filed (name_of (log_of s.lasting) end)) ∷ push_all fed.managers fed.feed)
    ((Files (name_of (log_of s.lasting) end), tt), all_pushed_said fed))
    (each_moves give_if_clean give_if_clean_moves fed (dirty_in s.tokens.blocks))))

write_one_moves : (s : Serving) (o : LogOut) → MovesTo s (write_one s o)
unfolding write_one
write_one_moves s (log_out.Send fragment member) = Says s _ (Stores fragment member) tt
write_one_moves s (log_out.Settled end rows) = settles_move s end rows

seals_again_moves : (s : Serving) (settling : Bool) → MovesTo s (seals_again s settling)
seals_again_moves s settling =
    by_test (MovesTo s) (settling && is_giving s.tokens) (serving_seal s) (still s) (λ _. seals_move s) (λ _. Rests s)

pub writes_move : (s : Serving) (i : LogIn) → MovesTo s (serving_write s i)
unfolding serving_write
writes_move s i =
    let r : log.Done = log.transition s.log i in
    let t : Serving = record s { log = r.state } in
    Then (LogTakes s i)
    (Then (each_moves write_one write_one_moves t r.outs) (seals_again_moves (steps write_one t r.outs).state (list_any is_settling r.outs)))

-- ---- a block is written, or let go

pub wrote_moves : (s : Serving) (block : BlockId) (value : Option (List ℕ)) → MovesTo s (put_of (wrote s block value) block value)
wrote_moves s block value =
    let w : Serving = wrote s block value in
    let t : Serving = record s { tokens = (transition s.tokens (input.Wrote block value)).state } in
    let i : LogIn = log_in.Put block (record { ver = (held_at w block).ver; hop = 0; place = None }) value in
    Then (TokensTake s (input.Wrote block value) tt) (Then (CacheTakes t (cache_in.Dirty block)) (writes_move w i))

pub let_go_moves : (s : Serving) (block : BlockId) → MovesStill s (blocks_let_go s block)
let_go_moves s block =
    let t : Serving = record s { tokens = (transition s.tokens (input.Evict block)).state } in
    by_test (MovesStill s) (is_none (held_at s block).value) (note_gone t block) s
    (λ _. Then (TokensTake s (input.Evict block) tt) (note_gone_moves t block)) (λ _. Rests s)
