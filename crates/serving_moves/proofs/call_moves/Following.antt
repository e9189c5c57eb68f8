-- What a client that serves does, but for its open call, is a list of moves here where it is one of moves of its machines.
use Rattle.std.proofs.Common.{◌≡◌, List, [], ◌∷◌, Option, Some, None, refl, sym, ap}
use Rattle.client_call.specs.declared.call.Call.{Call}
use Rattle.client_call.specs.declared.call.Plan.{Plan}
use Rattle.client_call.specs.Reads.{fetches, kept_while, reading_in, set_reading}
use Rattle.client_moves.proofs.Following.{seals_move}
use Rattle.client_moves.proofs.Uncalled.{NoAct, Uncalled}
use Rattle.client_moves.proofs.Uncalled.Uncalled.{CacheTakes, EndsReading, FeedTakes, LogTakes, Promises, Rests, Says, Then, TokensTake}
use Rattle.client_moves.specs.Moves.{Reads, Said}
use Rattle.client_moves.specs.Moves.Reads.{Begins, Confirms, NoCall, Unknown}
use Rattle.client_moves.specs.Moves.Said.{Files, GivesUp, HasRead, HasSynced, HasWritten, Pushes, Reports, Stores, Supplies, Wants}
use Rattle.client_serving.specs.declared.serving.Serving.{Serving}
use Rattle.client_serving.specs.Follow.{serving_seal}
use Rattle.client_serving.specs.Reads.{ask_after, confirmed_by, drawn_after, draws, ends_reading, go_on_reading, lose_at, serving_confirm, with_reading}
use Rattle.client_serving.specs.Sends.{gives}
use Rattle.file_plan.specs.declared.block_call.BlockCall.{BlockCall}
use Rattle.log_owner.specs.Sending.{fetch}
use Rattle.node_base.specs.Asking.{next_ask}
use Rattle.node_base.specs.declared.effects.Effect.{Effect}
use Rattle.segment_reading.specs.declared.reading.Next.{Next}
use Rattle.segment_reading.specs.declared.reading.Next.TheVariants as next
use Rattle.segment_reading.specs.declared.reading.Stage.{Stage}
use Rattle.segment_reading.specs.declared.reading.Stage.TheVariants.{Between}
use Rattle.segment_reading.specs.declared.target.BlockAt.{BlockAt}
use Rattle.segment_reading.specs.declared.target.Target.{Target}
use Rattle.segment_reading.specs.Reading.{ReadingState, on_confirmed, reading_start, reading_unanswered}
use Rattle.xfs_base.proofs.Alls.{all_map}
use Rattle.xfs_base.specs.declared.segment.SegName.{SegName}
use Rattle.serving_moves.proofs.call_moves.Keeping.{from_goes, itself, lost, plainly, range_still, same_call, same_kept, same_lasts, stays, then_goes, then_kept}
use Rattle.serving_moves.specs.call_moves.Moves.{AllStill, CallLasts, CallStays, HasCall, IsStill, Kept, Moves}

-- ---- the reading of the open call

call_reads : (call : Option Call) (r : Option ReadingState) → CallStays call (set_reading call r)
call_reads None r = same_call None
call_reads (Some old) r = λ call fact. (old, (refl, (sym (ap plan_of fact), sym (ap step_of fact))))
  where
    plan_of : Option Call → Plan
    plan_of None = old.plan
    plan_of (Some call) = call.plan

    step_of : Option Call → BlockCall
    step_of None = old.step
    step_of (Some call) = call.step

call_reads_on : (call : Option Call) (r : Option ReadingState) → CallLasts call (set_reading call r)
call_reads_on None r call fact = (call, fact)
call_reads_on (Some old) r call fact = (record old { reading = r }, refl)

pub reading_kept : (s : Serving) (r : Option ReadingState) → Kept s (with_reading s r)
reading_kept s r = record { calls = call_reads s.call r; lasts = call_reads_on s.call r; number = refl; items = refl }

pub ends_kept : (s : Serving) → Kept s (ends_reading s)
ends_kept s = reading_kept s (kept_while s.tokens (reading_in s.call))

-- ---- its machines

said_still : (s : Serving) (e : Effect) (said : Said s e) → NoAct said → IsStill e
said_still s e (Stores f m) none = tt
said_still s e (Pushes x) none = range_still s.managers x
said_still s e (Wants block req again mode) none = tt
said_still s e (GivesUp block stamp) none = tt
said_still s e (Reports slot epoch) none = tt
said_still s e (Supplies to m) none = tt
said_still s e (Files name) none = tt
said_still s e (HasRead block ver value) none = absurd none
said_still s e (HasWritten block value) none = absurd none
said_still s e HasSynced none = absurd none

uncalled_go : (s t : Serving) (o : List Effect) → Uncalled s t o → Moves s (gives t o)
uncalled_go s t o (Rests u) = stays u u (itself u)
uncalled_go s t o (Then {t = v} {o = first} {m = more} a b) =
    then_goes s (gives v first) (gives t more) (uncalled_go s v first a) (uncalled_go v t more b)
uncalled_go s t o (TokensTake u i none) = stays s t (same_kept s t refl refl)
uncalled_go s t o (LogTakes u i) = stays s t (same_kept s t refl refl)
uncalled_go s t o (FeedTakes u i) = stays s t (same_kept s t refl refl)
uncalled_go s t o (CacheTakes u i) = stays s t (same_kept s t refl refl)
uncalled_go s t o (Promises u slot manager) = stays s t (same_kept s t refl refl)
uncalled_go s t o (EndsReading u) = stays s t (ends_kept s)
uncalled_go s t o (Says u e said none) = plainly s (gives s (e ∷ [])) (itself s) (said_still s e said none, tt)

pub moved : {s t : Serving} {o : List Effect} → Uncalled s t o → Moves s (gives t o)
moved {s} {t} {o} moves = uncalled_go s t o moves

pub seals_go : (s : Serving) → Moves s (serving_seal s)
seals_go s = moved (seals_move s)

-- ---- a place that is to be read

pub fetches_plain : (r : ReadingState) → AllStill (fetches r)
fetches_plain r = all_map IsStill (fetch r.target.seg.name r.ask) (λ member. tt) (reading_unanswered r)

lose_at_go : (s : Serving) → HasCall s → (at : Option BlockAt) (name : SegName) → Moves s (lose_at s at name)
lose_at_go s has None name = stays s s (itself s)
lose_at_go s has (Some at) name = lost s has at.block name

next_goes : (s : Serving) → HasCall s → (r : ReadingState) (x : Next) → Moves s (go_on_reading s r x)
next_goes s has r next.Lost = lose_at_go s has r.target.block r.target.seg.name
next_goes s has r next.Ask = plainly s (gives (with_reading s (Some r)) (fetches r)) (reading_kept s (Some r)) (fetches_plain r)
next_goes s has r _ = stays s (with_reading s (Some r)) (reading_kept s (Some r))

drawn_kept : (s : Serving) (stage : Stage) → Kept s (drawn_after s stage)
drawn_kept s Between = record { calls = same_call _; lasts = same_lasts _; number = refl; items = refl }
drawn_kept s _ = itself s

drawn_has : (s : Serving) (stage : Stage) → HasCall s → HasCall (drawn_after s stage)
drawn_has s Between has = has
drawn_has s _ has = has

confirms_go : (s : Serving) → HasCall s → (r : ReadingState) → Moves s (serving_confirm s r)
unfolding serving_confirm
confirms_go s has r =
    let t : Serving = drawn_after s r.stage in
    let step = on_confirmed r (ask_after s r.ask r.stage) in
    from_goes s t (confirmed_by t step) (drawn_kept s r.stage) (next_goes t (drawn_has s r.stage has) step.state step.next)

-- a call that reads is open whatever it reads
has_read : (call : Option Call) (r : ReadingState) → reading_in call ≡ Some r → (new : Call) × (set_reading call None ≡ Some new)
has_read None r reads = absurd cc
has_read (Some call) r reads = (record call { reading = None }, refl)

pub reads_go : (s : Serving) (target : Target) (t : Serving) (o : List Effect) → Reads s target t o → Moves s (gives t o)
reads_go s target t o (NoCall none) = stays s s (itself s)
reads_go s target t o Unknown = stays s t (reading_kept s None)
reads_go s target t o (Begins group known) =
    let u : Serving = with_reading s None in
    let r : ReadingState = reading_start target group (next_ask s.lasting.questions) in
    plainly s (gives (with_reading (draws u) (Some r)) (fetches r))
    (then_kept s u (with_reading (draws u) (Some r)) (reading_kept s None)
    (record { calls = call_reads u.call (Some r); lasts = call_reads_on u.call (Some r); number = refl; items = refl })) (fetches_plain r)
reads_go s target t o (Confirms r read same) =
    from_goes s (with_reading s None) (serving_confirm (with_reading s None) r) (reading_kept s None)
    (confirms_go (with_reading s None) (has_read s.call r read) r)
