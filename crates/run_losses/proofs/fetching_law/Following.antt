-- What a client that serves does beside its reading: by its moves what it reads stays or is over, no fetch is sent, and nothing is said to be lost.
use Rattle.std.proofs.Common.{◌≡◌, ◌⊎◌, ℕ, true, false, List, [], ◌∷◌, ◌++◌, Option, Some, None, is_none, refl, sym, ap, ◌∙◌, inl, inr}
use Rattle.std.specs.List.{AllByRecursion}
use Rattle.xfs_base.proofs.Booleans.{by_test, contrary}
use Rattle.client_call.specs.Calls.{plan_answered}
use Rattle.client_call.specs.declared.call.Call.{Call}
use Rattle.client_call.specs.declared.call.Going.TheVariants.{On, Ends}
use Rattle.client_call.specs.declared.call.Going.{Going}
use Rattle.client_call.specs.Reads.{is_fetched, kept_while, reading_in, set_reading}
use Rattle.client_moves.specs.Moves.{Moves, Said}
use Rattle.client_moves.specs.Moves.Moves.{Answered, CacheTakes, EndsReading, FeedTakes, LogTakes, Promises, Rests, Says, Then, TokensTake, Waits}
use Rattle.client_moves.specs.Moves.Said.{Files, GivesUp, HasRead, HasSynced, HasWritten, Pushes, Reports, Stores, Supplies, Wants}
use Rattle.client_running.specs.Running.{running_go_on}
use Rattle.client_serving.specs.declared.serving.Serving.{Serving}
use Rattle.delta_feed.specs.declared.output.Out.TheVariants.{Range}
use Rattle.node_base.specs.Beginning.{answers_unanswered}
use Rattle.node_base.specs.declared.effects.Effect.{Effect}
use Rattle.node_base.specs.declared.effects.Effect.TheVariants.{Send, Answer, Lose, Does}
use Rattle.node_logs.proofs.node_log_tie.Lists.{answers_send}
use Rattle.run_laws.proofs.place_law.AimsReads.{GoingNew, next_new}
use Rattle.segment_reading.specs.Reading.{ReadingState}
use Rattle.token_client.specs.State.{TokensState}
use Rattle.version_model.specs.declared.act.Act.{Act}
use Rattle.version_model.specs.declared.act.Act.TheVariants as act
use Rattle.version_model.specs.declared.answer.Answer.{Answer as Told}
use Rattle.wire_msg.specs.declared.body.Body.{Body}
use Rattle.wire_msg.specs.declared.body.Body.TheVariants as body
use Rattle.xfs_base.proofs.Alls.{all_append}
use Rattle.run_losses.proofs.fetching_law.Wants.{Lasts, same_wants, takes_on}

-- ---- what is said

abbrev pub NoFetch : Body → Type 0
NoFetch (body.Fetch m) = ⊥
NoFetch _ = Unit {0}

-- an act that says nothing of losses
abbrev pub NotLost : Act → Type 0
NotLost (act.Lost node seg) = ⊥
NotLost _ = Unit {0}

-- no fetch, and nothing of losses
abbrev pub IsQuiet : Effect → Type 0
IsQuiet (Send to said) = NoFetch said
IsQuiet (Answer item a) = Unit {0}
IsQuiet (Lose seg) = ⊥
IsQuiet (Does act) = NotLost act

abbrev pub AllQuiet : List Effect → Type 0
AllQuiet outs = AllByRecursion IsQuiet outs

said_quiet : (s : Serving) (e : Effect) → Said s e → IsQuiet e
said_quiet s e (Stores f m) = tt
said_quiet s e (Pushes (Range slot first upto rows)) = tt
said_quiet s e (Wants block req again mode) = tt
said_quiet s e (GivesUp block stamp) = tt
said_quiet s e (Reports slot epoch) = tt
said_quiet s e (Supplies to m) = tt
said_quiet s e (Files name) = tt
said_quiet s e (HasRead block ver value) = tt
said_quiet s e (HasWritten block value) = tt
said_quiet s e HasSynced = tt

pub answered_quiet : (item : Option ℕ) (a : Told) → AllQuiet (answers_unanswered item a)
answered_quiet item a = answers_send IsQuiet (λ number said. tt) item a

-- ---- the reading

-- what is read is what was, or nothing
abbrev pub Less : Option ReadingState → Option ReadingState → Type 0
Less before now = (now ≡ before) ⊎ (now ≡ None)

less_then : (a b c : Option ReadingState) → Less a b → Less b c → Less a c
less_then a b c x (inr none) = inr none
less_then a b c (inl same) (inl fact) = inl (fact ∙ same)
less_then a b c (inr none) (inl fact) = inr (fact ∙ none)

pub same_call : (call : Option Call) (r : Option ReadingState) → is_none (set_reading call r) ≡ is_none call
same_call None r = refl
same_call (Some call) r = refl

pub kept_less : (tokens : TokensState) (r : Option ReadingState) → Less r (kept_while tokens r)
kept_less tokens None = inr refl
kept_less tokens (Some r) = by_test (Less (Some r)) (is_fetched tokens r.target.block) (Some r) None (λ _. inl refl) (λ _. inr refl)

pub call_less : (call : Option Call) (r : Option ReadingState) → Less (reading_in call) r → Less (reading_in call) (reading_in (set_reading call r))
call_less None r less = inr refl
call_less (Some call) r less = less

-- ---- the call

-- one is open where one was, its item stays, and what it reads stays or is over
pub record Lasting (s t : Serving) : Type 0 where
  pub call : is_none t.call ≡ is_none s.call
  pub items : t.lasting.items ≡ s.lasting.items
  pub reading : Less (reading_in s.call) (reading_in t.call)

-- or the one that was open is answered
pub record Over (s t : Serving) : Type 0 where
  pub was : is_none s.call ≡ false
  pub over : t.call ≡ None

-- no question is drawn, and the maps stay
pub record Follows (s t : Serving) (outs : List Effect) : Type 0 where
  pub questions : t.lasting.questions ≡ s.lasting.questions
  pub maps : t.maps ≡ s.maps
  pub wants : Lasts s.tokens t.tokens
  pub call : Lasting s t ⊎ Over s t
  pub quiet : AllQuiet outs

none_of : (call : Option Call) → is_none call ≡ true → call ≡ None
none_of None h = refl
none_of (Some call) h = contrary h

call_then : (s t u : Serving) → Lasting s t ⊎ Over s t → Lasting t u ⊎ Over t u → Lasting s u ⊎ Over s u
call_then s t u (inl a) (inl b) =
    inl (record {
      call = b.call ∙ a.call;
      items = b.items ∙ a.items;
      reading = less_then (reading_in s.call) (reading_in t.call) (reading_in u.call) a.reading b.reading;
    })
call_then s t u (inl a) (inr b) = inr (record { was = sym a.call ∙ b.was; over = b.over })
call_then s t u (inr a) (inl b) = inr (record { was = a.was; over = none_of u.call (b.call ∙ ap is_none a.over) })
call_then s t u (inr a) (inr b) = inr (record { was = a.was; over = b.over })

then_follows : (s t u : Serving) (o m : List Effect) → Follows s t o → Follows t u m → Follows s u (o ++ m)
then_follows s t u o m a b = record {
  questions = b.questions ∙ a.questions;
  maps = b.maps ∙ a.maps;
  wants = λ k inc highest epoch l. b.wants k inc highest epoch (a.wants k inc highest epoch l);
  call = call_then s t u a.call b.call;
  quiet = all_append IsQuiet o m a.quiet b.quiet;
}

-- its call stays
beside : (s t : Serving) (outs : List Effect) → t.lasting ≡ s.lasting → t.maps ≡ s.maps → t.call ≡ s.call → Lasts s.tokens t.tokens → AllQuiet outs
    → Follows s t outs
beside s t outs lasting maps call wants quiet = record {
  questions = λ i. (lasting i).questions;
  maps = maps;
  wants = wants;
  call = inl (record { call = ap is_none call; items = λ i. (lasting i).items; reading = inl (ap reading_in call) });
  quiet = quiet;
}

-- ---- its call on blocks was made

module _ (s t : Serving) (call : Call) (at : s.call ≡ Some call) (o : List Effect) (f : Follows (record s { call = None }) t o) where
  put_by : Lasting (record s { call = None }) t
  put_by = by f.call
    where
      by : Lasting (record s { call = None }) t ⊎ Over (record s { call = None }) t → Lasting (record s { call = None }) t
      by (inl a) = a
      by (inr b) = contrary (sym b.was)

  waits : Follows s (record t { call = Some call }) o
  waits = record {
    questions = f.questions;
    maps = f.maps;
    wants = f.wants;
    call = inl (record { call = sym (ap is_none at); items = put_by.items; reading = inl (sym (ap reading_in at)) });
    quiet = f.quiet;
  }

  goes_on : (going : Going) → GoingNew going → Follows s (running_go_on t going).state (o ++ (running_go_on t going).outs)
  unfolding running_go_on
  goes_on (On next) new = record {
    questions = f.questions;
    maps = f.maps;
    wants = f.wants;
    call = inl (record { call = sym (ap is_none at); items = put_by.items; reading = inr new });
    quiet = all_append IsQuiet o [] f.quiet tt;
  }
  goes_on (Ends a) new = record {
    questions = f.questions;
    maps = f.maps;
    wants = f.wants;
    call = inr (record { was = ap is_none at; over = none_of t.call put_by.call });
    quiet = all_append IsQuiet o (answers_unanswered t.lasting.items.unanswered a) f.quiet (answered_quiet t.lasting.items.unanswered a);
  }

-- ---- all moves

pub moves_follow : (s t : Serving) (o : List Effect) → Moves s t o → Follows s t o
moves_follow s t o (Rests u) = beside s s [] refl refl refl (same_wants s.tokens) tt
moves_follow s t o (Then {t = v} {o = first} {m = more} a b) = then_follows s v t first more (moves_follow s v first a) (moves_follow v t more b)
moves_follow s t o (TokensTake u i none) = beside s t [] refl refl refl (takes_on s.tokens i none) tt
moves_follow s t o (LogTakes u i) = beside s t [] refl refl refl (same_wants s.tokens) tt
moves_follow s t o (FeedTakes u i) = beside s t [] refl refl refl (same_wants s.tokens) tt
moves_follow s t o (CacheTakes u i) = beside s t [] refl refl refl (same_wants s.tokens) tt
moves_follow s t o (Promises u slot manager) = beside s t [] refl refl refl (same_wants s.tokens) tt
moves_follow s t o (EndsReading u) = record {
  questions = refl;
  maps = refl;
  wants = same_wants s.tokens;
  call = inl (record {
    call = same_call s.call (kept_while s.tokens (reading_in s.call));
    items = refl;
    reading = call_less s.call (kept_while s.tokens (reading_in s.call)) (kept_less s.tokens (reading_in s.call));
  });
  quiet = tt;
}
moves_follow s t o (Says u e said) = beside s s (e ∷ []) refl refl refl (same_wants s.tokens) (said_quiet s e said, tt)
moves_follow s t o (Waits {t = v} {o = made} u call at m) = waits s v call at made (moves_follow (record s { call = None }) v made m)
moves_follow s t o (Answered {t = v} {o = made} u call a at m) =
    goes_on s v call at made (moves_follow (record s { call = None }) v made m) (plan_answered call.plan a) (next_new call.plan a)
